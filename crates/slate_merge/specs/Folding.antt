-- Rows of which operands are folded onto what stands below them.
--     is_within barrier seq      the sequence isn't above the barrier, where there is one
--     is_open barrier r      the row is an operand that isn't above the barrier
--     follows different r s      the row s may be folded into r: it has its key, and its expiry where these may not differ
--     links different barrier r s      it is folded into r where it stands next behind it
--     rises different barrier r s      the same, and s has a greater sequence: no source in turn brings it next behind r
--     NoneRises different barrier rows      of no rows one behind the other the second rises so
--     FoldFalls different barrier rows      nor of those that are folded at first
--     cut links xs      the list in groups: a cut stands wherever neighbours aren't linked
--     put_front links x groups      an element before groups: in the first one, where it is linked with the element that begins that, else by itself
--     fold_group c rows      the fold of a group, newest row first
--     folded c different barrier rows      the folds of the groups
--     AreLinked links xs x      elements, and one behind them, of which neighbours are linked
--     begins_linked links x xs      the first element is linked with x
--     AreOperands rows      each row is an operand
use Rattle.std.specs.Prelude.{ℕ, ◌≡◌, ◌&&◌, ◌||◌, nat_le, nat_lt, Bool, true, false, if◌then◌else◌, List, [], ◌∷◌, reverse, Option, Some, None, bytes_eq, filter_map}
use Rattle.std.specs.List.{AllByRecursion}
use Rattle.slate_types.specs.declared.types.RowEntry.{RowEntry}
use Rattle.slate_types.specs.Equality.{same_stamp}
use Rattle.slate_types.specs.Fold.{Combine, fold_rows}
use Rattle.slate_types.specs.Rows.{is_operand}

abbrev pub is_within : Option ℕ → ℕ → Bool
is_within None seq = true
is_within (Some barrier) seq = nat_le seq barrier

abbrev pub is_open : Option ℕ → RowEntry → Bool
is_open barrier r = is_operand r && is_within barrier r.seq

abbrev pub follows : Bool → RowEntry → RowEntry → Bool
follows different r s = bytes_eq r.key s.key && (different || same_stamp r.expire_ts s.expire_ts)

abbrev pub links : Bool → Option ℕ → RowEntry → RowEntry → Bool
links different barrier r s = is_open barrier r && follows different r s

abbrev pub rises : Bool → Option ℕ → RowEntry → RowEntry → Bool
rises different barrier r s = links different barrier r s && nat_lt r.seq s.seq

module _ {X : Type 0} (links : X → X → Bool) where
  -- an element in front of groups: in the first group where it is linked with its first element, else by itself
  abbrev pub put_front : X → List (List X) → List (List X)
  put_front x [] = (x ∷ []) ∷ []
  put_front x ([] ∷ groups) = (x ∷ []) ∷ groups
  put_front x ((y ∷ ys) ∷ groups) = if links x y then (x ∷ y ∷ ys) ∷ groups else (x ∷ []) ∷ (y ∷ ys) ∷ groups

  abbrev pub cut : List X → List (List X)
  cut [] = []
  cut (x ∷ xs) = put_front x (cut xs)

  abbrev pub begins_linked : X → List X → Bool
  begins_linked x [] = false
  begins_linked x (y ∷ ys) = links x y

  abbrev pub AreLinked : List X → X → Type 0
  AreLinked [] x = Unit {0}
  AreLinked (y ∷ []) x = links y x ≡ true
  AreLinked (y ∷ z ∷ zs) x = (links y z ≡ true) × AreLinked (z ∷ zs) x

abbrev pub NoneRises : Bool → Option ℕ → List RowEntry → Type 0
NoneRises different barrier [] = Unit {0}
NoneRises different barrier (r ∷ rows) = (begins_linked (rises different barrier) r rows ≡ false) × NoneRises different barrier rows

abbrev pub FoldFalls : Bool → Option ℕ → List RowEntry → Type 0
FoldFalls different barrier [] = Unit {0}
FoldFalls different barrier (r ∷ rows) =
    (begins_linked (rises different barrier) r rows ≡ false)
    × (begins_linked (links different barrier) r rows ≡ true → FoldFalls different barrier rows)

abbrev pub fold_group : (List ℕ → Combine) → List RowEntry → Option RowEntry
fold_group c [] = None
fold_group c (r ∷ rows) = fold_rows (c r.key) (reverse (r ∷ rows))

abbrev pub folded : (List ℕ → Combine) → Bool → Option ℕ → List RowEntry → List RowEntry
folded c different barrier rows = filter_map (fold_group c) (cut (links different barrier) rows)

abbrev pub AreOperands : List RowEntry → Type 0
AreOperands rows = AllByRecursion (λ r. is_operand r ≡ true) rows
