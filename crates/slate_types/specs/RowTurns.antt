-- Rows in turn.
--     key_order order a b      the order of keys, upwards or downwards
--     row_cmp order r s, row_before order r s      by key in the order, then by falling sequence
--     NoneEarlier before x xs      no element stands before x
--     AreInTurn before xs      no element stands before an earlier one
use Rattle.std.specs.Prelude.{ℕ, ◌≡◌, Bool, false, List, [], ◌∷◌}
use Rattle.std.specs.declared.cmp.Ordering.{Ordering}
use Rattle.std.specs.Ordering.{is_lt, nat_cmp, on, flip_args, then_cmp}
use Rattle.slate_types.specs.declared.types.RowEntry.{RowEntry}
use Rattle.slate_types.specs.declared.iter.IterationOrder.{IterationOrder}
use Rattle.slate_types.specs.declared.iter.IterationOrder.TheVariants.{Ascending, Descending}
use Rattle.slate_types.specs.Keys.{key_cmp}

abbrev pub key_order : IterationOrder → List ℕ → List ℕ → Ordering
key_order Ascending a b = key_cmp a b
key_order Descending a b = key_cmp b a

abbrev pub row_cmp : IterationOrder → RowEntry → RowEntry → Ordering
row_cmp order = then_cmp (on (λ r. r.key) (key_order order)) (flip_args (on (λ r. r.seq) nat_cmp))

abbrev pub row_before : IterationOrder → RowEntry → RowEntry → Bool
row_before order r s = is_lt (row_cmp order r s)

module _ {X : Type 0} (before : X → X → Bool) where
  abbrev pub NoneEarlier : X → List X → Type 0
  NoneEarlier x [] = Unit {0}
  NoneEarlier x (z ∷ zs) = (before z x ≡ false) × NoneEarlier x zs

  abbrev pub AreInTurn : List X → Type 0
  AreInTurn [] = Unit {0}
  AreInTurn (x ∷ xs) = NoneEarlier x xs × AreInTurn xs
