-- The state of one key.
use Rattle.std.proofs.Common.{◌≡◌, ℕ, Bool, true, false, List, [], ◌∷◌, Option, Some, None, bytes_eq, refl, sym, ap, ◌∙◌}
use Rattle.std.specs.Prelude.{Result, Ok, Err, IfErr, IfOk, OnOk, if◌then◌else◌}
use Rattle.std.specs.declared.ops.Bound.TheVariants.{Included}
use Rattle.std.proofs.lemmas.Slice.Eq.{bytes_eq-Decides}
use Rattle.slate_types.specs.declared.error.SlateDBError.{SlateDBError}
use Rattle.slate_types.specs.declared.iter.IterationOrder.TheVariants.{Ascending}
use Rattle.slate_types.specs.declared.types.RowEntry.{RowEntry}
use Rattle.slate_types.specs.Fold.{Combine}
use Rattle.slate_types.specs.Keys.{in_range, is_refused, key_lt}
use Rattle.slate_types.specs.Iteration.{TakesRow}
use Rattle.slate_types.specs.Outside.{Act, Reach}
use Rattle.slate_types.specs.World.{Checks, IsCall, Made, Sees, World}
use Rattle.slate_types.proofs.Calls.{checks_both}
use Rattle.slate_types.proofs.KeyOrder.{bytes_eq_same, lt_irreflexive}
use Rattle.slate_types.proofs.PointLaws.{point_key}
use Rattle.slate_table.specs.Stored.{stored}
use Rattle.slate_txn.specs.Own.{only_key}
use Rattle.slate_tables.specs.Exported.{IsExport, first_row, row_with_key}

-- ---- the range of one key

pub point_open : (k : List ℕ) → is_refused (only_key k).start (only_key k).«end» ≡ false
point_open k = by (key_lt k k) refl
  where
    by : (b : Bool) → key_lt k k ≡ b → key_lt k k ≡ false
    by true e = lt_irreflexive k e
    by false e = e

in_point : (k j : List ℕ) → in_range (only_key k) j ≡ bytes_eq k j
in_point k j = point_key (only_key k) k j (ap (λ (b : Bool). if b then Some k else None) (bytes_eq_same k))

pub first_is : (c : List ℕ → Combine) (k : List ℕ) (rows out : List RowEntry) → IsExport c Ascending (only_key k) rows out → first_row out ≡ stored (c k) rows k
first_is c k rows [] is = is.each k (in_point k k ∙ bytes_eq_same k)
first_is c k rows (r ∷ out) is =
    let same : k ≡ r.key = (bytes_eq-Decides k r.key).0 (sym (in_point k r.key) ∙ is.within.0) in
    sym (ap (λ (b : Bool). if b then Some r else row_with_key out k) ((bytes_eq-Decides r.key k).1 (sym same))) ∙ is.each k (in_point k k ∙ bytes_eq_same k)

pub taken_first : (rows after : List RowEntry) (row : Option RowEntry) → TakesRow rows row after → row ≡ first_row rows
taken_first rows after None h = sym (ap first_row h.0)
taken_first rows after (Some r) h = sym (ap first_row h)

-- ---- a call behind one that read

pub ok_behind : {A : Type 0} (r : Result A SlateDBError) (P : A → Type 0) (Q : Type 0) → IfOk r (λ _. Q) → (Q → IfOk r P) → IfOk r P
ok_behind (Ok x) P Q h f = f h
ok_behind (Err e) P Q h f = tt

pub err_behind : {A : Type 0} (r : Result A SlateDBError) (P Q : SlateDBError → Type 0) → IfErr r Q → ((e : SlateDBError) → Q e → IfErr r P) → IfErr r P
err_behind (Ok x) P Q h f = tt
err_behind (Err e) P Q h f = f e h

pub checked_behind : {A : Type 0} (r : Result A SlateDBError) (w : World) (a b c : Reach) (s : List Act) → IsCall a b s → IfOk r (λ _. Made b c (λ _. Unit {0})) → Checks w a b → (Sees w a b → OnOk r (Checks w b c)) → OnOk r (Checks w a c)
checked_behind (Ok x) w a b c s f l first later = checks_both w a b c s l.0 f l.1 first later
checked_behind (Err e) w a b c s f l first later = tt
