-- A walk whose rows are all read refuses nothing.
--     none_refused it e      what is left of it is no refusal, so no row of it is
use Rattle.std.proofs.Common.{◌≡◌, ℕ, zero, suc, List, [], ◌∷◌, Option, Some, Result, Ok, Err, subst}
use Rattle.std.specs.Prelude.{slice_get}
use Rattle.slate_types.specs.declared.error.SlateDBError.{SlateDBError}
use Rattle.slate_types.specs.declared.types.RowEntry.{RowEntry}
use Rattle.slate_types.specs.declared.iter.IterationOrder.{IterationOrder}
use Rattle.slate_block.specs.BlockWalks.{left, IsRising, ReadsLeft, Refuses}
use Rattle.slate_block.specs.Walks.{RowRead, all_ok, before}

abbrev IsFine : {A : Type 0} → Result A SlateDBError → Type 0
IsFine (Ok x) = Unit {0}
IsFine (Err e) = ⊥

abbrev IsOkRead : Option RowRead → Type 0
IsOkRead (Some (Err e)) = ⊥
IsOkRead _ = Unit {0}

rising_fine : (order : IterationOrder) (rows : Result (List RowEntry) SlateDBError) → IsRising order rows → IsFine rows
rising_fine order (Ok rows) h = tt
rising_fine order (Err e) h = absurd h

behind_fine : (row : RowEntry) (rows : Result (List RowEntry) SlateDBError) → IsFine (before row rows) → IsFine rows
behind_fine row (Ok rows) h = tt
behind_fine row (Err e) h = h

none_at : (reads : List RowRead) (i : ℕ) (e : SlateDBError) → IsFine (all_ok reads) → slice_get reads i ≡ Some (Err e) → ⊥
none_at [] i e h at = subst IsOkRead at tt
none_at (Ok row ∷ reads) zero e h at = subst IsOkRead at tt
none_at (Ok row ∷ reads) (suc i) e h at = none_at reads i e (behind_fine row (all_ok reads) h) at
none_at (Err d ∷ reads) i e h at = absurd h

pub none_refused : (it : ReadsLeft) (e : SlateDBError) → IsRising it.order (left it) → Refuses it.reads e → ⊥
none_refused it e h r = none_at it.reads r.1.0 e (rising_fine it.order (left it) h) r.1.1
