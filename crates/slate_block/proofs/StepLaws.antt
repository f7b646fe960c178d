-- What an iterator of rows owes of a step and of a seek, of those of a walk over a block.
use Rattle.std.proofs.Common.{◌≡◌, ℕ, ◌≤◌, ◌<◌, List, [], length, Option, Some, Result, Ok, Err, sym, ap, subst, ◌⊎◌, inl, inr, arith}
use Rattle.std.specs.Prelude.{slice_get, IfOk, IfErr, OnOk, OnErr, IsSome}
use Rattle.slate_types.specs.declared.error.SlateDBError.{SlateDBError}
use Rattle.slate_types.specs.declared.error.SlateDBError.TheVariants.{OutOfMemory}
use Rattle.slate_types.specs.declared.types.RowEntry.{RowEntry}
use Rattle.slate_types.specs.declared.iter.IterationOrder.{IterationOrder}
use Rattle.slate_types.specs.Iteration.{drop_before, TakesRow}
use Rattle.slate_types.specs.Outside.{IsCounted, IsFault, Reach}
use Rattle.slate_types.specs.Refusing.{NoMore, NoMoreBut}
use Rattle.slate_types.specs.World.{Checks, Made, World}
use Rattle.slate_types.proofs.Calls.{call_none, checks_none}
use Rattle.slate_block.specs.Walks.{RowRead}
use Rattle.slate_block.specs.BlockWalks.{left, rows_of, IsBlockDamage, IsPast, IsRising, ReadsLeft, Refuses, TakesRead}
use Rattle.slate_block.proofs.SeekLaws.{step_rows, step_rising, step_fewer, step_smaller, step_no_larger, sought_rising, past_fewer, past_no_larger, first_refuses}

-- ---- refusals

blamed : (a b : Reach) (reads : List RowRead) (e : SlateDBError) → (e ≡ OutOfMemory) ⊎ Refuses reads e → IsFault a b e ⊎ Refuses reads e
blamed a b reads e (inl h) = inl (subst (IsCounted a.faults b.faults) (sym h) tt)
blamed a b reads e (inr h) = inr h

no_more_here : (before after : ReadsLeft) (refusal : SlateDBError) → after ≡ before → NoMoreBut refusal (λ reads at e. Refuses before.reads e) [] (λ reads at e. Refuses after.reads e)
no_more_here before after refusal u = λ later at e h. inl (subst (λ (w : ReadsLeft). Refuses w.reads e) u h)

-- S: it stands where it stood; P: what the call is refused for
pub seek_cause : {A : Type 0} (r : Result A SlateDBError) (a : Reach) (before after : ReadsLeft) (S : Type 0) (P : SlateDBError → Type 0) → OnErr r S → OnErr r (after ≡ before) → IfErr r P → IfErr r (λ e. (e ≡ OutOfMemory) ⊎ Refuses before.reads e) →
    IfErr r (λ e. Made a a (λ reads. (IsFault a a e ⊎ Refuses before.reads e) × (S × P e) × NoMoreBut e (λ reads at d. Refuses before.reads d) reads (λ reads at d. Refuses after.reads d)))
seek_cause (Ok x) a before after S P s u p h = tt
seek_cause (Err e) a before after S P s u p h = ([], call_none a, (blamed a a before.reads e h, (s, p), no_more_here before after e u))

pub step_cause : {A : Type 0} (r : Result A SlateDBError) (a : Reach) (before after : ReadsLeft) (S : Type 0) → OnErr r S → OnErr r (after ≡ before) → IfErr r (λ e. (e ≡ OutOfMemory) ⊎ (slice_get before.reads 0 ≡ Some (Err e))) → IfErr r (λ e. (e ≡ OutOfMemory) ⊎ IsBlockDamage e) →
    IfErr r (λ e. Made a a (λ reads. (IsFault a a e ⊎ Refuses before.reads e) × (S × ((e ≡ OutOfMemory) ⊎ (slice_get before.reads 0 ≡ Some (Err e)))) × NoMoreBut e (λ reads at d. Refuses before.reads d) reads (λ reads at d. Refuses after.reads d)))
step_cause (Ok x) a before after S s u h d = tt
step_cause (Err e) a before after S s u h d = ([], call_none a, (blamed a a before.reads e (first_refuses before.reads e OutOfMemory h d), (s, h), no_more_here before after e u))

pub all_checked : {A : Type 0} (r : Result A SlateDBError) (w : World) (a : Reach) → OnOk r (Checks w a a)
all_checked (Ok x) w a = checks_none w a
all_checked (Err e) w a = tt

-- ---- a step

pub taken_rows : (r : Result (Option RowEntry) SlateDBError) (before after : ReadsLeft) → IfOk r (λ answer. TakesRead before.reads answer after.reads) → IsRising before.order (left before) → IfOk r (λ answer. TakesRow (rows_of (left before)) answer (rows_of (left after)))
taken_rows (Ok answer) before after t h = step_rows before.order before.reads after.reads answer t h
taken_rows (Err e) before after t h = tt

pub taken_rising : (r : Result (Option RowEntry) SlateDBError) (before after : ReadsLeft) → IfOk r (λ answer. TakesRead before.reads answer after.reads) → after.order ≡ before.order → OnErr r (after ≡ before) → IsRising before.order (left before) → IsRising after.order (left after)
taken_rising (Ok answer) before after t o u h = subst (λ (order : IterationOrder). IsRising order (left after)) (sym o) (step_rising before.order before.reads after.reads answer t h)
taken_rising (Err e) before after t o u h = subst (λ (w : ReadsLeft). IsRising w.order (left w)) (sym u) h

pub taken_made : (r : Result (Option RowEntry) SlateDBError) (a : Reach) (before after : ReadsLeft) → IfOk r (λ answer. TakesRead before.reads answer after.reads) →
    IfOk r (λ answer. Made a a (λ reads. TakesRead before.reads answer after.reads × NoMore (λ reads at e. Refuses before.reads e) reads (λ reads at e. Refuses after.reads e)))
taken_made (Ok answer) a before after t = ([], call_none a, (t, λ later at e h. step_fewer before.reads after.reads answer e t h))
taken_made (Err e) a before after t = tt

pub taken_smaller : (r : Result (Option RowEntry) SlateDBError) (before after : ReadsLeft) → IfOk r (λ answer. TakesRead before.reads answer after.reads) → IfOk r (λ answer. IsSome answer → length after.reads < length before.reads)
taken_smaller (Ok answer) before after t = λ some. step_smaller before.reads after.reads answer t some
taken_smaller (Err e) before after t = tt

pub taken_no_larger : (r : Result (Option RowEntry) SlateDBError) (before after : ReadsLeft) → IfOk r (λ answer. TakesRead before.reads answer after.reads) → OnErr r (after ≡ before) → length after.reads ≤ length before.reads
taken_no_larger (Ok answer) before after t u = step_no_larger before.reads after.reads answer t
taken_no_larger (Err e) before after t u = let n = ap (λ (w : ReadsLeft). length w.reads) u in omega (arith, n)

-- ---- a seek

pub sought_rows : {A : Type 0} (r : Result A SlateDBError) (key : List ℕ) (before after : ReadsLeft) → OnOk r (left after ≡ Ok (drop_before before.order key (rows_of (left before)))) → OnOk r (rows_of (left after) ≡ drop_before before.order key (rows_of (left before)))
sought_rows (Ok x) key before after s = ap rows_of s
sought_rows (Err e) key before after s = tt

pub sought_still : {A : Type 0} (r : Result A SlateDBError) (key : List ℕ) (before after : ReadsLeft) → OnOk r (left after ≡ Ok (drop_before before.order key (rows_of (left before)))) → after.order ≡ before.order → OnErr r (after ≡ before) → IsRising before.order (left before) → IsRising after.order (left after)
sought_still (Ok x) key before after s o u h = subst (λ (order : IterationOrder). IsRising order (left after)) (sym o) (sought_rising before.order key (left before) (left after) s h)
sought_still (Err e) key before after s o u h = subst (λ (w : ReadsLeft). IsRising w.order (left w)) (sym u) h

pub sought_made : {A : Type 0} (r : Result A SlateDBError) (a : Reach) (key : List ℕ) (before after : ReadsLeft) (P : Type 0) → OnOk r P → OnOk r (IsPast before.order key before.reads after.reads) →
    OnOk r (Made a a (λ reads. P × NoMore (λ reads at e. Refuses before.reads e) reads (λ reads at e. Refuses after.reads e)))
sought_made (Ok x) a key before after P s p = ([], call_none a, (s, λ later at e h. past_fewer before.order key before.reads after.reads e p h))
sought_made (Err e) a key before after P s p = tt

pub sought_no_larger : {A : Type 0} (r : Result A SlateDBError) (key : List ℕ) (before after : ReadsLeft) → OnOk r (IsPast before.order key before.reads after.reads) → OnErr r (after ≡ before) → length after.reads ≤ length before.reads
sought_no_larger (Ok x) key before after p u = past_no_larger before.order key before.reads after.reads p
sought_no_larger (Err e) key before after p u = let n = ap (λ (w : ReadsLeft). length w.reads) u in omega (arith, n)

pub on_ok_both : {A : Type 0} (r : Result A SlateDBError) (P Q : Type 0) → OnOk r P → OnOk r Q → OnOk r (P × Q)
on_ok_both (Ok x) P Q p q = (p, q)
on_ok_both (Err e) P Q p q = tt
