-- What the verdict of a write is, what it says of its answer, and what its record says beside.
use Rattle.std.proofs.Common.{◌≡◌, ◌∙◌, ℕ, ◌-◌, ◌^◌, ◌<◌, ◌≤◌, ◌==◌, Bool, true, false, List, [], ◌∷◌, Option, Some, None, ◌⊎◌, inl, inr, refl, sym, ap, subst, arith}
use Rattle.std.specs.Prelude.{Result, Err, IsSome}
use Rattle.std.proofs.lemmas.Bool.Decides.{nat_tests}
use Rattle.slate_types.specs.declared.error.SlateDBError.{SlateDBError}
use Rattle.slate_types.specs.declared.error.SlateDBError.TheVariants.{LimitReached, OutOfMemory, SequenceExhausted}
use Rattle.slate_mem.specs.Batch.{Ops}
use Rattle.slate_mem.specs.BatchModel.{BatchModel}
use Rattle.slate_mem.specs.Refusals.{first_refusal, when}
use Rattle.slate_txn.specs.Refusals.{unless_empty}
use Rattle.slate_db.specs.Calls.Common.{Decides}
use Rattle.slate_db.specs.Calls.Write.{NeedsNoOperator, write_verdict_of}
use Rattle.slate_db.specs.Log.{LIMIT}
use Rattle.slate_db.proofs.Verdicts.{decides_err}

-- by three tests
abbrev by_tests : Ops → Bool → Option SlateDBError → Bool → Option SlateDBError
by_tests ops spent tested full = first_refusal (unless_empty ops (when spent SequenceExhausted ∷ tested ∷ when full (LimitReached LIMIT) ∷ []))

spent_is : (last : ℕ) → last ≡ 2 ^ 64 - 2 → (last == 2 ^ 64 - 2) ≡ true
spent_is last h = grind (arith, nat_tests)

unspent_is : (last : ℕ) → last < 2 ^ 64 - 2 → (last == 2 ^ 64 - 2) ≡ false
unspent_is last h = grind (arith, nat_tests)

-- ---- which it is

tests_end : (ops : Ops) (tested : Option SlateDBError) (full : Bool) → (ops ≡ [] → ⊥) → by_tests ops true tested full ≡ Some SequenceExhausted
tests_end [] tested full some = absurd (some refl)
tests_end (o ∷ os) tested full some = refl

tests_refused : (ops : Ops) (e : SlateDBError) (full : Bool) → (ops ≡ [] → ⊥) → by_tests ops false (Some e) full ≡ Some e
tests_refused [] e full some = absurd (some refl)
tests_refused (o ∷ os) e full some = refl

tests_full : (ops : Ops) → (ops ≡ [] → ⊥) → by_tests ops false None true ≡ Some (LimitReached LIMIT)
tests_full [] some = absurd (some refl)
tests_full (o ∷ os) some = refl

tests_free : (ops : Ops) → by_tests ops false None false ≡ None
tests_free [] = refl
tests_free (o ∷ os) = refl

pub verdict_idle : (last : ℕ) (ops : Ops) (tested : Option SlateDBError) (full : Bool) → ops ≡ [] → write_verdict_of last ops tested full ≡ None
verdict_idle last ops tested full none = ap (λ (os : Ops). write_verdict_of last os tested full) none

pub verdict_end : (last : ℕ) (ops : Ops) (tested : Option SlateDBError) (full : Bool) → (ops ≡ [] → ⊥) → last ≡ 2 ^ 64 - 2 → write_verdict_of last ops tested full ≡ Some SequenceExhausted
verdict_end last ops tested full some end = subst (λ (b : Bool). by_tests ops b tested full ≡ Some SequenceExhausted) (sym (spent_is last end)) (tests_end ops tested full some)

pub verdict_refused : (last : ℕ) (ops : Ops) (tested : Option SlateDBError) (full : Bool) (e : SlateDBError) → (ops ≡ [] → ⊥) → last < 2 ^ 64 - 2 → tested ≡ Some e → write_verdict_of last ops tested full ≡ Some e
verdict_refused last ops tested full e some place is =
    subst (λ (b : Bool). by_tests ops b tested full ≡ Some e) (sym (unspent_is last place))
    (subst (λ (r : Option SlateDBError). by_tests ops false r full ≡ Some e) (sym is) (tests_refused ops e full some))

pub verdict_full : (last : ℕ) (ops : Ops) (tested : Option SlateDBError) (full : Bool) → (ops ≡ [] → ⊥) → last < 2 ^ 64 - 2 → tested ≡ None → full ≡ true → write_verdict_of last ops tested full ≡ Some (LimitReached LIMIT)
verdict_full last ops tested full some place none is =
    (λ i. by_tests ops (unspent_is last place i) (none i) (is i)) ∙ tests_full ops some

pub verdict_free : (last : ℕ) (ops : Ops) (tested : Option SlateDBError) (full : Bool) → last < 2 ^ 64 - 2 → tested ≡ None → full ≡ false → write_verdict_of last ops tested full ≡ None
verdict_free last ops tested full place none is =
    (λ i. by_tests ops (unspent_is last place i) (none i) (is i)) ∙ tests_free ops

-- ---- what it decides

-- of what nothing refuses, a fault
pub decides_fault : (A : Type 0) (verdict : Option SlateDBError) (fault : SlateDBError → Type 0) (e : SlateDBError) → verdict ≡ None → fault e → (let r : Result A SlateDBError = Err e in Decides verdict fault r)
decides_fault A None fault e none h = h
decides_fault A (Some f) fault e none h = cc

-- whatever the verdict, want of memory
pub decides_memory : (A : Type 0) (verdict : Option SlateDBError) (fault : SlateDBError → Type 0) → fault OutOfMemory → (let r : Result A SlateDBError = Err OutOfMemory in Decides verdict fault r)
decides_memory A None fault short = short
decides_memory A (Some e) fault short = inr refl

-- by its tests, or for want of memory
pub decides_either : (A : Type 0) (verdict : Option SlateDBError) (fault : SlateDBError → Type 0) (e : SlateDBError) → fault OutOfMemory → (e ≡ OutOfMemory) ⊎ (verdict ≡ Some e) → (let r : Result A SlateDBError = Err e in Decides verdict fault r)
decides_either A verdict fault e short (inl is) = subst (λ (x : SlateDBError). let r : Result A SlateDBError = Err x in Decides verdict fault r) (sym is) (decides_memory A verdict fault short)
decides_either A verdict fault e short (inr is) = decides_err A verdict fault e is

tests_caused : (A : Type 0) (fault : SlateDBError → Type 0) (e : SlateDBError) (ops : Ops) (spent : Bool) (tested : Option SlateDBError) (full : Bool) → (ops ≡ [] → ⊥) → (e ≡ OutOfMemory → fault e) → (let r : Result A SlateDBError = Err e in Decides (by_tests ops spent tested full) fault r) →
    fault e ⊎ ((e ≡ SequenceExhausted) × (spent ≡ true)) ⊎ ((spent ≡ false) × (tested ≡ Some e)) ⊎ ((e ≡ LimitReached LIMIT) × (spent ≡ false) × (tested ≡ None) × (full ≡ true))
tests_caused A fault e [] spent tested full some short h = absurd (some refl)
tests_caused A fault e (o ∷ os) true tested full some short (inl h) = inr (inl ((let is : e ≡ SequenceExhausted = cc in is), refl))
tests_caused A fault e (o ∷ os) true tested full some short (inr h) = inl (short cc)
tests_caused A fault e (o ∷ os) false (Some f) full some short (inl h) = inr (inr (inl (refl, (let is : e ≡ f = cc in ap Some (sym is)))))
tests_caused A fault e (o ∷ os) false (Some f) full some short (inr h) = inl (short cc)
tests_caused A fault e (o ∷ os) false None true some short (inl h) = inr (inr (inr ((let is : e ≡ LimitReached LIMIT = cc in is), refl, refl, refl)))
tests_caused A fault e (o ∷ os) false None true some short (inr h) = inl (short cc)
tests_caused A fault e (o ∷ os) false None false some short h = inl h

at_end : (last : ℕ) → (last == 2 ^ 64 - 2) ≡ true → last ≡ 2 ^ 64 - 2
at_end last h = grind (arith, nat_tests)

below_end : (last : ℕ) → last ≤ 2 ^ 64 - 2 → (last == 2 ^ 64 - 2) ≡ false → last < 2 ^ 64 - 2
below_end last fits h = grind (arith, nat_tests)

-- what a refusal is for
pub write_caused : (A : Type 0) (fault : SlateDBError → Type 0) (e : SlateDBError) (last : ℕ) (ops : Ops) (tested : Option SlateDBError) (full : Bool) → (ops ≡ [] → ⊥) → last ≤ 2 ^ 64 - 2 → (e ≡ OutOfMemory → fault e) → (let r : Result A SlateDBError = Err e in Decides (write_verdict_of last ops tested full) fault r) →
    fault e ⊎ ((e ≡ SequenceExhausted) × (last ≡ 2 ^ 64 - 2)) ⊎ ((last < 2 ^ 64 - 2) × (tested ≡ Some e)) ⊎ ((e ≡ LimitReached LIMIT) × (last < 2 ^ 64 - 2) × (tested ≡ None) × (full ≡ true))
write_caused A fault e last ops tested full some fits short decides = by (tests_caused A fault e ops (last == 2 ^ 64 - 2) tested full some short decides)
  where
    by : fault e ⊎ ((e ≡ SequenceExhausted) × ((last == 2 ^ 64 - 2) ≡ true)) ⊎ (((last == 2 ^ 64 - 2) ≡ false) × (tested ≡ Some e)) ⊎ ((e ≡ LimitReached LIMIT) × ((last == 2 ^ 64 - 2) ≡ false) × (tested ≡ None) × (full ≡ true)) →
        fault e ⊎ ((e ≡ SequenceExhausted) × (last ≡ 2 ^ 64 - 2)) ⊎ ((last < 2 ^ 64 - 2) × (tested ≡ Some e)) ⊎ ((e ≡ LimitReached LIMIT) × (last < 2 ^ 64 - 2) × (tested ≡ None) × (full ≡ true))
    by (inl h) = inl h
    by (inr (inl h)) = inr (inl (h.0, at_end last h.1))
    by (inr (inr (inl h))) = inr (inr (inl (below_end last fits h.0, h.1)))
    by (inr (inr (inr h))) = inr (inr (inr (h.0, below_end last fits h.1, h.2, h.3)))

-- ---- whom it asks

-- where its rows are made, nobody but for a batch that never took a merge
pub asks_made : {P : Type 0} (verdict : Option SlateDBError) (b : BatchModel) → verdict ≡ None → (b.ops ≡ [] → ⊥) → (b.held_merge ≡ false → P) → NeedsNoOperator verdict b → P
asks_made {P = P} verdict b none some plain (inl refused) = never verdict none refused
  where
    never : (v : Option SlateDBError) → v ≡ None → IsSome v → P
    never None is h = cc
    never (Some e) is h = cc
asks_made verdict b none some plain (inr (inl empty)) = absurd (some empty)
asks_made verdict b none some plain (inr (inr h)) = plain h
