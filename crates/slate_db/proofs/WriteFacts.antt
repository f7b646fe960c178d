-- What follows from the record of a write: the clauses that it stands for.
use Rattle.std.proofs.Common.{◌≡◌, ◌∙◌, ℕ, ◌+◌, ◌-◌, ◌^◌, ◌<◌, ◌==◌, Bool, true, false, List, [], ◌∷◌, Option, Some, None, ◌⊎◌, inl, inr, refl, sym, ap, subst, arith}
use Rattle.std.specs.Prelude.{◌≢◌, Result, Ok, Err, IfErr, IsSome, nat_lt}
use Rattle.std.proofs.lemmas.Bool.Decides.{nat_tests}
use Rattle.slate_types.specs.declared.error.SlateDBError.{SlateDBError}
use Rattle.slate_types.specs.declared.error.SlateDBError.TheVariants.{LimitReached, OutOfMemory, SequenceExhausted}
use Rattle.slate_mem.specs.Batch.{Ops}
use Rattle.slate_mem.specs.BatchModel.{BatchModel}
use Rattle.slate_mem.specs.Refusals.{first_refusal, when}
use Rattle.slate_txn.specs.Refusals.{unless_empty}
use Rattle.slate_db.specs.Calls.Common.{Decides, Given}
use Rattle.slate_db.specs.Calls.Write.{NeedsNoOperator, newest, refusal_of, write_verdict}
use Rattle.slate_db.specs.Flushed.{NoPlace}
use Rattle.slate_db.specs.Load.{weight}
use Rattle.slate_db.specs.Log.{LIMIT}
use Rattle.slate_db.specs.Model.{CoreModel}
use Rattle.slate_db.specs.Unasked.{IsUnaskedWrite, conflicts, empty, exhausted, refused}
use Rattle.slate_db.proofs.WriteVerdicts.{verdict_end, verdict_full, verdict_refused}

past_is : (n : ℕ) → LIMIT < n → nat_lt LIMIT n ≡ true
past_is n past = grind (arith, nat_tests)

is_past : (n : ℕ) → nat_lt LIMIT n ≡ true → LIMIT < n
is_past n h = grind (arith, nat_tests)

spent : (last : ℕ) → (last == 2 ^ 64 - 2) ≡ true → last ≡ 2 ^ 64 - 2
spent last h = grind (arith, nat_tests)

-- first
pub first_written : (d : Given) (b : BatchModel) (c : CoreModel) (fault : SlateDBError → Type 0) (result : Result (Option ℕ) SlateDBError) (e : SlateDBError) → Decides (write_verdict d c b) fault result → b.ops ≢ [] → newest c < 2 ^ 64 - 2 → refusal_of d c b ≡ Some e → (result ≡ Err e) ⊎ (result ≡ Err OutOfMemory)
first_written d b c fault result e decides some place is = subst (λ (v : Option SlateDBError). Decides v fault result) (verdict_refused (newest c) b.ops (refusal_of d c b) (nat_lt LIMIT (weight c + 1)) e some place is) decides

-- limit
pub limit_written : (d : Given) (b : BatchModel) (c : CoreModel) (fault : SlateDBError → Type 0) (result : Result (Option ℕ) SlateDBError) → Decides (write_verdict d c b) fault result → b.ops ≢ [] → newest c < 2 ^ 64 - 2 → refusal_of d c b ≡ None → NoPlace 1 c → (result ≡ Err (LimitReached LIMIT)) ⊎ (result ≡ Err OutOfMemory)
limit_written d b c fault result decides some place fine past = subst (λ (v : Option SlateDBError). Decides v fault result) (verdict_full (newest c) b.ops (refusal_of d c b) (nat_lt LIMIT (weight c + 1)) some place fine (past_is (weight c + 1) past)) decides

-- cause, beside CommitFacts.cause_of: what the verdict is
tests_are : (ops : Ops) (end full : Bool) (tested : Option SlateDBError) (e : SlateDBError) → first_refusal (unless_empty ops (when end SequenceExhausted ∷ tested ∷ when full (LimitReached LIMIT) ∷ [])) ≡ Some e →
    ((e ≡ SequenceExhausted) × (end ≡ true)) ⊎ ((e ≡ LimitReached LIMIT) × (full ≡ true)) ⊎ (tested ≡ Some e)
tests_are [] end full tested e is = cc
tests_are (o ∷ os) true full tested e is = inl ((let same : e ≡ SequenceExhausted = cc in same), refl)
tests_are (o ∷ os) false full (Some f) e is = inr (inr is)
tests_are (o ∷ os) false true None e is = inr (inl ((let same : e ≡ LimitReached LIMIT = cc in same), refl))
tests_are (o ∷ os) false false None e is = cc

pub verdict_is : (d : Given) (b : BatchModel) (c : CoreModel) (e : SlateDBError) → write_verdict d c b ≡ Some e → ((e ≡ SequenceExhausted) × (newest c ≡ 2 ^ 64 - 2)) ⊎ ((e ≡ LimitReached LIMIT) × NoPlace 1 c) ⊎ (refusal_of d c b ≡ Some e)
verdict_is d b c e is = by (tests_are b.ops (newest c == 2 ^ 64 - 2) (nat_lt LIMIT (weight c + 1)) (refusal_of d c b) e is)
  where
    by : ((e ≡ SequenceExhausted) × ((newest c == 2 ^ 64 - 2) ≡ true)) ⊎ ((e ≡ LimitReached LIMIT) × (nat_lt LIMIT (weight c + 1) ≡ true)) ⊎ (refusal_of d c b ≡ Some e) →
        ((e ≡ SequenceExhausted) × (newest c ≡ 2 ^ 64 - 2)) ⊎ ((e ≡ LimitReached LIMIT) × NoPlace 1 c) ⊎ (refusal_of d c b ≡ Some e)
    by (inl h) = inl (h.0, spent (newest c) h.1)
    by (inr (inl h)) = inr (inl (h.0, is_past (weight c + 1) h.1))
    by (inr (inr h)) = inr (inr h)

-- unasked, as it was said
some_tests : (ops : Ops) (end full : Bool) (tested : Option SlateDBError) → (ops ≡ []) ⊎ (end ≡ true) ⊎ IsSome tested ⊎ (full ≡ true) → IsSome (first_refusal (unless_empty ops (when end SequenceExhausted ∷ tested ∷ when full (LimitReached LIMIT) ∷ []))) ⊎ (ops ≡ [])
some_tests [] end full tested h = inr refl
some_tests (o ∷ os) true full tested h = inl refl
some_tests (o ∷ os) false full (Some f) h = inl refl
some_tests (o ∷ os) false true None h = inl refl
some_tests (o ∷ os) false false None (inl h) = cc
some_tests (o ∷ os) false false None (inr (inl h)) = cc
some_tests (o ∷ os) false false None (inr (inr (inl h))) = cc
some_tests (o ∷ os) false false None (inr (inr (inr h))) = cc

at_end : (last : ℕ) → last ≡ 2 ^ 64 - 2 → (last == 2 ^ 64 - 2) ≡ true
at_end last h = grind (arith, nat_tests)

pub unasked_written : (d : Given) (b : BatchModel) (c : CoreModel) → IsUnaskedWrite d.meaning.combine d.segments c d.now b → NeedsNoOperator (write_verdict d c b) b
unasked_written d b c h = over (some_tests b.ops (newest c == 2 ^ 64 - 2) (nat_lt LIMIT (weight c + 1)) (refusal_of d c b) (by h))
  where
    none_number : (n : ℕ) → None ≡ Some n → ⊥
    none_number n is = cc

    by : IsUnaskedWrite d.meaning.combine d.segments c d.now b → (b.ops ≡ []) ⊎ ((newest c == 2 ^ 64 - 2) ≡ true) ⊎ IsSome (refusal_of d c b) ⊎ (nat_lt LIMIT (weight c + 1) ≡ true)
    by (inl (conflicts n is)) = absurd (none_number n is)
    by (inl (empty none)) = inl none
    by (inl (exhausted full)) = inr (inl (at_end (newest c) full))
    by (inl (refused e is)) = inr (inr (inl (subst IsSome (sym is) refl)))
    by (inr past) = inr (inr (inr (past_is (weight c + 1) past)))

    over : IsSome (write_verdict d c b) ⊎ (b.ops ≡ []) → NeedsNoOperator (write_verdict d c b) b
    over (inl h) = inl h
    over (inr h) = inr (inl h)
