-- What follows from the record of a commit: the clauses that it stands for, and fields that others give.
use Rattle.std.proofs.Common.{◌≡◌, ℕ, ◌+◌, ◌-◌, ◌^◌, ◌≤◌, ◌<◌, ◌==◌, Bool, true, false, List, [], ◌∷◌, Option, Some, None, ◌⊎◌, inl, inr, ℤ, refl, sym, ap, subst, arith}
use Rattle.std.specs.Prelude.{◌≢◌, Result, Ok, Err, IfErr, IfOk, OnErr, IsSome, option_map}
use Rattle.std.proofs.lemmas.Bool.Decides.{nat_tests}
use Rattle.slate_types.specs.declared.error.SlateDBError.{SlateDBError}
use Rattle.slate_types.specs.declared.error.SlateDBError.TheVariants.{OutOfMemory, SequenceExhausted, TransactionConflict}
use Rattle.slate_types.specs.Outside.{IsFault, Meaning, Reach}
use Rattle.slate_mem.specs.Batch.{Ops}
use Rattle.slate_mem.specs.KeyTests.{Segments}
use Rattle.slate_mem.specs.Refusals.{first_refusal, when}
use Rattle.slate_txn.specs.Conflict.{conflict}
use Rattle.slate_txn.specs.HandedOver.{IsConflict}
use Rattle.slate_txn.specs.Named.{find_named}
use Rattle.slate_txn.specs.Refusals.{unless_empty}
use Rattle.slate_txn.specs.State.{Tx, last_of}
use Rattle.slate_txn.proofs.NamedLaws.{IsNamed, open_is}
use Rattle.slate_db.specs.BatchTests.{test_refusal}
use Rattle.slate_db.specs.Calls.Commit.{AsksNobody, CommitsOpen, commit_verdict, commit_verdict_of}
use Rattle.slate_db.specs.Calls.Common.{Decides, Given, IsTransaction, KeepsRows}
use Rattle.slate_db.specs.Committed.{IsCommitted, IsEnded}
use Rattle.slate_db.specs.Model.{CoreModel}
use Rattle.slate_db.specs.Opened.{HasTransaction, StayOpenBut}
use Rattle.slate_db.specs.Sound.{IsKept}
use Rattle.slate_db.specs.Unasked.{IsUnasked, conflicts, empty, exhausted, refused}
use Rattle.slate_db.specs.Vouched.{IsVouchedFor}
use Rattle.slate_db.proofs.Opened.{stay_but_ended, stay_committed}
use Rattle.slate_db.proofs.Segmenting.{segmented_as}
use Rattle.slate_db.proofs.Vouches.{others_end}
use Rattle.slate_db.proofs.Wholes.{kept_end}

-- ---- fields that others give

-- stay: by event and ended
pub stays : (old new : CoreModel) (id : List ℕ) (now : ℤ) (t : Tx) (result : Result (Option ℕ) SlateDBError) → IfOk result (λ n. IsCommitted old new id n now t) → OnErr result (IsEnded old new id) → StayOpenBut id old new
stays old new id now t (Ok n) event ended = stay_committed old new id n now t event
stays old new id now t (Err e) event ended = stay_but_ended old new id ended

-- keeps.refused, once kept_refused and segmented_refused: by ended
pub ended_keeps : (m : Meaning) (g : Segments) (old new : CoreModel) (id : List ℕ) → IsEnded old new id → KeepsRows m g old new
ended_keeps m g old new id ended = record {
  rows = λ k. subst (IsKept m) (sym ended) (kept_end m old id new.spare k);
  segments = segmented_as g old new (ap (λ (c : CoreModel). c.segments) ended) (ap (λ (c : CoreModel). c.state.commits) ended);
}

-- others at an error: by ended
pub ended_others : (old new : CoreModel) (id : List ℕ) → IsEnded old new id → (m : Meaning) (other : List ℕ) → other ≢ id → IsVouchedFor m old other → IsVouchedFor m new other
ended_others old new id ended m other apart h = subst (λ (c : CoreModel). IsVouchedFor m c other) (sym ended) (others_end m old id other new.spare apart h)

-- ---- the clauses that the verdict stands for

abbrev pub Answers : SlateDBError → Result (Option ℕ) SlateDBError → Type 0
Answers e result = (result ≡ Err e) ⊎ (result ≡ Err OutOfMemory)

same_error : (e f : SlateDBError) → let r : Result (Option ℕ) SlateDBError = Err e in let s : Result (Option ℕ) SlateDBError = Err f in r ≡ s → e ≡ f
same_error e f h = cc

memory : (before after : Reach) (e : SlateDBError) → e ≡ OutOfMemory → IsFault before after e
memory before after e h = subst (IsFault before after) (sym h) tt

-- met
pub met_of : (fault : SlateDBError → Type 0) (result : Result (Option ℕ) SlateDBError) (free : Option ℕ) (last : ℕ) (ops : Ops) (tested : Option SlateDBError) (n : ℕ) → Decides (commit_verdict_of free last ops tested) fault result → free ≡ Some n → Answers (TransactionConflict n) result
met_of fault result None last ops tested n decides is = cc
met_of fault result (Some m) last ops tested n decides is = subst (λ (k : ℕ). Answers (TransactionConflict k) result) (let same : m ≡ n = cc in same) decides

-- exhausted
pub exhausted_of : (fault : SlateDBError → Type 0) (result : Result (Option ℕ) SlateDBError) (free : Option ℕ) (last : ℕ) (ops : Ops) (tested : Option SlateDBError) → Decides (commit_verdict_of free last ops tested) fault result → free ≡ None → ops ≢ [] → last ≡ 2 ^ 64 - 2 → Answers SequenceExhausted result
exhausted_of fault result (Some m) last ops tested decides none some is = cc
exhausted_of fault result None last [] tested decides none some is = absurd (some refl)
exhausted_of fault result None last (o ∷ os) tested decides none some is =
    subst (λ (b : Bool). Decides (first_refusal (when b SequenceExhausted ∷ tested ∷ [])) fault result) (let full : (last == 2 ^ 64 - 2) ≡ true = grind (arith, nat_tests) in full) decides

-- first
pub first_of : (fault : SlateDBError → Type 0) (result : Result (Option ℕ) SlateDBError) (free : Option ℕ) (last : ℕ) (ops : Ops) (tested : Option SlateDBError) (e : SlateDBError) → Decides (commit_verdict_of free last ops tested) fault result → free ≡ None → ops ≢ [] → last < 2 ^ 64 - 2 → tested ≡ Some e → Answers e result
first_of fault result (Some m) last ops tested e decides none some place is = cc
first_of fault result None last [] tested e decides none some place is = absurd (some refl)
first_of fault result None last (o ∷ os) tested e decides none some place is =
    subst (λ (r : Option SlateDBError). Decides (first_refusal (r ∷ [])) fault result) is
    (subst (λ (b : Bool). Decides (first_refusal (when b SequenceExhausted ∷ tested ∷ [])) fault result) (let left : (last == 2 ^ 64 - 2) ≡ false = grind (arith, nat_tests) in left) decides)

-- cause, in the one form that callers want: a fault, or the verdict
pub cause_of : (before after : Reach) (result : Result (Option ℕ) SlateDBError) (commit_verdict : Option SlateDBError) → Decides commit_verdict (IsFault before after) result → IfErr result (λ e. IsFault before after e ⊎ (commit_verdict ≡ Some e))
cause_of before after (Ok n) commit_verdict decides = tt
cause_of before after (Err e) None decides = inl decides
cause_of before after (Err e) (Some f) (inl h) = inr (ap Some (sym (same_error e f h)))
cause_of before after (Err e) (Some f) (inr h) = inl (memory before after e (same_error e OutOfMemory h))

-- what is committed none refuses
pub free_of : (fault : SlateDBError → Type 0) (n : Option ℕ) (commit_verdict : Option SlateDBError) → (let r : Result (Option ℕ) SlateDBError = Ok n in Decides commit_verdict fault r) → commit_verdict ≡ None
free_of fault n None decides = refl
free_of fault n (Some e) (inl h) = cc
free_of fault n (Some e) (inr h) = cc

-- plain, and what was unasked: each is a case
spent_some : (free : Option ℕ) (last : ℕ) (o_full : Bool) (ops : Ops) (tested : Option SlateDBError) → (last == 2 ^ 64 - 2) ≡ o_full → o_full ≡ true → AsksNobody (first_refusal (option_map TransactionConflict free ∷ unless_empty ops (when o_full SequenceExhausted ∷ tested ∷ []))) ops
spent_some (Some n) last full ops tested is h = inl refl
spent_some None last full [] tested is h = inr refl
spent_some None last true (o ∷ os) tested is h = inl refl
spent_some None last false (o ∷ os) tested is h = cc

refused_some : (free : Option ℕ) (full : Bool) (ops : Ops) (tested : Option SlateDBError) (e : SlateDBError) → tested ≡ Some e → AsksNobody (first_refusal (option_map TransactionConflict free ∷ unless_empty ops (when full SequenceExhausted ∷ tested ∷ []))) ops
refused_some (Some n) full ops tested e is = inl refl
refused_some None full [] tested e is = inr refl
refused_some None true (o ∷ os) tested e is = inl refl
refused_some None false (o ∷ os) (Some f) e is = inl refl
refused_some None false (o ∷ os) None e is = cc

pub unasked_as : (free : Option ℕ) (last : ℕ) (ops : Ops) (tested : Option SlateDBError) → IsUnasked free last ops tested → AsksNobody (commit_verdict_of free last ops tested) ops
unasked_as (Some m) last ops tested h = inl refl
unasked_as None last ops tested (conflicts n is) = cc
unasked_as None last [] tested h = inr refl
unasked_as None last (o ∷ os) tested (empty is) = cc
unasked_as None last (o ∷ os) tested (exhausted is) = spent_some None last (last == 2 ^ 64 - 2) (o ∷ os) tested refl (let full : (last == 2 ^ 64 - 2) ≡ true = grind (arith, nat_tests) in full)
unasked_as None last (o ∷ os) tested (refused e is) = refused_some None (last == 2 ^ 64 - 2) (o ∷ os) tested e is

-- ---- of the record

-- of a transaction that is known to be open
pub of_transaction : {P : Type 0} (c : CoreModel) (id : List ℕ) → HasTransaction c id → ((t : Tx) → IsTransaction c id t → P) → P
of_transaction c id has f = let there : IsNamed (find_named id c.state.txns) = open_is (find_named id c.state.txns) has in f there.value there.is

-- exhausted
pub exhausted_by : {d : Given} {id : List ℕ} {t : Tx} {before after : Reach} {old new : CoreModel} {result : Result (Option ℕ) SlateDBError} → CommitsOpen d id t before after old new result → conflict old.state.commits t ≡ None → t.ops ≢ [] → last_of old.settings.start_seq old.state.commits ≡ 2 ^ 64 - 2 → Answers SequenceExhausted result
exhausted_by {d = d} {t = t} {before = before} {after = after} {old = old} {result = result} made none some full =
    exhausted_of (IsFault before after) result (conflict old.state.commits t) (last_of old.settings.start_seq old.state.commits) t.ops (test_refusal d.meaning.combine d.segments old.segments old.settings.default_millis d.now t.ops) made.answer none some full

-- cause: a fault, or a test that refuses it
verdict_causes : (free : Option ℕ) (end : Bool) (ops : Ops) (tested : Option SlateDBError) (e : SlateDBError) → first_refusal (option_map TransactionConflict free ∷ unless_empty ops (when end SequenceExhausted ∷ tested ∷ [])) ≡ Some e →
    IsConflict free e ⊎ ((e ≡ SequenceExhausted) × (end ≡ true)) ⊎ (tested ≡ Some e)
verdict_causes (Some n) end ops tested e is = inl (let same : e ≡ TransactionConflict n = cc in same)
verdict_causes None end [] tested e is = cc
verdict_causes None true (o ∷ os) tested e is = inr (inl ((let same : e ≡ SequenceExhausted = cc in same), refl))
verdict_causes None false (o ∷ os) (Some f) e is = inr (inr is)
verdict_causes None false (o ∷ os) None e is = cc

end_is : (last : ℕ) → (last == 2 ^ 64 - 2) ≡ true → last ≡ 2 ^ 64 - 2
end_is last h = grind (arith, nat_tests)

pub causes_of : {d : Given} {id : List ℕ} {t : Tx} {before after : Reach} {old new : CoreModel} {result : Result (Option ℕ) SlateDBError} → CommitsOpen d id t before after old new result →
    IfErr result (λ e. IsFault before after e ⊎ IsConflict (conflict old.state.commits t) e ⊎ ((e ≡ SequenceExhausted) × (last_of old.settings.start_seq old.state.commits ≡ 2 ^ 64 - 2))
    ⊎ (test_refusal d.meaning.combine d.segments old.segments old.settings.default_millis d.now t.ops ≡ Some e))
causes_of {d = d} {t = t} {before = before} {after = after} {old = old} {result = result} made = by result (cause_of before after result (commit_verdict d old t) made.answer)
  where
    each : (e : SlateDBError) → IsFault before after e ⊎ (commit_verdict d old t ≡ Some e) → IsFault before after e ⊎ IsConflict (conflict old.state.commits t) e ⊎ ((e ≡ SequenceExhausted) × (last_of old.settings.start_seq old.state.commits ≡ 2 ^ 64 - 2)) ⊎ (test_refusal d.meaning.combine d.segments old.segments old.settings.default_millis d.now t.ops ≡ Some e)
    each e (inl fault) = inl fault
    each e (inr is) = over e (verdict_causes (conflict old.state.commits t) (last_of old.settings.start_seq old.state.commits == 2 ^ 64 - 2) t.ops (test_refusal d.meaning.combine d.segments old.segments old.settings.default_millis d.now t.ops) e is)
      where
        over : (x : SlateDBError) → IsConflict (conflict old.state.commits t) x ⊎ ((x ≡ SequenceExhausted) × ((last_of old.settings.start_seq old.state.commits == 2 ^ 64 - 2) ≡ true)) ⊎ (test_refusal d.meaning.combine d.segments old.segments old.settings.default_millis d.now t.ops ≡ Some x) → IsFault before after x ⊎ IsConflict (conflict old.state.commits t) x ⊎ ((x ≡ SequenceExhausted) × (last_of old.settings.start_seq old.state.commits ≡ 2 ^ 64 - 2)) ⊎ (test_refusal d.meaning.combine d.segments old.segments old.settings.default_millis d.now t.ops ≡ Some x)
        over x (inl h) = inr (inl h)
        over x (inr (inl h)) = inr (inr (inl (h.0, end_is (last_of old.settings.start_seq old.state.commits) h.1)))
        over x (inr (inr h)) = inr (inr (inr h))

    by : (r : Result (Option ℕ) SlateDBError) → IfErr r (λ e. IsFault before after e ⊎ (commit_verdict d old t ≡ Some e)) → IfErr r (λ e. IsFault before after e ⊎ IsConflict (conflict old.state.commits t) e ⊎ ((e ≡ SequenceExhausted) × (last_of old.settings.start_seq old.state.commits ≡ 2 ^ 64 - 2)) ⊎ (test_refusal d.meaning.combine d.segments old.segments old.settings.default_millis d.now t.ops ≡ Some e))
    by (Ok n) h = tt
    by (Err e) h = each e h
