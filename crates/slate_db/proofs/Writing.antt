-- The record of a write, by the ways in which it ends but for a commit.
use Rattle.std.proofs.Common.{◌≡◌, ◌∙◌, ℕ, ◌+◌, ◌-◌, ◌^◌, ◌<◌, ◌≤◌, true, false, [], length, Option, Some, None, ◌⊎◌, inl, inr, refl, sym, ap, subst, arith}
use Rattle.std.specs.Prelude.{Result, Ok, Err, nat_lt}
use Rattle.std.proofs.lemmas.Bool.Decides.{nat_tests}
use Rattle.slate_types.specs.declared.error.SlateDBError.{SlateDBError}
use Rattle.slate_types.specs.declared.error.SlateDBError.TheVariants.{LimitReached, OutOfMemory, SequenceExhausted}
use Rattle.slate_types.specs.Outside.{IsFault, Reach}
use Rattle.slate_mem.specs.BatchModel.{BatchModel}
use Rattle.slate_txn.specs.declared.line.Line.TheVariants as lines
use Rattle.slate_txn.specs.Reply.{Refused}
use Rattle.slate_txn.specs.Step.{step}
use Rattle.slate_db.specs.declared.engine.Core.TheInside.{Inside}
use Rattle.slate_db.specs.Calls.Common.{AsksOperator, Decides, Given, rules_under}
use Rattle.slate_db.specs.Calls.Write.{NeedsNoOperator, WritesBatch, WritesAs, newest, refusal_of, write_verdict}
use Rattle.slate_db.specs.Load.{weight}
use Rattle.slate_db.specs.Log.{LIMIT}
use Rattle.slate_db.specs.Model.{CoreModel, IsSame, at}
use Rattle.slate_db.specs.Segmented.{IsSegmented}
use Rattle.slate_db.specs.View.{view_of, unseen_of, IsWholeInside}
use Rattle.slate_types.proofs.Reaching.{reads_none}
use Rattle.slate_db.proofs.Asks.{call_none, short_fault}
use Rattle.slate_db.proofs.Calls.{none_left, place_for}
use Rattle.slate_db.proofs.Keeps.{kept_same}
use Rattle.slate_db.proofs.Opened.{stay_room, stay_same}
use Rattle.slate_db.proofs.Plain.{step_exhausted, step_nothing}
use Rattle.slate_db.proofs.Segmenting.{segmented_same}
use Rattle.slate_db.proofs.Tests.{step_test_refused}
use Rattle.slate_db.proofs.WriteVerdicts.{verdict_end, verdict_free, verdict_full, verdict_idle, verdict_refused, write_caused}
use Rattle.slate_db.proofs.Verdicts.{decides_err, decides_ok}

-- as the model answers
refused_as : (d : Given) (b : BatchModel) (before after : Reach) (old : CoreModel) (e : SlateDBError) → (b.ops ≡ [] → ⊥) → IsSegmented d.segments old →
    IsFault before after e ⊎ ((e ≡ SequenceExhausted) × (newest old ≡ 2 ^ 64 - 2)) ⊎ ((newest old < 2 ^ 64 - 2) × (refusal_of d old b ≡ Some e)) ⊎ ((e ≡ LimitReached LIMIT) × (newest old < 2 ^ 64 - 2) × (refusal_of d old b ≡ None) × (nat_lt LIMIT (weight old + 1) ≡ true)) →
    IsFault before after e ⊎ (e ≡ LimitReached LIMIT) ⊎ WritesAs d b old old (Refused e)
refused_as d b before after old e some z (inl fault) = inl fault
refused_as d b before after old e some z (inr (inl h)) = inr (inr (λ ops of fine.
    subst (λ (x : SlateDBError). step (rules_under d old) (at d.now old.state) (lines.Write ops) ≡ (at d.now old.state, Refused x)) (sym h.0)
    (step_exhausted (rules_under d old) (at d.now old.state) ops b (newest old) of some fine refl h.1)))
refused_as d b before after old e some z (inr (inr (inl h))) = inr (inr (λ ops of fine.
    step_test_refused (rules_under d old) (at d.now old.state) old.segments ops b (newest old) e of some h.1 fine z.recorded refl h.0))
refused_as d b before after old e some z (inr (inr (inr h))) = inr (inl h.0)

-- room may have been made; ends: where no sequence is left, for that
pub writes_err : (d : Given) (b : BatchModel) (before after : Reach) (alone same_env : Type 0) (old new : CoreModel) (e : SlateDBError) → newest old ≤ 2 ^ 64 - 2 → IsSame old new → (b.ops ≡ [] → ⊥) →
    (let r : Result (Option ℕ) SlateDBError = Err e in Decides (write_verdict d old b) (IsFault before after) r) → (newest old ≡ 2 ^ 64 - 2 → e ≡ SequenceExhausted) →
    alone → (let r : Result (Option ℕ) SlateDBError = Err e in AsksOperator before after r) → (NeedsNoOperator (write_verdict d old b) b → same_env) →
    (let r : Result (Option ℕ) SlateDBError = Err e in WritesBatch d b before after alone same_env old new r)
writes_err d b before after alone same_env old new e fits same some decides ends outside asks unasked = record {
  answer = decides;
  idle = λ none. absurd (some none);
  exhausted = λ ops full. ap Err (ends full);
  step = λ z. tt;
  refused = λ z. refused_as d b before after old e some z
      (write_caused (Option ℕ) (IsFault before after) e (newest old) b.ops (refusal_of d old b) (nat_lt LIMIT (weight old + 1)) some fits (short_fault before after e) decides);
  event = tt;
  vouched = tt;
  keeps = record {
    own = record { rows = kept_same d.meaning old new same; segments = segmented_same d.segments old new same };
    refused = λ m g. record { rows = kept_same m old new same; segments = segmented_same g old new same };
  };
  grows = λ ops of. tt;
  same = same;
  stay = stay_room old new same;
  outside = outside;
  asks = asks;
  unasked = unasked;
}

-- ---- of a core as it is inside

full_is : (n : ℕ) → LIMIT < n → nat_lt LIMIT n ≡ true
full_is n past = grind (arith, nat_tests)

fits_in : (n : ℕ) → n ≤ LIMIT → nat_lt LIMIT n ≡ false
fits_in n place = grind (arith, nat_tests)

newest_is : (s : Inside) (old : CoreModel) → IsWholeInside s → view_of s ≡ old → s.log.last ≡ newest old
newest_is s old w view = w.log.last ∙ ap newest view

pub newest_below : (s : Inside) (old : CoreModel) → IsWholeInside s → view_of s ≡ old → s.log.last < 2 ^ 64 - 2 → newest old < 2 ^ 64 - 2
newest_below s old w view below = subst (λ (n : ℕ). n < 2 ^ 64 - 2) (newest_is s old w view) below

newest_fits : (s : Inside) (old : CoreModel) → IsWholeInside s → view_of s ≡ old → newest old ≤ 2 ^ 64 - 2
newest_fits s old w view = subst (λ (n : ℕ). n ≤ 2 ^ 64 - 2) (newest_is s old w view) w.log.last_fits

-- no sequence is left
pub verdict_spent : (d : Given) (b : BatchModel) (s : Inside) (old : CoreModel) → IsWholeInside s → view_of s ≡ old → (b.ops ≡ [] → ⊥) → s.log.last ≡ 2 ^ 64 - 2 → write_verdict d old b ≡ Some SequenceExhausted
verdict_spent d b s old w view some last = verdict_end (newest old) b.ops (refusal_of d old b) (nat_lt LIMIT (weight old + 1)) some (sym (newest_is s old w view) ∙ last)

-- its tests refuse it
pub verdict_tested : (d : Given) (b : BatchModel) (s : Inside) (old : CoreModel) (e : SlateDBError) → IsWholeInside s → view_of s ≡ old → (b.ops ≡ [] → ⊥) → s.log.last < 2 ^ 64 - 2 → refusal_of d old b ≡ Some e → write_verdict d old b ≡ Some e
verdict_tested d b s old e w view some below test = verdict_refused (newest old) b.ops (refusal_of d old b) (nat_lt LIMIT (weight old + 1)) e some (newest_below s old w view below) test

-- the journal has no place
pub verdict_crowded : (d : Given) (b : BatchModel) (s : Inside) (old : CoreModel) → IsWholeInside s → view_of s ≡ old → (b.ops ≡ [] → ⊥) → s.log.last < 2 ^ 64 - 2 → refusal_of d old b ≡ None → LIMIT < weight old + 1 → write_verdict d old b ≡ Some (LimitReached LIMIT)
verdict_crowded d b s old w view some below tested past = verdict_full (newest old) b.ops (refusal_of d old b) (nat_lt LIMIT (weight old + 1)) some (newest_below s old w view below) tested (full_is (weight old + 1) past)

-- nothing refuses it
pub verdict_none : (d : Given) (b : BatchModel) (s : Inside) (old : CoreModel) → IsWholeInside s → view_of s ≡ old → s.log.last < 2 ^ 64 - 2 → refusal_of d old b ≡ None → length s.log.events + s.log.ends + 1 ≤ LIMIT → write_verdict d old b ≡ None
verdict_none d b s old w view below tested place = verdict_free (newest old) b.ops (refusal_of d old b) (nat_lt LIMIT (weight old + 1)) (newest_below s old w view below) tested
    (fits_in (weight old + 1) (place_for (view_of s) old (unseen_of s) 1 view w place))

-- refused behind the first test, by an end of a call
pub write_refused : (d : Given) (b : BatchModel) (before after : Reach) (alone same_env : Type 0) (s : Inside) (old new : CoreModel) (e : SlateDBError) (result : Result (Option ℕ) SlateDBError) → IsWholeInside s → view_of s ≡ old → IsSame old new → (b.ops ≡ [] → ⊥) → s.log.last < 2 ^ 64 - 2 →
    (let r : Result (Option ℕ) SlateDBError = Err e in Decides (write_verdict d old b) (IsFault before after) r) → alone → (let r : Result (Option ℕ) SlateDBError = Err e in AsksOperator before after r) → (NeedsNoOperator (write_verdict d old b) b → same_env) → result ≡ Err e →
    WritesBatch d b before after alone same_env old new result
write_refused d b before after alone same_env s old new e result w view same some below decides outside asks unasked is =
    subst (WritesBatch d b before after alone same_env old new) (sym is)
    (writes_err d b before after alone same_env old new e (newest_fits s old w view) same some decides
    (λ full. none_left (view_of s) old (unseen_of s) (2 ^ 64 - 2) view w below full) outside asks unasked)

-- refused for the last sequence
pub write_spent : (d : Given) (b : BatchModel) (before : Reach) (alone same_env : Type 0) (s : Inside) (old : CoreModel) → IsWholeInside s → view_of s ≡ old → (b.ops ≡ [] → ⊥) → s.log.last ≡ 2 ^ 64 - 2 → alone → same_env →
    (let r : Result (Option ℕ) SlateDBError = Err SequenceExhausted in WritesBatch d b before before alone same_env old old r)
write_spent d b before alone same_env s old w view some last outside same =
    writes_err d b before before alone same_env old old SequenceExhausted (newest_fits s old w view) refl some
    (decides_err (Option ℕ) (write_verdict d old b) (IsFault before before) SequenceExhausted (verdict_spent d b s old w view some last))
    (λ full. refl) outside (record { call = call_none before; reads = reads_none before; still = refl }) (λ h. same)

-- nothing to write
pub write_idle : (d : Given) (b : BatchModel) (before : Reach) (alone same_env : Type 0) (old : CoreModel) → b.ops ≡ [] → alone → same_env →
    (let r : Result (Option ℕ) SlateDBError = Ok None in WritesBatch d b before before alone same_env old old r)
write_idle d b before alone same_env old none outside same = record {
  answer = decides_ok (write_verdict d old b) (IsFault before before) None (verdict_idle (newest old) b.ops (refusal_of d old b) (nat_lt LIMIT (weight old + 1)) none);
  idle = λ empty. refl;
  exhausted = λ some full. absurd (some none);
  step = λ z ops of fine. step_nothing (rules_under d old) (at d.now old.state) ops b of none;
  refused = λ z. tt;
  event = (none, refl);
  vouched = λ m k h. h;
  keeps = record { own = record { rows = λ k. k; segments = λ z. z }; refused = tt };
  grows = λ ops of. omega arith;
  same = tt;
  stay = stay_same old old refl;
  outside = outside;
  asks = record { call = call_none before; reads = reads_none before; still = refl };
  unasked = λ h. same;
}
