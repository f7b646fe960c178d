-- Why a write or a commit is refused, that its refusals are answered, and that no fault of the operator is passed over.
use Rattle.std.proofs.Common.{◌≡◌, ℕ, Bool, true, false, ◌-◌, ◌^◌, ◌==◌, ◌⊎◌, inl, inr, List, [], ◌∷◌, ◌++◌, map, find, reverse, Option, Some, None, is_none, is_some, option_map, Result, Ok, Err, ℤ, sym, ◌∙◌, subst, arith}
use Rattle.std.specs.Prelude.{IfErr, OnOk, not, ◌&&◌}
use Rattle.slate_types.specs.declared.error.SlateDBError.{SlateDBError}
use Rattle.slate_types.specs.declared.error.SlateDBError.TheVariants as errors
use Rattle.slate_types.specs.Outside.{IsFault, IsOperatorStill, OperatorStays, Reach}
use Rattle.slate_types.specs.Keys.{keys_set}
use Rattle.slate_mem.specs.Batch.{Ops, batch_keys, kept}
use Rattle.slate_mem.specs.BatchModel.{BatchModel, holds_merge}
use Rattle.slate_mem.specs.KeyTests.{Segments, first_other, key_refusal, nest, nest_refusal, nest_refusals, prefix_of_len, prefixes, segment_refusal, test_refusals, ttl_refusal}
use Rattle.slate_mem.specs.Refusals.{first_refusal, when}
use Rattle.slate_mem.specs.RowOf.{op_expiry}
use Rattle.slate_txn.specs.Conflict.{conflict}
use Rattle.slate_txn.specs.Refusals.{unless_empty}
use Rattle.slate_txn.specs.State.{Tx, last_of}
use Rattle.slate_db.specs.BatchTests.{test_refusal}
use Rattle.slate_db.specs.Calls.Commit.{CommitsOpen, commit_verdict}
use Rattle.slate_db.specs.Calls.Common.{Given}
use Rattle.slate_db.specs.Calls.Write.{WritesBatch, newest, refusal_of, write_verdict}
use Rattle.slate_db.specs.Flushed.{NoPlace}
use Rattle.slate_db.specs.Log.{LIMIT}
use Rattle.slate_db.specs.Model.{CoreModel}
use Rattle.slate_db.proofs.CommitFacts.{cause_of}
use Rattle.slate_db.proofs.WriteFacts.{verdict_is}
use Rattle.slate_language.specs.declared.reply.Answer.{Answer}
use Rattle.slate_script.specs.Session.{SessionModel, IsLimit, IsRefusal}
use Rattle.slate_script.proofs.SessionSteps.{some_error}

ttl_refuses : (k : List ℕ) (es : List (Option ℤ)) (e : SlateDBError) → first_refusal (ttl_refusal k es ∷ []) ≡ Some e → IsRefusal e
ttl_refuses k [] e h = cc
ttl_refuses k (x ∷ xs) e h = by (first_other x xs) h
  where
    by : (o : Option (Option ℤ)) → first_refusal (option_map (λ y. errors.IncompatibleMergeTtls k x y) o ∷ []) ≡ Some e → IsRefusal e
    by None is = cc
    by (Some y) is = subst IsRefusal (some_error (errors.IncompatibleMergeTtls k x y) e is) tt

segment_refuses : (segments : Segments) (k : List ℕ) (e : SlateDBError) → segment_refusal segments k ≡ Some e → IsRefusal e
segment_refuses None k e h = cc
segment_refuses (Some f) k e h = by (is_none (prefix_of_len k (f k))) h
  where
    by : (b : Bool) → when b (errors.EmptySegmentPrefix k) ≡ Some e → IsRefusal e
    by true is = subst IsRefusal (some_error (errors.EmptySegmentPrefix k) e is) tt
    by false is = cc

key_refuses : (segments : Segments) (default_millis : Option ℕ) (now : ℤ) (ops : Ops) (k : List ℕ) (e : SlateDBError) → key_refusal segments default_millis now ops k ≡ Some e → IsRefusal e
key_refuses segments default_millis now ops k e h = by (segment_refusal segments k) (segment_refuses segments k e) h
  where
    by : (o : Option SlateDBError) → (o ≡ Some e → IsRefusal e) → first_refusal (o ∷ ttl_refusal k (reverse (map (op_expiry default_millis now) (kept ops k))) ∷ []) ≡ Some e → IsRefusal e
    by None here is = ttl_refuses k (reverse (map (op_expiry default_millis now) (kept ops k))) e is
    by (Some x) here is = here is

keys_refuse : (segments : Segments) (default_millis : Option ℕ) (now : ℤ) (ops : Ops) (ks : List (List ℕ)) (e : SlateDBError) → first_refusal (map (key_refusal segments default_millis now ops) ks) ≡ Some e → IsRefusal e
keys_refuse segments default_millis now ops [] e h = cc
keys_refuse segments default_millis now ops (k ∷ ks) e h = by (key_refusal segments default_millis now ops k) (key_refuses segments default_millis now ops k e) (keys_refuse segments default_millis now ops ks e) h
  where
    by : (o : Option SlateDBError) → (o ≡ Some e → IsRefusal e) → (first_refusal (map (key_refusal segments default_millis now ops) ks) ≡ Some e → IsRefusal e) → first_refusal (o ∷ map (key_refusal segments default_millis now ops) ks) ≡ Some e → IsRefusal e
    by None here later is = later is
    by (Some x) here later is = here is

nests_refuse : (all ps : List (List ℕ)) (e : SlateDBError) → first_refusal (map (nest_refusal all) ps) ≡ Some e → IsRefusal e
nests_refuse all [] e h = cc
nests_refuse all (p ∷ ps) e h = by (find (nest p) all) (nests_refuse all ps e) h
  where
    by : (o : Option (List ℕ)) → (first_refusal (map (nest_refusal all) ps) ≡ Some e → IsRefusal e) → first_refusal (option_map (λ q. errors.InvalidSegmentPrefix p q) o ∷ map (nest_refusal all) ps) ≡ Some e → IsRefusal e
    by None later is = later is
    by (Some q) later is = subst IsRefusal (some_error (errors.InvalidSegmentPrefix p q) e is) tt

either_refuses : (xs ys : List (Option SlateDBError)) (e : SlateDBError) → (first_refusal xs ≡ Some e → IsRefusal e) → (first_refusal ys ≡ Some e → IsRefusal e) → first_refusal (xs ++ ys) ≡ Some e → IsRefusal e
either_refuses [] ys e f g h = g h
either_refuses (None ∷ xs) ys e f g h = either_refuses xs ys e f g h
either_refuses (Some x ∷ xs) ys e f g h = f h

tests_refuse : (has held : Bool) (segments : Segments) (recorded : List (List ℕ)) (default_millis : Option ℕ) (now : ℤ) (ops : Ops) (e : SlateDBError) →
    first_refusal (test_refusals has held segments default_millis now ops ++ nest_refusals recorded (prefixes segments ops)) ≡ Some e → IsRefusal e
tests_refuse has held segments recorded default_millis now ops e h =
    either_refuses (test_refusals has held segments default_millis now ops) (nest_refusals recorded (prefixes segments ops)) e (by (held && not has))
    (nests_refuse (keys_set (recorded ++ prefixes segments ops)) (keys_set (prefixes segments ops)) e) h
  where
    by : (b : Bool) → first_refusal (when b errors.MergeOperatorMissing ∷ map (key_refusal segments default_millis now ops) (batch_keys ops)) ≡ Some e → IsRefusal e
    by true is = subst IsRefusal (some_error errors.MergeOperatorMissing e is) tt
    by false is = keys_refuse segments default_millis now ops (batch_keys ops) e is

-- error: that of the core; result: the session's
abbrev IsPassedOn : SlateDBError → Result Answer SlateDBError → Type 0
IsPassedOn error result = IfErr result (λ e. (e ≡ error) × (IsRefusal error → ⊥))

pub write_cause : {d : Given} {b : BatchModel} {before after : Reach} {alone same_env : Type 0} {old new : CoreModel} (session : SessionModel) (error : SlateDBError) (result : Result Answer SlateDBError) → session.core ≡ old → IsPassedOn error result →
    (let r : Result (Option ℕ) SlateDBError = Err error in WritesBatch d b before after alone same_env old new r) → IfErr result (λ e. IsFault before after e ⊎ IsLimit session e)
write_cause {d = d} {b = b} {before = before} {after = after} {old = old} session error result core other made = by result other (cause_of before after (let r : Result (Option ℕ) SlateDBError = Err error in r) (write_verdict d old b) made.answer)
  where
    refuses : ((error ≡ errors.SequenceExhausted) × (newest old ≡ 2 ^ 64 - 2)) ⊎ ((error ≡ errors.LimitReached LIMIT) × NoPlace 1 old) ⊎ (refusal_of d old b ≡ Some error) → ((error ≡ errors.LimitReached LIMIT) × NoPlace 1 old) ⊎ IsRefusal error
    refuses (inl exhausted) = inr (subst IsRefusal (sym exhausted.0) tt)
    refuses (inr (inl full)) = inl full
    refuses (inr (inr refused)) = inr (tests_refuse (is_some d.meaning.combine) b.held_merge d.segments old.segments old.settings.default_millis d.now b.ops error refused)

    ends : (x : SlateDBError) → (x ≡ error) × (IsRefusal error → ⊥) → ((error ≡ errors.LimitReached LIMIT) × NoPlace 1 old) ⊎ IsRefusal error → IsFault before after x ⊎ IsLimit session x
    ends x other (inl full) = inr (LIMIT, other.0 ∙ full.0, inl (let past : NoPlace 1 session.core = subst (NoPlace 1) (sym core) full.1 in omega (arith, past)))
    ends x other (inr refusal) = absurd (other.1 refusal)

    by : (r : Result Answer SlateDBError) → IsPassedOn error r → IsFault before after error ⊎ (write_verdict d old b ≡ Some error) → IfErr r (λ e. IsFault before after e ⊎ IsLimit session e)
    by (Ok a) other cause = tt
    by (Err x) other (inl fault) = inl (subst (IsFault before after) (sym other.0) fault)
    by (Err x) other (inr is) = ends x other (refuses (verdict_is d b old error is))

-- what the commit_verdict of a commit refuses it for is answered
verdict_refuses : (conflict : Option ℕ) (full : Bool) (ops : Ops) (tested : Option SlateDBError) (error : SlateDBError) → (tested ≡ Some error → IsRefusal error) →
    first_refusal (option_map errors.TransactionConflict conflict ∷ unless_empty ops (when full errors.SequenceExhausted ∷ tested ∷ [])) ≡ Some error → IsRefusal error
verdict_refuses (Some n) full ops tested error by is = subst IsRefusal (some_error (errors.TransactionConflict n) error is) tt
verdict_refuses None full [] tested error by is = cc
verdict_refuses None true (o ∷ os) tested error by is = subst IsRefusal (some_error errors.SequenceExhausted error is) tt
verdict_refuses None false (o ∷ os) (Some e) error by is = by is
verdict_refuses None false (o ∷ os) None error by is = cc

pub commit_cause : {d : Given} {id : List ℕ} {t : Tx} {before after : Reach} {old new : CoreModel} (session : SessionModel) (error : SlateDBError) (result : Result Answer SlateDBError) → IsPassedOn error result →
    (let r : Result (Option ℕ) SlateDBError = Err error in CommitsOpen d id t before after old new r) → IfErr result (λ e. IsFault before after e ⊎ IsLimit session e)
commit_cause {d = d} {t = t} {before = before} {after = after} {old = old} session error result other made = by result other (cause_of before after (let r : Result (Option ℕ) SlateDBError = Err error in r) (commit_verdict d old t) made.answer)
  where
    by : (r : Result Answer SlateDBError) → IsPassedOn error r → IsFault before after error ⊎ (commit_verdict d old t ≡ Some error) → IfErr r (λ e. IsFault before after e ⊎ IsLimit session e)
    by (Ok a) other cause = tt
    by (Err x) other (inl fault) = inl (subst (IsFault before after) (sym other.0) fault)
    by (Err x) other (inr is) = absurd (other.1 (verdict_refuses (conflict old.state.commits t) (last_of old.settings.start_seq old.state.commits == 2 ^ 64 - 2) t.ops (test_refusal d.meaning.combine d.segments old.segments old.settings.default_millis d.now t.ops) error
        (tests_refuse (is_some d.meaning.combine) (holds_merge t.ops) d.segments old.segments old.settings.default_millis d.now t.ops error) is))

-- ---- where no fault came

-- a refusal that is answered is no fault of the operator
no_callback : (before after : ℕ) (error : SlateDBError) → IsRefusal error → OperatorStays before after error → after ≡ before
no_callback before after (errors.Callback m) refusal stays = absurd refusal
no_callback before after error refusal stays = stays

pub refused_still : (before after : ℕ) (error : SlateDBError) (result : Result Answer SlateDBError) → OnOk result (IsRefusal error) → IsPassedOn error result → OperatorStays before after error → IsOperatorStill before after result
refused_still before after error (Ok a) refusal other stays = no_callback before after error refusal stays
refused_still before after error (Err x) refusal other stays = subst (λ (e : SlateDBError). OperatorStays before after e) (sym other.0) stays
