-- The record of a commit, by the two ways in which it ends.
use Rattle.std.proofs.Common.{◌≡◌, ℕ, ◌-◌, ◌^◌, ◌≤◌, ◌<◌, ◌==◌, Bool, true, false, List, [], ◌∷◌, length, Option, Some, None, ◌⊎◌, inl, inr, ℤ, refl, sym, ap, subst}
use Rattle.std.specs.Prelude.{Result, Ok, Err, option_map}
use Rattle.slate_types.specs.declared.error.SlateDBError.{SlateDBError}
use Rattle.slate_types.specs.declared.error.SlateDBError.TheVariants.{OutOfMemory, SequenceExhausted, TransactionConflict}
use Rattle.slate_types.specs.Outside.{IsFault, Reach}
use Rattle.slate_mem.specs.Batch.{Ops}
use Rattle.slate_mem.specs.KeyTests.{Segments}
use Rattle.slate_mem.specs.Refusals.{first_refusal, when}
use Rattle.slate_txn.specs.Conflict.{conflict}
use Rattle.slate_txn.specs.HandedOver.{IsConflict}
use Rattle.slate_txn.specs.Managers.{Manager}
use Rattle.slate_txn.specs.Named.{find_named, without}
use Rattle.slate_txn.specs.Refusals.{unless_empty}
use Rattle.slate_txn.specs.State.{Tx}
use Rattle.slate_db.specs.declared.engine.Core.TheInside.{Inside}
use Rattle.slate_db.specs.BatchTests.{test_refusal}
use Rattle.slate_db.specs.Calls.Commit.{AsksNobody, CommitsOpen, commit_verdict, commit_verdict_of}
use Rattle.slate_db.specs.Calls.Common.{AsksOperator, Decides, Given, IsTransaction}
use Rattle.slate_db.specs.Committed.{IsCommitted, IsFull, IsNextOf, after_commit}
use Rattle.slate_db.specs.Log.{with_end}
use Rattle.slate_db.specs.Meaning.{combine_of}
use Rattle.slate_db.specs.Model.{CoreModel}
use Rattle.slate_db.specs.View.{view_of, unseen_of, IsWholeInside}
use Rattle.slate_db.proofs.Asks.{short_fault}
use Rattle.slate_db.proofs.CommitFacts.{ended_keeps, ended_others, stays}
use Rattle.slate_db.proofs.Commits.{HasCause, RowsAfter, core_after, event_made, kept_made, load_ended, load_made, refused_is, same_txn, segmented_made, step_made}
use Rattle.slate_db.proofs.Keeps.{kept_recorded}
use Rattle.slate_db.proofs.Verdicts.{below_of, decided_none, end_of, none_free, none_tested}
use Rattle.slate_db.proofs.Vouches.{below_next, others_commit}

-- ---- a core as it is inside

abbrev pub tests_inside : Given → Inside → Tx → Option SlateDBError
tests_inside d s t = test_refusal d.meaning.combine d.segments s.segments s.default_millis d.now t.ops

abbrev pub verdict_inside : Given → Inside → Tx → Option SlateDBError
verdict_inside d s t = commit_verdict_of (conflict s.log.commits t) s.log.last t.ops (tests_inside d s t)

-- of another operator, which makes the same, and in other words
abbrev pub verdict_by : {C : Type 0} → Option C → Segments → Inside → Tx → ℕ → ℤ → Option SlateDBError
verdict_by o g s t last z = commit_verdict_of (conflict s.log.commits t) last t.ops (test_refusal o g s.segments s.default_millis z t.ops)

-- ---- the verdict

-- an end by its verdict, in the words of the parts
caused : (fault : SlateDBError → Type 0) (e : SlateDBError) (free : Option ℕ) (last : ℕ) (ops : Ops) (full : Bool) (tested : Option SlateDBError) → last ≤ 2 ^ 64 - 2 → (last == 2 ^ 64 - 2) ≡ full → (e ≡ OutOfMemory → fault e) →
    (let r : Result (Option ℕ) SlateDBError = Err e in Decides (first_refusal (option_map TransactionConflict free ∷ unless_empty ops (when full SequenceExhausted ∷ tested ∷ []))) fault r) →
    fault e ⊎ IsConflict free e ⊎ IsFull last free ops e ⊎ ((free ≡ None) × (ops ≡ [] → ⊥) × (last < 2 ^ 64 - 2) × (tested ≡ Some e))
caused fault e (Some n) last ops full tested fits is short (inl h) = inr (inl (let same : e ≡ TransactionConflict n = cc in same))
caused fault e (Some n) last ops full tested fits is short (inr h) = inl (short cc)
caused fault e None last [] full tested fits is short h = inl h
caused fault e None last (o ∷ os) true tested fits is short (inl h) = inr (inr (inl ((let same : e ≡ SequenceExhausted = cc in same), end_of last is, refl, λ none. cc)))
caused fault e None last (o ∷ os) true tested fits is short (inr h) = inl (short cc)
caused fault e None last (o ∷ os) false None fits is short h = inl h
caused fault e None last (o ∷ os) false (Some f) fits is short (inl h) = inr (inr (inr (refl, (λ none. cc), below_of last fits is, (let same : e ≡ f = cc in ap Some (sym same)))))
caused fault e None last (o ∷ os) false (Some f) fits is short (inr h) = inl (short cc)

has_cause : (d : Given) (fault : SlateDBError → Type 0) (s : Inside) (t : Tx) (e : SlateDBError) → IsWholeInside s → (e ≡ OutOfMemory → fault e) →
    (let r : Result (Option ℕ) SlateDBError = Err e in Decides (verdict_inside d s t) fault r) → HasCause d.meaning.combine d.segments fault (view_of s) s.log.last d.now t e
has_cause d fault s t e w short decides = by (caused fault e (conflict s.log.commits t) s.log.last t.ops (s.log.last == 2 ^ 64 - 2) (tests_inside d s t) w.log.last_fits refl short decides)
  where
    by : fault e ⊎ IsConflict (conflict s.log.commits t) e ⊎ IsFull s.log.last (conflict s.log.commits t) t.ops e ⊎ ((conflict s.log.commits t ≡ None) × (t.ops ≡ [] → ⊥) × (s.log.last < 2 ^ 64 - 2) × (tests_inside d s t ≡ Some e)) →
        HasCause d.meaning.combine d.segments fault (view_of s) s.log.last d.now t e
    by (inl h) = inl h
    by (inr (inl h)) = inr (inl h)
    by (inr (inr (inl h))) = inr (inr (inl h))
    by (inr (inr (inr h))) = inr (inr (inr (record { free = h.0; some = h.1; place = h.2; is = h.3 })))

-- in the words of the parts
pub verdict_as : {C : Type 0} (d : Given) (s : Inside) (t : Tx) (o : Option C) (last : ℕ) (z : ℤ) → test_refusal o d.segments s.segments s.default_millis z t.ops ≡ tests_inside d s t → last ≡ s.log.last →
    verdict_by o d.segments s t last z ≡ verdict_inside d s t
verdict_as d s t o last z tests lasts = λ i. commit_verdict_of (conflict s.log.commits t) (lasts i) t.ops (tests i)

-- ---- the two ways

passed : (d : Given) (s : Inside) (t : Tx) (n : Option ℕ) → IsNextOf s.log.last t.ops n → verdict_inside d s t ≡ None → tests_inside d s t ≡ None
passed d s t n next none = none_tested (conflict s.log.commits t) s.log.last t.ops (tests_inside d s t) n next
    (λ empty. subst (λ (ops : Ops). test_refusal d.meaning.combine d.segments s.segments s.default_millis d.now ops ≡ None) (sym empty) refl) none

-- of the core as it is inside, and of its own transaction
pub commits_ok : (d : Given) (s : Inside) (id : List ℕ) (n : Option ℕ) (t : Tx) (spare : ℕ) (g : Manager) (before after : Reach) → IsWholeInside s → find_named id s.transactions ≡ Some t →
    (let r : Result (Option ℕ) SlateDBError = Ok n in Decides (verdict_inside d s t) (IsFault before after) r) → IsNextOf s.log.last t.ops n → (let r : Result (Option ℕ) SlateDBError = Ok n in AsksOperator before after r) →
    CommitsOpen d id t before after (view_of s) (view_of (core_after (combine_of d.meaning) d.segments s id n d.now t spare g)) (Ok n)
commits_ok d s id n t spare g before after w found decides next asks =
    let none : verdict_inside d s t ≡ None = decided_none (verdict_inside d s t) (IsFault before after) n decides in
    let free : conflict s.log.commits t ≡ None = none_free (conflict s.log.commits t) s.log.last t.ops (tests_inside d s t) none in
    let tested : tests_inside d s t ≡ None = passed d s t n next none in
    let c : CoreModel = view_of s in
    let new : CoreModel = view_of (core_after (combine_of d.meaning) d.segments s id n d.now t spare g) in
    let event : IsCommitted c new id n d.now t = event_made (combine_of d.meaning) d.segments c s.log.last id n d.now t spare next in
    record {
      answer = subst (λ (k : ℕ). let r : Result (Option ℕ) SlateDBError = Ok n in Decides (commit_verdict_of (conflict s.log.commits t) k t.ops (tests_inside d s t)) (IsFault before after) r) w.log.last decides;
      step = λ z. step_made d.meaning d.segments c (unseen_of s) id n d.now t (RowsAfter (combine_of d.meaning) c n d.now t) spare w z found free tested next;
      refused = λ operable z. tt;
      event = event;
      ended = tt;
      keeps = record {
        own = record {
          rows = λ k. kept_recorded d.meaning (after_commit c id n d.now t (RowsAfter (combine_of d.meaning) c n d.now t) spare) new.segments
              (kept_made d.meaning c (unseen_of s) id n d.now t spare d.segments s.segments next tested w k);
          segments = segmented_made d.meaning d.segments c id n d.now t spare tested;
        };
        refused = tt;
      };
      others = λ m k apart h. others_commit m c new id k s.log.last n d.now t apart (below_next c (unseen_of s) w) next event h;
      grows = load_made (combine_of d.meaning) c id n d.now t spare;
      stay = stays c new id d.now t (Ok n) event tt;
      asks = asks;
    }

pub commits_err : (d : Given) (s : Inside) (id : List ℕ) (t : Tx) (spare : ℕ) (g : Manager) (e : SlateDBError) (before after : Reach) → IsWholeInside s → find_named id s.transactions ≡ Some t →
    (let r : Result (Option ℕ) SlateDBError = Err e in Decides (verdict_inside d s t) (IsFault before after) r) → (let r : Result (Option ℕ) SlateDBError = Err e in AsksOperator before after r) →
    CommitsOpen d id t before after (view_of s) (view_of (record s { log = with_end s.log id spare; transactions = without id s.transactions; manager = g })) (Err e)
commits_err d s id t spare g e before after w found decides asks =
    let c : CoreModel = view_of s in
    let new : CoreModel = view_of (record s { log = with_end s.log id spare; transactions = without id s.transactions; manager = g }) in
    record {
      answer = subst (λ (k : ℕ). let r : Result (Option ℕ) SlateDBError = Err e in Decides (commit_verdict_of (conflict s.log.commits t) k t.ops (tests_inside d s t)) (IsFault before after) r) w.log.last decides;
      step = λ z. tt;
      refused = λ operable z. refused_is d.meaning d.segments (IsFault before after) c (unseen_of s) id d.now t spare e w operable z found (has_cause d (IsFault before after) s t e w (short_fault before after e) decides);
      event = tt;
      ended = refl;
      keeps = record { own = ended_keeps d.meaning d.segments c new id refl; refused = λ m g. ended_keeps m g c new id refl };
      others = ended_others c new id refl;
      grows = load_ended c id spare (length t.ops);
      stay = stays c new id d.now t (Err e) tt refl;
      asks = asks;
    }

-- of equal cores, and of the one transaction with the id
pub commits_moved : (d : Given) (id : List ℕ) (a b x y : CoreModel) (t u : Tx) (before after : Reach) (result : Result (Option ℕ) SlateDBError) → a ≡ b → x ≡ y → find_named id a.state.txns ≡ Some t → IsTransaction b id u → CommitsOpen d id t before after a x result → CommitsOpen d id u before after b y result
commits_moved d id a b x y t u before after result olds news here there made =
    subst (λ (v : Tx). CommitsOpen d id v before after b y result) (same_txn a b id t u olds here there)
    (subst (λ (v : CoreModel). CommitsOpen d id t before after v y result) olds
    (subst (λ (v : CoreModel). CommitsOpen d id t before after a v result) news made))

-- ---- whether the operator was asked

pub unasked_moved : (d : Given) (s : Inside) (c : CoreModel) (id : List ℕ) (t u : Tx) → IsWholeInside s → view_of s ≡ c → find_named id s.transactions ≡ Some t → IsTransaction c id u → AsksNobody (commit_verdict d c u) u.ops → AsksNobody (verdict_inside d s t) t.ops
unasked_moved d s c id t u w same here there h =
    subst (λ (k : ℕ). AsksNobody (commit_verdict_of (conflict s.log.commits t) k t.ops (tests_inside d s t)) t.ops) (sym w.log.last)
    (subst (λ (v : Tx). AsksNobody (commit_verdict d (view_of s) v) v.ops) (sym (same_txn (view_of s) c id t u same here there))
    (subst (λ (v : CoreModel). AsksNobody (commit_verdict d v u) u.ops) (sym same) h))
