-- A line of the program, by its call on the core.
use Rattle.std.proofs.Common.{◌≡◌, ◌≢◌, ◌⊎◌, inl, inr, ℕ, ◌+◌, ◌-◌, ◌^◌, ◌<◌, ◌≤◌, ℤ, Bool, true, false, cond, nat_le, nat_lt, List, [], ◌∷◌, ◌++◌, map, filter, length, Option, Some, None, Result, Ok, refl, sym, ap, subst, ◌∙◌, arith, append-nil}
use Rattle.std.specs.Prelude.{IsSome}
use Rattle.std.specs.List.{cons_option}
use Rattle.std.proofs.lemmas.Bool.Decides.{nat_tests}
use Rattle.slate_types.specs.declared.config.IsolationLevel.TheVariants.{SerializableSnapshot}
use Rattle.slate_types.specs.declared.error.SlateDBError.{SlateDBError}
use Rattle.slate_types.specs.declared.error.SlateDBError.TheVariants.{LimitReached, OutOfMemory, SequenceExhausted}
use Rattle.slate_types.specs.Outside.{IsFault, Meaning, OnlyReads, Reach}
use Rattle.slate_filter.specs.Policy.{Policy}
use Rattle.slate_mem.specs.Batch.{batch_keys, kept_ops}
use Rattle.slate_mem.specs.KeyTests.{Segments}
use Rattle.slate_txn.specs.declared.event.Event.{Event}
use Rattle.slate_txn.specs.declared.event.Event.TheVariants as events
use Rattle.slate_txn.specs.Alone.{own_of}
use Rattle.slate_txn.proofs.Growing.{last_more}
use Rattle.slate_db.specs.Flushed.{NoPlace}
use Rattle.slate_db.specs.Load.{weight}
use Rattle.slate_db.specs.Log.{LIMIT}
use Rattle.slate_db.specs.Model.{CoreModel}
use Rattle.slate_steps.specs.Steps.{IsBeginError, newest}
use Rattle.slate_steps.specs.Reads.{IsReadFault}
use Rattle.slate_steps.proofs.Settling.{ended_weight}
use Rattle.slate_queue.specs.declared.entries.FeedEntry.{FeedEntry}
use Rattle.slate_queue.specs.declared.error.QueueError.{QueueError}
use Rattle.slate_queue.specs.declared.error.QueueError.TheVariants as errors
use Rattle.slate_queue.specs.Jobs as model
use Rattle.slate_queue.specs.Jobs.{Queue, Call, queue_step}
use Rattle.slate_queue.specs.Calls.{Commits, Form, IsRefusal, Keeps, Leaves, StandsIn, StepRefuses}
use Rattle.slate_queue.specs.Feed.{entry_above, feed_of}
use Rattle.slate_queue.specs.Onward.{goes_none}
use Rattle.slate_queue.specs.Runs.{Ends, GoesOn, IsReply, IsRunAt, WhyEnds}
use Rattle.slate_queue.specs.Script.{Reply, Run, called, committed, fed_above, keys_of, last_seq}
use Rattle.slate_queue.specs.Words.{fed_pair}

-- ---- feeds

feed_more : (n : ℕ) (es fs : List Event) → map fed_pair (feed_of n (es ++ fs)) ≡ map fed_pair (feed_of n es) ++ map fed_pair (feed_of n fs)
feed_more n [] fs = refl
feed_more n (e ∷ es) fs = by (entry_above n e) (feed_more n es fs)
  where
    by : (o : Option FeedEntry) → map fed_pair (feed_of n (es ++ fs)) ≡ map fed_pair (feed_of n es) ++ map fed_pair (feed_of n fs) →
        map fed_pair (cons_option o (feed_of n (es ++ fs))) ≡ map fed_pair (cons_option o (feed_of n es)) ++ map fed_pair (feed_of n fs)
    by None later = later
    by (Some x) later = ap (λ xs. fed_pair x ∷ xs) later

filter_more : (t : ℕ × ℕ → Bool) (xs : List (ℕ × ℕ)) (y : ℕ × ℕ) → filter t (xs ++ (y ∷ [])) ≡ filter t xs ++ cond (t y) (y ∷ []) []
filter_more t [] y = refl
filter_more t (x ∷ xs) y = by (t x) (filter_more t xs y)
  where
    by : (b : Bool) → filter t (xs ++ (y ∷ [])) ≡ filter t xs ++ cond (t y) (y ∷ []) [] → cond b (x ∷ filter t (xs ++ (y ∷ []))) (filter t (xs ++ (y ∷ []))) ≡ cond b (x ∷ filter t xs) (filter t xs) ++ cond (t y) (y ∷ []) []
    by true later = ap (λ ys. x ∷ ys) later
    by false later = later

-- ---- the core of a run, behind a call

stands_after : (before after : Reach) (d : CoreModel) (q : Queue) → OnlyReads before after → StandsIn before.meaning d q → StandsIn after.meaning d q
stands_after before after d q reads s = subst (λ (m : Meaning). StandsIn m d q) (sym reads.meaning) s

left_newest : (c d : CoreModel) → Leaves c d → newest d ≡ newest c
left_newest c d (inl same) = ap newest same
left_newest c d (inr h) = ap newest h.1.is

left_feed : (c d : CoreModel) (n : ℕ) → Leaves c d → map fed_pair (feed_of n d.events) ≡ map fed_pair (feed_of n c.events)
left_feed c d n (inl same) = ap (λ (v : CoreModel). map fed_pair (feed_of n v.events)) same
left_feed c d n (inr h) =
    ap (λ (v : CoreModel). map fed_pair (feed_of n v.events)) h.1.is
    ∙ feed_more n c.events (events.Begin h.0 SerializableSnapshot (newest c) ∷ events.End h.0 ∷ []) ∙ append-nil (map fed_pair (feed_of n c.events))

left_weight : (c d : CoreModel) → Leaves c d → weight c ≤ weight d
left_weight c d (inl same) = let e : weight d ≡ weight c = ap weight same in omega arith
left_weight c d (inr h) = let e : weight d ≡ weight c + 2 = ended_weight c d h.0 SerializableSnapshot h.1 in omega arith

pub run_left : (policies : List Policy) (seg : Segments) (before after : Reach) (c d : CoreModel) (r : Run) → OnlyReads before after → Leaves c d → Keeps policies seg before after c d → StandsIn before.meaning d r.queue →
    IsRunAt policies seg before c r → IsRunAt policies seg after d r
run_left policies seg before after c d r reads left keeps stands h = record {
  settled = keeps.settled h.settled;
  stands = stands_after before after d r.queue reads stands;
  newest = left_newest c d left ∙ h.newest;
  last = h.last;
  fed = λ n. left_feed c d n left ∙ h.fed n;
}

abbrev pub more_run : Run → Queue → ℕ → Run
more_run r q keys = record { queue = q; last = r.last + 1; fed = r.fed ++ ((r.last + 1, keys) ∷ []) }

pub run_more : (policies : List Policy) (seg : Segments) (before after : Reach) (c d : CoreModel) (r : Run) (p : Queue) (keys : ℕ) (form : Form) (now : ℤ) → OnlyReads before after → (h : Commits form now c d) → length (batch_keys (kept_ops (own_of h.steps))) ≡ keys →
    Keeps policies seg before after c d → StandsIn before.meaning d p → IsRunAt policies seg before c r → (nat_le last_seq r.last ≡ false) × IsRunAt policies seg after d (more_run r p keys)
run_more policies seg before after c d r p keys form now reads h long keeps stands at = (
  not_last,
  record {
    settled = keeps.settled at.settled;
    stands = stands_after before after d p reads stands;
    newest = next;
    last = most;
    fed = fed;
  },
)
  where
    apart : r.last ≢ 2 ^ 64 - 2
    apart e = h.left (at.newest ∙ e)

    most : r.last + 1 ≤ last_seq
    most = let l : r.last ≤ last_seq = at.last in omega arith

    not_last : nat_le last_seq r.last ≡ false
    not_last = grind (arith, nat_tests)

    seq_is : h.seq ≡ r.last + 1
    seq_is = h.committed.next.0 ∙ ap (λ (n : ℕ). n + 1) at.newest

    next : newest d ≡ r.last + 1
    next = ap newest h.committed.is ∙ last_more c.settings.start_seq c.state.commits (record { seq = h.seq; now = now; ops = kept_ops (own_of h.steps); tracked = batch_keys (own_of h.steps) }) ∙ seq_is

    entry : (n : ℕ) → map fed_pair (feed_of n (events.Begin h.id SerializableSnapshot (newest c) ∷ events.Commit h.id (Some h.seq) now (kept_ops (own_of h.steps)) (batch_keys (own_of h.steps)) h.steps ∷ []))
        ≡ cond (nat_lt n (r.last + 1)) ((r.last + 1, keys) ∷ []) []
    entry n = by (nat_lt n h.seq) refl ∙ (λ i. cond (nat_lt n (seq_is i)) ((seq_is i, long i) ∷ []) [])
      where
        by : (b : Bool) → nat_lt n h.seq ≡ b → map fed_pair (cons_option (cond b (Some (record { seq = h.seq; now = now; keys = batch_keys (kept_ops (own_of h.steps)) })) None) []) ≡ cond b ((h.seq, length (batch_keys (kept_ops (own_of h.steps)))) ∷ []) []
        by true e = refl
        by false e = refl

    fed : (n : ℕ) → map fed_pair (feed_of n d.events) ≡ fed_above n (more_run r p keys)
    fed n =
        ap (λ (v : CoreModel). map fed_pair (feed_of n v.events)) h.committed.is
        ∙ feed_more n c.events (events.Begin h.id SerializableSnapshot (newest c) ∷ events.Commit h.id (Some h.seq) now (kept_ops (own_of h.steps)) (batch_keys (own_of h.steps)) h.steps ∷ [])
        ∙ (λ i. at.fed n i ++ entry n i)
        ∙ sym (filter_more (λ (q : ℕ × ℕ). nat_lt n q.0) r.fed (r.last + 1, keys))

-- ---- the reply

pub called_done : (r : Run) (p : Queue) (a : model.Answer) (keys : ℕ) (step : Result (Queue × model.Answer) QueueError) → step ≡ Ok (p, a) → keys_of a ≡ Some keys → nat_le last_seq r.last ≡ false → called r step ≡ (more_run r p keys, Reply.Answered a)
called_done r p a keys step is has left =
    ap (called r) is ∙ ap (committed r p a) has ∙ ap (λ b. cond b (r, Reply.Refused (errors.Db SequenceExhausted)) (more_run r p keys, Reply.Answered a)) left

pub called_none : (r : Run) (p : Queue) (a : model.Answer) (step : Result (Queue × model.Answer) QueueError) → step ≡ Ok (p, a) → keys_of a ≡ None → called r step ≡ (r, Reply.Answered a)
called_none r p a step is has = ap (called r) is ∙ ap (committed r p a) has

pub called_refused : (r : Run) (step : Result (Queue × model.Answer) QueueError) (before after : Reach) (c : CoreModel) (call : Call) (e : QueueError) → step ≡ queue_step r.queue call → newest c ≡ r.last → StepRefuses r.queue call before after c e → IsReply e → called r step ≡ (r, Reply.Refused e)
called_refused r step before after c call e is same (StepRefuses.by_step h) reply = ap (called r) (is ∙ h)
called_refused r step before after c call e is same (StepRefuses.by_fault error h fault) reply = absurd (subst (IsFault before after) (subst IsReply h reply) fault)
called_refused r step before after c call e is same (StepRefuses.by_limit h none) reply = no (subst IsReply h reply)
  where
    no : {A : Type 0} → LimitReached LIMIT ≡ SequenceExhausted → A
    no g = cc
called_refused r step before after c call e is same (StepRefuses.by_end p a h some ends last) reply = by (keys_of a) refl some
  where
    full : nat_le last_seq r.last ≡ true
    full = let l : r.last ≡ 2 ^ 64 - 2 = sym same ∙ last in grind (arith, nat_tests)

    by : (o : Option ℕ) → keys_of a ≡ o → IsSome o → called r step ≡ (r, Reply.Refused e)
    by None g s = cc
    by (Some keys) g s =
        ap (called r) (is ∙ h) ∙ ap (committed r p a) g ∙ ap (λ b. cond b (r, Reply.Refused (errors.Db SequenceExhausted)) (more_run r p keys, Reply.Answered a)) full
        ∙ ap (λ (x : QueueError). (r, Reply.Refused x)) (sym ends)

-- ---- why a line ends the run

pub goes_one : (policies : List Policy) (seg : Segments) (before after : Reach) (c d : CoreModel) → OnlyReads before after → Keeps policies seg before after c d → GoesOn policies seg before after c d 1
goes_one policies seg before after c d reads keeps = record { reads = reads; settled = keeps.settled; vouched = keeps.vouched; queue = keeps.queue; grows = let w : weight d ≤ weight c + 2 = keeps.grows.0 in omega arith }

pub ends_memory : (policies : List Policy) (seg : Segments) (before after : Reach) (c d : CoreModel) (e : SlateDBError) → e ≡ OutOfMemory → Ends policies seg before after c d e
ends_memory policies seg before after c d e is = record { why = WhyEnds.by_fault (subst (IsFault before after) (sym is) tt); settled = λ s. inl (subst (IsFault before after) (sym is) tt) }

same_error : (x y : SlateDBError) → errors.Db x ≡ errors.Db y → x ≡ y
same_error x y e = cc

pub ends_by : (own : QueueError → Type 0) (policies : List Policy) (seg : Segments) (before after : Reach) (c d : CoreModel) (q : QueueError) (e : SlateDBError) → ((x : SlateDBError) → own (errors.Db x) → ⊥) → Leaves c d → q ≡ errors.Db e → e ≢ SequenceExhausted →
    IsRefusal own policies before after c q → Ends policies seg before after c d e
ends_by own policies seg before after c d q e none left is other (IsRefusal.by_call h) = absurd (none e (subst own is h))
ends_by own policies seg before after c d q e none left is other (IsRefusal.at_begin x h begin) = by (subst (IsBeginError c) (same_error x e (sym h ∙ is)) begin)
  where
    by : IsBeginError c e → Ends policies seg before after c d e
    by (inl memory) = ends_memory policies seg before after c d e memory
    by (inr limit) =
        let place : NoPlace 2 d = let l : LIMIT < weight c + 2 = limit.1 in let w : weight c ≤ weight d = left_weight c d left in omega arith in
        record { why = WhyEnds.by_limit limit.0 place; settled = λ s. inr (limit.0, place) }
ends_by own policies seg before after c d q e none left is other (IsRefusal.at_read id h) = record { why = by h.cause; settled = λ s. inl (subst (IsFault before after) same (h.undamaged seg s)) }
  where
    same : h.error ≡ e
    same = same_error h.error e (sym h.is ∙ is)

    by : (h.error ≡ OutOfMemory) ⊎ IsReadFault policies before after c id SerializableSnapshot h.error → WhyEnds policies seg before after c d e
    by (inl memory) = WhyEnds.by_fault (subst (IsFault before after) (sym memory ∙ same) tt)
    by (inr read) = WhyEnds.by_read 0 before c id (goes_none policies seg before c) (subst (IsReadFault policies before after c id SerializableSnapshot) same read)
ends_by own policies seg before after c d q e none left is other (IsRefusal.at_commit h last) = absurd (other (same_error e SequenceExhausted (sym is ∙ h)))
ends_by own policies seg before after c d q e none left is other (IsRefusal.by_fault x h fault) = record { why = WhyEnds.by_fault (subst (IsFault before after) (same_error x e (sym h ∙ is)) fault); settled = λ s. inl (subst (IsFault before after) (same_error x e (sym h ∙ is)) fault) }
