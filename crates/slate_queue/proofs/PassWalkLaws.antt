-- Walks over the rows of a scan of a database that threads share, one behind another, and one step of a claim's walk.
use Rattle.std.proofs.Common.{◌≡◌, ◌⊎◌, inl, inr, ℕ, ◌+◌, ◌<◌, ℤ, cond, List, [], ◌∷◌, ◌++◌, drop, Option, Result, Ok, Err, refl, sym, ap, subst, ◌∙◌, append_assoc, append-nil, arith}
use Rattle.std.specs.Prelude.{IfOk, IfErr, count_by}
use Rattle.std.proofs.lemmas.List.Sums.{sum_by-cons}
use Rattle.std.specs.List.{AllByRecursion}
use Rattle.slate_types.specs.declared.config.IsolationLevel.{IsolationLevel}
use Rattle.slate_types.specs.declared.config.IsolationLevel.TheVariants.{SerializableSnapshot}
use Rattle.slate_types.specs.declared.config.Options.{Options}
use Rattle.slate_types.specs.declared.error.SlateDBError.{SlateDBError}
use Rattle.slate_types.specs.declared.error.SlateDBError.TheVariants.{OutOfMemory}
use Rattle.slate_types.specs.declared.types.KeyValue.{KeyValue}
use Rattle.slate_types.specs.declared.types.RowEntry.{RowEntry}
use Rattle.slate_types.specs.Outside.{IsFault, Objects, OnlyReads, Reach}
use Rattle.slate_types.proofs.Reaching.{fault_earlier, reads_none, reads_then}
use Rattle.slate_filter.specs.Policy.{Policy}
use Rattle.slate_txn.specs.declared.event.Event.{Event}
use Rattle.slate_txn.specs.declared.event.TranscriptStep.{TranscriptStep}
use Rattle.slate_txn.specs.declared.event.TranscriptStep.TheVariants as steps
use Rattle.slate_txn.specs.Alone.{first_left}
use Rattle.slate_txn.specs.State.{Tx}
use Rattle.slate_txn.specs.Step.{is_scan}
use Rattle.slate_db.specs.declared.scan.TxnIterator.{TxnIterator}
use Rattle.slate_db.specs.Answered.{AnswersFrom}
use Rattle.slate_db.specs.Meaning.{Meaning}
use Rattle.slate_db.specs.Scans.{IsScanOf, id_of, number_of, scan_of}
use Rattle.slate_steps.proofs.Between.{from_last}
use Rattle.slate_steps.proofs.StoreTruth.{met_first, met_last}
use Rattle.slate_shared.specs.Passes.{Opened}
use Rattle.slate_steps.specs.Attempts.{IsAttempt, IsReadErrorOn, IsReadingOn, IsScanSinceOn, IsVouchedThere}
use Rattle.slate_steps.specs.Reads.{IsMetBy, IsUnslipped}
use Rattle.slate_queue.specs.declared.claiming.FreeJob.{FreeJob}
use Rattle.slate_queue.specs.declared.claiming.Step.{Step}
use Rattle.slate_queue.specs.declared.claiming.Step.TheVariants as step
use Rattle.slate_queue.specs.declared.error.QueueError.{QueueError}
use Rattle.slate_queue.specs.declared.error.QueueError.TheVariants as errors
use Rattle.slate_queue.specs.Commits.{IsPassed}
use Rattle.slate_queue.specs.CallSteps.{IsBadRow, nexts, scan_of_jobs}
use Rattle.slate_queue.specs.PassWalks.{HaltsOn, IsOpenTo, IsUnderWay, ScanFailsOn, WalkGoes, WalkHalts, WalkedOn, WalksOn, WalksToOn}
use Rattle.slate_queue.specs.Walks.{IsStepAt}
use Rattle.slate_queue.proofs.WalkLaws.{nexts_more}

below_more : (n k : ℕ) → n ≡ 0 → n < 1 + k
below_more n k is = omega arith

-- its first step opened one
opened_one : (n : ℕ) (taken : List TranscriptStep) → n ≡ 0 → n < count_by is_scan (scan_of_jobs ∷ taken)
opened_one n taken is = subst (λ (k : ℕ). n < k) (sym (sum_by-cons (λ (s : TranscriptStep). cond (is_scan s) 1 0) scan_of_jobs taken)) (below_more n (count_by is_scan taken) is)

module _ (o : Options) (m : Meaning) where
  -- ---- no step

  pub stays_on : (a : Reach) (t : Opened) (x : TxnIterator) → WalkedOn o m a a t t x x []
  stays_on a t x = record {
    walks = record {
      attempt = λ from level ts h. subst (λ (us : List TranscriptStep). IsAttempt o from level us t) (sym (append-nil ts)) h;
      sees = λ os rows opened vouched. vouched;
      seen = refl;
    };
    reading = λ os rows opened. (rows, opened.reading);
    since = λ from h. h;
    named = record { named = refl; number = refl; ordered = refl; ranged = refl };
    reads = reads_none a;
  }

  -- ---- one walk behind another

  walks_as : (a b : Reach) (t u : Opened) (x : TxnIterator) (us vs : List TranscriptStep) → us ≡ vs → WalksOn o m a b t u x us → WalksOn o m a b t u x vs
  walks_as a b t u x us vs is h = subst (WalksOn o m a b t u x) is h

  opened_first : (a b c : Reach) (t : Opened) (x : TxnIterator) (os : Objects) (rows : List RowEntry) → OnlyReads a b → OnlyReads b c → IsOpenTo o m t x a c os rows → IsOpenTo o m t x a b os rows
  opened_first a b c t x os rows first later h = record { meaning = h.meaning; met = met_first m os a b c first later h.met; reading = h.reading }

  opened_last : (a b c : Reach) (t u : Opened) (x y : TxnIterator) (us : List TranscriptStep) (os : Objects) (rows : List RowEntry) → (first : WalkedOn o m a b t u x y us) → OnlyReads b c → IsOpenTo o m t x a c os rows →
      (left : List RowEntry) × IsOpenTo o m u y b c os left
  opened_last a b c t u x y us os rows first later h =
      let left : (left : List RowEntry) × IsReadingOn os o m u y left = first.reading os rows (opened_first a b c t x os rows first.reads later h) in
      (left.0, record { meaning = first.reads.meaning ∙ h.meaning; met = met_last m os a b c first.reads later h.met; reading = left.1 })

  pub walks_then_on : (a b c : Reach) (t u v : Opened) (x y : TxnIterator) (us vs : List TranscriptStep) → WalkedOn o m a b t u x y us → OnlyReads b c → WalksOn o m b c u v y vs → WalksOn o m a c t v x (us ++ vs)
  walks_then_on a b c t u v x y us vs first later second = record {
    attempt = λ from level ts h. subst (λ (ws : List TranscriptStep). IsAttempt o from level ws v) (append_assoc ts us vs) (second.attempt from level (ts ++ us) (first.walks.attempt from level ts h));
    sees = λ os rows opened vouched.
        let left = opened_last a b c t u x y us os rows first later opened in
        second.sees os left.0 left.1 (first.walks.sees os rows (opened_first a b c t x os rows first.reads later opened) vouched);
    seen = second.seen ∙ first.walks.seen;
  }

  pub walked_then_on : (a b c : Reach) (t u v : Opened) (x y z : TxnIterator) (us vs : List TranscriptStep) → WalkedOn o m a b t u x y us → WalkedOn o m b c u v y z vs → WalkedOn o m a c t v x z (us ++ vs)
  walked_then_on a b c t u v x y z us vs first second = record {
    walks = walks_then_on a b c t u v x y us vs first second.reads second.walks;
    reading = λ os rows opened. let left = opened_last a b c t u x y us os rows first second.reads opened in second.reading os left.0 left.1;
    since = λ from h.
        subst (λ (es : List Event). IsScanSinceOn o from c es z) first.walks.seen
        (second.since from (subst (λ (es : List Event). IsScanSinceOn o from b es y) (sym first.walks.seen) (first.since from h)));
    named = record {
      named = second.named.named ∙ first.named.named;
      number = second.named.number ∙ first.named.number;
      ordered = second.named.ordered ∙ first.named.ordered;
      ranged = second.named.ranged ∙ first.named.ranged;
    };
    reads = reads_then a b c first.reads second.reads;
  }

  pub fails_then_on : (a b c : Reach) (t u v : Opened) (x y : TxnIterator) (us vs : List TranscriptStep) (q : QueueError) → WalkedOn o m a b t u x y us → ScanFailsOn o m b c u v y vs q → ScanFailsOn o m a c t v x (us ++ vs) q
  fails_then_on a b c t u v x y us vs q first second = record {
    walks = walks_then_on a b c t u v x y us vs first second.reads second.walks;
    error = second.error;
    is = second.is;
    undamaged = λ os rows opened answers.
        let left = opened_last a b c t u x y us os rows first second.reads opened in
        fault_earlier a b c second.error first.reads.later (second.undamaged os left.0 left.1 (from_last os a b c first.reads second.reads answers));
    cause = λ from policies reads since.
        subst (λ (es : List Event). IsReadErrorOn o policies from c es second.error) first.walks.seen
        (second.cause from policies (reads_then from a b reads first.reads) (subst (λ (es : List Event). IsScanSinceOn o from b es y) (sym first.walks.seen) (first.since from since)));
    reads = reads_then a b c first.reads second.reads;
  }

  -- ---- a claim's walk

  pub halts_then : (now : ℤ) (a b c : Reach) (t u v : Opened) (x y z : TxnIterator) (passed : List KeyValue) (q : QueueError) → AllByRecursion (IsPassed now) passed → WalkedOn o m a b t u x y (nexts passed) → HaltsOn o m b c u v y z q → WalkHalts now o m a c t v x q
  halts_then now a b c t u v x y z passed q passes first (HaltsOn.bad kv bad second) =
      WalkHalts.bad passed kv passes bad
      (walks_as a c t v x (nexts passed ++ nexts (kv ∷ [])) (nexts (passed ++ (kv ∷ []))) (sym (nexts_more passed (kv ∷ []))) (walks_then_on a b c t u v x y (nexts passed) (nexts (kv ∷ [])) first second.reads second.walks))
  halts_then now a b c t u v x y z passed q passes first (HaltsOn.fails kvs second) =
      WalkHalts.fails (passed ++ kvs)
      (subst (λ (us : List TranscriptStep). ScanFailsOn o m a c t v x us q) (sym (nexts_more passed kvs)) (fails_then_on a b c t u v x y (nexts passed) (nexts kvs) q first second))

  pub takes_then_on : (a b c : Reach) (t u v : Opened) (x y z : TxnIterator) (passed : List KeyValue) (kv : KeyValue) → WalkedOn o m a b t u x y (nexts passed) → WalkedOn o m b c u v y z (nexts (kv ∷ [])) → WalksOn o m a c t v x (nexts (passed ++ (kv ∷ [])))
  takes_then_on a b c t u v x y z passed kv first second =
      walks_as a c t v x (nexts passed ++ nexts (kv ∷ [])) (nexts (passed ++ (kv ∷ []))) (sym (nexts_more passed (kv ∷ []))) (walks_then_on a b c t u v x y (nexts passed) (nexts (kv ∷ [])) first second.reads second.walks)

  pub passes_then_on : (a b c : Reach) (t u v : Opened) (x y z : TxnIterator) (passed : List KeyValue) (kv : KeyValue) → WalkedOn o m a b t u x y (nexts passed) → WalkedOn o m b c u v y z (nexts (kv ∷ [])) → WalkedOn o m a c t v x z (nexts (passed ++ (kv ∷ [])))
  passes_then_on a b c t u v x y z passed kv first second =
      subst (WalkedOn o m a c t v x z) (sym (nexts_more passed (kv ∷ []))) (walked_then_on a b c t u v x y z (nexts passed) (nexts (kv ∷ [])) first second)

  -- no memory holds so many rows
  pub too_many_on : (now : ℤ) (a b : Reach) (t u : Opened) (x y : TxnIterator) (passed : List KeyValue) → WalkedOn o m a b t u x y (nexts passed) → WalkHalts now o m a b t u x (errors.Db OutOfMemory)
  too_many_on now a b t u x y passed h = WalkHalts.fails passed (record {
    walks = h.walks;
    error = OutOfMemory;
    is = refl;
    undamaged = λ os rows opened answers. tt;
    cause = λ from policies reads since. inl tt;
    reads = h.reads;
  })

  -- ---- what the scan answered

  pub met_by : {A : Type 0} (os : Objects) (before after : Reach) → (AnswersFrom os before after → A) → (IsUnslipped m os before after → A) → IsMetBy m os before after → A
  met_by os before after f g (inl answers) = f answers
  met_by os before after f g (inr unslipped) = g unslipped

  pub next_walked_on : (before after : Reach) (t u : Opened) (x y : TxnIterator) (a b : Option KeyValue) → a ≡ b → number_of x ≡ 0 →
      ((from : List Event) (level : IsolationLevel) (ts : List TranscriptStep) → IsAttempt o from level ts t → IsAttempt o from level (ts ++ (steps.Next (number_of x) a ∷ [])) u) →
      IsScanOf (id_of x) (number_of x) (scan_of x).order (scan_of x).range y →
      ((os : Objects) (rows : List RowEntry) → before.meaning ≡ m → IsMetBy m os before after → IsReadingOn os o m t x rows → (a ≡ first_left rows) × IsReadingOn os o m u y (drop 1 rows) × (IsVouchedThere o m t → IsVouchedThere o m u)) →
      ((from : Reach) → IsScanSinceOn o from before t.seen x → IsScanSinceOn o from after t.seen y) → u.seen ≡ t.seen → OnlyReads before after → WalkedOn o m before after t u x y (steps.Next 0 b ∷ [])
  next_walked_on before after t u x y a b same first within named reading since seen reads =
      subst (λ (e : Option KeyValue). WalkedOn o m before after t u x y (steps.Next 0 e ∷ [])) same (record {
        walks = record {
          attempt = λ from level ts h. subst (λ (n : ℕ). IsAttempt o from level (ts ++ (steps.Next n a ∷ [])) u) first (within from level ts h);
          sees = λ os rows opened vouched. (reading os rows opened.meaning opened.met opened.reading).2 vouched;
          seen = seen;
        };
        reading = λ os rows opened. (drop 1 rows, (reading os rows opened.meaning opened.met opened.reading).1);
        since = since;
        named = named;
        reads = reads;
      })

  pub next_fails_on : (before after : Reach) (t u : Opened) (x y : TxnIterator) (error : SlateDBError) → u ≡ t →
      ((os : Objects) (rows : List RowEntry) → before.meaning ≡ m → AnswersFrom os before after → IsReadingOn os o m t x rows → IsFault before after error) →
      ((from : Reach) (policies : List Policy) → OnlyReads from before → IsScanSinceOn o from before t.seen x → IsReadErrorOn o policies from after t.seen error) → OnlyReads before after →
      HaltsOn o m before after t u x y (errors.Db error)
  next_fails_on before after t u x y error same undamaged cause reads = HaltsOn.fails [] (record {
    walks = subst (λ (v : Opened). WalksOn o m before after t v x []) (sym same) (record {
      attempt = λ from level ts h. subst (λ (us : List TranscriptStep). IsAttempt o from level us t) (sym (append-nil ts)) h;
      sees = λ os rows opened vouched. vouched;
      seen = refl;
    });
    error = error;
    is = refl;
    undamaged = λ os rows opened answers. undamaged os rows opened.meaning answers opened.reading;
    cause = cause;
    reads = reads;
  })

  -- ---- what the row is

  pub row_goes_on : (now : ℤ) (before after : Reach) (t u : Opened) (x y : TxnIterator) (row : KeyValue) (result : Result Step QueueError) → WalkedOn o m before after t u x y (nexts (row ∷ [])) → IfOk result (IsStepAt now row) →
      IfOk result (WalkGoes now o m before after t u x y)
  row_goes_on now before after t u x y row (Ok step.Passed) walked h = (row, h, walked)
  row_goes_on now before after t u x y row (Ok (step.Free f)) walked h = (h.0, subst (λ (kv : KeyValue). WalkedOn o m before after t u x y (nexts (kv ∷ []))) (sym h.1) walked)
  row_goes_on now before after t u x y row (Ok step.End) walked h = absurd h
  row_goes_on now before after t u x y row (Err error) walked h = tt

  pub row_halts : (before after : Reach) (t u : Opened) (x y : TxnIterator) (row : KeyValue) (result : Result Step QueueError) → WalkedOn o m before after t u x y (nexts (row ∷ [])) →
      IfErr result (λ q. (q ≡ errors.Db OutOfMemory) ⊎ IsBadRow row q) → IfErr result (HaltsOn o m before after t u x y)
  row_halts before after t u x y row (Ok s) walked h = tt
  row_halts before after t u x y row (Err q) walked (inl memory) = HaltsOn.fails (row ∷ []) (record {
    walks = walked.walks;
    error = OutOfMemory;
    is = memory;
    undamaged = λ os rows opened answers. tt;
    cause = λ from policies reads since. inl tt;
    reads = walked.reads;
  })
  row_halts before after t u x y row (Err q) walked (inr bad) = HaltsOn.bad row bad walked

  -- ---- the walk goes on

  pub walking_next : (t u : Opened) (x y : TxnIterator) (a : Option KeyValue) → ((from : List Event) (level : IsolationLevel) (ts : List TranscriptStep) → IsAttempt o from level ts t → IsAttempt o from level (ts ++ (steps.Next (number_of x) a ∷ [])) u) →
      IsScanOf (id_of x) (number_of x) (scan_of x).order (scan_of x).range y → u.id ≡ t.id → IsUnderWay o t x → IsUnderWay o u y
  walking_next t u x y a within named same w = record {
    from = w.from;
    taken = w.taken ++ (steps.Next (number_of x) a ∷ []);
    attempt = within w.from SerializableSnapshot (scan_of_jobs ∷ w.taken) w.attempt;
    named = named.named ∙ w.named ∙ sym same;
    first = named.number ∙ w.first;
  }

  pub walking_same : (t u : Opened) (x y : TxnIterator) → u ≡ t → IsScanOf (id_of x) (number_of x) (scan_of x).order (scan_of x).range y → IsUnderWay o t x → IsUnderWay o u y
  walking_same t u x y same named w = subst (λ (v : Opened). IsUnderWay o v y) (sym same) (record {
    from = w.from;
    taken = w.taken;
    attempt = w.attempt;
    named = named.named ∙ w.named;
    first = named.number ∙ w.first;
  })

  pub may_go : (t : Opened) (x : TxnIterator) → IsUnderWay o t x → (id_of x ≡ t.id) × (number_of x < count_by is_scan t.tx.transcript)
  may_go t x w = (
    w.named,
    subst (λ (ts : List TranscriptStep). number_of x < count_by is_scan ts) (sym (ap (λ (k : Tx). k.transcript) w.attempt.is))
        (opened_one (number_of x) w.taken w.first),
  )

  -- ---- the same, whose moment is written otherwise

  pub goes_on_at : (w z : ℤ) (before after : Reach) (t u : Opened) (x y : TxnIterator) (s : Step) → w ≡ z → WalkGoes w o m before after t u x y s → WalkGoes z o m before after t u x y s
  goes_on_at w z before after t u x y s same h = subst (λ (now : ℤ). WalkGoes now o m before after t u x y s) same h

  pub walks_on_at : (w z : ℤ) (before after : Reach) (t u : Opened) (x : TxnIterator) (result : Result (Option FreeJob) QueueError) → w ≡ z → IfOk result (WalksToOn w o m before after t u x) → IfOk result (WalksToOn z o m before after t u x)
  walks_on_at w z before after t u x result same h = subst (λ (now : ℤ). IfOk result (WalksToOn now o m before after t u x)) same h

  pub halts_on_at : (w z : ℤ) (before after : Reach) (t u : Opened) (x : TxnIterator) (result : Result (Option FreeJob) QueueError) → w ≡ z → IfErr result (WalkHalts w o m before after t u x) → IfErr result (WalkHalts z o m before after t u x)
  halts_on_at w z before after t u x result same h = subst (λ (now : ℤ). IfErr result (WalkHalts now o m before after t u x)) same h
