-- What the steps of an attempt answer, from what the calls of the shared database do.
use Rattle.std.proofs.Common.{◌≡◌, ◌⊎◌, ◌-◌, ◌^◌, inl, inr, ℕ, ℤ, Bool, true, false, List, [], ◌∷◌, ◌++◌, length, map, drop, is_some, Option, Some, None, Result, Ok, Err, refl, sym, ap, subst, ◌∙◌}
use Rattle.std.specs.Prelude.{IfErr, IfOk, OnErr, OnOk, count_by, slice_get}
use mathlib.Core.List.{IsPrefix}
use Rattle.slate_types.specs.declared.bytes_range.BytesRange.{BytesRange}
use Rattle.slate_types.specs.declared.config.IsolationLevel.{IsolationLevel}
use Rattle.slate_types.specs.declared.config.Options.{Options}
use Rattle.slate_types.specs.declared.config.PutOptions.{PutOptions}
use Rattle.slate_types.specs.declared.config.Ttl.TheVariants.{Default}
use Rattle.slate_types.specs.declared.error.SlateDBError.{SlateDBError}
use Rattle.slate_types.specs.declared.error.SlateDBError.TheVariants.{LimitReached, MergeOperatorMissing, OutOfMemory, SequenceExhausted}
use Rattle.slate_types.specs.declared.filter_policy.FilterQuery.{FilterQuery}
use Rattle.slate_types.specs.declared.iter.IterationOrder.{IterationOrder}
use Rattle.slate_types.specs.declared.types.KeyValue.{KeyValue}
use Rattle.slate_types.specs.declared.types.RowEntry.{RowEntry}
use Rattle.slate_types.specs.Outside.{IsCounted, IsFault, Objects, OnlyReads, Reach}
use Rattle.slate_types.specs.Refusing.{NoMore}
use Rattle.slate_types.specs.World.{Checks, Made, Sees, Slips, World}
use Rattle.slate_filter.specs.Policy.{Policy}
use Rattle.slate_mem.specs.Batch.{batch_keys, kept_ops}
use Rattle.slate_mem.specs.declared.WriteOp.{WriteOp}
use Rattle.slate_mem.specs.declared.WriteOp.TheVariants.{Put}
use Rattle.slate_mem.specs.BatchModel.{holds_merge, is_merge_op, plain_put}
use Rattle.slate_mem.specs.KeyTests.{Segments}
use Rattle.slate_mem.proofs.PlainLaws.{plain_passes}
use Rattle.slate_txn.specs.declared.event.Event.{Event}
use Rattle.slate_txn.specs.declared.event.Event.TheVariants as events
use Rattle.slate_txn.specs.declared.event.TranscriptStep.{TranscriptStep}
use Rattle.slate_txn.specs.declared.event.TranscriptStep.TheVariants as steps
use Rattle.slate_txn.specs.Alone.{IsVouched, Left, first_left, own_of, scans_left}
use Rattle.slate_txn.specs.Conflict.{conflict, tracked_writes}
use Rattle.slate_txn.specs.HandedOver.{IsConflict}
use Rattle.slate_txn.specs.Replay.{IsLegal, replay}
use Rattle.slate_txn.specs.Reads.{rows_seen}
use Rattle.slate_txn.specs.Settings.{Settings, settings_of}
use Rattle.slate_txn.specs.State.{Commit, Tx, begun, last_of}
use Rattle.slate_txn.specs.Step.{with_op}
use Rattle.slate_txn.proofs.ScanLaws.{next_alone, next_moves, scan_alone}
use Rattle.slate_db.specs.declared.scan.TxnIterator.{TxnIterator}
use Rattle.slate_db.specs.Answered.{AnswersFrom}
use Rattle.slate_db.specs.BatchTests.{IsTestRefusal}
use Rattle.slate_db.specs.Checked.{ChecksFrom, SlipsFrom}
use Rattle.slate_db.specs.Committed.{IsFull, IsNextOf}
use Rattle.slate_db.specs.KeyShares.{IsKeyRead, IsShown}
use Rattle.slate_db.specs.Log.{LIMIT}
use Rattle.slate_db.specs.Meaning.{Meaning, rules_of}
use Rattle.slate_db.specs.Model.{CoreModel}
use Rattle.slate_db.specs.RangeShares.{IsOpened, LeavesSeen}
use Rattle.slate_db.specs.Readable.{decides_own, keeps_merge}
use Rattle.slate_db.specs.Readable as gets
use Rattle.slate_db.specs.Scans.{IsScanOf, IsWorldOf, Leaves, LeavesIn, OpensAlone, ScanRefuses, number_of, scan_of}
use Rattle.slate_db.specs.Segmented.{recorded_by}
use Rattle.slate_db.specs.Shown.{Asking}
use Rattle.slate_db.proofs.Readers.{reads_open}
use Rattle.slate_db.proofs.ScanWorlds.{sees_world, slips_of_world, world_holds}
use Rattle.slate_db.proofs.UnderKeys.{plain_keeps}
use Rattle.slate_shared.specs.Ended.{HasEnded}
use Rattle.slate_shared.specs.KeyReads.{IsCoreOf, IsGet, got}
use Rattle.slate_shared.specs.LockedModel.{IsFull as IsNoPlace}
use Rattle.slate_shared.specs.Passes.{Opened, PassModel}
use Rattle.slate_shared.specs.Scans.{IsLeftOf, IsScanOpened, noted_next, noted_scan, rows_in, rows_of_range}
use Rattle.slate_shared.proofs.Lists.{prefix_more, prefix_self, prefix_trans}
use Rattle.slate_steps.specs.Attempts.{HasCommittedBehind, HasEndedBehind, IsAttempt, IsReadCore, IsReadErrorOn, IsReadingOn, IsRefusedBehind, IsScanSinceOn, IsStoreChecked, IsStoreTrue, IsUnbegun, IsVouchedThere, SeesMore, SeesOnly}
use Rattle.slate_steps.specs.Reads.{IsMetBy, IsReadError, IsScanSince, IsUnslipped, of_get}
use Rattle.slate_steps.specs.Steps.{IsNext}
use Rattle.slate_steps.proofs.Attempts.{attempt_alone, attempt_alone_before, attempt_left, attempt_noted, attempt_own_more, attempt_plain, attempt_stays, vouched_begun, vouched_on, vouched_own}
use Rattle.slate_steps.proofs.Ending.{all_tracked}
use Rattle.slate_steps.proofs.Reading.{if_err_map, if_ok_map, next_error, on_ok_map, scan_error, since_next, since_opening}
use Rattle.slate_steps.proofs.StoreTruth.{readable_core, store_answered, true_of}

read_core : (o : Options) (m n : Meaning) (t : Opened) (seen : List Event) (c : CoreModel) → m ≡ n → holds_merge t.tx.ops ≡ false → IsCoreOf o m t seen c → IsReadCore o n seen c
read_core o m n t seen c meant plain core = record { reader = t; plain = plain; core = subst (λ (x : Meaning). IsCoreOf o x t seen c) meant core }

-- ---- a get

module _ (o : Options) (m : Meaning) (policies : List Policy) (query : FilterQuery) (k : List ℕ) (old new : Opened) (before after : Reach) where
  abbrev Got : Result (Option KeyValue) SlateDBError → Type 0
  Got r = IsGet o m (record { policies = policies; query = query }) k old new before after r

  pub get_attempt : (r : Result (Option KeyValue) SlateDBError) → Got r → (from : List Event) (level : IsolationLevel) (ts : List TranscriptStep) → IsAttempt o from level ts old → IfOk r (λ a. IsAttempt o from level (ts ++ (steps.Get k a ∷ [])) new)
  get_attempt (Ok a) g from level ts h = attempt_noted o from level ts old new (steps.Get k a) refl g.noted g.seen h
  get_attempt (Err e) g from level ts h = tt

  pub get_refused : (r : Result (Option KeyValue) SlateDBError) → Got r → (from : List Event) (level : IsolationLevel) (ts : List TranscriptStep) → IsAttempt o from level ts old → OnErr r (IsAttempt o from level ts new)
  get_refused (Ok a) g from level ts h = tt
  get_refused (Err e) g from level ts h = attempt_stays o from level ts old new g.unnoted g.seen h

  vouched_by : (from : List Event) (level : IsolationLevel) (ts us : List TranscriptStep) → IsAttempt o from level ts old → IsAttempt o from level us new → IsPrefix old.seen new.seen →
      (IsVouched (rules_of (settings_of o) m) (replay new.seen).commits old.tx → IsVouched (rules_of (settings_of o) m) (replay new.seen).commits new.tx) → IsVouchedThere o m old → IsVouchedThere o m new
  vouched_by from level ts us a b more now v = record {
    by_each = λ es known legal.
        attempt_alone o from level us new b new.seen es (prefix_self new.seen) known legal (rules_of (settings_of o) m) new.tx.transcript
        (now (attempt_alone_before o from level ts old a new.seen es more known legal (rules_of (settings_of o) m) old.tx.transcript (v.by_each es (prefix_trans old.seen new.seen es more known) legal)));
  }

  pub get_vouched_there : (r : Result (Option KeyValue) SlateDBError) → Got r → (from : List Event) (level : IsolationLevel) (ts : List TranscriptStep) → IsAttempt o from level ts old →
      IsStoreTrue policies m new.seen before after → IsVouchedThere o m old → IsVouchedThere o m new
  get_vouched_there (Ok a) g from level ts h s v =
      vouched_by from level ts (ts ++ (steps.Get k a ∷ [])) h (attempt_noted o from level ts old new (steps.Get k a) refl g.noted g.seen h) g.seen
      (g.vouched (store_answered policies m new.seen old.tx.ops before after (attempt_plain o from level ts old h) s)) v
  get_vouched_there (Err e) g from level ts h s v = vouched_on o m old new (ap (λ (x : Opened). x.tx) g.unnoted) g.seen v

  pub get_checked : before.meaning ≡ m → (r : Result (Option KeyValue) SlateDBError) → Got r → (from : List Event) (level : IsolationLevel) (ts : List TranscriptStep) → IsAttempt o from level ts old →
      IsStoreChecked policies m new.seen before after → IsVouchedThere o m old → OnOk r (IsVouchedThere o m new)
  get_checked same (Err e) g from level ts h s v = tt
  get_checked same (Ok a) g from level ts h s v = by s.met
    where
      by_answers : AnswersFrom s.os before after → IsVouchedThere o m new
      by_answers answers = get_vouched_there (Ok a) g from level ts h (true_of policies m new.seen before after s answers) v

      read : (◌≡◌ {A = Result (Option KeyValue) SlateDBError} (Ok a) (Err OutOfMemory) × (after ≡ before)) ⊎ ((c : CoreModel) × IsCoreOf o m old new.seen c × IsKeyRead (record { policies = policies; query = query }) before after c k old.tx IsShown (Ok a)) →
          ChecksFrom s.os before after
      read (inl nothing) = cc nothing.0
      read (inr (c, core, r)) = r.read.checked s.os (readable_core o m policies old new.seen before after same c core (attempt_plain o from level ts old h) s)

      checks : (d : Bool) → decides_own k old.tx.ops ≡ d → ChecksFrom s.os before after
      checks true some = λ known began. inl (inr (record { known = known; more = []; began = began; ended = (g.decided some).1.quiet.adds known began; each = tt }))
      checks false none = read (g.read none)

      by : IsMetBy m s.os before after → IsVouchedThere o m new
      by (inl answers) = by_answers answers
      by (inr u) = on (checks (decides_own k old.tx.ops) refl u.known u.tells)
        where
          on : AnswersFrom s.os before after ⊎ SlipsFrom before.meaning.encode s.os before.acts after.acts → IsVouchedThere o m new
          on (inl answers) = by_answers answers
          on (inr slips) = absurd (u.none (subst (λ (x : Meaning). SlipsFrom x.encode s.os before.acts after.acts) same slips))

  pub get_undamaged : (r : Result (Option KeyValue) SlateDBError) → Got r → (from : List Event) (level : IsolationLevel) (ts : List TranscriptStep) → IsAttempt o from level ts old →
      IsStoreTrue policies m new.seen before after → IfErr r (IsFault before after)
  get_undamaged r g from level ts h s = g.undamaged (store_answered policies m new.seen old.tx.ops before after (attempt_plain o from level ts old h) s)

  pub get_cause : (r : Result (Option KeyValue) SlateDBError) → Got r → (from : List Event) (level : IsolationLevel) (ts : List TranscriptStep) → IsAttempt o from level ts old → m ≡ before.meaning → IfErr r (IsReadErrorOn o policies before after new.seen)
  get_cause (Ok a) g from level ts h meant = tt
  get_cause (Err e) g from level ts h meant = by (decides_own k old.tx.ops) refl
    where
      own : IsFault before after e ⊎ ((e ≡ MergeOperatorMissing) × (before.meaning.combine ≡ None) × (keeps_merge k old.tx.ops ≡ true)) → IsReadErrorOn o policies before after new.seen e
      own (inl fault) = inl fault
      own (inr (is, lacks, some)) = let clash : true ≡ false = sym some ∙ plain_keeps k old.tx.ops (attempt_plain o from level ts old h) in cc

      read : (◌≡◌ {A = Result (Option KeyValue) SlateDBError} (Err e) (Err OutOfMemory) × (after ≡ before)) ⊎ ((c : CoreModel) × IsCoreOf o m old new.seen c × IsKeyRead (record { policies = policies; query = query }) before after c k old.tx IsShown (Err e)) →
          IsReadErrorOn o policies before after new.seen e
      read (inl nothing) = let out : e ≡ OutOfMemory = cc nothing.0 in inl (subst (IsCounted before.faults after.faults) (sym out) tt)
      read (inr (c, core, r)) = inr (c, read_core o m before.meaning old new.seen c meant (attempt_plain o from level ts old h) core, of_get old.id query (subst (λ (n : ℕ). gets.IsReadError (record { policies = policies; query = query }) n before after c e) (sym (reads_open c.state old.id old.tx core.open_there)) r.read.cause))

      by : (d : Bool) → decides_own k old.tx.ops ≡ d → IsReadErrorOn o policies before after new.seen e
      by true some = own ((g.decided some).1.cause)
      by false none = read (g.read none)

-- ---- an opening

module _ (o : Options) (m : Meaning) (policies : List Policy) (query : Option FilterQuery) (range : BytesRange) (order : IterationOrder) (old new : Opened) (before after : Reach) (quiet : Type 0) where
  abbrev Opens : Result TxnIterator SlateDBError → Type 0
  Opens r = IsScanOpened o m policies query range order old new before after quiet r

  pub scan_attempt : (r : Result TxnIterator SlateDBError) → Opens r → (from : List Event) (level : IsolationLevel) (ts : List TranscriptStep) → IsAttempt o from level ts old → OnOk r (IsAttempt o from level (ts ++ (steps.Scan order range ∷ [])) new)
  scan_attempt (Ok it) h from level ts a = attempt_noted o from level ts old new (steps.Scan order range) refl h.noted h.seen a
  scan_attempt (Err e) h from level ts a = tt

  pub scan_refused : (r : Result TxnIterator SlateDBError) → Opens r → (from : List Event) (level : IsolationLevel) (ts : List TranscriptStep) → IsAttempt o from level ts old → OnErr r (IsAttempt o from level ts new)
  scan_refused (Ok it) h from level ts a = tt
  scan_refused (Err e) h from level ts a = attempt_stays o from level ts old new h.unnoted h.seen a

  pub scan_vouched_there : (r : Result TxnIterator SlateDBError) → Opens r → IsVouchedThere o m old → IsVouchedThere o m new
  scan_vouched_there (Ok it) h v = record {
    by_each = λ es known legal.
        subst (IsVouched (rules_of (settings_of o) m) (replay es).commits) (sym (ap (λ (x : Opened). x.tx) h.noted))
        (scan_alone (rules_of (settings_of o) m) (replay es).commits old.tx.begin old.tx.transcript order range (v.by_each es (prefix_trans old.seen new.seen es h.seen known) legal));
  }
  scan_vouched_there (Err e) h v = vouched_on o m old new (ap (λ (x : Opened). x.tx) h.unnoted) h.seen v

  scan_left_on : (it : TxnIterator) → Opens (Ok it) → (from : List Event) (level : IsolationLevel) (ts : List TranscriptStep) → IsAttempt o from level ts old → (es : List Event) → IsPrefix new.seen es → IsLegal o.start_seq es →
      IsLeftOf o m (record new { seen = es }) it (rows_of_range o m new.seen old.tx order range)
  scan_left_on it h from level ts a es known legal =
      ap (λ (ls : List Left). slice_get ls (number_of it))
      (attempt_left o from level (ts ++ (steps.Scan order range ∷ [])) new (attempt_noted o from level ts old new (steps.Scan order range) refl h.noted h.seen a) new.seen es (prefix_self new.seen) known legal
      (rules_of (settings_of o) m) new.tx.transcript)
      ∙ h.left

  pub scan_reading_on : (r : Result TxnIterator SlateDBError) → Opens r → (from : List Event) (level : IsolationLevel) (ts : List TranscriptStep) → IsAttempt o from level ts old → (s : IsStoreTrue policies m new.seen before after) →
      IfOk r (λ it. IsReadingOn s.os o m new it (rows_of_range o m new.seen old.tx order range))
  unfolding store_answered
  scan_reading_on (Ok it) h from level ts a s = record {
    left = λ es known legal. scan_left_on it h from level ts a es known legal;
    leaves = h.leaves (store_answered policies m new.seen old.tx.ops before after (attempt_plain o from level ts old a) s);
  }
  scan_reading_on (Err e) h from level ts a s = tt

  pub scan_checked : before.meaning ≡ m → (r : Result TxnIterator SlateDBError) → Opens r → (from : List Event) (level : IsolationLevel) (ts : List TranscriptStep) → IsAttempt o from level ts old →
      (s : IsStoreChecked policies m new.seen before after) → IfOk r (λ it. IsReadingOn s.os o m new it (rows_of_range o m new.seen old.tx order range))
  scan_checked same (Err e) h from level ts a s = tt
  scan_checked same (Ok it) h from level ts a s = by s.met
    where
      pick : (c : CoreModel) → IsCoreOf o m old new.seen c → LeavesSeen s.os before.meaning c old.tx.begin old.tx.ops range order (scan_of it) → LeavesIn s.os m it (rows_of_range o m new.seen old.tx order range)
      pick c core left =
          let commits : c.state.commits ≡ (replay new.seen).commits = sym core.replays.commits ∙ ap (λ (es : List Event). (replay es).commits) core.events in
          subst (λ (y : Meaning × (Settings × List Commit)). (w : World) × IsWorldOf s.os y.0 w × Leaves (scan_of it) w (rows_seen (rules_of y.1.0 y.0) y.1.1 old.tx.begin old.tx.ops order range))
          (λ i. (same i, (core.settings i, commits i))) left

      leaves : IsUnslipped m s.os before after → (◌≡◌ {A = Result TxnIterator SlateDBError} (Ok it) (Err OutOfMemory) × quiet) ⊎
          ((c : CoreModel) × IsCoreOf o m old new.seen c × ((◌≡◌ {A = Result TxnIterator SlateDBError} (Ok it) (Err OutOfMemory) × OpensAlone policies query before after c) ⊎ IsOpened policies query before after c old.tx.begin old.tx.ops range order (rows_in (Ok it)))) →
          LeavesIn s.os m it (rows_of_range o m new.seen old.tx order range)
      leaves u (inl nothing) = cc nothing.0
      leaves u (inr (c, core, inl is)) = cc is.0
      leaves u (inr (c, core, inr is)) = on (is.checked core.above_floor s.os (readable_core o m policies old new.seen before after same c core (attempt_plain o from level ts old a) s) u.known u.tells)
        where
          on : LeavesSeen s.os before.meaning c old.tx.begin old.tx.ops range order (scan_of it) ⊎ SlipsFrom before.meaning.encode s.os before.acts after.acts → LeavesIn s.os m it (rows_of_range o m new.seen old.tx order range)
          on (inl left) = pick c core left
          on (inr slips) = absurd (u.none (subst (λ (x : Meaning). SlipsFrom x.encode s.os before.acts after.acts) same slips))

      by : IsMetBy m s.os before after → IsReadingOn s.os o m new it (rows_of_range o m new.seen old.tx order range)
      by (inl answers) = scan_reading_on (Ok it) h from level ts a (true_of policies m new.seen before after s answers)
      by (inr u) = record { left = λ es known legal. scan_left_on it h from level ts a es known legal; leaves = leaves u h.opened }

  pub scan_undamaged : (r : Result TxnIterator SlateDBError) → Opens r → (from : List Event) (level : IsolationLevel) (ts : List TranscriptStep) → IsAttempt o from level ts old →
      IsStoreTrue policies m new.seen before after → IfErr r (IsFault before after)
  scan_undamaged r h from level ts a s = h.undamaged (store_answered policies m new.seen old.tx.ops before after (attempt_plain o from level ts old a) s)

  unfoldable since_core : (it : TxnIterator) (c : CoreModel) → IsReadCore o before.meaning new.seen c → IsOpened policies query before after c old.tx.begin old.tx.ops range order (Ok (scan_of it)) → IsScanSinceOn o before after new.seen it
  since_core it c core is = (c, core, since_opening policies query before after c it is.later.1)

  since_memory : (it : TxnIterator) → ◌≡◌ {A = Result TxnIterator SlateDBError} (Ok it) (Err OutOfMemory) → IsScanSinceOn o before after new.seen it
  since_memory it is = cc is

  pub scan_since : (r : Result TxnIterator SlateDBError) → Opens r → (from : List Event) (level : IsolationLevel) (ts : List TranscriptStep) → IsAttempt o from level ts old → m ≡ before.meaning → IfOk r (IsScanSinceOn o before after new.seen)
  scan_since (Err e) h from level ts a meant = tt
  scan_since (Ok it) h from level ts a meant = by h.opened
    where
      by : (◌≡◌ {A = Result TxnIterator SlateDBError} (Ok it) (Err OutOfMemory) × quiet) ⊎
          ((c : CoreModel) × IsCoreOf o m old new.seen c × ((◌≡◌ {A = Result TxnIterator SlateDBError} (Ok it) (Err OutOfMemory) × OpensAlone policies query before after c) ⊎ IsOpened policies query before after c old.tx.begin old.tx.ops range order (rows_in (Ok it)))) →
          IsScanSinceOn o before after new.seen it
      by (inl nothing) = since_memory it nothing.0
      by (inr (c, core, inl is)) = since_memory it is.0
      by (inr (c, core, inr is)) = since_core it c (read_core o m before.meaning old new.seen c meant (attempt_plain o from level ts old a) core) is

  pub scan_cause : (r : Result TxnIterator SlateDBError) → Opens r → (from : List Event) (level : IsolationLevel) (ts : List TranscriptStep) → IsAttempt o from level ts old → m ≡ before.meaning → IfErr r (IsReadErrorOn o policies before after new.seen)
  scan_cause (Ok it) h from level ts a meant = tt
  scan_cause (Err e) h from level ts a meant = by h.opened
    where
      memory : ◌≡◌ {A = Result TxnIterator SlateDBError} (Err e) (Err OutOfMemory) → IsReadErrorOn o policies before after new.seen e
      memory is = let out : e ≡ OutOfMemory = cc is in inl (subst (IsCounted before.faults after.faults) (sym out) tt)

      by : (◌≡◌ {A = Result TxnIterator SlateDBError} (Err e) (Err OutOfMemory) × quiet) ⊎
          ((c : CoreModel) × IsCoreOf o m old new.seen c × ((◌≡◌ {A = Result TxnIterator SlateDBError} (Err e) (Err OutOfMemory) × OpensAlone policies query before after c) ⊎ IsOpened policies query before after c old.tx.begin old.tx.ops range order (rows_in (Err e)))) →
          IsReadErrorOn o policies before after new.seen e
      by (inl nothing) = memory nothing.0
      by (inr (c, core, inl is)) = memory is.0
      by (inr (c, core, inr is)) = inr (c, read_core o m before.meaning old new.seen c meant (attempt_plain o from level ts old a) core, scan_error {A = TxnIterator} (Err e) policies query before after c is.cause)

-- ---- a next

module _ (o : Options) (m : Meaning) (t u : Opened) (x y : TxnIterator) (before after : Reach) where
  pub next_attempt : (r : Result (Option KeyValue) SlateDBError) → IfOk r (λ a. u ≡ record t { tx = noted_next (number_of x) a t.tx }) → (from : List Event) (level : IsolationLevel) (ts : List TranscriptStep) → IsAttempt o from level ts t →
      IfOk r (λ a. IsAttempt o from level (ts ++ (steps.Next (number_of x) a ∷ [])) u)
  next_attempt (Err e) noted from level ts h = tt
  next_attempt (Ok a) noted from level ts h =
      attempt_noted o from level ts t u (steps.Next (number_of x) a) refl (noted ∙ (λ i. record t { seen = (sym noted i).seen; tx = noted_next (number_of x) a t.tx }))
      (subst (λ (es : List Event). IsPrefix t.seen es) (sym (ap (λ (v : Opened). v.seen) noted)) (prefix_self t.seen)) h

  next_reading_by : (r : Result (Option KeyValue) SlateDBError) → IfOk r (λ a. u ≡ record t { tx = noted_next (number_of x) a t.tx }) → IsScanOf x.id (number_of x) (scan_of x).order (scan_of x).range y →
      ((w : World) (left : List RowEntry) → Leaves (scan_of x) w left → Sees w before after → IfOk r (λ a. (a ≡ first_left left) × Leaves (scan_of y) w (drop 1 left))) →
      (os : Objects) (rows : List RowEntry) → ((w : World) → IsWorldOf os m w → Leaves (scan_of x) w rows → Sees w before after) → IsReadingOn os o m t x rows →
      IfOk r (λ a. (a ≡ first_left rows) × IsReadingOn os o m u y (drop 1 rows) × (IsVouchedThere o m t → IsVouchedThere o m u))
  next_reading_by (Err e) noted names answers os rows met h = tt
  next_reading_by (Ok a) noted names answers os rows met h = by h.leaves
    where
      from : (es : List Event) → IsPrefix u.seen es → IsPrefix t.seen es
      from es known = subst (λ (fs : List Event). IsPrefix fs es) (ap (λ (v : Opened). v.seen) noted) known

      by : LeavesIn os m x rows → (a ≡ first_left rows) × IsReadingOn os o m u y (drop 1 rows) × (IsVouchedThere o m t → IsVouchedThere o m u)
      by (w, is, leaves) =
          let q = answers w rows leaves (met w is leaves) in (
            q.0,
            record {
              left = λ es known legal.
                  (λ i. slice_get (scans_left (rules_of (settings_of o) m) (replay es).commits (noted i).tx.begin (noted i).tx.transcript) (names.number i))
                  ∙ next_moves (rules_of (settings_of o) m) (replay es).commits t.tx.begin t.tx.transcript (number_of x) a ((scan_of x).order, rows) (h.left es (from es known) legal)
                  ∙ ap (λ (d : IterationOrder). Some (d, drop 1 rows)) (sym names.ordered);
              leaves = (w, is, q.1);
            },
            λ v. record {
              by_each = λ es known legal.
                  subst (IsVouched (rules_of (settings_of o) m) (replay es).commits) (sym (ap (λ (z : Opened). z.tx) noted))
                  (next_alone (rules_of (settings_of o) m) (replay es).commits t.tx.begin t.tx.transcript (number_of x) a ((scan_of x).order, rows) (h.left es (from es known) legal) q.0 (v.by_each es (from es known) legal));
            },
          )

  pub next_reading_on : (r : Result (Option KeyValue) SlateDBError) → IfOk r (λ a. u ≡ record t { tx = noted_next (number_of x) a t.tx }) → IsScanOf x.id (number_of x) (scan_of x).order (scan_of x).range y →
      ((w : World) (left : List RowEntry) → Leaves (scan_of x) w left → Sees w before after → IfOk r (λ a. (a ≡ first_left left) × Leaves (scan_of y) w (drop 1 left))) →
      (os : Objects) (rows : List RowEntry) → before.meaning ≡ m → AnswersFrom os before after → IsReadingOn os o m t x rows →
      IfOk r (λ a. (a ≡ first_left rows) × IsReadingOn os o m u y (drop 1 rows) × (IsVouchedThere o m t → IsVouchedThere o m u))
  next_reading_on r noted names answers os rows meant answered h = next_reading_by r noted names answers os rows (λ w is leaves. sees_world os w before after (is.meaning ∙ sym meant) (world_holds os m w is) answered) h

  pub next_checked_on : (r : Result (Option KeyValue) SlateDBError) → IfOk r (λ a. u ≡ record t { tx = noted_next (number_of x) a t.tx }) → IsScanOf x.id (number_of x) (scan_of x).order (scan_of x).range y →
      ((w : World) (left : List RowEntry) → Leaves (scan_of x) w left → Sees w before after → IfOk r (λ a. (a ≡ first_left left) × Leaves (scan_of y) w (drop 1 left))) →
      ((w : World) (left : List RowEntry) → Leaves (scan_of x) w left → OnOk r (Checks w before after)) →
      OnOk r (Made before after (λ reads. NoMore (ScanRefuses (scan_of x) before.meaning) reads (ScanRefuses (scan_of y) before.meaning))) →
      (os : Objects) (rows : List RowEntry) → before.meaning ≡ m → IsUnslipped m os before after → IsReadingOn os o m t x rows →
      IfOk r (λ a. (a ≡ first_left rows) × IsReadingOn os o m u y (drop 1 rows) × (IsVouchedThere o m t → IsVouchedThere o m u))
  next_checked_on (Err e) noted names answers checks made os rows meant unslipped h = tt
  next_checked_on (Ok a) noted names answers checks made os rows meant unslipped h = next_reading_by (Ok a) noted names answers os rows met h
    where
      met : (w : World) → IsWorldOf os m w → Leaves (scan_of x) w rows → Sees w before after
      met w is leaves = by (checks w rows leaves unslipped.known unslipped.tells (is.meaning ∙ sym meant))
        where
          by : Sees w before after ⊎ Slips w before after → Sees w before after
          by (inl sees) = sees
          by (inr slips) = absurd (unslipped.none (slips_of_world os m w before after made.0 is made.1 slips))

  pub next_undamaged_on : (r : Result (Option KeyValue) SlateDBError) → ((w : World) (left : List RowEntry) → Leaves (scan_of x) w left → Sees w before after → IfErr r (IsFault before after)) →
      (os : Objects) (rows : List RowEntry) → before.meaning ≡ m → AnswersFrom os before after → IsReadingOn os o m t x rows → IfErr r (IsFault before after)
  next_undamaged_on r undamaged os rows meant answered h = by h.leaves
    where
      by : LeavesIn os m x rows → IfErr r (IsFault before after)
      by (w, is, leaves) = undamaged w rows leaves (sees_world os w before after (is.meaning ∙ sym meant) (world_holds os m w is) answered)

pub next_since_on : {A E : Type 0} (r : Result A E) (o : Options) (from before after : Reach) (seen : List Event) (x y : TxnIterator) → IsScanSinceOn o from before seen x →
    OnOk r (Made before after (λ reads. NoMore (ScanRefuses (scan_of x) before.meaning) reads (ScanRefuses (scan_of y) before.meaning))) → OnOk r (IsScanSinceOn o from after seen y)
next_since_on r o from before after seen x y (c, is, since) later = on_ok_map r _ _ (λ s. (c, is, s)) (since_next r from before after c x y since later)

pub next_cause_on : {A : Type 0} (r : Result A SlateDBError) (o : Options) (policies : List Policy) (from before after : Reach) (seen : List Event) (x : TxnIterator) → OnlyReads from before → IsScanSinceOn o from before seen x →
    IfErr r (λ e. Made before after (λ reads. IsFault before after e ⊎ ScanRefuses (scan_of x) before.meaning reads None e)) → IfErr r (IsReadErrorOn o policies from after seen)
next_cause_on r o policies from before after seen x only (c, is, since) cause = if_err_map r _ _ (λ e refused. inr (c, is, refused)) (next_error r policies from before after c x only since cause)

-- ---- passes

pub unbegun : {A : Type 0} (r : Result A SlateDBError) (old new : PassModel) → SeesOnly old new → IfErr r (λ e. (e ≡ OutOfMemory) ⊎ ((e ≡ LimitReached LIMIT) × IsNoPlace 2 new.seen)) → IfErr r (IsUnbegun old new)
unbegun (Ok a) old new only cause = tt
unbegun (Err e) old new only cause = record { only = only; cause = cause }

pub sees_self : (p : PassModel) → SeesOnly p p
sees_self p = record { more = record { table = refl; parts = refl; seen = prefix_self p.seen }; own = refl }

pub sees_more_then : (a b c : PassModel) → SeesMore a b → SeesMore b c → SeesMore a c
sees_more_then a b c f l = record { table = l.table ∙ f.table; parts = l.parts ∙ f.parts; seen = prefix_trans a.seen b.seen c.seen f.seen l.seen }

pub sees_only_then : (a b c : PassModel) → SeesOnly a b → SeesOnly b c → SeesOnly a c
sees_only_then a b c f l = record { more = sees_more_then a b c f.more l.more; own = l.own ∙ f.own }

pub committed_then : (o : Options) (t : Opened) (n : Option ℕ) (now : ℤ) (old mid new : PassModel) → SeesOnly old mid → HasCommittedBehind o t n now mid new → HasCommittedBehind o t n now old new
committed_then o t n now old mid new only h = record {
  more = sees_more_then old mid new only.more h.more;
  before = h.before;
  seen = prefix_trans old.seen mid.seen h.before only.more.seen h.seen;
  known = h.known;
  after = h.after;
  own = h.own ∙ ap (λ (l : List ℕ). l ++ (length h.before ∷ [])) only.own;
  next = h.next;
  free = h.free;
}

pub ended_then : (t : Opened) (old mid new : PassModel) → SeesOnly old mid → HasEndedBehind t mid new → HasEndedBehind t old new
ended_then t old mid new only h = record { only = sees_only_then old mid new only h.only; before = h.before; seen = prefix_trans old.seen mid.seen h.before only.more.seen h.seen; known = h.known; after = h.after }

pub refused_then : (o : Options) (t : Opened) (old mid new : PassModel) (e : SlateDBError) → SeesOnly old mid → IsRefusedBehind o t mid new e → IsRefusedBehind o t old new e
refused_then o t old mid new e only h = record { before = h.before; seen = prefix_trans old.seen mid.seen h.before only.more.seen h.seen; known = h.known; after = h.after; is = h.is }

-- a journal with one event more begins so
grown : (es before after : List Event) (e : Event) → IsPrefix es before → after ≡ before ++ (e ∷ []) → IsPrefix es after
grown es before after e p is = subst (λ (l : List Event). IsPrefix es l) (sym is) (prefix_more es before (e ∷ []) p)

pub rolled_back : (t : Opened) (old new : PassModel) → (new.table ≡ old.table) × (new.parts ≡ old.parts) × (new.own ≡ old.own) →
    (before : List Event) × IsPrefix old.seen before × IsPrefix t.seen before × (new.seen ≡ before ++ (events.End t.id ∷ [])) → HasEndedBehind t old new
rolled_back t old new same (before, seen, known, after) = record {
  only = record { more = record { table = same.0; parts = same.1; seen = grown old.seen before new.seen (events.End t.id) seen after }; own = same.2 };
  before = before;
  seen = seen;
  known = known;
  after = after;
}

pub ended_known : (t : Opened) (old new : PassModel) → HasEndedBehind t old new → IsPrefix t.seen new.seen
ended_known t old new h = grown t.seen h.before new.seen (events.End t.id) h.known h.after

-- ---- a commit

module _ (fault : SlateDBError → Type 0) (m : Meaning) (g : Segments) (o : Options) (now : ℤ) (t : Opened) (old new : PassModel) (same : (new.table ≡ old.table) × (new.parts ≡ old.parts)) where
  abbrev Ends : Result (Option ℕ) SlateDBError → Type 0
  Ends r = HasEnded fault m g (settings_of o) now t old new r

  next_of : (last : ℕ) (n : Option ℕ) → IsNextOf last t.tx.ops n → IsNext last t.tx.ops n
  next_of last None h = h
  next_of last (Some seq) h = (h.0, h.2)

  pub commit_made_behind : (r : Result (Option ℕ) SlateDBError) → Ends r → (from : List Event) (level : IsolationLevel) (ts : List TranscriptStep) → IsAttempt o from level ts t → IfOk r (λ n. HasCommittedBehind o t n now old new)
  commit_made_behind (Err e) h from level ts a = tt
  commit_made_behind (Ok n) h from level ts a = record {
    more = record { table = same.0; parts = same.1; seen = grown old.seen h.before new.seen (events.Commit t.id n now (kept_ops t.tx.ops) (tracked_writes t.tx) t.tx.transcript) h.seen h.after };
    before = h.before;
    seen = h.seen;
    known = h.own_seen;
    after = h.after ∙ ap (λ (keys : List (List ℕ)). h.before ++ (events.Commit t.id n now (kept_ops t.tx.ops) keys t.tx.transcript ∷ [])) tracks;
    own = h.own;
    next = next_of (last_of o.start_seq (replay h.before).commits) n h.is.next;
    free = h.is.free;
  }
    where
      tracks : tracked_writes t.tx ≡ batch_keys t.tx.ops
      tracks = ap tracked_writes a.is ∙ all_tracked (batch_keys (own_of ts)) ∙ sym (ap (λ (x : Tx). batch_keys x.ops) a.is)

  pub commit_ended_behind : (r : Result (Option ℕ) SlateDBError) → Ends r → OnErr r (HasEndedBehind t old new)
  commit_ended_behind (Ok n) h = tt
  commit_ended_behind (Err e) h = rolled_back t old new (same.0, same.1, h.own) (h.before, h.seen, h.own_seen, h.after)

  pub commit_only : (r : Result (Option ℕ) SlateDBError) → Ends r → OnErr r (SeesOnly old new)
  commit_only (Ok n) h = tt
  commit_only (Err e) h = (commit_ended_behind (Err e) h).only

  pub commit_known : (r : Result (Option ℕ) SlateDBError) → Ends r → IsPrefix t.seen new.seen
  commit_known (Ok n) h = grown t.seen h.before new.seen (events.Commit t.id n now (kept_ops t.tx.ops) (tracked_writes t.tx) t.tx.transcript) h.own_seen h.after
  commit_known (Err e) h = grown t.seen h.before new.seen (events.End t.id) h.own_seen h.after

  pub commit_refusal : (r : Result (Option ℕ) SlateDBError) → Ends r → (from : List Event) (level : IsolationLevel) (ts : List TranscriptStep) → IsAttempt o from level ts t → g ≡ None →
      IfErr r (λ e. fault e ⊎ IsRefusedBehind o t old new e)
  commit_refusal (Ok n) h from level ts a none = tt
  commit_refusal (Err e) h from level ts a none = by h.is.cause
    where
      last : ℕ
      last = last_of o.start_seq (replay h.before).commits

      refused : IsConflict (conflict (replay h.before).commits t.tx) e ⊎ ((e ≡ SequenceExhausted) × (last ≡ 2 ^ 64 - 2)) → IsRefusedBehind o t old new e
      refused is = record { before = h.before; seen = h.seen; known = h.own_seen; after = h.after; is = is }

      tested : IsTestRefusal m.combine None (recorded_by g (replay h.before).commits) o.default_ttl_millis now last (conflict (replay h.before).commits t.tx) t.tx.ops e → ⊥
      tested is =
          let clash : None ≡ Some e = sym (plain_passes (is_some m.combine) (recorded_by g (replay h.before).commits) o.default_ttl_millis now t.tx.ops (attempt_plain o from level ts t a)) ∙ is.is in cc

      by : fault e ⊎ IsConflict (conflict (replay h.before).commits t.tx) e ⊎ IsFull last (conflict (replay h.before).commits t.tx) t.tx.ops e
          ⊎ IsTestRefusal m.combine g (recorded_by g (replay h.before).commits) o.default_ttl_millis now last (conflict (replay h.before).commits t.tx) t.tx.ops e → fault e ⊎ IsRefusedBehind o t old new e
      by (inl f) = inl f
      by (inr (inl clash)) = inr (refused (inl clash))
      by (inr (inr (inl full))) = inr (refused (inr (full.0, full.1)))
      by (inr (inr (inr test))) = absurd (tested (subst (λ (s : Segments). IsTestRefusal m.combine s (recorded_by g (replay h.before).commits) o.default_ttl_millis now last (conflict (replay h.before).commits t.tx) t.tx.ops e) none test))

-- ---- a begin

abbrev Begins : Options → IsolationLevel → PassModel → Opened → Type 0
Begins o level old t = (t.table ≡ old.table) × (t.tx ≡ begun level t.tx.begin)
    × ((before : List Event) × IsPrefix old.seen before × (t.seen ≡ before ++ (events.Begin t.id level t.tx.begin ∷ [])) × (t.tx.begin ≡ last_of o.start_seq (replay before).commits))

pub begun_attempt : (o : Options) (level : IsolationLevel) (old : PassModel) (r : Result Opened SlateDBError) → IfOk r (Begins o level old) → IfOk r (λ t. (t.table ≡ old.table) × IsAttempt o old.seen level [] t)
begun_attempt o level old (Err e) h = tt
begun_attempt o level old (Ok t) (same, is, (before, seen, after, newest)) = (
  same,
  record {
    start = before;
    known = seen;
    begun = subst (λ (es : List Event). IsPrefix (before ++ (events.Begin t.id level t.tx.begin ∷ [])) es) (sym after) (prefix_self (before ++ (events.Begin t.id level t.tx.begin ∷ [])));
    newest = newest;
    is = is;
    plain = refl;
  },
)

pub begun_vouched : (o : Options) (m : Meaning) (level : IsolationLevel) (old : PassModel) (r : Result Opened SlateDBError) → IfOk r (Begins o level old) → IfOk r (IsVouchedThere o m)
begun_vouched o m level old (Err e) h = tt
begun_vouched o m level old (Ok t) h = vouched_begun o m t level t.tx.begin h.1

-- ---- a put or a delete

module _ {A : Type 0} (t u : Opened) (k : List ℕ) (op : WriteOp) (r : Result A SlateDBError) (taken : OnOk r (u ≡ record t { tx = with_op k op t.tx })) where
  pub own_attempt : (o : Options) (from : List Event) (level : IsolationLevel) (ts : List TranscriptStep) → is_merge_op (k, op) ≡ false → IsAttempt o from level ts t → OnOk r (IsAttempt o from level (ts ++ (steps.Own k op ∷ [])) u)
  own_attempt o from level ts no_merge a = on_ok_map r _ _ (λ is. attempt_own_more o from level ts t u k op no_merge is a) taken

  own_vouched_by : (o : Options) (m : Meaning) (s : Result A SlateDBError) → OnOk s (u ≡ record t { tx = with_op k op t.tx }) → OnErr s (u ≡ t) → IsVouchedThere o m t → IsVouchedThere o m u
  own_vouched_by o m (Ok a) is same v = vouched_own o m t u k op is v
  own_vouched_by o m (Err e) is same v = subst (IsVouchedThere o m) (sym same) v

  pub own_vouched : (o : Options) (m : Meaning) → OnErr r (u ≡ t) → IsVouchedThere o m t → IsVouchedThere o m u
  own_vouched o m same v = own_vouched_by o m r taken same v

  own_same_by : (s : Result A SlateDBError) → OnOk s (u ≡ record t { tx = with_op k op t.tx }) → OnErr s (u ≡ t) → (u.table ≡ t.table) × (u.id ≡ t.id) × (u.seen ≡ t.seen)
  own_same_by (Ok a) is same = (ap (λ (x : Opened). x.table) is, ap (λ (x : Opened). x.id) is, ap (λ (x : Opened). x.seen) is)
  own_same_by (Err e) is same = (ap (λ (x : Opened). x.table) same, ap (λ (x : Opened). x.id) same, ap (λ (x : Opened). x.seen) same)

  pub own_same : OnErr r (u ≡ t) → (u.table ≡ t.table) × (u.id ≡ t.id) × (u.seen ≡ t.seen)
  own_same same = own_same_by r taken same

-- by the default options
pub put_plainly : {A : Type 0} (t u : Opened) (k v : List ℕ) (how : PutOptions) (r : Result A SlateDBError) → how ≡ record { ttl = Default } → OnOk r (u ≡ record t { tx = with_op k (Put v how) t.tx }) →
    OnOk r (u ≡ record t { tx = with_op k (plain_put v) t.tx })
put_plainly t u k v how r plain taken = subst (λ (p : PutOptions). OnOk r (u ≡ record t { tx = with_op k (Put v p) t.tx })) plain taken

-- ---- what each call leaves

abbrev Keeps : Opened → Opened → Type 0
Keeps t u = (u.table ≡ t.table) × (u.id ≡ t.id) × IsPrefix t.seen u.seen

pub get_more : (o : Options) (m : Meaning) (by : Asking) (k : List ℕ) (t u : Opened) (before after : Reach) (r : Result (Option KeyValue) SlateDBError) → IsGet o m by k t u before after r → Keeps t u
get_more o m by k t u before after (Ok a) g = (ap (λ (x : Opened). x.table) g.noted, ap (λ (x : Opened). x.id) g.noted, g.seen)
get_more o m by k t u before after (Err e) g = (ap (λ (x : Opened). x.table) g.unnoted, ap (λ (x : Opened). x.id) g.unnoted, g.seen)

pub scan_more : (o : Options) (m : Meaning) (policies : List Policy) (query : Option FilterQuery) (range : BytesRange) (order : IterationOrder) (t u : Opened) (before after : Reach) (quiet : Type 0) (r : Result TxnIterator SlateDBError) →
    IsScanOpened o m policies query range order t u before after quiet r → Keeps t u
scan_more o m policies query range order t u before after quiet (Ok it) h = (ap (λ (x : Opened). x.table) h.noted, ap (λ (x : Opened). x.id) h.noted, h.seen)
scan_more o m policies query range order t u before after quiet (Err e) h = (ap (λ (x : Opened). x.table) h.unnoted, ap (λ (x : Opened). x.id) h.unnoted, h.seen)

pub next_more : (t u : Opened) (n : ℕ) (r : Result (Option KeyValue) SlateDBError) → IfOk r (λ a. u ≡ record t { tx = noted_next n a t.tx }) → OnErr r (u ≡ t) → (u.table ≡ t.table) × (u.id ≡ t.id) × (u.seen ≡ t.seen)
next_more t u n (Ok a) noted same = (ap (λ (x : Opened). x.table) noted, ap (λ (x : Opened). x.id) noted, ap (λ (x : Opened). x.seen) noted)
next_more t u n (Err e) noted same = (ap (λ (x : Opened). x.table) same, ap (λ (x : Opened). x.id) same, ap (λ (x : Opened). x.seen) same)
