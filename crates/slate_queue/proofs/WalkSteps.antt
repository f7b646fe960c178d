-- One step of a claim's walk, from what the scan and its row say.
use Rattle.std.proofs.Common.{◌≡◌, ◌⊎◌, inl, inr, ℕ, ◌<◌, ◌^◌, ℤ, true, false, List, [], ◌∷◌, ◌++◌, drop, Option, Some, None, Result, Ok, Err, refl, sym, ap, subst, ◌∙◌}
use Rattle.std.specs.Prelude.{IfOk, IfErr}
use Rattle.std.specs.List.{AllByRecursion}
use Rattle.slate_types.specs.declared.config.IsolationLevel.{IsolationLevel}
use Rattle.slate_types.specs.declared.error.SlateDBError.{SlateDBError}
use Rattle.slate_types.specs.declared.error.SlateDBError.TheVariants.{OutOfMemory}
use Rattle.slate_types.specs.declared.types.KeyValue.{KeyValue}
use Rattle.slate_types.specs.declared.types.RowEntry.{RowEntry}
use Rattle.slate_types.specs.Outside.{IsFault, Objects, OnlyReads, Reach}
use Rattle.slate_filter.specs.Policy.{Policy}
use Rattle.slate_txn.specs.declared.event.TranscriptStep.{TranscriptStep}
use Rattle.slate_txn.specs.declared.event.TranscriptStep.TheVariants as steps
use Rattle.slate_txn.specs.Alone.{first_left}
use Rattle.slate_db.specs.declared.scan.TxnIterator.{TxnIterator}
use Rattle.slate_db.specs.Model.{CoreModel}
use Rattle.slate_db.specs.Scans.{IsScanOf, id_of, number_of, scan_of}
use Rattle.slate_steps.specs.Reads.{IsMetBy, IsReadError, IsReading, IsScanSince}
use Rattle.slate_steps.specs.Steps.{IsWithin, Sees}
use Rattle.slate_queue.specs.declared.claiming.FreeJob.{FreeJob}
use Rattle.slate_queue.specs.declared.claiming.Step.{Step}
use Rattle.slate_queue.specs.declared.claiming.Step.TheVariants as step
use Rattle.slate_queue.specs.declared.error.QueueError.{QueueError}
use Rattle.slate_queue.specs.declared.error.QueueError.TheVariants as errors
use Rattle.slate_queue.specs.declared.stored.LeaseHead.{LeaseHead}
use Rattle.slate_queue.specs.Stored.{is_job_key, job_key}
use Rattle.slate_queue.specs.Commits.{IsPassed}
use Rattle.slate_queue.specs.CallSteps.{HasLease, IsBadRow, nexts}
use Rattle.slate_queue.specs.Forms.{frees}
use Rattle.slate_queue.specs.Standing.{job_in}
use Rattle.slate_queue.specs.Walks.{GoesTo, IsFound, IsStepAt, StopsAt, WalkStops, Walked, Walks, WalksTo}
use Rattle.slate_queue.proofs.FirstFree.{key_is_job}
use Rattle.slate_queue.proofs.JobValues.{value_is}
use Rattle.slate_queue.proofs.WalkLaws.{walks_none}

-- ---- what the scan answered

pub next_walked : (before after : Reach) (d e : CoreModel) (x y : TxnIterator) (a b : Option KeyValue) → a ≡ b → number_of x ≡ 0 →
    ((c : CoreModel) (level : IsolationLevel) (ts : List TranscriptStep) → IsWithin c (id_of x) level ts d → IsWithin c (id_of x) level (ts ++ (steps.Next (number_of x) a ∷ [])) e) →
    IsScanOf (id_of x) (number_of x) (scan_of x).order (scan_of x).range y →
    ((c : CoreModel) (ts : List TranscriptStep) (os : Objects) (rows : List RowEntry) → IsMetBy before.meaning os before after → IsReading os before.meaning c ts x rows →
    (a ≡ first_left rows) × IsReading os before.meaning c (ts ++ (steps.Next (number_of x) a ∷ [])) y (drop 1 rows) × (Sees before.meaning c ts → Sees before.meaning c (ts ++ (steps.Next (number_of x) a ∷ [])))) →
    ((c : CoreModel) (from : Reach) → IsScanSince from before c x → IsScanSince from after c y) → OnlyReads before after → Walked before after d e x y (steps.Next 0 b ∷ [])
next_walked before after d e x y a b same first within named reading since reads =
    subst (λ (o : Option KeyValue). Walked before after d e x y (steps.Next 0 o ∷ [])) same (record {
      walks = record {
        within = λ c level ts h. subst (λ (n : ℕ). IsWithin c (id_of x) level (ts ++ (steps.Next n a ∷ [])) e) first (within c level ts h);
        sees = λ c ts os rows met read sees. subst (λ (n : ℕ). Sees before.meaning c (ts ++ (steps.Next n a ∷ []))) first ((reading c ts os rows met read).2 sees);
      };
      reading = λ c ts os rows met read. (drop 1 rows, subst (λ (n : ℕ). IsReading os before.meaning c (ts ++ (steps.Next n a ∷ [])) y (drop 1 rows)) first (reading c ts os rows met read).1);
      since = since;
      named = named;
      reads = reads;
    })

pub next_fails : (before after : Reach) (d e : CoreModel) (x y : TxnIterator) (error : SlateDBError) → e ≡ d →
    ((c : CoreModel) (ts : List TranscriptStep) (os : Objects) (rows : List RowEntry) → before.objects ≡ Some os → IsReading os before.meaning c ts x rows → IsFault before after error) →
    ((c : CoreModel) (from : Reach) (policies : List Policy) → OnlyReads from before → IsScanSince from before c x → IsReadError policies from after c error) → OnlyReads before after →
    StopsAt before after d e x y (errors.Db error)
next_fails before after d e x y error same undamaged cause reads = StopsAt.fails [] (record {
  walks = subst (λ (v : CoreModel). Walks before after d v x []) (sym same) (walks_none before after d x);
  error = error;
  is = refl;
  undamaged = undamaged;
  cause = cause;
  reads = reads;
})

-- ---- what the row is

pub row_goes : (now : ℤ) (before after : Reach) (d e : CoreModel) (x y : TxnIterator) (row : KeyValue) (result : Result Step QueueError) → Walked before after d e x y (nexts (row ∷ [])) → IfOk result (IsStepAt now row) →
    IfOk result (GoesTo now before after d e x y)
row_goes now before after d e x y row (Ok step.Passed) walked h = (row, h, walked)
row_goes now before after d e x y row (Ok (step.Free f)) walked h = (h.0, subst (λ (kv : KeyValue). Walked before after d e x y (nexts (kv ∷ []))) (sym h.1) walked)
row_goes now before after d e x y row (Ok step.End) walked h = absurd h
row_goes now before after d e x y row (Err error) walked h = tt

pub row_stops : (before after : Reach) (d e : CoreModel) (x y : TxnIterator) (row : KeyValue) (result : Result Step QueueError) → Walked before after d e x y (nexts (row ∷ [])) →
    IfErr result (λ q. (q ≡ errors.Db OutOfMemory) ⊎ IsBadRow row q) → IfErr result (StopsAt before after d e x y)
row_stops before after d e x y row (Ok s) walked h = tt
row_stops before after d e x y row (Err q) walked (inl memory) = StopsAt.fails (row ∷ []) (record {
  walks = walked.walks;
  error = OutOfMemory;
  is = memory;
  undamaged = λ c ts os rows told reading. tt;
  cause = λ c from policies reads since. IsReadError.of_scan (inl tt);
  reads = walked.reads;
})
row_stops before after d e x y row (Err q) walked (inr bad) = StopsAt.bad row bad walked

pub found_free : (now : ℤ) (row : KeyValue) (id : ℕ) (lease : LeaseHead) → id < 2 ^ 64 → row.key ≡ job_key id → HasLease row.value lease → frees now lease ≡ true → IsFound now (record { id = id; lease = lease.number; row = row })
found_free now row id lease fits key h free =
    let value = value_is row.value h.0 h.1 in
    record {
      job = h.0;
      row = record { fits = fits; is_job = key; stands = value.stands; free = sym (ap (frees now) h.2) ∙ free };
      lease = ap (λ (l : LeaseHead). l.number) h.2;
      short = value.short;
    }

pub passed_held : (now : ℤ) (row : KeyValue) (id : ℕ) (lease : LeaseHead) → row.key ≡ job_key id → HasLease row.value lease → frees now lease ≡ false → IsPassed now row
passed_held now row id lease key h held = inr (ap is_job_key key ∙ key_is_job id, (h.0, (value_is row.value h.0 h.1).stands, sym (ap (frees now) h.2) ∙ held))

pub bad_row : (row : KeyValue) (id : ℕ) (q : QueueError) → id < 2 ^ 64 → row.key ≡ job_key id → job_in (Some row.value) ≡ None → (q ≡ errors.Db OutOfMemory) ⊎ (q ≡ errors.BadJob row.key) → (q ≡ errors.Db OutOfMemory) ⊎ IsBadRow row q
bad_row row id q fits key none (inl memory) = inl memory
bad_row row id q fits key none (inr bad) = inr (id, fits, key, none, bad)

-- ---- the same, whose moment is written otherwise

pub step_at : (y z : ℤ) (row : KeyValue) (s : Step) → y ≡ z → IsStepAt y row s → IsStepAt z row s
step_at y z row s same h = subst (λ (now : ℤ). IsStepAt now row s) same h

pub steps_at : (y z : ℤ) (row : KeyValue) (result : Result Step QueueError) → y ≡ z → IfOk result (IsStepAt y row) → IfOk result (IsStepAt z row)
steps_at y z row result same h = subst (λ (now : ℤ). IfOk result (IsStepAt now row)) same h

pub goes_at : (w z : ℤ) (before after : Reach) (d e : CoreModel) (x y : TxnIterator) (s : Step) → w ≡ z → GoesTo w before after d e x y s → GoesTo z before after d e x y s
goes_at w z before after d e x y s same h = subst (λ (now : ℤ). GoesTo now before after d e x y s) same h

pub walks_at : (w z : ℤ) (before after : Reach) (d e : CoreModel) (x : TxnIterator) (result : Result (Option FreeJob) QueueError) → w ≡ z → IfOk result (WalksTo w before after d e x) → IfOk result (WalksTo z before after d e x)
walks_at w z before after d e x result same h = subst (λ (now : ℤ). IfOk result (WalksTo now before after d e x)) same h

pub halts_at : (w z : ℤ) (before after : Reach) (d e : CoreModel) (x : TxnIterator) (result : Result (Option FreeJob) QueueError) → w ≡ z → IfErr result (WalkStops w before after d e x) → IfErr result (WalkStops z before after d e x)
halts_at w z before after d e x result same h = subst (λ (now : ℤ). IfErr result (WalkStops now before after d e x)) same h

pub passed_at : (w z : ℤ) (kvs : List KeyValue) → w ≡ z → AllByRecursion (IsPassed w) kvs → AllByRecursion (IsPassed z) kvs
passed_at w z kvs same h = subst (λ (now : ℤ). AllByRecursion (IsPassed now) kvs) same h
