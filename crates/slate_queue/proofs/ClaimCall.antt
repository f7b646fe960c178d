-- A whole claim.
use Rattle.std.proofs.Common.{◌≡◌, ◌≢◌, ◌⊎◌, inl, inr, ℕ, ◌-◌, ◌^◌, ◌<◌, ℤ, false, List, [], ◌∷◌, ◌++◌, length, Option, Some, None, Ok, Err, arith, refl, sym, ap, subst, ◌∙◌, SFits, w64}
use Rattle.slate_types.specs.declared.config.IsolationLevel.TheVariants.{SerializableSnapshot}
use Rattle.slate_types.specs.declared.types.KeyValue.{KeyValue}
use Rattle.slate_types.specs.declared.error.SlateDBError.{SlateDBError}
use Rattle.slate_types.specs.declared.error.SlateDBError.TheVariants.{SequenceExhausted}
use Rattle.slate_types.specs.Outside.{IsFault, OnlyReads, Reach}
use Rattle.slate_types.proofs.Reaching.{reads_none, reads_then}
use Rattle.slate_filter.specs.Policy.{Policy}
use Rattle.slate_mem.specs.declared.WriteOp.{WriteOp}
use Rattle.slate_mem.specs.BatchModel.{holds_merge}
use Rattle.slate_mem.specs.Batch.{Ops, batch_keys, kept_ops}
use Rattle.slate_mem.specs.KeyTests.{Segments}
use Rattle.slate_mem.proofs.BatchLaws.{keeps_its_keys}
use Rattle.slate_txn.specs.declared.event.TranscriptStep.{TranscriptStep}
use Rattle.slate_txn.specs.Alone.{IsAlone, own_of}
use Rattle.slate_txn.specs.State.{Commit, Rules, last_of}
use Rattle.slate_txn.proofs.ReadLaws.{alone_front}
use Rattle.slate_db.specs.Meaning.{rules_of}
use Rattle.slate_db.specs.Model.{CoreModel}
use Rattle.slate_db.specs.Segmented.{IsSegmented}
use Rattle.slate_db.specs.Sound.{IsKept}
use Rattle.slate_steps.specs.Steps.{HasCommitted, HasEnded, IsBeginError, newest}
use Rattle.slate_steps.proofs.StoreTruth.{checked_in}
use Rattle.slate_queue.specs.declared.error.QueueError.{QueueError}
use Rattle.slate_queue.specs.declared.error.QueueError.TheVariants as errors
use Rattle.slate_queue.specs.declared.claims.Claim.{Claim}
use Rattle.slate_queue.specs.Stored.{job_bytes}
use Rattle.slate_queue.specs.Jobs as model
use Rattle.slate_queue.specs.Jobs.{Queue, Call, first_free, leased, queue_step}
use Rattle.slate_queue.specs.Commits.{put_of}
use Rattle.slate_queue.specs.CallSteps.{ClaimStops, Claims, FindsNone, MayClaim, nexts, own_steps, scan_of_jobs}
use Rattle.slate_queue.specs.Calls.{Attempts, CallsAs, ClaimEnds, ClaimRefuses, Commits, IsClaimOf, claim_answer}
use Rattle.slate_queue.specs.Standing.{IsQueueIn, value_from}
use Rattle.slate_queue.proofs.CallLaws.{answered, ended_stands, has_seq, keeps_committed, keeps_ended, may_perform, never_empty, not_begun, performed, stopped, uncommitted}
use Rattle.slate_queue.proofs.CallSteps.{after_claim, claim_first, claim_stands, claim_step_is, claim_stopped, none_step_is}
use Rattle.slate_queue.proofs.Performing.{Performs, Tells}

own_nexts : (kvs : List KeyValue) (us : List TranscriptStep) → own_of (nexts kvs ++ us) ≡ own_of us
own_nexts [] us = refl
own_nexts (kv ∷ kvs) us = own_nexts kvs us

module _ (now : ℤ) (ms : ℕ) (claim : Claim) (ts : List TranscriptStep) (h : Claims now ms claim ts) where
  change : Ops
  change = (h.kv.key, put_of (job_bytes (leased now ms h.job))) ∷ []

  whole : ts ≡ scan_of_jobs ∷ (nexts (h.takes.passed ++ (h.kv ∷ [])) ++ own_steps ((h.kv.key, put_of (job_bytes (leased now ms h.job))) ∷ []))
  whole = h.steps ∙ ap (λ (us : List TranscriptStep). us ++ own_steps ((h.kv.key, put_of (job_bytes (leased now ms h.job))) ∷ [])) h.takes.steps

  pub claim_own : own_of ts ≡ (h.kv.key, put_of (job_bytes (leased now ms h.job))) ∷ []
  claim_own = ap own_of whole ∙ own_nexts (h.takes.passed ++ (h.kv ∷ [])) (own_steps ((h.kv.key, put_of (job_bytes (leased now ms h.job))) ∷ []))

  pub claim_plain : holds_merge (own_of ts) ≡ false
  claim_plain = ap holds_merge claim_own

  pub claim_some : own_of ts ≢ []
  claim_some e = never_empty {A = List ℕ × WriteOp} (h.kv.key, put_of (job_bytes (leased now ms h.job))) [] (sym claim_own ∙ e)

  pub claim_form : ms < 2 ^ 64 → IsClaimOf now ms claim (kept_ops (own_of ts)) (batch_keys (own_of ts)) ts
  claim_form fits = (
    record {
      passed = h.takes.passed;
      passes = h.takes.passes;
      id = claim.id;
      of_id = h.takes.row.fits;
      row = h.kv;
      is_job = h.takes.row.is_job;
      job = h.job;
      stands = h.takes.row.stands;
      free = h.takes.row.free;
      left = h.left;
      ms = ms;
      fits = fits;
      by = record {
        whole = whole;
        kept = ap kept_ops claim_own;
        keys = sym (keeps_its_keys (own_of ts));
      };
    },
    refl,
    sym h.raised,
    sym h.carries,
    refl,
  )

  pub claim_commits : (tx : List ℕ) (c d : CoreModel) (seq : ℕ) → ms < 2 ^ 64 → HasCommitted c tx SerializableSnapshot ts (Some seq) now d → newest c ≢ 2 ^ 64 - 2 → Commits (IsClaimOf now ms claim) now c d
  claim_commits tx c d seq fits committed left = record { id = tx; steps = ts; seq = seq; committed = committed; is = claim_form fits; left = left }

  -- the job that it takes is the first free one
  first : (r : Rules) (cs : List Commit) (n : ℕ) (q : Queue) → IsQueueIn (value_from r cs n) q → IsAlone r cs n ts → first_free now q ≡ Some (claim.id, h.job)
  first r cs n q stands alone =
      claim_first r cs n q now h.kv claim.id h.job h.first stands
      (alone_front r cs n [] [] h.first (own_steps ((h.kv.key, put_of (job_bytes (leased now ms h.job))) ∷ [])) (subst (IsAlone r cs n) h.steps alone)) h.takes

  step : (r : Rules) (cs : List Commit) (n : ℕ) (q : Queue) → IsQueueIn (value_from r cs n) q → IsAlone r cs n ts → queue_step q (Call.Claim now ms) ≡ Ok (after_claim q now ms claim.id h.job, model.Answer.Claimed claim.id claim.lease claim.payload)
  step r cs n q stands alone =
      claim_step_is q now ms claim.id h.job (first r cs n q stands alone) h.left
      ∙ (λ i. Ok (after_claim q now ms claim.id h.job, model.Answer.Claimed claim.id (sym h.raised i) (sym h.carries i)))

  pub claim_tells : Tells (Call.Claim now ms) (model.Answer.Claimed claim.id claim.lease claim.payload) ts
  claim_tells r cs n alone q stands = (after_claim q now ms claim.id h.job, step r cs n q stands alone)

  pub claim_performs : SFits w64 now → Performs (Call.Claim now ms) (model.Answer.Claimed claim.id claim.lease claim.payload) ts
  claim_performs moment = record {
    tells = claim_tells;
    places = λ r cs c q counts next ops stands alone. (
      after_claim q now ms claim.id h.job,
      step r cs (last_of r.start_seq cs) q stands alone,
      claim_stands r cs c q now ms claim.id h.job moment counts next
          (ops ∙ ap kept_ops (claim_own ∙ ap (λ (k : List ℕ). (k, put_of (job_bytes (leased now ms h.job))) ∷ []) h.takes.row.is_job)) h.takes.row.fits h.left (first r cs (last_of r.start_seq cs) q stands alone) stands,
    );
  }

-- ---- the exits of the call

module _ (now : ℤ) (ms : ℕ) (policies : List Policy) (seg : Segments) where
  pub claim_not_begun : (a : Reach) (c d : CoreModel) (error : SlateDBError) → d ≡ c → IsBeginError c error → CallsAs (ClaimEnds now ms policies a a c d) claim_answer (Call.Claim now ms) (ClaimRefuses now policies a a c d) policies seg a a c d (Err (errors.Db error))
  claim_not_begun a c d error same h =
      subst (λ (v : CoreModel). CallsAs (ClaimEnds now ms policies a a c v) claim_answer (Call.Claim now ms) (ClaimRefuses now policies a a c v) policies seg a a c v (Err (errors.Db error))) (sym same)
      (not_begun (ClaimEnds now ms policies a a c c) claim_answer (Call.Claim now ms) (ClaimRefuses now policies a a c c) policies seg a a c error (reads_none a) h)

  pub claim_stopped_call : (before after : Reach) (c d f : CoreModel) (tx : List ℕ) (e : QueueError) → OnlyReads before after → Attempts (MayClaim now ms) (ClaimStops now) policies before after c tx d (Err e) →
      HasEnded c tx SerializableSnapshot f → CallsAs (ClaimEnds now ms policies before after c f) claim_answer (Call.Claim now ms) (ClaimRefuses now policies before after c f) policies seg before after c f (Err e)
  claim_stopped_call before after c d f tx e reads h ended =
      stopped (ClaimEnds now ms policies before after c f) claim_answer (Call.Claim now ms) (ClaimRefuses now policies before after c f) policies seg (ClaimStops now) before after c d f tx e reads h.refused ended
      (λ s. s) (λ q ts stands sees s. claim_stopped (rules_of c.settings before.meaning) c.state.commits (newest c) q now ms e ts stands sees s)

  pub claim_uncommitted : (before middle after : Reach) (c d f : CoreModel) (tx : List ℕ) (claim : Claim) (error : SlateDBError) → OnlyReads before middle → OnlyReads middle after →
      (h : Attempts (MayClaim now ms) (ClaimStops now) policies before middle c tx d (Ok (Some claim))) → HasEnded c tx SerializableSnapshot f → IsFault middle after error ⊎ ((error ≡ SequenceExhausted) × (newest c ≡ 2 ^ 64 - 2)) →
      CallsAs (ClaimEnds now ms policies before after c f) claim_answer (Call.Claim now ms) (ClaimRefuses now policies before after c f) policies seg before after c f (Err (errors.Db error))
  claim_uncommitted before middle after c d f tx claim error first later h ended why =
      uncommitted (ClaimEnds now ms policies before after c f) claim_answer (Call.Claim now ms) (ClaimRefuses now policies before after c f) policies seg (Claims now ms claim) before middle after c d f tx error first (reads_then before middle after first later)
      h.done ended why (λ q ts stands sees claims. may_perform before.meaning (Call.Claim now ms) (claim_answer (Some claim)) c ts refl (claim_tells now ms claim ts claims) q stands sees)

  pub claim_answered : (before middle after : Reach) (c d f : CoreModel) (tx : List ℕ) (claim : Claim) (n : Option ℕ) → SFits w64 now → ms < 2 ^ 64 → OnlyReads before middle → OnlyReads middle after →
      (h : Attempts (MayClaim now ms) (ClaimStops now) policies before middle c tx d (Ok (Some claim))) → HasCommitted c tx SerializableSnapshot h.done.steps n now f → newest c ≢ 2 ^ 64 - 2 → (IsKept before.meaning c → IsKept before.meaning f) → (IsSegmented seg c → IsSegmented seg f) →
      CallsAs (ClaimEnds now ms policies before after c f) claim_answer (Call.Claim now ms) (ClaimRefuses now policies before after c f) policies seg before after c f (Ok (Some claim))
  claim_answered before middle after c d f tx claim n moment fits first later h committed left kept segmented =
      let made = has_seq c f tx h.done.steps n now (claim_some now ms claim h.done.steps h.done.is) committed in
      answered (ClaimEnds now ms policies before after c f) claim_answer (Call.Claim now ms) (ClaimRefuses now policies before after c f) policies seg (Claims now ms claim) before middle after c d f tx (Some claim) first later h.done
      (claim_commits now ms claim h.done.steps h.done.is tx c f made.0 fits made.1 left)
      (keeps_committed policies seg before after c f tx h.done.steps (Some made.0) now (reads_then before middle after first later) made.1 kept segmented (λ s. h.done.sees seg (checked_in policies seg before middle c s))
      (record { serializable = refl; does = inr (inl (claim_form now ms claim h.done.steps h.done.is fits).0) })
      (let one : length (own_of h.done.steps) ≡ 1 = ap length (claim_own now ms claim h.done.steps h.done.is) in omega arith))
      (λ q stands sees. performed before.meaning (Call.Claim now ms) (claim_answer (Some claim)) c f tx h.done.steps made.0 now (claim_performs now ms claim h.done.steps h.done.is moment) made.1 q stands sees)

  pub claim_none : (before after : Reach) (c d f : CoreModel) (tx : List ℕ) → OnlyReads before after → (h : Attempts (MayClaim now ms) (ClaimStops now) policies before after c tx d (Ok None)) → HasEnded c tx SerializableSnapshot f →
      CallsAs (ClaimEnds now ms policies before after c f) claim_answer (Call.Claim now ms) (ClaimRefuses now policies before after c f) policies seg before after c f (Ok None)
  claim_none before after c d f tx reads h ended =
      answered (ClaimEnds now ms policies before after c f) claim_answer (Call.Claim now ms) (ClaimRefuses now policies before after c f) policies seg (FindsNone now) before after after c d f tx None reads (reads_none after) h.done
      (record { id = tx; steps = h.done.steps; all = h.done.is; ended = ended; sees = h.done.sees }) (keeps_ended policies seg before after c f tx reads ended)
      (λ q stands sees. (q, none_step_is (rules_of c.settings before.meaning) c.state.commits (newest c) q now ms h.done.steps stands sees h.done.is, ended_stands before.meaning c f tx q ended stands))
