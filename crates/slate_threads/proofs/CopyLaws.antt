-- What a copy of the journal says, made just before the core was taken out.
use Rattle.std.proofs.Common.{◌≡◌, ℕ, List, Result, Ok, Err, sym, subst, ◌∙◌}
use Rattle.std.specs.Prelude.{IfOk}
use mathlib.Core.List.{IsPrefix}
use Rattle.slate_types.specs.declared.config.Options.{Options}
use Rattle.slate_types.specs.declared.error.SlateDBError.{SlateDBError}
use Rattle.slate_txn.specs.declared.event.Event.{Event}
use Rattle.slate_txn.specs.JournalModel.{JournalModel}
use Rattle.slate_txn.specs.Replay.{IsLegal}
use Rattle.slate_db.specs.Meaning.{Meaning}
use Rattle.slate_shared.specs.Passes.{PassModel}
use Rattle.slate_shared.specs.Shared.{IsOwner, OwnsAll, all_parts}
use Rattle.slate_threads.specs.Passes.{IsVouchedCopy, IsWholeCopy, PassIsVouched}
use Rattle.slate_threads.specs.Workers.{IsWorker}
use Rattle.slate_threads.proofs.OwnPlaces.{owns_front}
use Rattle.slate_threads.proofs.PassLaws.{vouched_copy}
use Rattle.slate_threads.proofs.WorkerLaws.{worker_copy}

-- new: the pass that made the copy; core: the journal of the core
module _ (o : Options) (p new : PassModel) (core : List Event) (seen : IsPrefix p.seen new.seen)
    (legal : IsLegal o.start_seq new.seen) (own : new.own ≡ p.own) (parts : new.parts ≡ p.parts)
    (owner : IsOwner new.own new.seen) (begins : IsPrefix new.seen core)
    (whole : new.parts ≡ all_parts → OwnsAll new.own core) where
  at_copy : (es : List Event) → es ≡ new.seen → IsWholeCopy o p es core
  at_copy es is = record {
    legal = subst (λ (l : List Event). IsLegal o.start_seq l) (sym is) legal;
    seen = subst (λ (l : List Event). IsPrefix p.seen l) (sym is) seen;
    begins = subst (λ (l : List Event). IsPrefix l core) (sym is) begins;
    own = subst (λ (l : List Event). IsOwner p.own l) (sym is)
        (subst (λ (l : List ℕ). IsOwner l new.seen) own owner);
    whole = λ all. subst (λ (l : List Event). OwnsAll p.own l) (sym is)
        (owns_front p.own new.seen core begins
        (subst (λ (l : List ℕ). OwnsAll l core) own (whole (parts ∙ all))));
  }

  pub copy_whole : (r : Result JournalModel SlateDBError) →
      IfOk r (λ copy. copy.events ≡ new.seen) → IfOk r (λ copy. IsWholeCopy o p copy.events core)
  copy_whole (Ok copy) is = at_copy copy.events is
  copy_whole (Err e) is = tt

module _ (o : Options) (m : Meaning) (p : PassModel) (core : List Event) (all : p.parts ≡ all_parts)
  where
    pub copy_vouched : (r : Result JournalModel SlateDBError) →
        IfOk r (λ copy. IsWholeCopy o p copy.events core) → PassIsVouched o m p →
        IfOk r (λ copy. IsVouchedCopy o m copy.events)
    copy_vouched (Ok copy) h v = vouched_copy o m p copy.events h.seen (h.whole all) h.legal v
    copy_vouched (Err e) h v = tt

    pub copy_worked : (r : Result JournalModel SlateDBError) →
        IfOk r (λ copy. IsWholeCopy o p copy.events core) → IsWorker o m p →
        IfOk r (λ copy. IsVouchedCopy o m copy.events)
    copy_worked (Ok copy) h w = worker_copy o m p copy.events h.seen (h.whole all) h.legal w
    copy_worked (Err e) h w = tt
