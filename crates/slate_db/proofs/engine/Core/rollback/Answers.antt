use Rattle.std.proofs.Common.{refl, ap, sym, subst, ◌∙◌}
use Rattle.std.specs.Prelude.{IsSome}
use Rattle.slate_txn.specs.declared.line.Line.TheVariants as lines
use Rattle.slate_txn.specs.Named.{find_named, without}
use Rattle.slate_txn.specs.Reply.{Done}
use Rattle.slate_txn.specs.Step.{step}
use Rattle.slate_db.specs.declared.engine.Core.TheInside.{Inside}
use Rattle.slate_db.specs.Log.{IsLog}
use Rattle.slate_db.specs.Meaning.{rules_in}
use Rattle.slate_db.specs.Model.{CoreModel}
use Rattle.slate_db.specs.View.{view_of, unseen_of, IsWholeInside}
use Rattle.slate_db.specs.Segmented.{IsSegmented}
use Rattle.slate_db.specs.Sound.{IsKept}
use Rattle.slate_db.specs.Vouched.{IsVouchedFor}
use Rattle.slate_db.proofs.Calls.{ended_is, event_ended}
use Rattle.slate_db.proofs.Managing.{managed_ended}
use Rattle.slate_db.proofs.Opened.{stay_ended}
use Rattle.slate_db.proofs.Segmenting.{segmented_as}
use Rattle.slate_db.proofs.Steps.{step_end}
use Rattle.slate_db.proofs.Vouches.{others_end}
use Rattle.slate_db.proofs.Wholes.{named_in_journal, whole_end, kept_end}
use Rattle.slate_db.proofs.engine.Core.rollback.Goals as goal

pub push_end-requires : goal.push_end-requires
push_end-requires c = named_in_journal (view_of c.self.inside) (unseen_of c.self.inside) c.args.id.now c.self.invariant (subst (λ (v : CoreModel). IsSome (find_named c.args.id.now v.state.txns)) (sym c.self.view_is) c.requires)

pub invariant_of-self : goal.invariant_of-self
invariant_of-self c =
    subst IsWholeInside (ended_is c.self.inside c.push_end.new.self c.end.new.self c.drop_txn.new.self c.args.id.now c.push_end.ensures.value c.end.ensures)
    (whole_end (view_of c.self.inside) (unseen_of c.self.inside) c.args.id.now c.push_end.new.self.spare c.drop_txn.new.self
    (managed_ended c.self.inside.manager c.drop_txn.new.self c.self.inside.log.ids c.self.inside.log.last c.self.inside.log.commits c.self.inside.transactions c.args.id.now c.drop_txn.ensures.dropped (c.drop_txn.ensures.stands _) c.self.invariant.tied.manager)
    (subst IsLog c.push_end.ensures.value c.push_end.ensures.whole) c.self.invariant)

pub returns : goal.returns
returns c =
    let becomes = ended_is c.self.inside c.push_end.new.self c.end.new.self c.drop_txn.new.self c.args.id.now c.push_end.ensures.value c.end.ensures in
    record {
      step = (λ m h.
          sym (ap (λ (v : CoreModel). step (rules_in v.settings m h) v.state (lines.Rollback c.args.id.now)) c.self.view_is)
          ∙ step_end m (view_of c.self.inside) (unseen_of c.self.inside) c.args.id.now c.push_end.new.self.spare (subst (λ (v : CoreModel). IsSome (find_named c.args.id.now v.state.txns)) (sym c.self.view_is) c.requires) c.self.invariant
          ∙ (λ i. ((view_of (becomes i)).state, Done)));
      event = event_ended c.self.inside c.args.self.now c.push_end.new.self c.end.new.self c.args.id.now c.self.view_is c.push_end.ensures.value;
      stay = stay_ended c.args.self.now _ c.args.id.now
          (c.end.ensures ∙ ap (λ (v : CoreModel). without c.args.id.now v.state.txns) c.self.view_is)
          (ap (λ (v : CoreModel). v.state.snapshots) c.self.view_is);
      others = (λ m k apart h.
          subst (λ (s : Inside). IsVouchedFor m (view_of s) k) becomes
          (others_end m (view_of c.self.inside) c.args.id.now k c.push_end.new.self.spare apart (subst (λ (v : CoreModel). IsVouchedFor m v k) (sym c.self.view_is) h)));
      segmented = (λ h z.
          subst (λ (s : Inside). IsSegmented h (view_of s)) becomes
          (segmented_as h (view_of c.self.inside) _ refl refl (subst (λ (v : CoreModel). IsSegmented h v) (sym c.self.view_is) z)));
      kept = (λ m k.
          subst (λ (s : Inside). IsKept m (view_of s)) becomes
          (kept_end m (view_of c.self.inside) c.args.id.now c.push_end.new.self.spare (subst (λ (v : CoreModel). IsKept m v) (sym c.self.view_is) k)));
    }
