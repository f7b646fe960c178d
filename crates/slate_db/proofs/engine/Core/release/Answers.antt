use Rattle.std.proofs.Common.{refl, ap, sym, subst, ◌∙◌}
use Rattle.std.specs.Prelude.{IsSome}
use Rattle.slate_txn.specs.declared.line.Line.TheVariants as lines
use Rattle.slate_txn.specs.Managers.{Snapshots}
use Rattle.slate_txn.specs.Named.{find_named, without}
use Rattle.slate_txn.specs.Reply.{Done}
use Rattle.slate_txn.specs.Step.{step}
use Rattle.slate_db.specs.declared.engine.Core.TheInside.{Inside}
use Rattle.slate_db.specs.Log.{IsLog}
use Rattle.slate_db.specs.Meaning.{rules_in}
use Rattle.slate_db.specs.Model.{CoreModel}
use Rattle.slate_db.specs.View.{view_of, unseen_of, IsWholeInside}
use Rattle.slate_db.specs.Segmented.{IsSegmented}
use Rattle.slate_db.specs.Sound.{IsKept}
use Rattle.slate_db.specs.Vouched.{IsVouchedFor}
use Rattle.slate_db.proofs.Calls.{event_released, released_is}
use Rattle.slate_db.proofs.Opened.{stay_released}
use Rattle.slate_db.proofs.Segmenting.{segmented_as}
use Rattle.slate_db.proofs.Steps.{step_release}
use Rattle.slate_db.proofs.Wholes.{kept_release, shown_in_journal, whole_release}
use Rattle.slate_db.proofs.engine.Core.release.Goals as goal

pub drop_snapshot-requires : goal.drop_snapshot-requires
drop_snapshot-requires c = subst (λ (v : CoreModel). IsSome (find_named c.args.id.now v.state.snapshots)) (sym c.self.view_is) c.requires

pub push_release-requires : goal.push_release-requires
push_release-requires c = shown_in_journal (view_of c.self.inside) (unseen_of c.self.inside) c.args.id.now c.self.invariant (subst (λ (v : CoreModel). IsSome (find_named c.args.id.now v.state.snapshots)) (sym c.self.view_is) c.requires)

pub invariant_of-self : goal.invariant_of-self
invariant_of-self c =
    subst IsWholeInside (released_is c.self.inside c.push_release.new.self c.drop_snapshot.new.self c.args.id.now c.push_release.ensures.value c.drop_snapshot.ensures)
    (whole_release (view_of c.self.inside) (unseen_of c.self.inside) c.args.id.now c.push_release.new.self.spare _ refl (subst IsLog c.push_release.ensures.value c.push_release.ensures.whole) c.self.invariant)

pub returns : goal.returns
returns c =
    let becomes = released_is c.self.inside c.push_release.new.self c.drop_snapshot.new.self c.args.id.now c.push_release.ensures.value c.drop_snapshot.ensures in
    record {
      step = (λ m h.
          sym (ap (λ (v : CoreModel). step (rules_in v.settings m h) v.state (lines.Rollback c.args.id.now)) c.self.view_is)
          ∙ step_release m (view_of c.self.inside) (unseen_of c.self.inside) c.args.id.now c.push_release.new.self.spare (subst (λ (v : CoreModel). IsSome (find_named c.args.id.now v.state.snapshots)) (sym c.self.view_is) c.requires) c.self.invariant
          ∙ (λ i. ((view_of (becomes i)).state, Done)));
      event = event_released c.self.inside c.args.self.now c.push_release.new.self c.drop_snapshot.new.self c.args.id.now c.self.view_is c.push_release.ensures.value;
      stay = stay_released c.args.self.now _ c.args.id.now
          (ap (λ (v : CoreModel). v.state.txns) c.self.view_is)
          (ap (λ (n : Snapshots). n.active) c.drop_snapshot.ensures ∙ ap (λ (v : CoreModel). without c.args.id.now v.state.snapshots) c.self.view_is);
      vouched = (λ m k h.
          subst (λ (s : Inside). IsVouchedFor m (view_of s) k) becomes
          (subst (λ (v : CoreModel). IsVouchedFor m v k) (sym c.self.view_is) h));
      segmented = (λ h z.
          subst (λ (s : Inside). IsSegmented h (view_of s)) becomes
          (segmented_as h (view_of c.self.inside) _ refl refl (subst (λ (v : CoreModel). IsSegmented h v) (sym c.self.view_is) z)));
      kept = (λ m k.
          subst (λ (s : Inside). IsKept m (view_of s)) becomes
          (kept_release m (view_of c.self.inside) c.args.id.now c.push_release.new.self.spare (subst (λ (v : CoreModel). IsKept m v) (sym c.self.view_is) k)));
    }
