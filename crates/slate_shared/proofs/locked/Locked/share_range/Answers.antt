use Rattle.std.proofs.Common.{◌≡◌, ℕ, refl, sym, ap, subst, ◌∙◌}
use Rattle.std.proofs.lemmas.Result.{IfOk-weaker}
use Rattle.slate_txn.specs.Replay.{IsLegal}
use Rattle.slate_txn.specs.Settings.{Settings, settings_of}
use Rattle.slate_db.specs.Model.{CoreModel}
use Rattle.slate_shared.specs.Locked.{IsHeld}
use Rattle.slate_shared.specs.LockedModel.{LockedModel, holds_at}
use Rattle.slate_shared.proofs.TablesNamed.{names_same}
use Rattle.slate_shared.proofs.locked.Locked.share_range.Goals as goal

pub invariant_of-self : goal.invariant_of-self
invariant_of-self g c = (
  subst (IsHeld (settings_of g.P.Parts.options) g.P.Parts.meaning g.P.Parts.segments c.self.inside.flight c.self.inside.installed) (sym c.share_range.ensures.same) c.self.invariant.0,
  names_same g.P.Parts.meaning g.P.Parts.policies c.self.inside.core.events c.share_range.new.self.events (ap (λ (x : CoreModel). x.events) c.share_range.ensures.same) c.self.invariant.1,
)

pub returns : goal.returns
returns g c = record {
  same = ap (λ (x : CoreModel). holds_at x.events c.self.inside.flight) c.share_range.ensures.same ∙ c.self.view_is;
  shared = IfOk-weaker c.share_range.result _ _ (λ s h. (
    c.self.inside.core,
    record {
      locked = c.self.invariant.0.locked;
      events = ap (λ (l : LockedModel). l.events) c.self.view_is;
      legal = subst (λ (n : ℕ). IsLegal n c.self.inside.core.events) (ap (λ (s : Settings). s.start_seq) c.self.invariant.0.locked.settings) c.journal.ensures.legal;
      replays = c.journal.ensures.replays;
    },
    h,
  )) c.share_range.ensures.shared;
  cause = c.share_range.ensures.cause;
}
