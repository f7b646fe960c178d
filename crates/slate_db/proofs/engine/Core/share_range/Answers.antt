use Rattle.std.proofs.Common.{◌≡◌, List, sym, ap, subst, ◌∙◌}
use Rattle.std.proofs.lemmas.Result.{IfOk-weaker}
use Rattle.slate_db.specs.Layers.{LayersModel}
use Rattle.slate_db.specs.Model.{CoreModel, Rows}
use Rattle.slate_db.specs.RangeShares.{HasUpto, IsRangeShare}
use Rattle.slate_db.specs.View.{view_of, unseen_of, IsWholeInside}
use Rattle.slate_db.specs.Whole.{IsWhole}
use Rattle.slate_db.proofs.engine.Core.share_range.Goals as goal

stays : (c : goal.After-share_range) → c.self.inside ≡ record c.self.inside { layers = c.share_range.new.self }
stays c = ap (λ (y : LayersModel). record c.self.inside { layers = y }) (sym c.share_range.ensures.same)

pub invariant_of-self : goal.invariant_of-self
invariant_of-self c = subst IsWholeInside (stays c) c.self.invariant

pub returns : goal.returns
returns c = record {
  same = sym (ap view_of (stays c)) ∙ c.self.view_is;
  shared = IfOk-weaker c.share_range.result _ _ (λ s h. record {
    unseen = unseen_of c.self.inside;
    whole = subst (λ (v : CoreModel). IsWhole v (unseen_of c.self.inside)) c.self.view_is c.self.invariant;
    tables = h.2;
    frozen_are = h.1 ∙ ap (λ (v : CoreModel). v.frozen) c.self.view_is;
    active_has = subst (λ (v : CoreModel). HasUpto c.args.range.now c.args.at v.active s.active) c.self.view_is h.0;
  }) c.share_range.ensures.shared;
  cause = c.share_range.ensures.cause;
}
