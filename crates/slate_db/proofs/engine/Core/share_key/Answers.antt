use Rattle.std.proofs.Common.{◌≡◌, ◌++◌, sym, ap, subst, ◌∙◌}
use Rattle.std.specs.Prelude.{IfOk}
use Rattle.std.proofs.lemmas.Result.{IfOk-weaker}
use Rattle.slate_mem.specs.Lookup.{newest_first}
use Rattle.slate_mem.specs.Table.{newest}
use Rattle.slate_db.specs.KeyShares.{IsKeyShare, KeyShareModel}
use Rattle.slate_db.specs.Layers.{LayersModel}
use Rattle.slate_db.specs.Model.{CoreModel}
use Rattle.slate_db.specs.SharedRuns.{tables_in}
use Rattle.slate_db.specs.View.{view_of, unseen_of, IsWholeInside}
use Rattle.slate_db.specs.Whole.{IsWhole}
use Rattle.slate_db.proofs.UnderOwn.{memory_first}
use Rattle.slate_db.proofs.engine.Core.share_key.Goals as goal

stays : (c : goal.After-share_key) → c.self.inside ≡ record c.self.inside { layers = c.share_key.new.self }
stays c = ap (λ (y : LayersModel). record c.self.inside { layers = y }) (sym c.share_key.ensures.same)

pub invariant_of-self : goal.invariant_of-self
invariant_of-self c = subst IsWholeInside (stays c) c.self.invariant

pub returns : goal.returns
returns c = record {
  same = sym (ap view_of (stays c)) ∙ c.self.view_is;
  shared = IfOk-weaker c.share_key.result _ _ (λ s h. record {
    unseen = unseen_of c.self.inside;
    whole = subst (λ (v : CoreModel). IsWhole v (unseen_of c.self.inside)) c.self.view_is c.self.invariant;
    tables = h.1;
    rows = h.0 ∙ ap (λ (v : CoreModel). newest c.args.key.now c.args.at (v.active ++ newest_first v.frozen)) c.self.view_is ∙ ap (newest c.args.key.now c.args.at) (sym (memory_first c.args.self.now));
  }) c.share_key.ensures.shared;
  cause = c.share_key.ensures.cause;
}
