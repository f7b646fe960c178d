use Rattle.std.proofs.Common.{map, subst}
use Rattle.slate_store.specs.Reach.{reach_of}
use Rattle.slate_db.specs.Meaning.{segments_by}
use Rattle.slate_db.specs.Settled.{IsSettledIn}
use Rattle.slate_steps.proofs.Reading.{if_err_map}
use Rattle.slate_steps.proofs.StoreTruth.{checked_in}
use Rattle.slate_stock.proofs.CauseLaws.{settled_as}
use Rattle.slate_stock.proofs.CoreLaws.{left_settled}
use Rattle.slate_stock.proofs.EndLaws.{truth_settled}
use Rattle.slate_stock.proofs.GoingLaws.{order_answers, total_answers}
use Rattle.slate_stock.proofs.RunLaws.{IsOrderCall, IsTotalCall}
use Rattle.slate_stock.proofs.run.answer_line.Goals as goal

pub returns-in-Order : goal.returns-in-Order
returns-in-Order g c =
    let before = reach_of g.S.Store g.M.MergeOperator g.T.BlockTransformer c.args.env.now in
    let after = reach_of g.S.Store g.M.MergeOperator g.T.BlockTransformer c.run_order_core-made.new.env in
    let policies = map (λ p. (goal.FilterPolicy-dyn g (p.vtable, p.value)).meaning p.value) c.args.laws.now.policies.items in
    let core = c.args.core.now in
    let made = c.run_order_core-made.ensures in
    let call : IsOrderCall policies c.in-Order.order _ before after core c.run_order_core-made.new.core c.run_order_core-made.result = record {
      committed = made.committed;
      left = made.left;
      cause = made.cause;
      refused = λ seg settled. if_err_map c.run_order_core-made.result _ _ (λ e x. truth_settled policies seg before after before.meaning core c.in-Order.order e settled x) (made.refused seg (checked_in policies seg before after core settled));
      exhausted = λ full. made.exhausted full;
      settled = subst (λ s. IsSettledIn policies (segments_by g.X.PrefixExtractor.lengths s) before core → IsSettledIn policies (segments_by g.X.PrefixExtractor.lengths s) after c.run_order_core-made.new.core) c.requires.whole made.settled;
      vouched = λ seg settled vouched. made.vouched seg settled vouched;
      orders = λ are. made.orders are;
      grows = made.grows.0;
      reads = made.reads;
      legal = c.journal.ensures.legal;
      replays = c.journal.ensures.replays;
    } in
    order_answers policies before after core c.run_order_core-made.new.core c.args.line c.ordered.result c.in-Order.order _ c.run_order_core-made.result c.in-Order.is call c.ordered.ensures.done c.ordered.ensures.refused c.ordered.ensures.cause made.counts

pub returns-in-Total : goal.returns-in-Total
returns-in-Total g c =
    let before = reach_of g.S.Store g.M.MergeOperator g.T.BlockTransformer c.args.env.now in
    let after = reach_of g.S.Store g.M.MergeOperator g.T.BlockTransformer c.total-found.new.env in
    let policies = map (λ p. (goal.FilterPolicy-dyn g (p.vtable, p.value)).meaning p.value) c.args.laws.now.policies.items in
    let core = c.args.core.now in
    let found = c.total-found.ensures in
    let call : IsTotalCall policies c.in-Total.asset before after core c.total-found.new.core c.total-found.result = record {
      total = λ seg settled. found.total seg settled;
      refused = λ seg settled. found.refused seg settled;
      cause = found.cause;
      left = found.left;
      reads = found.reads;
      settled = λ settled. settled_as policies _ before after c.total-found.new.core found.reads (left_settled policies before.meaning _ before.objects core c.total-found.new.core found.left settled);
      legal = c.journal.ensures.legal;
      replays = c.journal.ensures.replays;
      named = c.is_named.ensures;
    } in
    total_answers policies before after core c.total-found.new.core c.args.line c.totalled.result c.in-Total.asset c.total-found.result c.in-Total.is call c.totalled.ensures.found c.totalled.ensures.refused c.totalled.ensures.cause found.counts
