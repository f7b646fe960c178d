use Rattle.std.proofs.Common.{inl, map, refl, sym, ap, subst}
use Rattle.std.proofs.lemmas.Result.{IfOk-from_err, err_from_is_err_and}
use Rattle.slate_types.specs.declared.filter_policy.FilterQuery.{FilterQuery}
use Rattle.slate_types.specs.Outside.{IsCounted, Reach}
use Rattle.slate_types.proofs.Calls.{call_none}
use Rattle.slate_types.proofs.Reaching.{reads_none}
use Rattle.slate_store.specs.Reach.{reach_of}
use Rattle.slate_table.specs.Filtered.{point_query}
use Rattle.slate_db.proofs.Behind.{asks_none, asks_so, finds_so}
use Rattle.slate_db.proofs.Checks.{checks_err}
use Rattle.slate_db.proofs.Filters.{asked_so}
use Rattle.slate_db.proofs.engine.Core.asked.Goals as goal

pub returns-in_err-query : goal.returns-in_err-query
returns-in_err-query g c =
    let p = err_from_is_err_and c.from_residual.result c.from_residual.ensures.1 in
    record {
      read = λ from found. record {
        answer = λ is. IfOk-from_err c.from_residual.result _ c.from_residual.ensures.0;
        undamaged = λ is. let p = err_from_is_err_and c.from_residual.result c.from_residual.ensures.1 in rw (p.1, p.2) (subst (IsCounted _ _) (sym c.in_err-query.ensures.cause) tt);
        cause = rw (p.1, p.2) (inl (subst (IsCounted _ _) (sym c.in_err-query.ensures.cause) tt));
        checked = λ os is. checks_err c.from_residual.result os (reach_of g.S.Store g.M.MergeOperator g.T.BlockTransformer c.args.env.now) (reach_of g.S.Store g.M.MergeOperator g.T.BlockTransformer c.args.env.now) c.from_residual.ensures.0;
        reads = reads_none _;
        still = refl;
      };
      asks = asks_none (record { policies = map (λ p. (goal.FilterPolicy-dyn g (p.vtable, p.value)).meaning p.value) c.args.laws.now.policies.items; query = point_query c.args.key.now c.args.context.now }) _ _ _ (call_none _);
      finds = λ from found above is needs. IfOk-from_err c.from_residual.result _ c.from_residual.ensures.0;
      own = λ t op found one replaces. record { answer = IfOk-from_err c.from_residual.result _ c.from_residual.ensures.0; cause = rw (p.1, p.2) c.in_err-query.ensures.cause; reached = refl };
      decided = λ t found some. (call_none _, refl);
      folded = λ t found some lawful short. IfOk-from_err c.from_residual.result _ c.from_residual.ensures.0;
      missing = λ t found lacks some. IfOk-from_err c.from_residual.result _ c.from_residual.ensures.0;
      operand = λ from found lacks meets. IfOk-from_err c.from_residual.result _ c.from_residual.ensures.0;
    }

pub seen_by-requires : goal.seen_by-requires
seen_by-requires g c = record { «open» = c.requires; query = ap (λ (q : FilterQuery). q.target) c.in_ok-query.ensures.query }

pub returns : goal.returns
returns g c =
    let before : Reach = reach_of g.S.Store g.M.MergeOperator g.T.BlockTransformer c.args.env.now in
    let after : Reach = reach_of g.S.Store g.M.MergeOperator g.T.BlockTransformer c.seen_by.new.env in
    let query : FilterQuery = point_query c.args.key.now c.args.context.now in
    record {
      read = λ from found. asked_so (λ p. (goal.FilterPolicy-dyn g (p.vtable, p.value)).meaning p.value) c.as_slice.result.now c.args.laws.now.policies.items c.in_ok-query.query query c.args.at before after c.args.self.now _ c.seen_by.result
          c.as_slice.ensures.value c.in_ok-query.ensures.query (c.seen_by.ensures.read from found);
      asks = asks_so (λ p. (goal.FilterPolicy-dyn g (p.vtable, p.value)).meaning p.value) c.as_slice.result.now c.args.laws.now.policies.items c.in_ok-query.query query before after c.args.self.now
          c.as_slice.ensures.value c.in_ok-query.ensures.query c.seen_by.ensures.asks;
      finds = λ from found above. finds_so (λ p. (goal.FilterPolicy-dyn g (p.vtable, p.value)).meaning p.value) c.as_slice.result.now c.args.laws.now.policies.items c.in_ok-query.query query c.args.key.now _ before after c.args.self.now c.seen_by.result
          c.as_slice.ensures.value c.in_ok-query.ensures.query (c.seen_by.ensures.finds from found above);
      own = c.seen_by.ensures.own;
      decided = c.seen_by.ensures.decided;
      folded = c.seen_by.ensures.folded;
      missing = c.seen_by.ensures.missing;
      operand = c.seen_by.ensures.operand;
    }
