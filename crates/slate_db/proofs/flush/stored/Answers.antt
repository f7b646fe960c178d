use Rattle.std.proofs.Common.{◌≡◌, map, inl, subst, sym, refl, arith, ◌∙◌}
use Rattle.std.proofs.lemmas.Result.{IfOk-from_err, err_from_is_err_and, IfErr-weaker}
use Rattle.slate_types.specs.Outside.{IsCounted, IsLater}
use Rattle.slate_types.proofs.Reaching.{puts_of, puts_then}
use Rattle.slate_store.specs.Reach.{reach_of}
use Rattle.slate_db.specs.Flushed.{layout_of}
use Rattle.slate_db.specs.Meaning.{segments_by}
use Rattle.slate_db.proofs.Adding.{adds_same}
use Rattle.slate_db.proofs.Built.{may_keep}
use Rattle.slate_db.proofs.Operands.{combine_is}
use Rattle.slate_db.proofs.RunSoFar.{can_build, has_too_large, rows_cause, run_cause, run_is_put, some_of_flush}
use Rattle.slate_types.proofs.StillLaws.{still_then, store_stays, transformer_stays, unasked_still, unblamed_of}
use Rattle.slate_db.proofs.flush.stored.Goals as goal
use Rattle.slate_types.proofs.Exits.{if_ok_both, on_err_weaker}

pub stored_runs-requires-clause-valid : goal.stored_runs-requires-clause-valid
stored_runs-requires-clause-valid g c = λ κs lives. c.requires.valid

pub stored_runs-requires-clause-names : goal.stored_runs-requires-clause-names
stored_runs-requires-clause-names g c = λ κs lives. c.requires.names

pub stored_runs-requires-clause-each : goal.stored_runs-requires-clause-each
stored_runs-requires-clause-each g c = λ κs lives.
    can_build (segments_by g.X.PrefixExtractor.lengths c.args.laws.now.segments) c.args.laws.now.options.table_bytes c.in_ok-rows.rows.items (map (λ t. t.rows.items) c.in_ok-parts.parts.items) c.in_ok-parts.ensures.cut c.in_ok-rows.ensures.order c.in_ok-rows.ensures.fit

pub returns : goal.returns
returns g c =
    let before = reach_of g.S.Store g.M.MergeOperator g.T.BlockTransformer c.args.env.now in
    let now = reach_of g.S.Store g.M.MergeOperator g.T.BlockTransformer (record c.args.env.now { operator = c.rows_of_flush.new.operator }) in
    let m = before.meaning in
    let operator = combine_is g.M.MergeOperator.combine c.args.env.now.operator in
    let layout = layout_of c.args.laws.now.options (map (λ p. (goal.FilterPolicy-dyn g (p.vtable, p.value)).meaning p.value) c.args.laws.now.policies.items) (segments_by g.X.PrefixExtractor.lengths c.args.laws.now.segments) in
    let parts = map (λ t. t.rows.items) c.in_ok-parts.parts.items in
    let prefixes = map (λ t. t.prefix) c.in_ok-parts.parts.items in
    let rows = c.in_ok-rows.ensures in
    let same = combine_is g.M.MergeOperator.combine c.rows_of_flush.new.operator ∙ rows.same ∙ sym operator in
    let after = reach_of g.S.Store g.M.MergeOperator g.T.BlockTransformer c.stored_runs.new.env in
    let later : IsLater before.faults now.faults = record { store = omega arith; operator = rows.later; transformer = omega arith } in
    record {
      stored = if_ok_both c.stored_runs.result _ _ _
          (λ a put stand. run_is_put m layout c.args.number c.args.barrier _ c.in_ok-rows.rows.items parts prefixes a.0 a.1.items _ _ rows.some (rows.folded m operator) rows.order c.in_ok-parts.ensures.cut c.in_ok-parts.ensures.segments stand put)
          c.stored_runs.ensures.stored c.stored_runs.ensures.stand;
      acts = c.stored_runs.ensures.acts;
      adds = c.stored_runs.ensures.leaves.adds;
      refused = on_err_weaker c.stored_runs.result (some_of_flush m layout c.args.number c.args.barrier _ c.in_ok-rows.rows.items parts _ _ rows.some (rows.folded m operator) rows.order c.in_ok-parts.ensures.cut) c.stored_runs.ensures.leaves.refused;
      cause = IfErr-weaker c.stored_runs.result _ _ (λ e h. run_cause before now after e later (λ large. (c.in_ok-rows.rows.items, rows.folded m operator, rows.order, has_too_large layout c.in_ok-rows.rows.items parts e c.in_ok-parts.ensures.cut large)) h) c.stored_runs.ensures.leaves.cause;
      wanted = λ none among. absurd (rows.wanted (sym operator ∙ none) among);
      puts = puts_then before now after (puts_of before now same refl refl later refl) c.stored_runs.ensures.leaves.puts;
      still = (let asked : now.faults.operator ≡ before.faults.operator = rows.still in still_then before.faults now.faults after.faults c.stored_runs.result (λ i. record before.faults { operator = asked i }) c.stored_runs.ensures.leaves.still);
    }

pub returns-in_err-rows : goal.returns-in_err-rows
returns-in_err-rows g c =
    let before = reach_of g.S.Store g.M.MergeOperator g.T.BlockTransformer c.args.env.now in
    let now = reach_of g.S.Store g.M.MergeOperator g.T.BlockTransformer (record c.args.env.now { operator = c.rows_of_flush.new.operator }) in
    let m = before.meaning in
    let operator = combine_is g.M.MergeOperator.combine c.args.env.now.operator in
    let same = combine_is g.M.MergeOperator.combine c.rows_of_flush.new.operator ∙ c.in_err-rows.ensures.same ∙ sym operator in
    let p = err_from_is_err_and c.from_residual.result c.from_residual.ensures.1 in
    record {
      stored = IfOk-from_err c.from_residual.result _ c.from_residual.ensures.0;
      acts = IfOk-from_err c.from_residual.result _ c.from_residual.ensures.0;
      adds = adds_same _ _ refl;
      refused = rw p.1 (may_keep _ _ _ (λ i. g.S.Store.objects c.args.env.now.store.now));
      cause = rw (p.1, p.2) (rows_cause before.faults now.faults m (map (λ t. t.rows) c.args.frozen.now) c.in_err-rows.field-0.0 (c.in_err-rows.ensures.missing m operator) c.in_err-rows.ensures.cause);
      wanted = λ none among. IfOk-from_err c.from_residual.result _ c.from_residual.ensures.0;
      puts = puts_of before now same refl refl (record { store = omega arith; operator = c.in_err-rows.ensures.later; transformer = omega arith }) refl;
      still = rw (p.1, p.2) (unblamed_of before.faults now.faults c.in_err-rows.field-0.0 (store_stays _ _ c.in_err-rows.field-0.0 refl) c.in_err-rows.ensures.still (transformer_stays _ _ c.in_err-rows.field-0.0 refl));
    }

pub returns-in_err-parts : goal.returns-in_err-parts
returns-in_err-parts g c =
    let operator = combine_is g.M.MergeOperator.combine c.args.env.now.operator in
    let same = combine_is g.M.MergeOperator.combine c.rows_of_flush.new.operator ∙ c.in_ok-rows.ensures.same ∙ sym operator in
    let before = reach_of g.S.Store g.M.MergeOperator g.T.BlockTransformer c.args.env.now in
    let now = reach_of g.S.Store g.M.MergeOperator g.T.BlockTransformer (record c.args.env.now { operator = c.rows_of_flush.new.operator }) in
    let p = err_from_is_err_and c.from_residual-in_err-parts.result c.from_residual-in_err-parts.ensures.1 in
    record {
      stored = IfOk-from_err c.from_residual-in_err-parts.result _ c.from_residual-in_err-parts.ensures.0;
      acts = IfOk-from_err c.from_residual-in_err-parts.result _ c.from_residual-in_err-parts.ensures.0;
      adds = adds_same _ _ refl;
      refused = rw p.1 (may_keep _ _ _ (λ i. g.S.Store.objects c.args.env.now.store.now));
      cause = rw (p.1, p.2) (inl (subst (IsCounted before.faults now.faults) (sym c.in_err-parts.ensures.cause) tt));
      wanted = λ none among. IfOk-from_err c.from_residual-in_err-parts.result _ c.from_residual-in_err-parts.ensures.0;
      puts = puts_of before now same refl refl (record { store = omega arith; operator = c.in_ok-rows.ensures.later; transformer = omega arith }) refl;
      still = (let asked : now.faults.operator ≡ before.faults.operator = c.in_ok-rows.ensures.still in still_then before.faults now.faults now.faults c.from_residual-in_err-parts.result (λ i. record before.faults { operator = asked i }) (unasked_still now.faults c.from_residual-in_err-parts.result));
    }
