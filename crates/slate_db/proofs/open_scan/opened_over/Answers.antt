use Rattle.std.proofs.Common.{List, map, ap, ◌∙◌}
use Rattle.std.specs.Prelude.{Err}
use Rattle.std.proofs.lemmas.Result.{IfOk-from_err, err_from_is_err_and}
use Rattle.slate_types.proofs.Reaching.{reads_then}
use Rattle.slate_store.specs.Reach.{reach_of}
use Rattle.slate_filter.specs.Policy.{Policy}
use Rattle.slate_mem.specs.Table.{MemTableModel}
use Rattle.slate_db.specs.ScanFilters.{scan_query}
use Rattle.slate_db.proofs.RangeShares.{asking_opens, rows_refused, sources_open}
use Rattle.slate_types.specs.Outside.{unblamed}
use Rattle.slate_db.proofs.open_scan.opened_over.Goals as goal

pub returns-in_err-sources : goal.returns-in_err-sources
returns-in_err-sources g c =
    let p = err_from_is_err_and c.from_residual.result c.from_residual.ensures.1 in
    let policies : List Policy = map (λ p. (goal.FilterPolicy-dyn g (p.vtable, p.value)).meaning p.value) c.args.policies.now in
    record {
      opened = λ v id from st mine.
          asking_opens policies (scan_query c.args.range c.args.how.prefix c.args.how.filter_context) (reach_of g.S.Store g.M.MergeOperator g.T.BlockTransformer c.args.env.now) (reach_of g.S.Store g.M.MergeOperator g.T.BlockTransformer c.asked_sources.new.env) v c.args.range c.args.at
          c.args.active.now.rows (map (λ (t : MemTableModel). t.rows) c.args.frozen.now) c.args.runs.now id from c.args.how.order c.in_err-sources.field-0.0 c.from_residual.result (p.1 ∙ ap (λ e. Err e) p.2) c.in_err-sources.ensures.refused st c.in_err-sources.ensures.still;
      range = IfOk-from_err c.from_residual.result _ c.from_residual.ensures.0;
      order = IfOk-from_err c.from_residual.result _ c.from_residual.ensures.0;
      reads = c.asked_sources.ensures.reads;
      still = rw (p.1, p.2) c.in_err-sources.ensures.still;
    }

pub returns-in_err-rows : goal.returns-in_err-rows
returns-in_err-rows g c =
    let p = err_from_is_err_and c.from_residual-in_err-rows.result c.from_residual-in_err-rows.ensures.1 in
    let policies : List Policy = map (λ p. (goal.FilterPolicy-dyn g (p.vtable, p.value)).meaning p.value) c.args.policies.now in
    let before = reach_of g.S.Store g.M.MergeOperator g.T.BlockTransformer c.args.env.now in
    let middle = reach_of g.S.Store g.M.MergeOperator g.T.BlockTransformer c.asked_sources.new.env in
    let after = reach_of g.S.Store g.M.MergeOperator g.T.BlockTransformer c.merged.new.env in
    record {
      opened = λ v id from st mine.
          rows_refused policies (scan_query c.args.range c.args.how.prefix c.args.how.filter_context) before middle after v c.args.range c.args.at c.args.how.order
          c.args.active.now.rows (map (λ (t : MemTableModel). t.rows) c.args.frozen.now) c.args.runs.now c.args.own c.in_ok-sources.sources.items c.asked_sources.ensures.reads c.merged.ensures.reads c.in_ok-sources.ensures.sources id from st mine
          c.in_err-rows.field-0.0 c.from_residual-in_err-rows.result (p.1 ∙ ap (λ e. Err e) p.2) c.in_err-rows.ensures.cause (λ paths h. (c.in_err-rows.ensures.within paths h).0) (c.in_err-rows.ensures.still ∙ ap (unblamed c.in_err-rows.field-0.0) c.in_ok-sources.ensures.still);
      range = IfOk-from_err c.from_residual-in_err-rows.result _ c.from_residual-in_err-rows.ensures.0;
      order = IfOk-from_err c.from_residual-in_err-rows.result _ c.from_residual-in_err-rows.ensures.0;
      reads = reads_then before middle after c.asked_sources.ensures.reads c.merged.ensures.reads;
      still = rw (p.1, p.2) (c.in_err-rows.ensures.still ∙ ap (unblamed c.in_err-rows.field-0.0) c.in_ok-sources.ensures.still);
    }

pub returns : goal.returns
returns g c =
    let policies : List Policy = map (λ p. (goal.FilterPolicy-dyn g (p.vtable, p.value)).meaning p.value) c.args.policies.now in
    let before = reach_of g.S.Store g.M.MergeOperator g.T.BlockTransformer c.args.env.now in
    let middle = reach_of g.S.Store g.M.MergeOperator g.T.BlockTransformer c.asked_sources.new.env in
    let after = reach_of g.S.Store g.M.MergeOperator g.T.BlockTransformer c.merged.new.env in
    let rows = c.in_ok-rows.ensures in
    let made = c.new.ensures in
    record {
      opened = λ v id from st mine.
          sources_open policies (scan_query c.args.range c.args.how.prefix c.args.how.filter_context) before middle after v c.args.range c.args.at c.args.how.order
          c.args.active.now.rows (map (λ (t : MemTableModel). t.rows) c.args.frozen.now) c.args.runs.now c.args.own c.in_ok-sources.sources.items c.asked_sources.ensures.reads c.merged.ensures.reads c.in_ok-sources.ensures.sources id from st mine
          c.in_ok-rows.rows c.new.result made.state made.range made.order rows.going rows.sound rows.rows rows.operable rows.checked rows.later rows.brought rows.offered rows.within (rows.still ∙ c.in_ok-sources.ensures.still);
      range = made.range;
      order = made.order;
      reads = reads_then before middle after c.asked_sources.ensures.reads c.merged.ensures.reads;
      still = c.in_ok-rows.ensures.still ∙ c.in_ok-sources.ensures.still;
    }
