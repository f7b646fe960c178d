use Rattle.std.proofs.Common.{◌≡◌, ap}
use Rattle.std.proofs.lemmas.Result.{IfOk-weaker}
use Rattle.slate_types.specs.Keys.{prefix_subrange}
use Rattle.slate_store.specs.Reach.{reach_of}
use Rattle.slate_db.specs.Prefixes.{asked_prefix}
use Rattle.slate_db.specs.ScanFilters.{scan_query}
use Rattle.slate_connection.specs.Connected.{plain_terms}
use Rattle.slate_connection.proofs.Scanning.{HasOpened, opened_at, opened_ready, scan_error_at, scan_goes, scan_more_steps, scan_reads, scan_steps, unopened_at}
use Rattle.slate_connection.proofs.scan.rows_within.Goals as goal

pub rows_of-rows-requires : goal.rows_of-rows-requires
rows_of-rows-requires g c =
    let first = c.scan_prefix_with_options in
    let a = reach_of g.S.Store g.M.MergeOperator g.T.BlockTransformer c.args.env.now in
    let b = reach_of g.S.Store g.M.MergeOperator g.T.BlockTransformer first.new.env in
    let order = c.args.options.now.order in
    let range = prefix_subrange c.args.prefix.now (g.B.ByteRangeBounds.start c.args.range.now) (g.B.ByteRangeBounds.end c.args.range.now) in
    let h = opened_at plain_terms order c.args.txn.now first.new.self a b (first.new.env ≡ c.args.env.now) (λ r. scan_query r (asked_prefix c.args.prefix.now) c.args.options.now.filter_context) c.requires.meaning first.result c.in-Ok.scan range c.in-Ok.is first.ensures.opened first.ensures.invalid in
    opened_ready plain_terms order h.r c.args.txn.now first.new.self c.in-Ok.scan h.id h.taken h.named

pub returns-in-Err : goal.returns-in-Err
returns-in-Err g c =
    let first = c.scan_prefix_with_options in
    let a = reach_of g.S.Store g.M.MergeOperator g.T.BlockTransformer c.args.env.now in
    let b = reach_of g.S.Store g.M.MergeOperator g.T.BlockTransformer first.new.env in
    let order = c.args.options.now.order in
    let range = prefix_subrange c.args.prefix.now (g.B.ByteRangeBounds.start c.args.range.now) (g.B.ByteRangeBounds.end c.args.range.now) in
    let no = unopened_at plain_terms order c.args.txn.now first.new.self a b (first.new.env ≡ c.args.env.now) (λ r. scan_query r (asked_prefix c.args.prefix.now) c.args.options.now.filter_context) c.requires.meaning first.result c.in-Err.error range
    (λ is. ap (reach_of g.S.Store g.M.MergeOperator g.T.BlockTransformer) is) c.in-Err.is first.ensures.opened first.ensures.invalid in
    record { goes = no.goes; noted = tt; more = no.more; cause = no.cause; reads = no.reads }

pub returns : goal.returns
returns g c =
    let first = c.scan_prefix_with_options in
    let rows = c.rows_of-rows in
    let a = reach_of g.S.Store g.M.MergeOperator g.T.BlockTransformer c.args.env.now in
    let b = reach_of g.S.Store g.M.MergeOperator g.T.BlockTransformer first.new.env in
    let z = reach_of g.S.Store g.M.MergeOperator g.T.BlockTransformer rows.new.env in
    let order = c.args.options.now.order in
    let range = prefix_subrange c.args.prefix.now (g.B.ByteRangeBounds.start c.args.range.now) (g.B.ByteRangeBounds.end c.args.range.now) in
    let t = c.args.txn.now in
    let u = first.new.self in
    let v = rows.new.txn in
    let it = c.in-Ok.scan in
    let h : HasOpened plain_terms order range t u a b it = opened_at plain_terms order t u a b (first.new.env ≡ c.args.env.now) (λ r. scan_query r (asked_prefix c.args.prefix.now) c.args.options.now.filter_context) c.requires.meaning first.result it range c.in-Ok.is first.ensures.opened first.ensures.invalid in
    let w = rows.ensures.walked in
    record {
      goes = scan_goes plain_terms order range t u v a b z it h w c.requires.meaning;
      noted = IfOk-weaker rows.result _ _ (λ found handed. scan_steps plain_terms order range t u v a b z it h w c.args.limit found.items handed) rows.ensures.handed;
      more = scan_more_steps plain_terms order range t u v a b z it h w;
      cause = scan_error_at plain_terms order range t u v a b z it h w rows.result rows.ensures.cause;
      reads = scan_reads plain_terms order range t u v a b z it h w;
    }
