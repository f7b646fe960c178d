use Rattle.std.proofs.Common.{◌≡◌, List, ap, subst, ◌∙◌}
use Rattle.std.specs.Prelude.{Err, Ok}
use Rattle.std.proofs.lemmas.Result.{err_from_is_err_and}
use Rattle.slate_store.specs.Reach.{reach_of}
use Rattle.slate_filter.specs.Policy.{Policy}
use Rattle.slate_db.specs.ScanFilters.{scan_query}
use Rattle.slate_shared.specs.Scans.{IsOpening}
use Rattle.slate_shared.proofs.ScanReads.{scan_noted, scan_refused}
use Rattle.slate_shared.proofs.txn.DbTransaction.scan_over.Goals as goal

pub returns-in_err-rows : goal.returns-in_err-rows
returns-in_err-rows g c =
    let p = err_from_is_err_and c.from_residual.result c.from_residual.ensures.1 in
    scan_refused g.P.Parts.options g.P.Parts.meaning g.P.Parts.policies (scan_query c.args.range c.args.prefix c.args.options.now.filter_context) c.args.range c.args.options.now.order c.args.self.now c.opened.new.self (reach_of g.S.Store g.M.MergeOperator g.T.BlockTransformer c.args.env.now) (reach_of g.S.Store g.M.MergeOperator g.T.BlockTransformer c.opened.new.env)
    c.requires.meaning (c.opened.new.env ≡ c.args.env.now) c.in_err-rows.field-0.0 (subst (λ (ps : List Policy). IsOpening g.P.Parts.options g.P.Parts.meaning ps (scan_query c.args.range c.args.prefix c.args.options.now.filter_context) c.args.range c.args.options.now.order c.args.self.now c.opened.new.self (reach_of g.S.Store g.M.MergeOperator g.T.BlockTransformer c.args.env.now) (reach_of g.S.Store g.M.MergeOperator g.T.BlockTransformer c.opened.new.env) (c.opened.new.env ≡ c.args.env.now) (Err c.in_err-rows.field-0.0)) c.requires.laws.policies c.in_err-rows.ensures) c.from_residual.result (p.1 ∙ ap (λ e. Err e) p.2)

pub returns : goal.returns
returns g c =
    scan_noted g.P.Parts.options g.P.Parts.meaning g.P.Parts.policies (scan_query c.args.range c.args.prefix c.args.options.now.filter_context) c.args.range c.args.options.now.order c.args.self.now c.opened.new.self (reach_of g.S.Store g.M.MergeOperator g.T.BlockTransformer c.args.env.now) (reach_of g.S.Store g.M.MergeOperator g.T.BlockTransformer c.opened.new.env)
    c.requires.meaning (c.opened.new.env ≡ c.args.env.now) c.in_ok-rows.rows (subst (λ (ps : List Policy). IsOpening g.P.Parts.options g.P.Parts.meaning ps (scan_query c.args.range c.args.prefix c.args.options.now.filter_context) c.args.range c.args.options.now.order c.args.self.now c.opened.new.self (reach_of g.S.Store g.M.MergeOperator g.T.BlockTransformer c.args.env.now) (reach_of g.S.Store g.M.MergeOperator g.T.BlockTransformer c.opened.new.env) (c.opened.new.env ≡ c.args.env.now) (Ok c.in_ok-rows.rows)) c.requires.laws.policies c.in_ok-rows.ensures) c.note_scan.new.self c.note_scan.result c.note_scan.ensures.noted c.note_scan.ensures.same c.note_scan.ensures.cause
