use Rattle.std.proofs.Common.{ap, ◌∙◌}
use Rattle.std.proofs.lemmas.Result.{IfOk-from_err}
use Rattle.slate_types.specs.Iteration.{RowList, begins_before}
use Rattle.slate_types.proofs.Exits.{err_exit}
use Rattle.slate_mem.specs.Slots.{standing}
use Rattle.slate_mem.proofs.PageLaws.{begins_all}
use Rattle.slate_mem.proofs.mem_iterator.MemTableIterator.begins_before.Goals as goal

pub returns-clause-test : goal.returns-clause-test
returns-clause-test c =
    let order = c.self.inside.order in
    let key = c.args.key.now in
    c.front_before.ensures ∙ begins_all order key c.fill.new.copies.items (standing c.fill.new.behind.items) c.in_ok-fill.ensures.ends ∙ ap (begins_before order key) c.fill.ensures.rows
    ∙ ap (λ (l : RowList). begins_before l.order key l.rows) c.self.view_is

pub returns-clause-same : goal.returns-clause-same
returns-clause-same c = (λ i. record { rows = c.fill.ensures.rows i; order = c.self.inside.order }) ∙ c.self.view_is

pub returns-in_err-fill : goal.returns-in_err-fill
returns-in_err-fill c =
    record {
      same = (λ i. record { rows = c.fill.ensures.rows i; order = c.self.inside.order }) ∙ c.self.view_is;
      test = IfOk-from_err c.from_residual.result _ c.from_residual.ensures.0;
      cause = err_exit c.from_residual.result _ c.from_residual.ensures.1 _ c.in_err-fill.ensures.cause;
    }
