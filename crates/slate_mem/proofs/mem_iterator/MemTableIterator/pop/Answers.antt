use Rattle.std.proofs.Common.{ap, ◌∙◌}
use Rattle.std.proofs.lemmas.Result.{IfOk-from_err}
use Rattle.slate_types.specs.Iteration.{RowList}
use Rattle.slate_types.proofs.Exits.{err_exit, on_err}
use Rattle.slate_mem.specs.Slots.{standing}
use Rattle.slate_mem.proofs.PageLaws.{takes_front}
use Rattle.slate_mem.proofs.mem_iterator.MemTableIterator.pop.Goals as goal

pub returns-clause-taken : goal.returns-clause-taken
returns-clause-taken c =
    let all = c.fill.ensures.rows ∙ ap (λ (l : RowList). l.rows) c.self.view_is in
    takes_front c.fill.new.copies.items _ (standing c.fill.new.behind.items) c.args.self.now.rows c.pop_front.result c.pop_front.ensures.items c.pop_front.ensures.rest c.in_ok-fill.ensures.ends all

pub returns-clause-order : goal.returns-clause-order
returns-clause-order c = ap (λ (l : RowList). l.order) c.self.view_is

pub returns-in_err-fill : goal.returns-in_err-fill
returns-in_err-fill c =
    let same = (λ i. record { rows = c.fill.ensures.rows i; order = c.self.inside.order }) ∙ c.self.view_is in
    record {
      taken = IfOk-from_err c.from_residual.result _ c.from_residual.ensures.0;
      order = ap (λ (l : RowList). l.order) c.self.view_is;
      same = on_err c.from_residual.result same;
      cause = err_exit c.from_residual.result _ c.from_residual.ensures.1 _ c.in_err-fill.ensures.cause;
    }
