use Rattle.std.proofs.lemmas.Result.{IfOk-from_err}
use Rattle.slate_store.proofs.Ends.{cut_told}
use Rattle.slate_store.proofs.lines.Held.cut.Goals as goal

pub returns-in_ok-extend_from_slice-in-Some-clause-line :
    goal.returns-in_ok-extend_from_slice-in-Some-clause-line
returns-in_ok-extend_from_slice-in-Some-clause-line c =
    rw (c.replace.ensures.value, c.replace.ensures.after, c.new.ensures.items, c.in_ok-extend_from_slice-in-Some.ensures.items, c.deref.ensures.value)
    (cut_told c.args.self.now.line.items c.args.self.now.piece.items c.args.self.now.start c.args.self.now.end c.in-Some.place c.requires.partial (rw c.deref.ensures.value at c.in-Some.ensures))

pub returns-in_err-extend_from_slice-in-Some-clause-line : goal.returns-in_err-extend_from_slice-in-Some-clause-line
returns-in_err-extend_from_slice-in-Some-clause-line c = IfOk-from_err c.from_residual.result _ c.from_residual.ensures.0

pub returns-in_err-extend_from_slice-in-Some-clause-none : goal.returns-in_err-extend_from_slice-in-Some-clause-none
returns-in_err-extend_from_slice-in-Some-clause-none c = IfOk-from_err c.from_residual.result _ c.from_residual.ensures.0

pub returns-in_err-extend_from_slice-in-None-clause-line : goal.returns-in_err-extend_from_slice-in-None-clause-line
returns-in_err-extend_from_slice-in-None-clause-line c = IfOk-from_err c.from_residual-in_err-extend_from_slice-in-None.result _ c.from_residual-in_err-extend_from_slice-in-None.ensures.0

pub returns-in_err-extend_from_slice-in-None-clause-none : goal.returns-in_err-extend_from_slice-in-None-clause-none
returns-in_err-extend_from_slice-in-None-clause-none c = IfOk-from_err c.from_residual-in_err-extend_from_slice-in-None.result _ c.from_residual-in_err-extend_from_slice-in-None.ensures.0
