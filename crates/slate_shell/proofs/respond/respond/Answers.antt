use Rattle.std.proofs.Common.{ap, Err, ◌∙◌}
use Rattle.std.proofs.lemmas.Result.{err_from_is_err_and}
use Rattle.slate_shell.proofs.Responding.{failed_responds, its_moment, meant_responds, other_responds, silent_responds}
use Rattle.slate_shell.proofs.respond.respond.Goals as goal

pub answer-requires-clause-moment : goal.answer-requires-clause-moment
answer-requires-clause-moment g c = λ κs lives. its_moment c.in_ok-read.read c.in-Meant.line c.in_ok-read.ensures.moment c.in-Meant.is

pub returns-in_err-read : goal.returns-in_err-read
returns-in_err-read g c = let p = err_from_is_err_and c.from_residual.result c.from_residual.ensures.1 in failed_responds _ _ (p.1 ∙ ap Err p.2 ∙ ap Err c.in_err-read.ensures.cause)

pub returns-in-Meant : goal.returns-in-Meant
returns-in-Meant g c = meant_responds _ _ c.in_ok-read.read c.in-Meant.line c.in_ok-read.ensures.read c.in-Meant.is c.answer.ensures

pub returns-in-Silent : goal.returns-in-Silent
returns-in-Silent g c = silent_responds _ _ c.in_ok-read.read c.in_ok-read.ensures.read c.in-Silent.is c.new.ensures.items

pub returns-in-Other : goal.returns-in-Other
returns-in-Other g c = other_responds _ _ c.in_ok-read.read c.in_ok-read.ensures.read c.in-Other.is c.respond_otherwise.ensures
