use Rattle.slate_shell.proofs.Responding.{answered_otherwise, its_moment}
use Rattle.slate_shell.proofs.respond.respond_otherwise.Goals as goal

pub answer-requires-clause-moment : goal.answer-requires-clause-moment
answer-requires-clause-moment g c = λ κs lives. its_moment c.in_ok-read.read c.in-Meant.line c.in_ok-read.ensures.moment c.in-Meant.is

pub returns-in-Meant : goal.returns-in-Meant
returns-in-Meant g c = answered_otherwise _ c.in-Meant.line c.answer.ensures
