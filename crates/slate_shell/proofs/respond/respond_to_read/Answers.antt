use Rattle.slate_shell.proofs.Responding.{alone_otherwise, its_moment}
use Rattle.slate_shell.proofs.respond.respond_to_read.Goals as goal

pub read_alone-requires-clause-moment : goal.read_alone-requires-clause-moment
read_alone-requires-clause-moment g c = λ κs lives. its_moment c.in_ok-read.read c.in-Meant.named c.in_ok-read.ensures c.in-Meant.is

pub returns-in-Meant : goal.returns-in-Meant
returns-in-Meant g c = alone_otherwise _ _ _ _ _ _ c.in-Meant.named c.read_alone.ensures
