use Rattle.slate_shell.proofs.Responding.{reads_alone}
use Rattle.slate_shell.proofs.respond.read_alone.Goals as goal

pub returns : goal.returns
returns g c = reads_alone _ _ _ _ c.in_ok-opening.ensures.line c.in_ok-read.ensures.line c.in_ok-closing.ensures.line c.in_ok-opened.ensures c.in_ok-text.ensures c.in_ok-closed.ensures
