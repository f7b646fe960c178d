use Rattle.std.proofs.Common.{ap, ◌∙◌}
use Rattle.slate_shell.proofs.Responding.{read_failed, read_meant, read_other, read_silent}
use Rattle.slate_shell.proofs.reading.read_typed.Goals as goal

pub returns-in-Ok-Some : goal.returns-in-Ok-Some
returns-in-Ok-Some c =
    let means = rw c.in-Ok-Some.field-0-is at c.in-Ok-Some.ensures.meant in
    let both = read_meant c.args.typed.now c.in_ok-copy.copy.items c.in-Ok-Some.line c.in_ok-copy.ensures.items means in
    record { read = both.0; moment = both.1; cause = tt }
