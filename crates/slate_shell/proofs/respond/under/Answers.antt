use Rattle.slate_shell.proofs.Responding.{kept_line}
use Rattle.slate_shell.proofs.respond.under.Goals as goal

pub returns-in_default : goal.returns-in_default
returns-in_default c = record { line = kept_line _ _ c.in_default.not-Get c.in_default.not-Scan c.in_default.not-Prefix; moment = λ h. h }
