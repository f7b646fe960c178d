use Rattle.std.proofs.Common.{sym}
use Rattle.slate_shell.proofs.ShownLaws.{shown_other}
use Rattle.slate_shell.proofs.answers.shown.Goals as goal

pub returns-in_default : goal.returns-in_default
returns-in_default c = rw (sym (shown_other c.args.answer (λ rows is. c.in_default.not-Rows rows is))) c.reply_text-text.ensures.text
