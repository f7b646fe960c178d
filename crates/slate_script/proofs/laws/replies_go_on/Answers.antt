use Rattle.std.proofs.Common.{ap, ◌∙◌}
use Rattle.slate_txn.specs.State.{opening}
use Rattle.slate_store.specs.Lines.{lines_of}
use Rattle.slate_store.proofs.LineLaws.{whole_lines_join}
use Rattle.slate_language.specs.Replies.{replies_to}
use Rattle.slate_script.proofs.Answered.{replies_append, formed_lines}
use Rattle.slate_script.proofs.laws.replies_go_on.Goals as goal

pub returns : goal.returns
returns c r a b formed cut =
    ap (replies_to r) (whole_lines_join a b cut) ∙ replies_append r opening (lines_of a) (lines_of b) (formed_lines (lines_of a) formed.1)
