use Rattle.std.proofs.Common.{rules}
use Rattle.slate_mem.proofs.FoldingLaws.{first_folds}
use Rattle.slate_mem.proofs.fold.first.Goals as goal

pub returns : goal.returns
returns c none d = first_folds d c.args.rows.items c.next.result (search rules) none
