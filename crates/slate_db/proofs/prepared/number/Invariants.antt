use Rattle.std.proofs.Common.{◌≡◌}
use Rattle.slate_db.proofs.Numbered.{first_numbered}
use Rattle.slate_db.proofs.prepared.number.Given as goal

abbrev pub invariant-loop-row : goal.invariant-loop-row
invariant-loop-row l = l.row-items ≡ first_numbered l.row-index l.seq l.initial.row-items
