use Rattle.std.proofs.Common.{◌≡◌, Ok, length}
use Rattle.slate_block.proofs.GroupRows.{joined}
use Rattle.slate_block.specs.BlockWalks.{left}
use Rattle.slate_block.specs.EitherVersion.{left_of}
use Rattle.slate_tables.proofs.rows.all_rows.Given as goal

abbrev pub invariant-loop-rows : goal.invariant-loop-rows
invariant-loop-rows l = left (left_of l.initial.walk) ≡ joined (Ok l.rows.items) (left (left_of l.walk))

abbrev pub decreases-loop-rows : goal.decreases-loop-rows
decreases-loop-rows l = length (left_of l.walk).reads
