use Rattle.std.proofs.Common.{◌≡◌, ◌-◌, ◌^◌, min, take}
use Rattle.slate_mem.specs.CommitRows.{row_bytes}
use Rattle.slate_mem.proofs.batch.bytes_of.Given as goal

abbrev pub invariant-loop-row : goal.invariant-loop-row
invariant-loop-row l = l.bytes ≡ min (row_bytes (take l.row-index l.rows)) (2 ^ 64 - 1)
