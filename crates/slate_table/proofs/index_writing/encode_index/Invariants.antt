use Rattle.std.proofs.Common.{◌≡◌, ◌++◌, length, take}
use Rattle.slate_block.specs.RowSpelling.{be32}
use Rattle.slate_table.specs.Parts.{index_entries}
use Rattle.slate_table.proofs.index_writing.encode_index.Given as goal

abbrev pub invariant-loop-at : goal.invariant-loop-at
invariant-loop-at l = l.out.items ≡ be32 (length l.offsets) ++ index_entries (take l.at l.offsets) (take l.at l.separators)
