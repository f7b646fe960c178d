use Rattle.std.proofs.Common.{◌≡◌, ◌+◌, ◌-◌, ◌*◌, ◌≤◌, ◌++◌, length, take, vec_len, vec_capacity}
use Rattle.std.specs.List.{flat_map}
use Rattle.slate_block.specs.RowSpelling.{be16}
use Rattle.slate_block.proofs.block.encoded.Given as goal

abbrev pub invariant-loop-offset : goal.invariant-loop-offset
invariant-loop-offset l = record {
  spelled : l.out.items ≡ l.body ++ flat_map be16 (take l.offset-index l.offsets);
  room : vec_len l.out + 2 * (length l.offsets - l.offset-index) + 2 ≤ vec_capacity l.out;
}
