use Rattle.std.proofs.Common.{◌≡◌, ◌+◌, ◌≤◌, ◌-◌, length, min, vec_len, vec_capacity}
use Rattle.slate_block.specs.BlockReading.{offsets_from}
use Rattle.slate_block.proofs.OffsetLaws.{with_front}
use Rattle.slate_block.proofs.offsets.offsets_from.Given as goal

abbrev pub invariant-loop : goal.invariant-loop
invariant-loop l = record {
  within : l.at ≤ length l.bytes;
  room : vec_len l.offsets + (l.count - l.counter) ≤ vec_capacity l.offsets;
  read : with_front l.offsets.items (offsets_from (l.count - l.counter) l.low l.high l.end l.bytes l.at) ≡ offsets_from l.count 0 (min 1 l.end) l.end l.bytes l.end;
}
