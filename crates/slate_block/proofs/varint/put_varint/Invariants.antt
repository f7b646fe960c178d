use Rattle.std.proofs.Common.{◌≡◌, ◌-◌, ◌++◌, length, take}
use Rattle.slate_block.specs.Varint.{varint, varint_within}
use Rattle.slate_block.proofs.varint.put_varint.Given as goal
use Rattle.slate_block.proofs.Groups.{IsRest}

abbrev pub invariant-loop-rest : goal.invariant-loop-rest
invariant-loop-rest l = record {
  long : length l.groups ≡ 5;
  rest : IsRest l.len l.rest;
  spelled : take l.len l.groups ++ varint_within (5 - l.len) l.rest ≡ varint l.value;
}

abbrev pub decreases-loop-rest : goal.decreases-loop-rest
decreases-loop-rest l = l.rest
