use Rattle.std.proofs.Common.{◌≡◌, ◌<◌, ◌≤◌, drop}
use Rattle.slate_block.specs.Damage.{front_groups}
use Rattle.slate_block.specs.Groups.{completed}
use Rattle.slate_block.proofs.varint.first_varint.Given as goal
use Rattle.slate_block.proofs.Groups.{weight_of}

abbrev pub invariant-loop-index : goal.invariant-loop-index
invariant-loop-index l = record {
  few : l.index ≤ 5;
  worth : l.weight ≡ weight_of l.index;
  below : l.low < l.weight;
  found : front_groups l.input ≡ completed l.weight l.low l.index (front_groups (drop l.index l.input));
}
