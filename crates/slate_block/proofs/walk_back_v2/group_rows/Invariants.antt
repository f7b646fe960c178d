use Rattle.std.proofs.Common.{◌≡◌, ◌+◌, ◌≤◌, ◌++◌, map, vec_len, vec_capacity}
use Rattle.slate_block.specs.GroupWalks.{group_left, restart_at}
use Rattle.slate_block.proofs.WalkLaws.{ok_read}
use Rattle.slate_block.proofs.walk_back_v2.group_rows.Given as goal

abbrev pub invariant-loop-alloc : goal.invariant-loop-alloc
invariant-loop-alloc l = record {
  rows : restart_at l.body l.offsets l.number ≡ map ok_read l.rows.items ++ group_left l.body l.group;
  room : vec_len l.rows + l.group.room ≤ vec_capacity l.rows;
}

abbrev pub decreases-loop-alloc : goal.decreases-loop-alloc
decreases-loop-alloc l = l.group.room
