use Rattle.std.proofs.Common.{◌≡◌, ◌<◌, ◌+◌, ◌-◌}
use Rattle.slate_table.specs.IndexValue.{entries_of}
use Rattle.slate_read.specs.TableWalk.{size_upto, unread_size}
use Rattle.slate_read.proofs.fetching.blocks_of_fetch.Given as goal

abbrev pub invariant-loop-count : goal.invariant-loop-count
invariant-loop-count l = record {
  sum : size_upto (unread_size l.table (entries_of l.index) l.order l.unread.start l.unread.end) (l.count - 1) + l.left ≡ l.bytes;
  some : 1 < l.count → 0 < l.left;
}
