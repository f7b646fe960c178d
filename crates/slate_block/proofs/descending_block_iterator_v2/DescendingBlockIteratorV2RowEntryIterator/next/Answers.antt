use Rattle.std.proofs.Common.{refl}
use Rattle.slate_types.proofs.Calls.{reads_at_none}
use Rattle.slate_types.proofs.Reaching.{reads_none}
use Rattle.slate_block.proofs.StepLaws.{all_checked, step_cause, taken_made, taken_rows, taken_rising, taken_smaller, taken_no_larger}
use Rattle.slate_block.proofs.descending_block_iterator_v2.DescendingBlockIteratorV2RowEntryIterator.next.Goals as goal

pub returns : goal.returns
returns g c = record {
  rows = λ w sees. taken_rows c.next_row.result c.args.self.now c.next_row.new.self c.next_row.ensures.read;
  still = λ w sees. taken_rising c.next_row.result c.args.self.now c.next_row.new.self c.next_row.ensures.read c.next_row.ensures.order c.next_row.ensures.unchanged;
  checked = λ w sound. all_checked c.next_row.result w _;
  cause = step_cause c.next_row.result _ c.args.self.now c.next_row.new.self _ c.next_row.ensures.unchanged c.next_row.ensures.unchanged c.next_row.ensures.cause c.next_row.ensures.damage;
  taken = taken_made c.next_row.result _ c.args.self.now c.next_row.new.self c.next_row.ensures.read;
  smaller = taken_smaller c.next_row.result c.args.self.now c.next_row.new.self c.next_row.ensures.read;
  no_larger = taken_no_larger c.next_row.result c.args.self.now c.next_row.new.self c.next_row.ensures.read c.next_row.ensures.unchanged;
  order = c.next_row.ensures.order;
  within = λ paths _. (reads_at_none paths _, tt);
  reads = reads_none _;
  counts = refl;
  unbegun = λ never. absurd never;
}
