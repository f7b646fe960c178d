use Rattle.std.proofs.Common.{refl}
use Rattle.slate_types.proofs.Calls.{reads_at_none}
use Rattle.slate_types.proofs.Reaching.{reads_none}
use Rattle.slate_block.proofs.StepLaws.{all_checked, on_ok_both, seek_cause, sought_made, sought_rows, sought_still, sought_no_larger}
use Rattle.slate_block.proofs.block_iterator.BlockIteratorRowEntryIterator.seek.Goals as goal

pub returns : goal.returns
returns g c = record {
  rows = λ w sees rising. sought_rows c.skip_before.result c.args.key.now c.args.self.now c.skip_before.new.self (c.skip_before.ensures.rows rising);
  still = λ w sees rising. sought_still c.skip_before.result c.args.key.now c.args.self.now c.skip_before.new.self (c.skip_before.ensures.rows rising) c.skip_before.ensures.order c.skip_before.ensures.unchanged rising;
  checked = λ w sound. all_checked c.skip_before.result w _;
  cause = seek_cause c.skip_before.result _ c.args.self.now c.skip_before.new.self _ _ c.skip_before.ensures.unchanged c.skip_before.ensures.unchanged c.skip_before.ensures.cause c.skip_before.ensures.cause;
  sought = sought_made c.skip_before.result _ c.args.key.now c.args.self.now c.skip_before.new.self _ (on_ok_both c.skip_before.result _ _ c.skip_before.ensures.past c.skip_before.ensures.stops) c.skip_before.ensures.past;
  no_larger = sought_no_larger c.skip_before.result c.args.key.now c.args.self.now c.skip_before.new.self c.skip_before.ensures.past c.skip_before.ensures.unchanged;
  order = c.skip_before.ensures.order;
  within = λ paths _. (reads_at_none paths _, tt);
  reads = reads_none _;
  counts = refl;
}
