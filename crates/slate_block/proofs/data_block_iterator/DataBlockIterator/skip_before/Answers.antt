use Rattle.std.proofs.Common.{ap}
use Rattle.std.proofs.lemmas.Result.{on_err_weaker}
use Rattle.slate_block.specs.declared.data_block_iterator.DataBlockIterator.TheVariants.{V1, V2}
use Rattle.slate_block.proofs.data_block_iterator.DataBlockIterator.skip_before.Goals as goal

pub returns-in-V1 : goal.returns-in-V1
returns-in-V1 g c =
    record {
      rows = rw c.in-V1.is c.skip_before.ensures.rows;
      past = rw c.in-V1.is c.skip_before.ensures.past;
      stops = rw c.in-V1.is c.skip_before.ensures.stops;
      order = rw c.in-V1.is c.skip_before.ensures.order;
      cause = rw c.in-V1.is c.skip_before.ensures.cause;
      unchanged = rw c.in-V1.is (on_err_weaker c.skip_before.result (ap V1) c.skip_before.ensures.unchanged);
    }

pub returns-in-V2 : goal.returns-in-V2
returns-in-V2 g c =
    record {
      rows = rw c.in-V2.is c.skip_before-in-V2.ensures.rows;
      past = rw c.in-V2.is c.skip_before-in-V2.ensures.past;
      stops = rw c.in-V2.is c.skip_before-in-V2.ensures.stops;
      order = rw c.in-V2.is c.skip_before-in-V2.ensures.order;
      cause = rw c.in-V2.is c.skip_before-in-V2.ensures.cause;
      unchanged = rw c.in-V2.is (on_err_weaker c.skip_before-in-V2.result (ap V2) c.skip_before-in-V2.ensures.unchanged);
    }
