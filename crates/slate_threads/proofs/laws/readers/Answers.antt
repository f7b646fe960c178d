use Rattle.slate_threads.proofs.ReaderLaws.{nothing_read, one_read, read_goes_on, seeing_read}
use Rattle.slate_threads.proofs.laws.readers.Goals as goal

pub returns : goal.returns
returns c =
    record {
      idle = nothing_read;
      seeing = seeing_read;
      one = one_read;
      on = read_goes_on;
    }
