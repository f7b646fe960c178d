use Rattle.slate_threads.proofs.PassLaws.{commit_stays, flush_stays, join_stays, longer_stays}
use Rattle.slate_threads.proofs.PassLaws.{new_is_vouched}
use Rattle.slate_threads.proofs.PassLaws.{stands_alone, whole_is_vouched, whole_stands_alone}
use Rattle.slate_threads.proofs.PassLaws.{write_stays}
use Rattle.slate_threads.proofs.laws.passes.Goals as goal

pub returns : goal.returns
returns c =
    record {
      new = new_is_vouched;
      longer = longer_stays;
      commit = commit_stays;
      write = write_stays;
      flush = flush_stays;
      join = join_stays;
      alone = stands_alone;
      whole = whole_is_vouched;
      whole_alone = whole_stands_alone;
    }
