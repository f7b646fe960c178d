use Rattle.slate_threads.proofs.WorkerLaws.{goes_on, join_works, longer_works, new_works}
use Rattle.slate_threads.proofs.WorkerLaws.{nothing_worked}
use Rattle.slate_threads.proofs.WorkerLaws.{one_worked, work_works, workers_are_vouched}
use Rattle.slate_threads.proofs.laws.workers.Goals as goal

pub returns : goal.returns
returns c =
    record {
      new = new_works;
      longer = longer_works;
      work = work_works;
      join = join_works;
      whole = workers_are_vouched;
      idle = nothing_worked;
      one = one_worked;
      on = goes_on;
    }
