use Rattle.slate_threads.proofs.FlushLaws.{flush_keeps, idle_keeps, new_keeps, tables_are_stored}
use Rattle.slate_threads.proofs.laws.flushers.Goals as goal

pub returns : goal.returns
returns c =
    record {
      new = new_keeps;
      idle = idle_keeps;
      flush = flush_keeps;
      stored = tables_are_stored;
    }
