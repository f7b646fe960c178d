use Rattle.std.proofs.lemmas.Result.{IfErr-weaker, on_ok_weaker}
use Rattle.slate_read.proofs.SourceBringings.{list_sought}
use Rattle.slate_read.proofs.read_source.ReadSourceRowEntryIteratorEnv.seek.Goals as goal

pub returns-in-Internal : goal.returns-in-Internal
returns-in-Internal g c = record {
  rows = rw c.in-Internal.is c.seek-in-Internal.ensures.rows;
  still = rw c.in-Internal.is c.seek-in-Internal.ensures.still;
  checked = rw c.in-Internal.is c.seek-in-Internal.ensures.checked;
  sought = rw c.in-Internal.is (on_ok_weaker c.seek-in-Internal.result (λ k. (k.0, k.1, ((k.2.0.4, tt), k.2.1))) c.seek-in-Internal.ensures.sought);
  cause = rw c.in-Internal.is (IfErr-weaker c.seek-in-Internal.result _ _ (λ e k. (k.0, k.1, (k.2.0, tt, k.2.2))) c.seek-in-Internal.ensures.cause);
  no_larger = rw c.in-Internal.is c.seek-in-Internal.ensures.no_larger;
  order = rw c.in-Internal.is c.seek-in-Internal.ensures.order;
  within = rw c.in-Internal.is c.seek-in-Internal.ensures.within;
  reads = c.seek-in-Internal.ensures.reads;
  counts = c.seek-in-Internal.ensures.counts;
}

pub returns-in-Table : goal.returns-in-Table
returns-in-Table g c = record {
  rows = rw c.in-Table.is c.seek-in-Table.ensures.rows;
  still = rw c.in-Table.is c.seek-in-Table.ensures.still;
  checked = rw c.in-Table.is c.seek-in-Table.ensures.checked;
  sought = rw c.in-Table.is (on_ok_weaker c.seek-in-Table.result (λ k. (k.0, k.1, ((k.2.0.4, tt), k.2.1))) c.seek-in-Table.ensures.sought);
  cause = rw c.in-Table.is (IfErr-weaker c.seek-in-Table.result _ _ (λ e k. (k.0, k.1, (k.2.0, tt, k.2.2))) c.seek-in-Table.ensures.cause);
  no_larger = rw c.in-Table.is c.seek-in-Table.ensures.no_larger;
  order = rw c.in-Table.is c.seek-in-Table.ensures.order;
  within = rw c.in-Table.is c.seek-in-Table.ensures.within;
  reads = c.seek-in-Table.ensures.reads;
  counts = c.seek-in-Table.ensures.counts;
}

pub returns-in-Run : goal.returns-in-Run
returns-in-Run g c = record {
  rows = rw c.in-Run.is c.seek-in-Run.ensures.rows;
  still = rw c.in-Run.is c.seek-in-Run.ensures.still;
  checked = rw c.in-Run.is c.seek-in-Run.ensures.checked;
  sought = rw c.in-Run.is (on_ok_weaker c.seek-in-Run.result (λ k. (k.0, k.1, ((k.2.0.4, tt), k.2.1))) c.seek-in-Run.ensures.sought);
  cause = rw c.in-Run.is (IfErr-weaker c.seek-in-Run.result _ _ (λ e k. (k.0, k.1, (k.2.0, tt, k.2.2))) c.seek-in-Run.ensures.cause);
  no_larger = rw c.in-Run.is c.seek-in-Run.ensures.no_larger;
  order = rw c.in-Run.is c.seek-in-Run.ensures.order;
  within = rw c.in-Run.is c.seek-in-Run.ensures.within;
  reads = c.seek-in-Run.ensures.reads;
  counts = c.seek-in-Run.ensures.counts;
}

pub returns-in-Segments : goal.returns-in-Segments
returns-in-Segments g c = record {
  rows = rw c.in-Segments.is c.seek-in-Segments.ensures.rows;
  still = rw c.in-Segments.is c.seek-in-Segments.ensures.still;
  checked = rw c.in-Segments.is c.seek-in-Segments.ensures.checked;
  sought = rw c.in-Segments.is (on_ok_weaker c.seek-in-Segments.result (λ k. (k.0, k.1, ((k.2.0.4, tt), k.2.1))) c.seek-in-Segments.ensures.sought);
  cause = rw c.in-Segments.is (IfErr-weaker c.seek-in-Segments.result _ _ (λ e k. (k.0, k.1, (k.2.0, tt, k.2.2))) c.seek-in-Segments.ensures.cause);
  no_larger = rw c.in-Segments.is c.seek-in-Segments.ensures.no_larger;
  order = rw c.in-Segments.is c.seek-in-Segments.ensures.order;
  within = rw c.in-Segments.is c.seek-in-Segments.ensures.within;
  reads = c.seek-in-Segments.ensures.reads;
  counts = c.seek-in-Segments.ensures.counts;
}

pub returns-in-Batch-clause-still : goal.returns-in-Batch-clause-still
returns-in-Batch-clause-still g c = rw c.in-Batch.is c.seek-in-Batch.ensures.still

pub returns-in-Batch-clause-checked : goal.returns-in-Batch-clause-checked
returns-in-Batch-clause-checked g c = rw c.in-Batch.is c.seek-in-Batch.ensures.checked

pub returns-in-Memory-clause-still : goal.returns-in-Memory-clause-still
returns-in-Memory-clause-still g c = rw c.in-Memory.is c.seek-in-Memory.ensures.still

pub returns-in-Memory-clause-checked : goal.returns-in-Memory-clause-checked
returns-in-Memory-clause-checked g c = rw c.in-Memory.is c.seek-in-Memory.ensures.checked

pub returns-in-Empty-clause-sought : goal.returns-in-Empty-clause-sought
returns-in-Empty-clause-sought g c = rw c.in-Empty.is (on_ok_weaker c.seek.result (λ k. (k.0, k.1, ((λ later r b. b, tt), k.2.1))) c.seek.ensures.sought)

pub returns-in-Batch-clause-sought : goal.returns-in-Batch-clause-sought
returns-in-Batch-clause-sought g c = rw c.in-Batch.is (on_ok_weaker c.seek-in-Batch.result (λ k. (k.0, k.1, ((list_sought c.in-Batch.rows c.seek-in-Batch.new.self k.0 c.args.key.now k.2.0, (c.in-Batch.rows.order, k.2.0)), k.2.1))) c.seek-in-Batch.ensures.sought)

pub returns-in-Memory-clause-sought : goal.returns-in-Memory-clause-sought
returns-in-Memory-clause-sought g c = rw c.in-Memory.is (on_ok_weaker c.seek-in-Memory.result (λ k. (k.0, k.1, ((list_sought c.in-Memory.rows c.seek-in-Memory.new.self k.0 c.args.key.now k.2.0, (c.in-Memory.rows.order, k.2.0)), k.2.1))) c.seek-in-Memory.ensures.sought)

pub returns-in-Memory-clause-cause : goal.returns-in-Memory-clause-cause
returns-in-Memory-clause-cause g c = rw c.in-Memory.is (IfErr-weaker c.seek-in-Memory.result _ _ (λ e k. (k.0, k.1, (k.2.0, tt, k.2.2))) c.seek-in-Memory.ensures.cause)

pub returns-in-Batch-clause-within : goal.returns-in-Batch-clause-within
returns-in-Batch-clause-within g c = rw c.in-Batch.is c.seek-in-Batch.ensures.within

pub returns-in-Memory-clause-within : goal.returns-in-Memory-clause-within
returns-in-Memory-clause-within g c = rw c.in-Memory.is c.seek-in-Memory.ensures.within
