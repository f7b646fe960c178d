use Rattle.std.proofs.Common.{ap}
use Rattle.slate_types.specs.Iteration.{RowList}
use Rattle.std.proofs.lemmas.Result.{IfErr-weaker, on_ok_weaker}
use Rattle.slate_read.proofs.SourceBringings.{list_begun}
use Rattle.slate_read.proofs.read_source.ReadSourceRowEntryIteratorEnv.init.Goals as goal

pub returns-in-Internal : goal.returns-in-Internal
returns-in-Internal g c = record {
  rows = rw c.in-Internal.is c.init-in-Internal.ensures.rows;
  still = rw c.in-Internal.is c.init-in-Internal.ensures.still;
  checked = rw c.in-Internal.is c.init-in-Internal.ensures.checked;
  ready = c.init-in-Internal.ensures.ready;
  begun = rw c.in-Internal.is (on_ok_weaker c.init-in-Internal.result (λ k. (k.0, k.1, ((k.2.0.3, tt), k.2.1))) c.init-in-Internal.ensures.begun);
  cause = rw c.in-Internal.is (IfErr-weaker c.init-in-Internal.result _ _ (λ e k. (k.0, k.1, (k.2.0, tt, k.2.2))) c.init-in-Internal.ensures.cause);
  no_larger = rw c.in-Internal.is c.init-in-Internal.ensures.no_larger;
  order = rw c.in-Internal.is c.init-in-Internal.ensures.order;
  within = rw c.in-Internal.is c.init-in-Internal.ensures.within;
  reads = c.init-in-Internal.ensures.reads;
  counts = c.init-in-Internal.ensures.counts;
}

pub returns-in-Table : goal.returns-in-Table
returns-in-Table g c = record {
  rows = rw c.in-Table.is c.init-in-Table.ensures.rows;
  still = rw c.in-Table.is c.init-in-Table.ensures.still;
  checked = rw c.in-Table.is c.init-in-Table.ensures.checked;
  ready = c.init-in-Table.ensures.ready;
  begun = rw c.in-Table.is (on_ok_weaker c.init-in-Table.result (λ k. (k.0, k.1, ((k.2.0.3, tt), k.2.1))) c.init-in-Table.ensures.begun);
  cause = rw c.in-Table.is (IfErr-weaker c.init-in-Table.result _ _ (λ e k. (k.0, k.1, (k.2.0, tt, k.2.2))) c.init-in-Table.ensures.cause);
  no_larger = rw c.in-Table.is c.init-in-Table.ensures.no_larger;
  order = rw c.in-Table.is c.init-in-Table.ensures.order;
  within = rw c.in-Table.is c.init-in-Table.ensures.within;
  reads = c.init-in-Table.ensures.reads;
  counts = c.init-in-Table.ensures.counts;
}

pub returns-in-Run : goal.returns-in-Run
returns-in-Run g c = record {
  rows = rw c.in-Run.is c.init-in-Run.ensures.rows;
  still = rw c.in-Run.is c.init-in-Run.ensures.still;
  checked = rw c.in-Run.is c.init-in-Run.ensures.checked;
  ready = c.init-in-Run.ensures.ready;
  begun = rw c.in-Run.is (on_ok_weaker c.init-in-Run.result (λ k. (k.0, k.1, ((k.2.0.3, tt), k.2.1))) c.init-in-Run.ensures.begun);
  cause = rw c.in-Run.is (IfErr-weaker c.init-in-Run.result _ _ (λ e k. (k.0, k.1, (k.2.0, tt, k.2.2))) c.init-in-Run.ensures.cause);
  no_larger = rw c.in-Run.is c.init-in-Run.ensures.no_larger;
  order = rw c.in-Run.is c.init-in-Run.ensures.order;
  within = rw c.in-Run.is c.init-in-Run.ensures.within;
  reads = c.init-in-Run.ensures.reads;
  counts = c.init-in-Run.ensures.counts;
}

pub returns-in-Segments : goal.returns-in-Segments
returns-in-Segments g c = record {
  rows = rw c.in-Segments.is c.init-in-Segments.ensures.rows;
  still = rw c.in-Segments.is c.init-in-Segments.ensures.still;
  checked = rw c.in-Segments.is c.init-in-Segments.ensures.checked;
  ready = c.init-in-Segments.ensures.ready;
  begun = rw c.in-Segments.is (on_ok_weaker c.init-in-Segments.result (λ k. (k.0, k.1, ((k.2.0.4, tt), k.2.1))) c.init-in-Segments.ensures.begun);
  cause = rw c.in-Segments.is (IfErr-weaker c.init-in-Segments.result _ _ (λ e k. (k.0, k.1, (k.2.0, tt, k.2.2))) c.init-in-Segments.ensures.cause);
  no_larger = rw c.in-Segments.is c.init-in-Segments.ensures.no_larger;
  order = rw c.in-Segments.is c.init-in-Segments.ensures.order;
  within = rw c.in-Segments.is c.init-in-Segments.ensures.within;
  reads = c.init-in-Segments.ensures.reads;
  counts = c.init-in-Segments.ensures.counts;
}

pub returns-in-Batch-clause-checked : goal.returns-in-Batch-clause-checked
returns-in-Batch-clause-checked g c = rw c.in-Batch.is c.init-in-Batch.ensures.checked

pub returns-in-Memory-clause-checked : goal.returns-in-Memory-clause-checked
returns-in-Memory-clause-checked g c = rw c.in-Memory.is c.init-in-Memory.ensures.checked

pub returns-in-Empty-clause-begun : goal.returns-in-Empty-clause-begun
returns-in-Empty-clause-begun g c = rw c.in-Empty.is (on_ok_weaker c.init.result (λ k. (k.0, k.1, ((λ later r b. b, tt), k.2.1))) c.init.ensures.begun)

pub returns-in-Batch-clause-begun : goal.returns-in-Batch-clause-begun
returns-in-Batch-clause-begun g c = rw c.in-Batch.is (on_ok_weaker c.init-in-Batch.result (λ k. (k.0, k.1, ((list_begun c.in-Batch.rows c.init-in-Batch.new.self k.0 k.2.0, ap (λ (l : RowList). l.rows) k.2.0), k.2.1))) c.init-in-Batch.ensures.begun)

pub returns-in-Memory-clause-begun : goal.returns-in-Memory-clause-begun
returns-in-Memory-clause-begun g c = rw c.in-Memory.is (on_ok_weaker c.init-in-Memory.result (λ k. (k.0, k.1, ((list_begun c.in-Memory.rows c.init-in-Memory.new.self k.0 k.2.0, ap (λ (l : RowList). l.rows) k.2.0), k.2.1))) c.init-in-Memory.ensures.begun)

pub returns-in-Memory-clause-cause : goal.returns-in-Memory-clause-cause
returns-in-Memory-clause-cause g c = rw c.in-Memory.is (IfErr-weaker c.init-in-Memory.result _ _ (λ e k. (k.0, k.1, (k.2.0, tt, k.2.2))) c.init-in-Memory.ensures.cause)

pub returns-in-Batch-clause-within : goal.returns-in-Batch-clause-within
returns-in-Batch-clause-within g c = rw c.in-Batch.is c.init-in-Batch.ensures.within

pub returns-in-Memory-clause-within : goal.returns-in-Memory-clause-within
returns-in-Memory-clause-within g c = rw c.in-Memory.is c.init-in-Memory.ensures.within
