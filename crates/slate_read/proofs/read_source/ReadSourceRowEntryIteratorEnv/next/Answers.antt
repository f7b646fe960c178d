use Rattle.std.proofs.Common.{ap}
use Rattle.std.proofs.lemmas.Result.{IfErr-weaker, IfOk-weaker}
use Rattle.slate_read.specs.declared.read_source.ReadSource.TheVariants.{Internal, Run, Segments, Table}
use Rattle.slate_read.proofs.SourceBringings.{list_handed, nothing_handed}
use Rattle.slate_read.proofs.read_source.ReadSourceRowEntryIteratorEnv.next.Goals as goal

pub returns-in-Internal : goal.returns-in-Internal
returns-in-Internal g c = record {
  rows = rw c.in-Internal.is c.next-in-Internal.ensures.rows;
  still = rw c.in-Internal.is c.next-in-Internal.ensures.still;
  checked = rw c.in-Internal.is c.next-in-Internal.ensures.checked;
  taken = rw c.in-Internal.is (IfOk-weaker c.next-in-Internal.result _ _ (λ answer k. (k.0, k.1, ((k.2.0.3, tt), k.2.1))) c.next-in-Internal.ensures.taken);
  unbegun = rw c.in-Internal.is (λ waits. (let u = c.next-in-Internal.ensures.unbegun waits in (u.0, ap Internal u.1, u.2)));
  cause = rw c.in-Internal.is (IfErr-weaker c.next-in-Internal.result _ _ (λ e k. (k.0, k.1, (k.2.0, tt, k.2.2))) c.next-in-Internal.ensures.cause);
  smaller = rw c.in-Internal.is c.next-in-Internal.ensures.smaller;
  no_larger = rw c.in-Internal.is c.next-in-Internal.ensures.no_larger;
  order = rw c.in-Internal.is c.next-in-Internal.ensures.order;
  within = rw c.in-Internal.is c.next-in-Internal.ensures.within;
  reads = c.next-in-Internal.ensures.reads;
  counts = c.next-in-Internal.ensures.counts;
}

pub returns-in-Table : goal.returns-in-Table
returns-in-Table g c = record {
  rows = rw c.in-Table.is c.next-in-Table.ensures.rows;
  still = rw c.in-Table.is c.next-in-Table.ensures.still;
  checked = rw c.in-Table.is c.next-in-Table.ensures.checked;
  taken = rw c.in-Table.is (IfOk-weaker c.next-in-Table.result _ _ (λ answer k. (k.0, k.1, ((k.2.0.3, tt), k.2.1))) c.next-in-Table.ensures.taken);
  unbegun = rw c.in-Table.is (λ waits. (let u = c.next-in-Table.ensures.unbegun waits in (u.0, ap Table u.1, u.2)));
  cause = rw c.in-Table.is (IfErr-weaker c.next-in-Table.result _ _ (λ e k. (k.0, k.1, (k.2.0, tt, k.2.2))) c.next-in-Table.ensures.cause);
  smaller = rw c.in-Table.is c.next-in-Table.ensures.smaller;
  no_larger = rw c.in-Table.is c.next-in-Table.ensures.no_larger;
  order = rw c.in-Table.is c.next-in-Table.ensures.order;
  within = rw c.in-Table.is c.next-in-Table.ensures.within;
  reads = c.next-in-Table.ensures.reads;
  counts = c.next-in-Table.ensures.counts;
}

pub returns-in-Run : goal.returns-in-Run
returns-in-Run g c = record {
  rows = rw c.in-Run.is c.next-in-Run.ensures.rows;
  still = rw c.in-Run.is c.next-in-Run.ensures.still;
  checked = rw c.in-Run.is c.next-in-Run.ensures.checked;
  taken = rw c.in-Run.is (IfOk-weaker c.next-in-Run.result _ _ (λ answer k. (k.0, k.1, ((k.2.0.3, tt), k.2.1))) c.next-in-Run.ensures.taken);
  unbegun = rw c.in-Run.is (λ waits. (let u = c.next-in-Run.ensures.unbegun waits in (u.0, ap Run u.1, u.2)));
  cause = rw c.in-Run.is (IfErr-weaker c.next-in-Run.result _ _ (λ e k. (k.0, k.1, (k.2.0, tt, k.2.2))) c.next-in-Run.ensures.cause);
  smaller = rw c.in-Run.is c.next-in-Run.ensures.smaller;
  no_larger = rw c.in-Run.is c.next-in-Run.ensures.no_larger;
  order = rw c.in-Run.is c.next-in-Run.ensures.order;
  within = rw c.in-Run.is c.next-in-Run.ensures.within;
  reads = c.next-in-Run.ensures.reads;
  counts = c.next-in-Run.ensures.counts;
}

pub returns-in-Segments : goal.returns-in-Segments
returns-in-Segments g c = record {
  rows = rw c.in-Segments.is c.next-in-Segments.ensures.rows;
  still = rw c.in-Segments.is c.next-in-Segments.ensures.still;
  checked = rw c.in-Segments.is c.next-in-Segments.ensures.checked;
  taken = rw c.in-Segments.is (IfOk-weaker c.next-in-Segments.result _ _ (λ answer k. (k.0, k.1, ((k.2.0.1, tt), k.2.1))) c.next-in-Segments.ensures.taken);
  unbegun = rw c.in-Segments.is (λ waits. (let u = c.next-in-Segments.ensures.unbegun waits in (u.0, ap Segments u.1, u.2)));
  cause = rw c.in-Segments.is (IfErr-weaker c.next-in-Segments.result _ _ (λ e k. (k.0, k.1, (k.2.0, tt, k.2.2))) c.next-in-Segments.ensures.cause);
  smaller = rw c.in-Segments.is c.next-in-Segments.ensures.smaller;
  no_larger = rw c.in-Segments.is c.next-in-Segments.ensures.no_larger;
  order = rw c.in-Segments.is c.next-in-Segments.ensures.order;
  within = rw c.in-Segments.is c.next-in-Segments.ensures.within;
  reads = c.next-in-Segments.ensures.reads;
  counts = c.next-in-Segments.ensures.counts;
}

pub returns-in-Batch-clause-checked : goal.returns-in-Batch-clause-checked
returns-in-Batch-clause-checked g c = rw c.in-Batch.is c.next-in-Batch.ensures.checked

pub returns-in-Memory-clause-checked : goal.returns-in-Memory-clause-checked
returns-in-Memory-clause-checked g c = rw c.in-Memory.is c.next-in-Memory.ensures.checked

pub returns-in-Empty-clause-taken : goal.returns-in-Empty-clause-taken
returns-in-Empty-clause-taken g c = rw c.in-Empty.is (IfOk-weaker c.next.result _ _ (λ answer k. (k.0, k.1, ((nothing_handed k.0 answer k.2.0.1, tt), k.2.1))) c.next.ensures.taken)

pub returns-in-Batch-clause-taken : goal.returns-in-Batch-clause-taken
returns-in-Batch-clause-taken g c = rw c.in-Batch.is (IfOk-weaker c.next-in-Batch.result _ _ (λ answer k. (k.0, k.1, ((list_handed c.in-Batch.rows c.next-in-Batch.new.self k.0 answer k.2.0, k.2.0), k.2.1))) c.next-in-Batch.ensures.taken)

pub returns-in-Memory-clause-taken : goal.returns-in-Memory-clause-taken
returns-in-Memory-clause-taken g c = rw c.in-Memory.is (IfOk-weaker c.next-in-Memory.result _ _ (λ answer k. (k.0, k.1, ((list_handed c.in-Memory.rows c.next-in-Memory.new.self k.0 answer k.2.0, k.2.0), k.2.1))) c.next-in-Memory.ensures.taken)

pub returns-in-Memory-clause-cause : goal.returns-in-Memory-clause-cause
returns-in-Memory-clause-cause g c = rw c.in-Memory.is (IfErr-weaker c.next-in-Memory.result _ _ (λ e k. (k.0, k.1, (k.2.0, tt, k.2.2))) c.next-in-Memory.ensures.cause)

pub returns-in-Empty-clause-unbegun : goal.returns-in-Empty-clause-unbegun
returns-in-Empty-clause-unbegun g c = rw c.in-Empty.is (λ never. absurd never)

pub returns-in-Batch-clause-unbegun : goal.returns-in-Batch-clause-unbegun
returns-in-Batch-clause-unbegun g c = rw c.in-Batch.is (λ never. absurd never)

pub returns-in-Memory-clause-unbegun : goal.returns-in-Memory-clause-unbegun
returns-in-Memory-clause-unbegun g c = rw c.in-Memory.is (λ never. absurd never)

pub returns-in-Batch-clause-within : goal.returns-in-Batch-clause-within
returns-in-Batch-clause-within g c = rw c.in-Batch.is c.next-in-Batch.ensures.within

pub returns-in-Memory-clause-within : goal.returns-in-Memory-clause-within
returns-in-Memory-clause-within g c = rw c.in-Memory.is c.next-in-Memory.ensures.within
