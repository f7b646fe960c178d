use Rattle.slate_mem.proofs.batch_iterator.WriteBatchIteratorRowEntryIterator.next.Goals as goal

pub returns : goal.returns
returns g c = rw c.self.view_is at c.next.ensures
