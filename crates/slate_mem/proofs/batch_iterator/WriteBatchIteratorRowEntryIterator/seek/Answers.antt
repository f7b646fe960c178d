use Rattle.slate_mem.proofs.batch_iterator.WriteBatchIteratorRowEntryIterator.seek.Goals as goal

pub returns : goal.returns
returns g c = rw c.self.view_is at c.seek.ensures
