use Rattle.slate_mem.proofs.batch_iterator.WriteBatchIteratorRowEntryIterator.init.Goals as goal

pub returns : goal.returns
returns g c = rw c.self.view_is at c.init.ensures
