use Rattle.std.proofs.Common.{arith}
use Rattle.slate_table.specs.IndexValue.{entries_of}
use Rattle.slate_table.proofs.IndexReads.{hands_out}
use Rattle.slate_table.proofs.sst_index.SstIndexIterIterator.next.Goals as goal

pub returns-clause-steps : goal.returns-clause-steps
returns-clause-steps c = rw (← c.self.view_is) (hands_out (entries_of c.self.inside.index.now) c.self.inside.at c.get-entry.result (omega (arith, c.if-self-len.false, c.len.ensures)) c.get-entry.ensures)
