use Rattle.slate_tables.specs.Finds.{reader_reach}
use Rattle.slate_tables.proofs.RunLaws.{goes_none}
use Rattle.slate_tables.proofs.run.run_table.Goals as goal

pub returns-then-not-is_asked : goal.returns-then-not-is_asked
returns-then-not-is_asked g c = goes_none (reader_reach g.S.Store g.T.BlockTransformer c.args.reader.now) (g.W.Sink.faults c.args.sink.now) _
