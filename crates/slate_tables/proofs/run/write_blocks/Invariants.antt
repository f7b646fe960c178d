use Rattle.std.specs.Prelude.{Ok}
use Rattle.slate_tables.specs.Finds.{reader_reach}
use Rattle.slate_tables.specs.Runs.{GoesOver}
use Rattle.slate_tables.proofs.run.write_blocks.Given as goal

abbrev pub invariant-loop-block : goal.invariant-loop-block
invariant-loop-block g l =
    let reach = reader_reach g.S.Store g.T.BlockTransformer in
    GoesOver (reach l.initial.reader) (reach l.reader) (g.W.Sink.faults l.initial.sink) (g.W.Sink.faults l.sink) (Ok l.found)
