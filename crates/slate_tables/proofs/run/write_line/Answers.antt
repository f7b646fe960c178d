use Rattle.std.proofs.Common.{◌≡◌, ◌⊎◌, inl, inr, refl}
use Rattle.slate_tables.proofs.RunLaws.{wrote}
use Rattle.slate_tables.proofs.run.write_line.Goals as goal

pub returns-in-Ok : goal.returns-in-Ok
returns-in-Ok g c = wrote (g.W.Sink.faults c.args.sink.now) (g.W.Sink.faults c.write_all-written.new.sink) c.write_all-written.result c.write_all-written.ensures.cause c.write_all-written.ensures.still

pub returns-in-Err : goal.returns-in-Err
returns-in-Err g c = record { cause = inl c.from.ensures; sink = inr refl }
