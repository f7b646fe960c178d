use Rattle.std.proofs.Common.{◌≡◌, ◌⊎◌, inl, inr, refl}
use Rattle.slate_tables.proofs.RunLaws.{writes_err, writes_ok}
use Rattle.slate_tables.proofs.run.write_last.Goals as goal

pub returns-in-Ok : goal.returns-in-Ok
returns-in-Ok g c = writes_ok (g.W.Sink.faults c.args.sink.now) (g.W.Sink.faults c.write_line.new.sink) _ c.args.found c.in-Ok.ensures

pub returns-in-Err : goal.returns-in-Err
returns-in-Err g c = writes_err (g.W.Sink.faults c.args.sink.now) (g.W.Sink.faults c.write_line.new.sink) c.in-Err.error c.in-Err.ensures
