use Rattle.std.proofs.Common.{◌≡◌, ◌⊎◌, inl, inr, refl, ◌∙◌}
use Rattle.slate_tables.proofs.RunLaws.{sink_same, writes_err, writes_later, writes_ok}
use Rattle.slate_tables.proofs.run.write_end.Goals as goal

pub returns-in-Ok : goal.returns-in-Ok
returns-in-Ok g c =
    let k = g.W.Sink.faults in
    writes_later (k c.args.sink.now) (k c.write_others.new.sink) (k c.write_last.new.sink) c.write_last.result (sink_same _ _ _ c.in-Ok.ensures.sink) c.write_last.ensures

pub returns-in-Err : goal.returns-in-Err
returns-in-Err g c = writes_err (g.W.Sink.faults c.args.sink.now) (g.W.Sink.faults c.write_others.new.sink) c.in-Err.error c.in-Err.ensures
