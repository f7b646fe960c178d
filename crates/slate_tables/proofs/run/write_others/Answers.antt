use Rattle.std.proofs.Common.{◌≡◌, ◌⊎◌, inl, inr, refl, ◌∙◌}
use Rattle.slate_tables.proofs.RunLaws.{sink_same, writes_err, writes_later, writes_ok}
use Rattle.slate_tables.proofs.run.write_others.Goals as goal

pub loop-path-init : goal.loop-path-init
loop-path-init g c = refl

pub loop-path-preserved : goal.loop-path-preserved
loop-path-preserved g c = sink_same _ _ _ c.in-Ok.ensures.sink ∙ c.loop-path.invariant

pub returns-in-Err : goal.returns-in-Err
returns-in-Err g c =
    let k = g.W.Sink.faults in
    writes_later (k c.args.sink.now) (k c.loop-path.sink) (k c.write_line.new.sink) _ c.loop-path.invariant c.in-Err.ensures

pub returns : goal.returns
returns g c = record { cause = tt; sink = inr c.loop-path.invariant }
