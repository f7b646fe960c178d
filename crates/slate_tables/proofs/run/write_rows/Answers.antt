use Rattle.std.proofs.Common.{◌≡◌, ◌⊎◌, inl, inr, refl, ◌∙◌}
use Rattle.slate_tables.proofs.RunLaws.{sink_same, writes_err, writes_later, writes_ok}
use Rattle.slate_tables.proofs.run.write_rows.Goals as goal

pub loop-row-init : goal.loop-row-init
loop-row-init g c = refl

pub loop-row-preserved : goal.loop-row-preserved
loop-row-preserved g c = sink_same _ _ _ c.in-Ok.ensures.sink ∙ c.loop-row.invariant

pub returns-in-Err : goal.returns-in-Err
returns-in-Err g c =
    let k = g.W.Sink.faults in
    writes_later (k c.args.sink.now) (k c.loop-row.sink) (k c.write_line.new.sink) _ c.loop-row.invariant c.in-Err.ensures

pub returns : goal.returns
returns g c = record { cause = tt; sink = inr c.loop-row.invariant }
