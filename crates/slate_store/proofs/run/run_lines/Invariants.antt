use Rattle.std.proofs.Common.{◌≡◌, ◌≤◌, ◌-◌, ℕ, List, Some}
use Rattle.slate_store.specs.Lines.{script_limit}
use Rattle.slate_store.proofs.RunLaws.{IsAt}
use Rattle.slate_store.proofs.run.run_lines.Given as goal

abbrev pub invariant-loop-line : goal.invariant-loop-line
invariant-loop-line g l = record {
  told : (script : List ℕ) → g.R.Source.left l.initial.source ≡ Some script
      → IsAt (g.P.Program.takes l.initial.program) (g.P.Program.answers l.initial.program) (g.P.Program.answers l.program) script (g.R.Source.left l.source) (g.W.Sink.content l.initial.sink) (g.W.Sink.content l.sink) l.lines l.number;
  alike : (line : List ℕ) → g.P.Program.takes l.program line ≡ g.P.Program.takes l.initial.program line;
  ready : g.P.Program.ready l.program;
  goes : g.P.Program.goes l.initial.program l.program l.number;
  counted : l.number ≤ l.lines.given;
  within : l.lines.given ≤ script_limit;
  source_later : g.R.Source.faults l.initial.source ≤ g.R.Source.faults l.source;
  sink_later : g.W.Sink.faults l.initial.sink ≤ g.W.Sink.faults l.sink;
  source_still : g.R.Source.faults l.source ≡ g.R.Source.faults l.initial.source;
  sink_still : g.W.Sink.faults l.sink ≡ g.W.Sink.faults l.initial.sink;
}

abbrev pub decreases-loop-line : goal.decreases-loop-line
decreases-loop-line g l = script_limit - l.lines.given
