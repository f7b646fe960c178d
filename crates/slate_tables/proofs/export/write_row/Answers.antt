use Rattle.std.proofs.Common.{◌≡◌, ◌∙◌, ◌++◌, ℕ, List, Some, inl, inr, refl, subst, arith}
use Rattle.std.specs.Prelude.{OnOk}
use Rattle.slate_tables.specs.Writing.{Passes}
use Rattle.slate_tables.proofs.Writings.{on_ok, wrote_cause}
use Rattle.slate_tables.proofs.export.write_row.Goals as goal

pub returns-in-Ok : goal.returns-in-Ok
returns-in-Ok g c =
    let wrote = c.write_all-done.ensures in
    record {
      text = λ before at. subst (λ (l : List ℕ). OnOk c.write_all-done.result (g.W.Sink.content c.write_all-done.new.sink ≡ Some (before ++ l))) (c.as_slice.ensures.value ∙ c.in-Ok.ensures.text) (wrote.ok before at);
      passes = on_ok c.write_all-done.result (Passes c.args.form c.args.has_operator c.args.row.now) c.in-Ok.ensures.passes;
      fits = c.is_sequence.ensures;
      cause = wrote_cause c.args.form (g.W.Sink.faults c.args.sink.now) (g.W.Sink.faults c.write_all-done.new.sink) c.write_all-done.result wrote.cause;
      later = wrote.later;
      still = wrote.still;
    }

pub returns-in-Err : goal.returns-in-Err
returns-in-Err g c = record {
  text = λ before at. tt;
  passes = tt;
  fits = c.is_sequence.ensures;
  cause = inr (c.args.has_operator, c.args.row.now, c.in-Err.ensures.cause);
  later = omega arith;
  still = tt;
}
