use Rattle.std.proofs.Common.{Vec, Global, ℕ, Option, option_map, sym, ap, subst, ◌∙◌}
use Rattle.slate_store.specs.Run.{LineSays, said_by}
use Rattle.slate_store.proofs.RunLaws.{written_line}
use Rattle.slate_store.proofs.run.answer_line.Goals as goal

pub returns-in-Ok-Some-clause-said : goal.returns-in-Ok-Some-clause-said
returns-in-Ok-Some-clause-said g c = λ f answers.
    written_line c.write_all.result f (g.P.Program.answers c.answer.new.self) c.args.line.now c.as_slice.result.now (g.W.Sink.content c.args.sink.now) (g.W.Sink.content c.write_all.new.sink)
    (subst (LineSays f (g.P.Program.answers c.answer.new.self) c.args.line.now) (ap (λ (o : Option (Vec ℕ Global)). said_by (option_map (λ v. v.items) o)) c.in-Ok-Some.field-0-is ∙ sym c.as_slice.ensures.value) (c.in-Ok-Some.ensures.said f answers))
    c.write_all.ensures.ok c.write_all.ensures.part
