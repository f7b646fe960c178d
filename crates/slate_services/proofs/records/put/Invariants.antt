use Rattle.std.proofs.Common.{◌≤◌}
use Rattle.slate_index.specs.Journals.{change_kind}
use Rattle.slate_services.specs.Plain.{PlainWorked}
use Rattle.slate_services.proofs.records.put.Given as goal

abbrev pub invariant-loop-turn : goal.invariant-loop-turn
invariant-loop-turn g l = record {
  worked : PlainWorked (change_kind (g.F.Fields.model l.fields)) l.initial.pass l.pass l.made;
  fits : l.made ≤ l._turn;
}
