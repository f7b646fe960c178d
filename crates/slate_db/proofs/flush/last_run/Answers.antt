use Rattle.std.proofs.Common.{◌≡◌, length, ap, refl, arith, rules, false, bytes_eq, ◌∙◌}
use Rattle.std.proofs.lemmas.Grind.{common_steps}
use Rattle.slate_db.proofs.StandingRuns.{no_last, other_last}
use Rattle.slate_db.proofs.flush.last_run.Goals as goal
use Rattle.slate_db.proofs.flush.last_run.Goals.{in-Some+else-eq, in-None}

pub returns : goal.returns
returns c = elim c.match-pop.branch [
  | in-Some+else-eq w ↦
      other_last c.args.prefix c.args.runs.now.items c.pop.new.self.items c.match-pop.runs.items c.pop.result w.in-Some.run' _ c.pop.ensures.items w.in-Some.is (ap (λ v. v.items) w.runs-is ∙ w.push_reserved.ensures.items)
      (let other : bytes_eq w.in-Some.run'.prefix c.args.prefix ≡ false = search rules in other) refl c.new-tables.ensures.items
  | in-None w ↦
      no_last c.args.prefix c.args.runs.now.items c.pop.new.self.items c.match-pop.runs.items c.pop.result _ c.pop.ensures.items w.in-None.is
      (let empty : length c.args.runs.now.items ≡ 0 = grind (arith, common_steps, c.pop.ensures.cases, w.in-None.is) in empty) (ap (λ v. v.items) w.runs-is) refl c.new-tables.ensures.items
]
