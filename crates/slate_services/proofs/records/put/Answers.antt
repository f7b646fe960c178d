use Rattle.std.proofs.Common.{◌≡◌, ◌+◌, ◌≤◌, arith}
use Rattle.slate_index.specs.Journals.{change_kind}
use Rattle.slate_services.proofs.PlainLaws.{plain_on}
use Rattle.slate_services.proofs.records.put.Goals as goal
use Rattle.slate_services.proofs.records.put.Goals.{in-Err, in-Ok}

pub loop-turn-preserved : goal.loop-turn-preserved
loop-turn-preserved g c =
    let fits : c.loop-turn.made ≤ c.loop-turn._turn = c.loop-turn.invariant.fits in
    elim c.match-attempt.branch [
      | in-Ok w ↦ record {
        worked = plain_on (change_kind (g.F.Fields.model c.args.fields.now)) _ _ _ c.loop-turn.made 1 c.match-attempt.made
            c.loop-turn.invariant.worked w.in-Ok.ensures w.made-is;
        fits = omega (arith, w.made-is, fits);
      }
      | in-Err w ↦ record {
        worked = plain_on (change_kind (g.F.Fields.model c.args.fields.now)) _ _ _ c.loop-turn.made 0 c.match-attempt.made
            c.loop-turn.invariant.worked w.in-Err.ensures (omega (arith, w.made-is));
        fits = omega (arith, w.made-is, fits);
      }
    ]
