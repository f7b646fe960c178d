use Rattle.std.proofs.Common.{◌≡◌, ◌+◌, ◌≤◌, arith}
use Rattle.slate_queue.specs.Commits.{IsQueueCommit}
use Rattle.slate_services.proofs.PlainLaws.{plain_on}
use Rattle.slate_services.proofs.jobs.add.Goals as goal
use Rattle.slate_services.proofs.jobs.add.Goals.{in-Err, in-Ok}

pub loop-turn-preserved : goal.loop-turn-preserved
loop-turn-preserved g c =
    let fits : c.loop-turn.made ≤ c.loop-turn._turn = c.loop-turn.invariant.fits in
    elim c.match-attempt_add.branch [
      | in-Ok w ↦ record {
        worked = plain_on IsQueueCommit _ _ _ c.loop-turn.made 1 c.match-attempt_add.made
            c.loop-turn.invariant.worked w.in-Ok.ensures w.made-is;
        fits = omega (arith, w.made-is, fits);
      }
      | in-Err w ↦ record {
        worked = plain_on IsQueueCommit _ _ _ c.loop-turn.made 0 c.match-attempt_add.made
            c.loop-turn.invariant.worked w.in-Err.ensures (omega (arith, w.made-is));
        fits = omega (arith, w.made-is, fits);
      }
    ]
