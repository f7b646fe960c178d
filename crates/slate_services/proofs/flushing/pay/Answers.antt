use Rattle.std.proofs.Common.{◌≡◌, ◌+◌, ◌≤◌, arith}
use Rattle.slate_stock.specs.Journals.{order_kind}
use Rattle.slate_services.proofs.FlushingLaws.{nothing_plain_read, plain_read_on}
use Rattle.slate_services.proofs.flushing.pay.Goals as goal
use Rattle.slate_services.proofs.flushing.pay.Goals.{in-Err, in-Ok}

pub loop-turn-init : goal.loop-turn-init
loop-turn-init g c = record {
  worked = nothing_plain_read order_kind _ _;
  fits = omega arith;
}

pub loop-turn-preserved : goal.loop-turn-preserved
loop-turn-preserved g c =
    let fits : c.loop-turn.made ≤ c.loop-turn._turn = c.loop-turn.invariant.fits in
    elim c.match-attempt.branch [
      | in-Ok w ↦ record {
        worked = plain_read_on order_kind _ _ _ _ _ _ c.loop-turn.made 1 c.match-attempt.made
            c.loop-turn.invariant.worked w.in-Ok.ensures w.made-is;
        fits = omega (arith, w.made-is, fits);
      }
      | in-Err w ↦ record {
        worked = plain_read_on order_kind _ _ _ _ _ _ c.loop-turn.made 0 c.match-attempt.made
            c.loop-turn.invariant.worked w.in-Err.ensures (omega (arith, w.made-is));
        fits = omega (arith, w.made-is, fits);
      }
    ]
