use Rattle.std.proofs.Common.{◌++◌, ◌∷◌, [], Option, subst}
use Rattle.slate_types.specs.declared.bytes_range.BytesRange.{BytesRange}
use Rattle.slate_txn.specs.HandedOver.{AreKeysOf}
use Rattle.slate_txn.specs.Managers.{Active}
use Rattle.slate_txn.specs.Tracking.{tracks}
use Rattle.slate_txn.proofs.HandOver.{grown_of, same_after, takes_after}
use Rattle.slate_txn.proofs.hand_over.track_scan.Goals as goal
use Rattle.slate_types.proofs.Exits.{on_ok_weaker}

pub returns-in-Some-clause-grown : goal.returns-in-Some-clause-grown
returns-in-Some-clause-grown c =
    let e = c.track_read_range.ensures in
    grown_of (λ (t : Active). record t { ranges = t.ranges ++ (c.in-Some.range ∷ []) }) c.args.id.now c.args.manager.now c.track_read_range.new.self c.track_read_range.result e.tracked e.same e.stands

pub returns-in-Some-clause-same : goal.returns-in-Some-clause-same
returns-in-Some-clause-same c =
    on_ok_weaker c.track_read_range.result (λ e. same_after c.in-Some.range c.args.id.now c.args.manager.now c.track_read_range.new.self e) c.track_read_range.ensures.tracked

pub returns-in-Some-clause-takes : goal.returns-in-Some-clause-takes
returns-in-Some-clause-takes c =
    on_ok_weaker c.track_read_range.result
    (λ e. takes_after c.in-Some.range (tracks c.args.scan.now) (subst (λ (o : Option BytesRange). AreKeysOf (tracks c.args.scan.now) o) c.in-Some.is c.in_ok-range.ensures.keys) c.args.id.now c.args.manager.now c.track_read_range.new.self e)
    c.track_read_range.ensures.tracked
