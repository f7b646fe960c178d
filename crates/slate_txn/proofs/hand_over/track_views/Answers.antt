use Rattle.std.proofs.Common.{length, arith, ◌∷◌, ◌++◌, [], ap, refl, ◌∙◌}
use Rattle.std.specs.List.{list_any}
use Rattle.std.specs.Vec.Iter.{into_iter_items}
use Rattle.std.proofs.lemmas.List.{nil_from_length}
use Rattle.slate_types.specs.Keys.{in_range}
use Rattle.slate_txn.specs.Managers.{Active}
use Rattle.slate_txn.specs.Named.{find_named}
use Rattle.slate_txn.proofs.HandOver.{grown_refl, grown_trans, grown_of, same_refl, same_trans, same_after, takes_after, rest_start, rest_turn, rest_end}
use Rattle.slate_txn.proofs.hand_over.track_views.Goals as goal

pub loop-range-init : goal.loop-range-init
loop-range-init c = record {
  grown = grown_refl c.args.id.now c.args.manager.now;
  same = same_refl (find_named c.args.id.now c.args.manager.now.active);
  left = (let e = c.into_iter-range-iterator.ensures.into_iter_gives in omega (arith, ap length e.0, e.1, c.args.views.ok.0));
  rest = rest_start (λ r k. in_range r k) c.args.views.items (into_iter_items c.into_iter-range-iterator.result) c.into_iter-range-iterator.ensures.into_iter_gives.0 (find_named c.args.id.now c.args.manager.now.active);
}

pub loop-range-preserved : goal.loop-range-preserved
loop-range-preserved c =
    let id = c.args.id.now in
    let before = c.loop-range.manager in
    let after = c.track_read_range.new.self in
    let e = c.track_read_range.ensures in
    let was = c.loop-range.invariant in
    record {
      grown = grown_trans id c.args.manager.now before after was.grown
          (grown_of (λ (t : Active). record t { ranges = t.ranges ++ (c.in-Some.range ∷ []) }) id before after c.track_read_range.result e.tracked e.same e.stands);
      same = same_trans (find_named id c.args.manager.now.active) (find_named id before.active) (find_named id after.active) was.same (same_after c.in-Some.range id before after c.in_ok-track_read_range.ensures.tracked);
      left = (let s = c.in-Some.ensures.steps in omega (arith, ap length s.0, s.1, was.left));
      rest = rest_turn (λ k. list_any (λ r. in_range r k) c.args.views.items) (λ k. list_any (λ r. in_range r k) (into_iter_items c.loop-range.range-iterator)) (λ k. list_any (λ r. in_range r k) (into_iter_items c.next.new.self))
          (in_range c.in-Some.range) (λ k. ap (list_any (λ r. in_range r k)) c.in-Some.ensures.steps.0)
          (find_named id c.args.manager.now.active) (find_named id before.active) (find_named id after.active) was.rest (takes_after c.in-Some.range (in_range c.in-Some.range) (λ k. refl) id before after c.in_ok-track_read_range.ensures.tracked);
    }

pub returns-in_err-track_read_range-clause-grown : goal.returns-in_err-track_read_range-clause-grown
returns-in_err-track_read_range-clause-grown c =
    let e = c.track_read_range.ensures in
    grown_trans c.args.id.now c.args.manager.now c.loop-range.manager c.track_read_range.new.self c.loop-range.invariant.grown
    (grown_of (λ (t : Active). record t { ranges = t.ranges ++ (c.in-Some.range ∷ []) }) c.args.id.now c.loop-range.manager c.track_read_range.new.self c.track_read_range.result e.tracked e.same e.stands)

pub returns-clause-takes : goal.returns-clause-takes
returns-clause-takes c =
    rest_end (λ k. list_any (λ r. in_range r k) c.args.views.items) (λ k. list_any (λ r. in_range r k) (into_iter_items c.loop-range.range-iterator)) (λ k. ap (list_any (λ r. in_range r k)) (nil_from_length _ (c.loop-range.invariant.left ∙ c.in-None.ensures.steps.0)))
    (find_named c.args.id.now c.args.manager.now.active) (find_named c.args.id.now c.loop-range.manager.active) c.loop-range.invariant.rest
