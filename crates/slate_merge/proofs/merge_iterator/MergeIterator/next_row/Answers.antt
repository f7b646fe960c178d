use Rattle.std.proofs.Common.{◌≤◌, ◌<◌, [], refl, sym, subst, arith, None}
use Rattle.std.specs.BinaryHeap.{heap_items}
use Rattle.slate_types.proofs.Calls.{reads_at_none}
use Rattle.slate_types.proofs.Reaching.{reads_none}
use Rattle.slate_merge.specs.declared.merge_iterator.MergeState.{MergeState}
use Rattle.slate_merge.specs.declared.merge_iterator.MergeState.TheVariants.{Begun, Refused}
use Rattle.slate_merge.specs.MergeBringing.{IsHeapedIn}
use Rattle.slate_merge.specs.Merging.{merging_bound}
use Rattle.slate_merge.specs.MergeStates.{IsWaiting, IsWithinIn, bound_in}
use Rattle.slate_merge.proofs.MergeStateSteps.{again_stays, begun_fails, copied_bound, fails_still, not_waiting, refused_stays, state_step, state_takes, unbegun_stays}
use Rattle.slate_merge.proofs.SourcesWithin.{copied_within}
use Rattle.slate_merge.proofs.merge_iterator.MergeIterator.next_row.Goals as goal

pub returns-in-New : goal.returns-in-New
returns-in-New g c = record {
  rows = λ w sees h. tt;
  still = λ w sees h. h;
  checked = λ w h. tt;
  taken = tt;
  unbegun = λ waits. (refl, refl, refl);
  takes = λ w sees h. tt;
  cause = unbegun_stays g.I.RowEntryIterator.refuses (g.E.Outside.reach c.args.env.now) None c.args.self.now _ c.in-New.is tt;
  smaller = tt;
  no_larger = omega arith;
  order = refl;
  within = λ paths h. (reads_at_none paths _, h);
  reads = reads_none _;
  counts = refl;
}

pub returns-in-Refused : goal.returns-in-Refused
returns-in-Refused g c = record {
  rows = λ w sees h. tt;
  still = λ w sees h. rw c.in-Refused.is at h;
  checked = λ w h. tt;
  taken = tt;
  unbegun = λ waits. absurd (subst (λ (s : MergeState g.row.I.Denot). IsWaiting s) c.in-Refused.is waits);
  takes = λ w sees h. tt;
  cause = again_stays g.I.RowEntryIterator.refuses (g.E.Outside.reach c.args.env.now) None c.in-Refused.refusal c.copy_of.result c.args.self.now (record c.args.self.now { state = Refused c.in-Refused.refusal }) c.in-Refused.is refl c.copy_of.ensures;
  smaller = tt;
  no_larger = omega arith;
  order = refl;
  within = λ paths _. (reads_at_none paths _, tt);
  reads = reads_none _;
  counts = refl;
}

pub returns-in-Ok : goal.returns-in-Ok
returns-in-Ok g c =
    let n = c.in-Ok.ensures in
    let s = state_step g.I.RowEntryIterator.rest g.I.RowEntryIterator.sound g.I.RowEntryIterator.refuses g.I.RowEntryIterator.order g.I.RowEntryIterator.begins g.I.RowEntryIterator.takes g.I.RowEntryIterator.seeks c.args.self.now.order c.args.self.now.dedup (g.E.Outside.reach c.args.env.now) (g.E.Outside.reach c.take_row-answer.new.env) c.args.self.now.state (Begun c.in-Begun.heads) (Begun c.take_row-answer.new.heads) c.in-Ok.row c.in-Begun.is tt tt (n.step c.args.self.now.order) in
    let bound = g.I.RowEntryIterator.bound in
    record {
      rows = s.rows;
      still = s.still;
      checked = s.checked;
      taken = (s.taken.0, s.taken.1, (((s.taken.2.0.0, tt, record { order = refl; dedup = refl }, n.counted), s.taken.2.0.1, s.taken.2.0.2, λ h. n.heaped c.args.self.now.order (subst (λ (x : MergeState g.row.I.Denot). IsHeapedIn c.args.self.now.order x) c.in-Begun.is h), s.taken.2.0.3), s.taken.2.1));
      unbegun = λ waits. not_waiting c.args.self.now.state (Begun c.in-Begun.heads) c.in-Begun.is tt waits;
      takes = λ w sees h. state_takes g.I.RowEntryIterator.rest g.I.RowEntryIterator.sound g.I.RowEntryIterator.refuses g.I.RowEntryIterator.order c.args.self.now.order c.args.self.now.dedup (g.E.Outside.reach c.args.env.now) (g.E.Outside.reach c.take_row-answer.new.env) c.args.self.now.state (Begun c.in-Begun.heads) (Begun c.take_row-answer.new.heads) c.args.self.now.processed c.take_row-answer.new.processed c.in-Begun.is tt tt (n.count c.args.self.now.order) w sees h;
      cause = tt;
      smaller = λ some. subst (λ (x : MergeState g.row.I.Denot). merging_bound bound [] (heap_items c.take_row-answer.new.heads) < bound_in bound x) (sym c.in-Begun.is) (n.smaller some);
      no_larger = subst (λ (x : MergeState g.row.I.Denot). merging_bound bound [] (heap_items c.take_row-answer.new.heads) ≤ bound_in bound x) (sym c.in-Begun.is) n.no_larger;
      order = refl;
      within = λ paths h. n.within paths (subst (λ (x : MergeState g.row.I.Denot). IsWithinIn g.I.RowEntryIterator.within x paths) c.in-Begun.is h);
      reads = n.reads;
      counts = n.counts;
    }

pub returns-in-Err : goal.returns-in-Err
returns-in-Err g c =
    let n = c.in-Err.ensures in
    let r = c.refuse.ensures in
    let cause = begun_fails g.I.RowEntryIterator.refuses (g.E.Outside.reach c.args.env.now) (g.E.Outside.reach c.take_row-answer.new.env) None c.in-Err.error c.args.self.now.state (Begun c.in-Begun.heads) c.in-Begun.is tt n.cause in
    record {
      rows = λ w sees h. tt;
      still = λ w sees h. rw r.merge.order (fails_still g.I.RowEntryIterator.rest g.I.RowEntryIterator.sound g.I.RowEntryIterator.refuses g.I.RowEntryIterator.order g.met.I.RowEntryIterator.whole c.args.self.now.order (g.E.Outside.reach c.args.env.now) (g.E.Outside.reach c.take_row-answer.new.env) None c.in-Err.error c.args.self.now.state c.refuse.new.self.state cause r.copied w sees h);
      checked = λ w h. tt;
      taken = tt;
      unbegun = λ waits. not_waiting c.args.self.now.state (Begun c.in-Begun.heads) c.in-Begun.is tt waits;
      takes = λ w sees h. tt;
      cause = rw r.same (refused_stays g.I.RowEntryIterator.refuses (g.E.Outside.reach c.args.env.now) (g.E.Outside.reach c.take_row-answer.new.env) None c.in-Err.error c.args.self.now c.refuse.new.self (λ w. not_waiting c.args.self.now.state (Begun c.in-Begun.heads) c.in-Begun.is tt w) r.copied cause);
      smaller = tt;
      no_larger = copied_bound g.I.RowEntryIterator.bound c.in-Err.error c.refuse.new.self.state (bound_in g.I.RowEntryIterator.bound c.args.self.now.state) r.copied;
      order = r.merge.order;
      within = λ paths h. ((n.within paths (subst (λ (x : MergeState g.row.I.Denot). IsWithinIn g.I.RowEntryIterator.within x paths) c.in-Begun.is h)).0, copied_within g.I.RowEntryIterator.within paths c.in-Err.error c.refuse.new.self.state r.copied);
      reads = n.reads;
      counts = rw r.same n.counts;
    }
