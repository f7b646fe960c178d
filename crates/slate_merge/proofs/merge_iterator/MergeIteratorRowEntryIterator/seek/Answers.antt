use Rattle.std.proofs.Common.{◌≤◌, [], refl, sym, subst, arith, Some}
use Rattle.std.specs.BinaryHeap.{heap_items}
use Rattle.slate_types.proofs.Calls.{reads_at_none}
use Rattle.slate_types.proofs.Reaching.{reads_none}
use Rattle.slate_merge.specs.declared.merge_iterator.MergeState.{MergeState}
use Rattle.slate_merge.specs.declared.merge_iterator.MergeState.TheVariants.{Begun, Refused}
use Rattle.slate_merge.specs.MergeBringing.{IsHeapedIn}
use Rattle.slate_merge.proofs.MergeBringings.{rows_less}
use Rattle.slate_merge.specs.Merging.{merging_bound}
use Rattle.slate_merge.specs.MergeStates.{IsWithinIn, bound_in}
use Rattle.slate_merge.proofs.MergeStateSteps.{again_stays, begun_adds, begun_fails, copied_bound, fails_still, not_waiting, refused_stays, state_seek, unbegun_stays}
use Rattle.slate_merge.proofs.SourcesWithin.{copied_within}
use Rattle.slate_merge.proofs.merge_iterator.MergeIteratorRowEntryIterator.seek.Goals as goal

pub returns-in-New : goal.returns-in-New
returns-in-New g c = record {
  rows = λ w sees h. tt;
  still = λ w sees h. h;
  checked = λ w h. tt;
  sought = tt;
  cause = unbegun_stays g.I.RowEntryIterator.refuses (g.E.Outside.reach c.args.env.now) (Some c.args.key.now) c.args.self.now _ c.in-New.is tt;
  no_larger = omega arith;
  order = refl;
  within = λ paths h. (reads_at_none paths _, h);
  reads = reads_none _;
  counts = refl;
}

pub returns-in-Refused : goal.returns-in-Refused
returns-in-Refused g c = record {
  rows = λ w sees h. tt;
  still = λ w sees h. rw c.in-Refused.is at h;
  checked = λ w h. tt;
  sought = tt;
  cause = again_stays g.I.RowEntryIterator.refuses (g.E.Outside.reach c.args.env.now) (Some c.args.key.now) c.in-Refused.refusal c.copy_of.result c.args.self.now (record c.args.self.now { state = Refused c.in-Refused.refusal }) c.in-Refused.is refl c.copy_of.ensures;
  no_larger = omega arith;
  order = refl;
  within = λ paths _. (reads_at_none paths _, tt);
  reads = reads_none _;
  counts = refl;
}

pub returns-in-Ok : goal.returns-in-Ok
returns-in-Ok g c =
    let n = c.in-Ok.ensures in
    let s = state_seek g.I.RowEntryIterator.rest g.I.RowEntryIterator.sound g.I.RowEntryIterator.refuses g.I.RowEntryIterator.order c.args.self.now.order c.args.self.now.dedup c.args.key.now (g.E.Outside.reach c.args.env.now) (g.E.Outside.reach c.seek_heads-answer.new.env) c.args.self.now.state (Begun c.in-Begun.heads) (Begun c.seek_heads-answer.new.heads) c.in-Begun.is tt tt (n.moved c.args.self.now.order) (n.done c.args.self.now.order) in
    let k = begun_adds g.I.RowEntryIterator.rest g.I.RowEntryIterator.sound g.I.RowEntryIterator.refuses g.I.RowEntryIterator.order g.I.RowEntryIterator.begins g.I.RowEntryIterator.takes g.I.RowEntryIterator.seeks (g.E.Outside.reach c.args.env.now) (g.E.Outside.reach c.seek_heads-answer.new.env) c.args.self.now.state (Begun c.in-Begun.heads) (Begun c.seek_heads-answer.new.heads) c.in-Begun.is tt tt n.brought in
    let bound = g.I.RowEntryIterator.bound in
    record {
      rows = s.rows;
      still = s.still;
      checked = s.checked;
      sought = (k.0, k.1, ((rw c.in-Begun.is tt, tt, record { order = refl; dedup = refl }, refl, rows_less g.I.RowEntryIterator.begins g.I.RowEntryIterator.takes g.I.RowEntryIterator.seeks c.args.self.now.state (Begun c.seek_heads-answer.new.heads) (g.E.Outside.reach c.args.env.now).meaning k.0 k.2.1, k.2.1, λ h. n.heaped c.args.self.now.order (subst (λ (x : MergeState g.row.I.Denot). IsHeapedIn c.args.self.now.order x) c.in-Begun.is h)), k.2.0));
      cause = tt;
      no_larger = subst (λ (x : MergeState g.row.I.Denot). merging_bound bound [] (heap_items c.seek_heads-answer.new.heads) ≤ bound_in bound x) (sym c.in-Begun.is) n.no_larger;
      order = refl;
      within = λ paths h. n.within paths (subst (λ (x : MergeState g.row.I.Denot). IsWithinIn g.I.RowEntryIterator.within x paths) c.in-Begun.is h);
      reads = n.reads;
      counts = n.counts;
    }

pub returns-in-Err : goal.returns-in-Err
returns-in-Err g c =
    let n = c.in-Err.ensures in
    let r = c.refuse.ensures in
    let cause = begun_fails g.I.RowEntryIterator.refuses (g.E.Outside.reach c.args.env.now) (g.E.Outside.reach c.seek_heads-answer.new.env) (Some c.args.key.now) c.in-Err.error c.args.self.now.state (Begun c.in-Begun.heads) c.in-Begun.is tt n.cause in
    record {
      rows = λ w sees h. tt;
      still = λ w sees h. rw r.merge.order (fails_still g.I.RowEntryIterator.rest g.I.RowEntryIterator.sound g.I.RowEntryIterator.refuses g.I.RowEntryIterator.order g.met.I.RowEntryIterator.whole c.args.self.now.order (g.E.Outside.reach c.args.env.now) (g.E.Outside.reach c.seek_heads-answer.new.env) (Some c.args.key.now) c.in-Err.error c.args.self.now.state c.refuse.new.self.state cause r.copied w sees h);
      checked = λ w h. tt;
      sought = tt;
      cause = rw r.same (refused_stays g.I.RowEntryIterator.refuses (g.E.Outside.reach c.args.env.now) (g.E.Outside.reach c.seek_heads-answer.new.env) (Some c.args.key.now) c.in-Err.error c.args.self.now c.refuse.new.self (λ w. not_waiting c.args.self.now.state (Begun c.in-Begun.heads) c.in-Begun.is tt w) r.copied cause);
      no_larger = copied_bound g.I.RowEntryIterator.bound c.in-Err.error c.refuse.new.self.state (bound_in g.I.RowEntryIterator.bound c.args.self.now.state) r.copied;
      order = r.merge.order;
      within = λ paths h. ((n.within paths (subst (λ (x : MergeState g.row.I.Denot). IsWithinIn g.I.RowEntryIterator.within x paths) c.in-Begun.is h)).0, copied_within g.I.RowEntryIterator.within paths c.in-Err.error c.refuse.new.self.state r.copied);
      reads = n.reads;
      counts = rw r.same n.counts;
    }
