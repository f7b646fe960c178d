use Rattle.std.proofs.Common.{refl, arith, None}
use Rattle.slate_types.proofs.Calls.{reads_at_none}
use Rattle.slate_types.proofs.Reaching.{reads_none}
use Rattle.slate_merge.specs.declared.merge_iterator.MergeState.TheVariants.{Begun}
use Rattle.slate_merge.specs.MergeStates.{bound_in}
use Rattle.slate_merge.proofs.MergeBringings.{rows_less}
use Rattle.slate_merge.proofs.MergeStateSteps.{again_stays, copied_bound, fails_still, refused_stays, state_ready, unrefused_of}
use Rattle.slate_merge.proofs.SourcesWithin.{copied_within}
use Rattle.slate_merge.proofs.merge_iterator.MergeIteratorRowEntryIterator.init.Goals as goal

pub returns-in-Refused : goal.returns-in-Refused
returns-in-Refused g c = record {
  rows = λ w sees h. tt;
  still = λ w sees h. h;
  checked = λ w h. tt;
  ready = tt;
  begun = tt;
  cause = again_stays g.I.RowEntryIterator.refuses (g.E.Outside.reach c.args.env.now) None c.in-Refused.refusal c.copy_of.result c.args.self.now c.args.self.now c.in-Refused.is c.in-Refused.is c.copy_of.ensures;
  no_larger = omega arith;
  order = refl;
  within = λ paths h. (reads_at_none paths _, h);
  reads = reads_none _;
  counts = refl;
}

pub returns-in-Ok : goal.returns-in-Ok
returns-in-Ok g c =
    let n = c.in-Ok.ensures in
    let b = c.begin.ensures in
    let m = n.moved c.args.self.now.dedup in
    let k = n.brought in
    record {
      rows = λ w sees h. rw (b.state, b.merge.order, b.merge.dedup) (m.rows w sees h);
      still = λ w sees h. rw (b.state, b.merge.order) (m.still w sees h);
      checked = m.checked;
      ready = rw b.state (state_ready g.I.RowEntryIterator.refuses (g.E.Outside.reach c.args.env.now).meaning (Begun c.in-Ok.heads) tt n.ready);
      begun = (k.0, k.1, ((unrefused_of c.args.self.now.state c.in_default.not-Refused, rw b.state tt, record { order = b.merge.order; dedup = b.merge.dedup }, b.processed, rw b.state (rows_less g.I.RowEntryIterator.begins g.I.RowEntryIterator.takes g.I.RowEntryIterator.seeks c.args.self.now.state (Begun c.in-Ok.heads) (g.E.Outside.reach c.args.env.now).meaning k.0 k.2.1), rw b.state k.2.1, λ h. rw (b.merge.order, b.state) (n.heaped h), rw b.state n.same_rows), rw b.state k.2.0));
      cause = tt;
      no_larger = rw b.state n.no_larger;
      order = b.merge.order;
      within = λ paths h. (let w = n.within paths h in (w.0, rw b.state w.1));
      reads = n.reads;
      counts = n.counts;
    }

pub returns-in-Err : goal.returns-in-Err
returns-in-Err g c =
    let n = c.in-Err.ensures in
    let r = c.refuse.ensures in
    record {
      rows = λ w sees h. tt;
      still = λ w sees h. rw r.merge.order (fails_still g.I.RowEntryIterator.rest g.I.RowEntryIterator.sound g.I.RowEntryIterator.refuses g.I.RowEntryIterator.order g.met.I.RowEntryIterator.whole c.args.self.now.order (g.E.Outside.reach c.args.env.now) (g.E.Outside.reach c.begin_heads.new.env) None c.in-Err.error c.args.self.now.state c.refuse.new.self.state n.cause r.copied w sees h);
      checked = λ w h. tt;
      ready = tt;
      begun = tt;
      cause = rw r.same (refused_stays g.I.RowEntryIterator.refuses (g.E.Outside.reach c.args.env.now) (g.E.Outside.reach c.begin_heads.new.env) None c.in-Err.error c.args.self.now c.refuse.new.self (λ _ some. cc) r.copied n.cause);
      no_larger = copied_bound g.I.RowEntryIterator.bound c.in-Err.error c.refuse.new.self.state (bound_in g.I.RowEntryIterator.bound c.args.self.now.state) r.copied;
      order = r.merge.order;
      within = λ paths h. ((n.within paths h).0, copied_within g.I.RowEntryIterator.within paths c.in-Err.error c.refuse.new.self.state r.copied);
      reads = n.reads;
      counts = rw r.same n.counts;
    }
