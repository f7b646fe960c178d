use Rattle.std.proofs.Common.{[], inl, inr, refl, arith}
use Rattle.slate_types.proofs.Calls.{call_none, reads_at_none}
use Rattle.slate_types.proofs.Reaching.{reads_none}
use Rattle.slate_merge.proofs.Requires.{or_no_more, or_but, or_why}
use Rattle.slate_merge.proofs.required_iterator.MergeOperatorRequiredIteratorRowEntryIterator.seek.Goals as goal

pub returns-then-self : goal.returns-then-self
returns-then-self g c = record {
  rows = λ w sees h. tt;
  still = λ w sees h. h;
  checked = λ w h. tt;
  sought = tt;
  cause = ([], call_none _, (inr (inl refl), inl (refl, c.if-self.true, inl c.if-self.true), λ later at e h. inl h));
  no_larger = omega arith;
  order = refl;
  within = λ paths h. (reads_at_none paths _, h);
  reads = reads_none _;
  counts = refl;
}

pub returns-in-Ok : goal.returns-in-Ok
returns-in-Ok g c =
    let n = c.in-Ok.ensures in
    record {
      rows = n.rows;
      still = n.still;
      checked = n.checked;
      sought = (n.sought.0, n.sought.1, ((n.sought.2.0, c.if-self.false, c.if-self.false), or_no_more (g.I.RowEntryIterator.refuses c.args.self.now.iterator (g.E.Outside.reach c.args.env.now).meaning) (g.I.RowEntryIterator.refuses c.seek.new.self (g.E.Outside.reach c.args.env.now).meaning) n.sought.0 n.sought.2.1));
      cause = tt;
      no_larger = n.no_larger;
      order = n.order;
      within = n.within;
      reads = n.reads;
      counts = n.counts;
    }

pub returns-in-Err : goal.returns-in-Err
returns-in-Err g c =
    let n = c.in-Err.ensures in
    record {
      rows = λ w sees h. tt;
      still = n.still;
      checked = λ w h. tt;
      sought = tt;
      cause = (n.cause.0, n.cause.1, (or_why _ _ _ n.cause.2.0, inr (c.if-self.false, n.cause.2.1), or_but _ (g.I.RowEntryIterator.refuses c.args.self.now.iterator (g.E.Outside.reach c.args.env.now).meaning) (g.I.RowEntryIterator.refuses c.seek.new.self (g.E.Outside.reach c.args.env.now).meaning) n.cause.0 n.cause.2.2));
      no_larger = n.no_larger;
      order = n.order;
      within = n.within;
      reads = n.reads;
      counts = n.counts;
    }
