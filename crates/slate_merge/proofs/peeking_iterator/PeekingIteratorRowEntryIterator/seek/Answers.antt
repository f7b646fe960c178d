use Rattle.std.proofs.Common.{◌∙◌, [], inl, inr, refl, sym, arith}
use Rattle.slate_types.proofs.Calls.{call_none, checks_none, reads_at_none}
use Rattle.slate_types.proofs.Reaching.{reads_none}
use Rattle.slate_merge.proofs.Peeks.{kept_rows, none_sound, sought_rows}
use Rattle.slate_merge.proofs.peeking_iterator.PeekingIteratorRowEntryIterator.seek.Goals as goal

pub returns-then-is_ahead_kept : goal.returns-then-is_ahead_kept
returns-then-is_ahead_kept g c =
    let it = c.args.self.now in
    let kept = sym (rw c.iteration_order.ensures at c.is_ahead_kept.ensures) ∙ c.if-is_ahead_kept.true in
    record {
      rows = λ w sees h. kept_rows (g.I.RowEntryIterator.order it.iterator) c.args.key.now it.ahead (g.I.RowEntryIterator.rest it.iterator w) kept;
      still = λ w sees h. h;
      checked = λ w h. checks_none w _;
      sought = ([], call_none _, (inl (refl, refl), λ later at e h. h));
      cause = tt;
      no_larger = omega arith;
      order = refl;
      within = λ paths h. (reads_at_none paths _, h);
      reads = reads_none _;
      counts = refl;
    }

pub returns-in-Ok : goal.returns-in-Ok
returns-in-Ok g c =
    let it = c.args.self.now in
    let n = c.in-Ok.ensures in
    let after = c.take.ensures.after in
    let gone = sym (rw c.iteration_order.ensures at c.is_ahead_kept.ensures) ∙ c.if-is_ahead_kept.false in
    record {
      rows = λ w sees h. rw after (n.rows w sees h.0 ∙ sought_rows (g.I.RowEntryIterator.order it.iterator) c.args.key.now it.ahead (g.I.RowEntryIterator.rest it.iterator w) gone);
      still = λ w sees h. none_sound g.I.RowEntryIterator.rest g.I.RowEntryIterator.sound g.I.RowEntryIterator.refuses g.I.RowEntryIterator.order g.met.I.RowEntryIterator.rising (record { iterator = c.seek.new.self; ahead = c.take.new.self }) w after (n.still w sees h.0);
      checked = λ w h. n.checked w h.0;
      sought = (n.sought.0, n.sought.1, (inr (after, n.sought.2.0), n.sought.2.1));
      cause = tt;
      no_larger = rw after (omega (arith, n.no_larger));
      order = n.order;
      within = n.within;
      reads = n.reads;
      counts = n.counts;
    }

pub returns-in-Err : goal.returns-in-Err
returns-in-Err g c =
    let n = c.in-Err.ensures in
    let after = c.take.ensures.after in
    record {
      rows = λ w sees h. tt;
      still = λ w sees h. none_sound g.I.RowEntryIterator.rest g.I.RowEntryIterator.sound g.I.RowEntryIterator.refuses g.I.RowEntryIterator.order g.met.I.RowEntryIterator.rising (record { iterator = c.seek.new.self; ahead = c.take.new.self }) w after (n.still w sees h.0);
      checked = λ w h. tt;
      sought = tt;
      cause = (n.cause.0, n.cause.1, (n.cause.2.0, (n.cause.2.1, after), n.cause.2.2));
      no_larger = rw after (omega (arith, n.no_larger));
      order = n.order;
      within = n.within;
      reads = n.reads;
      counts = n.counts;
    }
