use Rattle.std.proofs.Common.{◌∙◌, sym, arith, refl}
use Rattle.slate_types.proofs.Calls.{reads_at_none}
use Rattle.slate_types.proofs.Moves.{moves_none}
use Rattle.slate_types.proofs.Reaching.{reads_none}
use Rattle.slate_merge.proofs.Peeks.{ahead_moves, first_kept, head_taken, none_of, none_sound, taken_bound}
use Rattle.slate_merge.proofs.peeking_iterator.PeekingIterator.read_ahead.Goals as goal

pub returns-then-is_some : goal.returns-then-is_some
returns-then-is_some g c = record {
  moved = moves_none _ _ _ _ _;
  first = λ w sees h. first_kept c.args.self.now.ahead (g.I.RowEntryIterator.rest c.args.self.now.iterator w) (sym c.is_some.ensures ∙ c.if-is_some.true);
  still = λ w sees h. h;
  cause = tt;
  no_larger = omega arith;
  within = λ paths h. (reads_at_none paths _, h);
  reads = reads_none _;
  counts = refl;
}

pub returns-in-Ok : goal.returns-in-Ok
returns-in-Ok g c =
    let n = c.in-Ok.ensures in
    let none = none_of c.args.self.now.ahead (sym c.is_some.ensures ∙ c.if-is_some.false) in
    record {
      moved = ahead_moves g.I.RowEntryIterator.rest g.I.RowEntryIterator.sound g.I.RowEntryIterator.refuses g.I.RowEntryIterator.order (g.E.Outside.reach c.args.env.now) (g.E.Outside.reach c.next.new.env) c.args.self.now c.next.new.self c.in-Ok.answer none (record { rows = n.rows; still = n.still; checked = n.checked; taken = (n.taken.0, n.taken.1, (tt, n.taken.2.1)) }) n.order;
      first = λ w sees h. head_taken c.args.self.now.ahead (g.I.RowEntryIterator.rest c.args.self.now.iterator w) (g.I.RowEntryIterator.rest c.next.new.self w) c.in-Ok.answer none (n.rows w sees h.0);
      still = (ahead_moves g.I.RowEntryIterator.rest g.I.RowEntryIterator.sound g.I.RowEntryIterator.refuses g.I.RowEntryIterator.order (g.E.Outside.reach c.args.env.now) (g.E.Outside.reach c.next.new.env) c.args.self.now c.next.new.self c.in-Ok.answer none (record { rows = n.rows; still = n.still; checked = n.checked; taken = (n.taken.0, n.taken.1, (tt, n.taken.2.1)) }) n.order).still;
      cause = tt;
      no_larger = taken_bound c.args.self.now.ahead c.in-Ok.answer (g.I.RowEntryIterator.bound c.args.self.now.iterator) (g.I.RowEntryIterator.bound c.next.new.self) none n.smaller n.no_larger;
      within = n.within;
      reads = n.reads;
      counts = n.counts;
    }

pub returns-in-Err : goal.returns-in-Err
returns-in-Err g c =
    let n = c.in-Err.ensures in
    let none = none_of c.args.self.now.ahead (sym c.is_some.ensures ∙ c.if-is_some.false) in
    record {
      moved = tt;
      first = λ w sees h. tt;
      still = λ w sees h. none_sound g.I.RowEntryIterator.rest g.I.RowEntryIterator.sound g.I.RowEntryIterator.refuses g.I.RowEntryIterator.order g.met.I.RowEntryIterator.rising (record c.args.self.now { iterator = c.next.new.self }) w none (n.still w sees h.0);
      cause = (n.cause.0, n.cause.1, n.cause.2.0);
      no_larger = omega (arith, n.no_larger);
      within = n.within;
      reads = n.reads;
      counts = n.counts;
    }
