use Rattle.std.proofs.Common.{◌∙◌, ◌∷◌, [], List, refl, sym, ap, arith}
use Rattle.slate_types.specs.declared.types.RowEntry.{RowEntry}
use Rattle.slate_types.proofs.Calls.{call_none, checks_none, reads_at_none}
use Rattle.slate_types.proofs.Reaching.{reads_none}
use Rattle.slate_merge.proofs.Peeks.{ahead_taken, none_rest, none_sound, taken_ahead}
use Rattle.slate_merge.proofs.Waitings.{ok_waits, some_waits}
use Rattle.slate_merge.proofs.peeking_iterator.PeekingIteratorRowEntryIterator.next.Goals as goal

pub returns-in-Some : goal.returns-in-Some
returns-in-Some g c =
    let it = c.args.self.now in
    let new = record it { ahead = c.take.new.self } in
    let after = c.take.ensures.after in
    let is = sym c.take.ensures.value ∙ c.in-Some.is in
    record {
      rows = λ w sees h. ahead_taken g.I.RowEntryIterator.rest g.I.RowEntryIterator.sound g.I.RowEntryIterator.refuses g.I.RowEntryIterator.order it c.in-Some.row w is ∙ ap (λ (l : List RowEntry). c.in-Some.row ∷ l) (sym (none_rest g.I.RowEntryIterator.rest g.I.RowEntryIterator.sound g.I.RowEntryIterator.refuses g.I.RowEntryIterator.order new w after));
      still = λ w sees h. none_sound g.I.RowEntryIterator.rest g.I.RowEntryIterator.sound g.I.RowEntryIterator.refuses g.I.RowEntryIterator.order g.met.I.RowEntryIterator.rising new w after h.0;
      checked = λ w h. checks_none w _;
      taken = ([], call_none _, ((taken_ahead (λ x rs a y. g.I.RowEntryIterator.takes x (g.E.Outside.reach c.args.env.now).meaning rs a y) it.ahead c.in-Some.row it.iterator is, after), λ later at e h. h));
      unbegun = λ waits. some_waits is waits.1;
      cause = tt;
      smaller = λ some. rw (after, is) (omega arith);
      no_larger = rw (after, is) (omega arith);
      order = refl;
      within = λ paths h. (reads_at_none paths _, h);
      reads = reads_none _;
      counts = refl;
    }

pub returns-in-Ok : goal.returns-in-Ok
returns-in-Ok g c =
    let n = c.in-Ok.ensures in
    let after = c.take.ensures.after in
    let none = sym c.take.ensures.value ∙ c.in_default.is in
    record {
      rows = λ w sees h. rw (none, after) (n.rows w sees h.0);
      still = λ w sees h. none_sound g.I.RowEntryIterator.rest g.I.RowEntryIterator.sound g.I.RowEntryIterator.refuses g.I.RowEntryIterator.order g.met.I.RowEntryIterator.rising (record { iterator = c.next.new.self; ahead = c.take.new.self }) w after (n.still w sees h.0);
      checked = λ w h. n.checked w h.0;
      taken = (n.taken.0, n.taken.1, ((rw none n.taken.2.0, after), n.taken.2.1));
      unbegun = λ waits. ok_waits _ _ (n.unbegun waits.0).0;
      cause = tt;
      smaller = λ some. (let less = n.smaller some in rw (none, after) (omega (arith, less)));
      no_larger = rw (none, after) (omega (arith, n.no_larger));
      order = n.order;
      within = n.within;
      reads = n.reads;
      counts = n.counts;
    }

pub returns-in-Err : goal.returns-in-Err
returns-in-Err g c =
    let n = c.in-Err.ensures in
    let after = c.take.ensures.after in
    record {
      rows = λ w sees h. tt;
      still = λ w sees h. none_sound g.I.RowEntryIterator.rest g.I.RowEntryIterator.sound g.I.RowEntryIterator.refuses g.I.RowEntryIterator.order g.met.I.RowEntryIterator.rising (record { iterator = c.next.new.self; ahead = c.take.new.self }) w after (n.still w sees h.0);
      checked = λ w h. tt;
      taken = tt;
      unbegun = λ waits. (let u = n.unbegun waits.0 in let gone = after ∙ sym waits.1 in (u.0, (λ i. record c.args.self.now { iterator = u.1 i; ahead = gone i }), u.2));
      cause = (n.cause.0, n.cause.1, (n.cause.2.0, (n.cause.2.1, after), n.cause.2.2));
      smaller = tt;
      no_larger = rw after (omega (arith, n.no_larger));
      order = n.order;
      within = n.within;
      reads = n.reads;
      counts = n.counts;
    }
