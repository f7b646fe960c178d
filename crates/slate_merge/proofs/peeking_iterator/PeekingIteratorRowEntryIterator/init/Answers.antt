use Rattle.std.proofs.Common.{List, refl, ap, arith}
use Rattle.slate_types.specs.declared.types.RowEntry.{RowEntry}
use Rattle.slate_merge.specs.Peeking.{with_ahead}
use Rattle.slate_merge.proofs.Peeks.{none_sound, same_sound}
use Rattle.slate_merge.proofs.peeking_iterator.PeekingIteratorRowEntryIterator.init.Goals as goal

pub returns-in-Ok : goal.returns-in-Ok
returns-in-Ok g c =
    let n = c.in-Ok.ensures in
    record {
      rows = λ w sees h. ap (λ (l : List RowEntry). with_ahead c.args.self.now.ahead l) (n.rows w sees h.0);
      still = λ w sees h. same_sound g.I.RowEntryIterator.rest g.I.RowEntryIterator.sound g.I.RowEntryIterator.refuses g.I.RowEntryIterator.order c.args.self.now c.init.new.self w n.order (n.rows w sees h.0) (n.still w sees h.0) h;
      checked = λ w h. n.checked w h.0;
      ready = n.ready;
      begun = (n.begun.0, n.begun.1, ((n.begun.2.0, refl), n.begun.2.1));
      cause = tt;
      no_larger = omega (arith, n.no_larger);
      order = n.order;
      within = n.within;
      reads = n.reads;
      counts = n.counts;
    }

pub returns-in-Err : goal.returns-in-Err
returns-in-Err g c =
    let n = c.in-Err.ensures in
    let after = c.take.ensures.after in
    record {
      rows = λ w sees h. tt;
      still = λ w sees h. none_sound g.I.RowEntryIterator.rest g.I.RowEntryIterator.sound g.I.RowEntryIterator.refuses g.I.RowEntryIterator.order g.met.I.RowEntryIterator.rising (record { iterator = c.init.new.self; ahead = c.take.new.self }) w after (n.still w sees h.0);
      checked = λ w h. tt;
      ready = tt;
      begun = tt;
      cause = (n.cause.0, n.cause.1, (n.cause.2.0, (n.cause.2.1, after), n.cause.2.2));
      no_larger = rw after (omega (arith, n.no_larger));
      order = n.order;
      within = n.within;
      reads = n.reads;
      counts = n.counts;
    }
