use Rattle.std.proofs.Common.{◌≡◌, ◌∙◌, true, List, ap, refl, arith, None, subst, sym}
use Rattle.slate_types.specs.declared.iter.IterationOrder.{IterationOrder}
use Rattle.slate_types.specs.declared.types.RowEntry.{RowEntry}
use Rattle.slate_types.specs.Fold.{operator_at}
use Rattle.slate_types.specs.Iteration.{IsInOrder}
use Rattle.slate_types.proofs.Calls.{reads_at_none}
use Rattle.slate_types.proofs.Reaching.{reads_none}
use Rattle.slate_merge.specs.Folding.{NoneRises, folded}
use Rattle.slate_merge.specs.Folds.{NoneOpen}
use Rattle.slate_merge.specs.Peeking.{with_ahead}
use Rattle.slate_merge.specs.Offers.{offers}
use Rattle.slate_merge.proofs.Offerings.{offers_begun}
use Rattle.slate_merge.proofs.Operators.{again_refused, folding_ready, kept_no_larger, kept_still, sound_of, sound_unless, source_less, source_refused, unless_no_larger, unless_rows}
use Rattle.slate_merge.proofs.operator_iterator.MergeOperatorIteratorRowEntryIterator.init.Goals as goal

pub returns-in-Some : goal.returns-in-Some
returns-in-Some g c = record {
  rows = λ w sees h. tt;
  still = λ w sees h. h;
  checked = λ w h. tt;
  ready = tt;
  begun = tt;
  cause = again_refused g.I.RowEntryIterator.refuses (offers g.I.RowEntryIterator.begins g.I.RowEntryIterator.takes g.I.RowEntryIterator.seeks) g.I.RowEntryIterator.takes _ c.args.self.now None c.in-Some.refusal c.copy_of.result c.in-Some.is c.copy_of.ensures;
  no_larger = omega arith;
  order = refl;
  within = λ paths h. (reads_at_none paths _, h);
  reads = reads_none _;
  counts = refl;
  operable = λ w sees h op. tt;
  sources = tt;
}

pub returns-in-Ok : goal.returns-in-Ok
returns-in-Ok g c =
    let it = c.args.self.now in
    let n = c.in-Ok.ensures in
    let none = c.in_default.is in
    let y = record it { iterator = c.init.new.self; begun = true } in
    record {
      rows = λ w sees h. unless_rows it.refusal _ _ none (ap (λ (l : List RowEntry). folded (operator_at w.meaning.combine) it.folding.merge_different_expire_ts it.folding.snapshot_barrier_seq (with_ahead it.ahead l)) (n.rows w sees (sound_of it.refusal _ none h).0));
      still = λ w sees h. (let k = sound_of it.refusal _ none h in sound_unless it.refusal _ none (n.still w sees k.0, subst (λ (o : IterationOrder). IsInOrder o (with_ahead it.ahead (g.I.RowEntryIterator.rest c.init.new.self w))) (sym n.order) (subst (λ (l : List RowEntry). IsInOrder (g.I.RowEntryIterator.order it.iterator) (with_ahead it.ahead l)) (sym (n.rows w sees k.0)) k.1)));
      checked = λ w h. n.checked w (sound_of it.refusal _ none h).0;
      ready = folding_ready g.I.RowEntryIterator.refuses (offers g.I.RowEntryIterator.begins g.I.RowEntryIterator.takes g.I.RowEntryIterator.seeks) y (g.E.Outside.reach c.args.env.now).meaning none refl n.ready;
      begun = (
        n.begun.0,
        n.begun.1,
        (
          (none, (refl, none), refl, refl, n.begun.2.0),
          source_less g.I.RowEntryIterator.refuses (offers g.I.RowEntryIterator.begins g.I.RowEntryIterator.takes g.I.RowEntryIterator.seeks) it y (g.E.Outside.reach c.args.env.now).meaning n.begun.0 none refl refl n.begun.2.1
              (λ later o k. offers_begun g.I.RowEntryIterator.begins g.I.RowEntryIterator.takes g.I.RowEntryIterator.seeks (g.E.Outside.reach c.args.env.now).meaning it.iterator c.init.new.self n.begun.0 n.begun.2.0 it.ahead later o k),
        ),
      );
      cause = tt;
      no_larger = unless_no_larger it.refusal _ _ none (omega (arith, n.no_larger));
      order = n.order;
      within = n.within;
      reads = n.reads;
      counts = n.counts;
      operable = λ w sees h op. subst (λ (l : List RowEntry). (w.meaning.combine ≡ None → NoneOpen it.folding.snapshot_barrier_seq (with_ahead it.ahead l)) × NoneRises it.folding.merge_different_expire_ts it.folding.snapshot_barrier_seq (with_ahead it.ahead l)) (sym (n.rows w sees (sound_of it.refusal _ none h).0)) op;
      sources = (n.begun.0, n.begun.1, n.begun.2.1);
    }

pub returns-in-Err : goal.returns-in-Err
returns-in-Err g c =
    let it = c.args.self.now in
    let n = c.in-Err.ensures in
    let r = c.refuse.ensures in
    let none = c.in_default.is in
    let refused = source_refused g.I.RowEntryIterator.refuses (offers g.I.RowEntryIterator.begins g.I.RowEntryIterator.takes g.I.RowEntryIterator.seeks) g.I.RowEntryIterator.takes (g.E.Outside.reach c.args.env.now) (g.E.Outside.reach c.init.new.env) it c.refuse.new.self None c.in-Err.error none (λ new. refl) r.keeps (n.cause.0, n.cause.1, n.cause.2.0) in
    record {
      rows = λ w sees h. tt;
      still = kept_still g.I.RowEntryIterator.refuses (offers g.I.RowEntryIterator.begins g.I.RowEntryIterator.takes g.I.RowEntryIterator.seeks) g.I.RowEntryIterator.takes g.I.RowEntryIterator.rest g.I.RowEntryIterator.sound g.I.RowEntryIterator.order g.met.I.RowEntryIterator.whole (g.E.Outside.reach c.args.env.now) (g.E.Outside.reach c.init.new.env) it c.refuse.new.self None c.in-Err.error r.keeps refused;
      checked = λ w h. tt;
      ready = tt;
      begun = tt;
      cause = rw r.same refused;
      no_larger = kept_no_larger c.in-Err.error c.refuse.new.self.refusal _ _ r.keeps;
      order = ap g.I.RowEntryIterator.order r.iterator ∙ n.order;
      within = rw r.iterator n.within;
      reads = n.reads;
      counts = rw r.same n.counts;
      operable = λ w sees h op. tt;
      sources = tt;
    }
