use Rattle.std.proofs.Common.{◌≡◌, ◌∙◌, List, [], ap, inl, inr, refl, sym, subst, arith, Option, None, Some}
use Rattle.slate_types.specs.declared.types.RowEntry.{RowEntry}
use Rattle.slate_types.specs.Fold.{operator_at}
use Rattle.slate_types.specs.Iteration.{IsInOrder}
use Rattle.slate_types.proofs.Calls.{call_none, checks_none, reads_at_none}
use Rattle.slate_types.proofs.Reaching.{reads_none}
use Rattle.slate_merge.specs.Folding.{NoneRises, folded}
use Rattle.slate_merge.specs.FoldedLaws.{folded_dropped}
use Rattle.slate_merge.specs.Folds.{NoneOpen}
use Rattle.slate_merge.specs.Peeking.{with_ahead}
use Rattle.slate_merge.proofs.Peeks.{kept_rows, sought_rows}
use Rattle.slate_merge.proofs.Operables.{none_open_dropped}
use Rattle.slate_merge.proofs.Risings.{none_rises_dropped}
use Rattle.slate_merge.specs.Offers.{offers}
use Rattle.slate_merge.proofs.Offerings.{offers_gone}
use Rattle.slate_merge.proofs.Operators.{again_refused, by_begun, kept_no_larger, kept_still, new_refused, sound_of, sound_unless, source_less, source_refused, unless_drops, unless_no_larger}
use Rattle.slate_merge.proofs.operator_iterator.MergeOperatorIteratorRowEntryIterator.seek.Goals as goal

pub returns-in-Some : goal.returns-in-Some
returns-in-Some g c = record {
  rows = λ w sees h. tt;
  still = λ w sees h. h;
  checked = λ w h. tt;
  sought = tt;
  cause = again_refused g.I.RowEntryIterator.refuses (offers g.I.RowEntryIterator.begins g.I.RowEntryIterator.takes g.I.RowEntryIterator.seeks) g.I.RowEntryIterator.takes _ c.args.self.now (Some c.args.key.now) c.in-Some.refusal c.copy_of.result c.in-Some.is c.copy_of.ensures;
  no_larger = omega arith;
  order = refl;
  within = λ paths h. (reads_at_none paths _, h);
  reads = reads_none _;
  counts = refl;
  operable = λ w sees h op. tt;
  sources = tt;
}

pub returns-then-not-self : goal.returns-then-not-self
returns-then-not-self g c = record {
  rows = λ w sees h. tt;
  still = λ w sees h. h;
  checked = λ w h. tt;
  sought = tt;
  cause = new_refused g.I.RowEntryIterator.refuses (offers g.I.RowEntryIterator.begins g.I.RowEntryIterator.takes g.I.RowEntryIterator.seeks) g.I.RowEntryIterator.takes _ c.args.self.now (Some c.args.key.now) c.in_default.is c.if-not-self.true;
  no_larger = omega arith;
  order = refl;
  within = λ paths h. (reads_at_none paths _, h);
  reads = reads_none _;
  counts = refl;
  operable = λ w sees h op. tt;
  sources = tt;
}

pub returns-then-is_ahead_kept : goal.returns-then-is_ahead_kept
returns-then-is_ahead_kept g c =
    let it = c.args.self.now in
    let none = c.in_default.is in
    let order = g.I.RowEntryIterator.order it.iterator in
    let kept = sym (rw c.iteration_order.ensures at c.is_ahead_kept.ensures) ∙ c.if-is_ahead_kept.true in
    record {
      rows = λ w sees h. (let fold = folded (operator_at w.meaning.combine) it.folding.merge_different_expire_ts it.folding.snapshot_barrier_seq in let rows = with_ahead it.ahead (g.I.RowEntryIterator.rest it.iterator w) in
          unless_drops order c.args.key.now it.refusal (fold rows) (fold rows) none (ap fold (kept_rows order c.args.key.now it.ahead (g.I.RowEntryIterator.rest it.iterator w) kept) ∙ folded_dropped order c.args.key.now (operator_at w.meaning.combine) it.folding.merge_different_expire_ts it.folding.snapshot_barrier_seq rows));
      still = λ w sees h. h;
      checked = λ w h. checks_none w _;
      sought = ([], call_none _, (((c.if-not-self.false, none), (c.if-not-self.false, none), refl, inl (refl, refl)), λ later at e h. h));
      cause = tt;
      no_larger = omega arith;
      order = refl;
      within = λ paths h. (reads_at_none paths _, h);
      reads = reads_none _;
      counts = refl;
      operable = λ w sees h op. op;
      sources = ([], call_none _, λ later at e h. h);
    }

pub returns-in-Ok : goal.returns-in-Ok
returns-in-Ok g c =
    let it = c.args.self.now in
    let n = c.in-Ok.ensures in
    let none = c.in_default.is in
    let after = c.take.ensures.after in
    let order = g.I.RowEntryIterator.order it.iterator in
    let gone = sym (rw c.iteration_order.ensures at c.is_ahead_kept.ensures) ∙ c.if-is_ahead_kept.false in
    let y = record it { iterator = c.seek.new.self; ahead = c.take.new.self } in
    record {
      rows = λ w sees h. (let fold = folded (operator_at w.meaning.combine) it.folding.merge_different_expire_ts it.folding.snapshot_barrier_seq in let rows = with_ahead it.ahead (g.I.RowEntryIterator.rest it.iterator w) in
          unless_drops order c.args.key.now it.refusal (fold rows) (fold (with_ahead c.take.new.self (g.I.RowEntryIterator.rest c.seek.new.self w))) none
          (ap (λ (o : Option RowEntry). fold (with_ahead o (g.I.RowEntryIterator.rest c.seek.new.self w))) after ∙ ap fold (n.rows w sees (sound_of it.refusal _ none h).0 ∙ sought_rows order c.args.key.now it.ahead (g.I.RowEntryIterator.rest it.iterator w) gone)
          ∙ folded_dropped order c.args.key.now (operator_at w.meaning.combine) it.folding.merge_different_expire_ts it.folding.snapshot_barrier_seq rows));
      still = λ w sees h. (let s = n.still w sees (sound_of it.refusal _ none h).0 in
          sound_unless it.refusal _ none (s, subst (λ (o : Option RowEntry). IsInOrder (g.I.RowEntryIterator.order c.seek.new.self) (with_ahead o (g.I.RowEntryIterator.rest c.seek.new.self w))) (sym after) (g.met.I.RowEntryIterator.rising c.seek.new.self w s)));
      checked = λ w h. n.checked w (sound_of it.refusal _ none h).0;
      sought = (
        n.sought.0,
        n.sought.1,
        (
          ((c.if-not-self.false, none), (c.if-not-self.false, none), refl, inr (after, n.sought.2.0)),
          source_less g.I.RowEntryIterator.refuses (offers g.I.RowEntryIterator.begins g.I.RowEntryIterator.takes g.I.RowEntryIterator.seeks) it y (g.E.Outside.reach c.args.env.now).meaning n.sought.0 none refl c.if-not-self.false n.sought.2.1
              (λ later o k. offers_gone g.I.RowEntryIterator.begins g.I.RowEntryIterator.takes g.I.RowEntryIterator.seeks (g.E.Outside.reach c.args.env.now).meaning it.iterator c.seek.new.self n.sought.0 (inr (inr (c.args.key.now, n.sought.2.0))) it.ahead c.take.new.self after later o k),
        ),
      );
      cause = tt;
      no_larger = unless_no_larger it.refusal _ _ none (rw after (omega (arith, n.no_larger)));
      order = n.order;
      within = n.within;
      reads = n.reads;
      counts = n.counts;
      operable = λ w sees h op. (let different = it.folding.merge_different_expire_ts in let barrier = it.folding.snapshot_barrier_seq in
          subst (λ (o : Option RowEntry). (w.meaning.combine ≡ None → NoneOpen barrier (with_ahead o (g.I.RowEntryIterator.rest c.seek.new.self w))) × NoneRises different barrier (with_ahead o (g.I.RowEntryIterator.rest c.seek.new.self w))) (sym after)
          (subst (λ (l : List RowEntry). (w.meaning.combine ≡ None → NoneOpen barrier l) × NoneRises different barrier l) (sym (n.rows w sees (sound_of it.refusal _ none h).0 ∙ sought_rows order c.args.key.now it.ahead (g.I.RowEntryIterator.rest it.iterator w) gone))
          (λ plain. none_open_dropped barrier order c.args.key.now (with_ahead it.ahead (g.I.RowEntryIterator.rest it.iterator w)) (op.0 plain), none_rises_dropped different barrier order c.args.key.now (with_ahead it.ahead (g.I.RowEntryIterator.rest it.iterator w)) op.1)));
      sources = (n.sought.0, n.sought.1, n.sought.2.1);
    }

pub returns-in-Err : goal.returns-in-Err
returns-in-Err g c =
    let it = c.args.self.now in
    let n = c.in-Err.ensures in
    let r = c.refuse.ensures in
    let refused = source_refused g.I.RowEntryIterator.refuses (offers g.I.RowEntryIterator.begins g.I.RowEntryIterator.takes g.I.RowEntryIterator.seeks) g.I.RowEntryIterator.takes (g.E.Outside.reach c.args.env.now) (g.E.Outside.reach c.seek.new.env) it c.refuse.new.self (Some c.args.key.now) c.in-Err.error c.in_default.is (λ new. by_begun new c.if-not-self.false) r.keeps (n.cause.0, n.cause.1, n.cause.2.0) in
    record {
      rows = λ w sees h. tt;
      still = kept_still g.I.RowEntryIterator.refuses (offers g.I.RowEntryIterator.begins g.I.RowEntryIterator.takes g.I.RowEntryIterator.seeks) g.I.RowEntryIterator.takes g.I.RowEntryIterator.rest g.I.RowEntryIterator.sound g.I.RowEntryIterator.order g.met.I.RowEntryIterator.whole (g.E.Outside.reach c.args.env.now) (g.E.Outside.reach c.seek.new.env) it c.refuse.new.self (Some c.args.key.now) c.in-Err.error r.keeps refused;
      checked = λ w h. tt;
      sought = tt;
      cause = rw r.same refused;
      no_larger = kept_no_larger c.in-Err.error c.refuse.new.self.refusal _ _ r.keeps;
      order = ap g.I.RowEntryIterator.order r.iterator ∙ n.order;
      within = rw r.iterator n.within;
      reads = n.reads;
      counts = rw r.same n.counts;
      operable = λ w sees h op. tt;
      sources = tt;
    }
