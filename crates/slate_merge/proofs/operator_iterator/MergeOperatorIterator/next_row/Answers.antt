use Rattle.std.proofs.Common.{◌∙◌, ap, refl, arith, None}
use Rattle.slate_types.proofs.Calls.{reads_at_none}
use Rattle.slate_types.proofs.Reaching.{reads_none}
use Rattle.slate_merge.specs.Offers.{offers}
use Rattle.slate_merge.proofs.Operators.{again_refused, by_begun, folding_less, keeps_refused, kept_no_larger, kept_still, new_refused, some_going, sound_of, sound_unless, unless_no_larger, unless_smaller, unless_takes}
use Rattle.slate_merge.proofs.Waitings.{some_waits}
use Rattle.slate_merge.proofs.operator_iterator.MergeOperatorIterator.next_row.Goals as goal

pub returns-in-Some : goal.returns-in-Some
returns-in-Some g c = record {
  rows = λ w sees h. tt;
  still = λ w sees h. h;
  checked = λ w h. tt;
  taken = tt;
  unbegun = λ waits. some_waits c.in-Some.is waits.1;
  cause = again_refused g.I.RowEntryIterator.refuses (offers g.I.RowEntryIterator.begins g.I.RowEntryIterator.takes g.I.RowEntryIterator.seeks) g.I.RowEntryIterator.takes _ c.args.self.now None c.in-Some.refusal c.copy_of.result c.in-Some.is c.copy_of.ensures;
  smaller = tt;
  no_larger = omega arith;
  order = refl;
  within = λ paths h. (reads_at_none paths _, h);
  reads = reads_none _;
  counts = refl;
  own = λ w sees going h op. some_going c.args.self.now c.in-Some.refusal c.in-Some.is going;
  falls = λ w sees h. tt;
  operable = λ w sees h op. tt;
  sources = tt;
}

pub returns-then-not-self : goal.returns-then-not-self
returns-then-not-self g c = record {
  rows = λ w sees h. tt;
  still = λ w sees h. h;
  checked = λ w h. tt;
  taken = tt;
  unbegun = λ waits. (refl, refl, refl);
  cause = new_refused g.I.RowEntryIterator.refuses (offers g.I.RowEntryIterator.begins g.I.RowEntryIterator.takes g.I.RowEntryIterator.seeks) g.I.RowEntryIterator.takes _ c.args.self.now None c.in_default.is c.if-not-self.true;
  smaller = tt;
  no_larger = omega arith;
  order = refl;
  within = λ paths h. (reads_at_none paths _, h);
  reads = reads_none _;
  counts = refl;
  own = λ w sees going h op. by_begun c.if-not-self.true going.0;
  falls = λ w sees h. tt;
  operable = λ w sees h op. tt;
  sources = tt;
}

pub returns-in-Ok : goal.returns-in-Ok
returns-in-Ok g c =
    let it = c.args.self.now in
    let n = c.in-Ok.ensures in
    let s = n.step in
    let none = c.in_default.is in
    let y = record it { iterator = c.next.new.iterator; ahead = c.next.new.ahead } in
    record {
      rows = λ w sees h. unless_takes it.refusal _ _ c.in-Ok.answer none (s.rows w sees (sound_of it.refusal _ none h));
      still = λ w sees h. sound_unless it.refusal _ none (s.still w sees (sound_of it.refusal _ none h));
      checked = λ w h. s.checked w (sound_of it.refusal _ none h);
      taken = (s.taken.0, s.taken.1, (((c.if-not-self.false, none), (c.if-not-self.false, none), refl, s.taken.2.0), folding_less g.I.RowEntryIterator.refuses (offers g.I.RowEntryIterator.begins g.I.RowEntryIterator.takes g.I.RowEntryIterator.seeks) it y (g.E.Outside.reach c.args.env.now).meaning s.taken.0 none refl c.if-not-self.false s.taken.2.1));
      unbegun = λ waits. by_begun waits.0 c.if-not-self.false;
      cause = tt;
      smaller = λ some. unless_smaller it.refusal _ _ none (n.smaller some);
      no_larger = unless_no_larger it.refusal _ _ none n.no_larger;
      order = n.order;
      within = n.within;
      reads = n.reads;
      counts = n.counts;
      own = λ w sees going h op. tt;
      falls = λ w sees h. n.falls w sees (sound_of it.refusal _ none h);
      operable = λ w sees h op. n.operable w sees (sound_of it.refusal _ none h) op;
      sources = n.sources;
    }

pub returns-in-Err : goal.returns-in-Err
returns-in-Err g c =
    let it = c.args.self.now in
    let n = c.in-Err.ensures in
    let r = c.refuse.ensures in
    let refused = keeps_refused g.I.RowEntryIterator.refuses (offers g.I.RowEntryIterator.begins g.I.RowEntryIterator.takes g.I.RowEntryIterator.seeks) g.I.RowEntryIterator.takes (g.E.Outside.reach c.args.env.now) (g.E.Outside.reach c.next.new.env) it c.refuse.new.self c.next.new.iterator None c.in-Err.error c.in_default.is (λ new. refl) r.keeps r.iterator n.cause in
    record {
      rows = λ w sees h. tt;
      still = kept_still g.I.RowEntryIterator.refuses (offers g.I.RowEntryIterator.begins g.I.RowEntryIterator.takes g.I.RowEntryIterator.seeks) g.I.RowEntryIterator.takes g.I.RowEntryIterator.rest g.I.RowEntryIterator.sound g.I.RowEntryIterator.order g.met.I.RowEntryIterator.whole (g.E.Outside.reach c.args.env.now) (g.E.Outside.reach c.next.new.env) it c.refuse.new.self None c.in-Err.error r.keeps refused;
      checked = λ w h. tt;
      taken = tt;
      unbegun = λ waits. by_begun waits.0 c.if-not-self.false;
      cause = rw r.same refused;
      smaller = tt;
      no_larger = kept_no_larger c.in-Err.error c.refuse.new.self.refusal _ _ r.keeps;
      order = ap g.I.RowEntryIterator.order r.iterator ∙ n.order;
      within = rw r.iterator n.within;
      reads = n.reads;
      counts = rw r.same n.counts;
      own = λ w sees going h op. rw r.same (n.own w sees (sound_of it.refusal _ c.in_default.is h) op);
      falls = λ w sees h. tt;
      operable = λ w sees h op. tt;
      sources = tt;
    }
