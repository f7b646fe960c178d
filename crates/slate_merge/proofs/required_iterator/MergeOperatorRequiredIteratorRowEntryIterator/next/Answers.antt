use Rattle.std.proofs.Common.{◌∙◌, [], inl, inr, refl, sym, arith, ap}
use Rattle.slate_types.specs.declared.error.SlateDBError.TheVariants.{MergeOperatorMissing}
use Rattle.slate_types.specs.Outside.{unblamed}
use Rattle.slate_types.proofs.Calls.{call_none, reads_at_none}
use Rattle.slate_types.proofs.Reaching.{reads_none}
use Rattle.slate_merge.proofs.Requires.{or_no_more, or_but, or_why}
use Rattle.slate_merge.proofs.Waitings.{ok_waits, true_waits}
use Rattle.slate_merge.proofs.required_iterator.MergeOperatorRequiredIteratorRowEntryIterator.next.Goals as goal

pub returns-then-self : goal.returns-then-self
returns-then-self g c = record {
  rows = λ w sees h. tt;
  still = λ w sees h. h;
  checked = λ w h. tt;
  taken = tt;
  unbegun = λ waits. true_waits c.if-self.true waits.1;
  cause = ([], call_none _, (inr (inl refl), inl (refl, c.if-self.true, inl c.if-self.true), λ later at e h. inl h));
  smaller = tt;
  no_larger = omega arith;
  order = refl;
  within = λ paths h. (reads_at_none paths _, h);
  reads = reads_none _;
  counts = refl;
}

pub returns-then-not-is_operand : goal.returns-then-not-is_operand
returns-then-not-is_operand g c =
    let n = rw c.in-Ok-Some.field-0-is at c.in-Ok-Some.ensures in
    record {
      rows = n.rows;
      still = n.still;
      checked = n.checked;
      taken = (n.taken.0, n.taken.1, ((rw (sym c.is_operand.ensures ∙ c.if-not-is_operand.true) refl, n.taken.2.0, c.if-self.false, c.if-self.false), or_no_more (g.I.RowEntryIterator.refuses c.args.self.now.iterator (g.E.Outside.reach c.args.env.now).meaning) (g.I.RowEntryIterator.refuses c.next.new.self (g.E.Outside.reach c.args.env.now).meaning) n.taken.0 n.taken.2.1));
      unbegun = λ waits. ok_waits _ _ (n.unbegun waits.0).0;
      cause = tt;
      smaller = n.smaller;
      no_larger = n.no_larger;
      order = n.order;
      within = n.within;
      reads = n.reads;
      counts = n.counts;
    }

pub returns-else-not-is_operand : goal.returns-else-not-is_operand
returns-else-not-is_operand g c =
    let n = rw c.in-Ok-Some.field-0-is at c.in-Ok-Some.ensures in
    record {
      rows = λ w sees h. tt;
      still = n.still;
      checked = λ w h. tt;
      taken = tt;
      unbegun = λ waits. ok_waits _ _ (n.unbegun waits.0).0;
      cause = (n.taken.0, n.taken.1, (inr (inl refl), inl (refl, refl, inr (c.in-Ok-Some.row, sym c.is_operand.ensures ∙ c.if-not-is_operand.false, n.taken.2.0)), λ later at e h. inl (or_no_more (g.I.RowEntryIterator.refuses c.args.self.now.iterator (g.E.Outside.reach c.args.env.now).meaning) (g.I.RowEntryIterator.refuses c.next.new.self (g.E.Outside.reach c.args.env.now).meaning) n.taken.0 n.taken.2.1 later at e h)));
      smaller = tt;
      no_larger = n.no_larger;
      order = n.order;
      within = n.within;
      reads = n.reads;
      counts = ap (unblamed MergeOperatorMissing) n.counts;
    }

pub returns-in-Ok-None : goal.returns-in-Ok-None
returns-in-Ok-None g c =
    let n = rw c.in-Ok-None.field-0-is at c.in-Ok-None.ensures in
    record {
      rows = n.rows;
      still = n.still;
      checked = n.checked;
      taken = (n.taken.0, n.taken.1, ((tt, n.taken.2.0, c.if-self.false, c.if-self.false), or_no_more (g.I.RowEntryIterator.refuses c.args.self.now.iterator (g.E.Outside.reach c.args.env.now).meaning) (g.I.RowEntryIterator.refuses c.next.new.self (g.E.Outside.reach c.args.env.now).meaning) n.taken.0 n.taken.2.1));
      unbegun = λ waits. ok_waits _ _ (n.unbegun waits.0).0;
      cause = tt;
      smaller = λ some. cc;
      no_larger = n.no_larger;
      order = n.order;
      within = n.within;
      reads = n.reads;
      counts = n.counts;
    }

pub returns-in-Err : goal.returns-in-Err
returns-in-Err g c =
    let n = c.in-Err.ensures in
    record {
      rows = λ w sees h. tt;
      still = n.still;
      checked = λ w h. tt;
      taken = tt;
      unbegun = λ waits. (let u = n.unbegun waits.0 in (u.0, (λ i. record c.args.self.now { iterator = u.1 i }), u.2));
      cause = (n.cause.0, n.cause.1, (or_why _ _ _ n.cause.2.0, inr (c.if-self.false, n.cause.2.1), or_but _ (g.I.RowEntryIterator.refuses c.args.self.now.iterator (g.E.Outside.reach c.args.env.now).meaning) (g.I.RowEntryIterator.refuses c.next.new.self (g.E.Outside.reach c.args.env.now).meaning) n.cause.0 n.cause.2.2));
      smaller = tt;
      no_larger = n.no_larger;
      order = n.order;
      within = n.within;
      reads = n.reads;
      counts = n.counts;
    }
