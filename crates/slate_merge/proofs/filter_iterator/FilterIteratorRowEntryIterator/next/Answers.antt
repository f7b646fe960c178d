use Rattle.std.proofs.Common.{◌∙◌, Some, None, refl, sym, ap, subst, arith}
use Rattle.slate_types.specs.Outside.{unblamed}
use Rattle.std.proofs.lemmas.Result.{err_from_is_err_and, IfOk-from_err}
use Rattle.slate_types.proofs.Reaching.{reads_none, reads_then}
use Rattle.slate_merge.proofs.Filters.{went_none, went_on, went_step, went_still, went_fails}
use Rattle.slate_merge.proofs.Waitings.{ok_waits}
use Rattle.slate_merge.proofs.Withins.{within_none, within_then}
use Rattle.slate_merge.proofs.filter_iterator.FilterIteratorRowEntryIterator.next.Goals as goal

pub loop-row-init : goal.loop-row-init
loop-row-init g c = record {
  went = went_none _ _ _ _ _ _ _;
  predicate = refl;
  bound = omega arith;
  order = refl;
  within = within_none g.I.RowEntryIterator.within _ _;
  reads = reads_none _;
  counts = refl;
  unbegun = λ waits. (refl, refl);
}

pub loop-row-preserved : goal.loop-row-preserved
loop-row-preserved g c =
    let i = c.loop-row.invariant in
    let n = rw c.in-Some.is at c.in_ok-row.ensures in
    record {
      went = went_on _ _ _ _ _ _ _ _ _ _ _ c.in-Some.row i.went (record { rows = n.rows; still = n.still; checked = n.checked; taken = n.taken })
          (ap (λ p. g.P.RowPredicate.keeps p c.in-Some.row) (sym i.predicate) ∙ sym c.keep.ensures ∙ c.if-keep.false);
      predicate = i.predicate;
      bound = omega (arith, i.bound, n.no_larger);
      order = n.order ∙ i.order;
      within = within_then g.I.RowEntryIterator.within _ _ _ _ _ _ i.within n.within;
      reads = reads_then _ _ _ i.reads n.reads;
      counts = n.counts ∙ i.counts;
      unbegun = λ waits. ok_waits _ _ (n.unbegun (subst (λ s. g.I.RowEntryIterator.unbegun s.iterator) (sym (i.unbegun waits).0) waits)).0;
    }

pub returns-in_err-row : goal.returns-in_err-row
returns-in_err-row g c =
    let i = c.loop-row.invariant in
    let n = c.in_err-row.ensures in
    let p = err_from_is_err_and c.from_residual.result c.from_residual.ensures.1 in
    record {
      rows = λ w sees h. IfOk-from_err c.from_residual.result _ c.from_residual.ensures.0;
      still = went_still _ _ _ _ _ _ _ _ _ _ _ _ i.went n.cause.1 n.still;
      checked = λ w h. IfOk-from_err c.from_residual.result _ c.from_residual.ensures.0;
      taken = IfOk-from_err c.from_residual.result _ c.from_residual.ensures.0;
      unbegun = λ waits. (let u = i.unbegun waits in let v = n.unbegun (subst (λ s. g.I.RowEntryIterator.unbegun s.iterator) (sym u.0) waits) in rw (p.1, p.2) (v.0, (λ j. record c.loop-row.self { iterator = v.1 j }) ∙ u.0, v.2 ∙ u.1));
      cause = rw (p.1, p.2) (went_fails _ _ _ _ g.I.RowEntryIterator.stays _ _ _ _ _ _ _ _ _ _ _ _ i.went i.reads.later n.cause i.predicate);
      smaller = IfOk-from_err c.from_residual.result _ c.from_residual.ensures.0;
      no_larger = omega (arith, i.bound, n.no_larger);
      order = n.order ∙ i.order;
      within = within_then g.I.RowEntryIterator.within _ _ _ _ _ _ i.within n.within;
      reads = reads_then _ _ _ i.reads n.reads;
      counts = rw (p.1, p.2) (n.counts ∙ ap (unblamed c.in_err-row.field-0.0) i.counts);
    }

pub returns-then-keep : goal.returns-then-keep
returns-then-keep g c =
    let i = c.loop-row.invariant in
    let n = rw c.in-Some.is at c.in_ok-row.ensures in
    let kept = ap (λ p. g.P.RowPredicate.keeps p c.in-Some.row) (sym i.predicate) ∙ sym c.keep.ensures ∙ c.if-keep.true in
    let step = went_step _ _ _ _ _ _ _ _ _ _ _ (Some c.in-Some.row) i.went (record { rows = n.rows; still = n.still; checked = n.checked; taken = n.taken }) kept in
    record {
      rows = λ w sees h. rw i.predicate (step.rows w sees h);
      still = step.still;
      checked = step.checked;
      taken = (step.taken.0, step.taken.1, ((step.taken.2.0, i.predicate), step.taken.2.1));
      unbegun = λ waits. ok_waits _ _ (n.unbegun (subst (λ s. g.I.RowEntryIterator.unbegun s.iterator) (sym (i.unbegun waits).0) waits)).0;
      cause = tt;
      smaller = λ some. omega (arith, i.bound, n.smaller refl);
      no_larger = omega (arith, i.bound, n.no_larger);
      order = n.order ∙ i.order;
      within = within_then g.I.RowEntryIterator.within _ _ _ _ _ _ i.within n.within;
      reads = reads_then _ _ _ i.reads n.reads;
      counts = n.counts ∙ i.counts;
    }

pub returns : goal.returns
returns g c =
    let i = c.loop-row.invariant in
    let n = rw c.in_default.is at c.in_ok-row.ensures in
    let step = went_step _ _ _ _ _ _ _ _ _ _ _ None i.went (record { rows = n.rows; still = n.still; checked = n.checked; taken = n.taken }) tt in
    record {
      rows = λ w sees h. rw i.predicate (step.rows w sees h);
      still = step.still;
      checked = step.checked;
      taken = (step.taken.0, step.taken.1, ((step.taken.2.0, i.predicate), step.taken.2.1));
      unbegun = λ waits. ok_waits _ _ (n.unbegun (subst (λ s. g.I.RowEntryIterator.unbegun s.iterator) (sym (i.unbegun waits).0) waits)).0;
      cause = tt;
      smaller = λ some. cc;
      no_larger = omega (arith, i.bound, n.no_larger);
      order = n.order ∙ i.order;
      within = within_then g.I.RowEntryIterator.within _ _ _ _ _ _ i.within n.within;
      reads = reads_then _ _ _ i.reads n.reads;
      counts = n.counts ∙ i.counts;
    }

pub loop-row-smaller : goal.loop-row-smaller
loop-row-smaller g c = c.in_ok-row.ensures.smaller (rw c.in-Some.is refl)
