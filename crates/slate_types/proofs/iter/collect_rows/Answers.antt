use Rattle.std.proofs.Common.{◌≡◌, ◌∙◌, [], ap, sym, subst, Some, None, inl, refl}
use Rattle.std.proofs.lemmas.Result.{err_from_is_err_and, IfOk-from_err}
use Rattle.slate_types.specs.declared.error.SlateDBError.TheVariants.{OutOfMemory}
use Rattle.slate_types.specs.Outside.{unblamed}
use Rattle.slate_types.proofs.Reaching.{reads_then}
use Rattle.slate_types.proofs.Walked.{Ended, Walked, walked_none, walked_on, walked_ended, walked_fails}
use Rattle.slate_types.proofs.iter.collect_rows.Goals as goal

pub loop-taken-init : goal.loop-taken-init
loop-taken-init g c = rw c.new-taken.ensures.items (record { walked = walked_none _ _ _ _ _ _; counts = refl })

pub loop-taken-preserved : goal.loop-taken-preserved
loop-taken-preserved g c =
    let n = rw c.in-Some.is at c.in_ok-row.ensures in
    rw c.in_ok-push.ensures.items (record {
      walked = walked_on _ _ _ _ _ _ _ _ _ _ _ c.in-Some.row c.loop-taken.invariant.walked (record { rows = n.rows; still = n.still; checked = n.checked; taken = n.taken }) n.reads;
      counts = n.counts ∙ c.loop-taken.invariant.counts;
    })

pub loop-taken-smaller : goal.loop-taken-smaller
loop-taken-smaller g c = c.in_ok-row.ensures.smaller (rw c.in-Some.is refl)

pub returns-in_err-row : goal.returns-in_err-row
returns-in_err-row g c =
    let n = c.in_err-row.ensures in
    let p = err_from_is_err_and c.from_residual.result c.from_residual.ensures.1 in
    record {
      rows = λ w sees h. IfOk-from_err c.from_residual.result _ c.from_residual.ensures.0;
      takes = IfOk-from_err c.from_residual.result _ c.from_residual.ensures.0;
      spent = λ w sees h. IfOk-from_err c.from_residual.result _ c.from_residual.ensures.0;
      checked = λ w h. IfOk-from_err c.from_residual.result _ c.from_residual.ensures.0;
      cause = rw (p.1, p.2) (walked_fails _ _ _ _ g.I.RowEntryIterator.stays _ _ _ _ _ _ _ _ _ c.loop-taken.invariant.walked n.cause);
      reads = reads_then _ _ _ c.loop-taken.invariant.walked.reads n.reads;
      counts = rw (p.1, p.2) (n.counts ∙ ap (unblamed c.in_err-row.field-0.0) c.loop-taken.invariant.counts);
    }

pub returns-in_err-push : goal.returns-in_err-push
returns-in_err-push g c =
    let n = rw c.in-Some.is at c.in_ok-row.ensures in
    let went = walked_on _ _ _ _ _ _ _ _ _ _ _ c.in-Some.row c.loop-taken.invariant.walked (record { rows = n.rows; still = n.still; checked = n.checked; taken = n.taken }) n.reads in
    let p = err_from_is_err_and c.from_residual-in_err-push.result c.from_residual-in_err-push.ensures.1 in
    record {
      rows = λ w sees h. IfOk-from_err c.from_residual-in_err-push.result _ c.from_residual-in_err-push.ensures.0;
      takes = IfOk-from_err c.from_residual-in_err-push.result _ c.from_residual-in_err-push.ensures.0;
      spent = λ w sees h. IfOk-from_err c.from_residual-in_err-push.result _ c.from_residual-in_err-push.ensures.0;
      checked = λ w h. IfOk-from_err c.from_residual-in_err-push.result _ c.from_residual-in_err-push.ensures.0;
      cause = rw (p.1, p.2) (went.made.0, went.made.1, inl tt);
      reads = went.reads;
      counts = rw (p.1, p.2) (ap (unblamed OutOfMemory) (n.counts ∙ c.loop-taken.invariant.counts));
    }

pub returns : goal.returns
returns g c =
    let n = rw c.in_default.is at c.in_ok-row.ensures in
    let ended = walked_ended _ _ _ _ _ _ _ _ _ _ _ c.loop-taken.invariant.walked (record { rows = n.rows; still = n.still; checked = n.checked; taken = n.taken }) n.reads in
    record {
      rows = ended.rows;
      takes = ended.takes_all;
      spent = ended.spent;
      checked = ended.checked;
      cause = tt;
      reads = ended.reads;
      counts = n.counts ∙ c.loop-taken.invariant.counts;
    }
