use Rattle.std.proofs.Common.{◌≡◌, ◌∙◌, ℕ, [], Bool, List, Some, inl, inr, ap, sym, subst, refl, append-nil, arith}
use Rattle.std.proofs.lemmas.Result.{err_from_is_err_and, IfOk-from_err}
use Rattle.slate_types.specs.Outside.{unblamed}
use Rattle.slate_types.proofs.Reaching.{reads_then}
use Rattle.slate_types.proofs.Walked.{walked_none, walked_on, walked_ended, walked_fails}
use Rattle.slate_tables.specs.Writing.{IsUnwritten, WritesRows, form_text}
use Rattle.slate_tables.proofs.Undamaged.{undamaged}
use Rattle.slate_tables.proofs.Writings.{all_written, one_more, unwritten_undamaged}
use Rattle.slate_tables.proofs.export.write_rows.Goals as goal

pub loop-row-init : goal.loop-row-init
loop-row-init g c = record {
  so_far = record {
    taken = [];
    walked = walked_none _ _ _ _ _ _;
    passed = tt;
    counts = c.none-written.ensures;
    wrote = λ front is. is ∙ ap Some (sym (append-nil front));
  };
  has = c.has_operator-has_operator.ensures;
  counts = refl;
  still = refl;
}

pub loop-row-preserved : goal.loop-row-preserved
loop-row-preserved g c =
    let it = g.I.RowEntryIterator in
    let reach = g.E.Outside.reach in
    let content = g.W.Sink.content in
    let i = c.loop-row.invariant in
    let n = rw c.in-Some.is at c.in_ok-row.ensures in
    let went = walked_on it.rest it.sound it.refuses it.takes (reach c.args.env.now) (reach c.loop-row.env) (reach c.next.new.env) c.args.rows.now c.loop-row.rows c.next.new.self i.so_far.taken c.in-Some.row i.so_far.walked (record { rows = n.rows; still = n.still; checked = n.checked; taken = n.taken }) n.reads in
    rw c.with-written.ensures (record {
      so_far = one_more it.rest it.sound it.refuses it.takes c.args.form c.has_operator-has_operator.result (reach c.args.env.now) (reach c.loop-row.env) (reach c.next.new.env) c.args.rows.now c.loop-row.rows c.next.new.self c.loop-row.written
          (content c.args.sink.now) (content c.loop-row.sink) (content c.write_row.new.sink) c.in-Some.row (form_text c.args.form c.in-Some.row) i.so_far went c.write_row.ensures.fits c.in-Ok.ensures.passes refl (λ front at. c.in-Ok.ensures.text front at);
      has = i.has;
      counts = n.counts ∙ i.counts;
      still = c.in-Ok.ensures.still ∙ i.still;
    })

pub loop-row-smaller : goal.loop-row-smaller
loop-row-smaller g c = c.in_ok-row.ensures.smaller (rw c.in-Some.is refl)

pub returns-in_err-row : goal.returns-in_err-row
returns-in_err-row g c =
    let it = g.I.RowEntryIterator in
    let i = c.loop-row.invariant in
    let n = c.in_err-row.ensures in
    let p = err_from_is_err_and c.from_residual.result c.from_residual.ensures.1 in
    let fails = walked_fails it.rest it.sound it.refuses it.takes it.stays _ _ _ _ _ _ _ _ _ i.so_far.walked n.cause in
    record {
      written = λ w before sees h at. IfOk-from_err c.from_residual.result _ c.from_residual.ensures.0;
      checked = λ w h. IfOk-from_err c.from_residual.result _ c.from_residual.ensures.0;
      undamaged = λ w sees h. rw (p.1, p.2) (undamaged it.sound it.refuses g.met.I.RowEntryIterator.whole c.args.rows.now w _ _ c.in_err-row.field-0.0 sees h fails);
      cause = rw (p.1, p.2) (inr fails);
      reads = reads_then _ _ _ i.so_far.walked.reads n.reads;
      counts = rw (p.1, p.2) (n.counts ∙ ap (unblamed c.in_err-row.field-0.0) i.counts);
      later = omega (arith, i.still);
      still = IfOk-from_err c.from_residual.result _ c.from_residual.ensures.0;
    }

pub returns-in-Err : goal.returns-in-Err
returns-in-Err g c =
    let it = g.I.RowEntryIterator in
    let reach = g.E.Outside.reach in
    let k = g.W.Sink.faults in
    let i = c.loop-row.invariant in
    let n = rw c.in-Some.is at c.in_ok-row.ensures in
    let went = walked_on it.rest it.sound it.refuses it.takes _ _ _ _ _ _ _ c.in-Some.row i.so_far.walked (record { rows = n.rows; still = n.still; checked = n.checked; taken = n.taken }) n.reads in
    record {
      written = λ w before sees h at. tt;
      checked = λ w h. tt;
      undamaged = λ w sees h. unwritten_undamaged c.args.form (k c.loop-row.sink) (k c.write_row.new.sink) c.in-Err.error c.in-Err.ensures.cause;
      cause = inl (subst (λ (n : ℕ). IsUnwritten c.args.form n (k c.write_row.new.sink) c.in-Err.error) i.still c.in-Err.ensures.cause);
      reads = went.reads;
      counts = ap (unblamed c.in-Err.error) (n.counts ∙ i.counts);
      later = omega (arith, i.still, c.write_row.ensures.later);
      still = tt;
    }

pub returns : goal.returns
returns g c =
    let it = g.I.RowEntryIterator in
    let reach = g.E.Outside.reach in
    let content = g.W.Sink.content in
    let i = c.loop-row.invariant in
    let n = rw c.in_default.is at c.in_ok-row.ensures in
    let ended = walked_ended it.rest it.sound it.refuses it.takes _ _ _ _ _ _ _ i.so_far.walked (record { rows = n.rows; still = n.still; checked = n.checked; taken = n.taken }) n.reads in
    record {
      written = λ w before sees h at. subst (λ (b : Bool). WritesRows c.args.form b (it.rest c.args.rows.now w) before (content c.loop-row.sink) c.loop-row.written) i.has
          (all_written it.rest it.sound it.refuses it.takes c.args.form c.has_operator-has_operator.result (reach c.args.env.now) (reach c.loop-row.env) c.args.rows.now c.loop-row.rows c.loop-row.written before (content c.args.sink.now) (content c.loop-row.sink) (it.rest c.args.rows.now w) i.so_far at (ended.rows w sees h));
      checked = ended.checked;
      undamaged = λ w sees h. tt;
      cause = tt;
      reads = ended.reads;
      counts = n.counts ∙ i.counts;
      later = omega (arith, i.still);
      still = i.still;
    }
