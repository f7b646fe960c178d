use Rattle.std.proofs.Common.{◌∙◌, [], None, Some, refl, sym, ap}
use Rattle.std.proofs.lemmas.Result.{err_from_is_err_and, IfOk-from_err}
use Rattle.slate_types.specs.declared.types.KeyValue.{KeyValue}
use Rattle.slate_types.specs.Rows.{key_value}
use Rattle.slate_types.specs.Steps.{Step}
use Rattle.slate_types.proofs.Calls.{call_none, reads_at_none, reads_at_then}
use Rattle.slate_types.proofs.Reaching.{reads_none, reads_then}
use Rattle.slate_merge.specs.Offers.{offers}
use Rattle.slate_merge.specs.OperatorIterators.{IsOperable, Takes, refuses_folding, rest_folding, sound_folding}
use Rattle.slate_db.specs.Values.{has_value}
use Rattle.slate_db.proofs.Foldings.{whole_going}
use Rattle.slate_db.proofs.HandedRows.{Offered, handed, offered_both, taken_less}
use Rattle.slate_db.proofs.Passing.{first, last, no_value, passed_fails, passed_none, passed_on, passed_undamaged, some_value, step_checked, step_keeps, step_later, step_none, step_some, step_still}
use Rattle.slate_types.specs.Outside.{unblamed}
use Rattle.slate_db.proofs.values.next_value.Goals as goal

pub loop-row-init : goal.loop-row-init
loop-row-init g c = record {
  passed = passed_none _ _ _ _ _ _;
  sources = passed_none _ _ _ _ _ _;
  offered = ([], call_none _, λ later o k. k);
  goes = λ h. h;
  went = λ h. h;
  folding = refl;
  order = refl;
  within = λ paths h. (reads_at_none paths _, h);
  reads = reads_none _;
  counts = refl;
}

pub loop-row-preserved : goal.loop-row-preserved
loop-row-preserved g c =
    let i = c.loop-row.invariant in
    let n = rw c.in-Some.is at c.in_ok-row.ensures in
    let it = g.I.RowEntryIterator in
    let none = no_value (has_value c.in-Some.row) (key_value c.in-Some.row) (sym c.in_default-value_of.is ∙ c.value_of.ensures) in
    let t = n.taken.2.0 in
    record {
      passed = passed_on _ _ _ _ (λ x m reads answer y. Takes it.takes x m reads answer y) _ _ _ _ _ _ i.passed c.in-Some.row (record { rows = n.rows; still = n.still; checked = n.checked; taken = n.taken }) n.operable none;
      sources = passed_on _ _ _ _ (λ x m reads answer y. Unit {0}) _ _ _ _ _ _ i.sources c.in-Some.row (record { rows = n.rows; still = n.still; checked = n.checked; taken = (n.sources.0, n.sources.1, (tt, n.sources.2)) }) n.operable none;
      offered = offered_both (Offered it.begins it.takes it.seeks) _ _ _ c.args.rows.now c.loop-row.rows c.next_row.new.self i.offered (n.taken.0, n.taken.1, taken_less it.begins it.takes it.seeks c.loop-row.rows c.next_row.new.self (g.E.Outside.reach c.loop-row.env).meaning n.taken.0 (Some c.in-Some.row) n.taken.2.0);
      goes = λ h. t.1;
      went = λ h. i.went t.0;
      folding = t.2 ∙ i.folding;
      order = n.order ∙ i.order;
      within = λ paths h. let f = i.within paths h in let l = n.within paths f.1 in (reads_at_then paths _ _ _ f.0 l.0, l.1);
      reads = reads_then _ _ _ i.reads n.reads;
      counts = n.counts ∙ i.counts;
    }

pub returns-in_err-row : goal.returns-in_err-row
returns-in_err-row g c =
    let i = c.loop-row.invariant in
    let n = c.in_err-row.ensures in
    let e = c.in_err-row.field-0.0 in
    let it = g.I.RowEntryIterator in
    let p = err_from_is_err_and c.from_residual.result c.from_residual.ensures.1 in
    record {
      rows = λ w range values sees h k. IfOk-from_err c.from_residual.result _ c.from_residual.ensures.0;
      still = λ w sees h. IfOk-from_err c.from_residual.result _ c.from_residual.ensures.0;
      operable = λ w sees h k. IfOk-from_err c.from_residual.result _ c.from_residual.ensures.0;
      going = IfOk-from_err c.from_residual.result _ c.from_residual.ensures.0;
      checked = λ w h. IfOk-from_err c.from_residual.result _ c.from_residual.ensures.0;
      sources = IfOk-from_err c.from_residual.result _ c.from_residual.ensures.0;
      later = IfOk-from_err c.from_residual.result _ c.from_residual.ensures.0;
      bases = λ none. IfOk-from_err c.from_residual.result _ c.from_residual.ensures.0;
      offered = IfOk-from_err c.from_residual.result _ c.from_residual.ensures.0;
      undamaged = (λ w sees going h k.
          let now = last _ _ _ _ _ _ _ _ _ c.next_row.new.self i.sources n.cause.0 n.cause.1 w sees in
          let then = first _ _ _ _ _ _ _ _ _ c.next_row.new.self i.sources n.cause.0 n.cause.1 w sees in
          rw (p.1, p.2) (passed_undamaged _ _ (λ x. it.refuses x.iterator) _ _ _ _ _ _ c.next_row.new.self i.sources None e i.reads.later w sees
          (whole_going it.rest it.sound it.order c.args.rows.now w it.refuses g.met.I.RowEntryIterator.whole going h None e) (n.own w now (i.goes going) (i.passed.still w then h) (i.passed.keeps w then h k))));
      cause = rw (p.1, p.2) (passed_fails _ _ (refuses_folding it.refuses (offers it.begins it.takes it.seeks)) _ _ _ _ _ _ c.next_row.new.self i.passed None e i.reads.later (n.cause.0, n.cause.1, n.cause.2.0));
      order = n.order ∙ i.order;
      within = λ paths h. let f = i.within paths h in let l = n.within paths f.1 in (reads_at_then paths _ _ _ f.0 l.0, l.1);
      reads = reads_then _ _ _ i.reads n.reads;
      counts = rw (p.1, p.2) (n.counts ∙ ap (unblamed e) i.counts);
    }

pub returns-in-Some-value_of : goal.returns-in-Some-value_of
returns-in-Some-value_of g c =
    let i = c.loop-row.invariant in
    let n = rw c.in-Some.is at c.in_ok-row.ensures in
    let row = c.in-Some.row in
    let it = g.I.RowEntryIterator in
    let s : Step (rest_folding it.rest) (sound_folding it.rest it.sound it.order) (refuses_folding it.refuses (offers it.begins it.takes it.seeks)) (λ x m reads answer y. Takes it.takes x m reads answer y) _ _ c.loop-row.rows (Some row) c.next_row.new.self = record { rows = n.rows; still = n.still; checked = n.checked; taken = n.taken } in
    let u : Step (rest_folding it.rest) (sound_folding it.rest it.sound it.order) (λ x. it.refuses x.iterator) (λ x m reads answer y. Unit {0}) _ _ c.loop-row.rows (Some row) c.next_row.new.self = record { rows = n.rows; still = n.still; checked = n.checked; taken = (n.sources.0, n.sources.1, (tt, n.sources.2)) } in
    let v = some_value (has_value row) (key_value row) c.in-Some-value_of.value (sym c.in-Some-value_of.is ∙ c.value_of.ensures) in
    let t = n.taken.2.0 in
    record {
      rows = λ w range values sees h k.
          let r = step_some _ _ _ _ (λ x m reads answer y. Takes it.takes x m reads answer y) _ _ _ _ _ _ i.passed row s v.0 w range values sees h k in
          (ap (λ (x : KeyValue). Some x) v.1 ∙ r.0, r.1);
      still = step_still _ _ _ _ (λ x m reads answer y. Takes it.takes x m reads answer y) _ _ _ _ _ _ i.passed (Some row) s;
      operable = step_keeps _ _ _ _ (λ x m reads answer y. Takes it.takes x m reads answer y) _ _ _ _ _ _ i.passed (Some row) s n.operable;
      going = (i.went t.0, t.1, t.2 ∙ i.folding);
      checked = step_checked _ _ _ _ (λ x m reads answer y. Takes it.takes x m reads answer y) _ _ _ _ _ _ i.passed (Some row) s;
      sources = step_later _ _ _ _ (λ x m reads answer y. Unit {0}) _ _ _ _ _ _ i.sources (Some row) u;
      later = step_later _ _ _ _ (λ x m reads answer y. Takes it.takes x m reads answer y) _ _ _ _ _ _ i.passed (Some row) s;
      bases = λ none. handed it.begins it.takes it.seeks _ _ _ c.args.rows.now c.loop-row.rows c.next_row.new.self row c.in-Some-value_of.value i.offered i.folding (n.taken.0, n.taken.1, n.taken.2.0) v.1 none;
      offered = offered_both (Offered it.begins it.takes it.seeks) _ _ _ c.args.rows.now c.loop-row.rows c.next_row.new.self i.offered (n.taken.0, n.taken.1, taken_less it.begins it.takes it.seeks c.loop-row.rows c.next_row.new.self (g.E.Outside.reach c.loop-row.env).meaning n.taken.0 (Some row) n.taken.2.0);
      undamaged = λ w sees going h k. tt;
      cause = tt;
      order = n.order ∙ i.order;
      within = λ paths h. let f = i.within paths h in let l = n.within paths f.1 in (reads_at_then paths _ _ _ f.0 l.0, l.1);
      reads = reads_then _ _ _ i.reads n.reads;
      counts = n.counts ∙ i.counts;
    }

pub returns : goal.returns
returns g c =
    let i = c.loop-row.invariant in
    let n = rw c.in_default.is at c.in_ok-row.ensures in
    let it = g.I.RowEntryIterator in
    let s : Step (rest_folding it.rest) (sound_folding it.rest it.sound it.order) (refuses_folding it.refuses (offers it.begins it.takes it.seeks)) (λ x m reads answer y. Takes it.takes x m reads answer y) _ _ c.loop-row.rows None c.next_row.new.self = record { rows = n.rows; still = n.still; checked = n.checked; taken = n.taken } in
    let u : Step (rest_folding it.rest) (sound_folding it.rest it.sound it.order) (λ x. it.refuses x.iterator) (λ x m reads answer y. Unit {0}) _ _ c.loop-row.rows None c.next_row.new.self = record { rows = n.rows; still = n.still; checked = n.checked; taken = (n.sources.0, n.sources.1, (tt, n.sources.2)) } in
    let t = n.taken.2.0 in
    record {
      rows = λ w range values sees h k. step_none _ _ _ _ (λ x m reads answer y. Takes it.takes x m reads answer y) _ _ _ _ _ _ i.passed s w range values sees h k;
      still = step_still _ _ _ _ (λ x m reads answer y. Takes it.takes x m reads answer y) _ _ _ _ _ _ i.passed None s;
      operable = step_keeps _ _ _ _ (λ x m reads answer y. Takes it.takes x m reads answer y) _ _ _ _ _ _ i.passed None s n.operable;
      going = (i.went t.0, t.1, t.2 ∙ i.folding);
      checked = step_checked _ _ _ _ (λ x m reads answer y. Takes it.takes x m reads answer y) _ _ _ _ _ _ i.passed None s;
      sources = step_later _ _ _ _ (λ x m reads answer y. Unit {0}) _ _ _ _ _ _ i.sources None u;
      later = step_later _ _ _ _ (λ x m reads answer y. Takes it.takes x m reads answer y) _ _ _ _ _ _ i.passed None s;
      bases = λ none. (let o = offered_both (Offered it.begins it.takes it.seeks) _ _ _ c.args.rows.now c.loop-row.rows c.next_row.new.self i.offered (n.taken.0, n.taken.1, taken_less it.begins it.takes it.seeks c.loop-row.rows c.next_row.new.self (g.E.Outside.reach c.loop-row.env).meaning n.taken.0 None n.taken.2.0) in (o.0, o.1, tt));
      offered = offered_both (Offered it.begins it.takes it.seeks) _ _ _ c.args.rows.now c.loop-row.rows c.next_row.new.self i.offered (n.taken.0, n.taken.1, taken_less it.begins it.takes it.seeks c.loop-row.rows c.next_row.new.self (g.E.Outside.reach c.loop-row.env).meaning n.taken.0 None n.taken.2.0);
      undamaged = λ w sees going h k. tt;
      cause = tt;
      order = n.order ∙ i.order;
      within = λ paths h. let f = i.within paths h in let l = n.within paths f.1 in (reads_at_then paths _ _ _ f.0 l.0, l.1);
      reads = reads_then _ _ _ i.reads n.reads;
      counts = n.counts ∙ i.counts;
    }
