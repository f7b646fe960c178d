use Rattle.std.proofs.Common.{◌≡◌, ◌<◌, ◌-◌, ◌∙◌, ℕ, List, take, length, ap, sym, subst, refl, arith}
use Rattle.std.proofs.lemmas.Result.{err_from_is_err_and, IfOk-from_err}
use Rattle.std.proofs.lemmas.List.{length-take}
use Rattle.slate_types.specs.declared.error.SlateDBError.TheVariants.{OutOfMemory}
use Rattle.slate_types.specs.declared.iter.IterationOrder.TheVariants.{Descending}
use Rattle.slate_block.specs.Walks.{RowRead}
use Rattle.slate_block.specs.BlockWalks.{IsPast, StopsAt, BeginsRead}
use Rattle.slate_block.specs.GroupWalks.{reads_back, left_back}
use Rattle.slate_block.proofs.SeekLaws.{past_trans, past_refused}
use Rattle.slate_block.proofs.BackSteps.{back_read, kept_past, kept_stops, kept_read, refused_or_back, nothing_kept}
use Rattle.slate_block.proofs.BackLaws.{held_past, no_rows_back}
use Rattle.slate_block.proofs.walk_back_v2.before_key.Goals as goal

pub returns-in_err-rows : goal.returns-in_err-rows
returns-in_err-rows c =
    let p = err_from_is_err_and c.from_residual.result c.from_residual.ensures.1 in
    record {
      past = IfOk-from_err c.from_residual.result _ c.from_residual.ensures.0;
      stops = IfOk-from_err c.from_residual.result _ c.from_residual.ensures.0;
      read = IfOk-from_err c.from_residual.result _ c.from_residual.ensures.0;
      within = IfOk-from_err c.from_residual.result _ c.from_residual.ensures.0;
      cause = (let body = c.args.body.now in
          let offsets = c.args.offsets.now in
          let before = c.loop-before.before in
          let p = err_from_is_err_and c.from_residual.result c.from_residual.ensures.1 in
          let e = c.in_err-rows.field-0.0 in
          let first = refused_or_back body offsets before (before - 1) e OutOfMemory (omega arith) c.in_err-rows.ensures.cause in
          rw (p.1, p.2) (past_refused Descending c.args.key.now (reads_back c.args.groups body offsets) (reads_back before body offsets) e OutOfMemory c.loop-before.invariant.past first c.in_err-rows.ensures.damage));
      damage = rw (p.1, p.2) c.in_err-rows.ensures.damage;
    }

pub returns-then-kept-gt0 : goal.returns-then-kept-gt0
returns-then-kept-gt0 c =
    record {
      past = (let body = c.args.body.now in
          let offsets = c.args.offsets.now in
          let before = c.loop-before.before in
          let key = c.args.key.now in
          let rows = c.in_ok-rows.rows.items in
          let kept = take c.rows_upto_key-kept.result rows in
          let held = rw c.deref.ensures.value at c.rows_upto_key-kept.ensures.past in
          let group = back_read body offsets before (before - 1) rows (omega arith) c.in_ok-rows.ensures.rows in
          let past = subst (λ (l : List RowRead). IsPast Descending key l (left_back body offsets (before - 1) kept)) (sym group) (kept_past Descending key body offsets (before - 1) rows kept held) in
          rw c.truncate.ensures.items (past_trans Descending key (reads_back c.args.groups body offsets) (reads_back before body offsets) (left_back body offsets (before - 1) kept) c.loop-before.invariant.past past));
      stops = (let kept = take c.rows_upto_key-kept.result c.in_ok-rows.rows.items in
          let within = rw c.deref.ensures.value at c.rows_upto_key-kept.ensures.within in
          let stops = rw c.deref.ensures.value at c.rows_upto_key-kept.ensures.stops in
          let some : 0 < length kept = omega (arith, length-take c.rows_upto_key-kept.result c.in_ok-rows.rows.items, within) in
          rw c.truncate.ensures.items (kept_stops Descending c.args.key.now c.args.body.now c.args.offsets.now (c.loop-before.before - 1) kept some stops));
      read = (let kept = take c.rows_upto_key-kept.result c.in_ok-rows.rows.items in
          let within = rw c.deref.ensures.value at c.rows_upto_key-kept.ensures.within in
          let some : 0 < length kept = omega (arith, length-take c.rows_upto_key-kept.result c.in_ok-rows.rows.items, within) in
          rw c.truncate.ensures.items (kept_read c.args.body.now c.args.offsets.now (c.loop-before.before - 1) kept some));
      within = omega (arith, c.loop-before.invariant.within);
      cause = tt;
      damage = tt;
    }

pub loop-before-preserved : goal.loop-before-preserved
loop-before-preserved c =
    let body = c.args.body.now in
    let offsets = c.args.offsets.now in
    let before = c.loop-before.before in
    let key = c.args.key.now in
    let rows = c.in_ok-rows.rows.items in
    let held = rw c.deref.ensures.value at c.rows_upto_key-kept.ensures.past in
    let group = back_read body offsets before (before - 1) rows (omega arith) c.in_ok-rows.ensures.rows in
    let past = subst (λ (l : List RowRead). IsPast Descending key l (reads_back (before - 1) body offsets)) (sym group) (held_past Descending key body offsets (before - 1) c.rows_upto_key-kept.result rows (omega arith) held) in
    record {
      within = omega arith;
      past = past_trans Descending key (reads_back c.args.groups body offsets) (reads_back before body offsets) (reads_back (before - 1) body offsets) c.loop-before.invariant.past past;
    }

pub returns : goal.returns
returns c =
    record {
      past = (let body = c.args.body.now in
          let offsets = c.args.offsets.now in
          let over : 0 ≡ c.loop-before.before = omega arith in
          let same = nothing_kept body offsets 0 c.new.result.items c.new.ensures.items ∙ ap (λ (k : ℕ). reads_back k body offsets) over in
          subst (λ (l : List RowRead). IsPast Descending c.args.key.now (reads_back c.args.groups body offsets) l) (sym same) c.loop-before.invariant.past);
      stops = subst (λ (l : List RowRead). StopsAt Descending c.args.key.now l) (sym (no_rows_back c.args.body.now c.args.offsets.now 0 c.new.result.items refl c.new.ensures.items)) tt;
      read = subst BeginsRead (sym (no_rows_back c.args.body.now c.args.offsets.now 0 c.new.result.items refl c.new.ensures.items)) tt;
      within = omega arith;
      cause = tt;
      damage = tt;
    }
