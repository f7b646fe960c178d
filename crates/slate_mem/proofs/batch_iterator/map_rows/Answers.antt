use Rattle.std.proofs.Common.{◌∙◌, sym, subst, ap, refl}
use Rattle.std.specs.BTreeMap.Range.{IsLeBy, IsLtBy, entries_between}
use Rattle.std.specs.Range.Bound.{IsForward}
use Rattle.std.proofs.lemmas.Result.{IfOk-from_err}
use Rattle.slate_types.specs.declared.iter.IterationOrder.TheVariants.{Ascending}
use Rattle.slate_types.specs.declared.bytes_range.BytesRange.{BytesRange}
use Rattle.slate_types.specs.Keys.{key_cmp}
use Rattle.slate_types.specs.Iteration.{IsInOrder}
use Rattle.slate_types.specs.Rows.{of_key}
use Rattle.slate_mem.specs.BatchRows.{newest_rows}
use Rattle.slate_types.proofs.KeyBounds.{forward_bounds}
use Rattle.slate_mem.proofs.BatchRowLaws.{newest_rise}
use Rattle.slate_types.proofs.Exits.{err_exit}
use Rattle.slate_mem.proofs.batch_iterator.map_rows.Goals as goal

pub range-requires : goal.range-requires
range-requires c =
    subst (λ r. IsForward (IsLeBy key_cmp) (IsLtBy key_cmp) r.start r.end) (sym c.in_ok-start.ensures.copy)
    (forward_bounds c.args.range.now.start c.args.range.now.end c.requires.forward)

pub ordered-requires : goal.ordered-requires
ordered-requires c =
    let s = c.args.stamps.now in
    let r = c.args.range.now in
    let es = c.args.ops.now.entries in
    let walked = c.range.ensures.between tt ∙ ap (λ (t : BytesRange). entries_between key_cmp t.start t.end es) c.in_ok-start.ensures.copy in
    subst (IsInOrder Ascending) (sym (c.in_ok-rows.ensures.rows ∙ ap (newest_rows s) walked)) (newest_rise r.start r.end s es c.requires.rising)

pub returns-clause-rows : goal.returns-clause-rows
returns-clause-rows c k =
    let s = c.args.stamps.now in
    let es = c.args.ops.now.entries in
    let walked = c.range.ensures.between tt ∙ ap (λ (t : BytesRange). entries_between key_cmp t.start t.end es) c.in_ok-start.ensures.copy in
    c.in_ok-ordered.ensures.keys k ∙ ap (of_key k) (c.in_ok-rows.ensures.rows ∙ ap (newest_rows s) walked)

pub returns-in_err-start : goal.returns-in_err-start
returns-in_err-start c =
    record {
      rows = IfOk-from_err c.from_residual.result _ c.from_residual.ensures.0;
      in_order = IfOk-from_err c.from_residual.result _ c.from_residual.ensures.0;
      cause = err_exit c.from_residual.result _ c.from_residual.ensures.1 _ refl;
    }

pub returns-in_err-rows : goal.returns-in_err-rows
returns-in_err-rows c =
    record {
      rows = IfOk-from_err c.from_residual-in_err-rows.result _ c.from_residual-in_err-rows.ensures.0;
      in_order = IfOk-from_err c.from_residual-in_err-rows.result _ c.from_residual-in_err-rows.ensures.0;
      cause = err_exit c.from_residual-in_err-rows.result _ c.from_residual-in_err-rows.ensures.1 _ c.in_err-rows.ensures.cause;
    }

pub returns-in_err-ordered : goal.returns-in_err-ordered
returns-in_err-ordered c =
    record {
      rows = IfOk-from_err c.from_residual-in_err-ordered.result _ c.from_residual-in_err-ordered.ensures.0;
      in_order = IfOk-from_err c.from_residual-in_err-ordered.result _ c.from_residual-in_err-ordered.ensures.0;
      cause = err_exit c.from_residual-in_err-ordered.result _ c.from_residual-in_err-ordered.ensures.1 _ refl;
    }
