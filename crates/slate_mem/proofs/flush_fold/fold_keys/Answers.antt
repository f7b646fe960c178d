use Rattle.std.proofs.Common.{◌≡◌, ◌+◌, ◌++◌, ◌∙◌, [], suc, length, ap, sym, subst, reverse, option_to_list, arith}
use Rattle.std.specs.Vec.Iter.{into_iter_items}
use Rattle.std.proofs.lemmas.List.{nil_from_length}
use Rattle.slate_types.specs.declared.iter.IterationOrder.TheVariants.{Ascending}
use Rattle.slate_types.specs.Fold.{fold_rows}
use Rattle.slate_types.specs.Iteration.{IsInOrder}
use Rattle.slate_types.specs.Rows.{of_key}
use Rattle.slate_mem.specs.FlushRows.{ended, waits, IsGroup}
use Rattle.slate_mem.proofs.FlushLaws.{flush_step, flush_key_by_key, flush_in_order, fold_of_is, group_waits, flush_rows}
use Rattle.slate_mem.proofs.flush_fold.fold_keys.Goals as goal

pub loop-row-preserved : goal.loop-row-preserved
loop-row-preserved g c =
    let combine = g.M.MergeOperator.combine c.args.operator.now in
    let b = c.args.barrier in
    let r = c.in-Some.row in
    let was = c.loop-row.invariant in
    let low = c.loop-row.low.items in
    let out = c.loop-row.folded.items in
    let size : length (into_iter_items c.loop-row.row-iterator) ≡ length (into_iter_items c.next.new.self) + 1 =
    ap length c.in-Some.ensures.steps.0 ∙ (let e : suc (length (into_iter_items c.next.new.self)) ≡ length (into_iter_items c.next.new.self) + 1 = omega arith in e) in
    let waiting = c.in_ok-place.ensures.low ∙ ap (λ xs. waits b xs r) c.in_ok-end_key.ensures.low in
    record {
      same = c.end_key.ensures.same ∙ was.same;
      later = omega (arith, was.later, c.end_key.ensures.later);
      still = c.in_ok-end_key.ensures.still ∙ was.still;
      count = omega (arith, c.in-Some.ensures.steps.1, size, was.count);
      group = subst IsGroup (sym waiting) (group_waits b low r was.group);
      rows =
          ap (λ xs. c.place.new.folded.items ++ flush_rows combine b xs (into_iter_items c.next.new.self)) waiting
          ∙ flush_step combine b low r (into_iter_items c.next.new.self) out c.end_key.new.folded.items c.place.new.folded.items
          (c.in_ok-end_key.ensures.rows was.group ∙ ap (λ f. out ++ ended f low r) was.same) c.in_ok-place.ensures.folded
          ∙ ap (λ xs. out ++ flush_rows combine b low xs) (sym c.in-Some.ensures.steps.0)
          ∙ was.rows;
    }

pub returns-clause-folded : goal.returns-clause-folded
returns-clause-folded g c = λ order k.
    let combine = g.M.MergeOperator.combine c.args.operator.now in
    let was = c.loop-row.invariant in
    let low = c.loop-row.low.items in
    let out = c.loop-row.folded.items in
    let nothing : into_iter_items c.loop-row.row-iterator ≡ [] = nil_from_length (into_iter_items c.loop-row.row-iterator) (sym was.count ∙ c.in-None.ensures.steps.0) in
    let whole : c.add_folded.new.folded.items ≡ flush_rows combine c.args.barrier [] c.args.rows.items =
    c.in_ok-add_folded.ensures.row was.group.key was.group.keys was.group.based
    ∙ ap (λ f. out ++ option_to_list (fold_rows (f was.group.key) (reverse low))) was.same
    ∙ ap (λ xs. out ++ xs) (fold_of_is combine was.group.key low was.group.keys)
    ∙ ap (λ xs. out ++ flush_rows combine c.args.barrier low xs) (sym nothing)
    ∙ was.rows in
    ap (of_key k) whole ∙ flush_key_by_key combine c.args.barrier c.args.rows.items order k

pub returns-clause-order : goal.returns-clause-order
returns-clause-order g c = λ order.
    let combine = g.M.MergeOperator.combine c.args.operator.now in
    let was = c.loop-row.invariant in
    let low = c.loop-row.low.items in
    let out = c.loop-row.folded.items in
    let nothing : into_iter_items c.loop-row.row-iterator ≡ [] = nil_from_length (into_iter_items c.loop-row.row-iterator) (sym was.count ∙ c.in-None.ensures.steps.0) in
    let whole : c.add_folded.new.folded.items ≡ flush_rows combine c.args.barrier [] c.args.rows.items =
    c.in_ok-add_folded.ensures.row was.group.key was.group.keys was.group.based
    ∙ ap (λ f. out ++ option_to_list (fold_rows (f was.group.key) (reverse low))) was.same
    ∙ ap (λ xs. out ++ xs) (fold_of_is combine was.group.key low was.group.keys)
    ∙ ap (λ xs. out ++ flush_rows combine c.args.barrier low xs) (sym nothing)
    ∙ was.rows in
    subst (IsInOrder Ascending) (sym whole) (flush_in_order combine c.args.barrier c.args.rows.items order)
