use Rattle.std.proofs.Common.{◌++◌, ◌∙◌, ap, sym, subst, map, option_to_list, arith}
use Rattle.slate_types.specs.Fold.{fold_rows}
use Rattle.slate_mem.specs.BatchRows.{stamped, folded_entries}
use Rattle.slate_mem.specs.Kept.{AreKept, IsKept}
use Rattle.slate_mem.proofs.FoldedLaws.{one_key}
use Rattle.slate_mem.proofs.batch.folded_keys.Goals as goal

pub add_key-requires : goal.add_key-requires
add_key-requires g c = record {
  kept = subst IsKept (sym c.as_slice.ensures) (subst AreKept c.in-Some.ensures.steps c.loop-key.invariant.kept).0;
  none = c.loop-key.invariant.own;
}

pub loop-key-preserved : goal.loop-key-preserved
loop-key-preserved g c =
    let combine = g.M.MergeOperator.combine c.args.operator.now in
    let s = c.args.stamps.now in
    let k = c.in-Some.key.now in
    let before = c.loop-key.rows.items in
    let was = c.loop-key.invariant in
    record {
      same = c.add_key.ensures.same ∙ was.same;
      later = omega (arith, was.later, c.add_key.ensures.later);
      still = c.in_ok-add_key.ensures.still ∙ was.still;
      kept = (subst AreKept c.in-Some.ensures.steps was.kept).1;
      own = c.in_ok-add_key.ensures.none;
      rows =
          one_key combine s (k, c.in-Some.list.now) c.next.new.self before c.add_key.new.rows.items
          (c.in_ok-add_key.ensures.row ∙ (λ i. before ++ option_to_list (fold_rows (was.same i k) (map (stamped s k) (c.as_slice.ensures i)))))
          ∙ ap (λ es. before ++ folded_entries combine s es) (sym c.in-Some.ensures.steps)
          ∙ was.rows;
    }
