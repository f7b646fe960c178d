use Rattle.std.proofs.Common.{◌≡◌, ℕ, ◌-◌, ◌^◌, List, None, sym, ap, subst, ◌∙◌}
use Rattle.slate_types.specs.declared.bytes_range.BytesRange.{BytesRange}
use Rattle.slate_types.specs.declared.iter.IterationOrder.TheVariants.{Ascending}
use Rattle.slate_types.specs.Iteration.{IsInOrder, NoneBefore}
use Rattle.slate_types.specs.Rows.{of_key}
use Rattle.slate_mem.specs.BatchRows.{batch_rows}
use Rattle.slate_mem.specs.Table.{newest}
use Rattle.slate_txn.specs.Own.{only_key}
use Rattle.slate_txn.proofs.OwnLaws.{newest_own, none_before_only, only_of}
use Rattle.slate_txn.proofs.db_transaction.own_rows.Goals as goal
use Rattle.std.proofs.lemmas.Result.{IfOk-weaker}

rows_are : (c : goal.After-drop-rows-inside) (j : List ℕ) → of_key j c.in_ok-rows.rows.rows ≡ batch_rows (only_key c.args.key.now) (2 ^ 64 - 1) None None c.args.batch.now.ops j
rows_are c j = c.in_ok-rows.ensures.rows j ∙ ap (λ (r : BytesRange). batch_rows r (2 ^ 64 - 1) None None c.args.batch.now.ops j) c.in_ok-range.ensures

pub returns-clause-rows : goal.returns-clause-rows
returns-clause-rows c =
    let k : List ℕ = c.args.key.now in
    IfOk-weaker c.newest_of_walk.result _ _
    (λ found h. h ∙ ap (λ (j : List ℕ). newest j (2 ^ 64 - 1) c.in_ok-rows.rows.rows) c.as_slice.ensures ∙ newest_own k c.args.batch.now.ops c.in_ok-rows.rows.rows (rows_are c))
    (c.newest_of_walk.ensures.found (subst (λ o. IsInOrder o c.in_ok-rows.rows.rows) (sym c.in_ok-rows.ensures.order) c.in_ok-rows.ensures.in_order) c.in_ok-rows.ensures.order
    (subst (λ (j : List ℕ). NoneBefore Ascending j c.in_ok-rows.rows.rows) (sym c.as_slice.ensures)
    (none_before_only k c.in_ok-rows.rows.rows (only_of k (2 ^ 64 - 1) c.args.batch.now.ops c.in_ok-rows.rows.rows (rows_are c)))))
