use Rattle.std.proofs.Common.{◌∙◌, ℤ, Some, option_map, ap, sym, subst, w64}
use Rattle.std.proofs.lemmas.Int.{to_z-of_z}
use Rattle.slate_types.specs.Fold.{operator_at}
use Rattle.slate_mem.specs.declared.batch_iterator.Stamps.{Stamps}
use Rattle.slate_mem.specs.BatchModel.{BatchModel}
use Rattle.slate_mem.specs.BatchRows.{folded_entries}
use Rattle.slate_mem.specs.CommitRows.{commit_rows}
use Rattle.slate_mem.specs.Kept.{IsWhole}
use Rattle.slate_mem.proofs.FoldedLaws.{rows_folded, any_operator}
use Rattle.slate_mem.specs.KeyedOps.{entries_in}
use Rattle.slate_mem.proofs.batch.WriteBatch.fold_entries.Goals as goal

pub returns-clause-rows : goal.returns-clause-rows
returns-clause-rows g c =
    let combine = operator_at (option_map g.M.MergeOperator.combine c.args.operator.now) in
    let default = c.args.default_ttl_millis in
    let es = (entries_in c.self.inside.ops) in
    let stamps : ℤ → Stamps = λ now. record { seq = c.args.seq; create_ts = Some now; default_ttl_millis = default } in
    c.in_ok-rows.ensures.rows
    ∙ ap (λ now. folded_entries combine (stamps now) es) (to_z-of_z w64 c.args.now c.ranges.now)
    ∙ sym (rows_folded combine default c.args.seq c.args.now es c.self.inside.has_merge_ops c.self.invariant)
    ∙ ap (λ (b : BatchModel). commit_rows combine default c.args.seq c.args.now b.ops) c.self.view_is

pub returns-clause-plain : goal.returns-clause-plain
returns-clause-plain g c = λ none other.
    let combine = operator_at (option_map g.M.MergeOperator.combine c.args.operator.now) in
    let default = c.args.default_ttl_millis in
    let es = (entries_in c.self.inside.ops) in
    let stamps : ℤ → Stamps = λ now. record { seq = c.args.seq; create_ts = Some now; default_ttl_millis = default } in
    let whole = subst (IsWhole es) (ap (λ (b : BatchModel). b.held_merge) c.self.view_is ∙ none) c.self.invariant in
    c.in_ok-rows.ensures.rows
    ∙ ap (λ now. folded_entries combine (stamps now) es) (to_z-of_z w64 c.args.now c.ranges.now)
    ∙ sym (rows_folded combine default c.args.seq c.args.now es c.self.inside.has_merge_ops c.self.invariant)
    ∙ any_operator combine other default c.args.seq c.args.now es whole
    ∙ ap (λ (b : BatchModel). commit_rows other default c.args.seq c.args.now b.ops) c.self.view_is
