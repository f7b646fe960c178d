use Rattle.std.proofs.Common.{◌≡◌, ◌++◌, ◌∙◌, [], true, cond, ap, sym, rules}
use Rattle.slate_mem.specs.FlushRows.{fold_of, is_ended}
use Rattle.slate_mem.proofs.FlushLaws.{fold_of_is}
use Rattle.slate_mem.proofs.flush_fold.end_key.Goals as goal
use Rattle.slate_types.proofs.Exits.{on_ok_weaker}

pub returns-clause-rows : goal.returns-clause-rows
returns-clause-rows g c = λ group.
    let combine = g.M.MergeOperator.combine c.args.operator.now in
    let low = c.args.low.now.items in
    let ends : is_ended low c.args.row.now ≡ true = search rules in
    on_ok_weaker c.add_folded.result (λ is. is ∙ ap (λ xs. c.args.folded.now.items ++ xs) (fold_of_is combine group.key low group.keys ∙ sym (ap (λ t. cond t (fold_of combine low) []) ends))) (c.add_folded.ensures.row group.key group.keys group.based)
