use Rattle.std.proofs.Common.{◌∙◌, ◌++◌, ap, map, ◌∷◌, []}
use Rattle.slate_types.specs.Rows.{operand}
use Rattle.slate_merge.proofs.FoldGroups.{value_put, value_deleted, value_merged}
use Rattle.slate_merge.proofs.fold_group.fold_value.Goals as goal

pub returns-in-Value-clause-value : goal.returns-in-Value-clause-value
returns-in-Value-clause-value g c =
    value_put _ c.args.oldest _ _ c.args.newer.now _ c.in-Value.is c.requires (c.deref.ensures.value ∙ c.in_ok-push_operands-in-Value.ensures.items ∙ ap (λ l. l ++ map operand c.args.newer.now) c.new-operands.ensures.items) c.in_ok-combine_all-in-Value.ensures.value

pub returns-in-Merge-clause-value : goal.returns-in-Merge-clause-value
returns-in-Merge-clause-value g c =
    value_merged _ c.args.oldest _ _ c.args.newer.now _ c.in-Merge.is c.requires (c.deref-in-Merge.ensures.value ∙ c.in_ok-push_operands-in-Merge.ensures.items ∙ ap (λ l. l ++ map operand c.args.newer.now) (c.in_ok-push-in-Merge.ensures.items ∙ ap (λ l. l ++ (c.in-Merge.operand ∷ [])) c.new-operands.ensures.items)) c.in_ok-combine_all-in-Merge.ensures.value

pub returns-clause-value : goal.returns-clause-value
returns-clause-value g c =
    value_deleted _ c.args.oldest _ c.args.newer.now _ c.in-Tombstone.is c.requires (c.deref-in-Tombstone.ensures.value ∙ c.in_ok-push_operands-in-Tombstone.ensures.items ∙ ap (λ l. l ++ map operand c.args.newer.now) c.new-operands.ensures.items) c.in_ok-combine_all-in-Tombstone.ensures.value
