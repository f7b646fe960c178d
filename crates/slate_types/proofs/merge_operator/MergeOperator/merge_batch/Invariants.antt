use Rattle.std.proofs.Common.{◌≡◌, drop, None, option_copied}
use Rattle.slate_types.specs.Fold.{merge_all}
use Rattle.slate_types.proofs.merge_operator.MergeOperator.merge_batch.Given as goal

-- what is left, combined onto the value so far, gives what all operands give onto the existing value
abbrev pub invariant-loop-operand : goal.invariant-loop-operand
invariant-loop-operand g l =
    let combine = g.Self.MergeOperator.combine in
    let faults = g.Self.MergeOperator.faults in
    let existing = option_copied l.existing_value in
    record {
      same : combine l.self ≡ combine l.initial.self;
      still : faults l.self ≡ faults l.initial.self;
      value : merge_all (combine l.initial.self l.key) l.merged (drop l.operand-index l.operands) ≡ merge_all (combine l.initial.self l.key) existing l.operands;
      none : l.merged ≡ None → (drop l.operand-index l.operands ≡ l.operands) × (existing ≡ None);
    }
