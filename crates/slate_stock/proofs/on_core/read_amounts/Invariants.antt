use Rattle.std.proofs.Common.{◌≡◌, [], length, map, take}
use Rattle.slate_types.specs.declared.config.IsolationLevel.TheVariants.{SerializableSnapshot}
use Rattle.slate_types.specs.Outside.{OnlyReads}
use Rattle.slate_store.specs.Reach.{reach_of}
use Rattle.slate_db.specs.Model.{CoreModel}
use Rattle.slate_db.specs.Opened.{HasTransaction}
use Rattle.slate_steps.specs.Steps.{IsWithin}
use Rattle.slate_stock.specs.Running.{HasRead}
use Rattle.slate_stock.proofs.on_core.read_amounts.Given as goal

abbrev pub invariant-loop-key : goal.invariant-loop-key
invariant-loop-key g l =
    let before = reach_of g.S.Store g.M.MergeOperator g.T.BlockTransformer l.initial.env in
    let policies = map (λ p. (goal.FilterPolicy-dyn g (p.vtable, p.value)).meaning p.value) l.laws.policies.items in
    let now = reach_of g.S.Store g.M.MergeOperator g.T.BlockTransformer l.env in
    record {
      open_there : HasTransaction l.core l.id;
      counts : now.faults ≡ before.faults;
      reads : OnlyReads before now;
      read : (c : CoreModel) → IsWithin c l.id SerializableSnapshot [] l.initial.core → HasRead policies before now c l.id (take l.key-index l.keys) l.amounts.items l.core;
      long : length l.amounts.items ≡ l.key-index;
    }
