use Rattle.std.proofs.Common.{◌≡◌, [], List, length, take}
use mathlib.Core.List.{IsPrefix}
use Rattle.slate_types.specs.declared.config.IsolationLevel.TheVariants.{SerializableSnapshot}
use Rattle.slate_types.specs.Outside.{OnlyReads}
use Rattle.slate_store.specs.Reach.{reach_of}
use Rattle.slate_txn.specs.declared.event.Event.{Event}
use Rattle.slate_steps.specs.Attempts.{IsAttempt, IsStoreChecked, IsVouchedThere}
use Rattle.slate_stock.specs.Attempting.{HasReadOn}
use Rattle.slate_stock.proofs.on_pass.read_amounts.Given as goal

abbrev pub invariant-loop-key : goal.invariant-loop-key
invariant-loop-key g l =
    let o = g.P.Parts.options in
    let m = g.P.Parts.meaning in
    let before = reach_of g.S.Store g.M.MergeOperator g.T.BlockTransformer l.initial.env in
    let now = reach_of g.S.Store g.M.MergeOperator g.T.BlockTransformer l.env in
    record {
      table : l.txn.table ≡ l.initial.txn.table;
      begins : IsPrefix l.initial.txn.seen l.txn.seen;
      counts : now.faults ≡ before.faults;
      reads : OnlyReads before now;
      read : (from : List Event) → IsAttempt o from SerializableSnapshot [] l.initial.txn → HasReadOn o from (take l.key-index l.keys) l.amounts.items l.txn;
      long : length l.amounts.items ≡ l.key-index;
      sees : (from : List Event) → IsAttempt o from SerializableSnapshot [] l.initial.txn → IsStoreChecked g.P.Parts.policies m l.txn.seen before now → IsVouchedThere o m l.initial.txn → IsVouchedThere o m l.txn;
    }
