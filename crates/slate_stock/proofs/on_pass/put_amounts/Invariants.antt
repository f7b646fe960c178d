use Rattle.std.proofs.Common.{◌≡◌, ◌++◌, List, take}
use Rattle.std.specs.List.{zip}
use Rattle.slate_types.specs.declared.config.IsolationLevel.TheVariants.{SerializableSnapshot}
use Rattle.slate_txn.specs.declared.event.Event.{Event}
use Rattle.slate_txn.specs.declared.event.TranscriptStep.{TranscriptStep}
use Rattle.slate_steps.specs.Attempts.{IsAttempt, IsVouchedThere}
use Rattle.slate_stock.specs.Commits.{own_puts}
use Rattle.slate_stock.proofs.on_pass.put_amounts.Given as goal

abbrev pub invariant-loop-place : goal.invariant-loop-place
invariant-loop-place g l = record {
  put : (from : List Event) (ts : List TranscriptStep) → IsAttempt g.P.Parts.options from SerializableSnapshot ts l.initial.txn →
      IsAttempt g.P.Parts.options from SerializableSnapshot (ts ++ own_puts (take l.place (zip l.keys l.amounts))) l.txn;
  sees : IsVouchedThere g.P.Parts.options g.P.Parts.meaning l.initial.txn → IsVouchedThere g.P.Parts.options g.P.Parts.meaning l.txn;
  table : l.txn.table ≡ l.initial.txn.table;
  seen : l.txn.seen ≡ l.initial.txn.seen;
}
