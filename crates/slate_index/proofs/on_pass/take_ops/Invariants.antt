use Rattle.std.proofs.Common.{◌≡◌, List, ◌++◌, take}
use Rattle.slate_types.specs.declared.config.IsolationLevel.{IsolationLevel}
use Rattle.slate_txn.specs.declared.event.Event.{Event}
use Rattle.slate_txn.specs.declared.event.TranscriptStep.{TranscriptStep}
use Rattle.slate_steps.specs.Attempts.{IsAttempt, IsVouchedThere}
use Rattle.slate_index.specs.Shown.{steps_of}
use Rattle.slate_index.proofs.on_pass.take_ops.Given as goal

abbrev pub invariant-loop-key : goal.invariant-loop-key
invariant-loop-key g l = record {
  taken : (from : List Event) (level : IsolationLevel) (ts : List TranscriptStep) → IsAttempt g.P.Parts.options from level ts l.initial.txn → IsAttempt g.P.Parts.options from level (ts ++ steps_of (take l.key-index l.ops)) l.txn;
  sees : IsVouchedThere g.P.Parts.options g.P.Parts.meaning l.initial.txn → IsVouchedThere g.P.Parts.options g.P.Parts.meaning l.txn;
  table : l.txn.table ≡ l.initial.txn.table;
  seen : l.txn.seen ≡ l.initial.txn.seen;
}
