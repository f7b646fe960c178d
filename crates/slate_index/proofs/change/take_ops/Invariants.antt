use Rattle.std.proofs.Common.{List, ◌++◌, take}
use Rattle.slate_types.specs.declared.config.IsolationLevel.{IsolationLevel}
use Rattle.slate_txn.specs.declared.event.TranscriptStep.{TranscriptStep}
use Rattle.slate_db.specs.Model.{CoreModel}
use Rattle.slate_db.specs.Opened.{HasTransaction}
use Rattle.slate_steps.specs.Steps.{IsWithin}
use Rattle.slate_index.specs.Shown.{steps_of}
use Rattle.slate_index.proofs.change.take_ops.Given as goal

abbrev pub invariant-loop-key : goal.invariant-loop-key
invariant-loop-key l = record {
  opened : HasTransaction l.core l.tx;
  taken : (c : CoreModel) (level : IsolationLevel) (ts : List TranscriptStep) → IsWithin c l.tx level ts l.fn.core → IsWithin c l.tx level (ts ++ steps_of (take l.key-index l.ops)) l.core;
}
