use Rattle.std.proofs.Common.{◌++◌, List, take}
use Rattle.std.specs.List.{zip}
use Rattle.slate_types.specs.declared.config.IsolationLevel.TheVariants.{SerializableSnapshot}
use Rattle.slate_txn.specs.declared.event.TranscriptStep.{TranscriptStep}
use Rattle.slate_db.specs.Model.{CoreModel}
use Rattle.slate_db.specs.Opened.{HasTransaction}
use Rattle.slate_steps.specs.Steps.{IsWithin}
use Rattle.slate_stock.specs.Commits.{own_puts}
use Rattle.slate_stock.proofs.on_core.put_amounts.Given as goal

abbrev pub invariant-loop-place : goal.invariant-loop-place
invariant-loop-place l = record {
  open_there : HasTransaction l.core l.id;
  put : (c : CoreModel) (ts : List TranscriptStep) → IsWithin c l.id SerializableSnapshot ts l.initial.core → IsWithin c l.id SerializableSnapshot (ts ++ own_puts (take l.place (zip l.keys l.amounts))) l.core;
}
