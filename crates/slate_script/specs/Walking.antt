-- What the steps of a scan do to the rows that are left. n: the scan's place among those of its transaction
--     TakesStep n order st rows left ts      what one step asks for
--     TakesSteps n order sts rows left ts      what all steps ask for
--     Walks n order sts rows left ts      the same of a line, which asks for all rows where it has no steps
use Rattle.std.specs.Prelude.{◌≡◌, ℕ, List}
use Rattle.slate_types.specs.declared.iter.IterationOrder.{IterationOrder}
use Rattle.slate_types.specs.declared.types.RowEntry.{RowEntry}
use Rattle.slate_txn.specs.declared.event.TranscriptStep.{TranscriptStep}
use Rattle.slate_txn.specs.declared.event.TranscriptStep.TheVariants as steps
use Rattle.slate_txn.specs.declared.line.ScanStep.{ScanStep}
use Rattle.slate_txn.specs.Reads.{left_after, step_walk, steps_walk, walk}

-- from the rows that were left to those that still are, and what was noted
abbrev pub Means : Type 1
Means = List RowEntry → List RowEntry → List TranscriptStep → Type 0

abbrev pub TakesStep : ℕ → IterationOrder → ScanStep → Means
TakesStep n order st rows left ts = (ts ≡ step_walk n st rows) × (left ≡ left_after order st rows)

abbrev pub TakesSteps : ℕ → IterationOrder → List ScanStep → Means
TakesSteps n order sts rows left ts = ts ≡ steps_walk order n rows sts

abbrev pub Walks : ℕ → IterationOrder → List ScanStep → Means
Walks n order sts rows left ts = ts ≡ walk order n rows sts
