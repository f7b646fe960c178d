-- What all steps of a call show: its answer, and what stands behind its commit.
use Rattle.std.proofs.Common.{◌≡◌, ℕ, ◌+◌, List, [], ◌∷◌, ◌++◌, Ok}
use Rattle.slate_mem.specs.Batch.{kept_ops}
use Rattle.slate_txn.specs.declared.event.TranscriptStep.{TranscriptStep}
use Rattle.slate_txn.specs.Alone.{IsAlone, own_of}
use Rattle.slate_txn.specs.Laws as txn
use Rattle.slate_txn.specs.State.{Commit, Rules, last_of}
use Rattle.slate_queue.specs.Jobs.{Answer, Call, Queue, queue_step}
use Rattle.slate_queue.specs.OnPass.{StepsTo}
use Rattle.slate_queue.specs.Standing.{Stands, value_from}

-- where a reader was answered so, the answer is the step's
abbrev pub Tells : Call → Answer → List TranscriptStep → Type 0
Tells call a ts = (r : Rules) (cs : List Commit) (n : ℕ) → IsAlone r cs n ts → StepsTo call a (value_from r cs n)

-- c: a commit of the operations, just behind what was read
pub record Performs (call : Call) (a : Answer) (ts : List TranscriptStep) : Type 0 where
  pub tells : Tells call a ts
  pub places : (r : Rules) (cs : List Commit) (c : Commit) (q : Queue) → txn.Counts r.start_seq cs → c.seq ≡ last_of r.start_seq cs + 1 → c.ops ≡ kept_ops (own_of ts) → Stands r cs q → IsAlone r cs (last_of r.start_seq cs) ts →
      (p : Queue) × (queue_step q call ≡ Ok (p, a)) × Stands r (cs ++ (c ∷ [])) p
