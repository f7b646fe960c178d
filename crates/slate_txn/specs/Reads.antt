-- What readers see.
--     state_at r cs n k      the row of k in the state at n
--     seen r cs n ops k      the same under operations of one's own
--     rows_seen r cs n ops order range      the rows of a range, in the order
--     walk order i left steps      the transcript of a scan's steps, from the rows that are left
--     handed steps      the rows that they handed out
use Rattle.std.specs.Prelude.{ℕ, if◌then◌else◌, nat_le, nat_lt, List, [], ◌∷◌, ◌++◌, map, filter, filter_map, flat_map, take, drop, length, Option, Some, None}
use Rattle.slate_types.specs.declared.types.RowEntry.{RowEntry}
use Rattle.slate_types.specs.declared.types.KeyValue.{KeyValue}
use Rattle.slate_types.specs.declared.bytes_range.BytesRange.{BytesRange}
use Rattle.slate_types.specs.declared.iter.IterationOrder.{IterationOrder}
use Rattle.slate_types.specs.Iteration.{in_order, drop_before}
use Rattle.slate_types.specs.Keys.{in_range, keys_set}
use Rattle.slate_types.specs.Rows.{key_value}
use Rattle.slate_types.specs.Fold.{shown}
use Rattle.slate_mem.specs.Batch.{Ops, kept, batch_keys}
use Rattle.slate_mem.specs.RowOf.{row_of, own_row}
use Rattle.slate_txn.specs.declared.event.TranscriptStep.{TranscriptStep}
use Rattle.slate_txn.specs.declared.event.TranscriptStep.TheVariants as steps
use Rattle.slate_txn.specs.declared.line.ScanStep.{ScanStep}
use Rattle.slate_txn.specs.declared.line.ScanStep.TheVariants.{Rows, Seek}
use Rattle.slate_txn.specs.State.{Rules, Commit, combine_at}

abbrev pub up_to : ℕ → List Commit → List Commit
up_to n cs = filter (λ c. nat_le c.seq n) cs

abbrev pub key_rows : Rules → List ℕ → List Commit → List RowEntry
key_rows r k cs = filter_map (λ c. row_of (combine_at r k) r.default_millis c.seq c.now c.ops k) cs

abbrev pub state_at : Rules → List Commit → ℕ → List ℕ → Option RowEntry
state_at r cs n k = shown (combine_at r k) (key_rows r k (up_to n cs))

abbrev pub seen : Rules → List Commit → ℕ → Ops → List ℕ → Option RowEntry
seen r cs n ops k = shown (combine_at r k) (key_rows r k (up_to n cs) ++ map (own_row k) (kept ops k))

abbrev pub keys_seen : List Commit → ℕ → Ops → List (List ℕ)
keys_seen cs n ops = keys_set (flat_map (λ c. batch_keys c.ops) (up_to n cs) ++ batch_keys ops)

abbrev pub rows_seen : Rules → List Commit → ℕ → Ops → IterationOrder → BytesRange → List RowEntry
rows_seen r cs n ops order range = filter_map (seen r cs n ops) (in_order order (filter (in_range range) (keys_seen cs n ops)))

abbrev pub left_after : IterationOrder → ScanStep → List RowEntry → List RowEntry
left_after order (Rows n) left = drop n left
left_after order (Seek k) left = drop_before order k left

abbrev pub nexts : ℕ → List RowEntry → List TranscriptStep
nexts i rows = map (λ r. steps.Next i (Some (key_value r))) rows

-- the end is met exactly where fewer rows were left than were asked for
abbrev pub step_walk : ℕ → ScanStep → List RowEntry → List TranscriptStep
step_walk i (Rows n) left = nexts i (take n left) ++ (if nat_lt (length left) n then steps.Next i None ∷ [] else [])
step_walk i (Seek k) left = steps.Seek i k ∷ []

abbrev pub steps_walk : IterationOrder → ℕ → List RowEntry → List ScanStep → List TranscriptStep
steps_walk order i left [] = []
steps_walk order i left (st ∷ sts) = step_walk i st left ++ steps_walk order i (left_after order st left) sts

-- without steps all rows are handed out, and the end is met
abbrev pub walk : IterationOrder → ℕ → List RowEntry → List ScanStep → List TranscriptStep
walk order i left [] = nexts i left ++ (steps.Next i None ∷ [])
walk order i left (st ∷ sts) = steps_walk order i left (st ∷ sts)

abbrev pub answer_of : TranscriptStep → Option KeyValue
answer_of (steps.Next i a) = a
answer_of _ = None

abbrev pub handed : List TranscriptStep → List KeyValue
handed ts = filter_map answer_of ts
