-- What a transcript's answers are, where nothing else happens after sequence n.
--     own_of ts      the operations of one's own that stand in it
--     scans_left r cs n ts      the scans that it opened, each with the rows that are left
--     IsAlone r cs n ts      each answer is that of a reader at n under the own operations before it; a `Next` and a `Seek` name a scan that was opened before
--     IsVouched r cs t      a transaction's transcript is so at its begin
use Rattle.std.specs.Prelude.{◌≡◌, ℕ, List, [], ◌∷◌, ◌++◌, drop, Option, Some, None, option_map, slice_get, IsSome, ⊤}
use Rattle.slate_types.specs.declared.types.RowEntry.{RowEntry}
use Rattle.slate_types.specs.declared.types.KeyValue.{KeyValue}
use Rattle.slate_types.specs.declared.iter.IterationOrder.{IterationOrder}
use Rattle.slate_types.specs.Rows.{key_value}
use Rattle.slate_mem.specs.Batch.{Ops}
use Rattle.slate_txn.specs.declared.event.TranscriptStep.{TranscriptStep}
use Rattle.slate_txn.specs.declared.event.TranscriptStep.TheVariants.{Get, Scan, Next, Seek, View, Own}
use Rattle.slate_txn.specs.Tracking.{update_at}
use Rattle.slate_txn.specs.State.{Rules, Commit, Tx}
use Rattle.slate_types.specs.Iteration.{drop_before}
use Rattle.slate_txn.specs.Reads.{seen, rows_seen}

-- an opened scan: its order, and the rows that are left of the list that was fixed at its opening
abbrev pub Left : Type 0
Left = IterationOrder × List RowEntry

abbrev pub own_of : List TranscriptStep → Ops
own_of [] = []
own_of (Own k op ∷ ts) = (k, op) ∷ own_of ts
own_of (_ ∷ ts) = own_of ts

abbrev pub advanced : Left → Left
advanced s = (s.0, drop 1 s.1)

abbrev pub sought : List ℕ → Left → Left
sought k s = (s.0, drop_before s.0 k s.1)

-- the scans that are left after steps, from those before them; each was fixed under the own operations before its opening
abbrev pub scans_after : Rules → List Commit → ℕ → Ops → List Left → List TranscriptStep → List Left
scans_after r cs n ops scans [] = scans
scans_after r cs n ops scans (Scan order range ∷ ts) = scans_after r cs n ops (scans ++ ((order, rows_seen r cs n ops order range) ∷ [])) ts
scans_after r cs n ops scans (Next i a ∷ ts) = scans_after r cs n ops (update_at i advanced scans) ts
scans_after r cs n ops scans (Seek i k ∷ ts) = scans_after r cs n ops (update_at i (sought k) scans) ts
scans_after r cs n ops scans (Own k op ∷ ts) = scans_after r cs n (ops ++ ((k, op) ∷ [])) scans ts
scans_after r cs n ops scans (_ ∷ ts) = scans_after r cs n ops scans ts

abbrev pub scans_left : Rules → List Commit → ℕ → List TranscriptStep → List Left
scans_left r cs n ts = scans_after r cs n [] [] ts

abbrev pub first_left : List RowEntry → Option KeyValue
first_left [] = None
first_left (r ∷ rs) = Some (key_value r)

-- the scan that is named was opened, and the answer is the first of the rows that it has left
abbrev pub IsNextOf : Option Left → Option KeyValue → Type 0
IsNextOf None a = ⊥
IsNextOf (Some s) a = a ≡ first_left s.1

abbrev pub AloneFrom : Rules → List Commit → ℕ → Ops → List Left → List TranscriptStep → Type 0
AloneFrom r cs n ops scans [] = ⊤
AloneFrom r cs n ops scans (Get k a ∷ ts) = (a ≡ option_map key_value (seen r cs n ops k)) × AloneFrom r cs n ops scans ts
AloneFrom r cs n ops scans (Scan order range ∷ ts) = AloneFrom r cs n ops (scans ++ ((order, rows_seen r cs n ops order range) ∷ [])) ts
AloneFrom r cs n ops scans (Next i a ∷ ts) = IsNextOf (slice_get scans i) a × AloneFrom r cs n ops (update_at i advanced scans) ts
AloneFrom r cs n ops scans (Seek i k ∷ ts) = IsSome (slice_get scans i) × AloneFrom r cs n ops (update_at i (sought k) scans) ts
AloneFrom r cs n ops scans (View range ∷ ts) = AloneFrom r cs n ops scans ts
AloneFrom r cs n ops scans (Own k op ∷ ts) = AloneFrom r cs n (ops ++ ((k, op) ∷ [])) scans ts

abbrev pub IsAlone : Rules → List Commit → ℕ → List TranscriptStep → Type 0
IsAlone r cs n ts = AloneFrom r cs n [] [] ts

abbrev pub IsVouched : Rules → List Commit → Tx → Type 0
IsVouched r cs t = IsAlone r cs t.begin t.transcript
