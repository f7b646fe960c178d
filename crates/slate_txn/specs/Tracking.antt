-- What a transcript reads.
--     reads_of ts      the keys, scans and ranges of views, from a transcript
--     is_read rs k      the reads take in the key
--     tracks s k      the part of a scan that was read takes in the key: all of its range once it reported its end, and before that what its order doesn't put
--                     after the farthest of the rows handed out and the keys sought
use Rattle.std.specs.Prelude.{ℕ, zero, suc, Bool, true, false, not, ◌&&◌, ◌||◌, if◌then◌else◌, List, [], ◌∷◌, ◌++◌, Option, Some, None}
use Rattle.std.specs.List.{list_any}
use Rattle.slate_types.specs.declared.types.KeyValue.{KeyValue}
use Rattle.slate_types.specs.declared.bytes_range.BytesRange.{BytesRange}
use Rattle.slate_types.specs.declared.iter.IterationOrder.{IterationOrder}
use Rattle.slate_types.specs.Keys.{among, in_range}
use Rattle.slate_txn.specs.declared.reading.Part.{Part}
use Rattle.slate_txn.specs.declared.reading.Part.TheVariants.{Nothing, UpTo, ToEnd}
use Rattle.slate_txn.specs.declared.reading.Scanned.{Scanned}
use Rattle.slate_txn.specs.declared.event.TranscriptStep.{TranscriptStep}
use Rattle.slate_txn.specs.declared.event.TranscriptStep.TheVariants.{Get, Scan, Next, Seek, View, Own}
use Rattle.slate_types.specs.Iteration.{comes_before}

pub record Reading : Type 0 where
  pub keys : List (List ℕ)
  pub scans : List Scanned
  pub views : List BytesRange

abbrev pub farther : IterationOrder → Part → List ℕ → Part
farther order Nothing k = UpTo k
farther order (UpTo j) k = if comes_before order j k then UpTo k else UpTo j
farther order ToEnd k = ToEnd

abbrev pub after_answer : Scanned → Option KeyValue → Scanned
after_answer s None = record s { part = ToEnd }
after_answer s (Some kv) = record s { part = farther s.order s.part kv.key }

-- f at the i-th item
abbrev pub update_at : {X : Type 0} → ℕ → (X → X) → List X → List X
update_at i f [] = []
update_at zero f (x ∷ xs) = f x ∷ xs
update_at (suc i) f (x ∷ xs) = x ∷ update_at i f xs

abbrev pub with_step : Reading → TranscriptStep → Reading
with_step rs (Get k a) = record rs { keys = rs.keys ++ (k ∷ []) }
with_step rs (Scan order range) = record rs { scans = rs.scans ++ (record { order = order; range = range; part = Nothing } ∷ []) }
with_step rs (Next i a) = record rs { scans = update_at i (λ s. after_answer s a) rs.scans }
with_step rs (Seek i k) = record rs { scans = update_at i (λ s. record s { part = farther s.order s.part k }) rs.scans }
with_step rs (View range) = record rs { views = rs.views ++ (range ∷ []) }
with_step rs (Own k op) = rs

abbrev pub with_steps : Reading → List TranscriptStep → Reading
with_steps rs [] = rs
with_steps rs (t ∷ ts) = with_steps (with_step rs t) ts

abbrev pub nothing_read : Reading
nothing_read = record { keys = []; scans = []; views = [] }

abbrev pub reads_of : List TranscriptStep → Reading
reads_of ts = with_steps nothing_read ts

abbrev pub is_within : IterationOrder → Part → List ℕ → Bool
is_within order Nothing k = false
is_within order (UpTo j) k = not (comes_before order j k)
is_within order ToEnd k = true

abbrev pub tracks : Scanned → List ℕ → Bool
tracks s k = in_range s.range k && is_within s.order s.part k

abbrev pub is_read : Reading → List ℕ → Bool
is_read rs k = among k rs.keys || list_any (λ s. tracks s k) rs.scans || list_any (λ range. in_range range k) rs.views
