-- Segment prefixes of rows, and prefixes that nest.
--     row_prefixes segments rows, row_refusals segments rows      the segment prefixes of their keys, rising; where one of them has none
--     NeverNest ps      no two of them nest
--     IsFirstFront p ps o      the shortest proper front of p that is among them, where there is one
--     lesser a b      the lesser of two keys, each where there is one
use Rattle.std.specs.Prelude.{◌≡◌, ℕ, ◌<◌, true, false, if◌then◌else◌, List, length, map, filter_map, take, Option, Some, None}
use Rattle.slate_types.specs.declared.error.SlateDBError.{SlateDBError}
use Rattle.slate_types.specs.declared.types.RowEntry.{RowEntry}
use Rattle.slate_types.specs.Keys.{key_lt, keys_set, among}
use Rattle.slate_mem.specs.KeyTests.{Segments, prefix_by, segment_refusal, nest}

abbrev pub row_prefixes : Segments → List RowEntry → List (List ℕ)
row_prefixes segments rows = keys_set (filter_map (λ r. prefix_by segments r.key) rows)

abbrev pub row_refusals : Segments → List RowEntry → List (Option SlateDBError)
row_refusals segments rows = map (λ r. segment_refusal segments r.key) rows

abbrev pub NeverNest : List (List ℕ) → Type 0
NeverNest ps = (p q : List ℕ) → among p ps ≡ true → among q ps ≡ true → nest p q ≡ false

abbrev pub HasNoFront : List ℕ → List (List ℕ) → ℕ → Type 0
HasNoFront p ps n = (m : ℕ) → m < n → among (take m p) ps ≡ false

abbrev pub IsFirstFront : List ℕ → List (List ℕ) → Option (List ℕ) → Type 0
IsFirstFront p ps None = HasNoFront p ps (length p)
IsFirstFront p ps (Some q) = (n : ℕ) × ((n < length p) × ((q ≡ take n p) × ((among q ps ≡ true) × HasNoFront p ps n)))

abbrev pub lesser : Option (List ℕ) → Option (List ℕ) → Option (List ℕ)
lesser None b = b
lesser (Some a) None = Some a
lesser (Some a) (Some b) = if key_lt b a then Some b else Some a
