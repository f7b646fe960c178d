-- What is kept of the segment prefixes that commits recorded.
--     without_prefixes ps qs      the prefixes of qs that aren't among ps
--     recorded_by g cs      the segment prefixes of the commits' keys, rising, each once
--     HavePrefixes g cs      each key of the commits has a prefix, where there is an extractor
--     IsSegmented g c      by these lengths of prefixes: those that are recorded are just those of the commits, of whose keys each has one where there is an extractor, and no two of them nest
use Rattle.std.specs.Prelude.{◌≡◌, ℕ, not, List, filter, flat_map, None}
use Rattle.std.specs.List.{AllByRecursion}
use Rattle.slate_types.specs.Keys.{among, keys_set}
use Rattle.slate_mem.specs.Batch.{batch_keys}
use Rattle.slate_mem.specs.KeyTests.{Segments, prefixes, segment_refusal}
use Rattle.slate_mem.specs.Segments.{NeverNest}
use Rattle.slate_txn.specs.State.{Commit}
use Rattle.slate_db.specs.Model.{CoreModel}

abbrev pub without_prefixes : List (List ℕ) → List (List ℕ) → List (List ℕ)
without_prefixes ps qs = filter (λ q. not (among q ps)) qs

abbrev pub recorded_by : Segments → List Commit → List (List ℕ)
recorded_by g cs = keys_set (flat_map (λ c. prefixes g c.ops) cs)

abbrev pub HavePrefixes : Segments → List Commit → Type 0
HavePrefixes g cs = AllByRecursion (λ c. AllByRecursion (λ k. segment_refusal g k ≡ None) (batch_keys c.ops)) cs

pub record IsSegmented (g : Segments) (c : CoreModel) : Type 0 where
  pub recorded : c.segments ≡ recorded_by g c.state.commits
  pub each : HavePrefixes g c.state.commits
  pub apart : NeverNest c.segments
