-- What filters are for their readers, and which names of policies are valid. A statement is proved by a function of src/laws.rt.
--     AreValidNames names      the names that a list of policies may have
--     ExtractorsAreLawful      the extractors that come with the store are within their targets and lawful
--     FiltersDenyNothingGiven      no table is skipped for a query that one of its rows matches, by lawful policies of distinct names
--     FiltersLetThroughWhatIsGiven      by the same policies, the filters of a table let a query through that one of its rows matches
--     SetBitsAreProbes      the set bits of a filter are exactly the probes of its strings
--     BloomIsLawful      no Bloom filter denies a query that one of its rows matches
use Rattle.std.specs.Prelude.{◌≡◌, ℕ, ◌*◌, ◌<◌, ◌≤◌, ◌^◌, ◌==◌, List, [], ◌∷◌, length, map, true, false, Some, IfSome, Contains}
use Rattle.std.specs.List.{AllByRecursion, list_any}
use Rattle.slate_types.specs.declared.types.RowEntry.{RowEntry}
use Rattle.slate_types.specs.declared.filter_policy.FilterQuery.{FilterQuery}
use Rattle.slate_types.specs.Keys.{among}
use Rattle.slate_filter.specs.Asking.{asked}
use Rattle.slate_filter.specs.Bloom.{Bloom, all_probes, bit_bytes, bloom_build, bloom_answers, is_set}
use Rattle.slate_types.specs.Lawful.{IsWithinTarget, IsLawfulLengths}
use Rattle.slate_filter.specs.Extractors.{fixed, colon, last_colon}
use Rattle.slate_filter.specs.Policy.{Policy, IsOf, IsLawfulPolicy, filters_of, is_denied}

abbrev pub AreDistinct : List (List ℕ) → Type 0
AreDistinct [] = Unit {0}
AreDistinct (n ∷ ns) = (among n ns ≡ false) × AreDistinct ns

-- the names of the policies
pub record AreValidNames (names : List (List ℕ)) : Type 0 where
  pub few : length names < 2 ^ 16
  pub short : AllByRecursion (λ n. length n < 2 ^ 16) names
  pub distinct : AreDistinct names

abbrev pub ExtractorsAreLawful : Type 0
ExtractorsAreLawful = ((n : ℕ) → IsWithinTarget (fixed n) × IsLawfulLengths (fixed n))
    × IsWithinTarget colon × IsLawfulLengths colon × IsWithinTarget last_colon × IsLawfulLengths last_colon

abbrev pub FiltersDenyNothingGiven : Type 0
FiltersDenyNothingGiven = (policies : List Policy) → AreDistinct (map (λ (p : Policy). p.name) policies) → AllByRecursion (λ (p : Policy). IsLawfulPolicy p.builds p.answers) policies →
    (min : ℕ) (rows : List RowEntry) (row : RowEntry) (query : FilterQuery) → Contains rows row → IsOf query.target row.key → is_denied policies (filters_of policies min rows) query ≡ false

-- and none of their filters is refused
abbrev pub FiltersLetThroughWhatIsGiven : Type 0
FiltersLetThroughWhatIsGiven = (policies : List Policy) → AreDistinct (map (λ (p : Policy). p.name) policies) → AllByRecursion (λ (p : Policy). IsLawfulPolicy p.builds p.answers) policies →
    (min : ℕ) (rows : List RowEntry) (row : RowEntry) (query : FilterQuery) → Contains rows row → IsOf query.target row.key → asked policies (filters_of policies min rows) query ≡ Some true

-- of n bit bytes
abbrev pub SetBitsAreProbes : Type 0
SetBitsAreProbes = (n count : ℕ) (strings : List (List ℕ)) (b : ℕ) → b < 8 * n → is_set (bit_bytes n count strings) b ≡ list_any (λ p. p == b) (all_probes strings count (8 * n))

-- an extractor that is within its target and lawful makes a lawful policy, for one bit per key or more
abbrev pub BloomIsLawful : Type 0
BloomIsLawful = (bloom : Bloom) → 1 ≤ bloom.bits_per_key → IfSome bloom.lengths IsWithinTarget → IfSome bloom.lengths IsLawfulLengths →
    IsLawfulPolicy (λ rows. bloom_build bloom (map (λ r. r.key) rows)) (λ filter query. bloom_answers bloom filter query.target)
