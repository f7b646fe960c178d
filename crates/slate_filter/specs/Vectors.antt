-- Filters, computed.
--     Hashes      the hash of four byte strings
--     Probes      the probes of a hash
--     ShortKeys      a filter of prefixes of four bytes, over keys that are shorter, with whole keys and without
--     Prefixes      what extractors give to a key and to a prefix
--     Bits      where bits stand in a filter's bytes
--     NoProbe      a filter whose hashes have no probe
--     Sizes      lengths, counts of probes, and a filter that is refused
use Rattle.std.specs.Prelude.{◌≡◌, ℕ, Bool, true, false, List, [], ◌∷◌, Option, Some, None, codes}
use Rattle.slate_types.specs.declared.filter_policy.PrefixTarget.{PrefixTarget}
use Rattle.slate_types.specs.declared.filter_policy.PrefixTarget.TheVariants.{Point, Prefix}
use Rattle.slate_filter.specs.Extractors.{fixed, colon, last_colon}
use Rattle.slate_filter.specs.Hash.{filter_hash}
use Rattle.slate_filter.specs.Bloom.{Bloom, probes, probe_count, bloom_build, bloom_answers, bloom_estimate, is_set, is_held}

abbrev pub Hashes : Type 0
Hashes = (filter_hash [] ≡ 15130871412783076140)
    × (filter_hash (codes "a") ≡ 4644417185603328019)
    × (filter_hash (codes "abcdefgh") ≡ 4574395652268504554)
    × (filter_hash (codes "abcdefghi") ≡ 17913969820989044453)

abbrev pub Probes : Type 0
Probes = probes 0xDF77EF56DEADBEEF 7 1000000 ≡ 928559 ∷ 107781 ∷ 287004 ∷ 466229 ∷ 645457 ∷ 824689 ∷ 3926 ∷ []

abbrev pub by_fours : Bool → Bloom
by_fours whole = record { bits_per_key = 10; whole = whole; lengths = Some (fixed 4) }

abbrev pub answered : Bloom → List (List ℕ) → PrefixTarget → Option Bool
answered bloom keys target = of (bloom_build bloom keys)
  where
    of : Option (List ℕ) → Option Bool
    of None = None
    of (Some bytes) = bloom_answers bloom bytes target

abbrev pub two_keys : List (List ℕ)
two_keys = codes "a" ∷ codes "b" ∷ []

abbrev pub ShortKeys : Type 0
ShortKeys = (bloom_build (by_fours false) two_keys ≡ Some (0 ∷ 6 ∷ []))
    × (answered (by_fours false) two_keys (Prefix (codes "aaaa")) ≡ Some false)
    × (answered (by_fours false) two_keys (Point (codes "aaaa_key")) ≡ Some false)
    × (answered (by_fours false) two_keys (Prefix (codes "a")) ≡ Some true)
    × (answered (by_fours false) two_keys (Point (codes "a")) ≡ Some true)
    × (answered (by_fours true) two_keys (Point (codes "a")) ≡ Some true)
    × (answered (by_fours true) two_keys (Point (codes "b")) ≡ Some true)

abbrev pub Sizes : Type 0
Sizes = (bloom_estimate 0 10 ≡ 2) × (bloom_estimate 1 10 ≡ 4) × (bloom_estimate 100 10 ≡ 127)
    × (probe_count 1 ≡ 0) × (probe_count 10 ≡ 6) × (probe_count 100 ≡ 69)
    × (bloom_answers (by_fours true) (0 ∷ []) (Point (codes "a")) ≡ None)

-- the numbering of bits: bit 3 is the fourth of the first byte, and bit 10 the third of the second
abbrev pub Bits : Type 0
Bits = (is_set (0xf0 ∷ 0xab ∷ 0x9c ∷ []) 3 ≡ false) × (is_set (0xf8 ∷ 0xab ∷ 0x9c ∷ []) 3 ≡ true)
    × (is_set (0xf0 ∷ 0xab ∷ 0x9c ∷ []) 10 ≡ false) × (is_set (0xf0 ∷ 0xaf ∷ 0x9c ∷ []) 10 ≡ true)

-- no probe, in a filter that has bit bytes, denies nothing
abbrev pub NoProbe : Type 0
NoProbe = is_held 0 (0 ∷ []) (codes "a") ≡ true

abbrev pub Prefixes : Type 0
Prefixes = (fixed 4 (Point (codes "aaaa_key")) ≡ Some 4) × (fixed 4 (Prefix (codes "aaa")) ≡ None)
    × (colon (Point (codes "a:b:c")) ≡ Some 2) × (colon (Prefix (codes "a")) ≡ None)
    × (last_colon (Point (codes "a:b:c")) ≡ Some 4) × (last_colon (Prefix (codes "a:b:")) ≡ None)
