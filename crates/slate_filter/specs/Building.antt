-- What a builder of a filter has taken in, and what it makes of it.
--     last_of bloom last keys      the prefix that was hashed last, behind the keys
--     HasHashed bloom keys last hashes      the hashes of the keys' strings in order, and the prefix that was hashed last
--     bits_of bits_per_key hashes      the bit bytes with the probes of the hashes set, where they aren't too many
--     encoded count bits      the bytes of a filter
use Rattle.std.specs.Prelude.{◌≡◌, ℕ, ◌*◌, ◌-◌, ◌^◌, nat_lt, if◌then◌else◌, List, [], ◌∷◌, ◌++◌, length, map, Option, Some, None}
use Rattle.std.specs.List.{flat_map}
use Rattle.std.specs.Int.{w16, to_be_bytes}
use Rattle.slate_types.specs.declared.filter_policy.PrefixTarget.TheVariants.{Point}
use Rattle.slate_filter.specs.Hash.{filter_hash}
use Rattle.slate_filter.specs.Bloom.{Bloom, prefix_of, last_prefix, hashed, probes, probe_count, bits_from, bit_bytes_len}

abbrev pub last_of : Bloom → Option (List ℕ) → List (List ℕ) → Option (List ℕ)
last_of bloom last [] = last
last_of bloom last (k ∷ ks) = last_of bloom (last_prefix last (prefix_of bloom.lengths (Point k))) ks

pub record HasHashed (bloom : Bloom) (keys : List (List ℕ)) (last : Option (List ℕ)) (hashes : List ℕ) : Type 0 where
  pub prefix : last ≡ last_of bloom None keys
  pub strings : hashes ≡ map filter_hash (hashed bloom None keys)

abbrev pub some_bits : ℕ → ℕ → List ℕ → List ℕ
some_bits n count hashes = bits_from n 0 (flat_map (λ h. probes h count (8 * n)) hashes)

abbrev pub bits_of : ℕ → List ℕ → Option (List ℕ)
bits_of bits_per_key hashes = if nat_lt (2 ^ 29 - 1) (bit_bytes_len (length hashes) bits_per_key) then None
    else Some (some_bits (bit_bytes_len (length hashes) bits_per_key) (probe_count bits_per_key) hashes)

abbrev pub encoded : ℕ → List ℕ → List ℕ
encoded count bits = to_be_bytes w16 count ++ bits
