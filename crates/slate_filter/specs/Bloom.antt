-- Bloom filters.
--     Bloom      the settings of a filter: its bits per key, whether whole keys count, and its extractor
--     probes hash count bits      the probes of a hash
--     hashed bloom last keys      the byte strings that are hashed, in order
--     bloom_build bloom keys      the bytes of a filter of the keys, where there is one
--     bloom_answers bloom filter target      what the bytes answer; none where they are refused
--     bloom_estimate keys bits_per_key      about how long a filter is
use Rattle.std.specs.Prelude.{ℕ, zero, suc, ◌+◌, ◌-◌, ◌*◌, ◌/◌, ◌%◌, ◌^◌, min, Bool, true, false, ◌==◌, nat_lt, if◌then◌else◌, List, [], ◌∷◌, ◌++◌, length, take, flat_map, Option, Some, None, bytes_eq}
use Rattle.std.specs.Int.{w16, to_be_bytes, bit_at}
use Rattle.std.specs.List.{list_all, list_any}
use Rattle.slate_types.specs.declared.filter_policy.PrefixTarget.{PrefixTarget}
use Rattle.slate_types.specs.declared.filter_policy.PrefixTarget.TheVariants.{Point, Prefix}
use Rattle.slate_types.specs.Lawful.{Lengths, target_bytes}
use Rattle.slate_filter.specs.Hash.{filter_hash}

pub record Bloom : Type 0 where
  pub bits_per_key : ℕ
  pub whole : Bool
  pub lengths : Option Lengths

-- ---- probes: h is the next one, and d is what is added
abbrev pub probes_from : ℕ → ℕ → ℕ → ℕ → ℕ → List ℕ
probes_from zero i bits h d = []
probes_from (suc k) i bits h d = h ∷ probes_from k (i + 1) bits ((h + (d + i) % bits) % bits) ((d + i) % bits)

abbrev pub probes : ℕ → ℕ → ℕ → List ℕ
probes hash count bits = probes_from count 0 bits (hash % 2 ^ 32 % bits) (hash / 2 ^ 32 % bits)

abbrev pub probe_count : ℕ → ℕ
probe_count bits_per_key = min (bits_per_key * 69 / 100) 65535

-- ---- what is hashed
abbrev pub front : List ℕ → Option ℕ → Option (List ℕ)
front bytes None = None
front bytes (Some n) = Some (take n bytes)

abbrev pub prefix_of : Option Lengths → PrefixTarget → Option (List ℕ)
prefix_of None target = None
prefix_of (Some f) target = front (target_bytes target) (f target)

-- a prefix that isn't the one hashed last
abbrev pub if_other : List ℕ → Option (List ℕ) → List (List ℕ)
if_other p None = p ∷ []
if_other p (Some q) = if bytes_eq q p then [] else p ∷ []

abbrev pub new_prefix : Option (List ℕ) → Option (List ℕ) → List (List ℕ)
new_prefix last None = []
new_prefix last (Some p) = if_other p last

abbrev pub last_prefix : Option (List ℕ) → Option (List ℕ) → Option (List ℕ)
last_prefix last None = last
last_prefix last (Some p) = Some p

abbrev pub hashed : Bloom → Option (List ℕ) → List (List ℕ) → List (List ℕ)
hashed bloom last [] = []
hashed bloom last (k ∷ ks) = new_prefix last (prefix_of bloom.lengths (Point k)) ++ (if bloom.whole then k ∷ [] else [])
    ++ hashed bloom (last_prefix last (prefix_of bloom.lengths (Point k))) ks

-- ---- the bits: bit b is bit b modulo 8, low first, of byte b / 8
abbrev pub bit_value : List ℕ → ℕ → ℕ → ℕ
bit_value ps at j = if list_any (λ p. p == at + j) ps then 2 ^ j else 0

abbrev pub byte_of_bits : List ℕ → ℕ → ℕ
byte_of_bits ps at = bit_value ps at 0 + bit_value ps at 1 + bit_value ps at 2 + bit_value ps at 3
    + bit_value ps at 4 + bit_value ps at 5 + bit_value ps at 6 + bit_value ps at 7

abbrev pub bits_from : ℕ → ℕ → List ℕ → List ℕ
bits_from zero at ps = []
bits_from (suc n) at ps = byte_of_bits ps at ∷ bits_from n (at + 8) ps

abbrev pub bit_bytes_len : ℕ → ℕ → ℕ
bit_bytes_len count bits_per_key = (count * bits_per_key + 7) / 8

abbrev pub all_probes : List (List ℕ) → ℕ → ℕ → List ℕ
all_probes strings count bits = flat_map (λ s. probes (filter_hash s) count bits) strings

-- n bit bytes with the probes of the strings set
abbrev pub bit_bytes : ℕ → ℕ → List (List ℕ) → List ℕ
bit_bytes n count strings = bits_from n 0 (all_probes strings count (8 * n))

abbrev pub bloom_bytes : Bloom → List (List ℕ) → List ℕ
bloom_bytes bloom strings = to_be_bytes w16 (probe_count bloom.bits_per_key)
    ++ bit_bytes (bit_bytes_len (length strings) bloom.bits_per_key) (probe_count bloom.bits_per_key) strings

-- none past 2 ^ 29 - 1 bit bytes
abbrev pub bloom_build : Bloom → List (List ℕ) → Option (List ℕ)
bloom_build bloom keys = if nat_lt (2 ^ 29 - 1) (bit_bytes_len (length (hashed bloom None keys)) bloom.bits_per_key) then None
    else Some (bloom_bytes bloom (hashed bloom None keys))

-- ---- answers
abbrev pub is_set : List ℕ → ℕ → Bool
is_set [] b = false
is_set (x ∷ xs) b = if nat_lt b 8 then bit_at x b == 1 else is_set xs (b - 8)

-- no bit bytes deny everything
abbrev pub is_held : ℕ → List ℕ → List ℕ → Bool
is_held count [] s = false
is_held count (x ∷ xs) s = list_all (λ b. is_set (x ∷ xs) b) (probes (filter_hash s) count (8 * length (x ∷ xs)))

abbrev pub held_or_open : ℕ → List ℕ → Option (List ℕ) → Bool
held_or_open count bits None = true
held_or_open count bits (Some p) = is_held count bits p

abbrev pub bloom_holds : Bloom → ℕ → List ℕ → PrefixTarget → Bool
bloom_holds bloom count bits (Point k) = if bloom.whole then is_held count bits k else held_or_open count bits (prefix_of bloom.lengths (Point k))
bloom_holds bloom count bits (Prefix p) = held_or_open count bits (prefix_of bloom.lengths (Prefix p))

-- the number of probes, and the bit bytes; none under 2 bytes or over 2 ^ 29 + 1
abbrev pub bloom_parts : List ℕ → Option (ℕ × List ℕ)
bloom_parts [] = None
bloom_parts (a ∷ []) = None
bloom_parts (a ∷ b ∷ bits) = if nat_lt (2 ^ 29 - 1) (length bits) then None else Some (a * 256 + b, bits)

abbrev pub answer_of_parts : Bloom → PrefixTarget → Option (ℕ × List ℕ) → Option Bool
answer_of_parts bloom target None = None
answer_of_parts bloom target (Some parts) = Some (bloom_holds bloom parts.0 parts.1 target)

-- none where the bytes are refused
abbrev pub bloom_answers : Bloom → List ℕ → PrefixTarget → Option Bool
bloom_answers bloom filter target = answer_of_parts bloom target (bloom_parts filter)

abbrev pub bloom_estimate : ℕ → ℕ → ℕ
bloom_estimate keys bits_per_key = 2 + bit_bytes_len keys bits_per_key
