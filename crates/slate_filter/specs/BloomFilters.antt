-- What contracts see of a filter.
--     filter_parts filter      the number of probes, and the bit bytes
--     filter_bytes filter      the bytes that spell it
--     read_by n lengths filter      the settings that it is read by; the number of bits per key enters no answer
use Rattle.std.specs.Prelude.{ℕ, List, vec_items}
use Rattle.std.specs.Option.{option_map}
use Rattle.slate_types.specs.Lawful.{Lengths}
use Rattle.slate_filter.specs.declared.bloom_filter.BloomFilter.{BloomFilter}
use Rattle.slate_filter.specs.Bloom.{Bloom}
use Rattle.slate_filter.specs.Building.{encoded}

abbrev pub filter_parts : {X : Type 0} → BloomFilter X → ℕ × List ℕ
filter_parts f = (f.num_probes, vec_items f.bits)

abbrev pub filter_bytes : {X : Type 0} → BloomFilter X → List ℕ
filter_bytes f = encoded f.num_probes (vec_items f.bits)

abbrev pub read_by : {X : Type 0} → ℕ → (X → Lengths) → BloomFilter X → Bloom
read_by n lengths f = record { bits_per_key = n; whole = f.whole_key_filtering; lengths = option_map lengths f.prefix_extractor }
