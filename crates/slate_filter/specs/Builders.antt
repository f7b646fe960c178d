-- What contracts see of a builder.
--     taken_by lengths builder      the settings by which it takes keys
--     Took lengths keys builder      the builder took these keys
use Rattle.std.specs.Prelude.{ℕ, List}
use Rattle.std.specs.Option.{option_map}
use Rattle.slate_types.specs.Lawful.{Lengths}
use Rattle.slate_filter.specs.declared.bloom_builder.BloomFilterBuilder.{BloomFilterBuilder}
use Rattle.slate_filter.specs.Bloom.{Bloom}
use Rattle.slate_filter.specs.Building.{HasHashed}

abbrev pub taken_by : {X : Type 0} → (X → Lengths) → BloomFilterBuilder X → Bloom
taken_by lengths b = record { bits_per_key = b.bits_per_key; whole = b.whole_key_filtering; lengths = option_map lengths b.prefix_extractor }

abbrev pub Took : {X : Type 0} → (X → Lengths) → List (List ℕ) → BloomFilterBuilder X → Type 0
Took lengths keys b = HasHashed (taken_by lengths b) keys b.last_prefix (b.hashes.items)
