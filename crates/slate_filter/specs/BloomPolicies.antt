-- Policies of Bloom filters.
--     bloom_name extractor whole      the name: that of the extractor, where there is one, and a mark where whole keys are off
--     bloom_policy name bloom      the policy of a name and these settings
--     named_by, set_by      what contracts see of a policy: its name, and the settings of its filters
use Rattle.std.specs.Prelude.{ℕ, Bool, if◌then◌else◌, List, [], ◌++◌, map, Option, Some, None, codes, string_bytes}
use Rattle.std.specs.Option.{option_map}
use Rattle.slate_types.specs.Lawful.{Lengths}
use Rattle.slate_filter.specs.declared.bloom_policy.BloomFilterPolicy.{BloomFilterPolicy}
use Rattle.slate_filter.specs.Bloom.{Bloom, bloom_build, bloom_answers}
use Rattle.slate_filter.specs.Policy.{Policy}

abbrev pub extractor_part : Option (List ℕ) → List ℕ
extractor_part None = []
extractor_part (Some label) = codes ":p=" ++ label

abbrev pub bloom_name : Option (List ℕ) → Bool → List ℕ
bloom_name extractor whole = codes "_bf" ++ extractor_part extractor ++ (if whole then [] else codes ":wh=0")

abbrev pub bloom_policy : List ℕ → Bloom → Policy
bloom_policy name bloom = record {
  name = name;
  builds = λ rows. bloom_build bloom (map (λ r. r.key) rows);
  answers = λ filter query. bloom_answers bloom filter query.target;
}

abbrev pub named_by : {X : Type 0} → BloomFilterPolicy X → List ℕ
named_by p = string_bytes p.name

abbrev pub set_by : {X : Type 0} → (X → Lengths) → BloomFilterPolicy X → Bloom
set_by lengths p = record { bits_per_key = p.bits_per_key; whole = p.whole_key_filtering; lengths = option_map lengths p.prefix_extractor }
