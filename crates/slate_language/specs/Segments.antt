-- The extractors that a run can name.
--     label_of x, lengths_of x, lengths_within x      its own name, what it gives a target, and that this is never longer than the target
use Rattle.std.specs.Prelude.{ℕ, List, codes}
use Rattle.slate_types.specs.Lawful.{Lengths, IsWithinTarget}
use Rattle.slate_filter.specs.Extractors.{fixed, colon, last_colon}
use Rattle.slate_filter.specs.ExtractorsWithin.{fixed_within, colon_within, last_colon_within}
use Rattle.slate_language.specs.declared.extractors.NamedExtractor.{NamedExtractor}
use Rattle.slate_language.specs.declared.extractors.NamedExtractor.TheVariants as extractors

abbrev pub label_of : NamedExtractor → List ℕ
label_of (extractors.Fixed n) = codes "fixed"
label_of extractors.Colon = codes "colon"
label_of extractors.LastColon = codes "lastcolon"

abbrev pub lengths_of : NamedExtractor → Lengths
lengths_of (extractors.Fixed n) = fixed n
lengths_of extractors.Colon = colon
lengths_of extractors.LastColon = last_colon

pub lengths_within : (x : NamedExtractor) → IsWithinTarget (lengths_of x)
lengths_within (extractors.Fixed n) = fixed_within n
lengths_within extractors.Colon = colon_within
lengths_within extractors.LastColon = last_colon_within
