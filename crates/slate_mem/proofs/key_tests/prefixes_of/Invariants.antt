use Rattle.std.proofs.Common.{◌≡◌, ◌++◌, drop, filter_map}
use Rattle.std.specs.Prelude.{option_map, option_copied}
use Rattle.std.specs.List.Sorted.{IsStrictlySortedBy}
use Rattle.slate_types.specs.Keys.{key_cmp, keys_set}
use Rattle.slate_mem.specs.KeyTests.{point_lengths, prefix_by}
use Rattle.slate_mem.specs.Refusals.{first_refusal}
use Rattle.slate_mem.specs.Segments.{row_prefixes, row_refusals}
use Rattle.slate_mem.proofs.key_tests.prefixes_of.Given as goal

abbrev pub invariant-loop-row : goal.invariant-loop-row
invariant-loop-row g l =
    let segments = point_lengths (option_map g.X.PrefixExtractor.lengths (option_copied l.extractor)) in
    record {
      fine : first_refusal (row_refusals segments (drop l.row-index l.rows)) ≡ first_refusal (row_refusals segments l.rows);
      both : keys_set (filter_map (λ r. prefix_by segments r.key) (drop l.row-index l.rows) ++ l.prefixes.keys) ≡ row_prefixes segments l.rows;
      rising : IsStrictlySortedBy key_cmp l.prefixes.keys;
    }
