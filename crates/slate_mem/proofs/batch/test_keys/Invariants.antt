use Rattle.std.proofs.Common.{◌≡◌, ◌++◌, filter_map}
use Rattle.std.specs.Prelude.{option_map, option_copied}
use Rattle.std.specs.List.Sorted.{IsStrictlySortedBy}
use Rattle.std.specs.Map.{keys_of}
use Rattle.slate_types.specs.Keys.{key_cmp, keys_set}
use Rattle.slate_mem.specs.KeyTests.{entry_refusals, point_lengths, prefix_by}
use Rattle.slate_mem.specs.Refusals.{first_refusal}
use Rattle.slate_mem.proofs.batch.test_keys.Given as goal

abbrev pub invariant-loop-key : goal.invariant-loop-key
invariant-loop-key g l =
    let segments = point_lengths (option_map g.X.PrefixExtractor.lengths (option_copied l.extractor)) in
    record {
      fine : first_refusal (entry_refusals segments l.default_ttl_millis l.now l.key-iterator) ≡ first_refusal (entry_refusals segments l.default_ttl_millis l.now l.fn.ops.entries);
      both : keys_set (filter_map (prefix_by segments) (keys_of l.key-iterator) ++ l.prefixes.keys) ≡ keys_set (filter_map (prefix_by segments) (keys_of l.fn.ops.entries));
      rising : IsStrictlySortedBy key_cmp l.prefixes.keys;
    }
