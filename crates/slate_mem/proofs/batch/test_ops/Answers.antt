use Rattle.std.proofs.Common.{◌∙◌, [], filter_map, ap, sym}
use Rattle.std.specs.Prelude.{option_map, option_copied}
use Rattle.std.specs.List.{cons_option}
use Rattle.std.specs.Map.{keys_of}
use Rattle.slate_types.specs.Keys.{keys_set}
use Rattle.slate_mem.specs.KeyTests.{point_lengths, prefix_by}
use Rattle.slate_mem.specs.KeyedOps.{entries_in}
use Rattle.slate_mem.proofs.TableLaws.{set_of_set}
use Rattle.slate_mem.proofs.batch.test_ops.Goals as goal

pub returns-in_ok-add_prefix-in-Lone-clause-prefixes : goal.returns-in_ok-add_prefix-in-Lone-clause-prefixes
returns-in_ok-add_prefix-in-Lone-clause-prefixes g c =
    let segments = point_lengths (option_map g.X.PrefixExtractor.lengths (option_copied c.args.extractor)) in
    let new = c.new-prefixes.ensures in
    let added = c.in_ok-add_prefix-in-Lone.ensures in
    sym (set_of_set _ (added.rising new.ordered))
    ∙ added.keys [] new.ordered
    ∙ (λ i. keys_set (cons_option (c.in_ok-prefix-in-Lone.ensures.prefix i) (new.empty i)))
    ∙ ap (λ o. keys_set (filter_map (prefix_by segments) (keys_of (entries_in o)))) (sym c.in-Lone.is)
