use Rattle.std.proofs.Common.{◌∙◌, ◌++◌, ap, filter_map, sym, option_map, option_copied}
use Rattle.std.proofs.lemmas.List.{drop_all}
use Rattle.slate_types.specs.declared.types.RowEntry.{RowEntry}
use Rattle.slate_types.specs.Keys.{keys_set}
use Rattle.slate_mem.specs.KeyTests.{point_lengths, prefix_by}
use Rattle.slate_mem.proofs.TableLaws.{set_of_set}
use Rattle.slate_mem.proofs.key_tests.prefixes_of.Goals as goal

pub returns-clause-prefixes : goal.returns-clause-prefixes
returns-clause-prefixes g c =
    let segments = point_lengths (option_map g.X.PrefixExtractor.lengths (option_copied c.args.extractor)) in
    let was = c.loop-row.invariant in
    let keys = c.loop-row.prefixes.keys in
    sym (set_of_set keys was.rising)
    ∙ ap (λ rs. keys_set (filter_map (λ (r : RowEntry). prefix_by segments r.key) rs ++ keys)) (sym (drop_all c.loop-row.row-index c.args.rows.now c.loop-row-test.false))
    ∙ was.both
