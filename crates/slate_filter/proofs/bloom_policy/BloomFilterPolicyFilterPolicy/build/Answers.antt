use Rattle.std.proofs.Common.{◌≡◌, List, [], map, drop, ap}
use Rattle.std.specs.Option.{option_map, option_copied}
use Rattle.std.specs.Vec.{vec_items}
use Rattle.std.proofs.Math.ListN.{drop_of_length-le}
use Rattle.slate_types.specs.declared.types.RowEntry.{RowEntry}
use Rattle.slate_filter.specs.BloomPolicies.{set_by}
use Rattle.slate_filter.proofs.BuildLaws.{ok_mapped, built_keys}
use Rattle.std.proofs.lemmas.Result.{IfOk-weaker}
use Rattle.slate_filter.proofs.bloom_policy.BloomFilterPolicyFilterPolicy.build.Goals as goal

pub returns-clause-built : goal.returns-clause-built
returns-clause-built g c =
    let none : drop c.loop-row.row-index c.args.rows.now ≡ [] = drop_of_length-le c.args.rows.now c.loop-row-test.false in
    ok_mapped c.built.result c.map_err.result _ _ c.map_err.ensures.cases
    (IfOk-weaker c.built.result _ _ (λ made h. built_keys (set_by g.X.PrefixExtractor.lengths c.args.self.now) (map (λ (r : RowEntry). r.key) c.args.rows.now) _ (option_copied c.loop-row.last) _ _ (option_map vec_items made)
    (ap (λ (rs : List RowEntry). map (λ (r : RowEntry). r.key) rs) none) c.loop-row.invariant c.as_slice.ensures.value h) c.built.ensures)
