use Rattle.std.proofs.Common.{rules, ◌≡◌}
use Rattle.std.specs.List.{filter}
use Rattle.std.proofs.lemmas.List.Kept.{IsStrictlySortedBy-filter}
use Rattle.slate_types.specs.Keys.{key_cmp}
use Rattle.slate_store.specs.Places.{is_path}
use Rattle.slate_store.proofs.place.paths_among.Goals as goal

pub returns-clause-order : goal.returns-clause-order
returns-clause-order c =
    let same : c.loop-name.paths.items ≡ filter is_path c.args.names.now.keys = search rules in
    rw same (IsStrictlySortedBy-filter key_cmp is_path c.args.names.now.keys c.iter-name-items.ensures.ordered)
