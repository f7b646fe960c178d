use Rattle.std.proofs.lemmas.List.Elements.{filter_passes}
use Rattle.std.proofs.lemmas.List.Sums.{list_all-from_AllPass}
use Rattle.slate_store.specs.Places.{is_path}
use Rattle.slate_store.proofs.file_store.list.Goals as goal

pub returns-clause-paths : goal.returns-clause-paths
returns-clause-paths g c =
    let names = c.in_ok-names.names.keys in
    rw c.in_ok-paths.ensures.paths (list_all-from_AllPass is_path _ (filter_passes is_path names))
