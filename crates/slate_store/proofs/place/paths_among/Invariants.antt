-- The paths so far, then those among the names that are left, are those among all names.
use Rattle.std.proofs.Common.{◌≡◌, ◌++◌}
use Rattle.std.specs.List.{filter}
use Rattle.slate_store.specs.Places.{is_path}
use Rattle.slate_store.proofs.place.paths_among.Given as goal

abbrev pub invariant-loop-name : goal.invariant-loop-name
invariant-loop-name l = l.paths.items ++ filter is_path l.name-iterator ≡ filter is_path l.names.keys
