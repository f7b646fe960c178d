-- The paths so far, then those of the objects that are left, are all of them.
use Rattle.std.proofs.Common.{◌≡◌, ◌++◌, drop}
use Rattle.slate_store.specs.Placed.{paths_in}
use Rattle.slate_store.proofs.memory_store.paths_of.Given as goal

abbrev pub invariant-loop-object : goal.invariant-loop-object
invariant-loop-object l = l.paths.items ++ paths_in (drop l.object-index l.listed) ≡ paths_in l.listed
