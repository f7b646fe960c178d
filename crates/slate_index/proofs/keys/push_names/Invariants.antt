use Rattle.std.proofs.Common.{◌≡◌, take}
use Rattle.slate_index.specs.Finds.{names_behind}
use Rattle.slate_index.proofs.keys.push_names.Given as goal

abbrev pub invariant-loop-key : goal.invariant-loop-key
invariant-loop-key l = l.ids.items ≡ names_behind l.prefix (take l.key-index l.keys)
