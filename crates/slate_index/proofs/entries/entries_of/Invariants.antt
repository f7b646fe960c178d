use Rattle.std.proofs.Common.{◌≡◌}
use Rattle.slate_index.specs.Entries.{entries_below}
use Rattle.slate_index.proofs.entries.entries_of.Given as goal

abbrev pub invariant-loop-number : goal.invariant-loop-number
invariant-loop-number g l = l.keys.items ≡ entries_below (g.F.Fields.model l.fields) l.number l.id l.value
