use Rattle.std.proofs.Common.{◌≡◌, ◌≤◌, ◌++◌, List, drop, length, map}
use Rattle.slate_mem.specs.Table.{newest}
use Rattle.slate_mem.specs.Lookup.{newest_first}
use Rattle.slate_types.specs.declared.types.RowEntry.{RowEntry}
use Rattle.slate_mem.proofs.lookup.newest_of_frozen.Given as goal

abbrev pub invariant-loop-i : goal.invariant-loop-i
invariant-loop-i l = record {
  within : l.i ≤ length l.frozen;
  found : (above : List RowEntry) → l.initial.found.items ≡ newest l.key l.max_seq above → l.found.items ≡ newest l.key l.max_seq (above ++ newest_first (drop l.i (map (λ t. t.rows) l.frozen)));
}

abbrev pub decreases-loop-i : goal.decreases-loop-i
decreases-loop-i l = l.i
