use Rattle.std.proofs.Common.{◌≡◌, ◌≤◌, ◌-◌, length, map, None}
use Rattle.std.specs.Prelude.{option_map}
use Rattle.std.specs.List.{AllByRecursion}
use Rattle.slate_table.specs.IndexReading.{borrowed_entry, entries_from, entry_in, LiesIn}
use Rattle.slate_table.proofs.IndexReads.{with_front}
use Rattle.slate_table.proofs.sst_index.entries_from.Given as goal

abbrev pub invariant-loop : goal.invariant-loop
invariant-loop l = record {
  within : l.at ≤ length l.bytes;
  places : AllByRecursion (LiesIn l.bytes) l.places.items;
  read : with_front (map (entry_in l.bytes) l.places.items) (entries_from (l.count - l.counter) l.end (option_map borrowed_entry l.last) l.bytes l.at) ≡ entries_from l.count l.end None l.bytes l.at-2;
}
