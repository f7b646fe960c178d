use Rattle.std.proofs.Common.{◌≡◌, ◌≤◌, ◌+◌, []}
use Rattle.slate_types.specs.Outside.{OnlyReads}
use Rattle.slate_types.proofs.Moves.{Moves}
use Rattle.std.specs.Prelude.{vec_len, vec_capacity, ◌<◌}
use Rattle.slate_merge.specs.Groups.{refuses_grouped, rest_grouped, rows_in_groups, sound_grouped}
use Rattle.slate_merge.proofs.Handings.{Gathers}
use Rattle.slate_merge.proofs.Withins.{ReadsWithin}
use Rattle.slate_merge.proofs.groups.Groups.gather.Given as goal

abbrev pub invariant-loop-iterator : goal.invariant-loop-iterator
invariant-loop-iterator g l = record {
  moves : Moves (rest_grouped g.I.RowEntryIterator.rest g.I.RowEntryIterator.order) (sound_grouped g.I.RowEntryIterator.rest g.I.RowEntryIterator.sound g.I.RowEntryIterator.order) (refuses_grouped g.I.RowEntryIterator.refuses)
      (g.E.Outside.reach l.initial.env) (g.E.Outside.reach l.env) (l.initial.iterator', l.initial.self) (l.iterator', l.self);
  came : Gathers g.I.RowEntryIterator.refuses g.I.RowEntryIterator.takes (g.E.Outside.reach l.initial.env) (g.E.Outside.reach l.env) l.initial.iterator' l.initial.self.gathered.items l.iterator' l.self.gathered.items;
  none : l.self.ready.items ≡ [];
  room : vec_len l.self.ready < vec_capacity l.self.ready;
  bound : g.I.RowEntryIterator.bound l.iterator' + rows_in_groups l.self ≤ g.I.RowEntryIterator.bound l.initial.iterator' + rows_in_groups l.initial.self;
  order : g.I.RowEntryIterator.order l.iterator' ≡ g.I.RowEntryIterator.order l.initial.iterator';
  within : ReadsWithin g.I.RowEntryIterator.within (g.E.Outside.reach l.initial.env) (g.E.Outside.reach l.env) l.initial.iterator' l.iterator';
  reads : OnlyReads (g.E.Outside.reach l.initial.env) (g.E.Outside.reach l.env);
  counts : (g.E.Outside.reach l.env).faults ≡ (g.E.Outside.reach l.initial.env).faults;
}

abbrev pub decreases-loop-iterator : goal.decreases-loop-iterator
decreases-loop-iterator g l = g.I.RowEntryIterator.bound l.iterator'
