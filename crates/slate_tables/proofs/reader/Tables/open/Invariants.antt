use Rattle.std.proofs.Common.{◌≡◌, ◌-◌, length, take}
use Rattle.slate_tables.specs.Merging.{MatchEach}
use Rattle.slate_tables.specs.Opened.{WasOpened}
use Rattle.slate_tables.proofs.reader.Tables.open.Given as goal

abbrev pub invariant-loop-at : goal.invariant-loop-at
invariant-loop-at g l = record {
  opened : MatchEach (WasOpened (g.S.Store.objects l.initial.reader.store)) (take l.at l.ids) l.handles.items;
  objects : g.S.Store.objects l.reader.store ≡ g.S.Store.objects l.initial.reader.store;
  root : l.reader.root_path ≡ l.initial.reader.root_path;
  transformer : l.reader.transformer ≡ l.initial.reader.transformer;
  faults : g.S.Store.faults l.reader.store ≡ g.S.Store.faults l.initial.reader.store;
}

abbrev pub decreases-loop-at : goal.decreases-loop-at
decreases-loop-at g l = length l.ids - l.at
