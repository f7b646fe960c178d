use Rattle.std.proofs.Common.{◌≡◌, ◌≤◌}
use Rattle.slate_types.specs.Outside.{OnlyReads}
use Rattle.slate_merge.proofs.Filters.{Went}
use Rattle.slate_merge.proofs.Withins.{ReadsWithin}
use Rattle.slate_merge.proofs.filter_iterator.FilterIteratorRowEntryIterator.next.Given as goal

abbrev pub invariant-loop-row : goal.invariant-loop-row
invariant-loop-row g l = record {
  went : Went g.I.RowEntryIterator.rest g.I.RowEntryIterator.sound g.I.RowEntryIterator.refuses g.I.RowEntryIterator.takes (g.P.RowPredicate.keeps l.initial.self.predicate) (g.E.Outside.reach l.initial.env) (g.E.Outside.reach l.env) l.initial.self.iterator l.self.iterator;
  predicate : l.self.predicate ≡ l.initial.self.predicate;
  bound : g.I.RowEntryIterator.bound l.self.iterator ≤ g.I.RowEntryIterator.bound l.initial.self.iterator;
  order : g.I.RowEntryIterator.order l.self.iterator ≡ g.I.RowEntryIterator.order l.initial.self.iterator;
  within : ReadsWithin g.I.RowEntryIterator.within (g.E.Outside.reach l.initial.env) (g.E.Outside.reach l.env) l.initial.self.iterator l.self.iterator;
  reads : OnlyReads (g.E.Outside.reach l.initial.env) (g.E.Outside.reach l.env);
  counts : (g.E.Outside.reach l.env).faults ≡ (g.E.Outside.reach l.initial.env).faults;
  unbegun : g.I.RowEntryIterator.unbegun l.initial.self.iterator → (l.self ≡ l.initial.self) × (l.env ≡ l.initial.env);
}

abbrev pub decreases-loop-row : goal.decreases-loop-row
decreases-loop-row g l = g.I.RowEntryIterator.bound l.self.iterator
