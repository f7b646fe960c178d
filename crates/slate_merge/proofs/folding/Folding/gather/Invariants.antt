use Rattle.std.proofs.Common.{◌≡◌, ◌≤◌, ◌++◌, ◌∷◌, [], None}
use Rattle.slate_types.specs.Outside.{OnlyReads}
use Rattle.slate_types.proofs.Moves.{Moves}
use Rattle.slate_merge.specs.Folding.{AreLinked, NoneRises, links}
use Rattle.slate_merge.specs.Folds.{refuses_taken, rest_taken, sound_taken}
use Rattle.slate_merge.proofs.Risings.{Gathering}
use Rattle.slate_merge.proofs.Withins.{ReadsWithin}
use Rattle.slate_merge.proofs.folding.Folding.gather.Given as goal

abbrev pub invariant-linked : goal.invariant-linked
invariant-linked g l = record {
  moves : Moves (rest_taken g.I.RowEntryIterator.rest) (sound_taken g.I.RowEntryIterator.rest g.I.RowEntryIterator.sound g.I.RowEntryIterator.order) (refuses_taken g.I.RowEntryIterator.refuses)
      (g.E.Outside.reach l.fn.env) (g.E.Outside.reach l.env) (l.fn.iterator, None, l.fn.first ∷ []) (l.iterator', None, l.newer.items ++ (l.oldest ∷ []));
  linked : AreLinked (links l.self.merge_different_expire_ts l.self.snapshot_barrier_seq) l.newer.items l.oldest;
  falls : NoneRises l.self.merge_different_expire_ts l.self.snapshot_barrier_seq (l.newer.items ++ (l.oldest ∷ []));
  gathered : Gathering g.I.RowEntryIterator.rest g.I.RowEntryIterator.sound g.I.RowEntryIterator.refuses g.I.RowEntryIterator.takes (g.E.Outside.reach l.fn.env) (g.E.Outside.reach l.env) l.fn.iterator l.iterator' l.fn.first (l.newer.items ++ (l.oldest ∷ []));
  empty : l.ahead ≡ None;
  bound : g.I.RowEntryIterator.bound l.iterator' ≤ g.I.RowEntryIterator.bound l.fn.iterator;
  order : g.I.RowEntryIterator.order l.iterator' ≡ g.I.RowEntryIterator.order l.fn.iterator;
  within : ReadsWithin g.I.RowEntryIterator.within (g.E.Outside.reach l.fn.env) (g.E.Outside.reach l.env) l.fn.iterator l.iterator';
  reads : OnlyReads (g.E.Outside.reach l.fn.env) (g.E.Outside.reach l.env);
  counts : (g.E.Outside.reach l.env).faults ≡ (g.E.Outside.reach l.fn.env).faults;
}

abbrev pub decreases-linked : goal.decreases-linked
decreases-linked g l = g.I.RowEntryIterator.bound l.iterator'
