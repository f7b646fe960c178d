use Rattle.std.proofs.Common.{◌≤◌, List, drop, length, map, ◌≡◌}
use Rattle.slate_types.specs.Outside.{Objects, OnlyReads}
use Rattle.slate_types.specs.World.{Made}
use Rattle.slate_store.specs.Reach.{reach_of}
use Rattle.slate_db.specs.Answered.{AnswersFrom}
use Rattle.slate_db.specs.Asked.{AreBehindFilters}
use Rattle.slate_db.specs.Checked.{ChecksFrom}
use Rattle.slate_db.specs.Lookup.{AreFilteredAs, AreStoredAs, Extends, FindsBehind}
use Rattle.slate_db.specs.Model.{Rows}
use Rattle.slate_db.specs.Shown.{Asking, BringsRows}
use Rattle.slate_db.proofs.lookup.newest_of_tables.Given as goal

abbrev pub invariant-loop-i : goal.invariant-loop-i
invariant-loop-i g l =
    let before = reach_of g.S.Store g.M.MergeOperator g.T.BlockTransformer l.initial.env in
    let asking : Asking = record { policies = map (λ p. (goal.FilterPolicy-dyn g (p.vtable, p.value)).meaning p.value) l.policies; query = l.query } in
    let now = reach_of g.S.Store g.M.MergeOperator g.T.BlockTransformer l.env in
    record {
      within : l.i ≤ length l.tables;
      reads : OnlyReads before now;
      still : now.faults ≡ before.faults;
      behind : Made before now (AreBehindFilters before.meaning.decode asking l.tables);
      checked : (layers : List Rows) (os : Objects) → AreStoredAs before.meaning os l.tables layers → ChecksFrom os before now;
      extends : Extends l.initial.found.items l.found.items;
      rows : Made before now (BringsRows before.meaning.decode asking l.max_seq l.tables l.initial.found.items l.found.items);
      found : (layers : List Rows) (os : Objects) → AreStoredAs before.meaning os l.tables layers → AreFilteredAs asking.policies before.meaning os l.tables → AnswersFrom os before now →
          FindsBehind l.key l.max_seq (drop l.i layers) l.initial.found.items l.found.items;
    }

abbrev pub decreases-loop-i : goal.decreases-loop-i
decreases-loop-i g l = l.i
