use Rattle.std.proofs.Common.{◌≤◌, List, drop, length, map, ◌≡◌}
use Rattle.slate_types.specs.Outside.{Objects, OnlyReads}
use Rattle.slate_types.specs.World.{Made}
use Rattle.slate_store.specs.Reach.{reach_of}
use Rattle.slate_db.specs.Answered.{AnswersFrom}
use Rattle.slate_db.specs.Asked.{AreBehindFilters}
use Rattle.slate_db.specs.Checked.{ChecksFrom}
use Rattle.slate_db.specs.Installs.{handles_of}
use Rattle.slate_db.specs.Lookup.{AreFilteredAs, AreStoredAs, Extends}
use Rattle.slate_db.specs.Model.{Rows}
use Rattle.slate_db.specs.Shown.{Asking, BringsRows}
use Rattle.slate_db.proofs.RunReads.{FoundSoFar}
use Rattle.slate_db.proofs.lookup.newest_of_runs.Given as goal

abbrev pub invariant-loop-at : goal.invariant-loop-at
invariant-loop-at g l =
    let before = reach_of g.S.Store g.M.MergeOperator g.T.BlockTransformer l.initial.env in
    let asking : Asking = record { policies = map (λ p. (goal.FilterPolicy-dyn g (p.vtable, p.value)).meaning p.value) l.policies; query = l.query } in
    let now = reach_of g.S.Store g.M.MergeOperator g.T.BlockTransformer l.env in
    record {
      within : l.at ≤ length l.runs;
      reads : OnlyReads before now;
      still : now.faults ≡ before.faults;
      behind : Made before now (AreBehindFilters before.meaning.decode asking (handles_of l.runs));
      checked : (layers : List Rows) (os : Objects) → AreStoredAs before.meaning os (handles_of l.runs) layers → ChecksFrom os before now;
      extends : Extends l.initial.found.items l.found.items;
      rows : Made before now (BringsRows before.meaning.decode asking l.max_seq (handles_of l.runs) l.initial.found.items l.found.items);
      found : (os : Objects) → AreFilteredAs asking.policies before.meaning os (handles_of l.runs) → AnswersFrom os before now → FoundSoFar before.meaning os (drop l.at l.runs) l.key l.max_seq l.initial.found.items l.found.items;
    }

abbrev pub decreases-loop-at : goal.decreases-loop-at
decreases-loop-at g l = l.at
