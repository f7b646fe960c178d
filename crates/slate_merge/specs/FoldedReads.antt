-- What a reader gets of folded rows.
--     KeepsFolds      of each key the folded rows fold to what all its rows fold to
--     KeepsShown      the same for a reader, to whom a tombstone is no row
--     FoldsInOrder      rows in the order give folded rows in the order
--     FoldsBySeeks      folding and seeks commute
--     CutsWhole      nothing is lost where rows are cut
--     NoneRisesInTurn      of rows in turn none rises above the operand before it
use Rattle.std.specs.Prelude.{ℕ, ◌≡◌, Bool, List, flat_map, reverse, Option}
use Rattle.slate_types.specs.declared.types.RowEntry.{RowEntry}
use Rattle.slate_types.specs.RowTurns.{AreInTurn, row_before}
use Rattle.slate_types.specs.Fold.{Combine, fold_rows, shown, IsLawful, KeepsShort, AreShort}
use Rattle.slate_types.specs.Rows.{of_key}
use Rattle.slate_types.specs.declared.iter.IterationOrder.{IterationOrder}
use Rattle.slate_types.specs.Iteration.{drop_before, IsInOrder}
use Rattle.slate_merge.specs.Folding.{NoneRises, cut, folded, links}

abbrev pub KeepsFolds : Type 0
KeepsFolds = (c : List ℕ → Combine) (different : Bool) (barrier : Option ℕ) (key : List ℕ) (rows : List RowEntry) → IsLawful (c key) → KeepsShort (c key) → AreShort rows
    → fold_rows (c key) (reverse (of_key key (folded c different barrier rows))) ≡ fold_rows (c key) (reverse (of_key key rows))

abbrev pub KeepsShown : Type 0
KeepsShown = (c : List ℕ → Combine) (different : Bool) (barrier : Option ℕ) (key : List ℕ) (rows : List RowEntry) → IsLawful (c key) → KeepsShort (c key) → AreShort rows
    → shown (c key) (reverse (of_key key (folded c different barrier rows))) ≡ shown (c key) (reverse (of_key key rows))

abbrev pub FoldsInOrder : Type 0
FoldsInOrder = (order : IterationOrder) (c : List ℕ → Combine) (different : Bool) (barrier : Option ℕ) (rows : List RowEntry) → IsInOrder order rows → IsInOrder order (folded c different barrier rows)

abbrev pub FoldsBySeeks : Type 0
FoldsBySeeks = (order : IterationOrder) (key : List ℕ) (c : List ℕ → Combine) (different : Bool) (barrier : Option ℕ) (rows : List RowEntry) → folded c different barrier (drop_before order key rows) ≡ drop_before order key (folded c different barrier rows)

abbrev pub CutsWhole : Type 0
CutsWhole = (different : Bool) (barrier : Option ℕ) (rows : List RowEntry) → flat_map (λ group. group) (cut (links different barrier) rows) ≡ rows

abbrev pub NoneRisesInTurn : Type 0
NoneRisesInTurn = (order : IterationOrder) (different : Bool) (barrier : Option ℕ) (rows : List RowEntry) → AreInTurn (row_before order) rows → NoneRises different barrier rows
