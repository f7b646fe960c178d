use Rattle.std.proofs.Common.{◌≡◌, ◌≤◌, ◌∷◌, ℕ, List, length, reverse}
use Rattle.slate_types.specs.Fold.{IsLawful, KeepsShort, fold_rows}
use Rattle.slate_types.specs.Join.{AreOf}
use Rattle.slate_mem.proofs.fold.join_all.Given as goal

abbrev pub invariant-loop-newer : goal.invariant-loop-newer
invariant-loop-newer g l = record {
  same : g.M.MergeOperator.combine l.operator ≡ g.M.MergeOperator.combine l.initial.operator;
  later : g.M.MergeOperator.faults l.initial.operator ≤ g.M.MergeOperator.faults l.operator;
  still : g.M.MergeOperator.faults l.operator ≡ g.M.MergeOperator.faults l.initial.operator;
  are : (k : List ℕ) → IsLawful (g.M.MergeOperator.combine l.initial.operator k) → KeepsShort (g.M.MergeOperator.combine l.initial.operator k) → AreOf k (l.initial.row ∷ reverse l.initial.rows.items) → AreOf k (l.row ∷ reverse l.rows.items);
  fold : (k : List ℕ) → IsLawful (g.M.MergeOperator.combine l.initial.operator k) → KeepsShort (g.M.MergeOperator.combine l.initial.operator k) → AreOf k (l.initial.row ∷ reverse l.initial.rows.items) →
      fold_rows (g.M.MergeOperator.combine l.initial.operator k) (l.row ∷ reverse l.rows.items) ≡ fold_rows (g.M.MergeOperator.combine l.initial.operator k) (l.initial.row ∷ reverse l.initial.rows.items);
}

abbrev pub decreases-loop-newer : goal.decreases-loop-newer
decreases-loop-newer g l = length l.rows.items
