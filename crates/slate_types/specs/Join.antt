-- The join of two rows of a key, the older first: what a fold does with one row more. This is how code folds, row by row.
-- Only lemmas and the clauses of private functions cite these words; a public clause says `fold_rows`.
--     join c a b      the newer row, or, where it is an operand, what both make
--     AreOf k rows      rows that can be folded
use Rattle.std.specs.Prelude.{◌≡◌, ℕ, max, List, Some, None}
use Rattle.slate_types.specs.declared.types.ValueDeletable.{ValueDeletable}
use Rattle.slate_types.specs.declared.types.ValueDeletable.TheVariants.{Value, Merge, Tombstone}
use Rattle.slate_types.specs.declared.types.RowEntry.{RowEntry}
use Rattle.slate_types.specs.Rows.{operand, latest, earliest}
use Rattle.slate_types.specs.Fold.{Combine, IsShort}
use Rattle.std.specs.List.{AllByRecursion}

-- the newer value over the older
abbrev pub join_value : Combine → ValueDeletable → ValueDeletable → ValueDeletable
join_value c u (Value w) = Value w
join_value c u Tombstone = Tombstone
join_value c (Value u) (Merge w) = Value (c (Some u) w)
join_value c Tombstone (Merge w) = Value (c None w)
join_value c (Merge u) (Merge w) = Merge (c (Some u) w)

-- what the newer row has, or, where it is an operand, what both make
abbrev pub picked : {X : Type 0} → ValueDeletable → X → X → X
picked (Value w) both newer = newer
picked Tombstone both newer = newer
picked (Merge w) both newer = both

abbrev pub join : Combine → RowEntry → RowEntry → RowEntry
join c a b = record {
  key = picked b.value a.key b.key;
  value = join_value c a.value b.value;
  seq = picked b.value (max a.seq b.seq) b.seq;
  create_ts = picked b.value (latest a.create_ts b.create_ts) b.create_ts;
  expire_ts = picked b.value (earliest a.expire_ts b.expire_ts) b.expire_ts;
}

-- the rows are of the key, and their values are short
abbrev pub AreOf : List ℕ → List RowEntry → Type 0
AreOf k rows = AllByRecursion (λ r. (r.key ≡ k) × IsShort (operand r)) rows
