-- What a scan reads: a transaction's own rows, and those of the layers up to its begin.
--     scanned r order n own lists      of each key the fold of its rows, of the own rows and of those of the lists up to a sequence, without tombstones
--     brought order n own lists      the rows of each key, the newest first, to the first that is no operand
--     own_rows ops k      the rows of the own operations on a key, the newest first
--     HasOwn range ops own, HaveRows range layers lists      these are the own rows of each key in the range, and those of the layers
--     Brings range rows list, BringEach range layers lists      of each key a list has those of the rows in the range; several lists, one for each layer
--     AreSources r cs n ops range versions own lists      the lists have the rows of each key in the range, and these fold as those of the commits; the operator is lawful, and all values are short
--     AreTablesOfRuns m runs groups, AreStoredRuns m os kept groups      the tables' bytes are those of tables of these rows, run by run; and the objects hold what is kept of these
--     in_one groups      the rows of the tables of each run, as of one layer
use Rattle.std.specs.Prelude.{◌≡◌, ℕ, ◌-◌, ◌<◌, ◌^◌, true, false, not, if◌then◌else◌, List, [], ◌∷◌, map, filter, flat_map, reverse, Some, None}
use Rattle.std.specs.List.{AllByRecursion}
use Rattle.slate_types.specs.declared.bytes_range.BytesRange.{BytesRange}
use Rattle.slate_types.specs.declared.iter.IterationOrder.{IterationOrder}
use Rattle.slate_types.specs.declared.types.Ulid.{Ulid}
use Rattle.slate_types.specs.Fold.{AreShort, IsLawful, KeepsShort, fold_rows}
use Rattle.slate_types.specs.Keys.{in_range}
use Rattle.slate_types.specs.Outside.{Objects}
use Rattle.slate_types.specs.Rows.{of_key, is_tombstone}
use Rattle.slate_mem.specs.Batch.{Ops, kept}
use Rattle.slate_mem.specs.RowOf.{own_row}
use Rattle.slate_mem.specs.Table.{ranged}
use Rattle.slate_merge.specs.Filtering.{upto_seq}
use Rattle.slate_merge.specs.Folding.{folded}
use Rattle.slate_merge.specs.Merge.{all_rows, merged}
use Rattle.slate_read.specs.declared.sorted_run.SortedRun.{SortedRun}
use Rattle.slate_txn.specs.Reads.{up_to, key_rows}
use Rattle.slate_txn.specs.State.{Rules, Commit, combine_at}
use Rattle.slate_db.specs.Layers.{AreRising}
use Rattle.slate_db.specs.Lookup.{AreStoredAs}
use Rattle.slate_db.specs.Meaning.{Meaning}
use Rattle.slate_db.specs.Model.{Rows, versions_in}
use Rattle.slate_db.specs.Sound.{AreTables, at_most}

abbrev pub left_of : ℕ → Rows → List Rows → List Rows
left_of n own lists = own ∷ map (filter (upto_seq (Some n))) lists

-- the rows to the first of each key that is no operand
abbrev pub brought : IterationOrder → ℕ → Rows → List Rows → Rows
brought order n own lists = merged order true (left_of n own lists)

abbrev pub scanned : Rules → IterationOrder → ℕ → Rows → List Rows → Rows
scanned r order n own lists = filter (λ row. not (is_tombstone row)) (folded (combine_at r) true None (brought order n own lists))

abbrev pub own_rows : Ops → List ℕ → Rows
own_rows ops k = map (own_row k) (reverse (kept ops k))

-- ---- what the lists have

abbrev pub HasOwn : BytesRange → Ops → Rows → Type 0
HasOwn range ops own = (k : List ℕ) → of_key k own ≡ (if in_range range k then own_rows ops k else [])

-- versions: the rows of a key in all layers, the oldest first
abbrev pub HaveVersions : BytesRange → (List ℕ → Rows) → List Rows → Type 0
HaveVersions range versions lists = (k : List ℕ) → flat_map (of_key k) lists ≡ (if in_range range k then reverse (versions k) else [])

abbrev pub HaveRows : BytesRange → List Rows → List Rows → Type 0
HaveRows range layers lists = HaveVersions range (λ k. versions_in k layers) lists

-- in some order of keys
abbrev pub Brings : BytesRange → Rows → Rows → Type 0
Brings range rows list = (k : List ℕ) → of_key k list ≡ of_key k (ranged range rows)

abbrev pub BringEach : BytesRange → List Rows → List Rows → Type 0
BringEach range [] [] = Unit {0}
BringEach range (rows ∷ layers) (list ∷ lists) = Brings range rows list × BringEach range layers lists
BringEach range [] (list ∷ lists) = ⊥
BringEach range (rows ∷ layers) [] = ⊥

pub record AreSources (r : Rules) (cs : List Commit) (n : ℕ) (ops : Ops) (range : BytesRange) (versions : List ℕ → Rows) (own : Rows) (lists : List Rows) : Type 0 where
  pub has_own : HasOwn range ops own
  pub have_rows : HaveVersions range versions lists
  pub rise : (k : List ℕ) → AreRising (versions k)
  pub lawful : (k : List ℕ) → IsLawful (combine_at r k)
  pub keeps_short : (k : List ℕ) → KeepsShort (combine_at r k)
  pub short : (k : List ℕ) → AreShort (versions k)
  pub commits_short : (k : List ℕ) → AreShort (key_rows r k (up_to n cs))
  pub own_short : (k : List ℕ) → AreShort (own_rows ops k)
  pub below : (k : List ℕ) → AllByRecursion (λ row. row.seq < 2 ^ 64 - 1) (versions k)
  pub folds : (k : List ℕ) → fold_rows (combine_at r k) (at_most n (versions k)) ≡ fold_rows (combine_at r k) (key_rows r k (up_to n cs))

-- ---- the tables of each run

abbrev pub AreTablesOfRuns : Meaning → List (List (Ulid × List ℕ)) → List (List Rows) → Type 0
AreTablesOfRuns m [] [] = Unit {0}
AreTablesOfRuns m (ts ∷ runs) (layers ∷ groups) = AreTables m ts layers × AreTablesOfRuns m runs groups
AreTablesOfRuns m [] (layers ∷ groups) = ⊥
AreTablesOfRuns m (ts ∷ runs) [] = ⊥

abbrev pub AreStoredRuns : Meaning → Objects → List SortedRun → List (List Rows) → Type 0
AreStoredRuns m os [] [] = Unit {0}
AreStoredRuns m os (run ∷ kept) (layers ∷ groups) = AreStoredAs m os run.tables.items layers × AreStoredRuns m os kept groups
AreStoredRuns m os [] (layers ∷ groups) = ⊥
AreStoredRuns m os (run ∷ kept) [] = ⊥

-- one after another
abbrev pub in_one : List (List Rows) → List Rows
in_one groups = map all_rows groups
