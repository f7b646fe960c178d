-- A scan of all layers of a core shows what a reader sees.
use Rattle.std.proofs.Common.{◌≡◌, ℕ, ◌-◌, ◌<◌, ◌≤◌, ◌^◌, Bool, true, false, cond, List, [], ◌∷◌, ◌++◌, map, filter, reverse, bytes_eq, sym, ap, subst, ◌∙◌, arith, append-nil}
use Rattle.std.specs.List.{AllByRecursion}
use Rattle.std.proofs.lemmas.Grind.{flat_map-append}
use Rattle.slate_types.specs.declared.bytes_range.BytesRange.{BytesRange}
use Rattle.slate_types.specs.declared.types.RowEntry.{RowEntry}
use Rattle.slate_types.specs.Fold.{AreShort, IsShort, fold_rows}
use Rattle.slate_types.specs.Rows.{bytes_of, operand}
use Rattle.slate_mem.specs.declared.WriteOp.{WriteOp}
use Rattle.slate_mem.specs.Batch.{Ops, kept, op_value, ops_of, replaces}
use Rattle.slate_mem.specs.RowOf.{own_row}
use Rattle.slate_txn.specs.Reads.{up_to, key_rows}
use Rattle.slate_txn.specs.State.{Commit}
use Rattle.slate_db.specs.Installs.{tables_of, installed}
use Rattle.slate_db.specs.Layers.{AreRising, FitsMemory}
use Rattle.slate_db.specs.Log.{AreFine}
use Rattle.slate_db.specs.Meaning.{Meaning, IsLawfulMeaning, rules_of, combine_of}
use Rattle.slate_db.specs.Model.{CoreModel, Rows, memory, versions, versions_in}
use Rattle.slate_db.specs.ScanLaws.{ScansOfCoreShowWhatIsSeen}
use Rattle.slate_db.specs.Scanned.{AreSources, HasOwn, HaveRows, own_rows}
use Rattle.slate_db.specs.Sound.{AreTables, IsKept, at_most}
use Rattle.slate_db.specs.Whole.{IsWhole, Unseen}
use Rattle.slate_db.proofs.Rises.{rising_both, rows_above}
use Rattle.slate_db.proofs.Scans.{scan_shows}
use Rattle.slate_db.proofs.Seen.{same_tables, seen_fold}
use Rattle.slate_db.proofs.Short.{all_from_last, commits_short, fine_short, AreShortOps}
use Rattle.slate_db.proofs.Versions.{all_versions_in, short_versions}
use Rattle.slate_types.proofs.Lists.{AllByRecursion_append, AllByRecursion_weaken, AllByRecursion_filter, AllByRecursion_reverse}

-- own rows are short
values_short : (xs : List WriteOp) (k : List ℕ) → AllByRecursion (λ op. IsShort (bytes_of (op_value op))) xs → AreShort (map (own_row k) xs)
values_short [] k h = tt
values_short (x ∷ xs) k h = (h.0, values_short xs k h.1)

of_ops : (P : WriteOp → Type 0) (k : List ℕ) (ops : Ops) → AllByRecursion (λ o. P o.1) ops → AllByRecursion P (ops_of ops k)
of_ops P k [] h = tt
of_ops P k (o ∷ os) h = by (bytes_eq o.0 k) (of_ops P k os h.1)
  where
    by : (b : Bool) → AllByRecursion P (ops_of os k) → AllByRecursion P (map (λ o. o.1) (cond b (o ∷ filter (λ o. bytes_eq o.0 k) os) (filter (λ o. bytes_eq o.0 k) os)))
    by true rest = (h.0, rest)
    by false rest = rest

own_short : (k : List ℕ) (ops : Ops) → AreFine ops → AreShort (own_rows ops k)
own_short k ops fine =
    values_short (reverse (kept ops k)) k (AllByRecursion_reverse _ (kept ops k) (all_from_last _ replaces (ops_of ops k) (of_ops (λ op. IsShort (bytes_of (op_value op))) k ops (fine_short ops fine))))

module _ (m : Meaning) (c : CoreModel) (x : Unseen) (layers : List Rows) (w : IsWhole c x) (law : IsLawfulMeaning m) (kept : IsKept m c) (tables : AreTables m (tables_of c.events) layers) where
  same : (kept.1 law).layers ≡ layers
  same = same_tables m law (tables_of c.events) (kept.1 law).layers layers (kept.1 law).tables tables

  in_tables : AllByRecursion (λ rows. AllByRecursion (λ r. r.seq ≤ installed c.events) rows) layers
  in_tables = subst (AllByRecursion (λ (rows : Rows). AllByRecursion (λ r. r.seq ≤ installed c.events) rows)) same (kept.1 law).within

  newer : (k : List ℕ) → AllByRecursion (λ r. installed c.events < r.seq) (versions_in k (memory c))
  newer k = subst (AllByRecursion (λ r. installed c.events < r.seq)) (sym (kept.0 k)) (rows_above (rules_of c.settings m) k (installed c.events) c.state.commits)

  rise : (k : List ℕ) → AreRising (versions_in k (layers ++ memory c))
  rise k =
      subst (λ (rows : Rows). AreRising rows) (sym (flat_map-append (versions k) layers (memory c)))
      (rising_both (installed c.events) (versions_in k layers) (versions_in k (memory c))
      (subst (λ (ls : List Rows). AreRising (versions_in k ls)) same ((kept.1 law).rise k))
      (all_versions_in (λ r. r.seq ≤ installed c.events) k layers in_tables)
      (w.layers.rise k) (newer k))

  all_short : AllByRecursion AreShort (layers ++ memory c)
  all_short =
      AllByRecursion_append AreShort layers (memory c) (subst (AllByRecursion AreShort) same (kept.1 law).short)
      (AllByRecursion_weaken _ AreShort (λ rows h. AllByRecursion_weaken FitsMemory (λ r. IsShort (operand r)) (λ r f. f.value) rows h) (memory c) w.layers.fit)

  below : (k : List ℕ) → AllByRecursion (λ r. r.seq < 2 ^ 64 - 1) (versions_in k (layers ++ memory c))
  below k =
      all_versions_in (λ r. r.seq < 2 ^ 64 - 1) k (layers ++ memory c)
      (AllByRecursion_append (λ rows. AllByRecursion (λ r. r.seq < 2 ^ 64 - 1) rows) layers (memory c)
      (AllByRecursion_weaken _ _ (λ rows h. AllByRecursion_weaken _ _ installed_below rows h) layers in_tables)
      (AllByRecursion_weaken _ _ (λ rows h. AllByRecursion_weaken _ _ last_below rows h) (memory c) w.tied.rows_within))
    where
      last_below : (r : RowEntry) → r.seq ≤ x.last → r.seq < 2 ^ 64 - 1
      last_below r h = let fits : x.last ≤ 2 ^ 64 - 2 = w.log.last_fits in omega arith

      installed_below : (r : RowEntry) → r.seq ≤ installed c.events → r.seq < 2 ^ 64 - 1
      installed_below r h = let fits : x.last ≤ 2 ^ 64 - 2 = w.log.last_fits in let within : installed c.events ≤ x.last = w.log.installed_within in omega arith

  folds : (n : ℕ) → c.floor ≤ n → (k : List ℕ) → fold_rows (combine_of m k) (at_most n (versions_in k (layers ++ memory c))) ≡ fold_rows (combine_of m k) (key_rows (rules_of c.settings m) k (up_to n c.state.commits))
  folds n from k =
      ap (fold_rows (combine_of m k)) (sym (append-nil (at_most n (versions_in k (layers ++ memory c)))))
      ∙ seen_fold m c x layers k n [] w law kept tables from tt
      ∙ ap (fold_rows (combine_of m k)) (append-nil (key_rows (rules_of c.settings m) k (up_to n c.state.commits)))

  commits_fine : AllByRecursion (λ (x : Commit). AreShortOps x.ops) c.state.commits
  commits_fine = AllByRecursion_weaken (λ (x : Commit). AreFine x.ops) (λ (x : Commit). AreShortOps x.ops) (λ x h. fine_short x.ops h) c.state.commits w.log.fine

  sources : (n : ℕ) (ops : Ops) (range : BytesRange) (own : Rows) (lists : List Rows) → c.floor ≤ n → AreFine ops → HasOwn range ops own → HaveRows range (layers ++ memory c) lists →
      AreSources (rules_of c.settings m) c.state.commits n ops range (λ k. versions_in k (layers ++ memory c)) own lists
  sources n ops range own lists from fine has have = record {
    has_own = has;
    have_rows = have;
    rise = rise;
    lawful = law.operator;
    keeps_short = law.short;
    short = λ k. short_versions k (layers ++ memory c) all_short;
    commits_short = λ k. commits_short (rules_of c.settings m) k (law.short k) (up_to n c.state.commits) (AllByRecursion_filter _ _ c.state.commits commits_fine);
    own_short = λ k. own_short k ops fine;
    below = below;
    folds = folds n from;
  }

pub core_scans : ScansOfCoreShowWhatIsSeen
core_scans m c x w law kept layers tables n from ops fine range own lists has have order =
    scan_shows (rules_of c.settings m) c.state.commits n ops range (λ k. versions_in k (layers ++ memory c)) own lists order
    (sources m c x layers w law kept tables n ops range own lists from fine has have)
