-- What is kept of the rows of a core, for the meaning of the parts that all calls share.
--     at_most n rows, later n rows      the rows up to a sequence, and above it
--     above n cs      the commits above a sequence
--     IsTied m c      the rows in memory are those of the commits above the last install
--     AreTables m ts layers      the tables' bytes are those of tables of these rows
--     AreBases rows      no row is a merge
--     HasNoMerge c, IsOperable m c      no merge was taken, in an open transaction or in a commit; so it is where there is no operator
--     IsSound m c      the rows of the installed tables fold, at each sequence from the floor on, as those of the commits up to the last install; without an operator none is a merge; and of a key they rise up to that install
--     IsKept m c      all three, the second where the parts are lawful: what each call keeps
--     FoldsToState m c      so all rows fold to the state, at each sequence from the floor on
use Rattle.std.specs.Prelude.{◌≡◌, ℕ, ◌≤◌, nat_le, nat_lt, true, false, List, [], ◌∷◌, ◌++◌, filter, None}
use Rattle.std.specs.List.{AllByRecursion}
use Rattle.slate_types.specs.declared.types.Ulid.{Ulid}
use Rattle.slate_types.specs.Fold.{fold_rows, shown, AreShort}
use Rattle.slate_types.specs.Rows.{is_base}
use Rattle.slate_mem.specs.BatchModel.{holds_merge}
use Rattle.slate_table.specs.Table.{IsTable}
use Rattle.slate_txn.specs.State.{Commit, last_of}
use Rattle.slate_txn.specs.Reads.{up_to, key_rows, state_at}
use Rattle.slate_db.specs.Meaning.{Meaning, IsLawfulMeaning, rules_of, combine_of}
use Rattle.slate_db.specs.Model.{CoreModel, Rows, memory, versions_in}
use Rattle.slate_db.specs.Installs.{tables_of, installed}
use Rattle.slate_db.specs.Layers.{AreRising}

abbrev pub at_most : ℕ → Rows → Rows
at_most n rows = filter (λ r. nat_le r.seq n) rows

abbrev pub later : ℕ → Rows → Rows
later n rows = filter (λ r. nat_lt n r.seq) rows

abbrev pub above : ℕ → List Commit → List Commit
above n cs = filter (λ c. nat_lt n c.seq) cs

abbrev pub IsTied : Meaning → CoreModel → Type 0
IsTied m c = (k : List ℕ) → versions_in k (memory c) ≡ key_rows (rules_of c.settings m) k (above (installed c.events) c.state.commits)

-- in some version each, the oldest first
abbrev pub AreTables : Meaning → List (Ulid × List ℕ) → List Rows → Type 0
AreTables m [] layers = layers ≡ []
AreTables m (t ∷ ts) layers = (version : ℕ) × (rows : Rows) × (rest : List Rows) × IsTable m.encode t.1 version t.0.0 rows × AreTables m ts rest × (layers ≡ rows ∷ rest)

abbrev pub AreBases : Rows → Type 0
AreBases rows = AllByRecursion (λ r. is_base r ≡ true) rows

pub record HasNoMerge (c : CoreModel) : Type 0 where
  pub own : AllByRecursion (λ p. holds_merge p.1.ops ≡ false) c.state.txns
  pub commits : AllByRecursion (λ d. holds_merge d.ops ≡ false) c.state.commits

abbrev pub IsOperable : Meaning → CoreModel → Type 0
IsOperable m c = m.combine ≡ None → HasNoMerge c

pub record IsSound (m : Meaning) (c : CoreModel) : Type 0 where
  pub layers : List Rows
  pub tables : AreTables m (tables_of c.events) layers
  pub short : AllByRecursion AreShort layers
  pub bases : m.combine ≡ None → AllByRecursion AreBases layers
  pub within : AllByRecursion (λ rows. AllByRecursion (λ r. r.seq ≤ installed c.events) rows) layers
  pub rise : (k : List ℕ) → AreRising (versions_in k layers)
  pub folds : (k : List ℕ) (n : ℕ) → c.floor ≤ n →
      fold_rows (combine_of m k) (at_most n (versions_in k layers)) ≡ fold_rows (combine_of m k) (key_rows (rules_of c.settings m) k (up_to n (up_to (installed c.events) c.state.commits)))

abbrev pub IsKept : Meaning → CoreModel → Type 0
IsKept m c = IsTied m c × (IsLawfulMeaning m → IsSound m c) × IsOperable m c

abbrev pub FoldsToState : Meaning → CoreModel → Type 0
FoldsToState m c = (layers : List Rows) → AreTables m (tables_of c.events) layers → (k : List ℕ) (n : ℕ) → c.floor ≤ n → n ≤ last_of c.settings.start_seq c.state.commits →
    shown (combine_of m k) (at_most n (versions_in k (layers ++ memory c))) ≡ state_at (rules_of c.settings m) c.state.commits n k
