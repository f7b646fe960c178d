-- Laws of scans. Each statement is proved by a function of src/laws.rt.
use Rattle.std.specs.Prelude.{◌≡◌, ℕ, ◌≤◌, List, ◌++◌, flat_map, reverse}
use Rattle.slate_types.specs.declared.bytes_range.BytesRange.{BytesRange}
use Rattle.slate_types.specs.declared.iter.IterationOrder.{IterationOrder}
use Rattle.slate_types.specs.declared.types.Ulid.{Ulid}
use Rattle.slate_mem.specs.Batch.{Ops}
use Rattle.slate_txn.specs.Reads.{rows_seen}
use Rattle.slate_txn.specs.State.{Rules, Commit}
use Rattle.slate_db.specs.Installs.{AreRuns, tables_of}
use Rattle.slate_db.specs.Log.{AreFine}
use Rattle.slate_db.specs.Meaning.{Meaning, IsLawfulMeaning, rules_of}
use Rattle.slate_db.specs.Model.{CoreModel, Rows, memory}
use Rattle.slate_db.specs.Scanned.{AreSources, AreTablesOfRuns, BringEach, HasOwn, HaveRows, in_one, scanned}
use Rattle.slate_db.specs.Sound.{AreTables, IsKept}
use Rattle.slate_db.specs.Whole.{IsWhole, Unseen}

-- A scan of lists that have the rows of each key shows what a reader sees at the sequence, under the own operations.
abbrev pub ScansShowWhatIsSeen : Type 0
ScansShowWhatIsSeen = (r : Rules) (cs : List Commit) (n : ℕ) (ops : Ops) (range : BytesRange) (versions : List ℕ → Rows) (own : Rows) (lists : List Rows) (order : IterationOrder) →
    AreSources r cs n ops range versions own lists → scanned r order n own lists ≡ rows_seen r cs n ops order range

-- So does one of lists that have the rows of all layers of a core, at each sequence from its floor on.
abbrev pub ScansOfCoreShowWhatIsSeen : Type 0
ScansOfCoreShowWhatIsSeen = (m : Meaning) (c : CoreModel) (x : Unseen) → IsWhole c x → IsLawfulMeaning m → IsKept m c → (layers : List Rows) → AreTables m (tables_of c.events) layers →
    (n : ℕ) → c.floor ≤ n → (ops : Ops) → AreFine ops → (range : BytesRange) (own : Rows) (lists : List Rows) → HasOwn range ops own → HaveRows range (layers ++ memory c) lists →
    (order : IterationOrder) → scanned (rules_of c.settings m) order n own lists ≡ rows_seen (rules_of c.settings m) c.state.commits n ops order range

-- A list for each memtable and then one for each run, the newest first, have the rows of all layers: no key is in two tables of a run.
abbrev pub ListsHaveAllRows : Type 0
ListsHaveAllRows = (m : Meaning) (c : CoreModel) (x : Unseen) → IsWhole c x → (tables : List (List (Ulid × List ℕ))) → AreRuns tables x.runs → (layers : List Rows) (groups : List (List Rows)) → layers ≡ flat_map (λ ls. ls) groups → AreTablesOfRuns m tables groups →
    (range : BytesRange) (in_memory in_runs : List Rows) → BringEach range (reverse (memory c)) in_memory → BringEach range (reverse (in_one groups)) in_runs → HaveRows range (layers ++ memory c) (in_memory ++ in_runs)
