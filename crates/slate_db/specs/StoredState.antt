-- What the installed tables say of a core's state.
--     StoresState m c      for each key, the rows of the tables that the journal names rise, and fold to the state at the last flush
use Rattle.std.specs.Prelude.{◌≡◌, ℕ, List}
use Rattle.slate_types.specs.Fold.{shown}
use Rattle.slate_txn.specs.Reads.{state_at}
use Rattle.slate_db.specs.Meaning.{Meaning, combine_of, rules_of}
use Rattle.slate_db.specs.Model.{CoreModel, Rows, versions_in}
use Rattle.slate_db.specs.Installs.{tables_of}
use Rattle.slate_db.specs.Sound.{AreTables}
use Rattle.slate_db.specs.Layers.{AreRising}

abbrev pub StoresState : Meaning → CoreModel → Type 0
StoresState m c = (layers : List Rows) → AreTables m (tables_of c.events) layers → (k : List ℕ) →
    AreRising (versions_in k layers) × (shown (combine_of m k) (versions_in k layers) ≡ state_at (rules_of c.settings m) c.state.commits c.state.flushed k)
