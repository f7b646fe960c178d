-- What a change of one open transaction makes of a core.
--     operated c id f      the core with f of the transaction in its place
use Rattle.std.specs.Prelude.{ℕ, List}
use Rattle.slate_txn.specs.Named.{update_named}
use Rattle.slate_txn.specs.State.{Tx}
use Rattle.slate_db.specs.Model.{CoreModel}

abbrev pub operated : CoreModel → List ℕ → (Tx → Tx) → CoreModel
operated c id f = record c { state = record c.state { txns = update_named id f c.state.txns } }
