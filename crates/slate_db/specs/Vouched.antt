-- What an open transaction was answered so far.
--     IsVouchedFor m c id      each answer in the transcript of the open transaction with this id is what a reader at its begin sees, under the own operations before it
use Rattle.std.specs.Prelude.{◌≡◌, ℕ, List, Some}
use Rattle.slate_txn.specs.Alone.{IsVouched}
use Rattle.slate_txn.specs.Named.{find_named}
use Rattle.slate_txn.specs.State.{Tx}
use Rattle.slate_db.specs.Meaning.{Meaning, rules_of}
use Rattle.slate_db.specs.Model.{CoreModel}

abbrev pub IsVouchedFor : Meaning → CoreModel → List ℕ → Type 0
IsVouchedFor m c id = (t : Tx) → find_named id c.state.txns ≡ Some t → IsVouched (rules_of c.settings m) c.state.commits t
