-- Which journals are the crate's.
--     change_kind fs      of the commits that change a record, at whatever moment
--     AreChanges fs es      each commit with a sequence changes a record, and nothing is written outside transactions
--     AreAuditedChanges fs n0 es      legal, and so
--     values_at r cs n      the value of each key in the state at a sequence
use Rattle.std.specs.Prelude.{ℕ, List, option_map}
use Rattle.slate_types.specs.Rows.{operand}
use Rattle.slate_txn.specs.declared.event.Event.{Event}
use Rattle.slate_txn.specs.Audited.{Kind, AreOfKind}
use Rattle.slate_txn.specs.Reads.{state_at}
use Rattle.slate_txn.specs.Replay.{IsLegal}
use Rattle.slate_txn.specs.State.{Rules, Commit}
use Rattle.slate_index.specs.Entries.{FieldsModel}
use Rattle.slate_index.specs.Changes.{Values}
use Rattle.slate_index.specs.Commits.{IsChange}

abbrev pub change_kind : FieldsModel → Kind
change_kind fs level now ops tracked ts = IsChange fs level ops tracked ts

abbrev pub AreChanges : FieldsModel → List Event → Type 0
AreChanges fs es = AreOfKind (change_kind fs) es

pub record AreAuditedChanges (fs : FieldsModel) (n0 : ℕ) (es : List Event) : Type 0 where
  pub legal : IsLegal n0 es
  pub changes : AreChanges fs es

abbrev pub values_at : Rules → List Commit → ℕ → Values
values_at r cs n k = option_map operand (state_at r cs n k)
