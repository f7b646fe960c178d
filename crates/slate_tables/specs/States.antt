-- What is written of a state.
--     WritesPart form m order range rows before after t      in a form each row in a range of the
--                            state that the rows fold to, in an order
--     WritesExport form m rows before after t      the same of all keys, keys rising
--     WritesRange m order range rows before after t      the rows in a range, as a `get` answers
--                            each
--     WritesState m rows before after t      the same, as a `get` answers it
--     WritesScript m rows before after t      a script of that state, which moves it into a new
--                            store
--     WritesAnswer m k rows before after      the answer of a `get` of a key
--     IsUnwrittenPart form refuses handles range order faults later before after e      why the
--                            rows of a range weren't written: the sink failed, a row can't be
--                            written, a fault, or what was read is refused
--     IsUnwrittenState form refuses handles faults later before after e      the same of all keys
--     IsUnwrittenAnswer refuses handles k faults later before after e      why an answer wasn't
use Rattle.std.specs.Prelude.{◌≡◌, ◌+◌, ◌-◌, ◌^◌, ◌<◌, ◌⊎◌, ℕ, List, ◌++◌, flat_map, length}
use Rattle.std.specs.Prelude.{Option, Some, is_some, option_map}
use Rattle.std.specs.List.{AllByRecursion}
use Rattle.slate_types.specs.declared.bytes_range.BytesRange.{BytesRange}
use Rattle.slate_types.specs.declared.error.SlateDBError.{SlateDBError}
use Rattle.slate_types.specs.declared.iter.IterationOrder.{IterationOrder}
use Rattle.slate_types.specs.declared.iter.IterationOrder.TheVariants.{Ascending}
use Rattle.slate_types.specs.declared.types.RowEntry.{RowEntry}
use Rattle.slate_types.specs.Fold.{operator_at}
use Rattle.slate_types.specs.Keys.{whole}
use Rattle.slate_types.specs.Outside.{Meaning, Reach}
use Rattle.slate_types.specs.Rows.{key_value}
use Rattle.slate_table.specs.declared.info.SsTableHandle.{SsTableHandle}
use Rattle.slate_table.specs.Stored.{stored}
use Rattle.slate_txn.specs.Own.{only_key}
use Rattle.slate_txn.specs.Reply.{Found}
use Rattle.slate_txn.specs.State.{Rules}
use Rattle.slate_language.specs.Replies.{reply_line}
use Rattle.slate_tables.specs.declared.export.Form.{Form}
use Rattle.slate_tables.specs.declared.export.Form.TheVariants as forms
use Rattle.slate_tables.specs.declared.export.Written.{Written}
use Rattle.slate_tables.specs.Exported.{IsExport, IsState}
use Rattle.slate_tables.specs.Loading.{KeysPass}
use Rattle.slate_tables.specs.LoadText.{script_of}
use Rattle.slate_tables.specs.Moved.{Moves}
use Rattle.slate_tables.specs.Reading.{ExportRefusal, IsRefusedRead}
use Rattle.slate_tables.specs.Writing.{IsUnwritten, WritesRows, state_line, tally}

-- out: the rows that are written
abbrev pub WritesPart : Form → Meaning → IterationOrder → BytesRange → List RowEntry → List ℕ →
    Option (List ℕ) → Written → Type 0
WritesPart form m order range rows before after t =
    (out : List RowEntry) × IsExport (operator_at m.combine) order range rows out
    × WritesRows form (is_some m.combine) out before after t

abbrev pub WritesExport : Form → Meaning → List RowEntry → List ℕ → Option (List ℕ) → Written →
    Type 0
WritesExport form m rows before after t = WritesPart form m Ascending whole rows before after t

pub record WritesRange (m : Meaning) (order : IterationOrder) (range : BytesRange)
    (rows : List RowEntry) (before : List ℕ) (after : Option (List ℕ)) (t : Written) : Type 0 where
  pub out : List RowEntry
  pub export : IsExport (operator_at m.combine) order range rows out
  pub text : after ≡ Some (before ++ flat_map state_line out)
  pub counts : t ≡ tally out

abbrev pub WritesAnswer : Meaning → List ℕ → List RowEntry → List ℕ → Option (List ℕ) → Type 0
WritesAnswer m k rows before after =
    after ≡ Some (before ++ reply_line
    (Found (option_map key_value (stored (operator_at m.combine k) rows k))))

pub record WritesState (m : Meaning) (rows : List RowEntry) (before : List ℕ)
    (after : Option (List ℕ)) (t : Written) : Type 0 where
  pub out : List RowEntry
  pub state : IsState (operator_at m.combine) rows out
  pub text : after ≡ Some (before ++ flat_map state_line out)
  pub counts : t ≡ tally out

-- moves: into each store with this operator, at whose start there is room for so many sequences
pub record WritesScript (m : Meaning) (rows : List RowEntry) (before : List ℕ)
    (after : Option (List ℕ)) (t : Written) : Type 0 where
  pub out : List RowEntry
  pub state : IsState (operator_at m.combine) rows out
  pub text : after ≡ Some (before ++ script_of out)
  pub counts : t ≡ tally out
  pub moves : (r : Rules) → r.combine ≡ m.combine → KeysPass r.segment out →
      r.start_seq + length out < 2 ^ 64 - 1 → Moves r rows out

abbrev pub IsUnwrittenPart : Form → ExportRefusal → List SsTableHandle → BytesRange →
    IterationOrder → ℕ → ℕ → Reach → Reach → SlateDBError → Type 0
IsUnwrittenPart form refuses handles range order faults later before after e =
    IsUnwritten form faults later e ⊎ IsRefusedRead refuses handles range order before after e

abbrev pub IsUnwrittenState : Form → ExportRefusal → List SsTableHandle → ℕ → ℕ → Reach → Reach →
    SlateDBError → Type 0
IsUnwrittenState form refuses handles faults later before after e =
    IsUnwrittenPart form refuses handles whole Ascending faults later before after e

abbrev pub IsUnwrittenAnswer : ExportRefusal → List SsTableHandle → List ℕ → ℕ → ℕ → Reach →
    Reach → SlateDBError → Type 0
IsUnwrittenAnswer refuses handles k faults later before after e =
    IsUnwrittenPart forms.State refuses handles (only_key k) Ascending faults later before after e
