-- What an export writes.
--     state_line r      a row as a `get` answers it, with its line end
--     row_script r      the lines of a script that make the row again
--     form_text form r      the text of a row in a form
--     IsLoadable has r      a row that a line of a script makes again; has: whether there is an
--                           operator
--     Passes form has r      in a script each row is such a one
--     tally rows      how many rows these are, how many end before they were made, and their
--                     greatest
--                     sequence
--     counted_row t r      the same with one row more
--     WritesRows form has rows before after t      the sink took the text of each row, in their
--                            order
--     WritesFront text rows before after      it took a front of these texts
--     IsRefusedRow has r e      why a row can't be loaded: its key, its value, or a missing
--                            operator
--     IsRefusedText form has r e, IsUnwritten form before after e      why a row wasn't written
use Rattle.std.specs.Prelude.{◌≡◌, ℕ, ◌+◌, ◌^◌, ◌<◌, ◌≤◌, ◌⊎◌, max, Bool, true, false}
use Rattle.std.specs.Prelude.{if◌then◌else◌}
use Rattle.std.specs.Prelude.{List, ◌∷◌, [], ◌++◌, flat_map, length, Option, Some, IfSome}
use Rattle.std.specs.Prelude.{FitsSigned}
use Rattle.std.specs.List.{AllByRecursion}
use Rattle.slate_types.specs.declared.error.SlateDBError.{SlateDBError}
use Rattle.slate_types.specs.declared.error.SlateDBError.TheVariants as errors
use Rattle.slate_types.specs.declared.types.RowEntry.{RowEntry}
use Rattle.slate_types.specs.Faults.{Rose}
use Rattle.slate_types.specs.Keys.{AreBytes}
use Rattle.slate_types.specs.Rows.{is_operand, key_value, operand}
use Rattle.slate_txn.specs.Reply.{Found}
use Rattle.slate_language.specs.Replies.{reply_line}
use Rattle.slate_tables.specs.declared.export.Form.{Form}
use Rattle.slate_tables.specs.declared.export.Form.TheVariants as forms
use Rattle.slate_tables.specs.declared.export.Written.{Written}
use Rattle.slate_tables.specs.Loading.{created}
use Rattle.slate_tables.specs.LoadText.{capped, count_moved, ends_before_made, greatest_of}
use Rattle.slate_tables.specs.LoadText.{now_line, write_line}
use mir.Syntax.{w64}

-- ---- the text of a row

abbrev pub state_line : RowEntry → List ℕ
state_line r = reply_line (Found (Some (key_value r)))

abbrev pub row_script : RowEntry → List ℕ
row_script r = now_line r ++ (10 ∷ (write_line r ++ (10 ∷ [])))

abbrev pub form_text : Form → RowEntry → List ℕ
form_text forms.State r = state_line r
form_text forms.Script r = row_script r

-- ---- rows that can be loaded

pub record IsLoadable (has : Bool) (r : RowEntry) : Type 0 where
  pub some : 0 < length r.key
  pub short : length r.key < 2 ^ 16
  pub value : length (operand r) < 2 ^ 32
  pub operator : is_operand r ≡ true → has ≡ true
  pub key_bytes : AreBytes r.key
  pub value_bytes : AreBytes (operand r)
  pub made : FitsSigned w64 (created r)
  pub ends : IfSome r.expire_ts (FitsSigned w64)

abbrev pub Passes : Form → Bool → RowEntry → Type 0
Passes forms.State has r = Unit {0}
Passes forms.Script has r = IsLoadable has r

-- ---- counts, which stand still at their greatest number

abbrev pub tally : List RowEntry → Written
tally rows = record {
  rows = capped (length rows);
  moved = capped (count_moved rows);
  greatest_seq = capped (greatest_of rows);
}

abbrev pub counted_row : Written → RowEntry → Written
counted_row t r = record {
  rows = capped (t.rows + 1);
  moved = if ends_before_made r then capped (t.moved + 1) else t.moved;
  greatest_seq = max t.greatest_seq r.seq;
}

-- ---- all rows

pub record WritesRows (form : Form) (has : Bool) (rows : List RowEntry) (before : List ℕ)
    (after : Option (List ℕ)) (t : Written) : Type 0 where
  pub passed : AllByRecursion (Passes form has) rows
  pub text : after ≡ Some (before ++ flat_map (form_text form) rows)
  pub counts : t ≡ tally rows

-- the call that failed left a front of the text
pub record WritesFront (text : RowEntry → List ℕ) (rows : List RowEntry) (before : List ℕ)
    (after : Option (List ℕ)) : Type 0 where
  pub front : List ℕ
  pub rest : List ℕ
  pub is : flat_map text rows ≡ front ++ rest
  pub taken : after ≡ Some (before ++ front)

-- ---- refusals

abbrev pub IsRefusedRow : Bool → RowEntry → SlateDBError → Type 0
IsRefusedRow has r errors.EmptyKey = length r.key ≡ 0
IsRefusedRow has r (errors.KeyTooLong n) = (n ≡ length r.key) × (2 ^ 16 ≤ n)
IsRefusedRow has r (errors.ValueTooLong n) = (n ≡ length (operand r)) × (2 ^ 32 ≤ n)
IsRefusedRow has r errors.MergeOperatorMissing = (is_operand r ≡ true) × (has ≡ false)
IsRefusedRow has r _ = ⊥

abbrev pub IsRefusedText : Form → Bool → RowEntry → SlateDBError → Type 0
IsRefusedText forms.State has r e = e ≡ errors.OutOfMemory
IsRefusedText forms.Script has r e = (e ≡ errors.OutOfMemory) ⊎ IsRefusedRow has r e

-- the sink failed, or a row can't be written
abbrev pub IsUnwritten : Form → ℕ → ℕ → SlateDBError → Type 0
IsUnwritten form before after e =
    ((e ≡ errors.WriteFault) × Rose before after)
    ⊎ ((has : Bool) × (r : RowEntry) × IsRefusedText form has r e)
