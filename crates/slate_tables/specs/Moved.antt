-- A state that is moved: exported of tables as a script, and loaded into a new store.
--     as_unnumbered r      the row as a reader gets it, but for its sequence
--     as_moved r      the same, made at its line's moment
--     CanMove r row      the row can be loaded and spelled
--     Moves r rows out      the script's replies, and the state at the last commit after it
--     ScriptLoadsState      a script moves the state
use Rattle.std.specs.Prelude.{◌≡◌, ℕ, ◌+◌, ◌-◌, ◌^◌, ◌<◌, List, flat_map, length, option_map}
use Rattle.std.specs.List.{AllByRecursion}
use Rattle.slate_types.specs.declared.types.KeyValue.{KeyValue}
use Rattle.slate_types.specs.declared.types.RowEntry.{RowEntry}
use Rattle.slate_types.specs.Rows.{key_value}
use Rattle.slate_store.specs.Lines.{lines_of}
use Rattle.slate_table.specs.Stored.{stored}
use Rattle.slate_txn.specs.Reads.{state_at}
use Rattle.slate_txn.specs.State.{Rules, combine_at, last, opening}
use Rattle.slate_language.specs.Replies.{after_lines, replies, reply_line}
use Rattle.slate_tables.specs.Exported.{IsState}
use Rattle.slate_tables.specs.Loading.{CanLoad, KeysPass, load_replies, moment}
use Rattle.slate_tables.specs.LoadText.{CanSpell, script_of}

abbrev pub as_unnumbered : RowEntry → KeyValue
as_unnumbered r = record (key_value r) { seq = 0 }

abbrev pub as_moved : RowEntry → KeyValue
as_moved r = record (key_value r) { seq = 0; create_ts = moment r }

abbrev pub CanMove : Rules → RowEntry → Type 0
CanMove r row = CanLoad r.combine row × CanSpell row

-- rows: all rows of the old store's tables; out: the state that they fold to
pub record Moves (r : Rules) (rows out : List RowEntry) : Type 0 where
  pub replied : replies r (script_of out) ≡ flat_map reply_line (load_replies r.start_seq out)
  pub state : (k : List ℕ) → let s = after_lines r opening (lines_of (script_of out)) in
      option_map as_unnumbered (state_at r s.commits (last r s) k)
      ≡ option_map as_moved (stored (combine_at r k) rows k)

-- The new store has the same operator. Its default time to live may be another one.
abbrev pub ScriptLoadsState : Type 0
ScriptLoadsState = (r : Rules) (rows out : List RowEntry) → IsState (combine_at r) rows out →
    KeysPass r.segment out → AllByRecursion (CanMove r) out →
    r.start_seq + length out < 2 ^ 64 - 1 → Moves r rows out
