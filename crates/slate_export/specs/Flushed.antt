-- What is exported of the tables that a run left.
--     LeftTables m r layout objects s ids handles      the store holds what a run left, whose
--                            tables were
--                                                      listed and opened
--     WritesFlushed r s before after      each row of the model's state at the last flush was
--                            written, as
--                                         a `get` answers it, keys rising
--     MovesFlushed m r s before after      a script was written that moves this state into a new
--                            store
use Rattle.std.specs.Prelude.{◌≡◌, ◌+◌, ◌-◌, ◌^◌, ◌<◌, ℕ, List, ◌++◌, flat_map, length}
use Rattle.std.specs.Prelude.{Option, Some, option_map}
use Rattle.std.specs.List.{AllByRecursion}
use Rattle.slate_types.specs.declared.iter.IterationOrder.TheVariants.{Ascending}
use Rattle.slate_types.specs.declared.types.RowEntry.{RowEntry}
use Rattle.slate_types.specs.declared.types.Ulid.{Ulid}
use Rattle.slate_types.specs.Lawful.{IsLawfulTransform}
use Rattle.slate_types.specs.Outside.{Objects}
use Rattle.slate_store.specs.Lines.{lines_of}
use Rattle.slate_block.specs.ReadingLaws.{EachIsAByte}
use Rattle.slate_table.specs.declared.info.SsTableHandle.{SsTableHandle}
use Rattle.slate_txn.specs.Reads.{state_at}
use Rattle.slate_txn.specs.State.{Rules, State, last, opening}
use Rattle.slate_language.specs.Replies.{after_lines, replies, reply_line}
use Rattle.slate_tables.specs.Exported.{KeysCome, row_with_key}
use Rattle.slate_tables.specs.Listed.{IsListed}
use Rattle.slate_tables.specs.Loading.{KeysPass, load_replies}
use Rattle.slate_tables.specs.LoadText.{script_of}
use Rattle.slate_tables.specs.Merging.{MatchEach}
use Rattle.slate_tables.specs.Moved.{as_moved, as_unnumbered}
use Rattle.slate_tables.specs.Opened.{WasOpened}
use Rattle.slate_tables.specs.Writing.{state_line}
use Rattle.slate_db.specs.Flushed.{Layout}
use Rattle.slate_db.specs.Meaning.{Meaning}
use Rattle.slate_script.specs.StoredState.{IsStoredState}

-- each number of an object is a byte
pub record LeftTables (m : Meaning) (r : Rules) (layout : Layout) (objects : Option Objects)
    (s : State) (ids : List Ulid) (handles : List SsTableHandle) : Type 0 where
  pub stored : IsStoredState m r layout objects s
  pub lawful : IsLawfulTransform m.encode m.decode
  pub bytes : AllByRecursion (λ o. EachIsAByte o.1) stored.os
  pub listed : IsListed stored.os ids
  pub opened : MatchEach (WasOpened objects) ids handles

pub record WritesFlushed (r : Rules) (s : State) (before : List ℕ) (after : Option (List ℕ))
    : Type 0 where
  pub out : List RowEntry
  pub rise : KeysCome Ascending out
  pub each : (k : List ℕ) → row_with_key out k ≡ state_at r s.commits s.flushed k
  pub text : after ≡ Some (before ++ flat_map state_line out)

-- t: the rules of the new run, and n: its state after the script
pub record MovesInto (t r : Rules) (s : State) (out : List RowEntry) : Type 0 where
  pub replied : replies t (script_of out) ≡ flat_map reply_line (load_replies t.start_seq out)
  pub state : (k : List ℕ) → let n = after_lines t opening (lines_of (script_of out)) in
      option_map as_unnumbered (state_at t n.commits (last t n) k)
      ≡ option_map as_moved (state_at r s.commits s.flushed k)

pub record MovesFlushed (m : Meaning) (r : Rules) (s : State) (before : List ℕ)
    (after : Option (List ℕ)) : Type 0 where
  pub out : List RowEntry
  pub text : after ≡ Some (before ++ script_of out)
  pub moves : (t : Rules) → t.combine ≡ m.combine → KeysPass t.segment out →
      t.start_seq + length out < 2 ^ 64 - 1 → MovesInto t r s out
