-- A script that loads rows into a new store, as a list of lines.
--     created r      when a row was made; a creation that is absent is 0
--     moment r      the moment of the row's line: its creation, or its expiry if that comes before
--     time_to_live now end      the time to live from a moment to an expiry
--     load_op r, load_lines rows      the operation that makes the row again; the lines of all
--     load_replies n rows      the replies to these lines, after the sequence n
--     CanLoad combine r      what lines can make again: a row within the limits of keys, values and
--                            of moments, no tombstone, and an operand only under an operator
--     prefixes_of_rows segments rows      the segment prefixes of the rows' keys
--     KeysPass segments rows      the tests of keys refuse none: each key has a prefix, none nests
--     reloaded n r      the row under another sequence, made at its line's moment
--     loaded_row n rows k      the row that is loaded for a key, after the sequence n
--     LoadsRows      so many lines load so many rows: each key has its row in the state at the last
--                    commit, and no other key has one
use Rattle.std.specs.Prelude.{◌≡◌, ℕ, ◌+◌, ◌-◌, ◌^◌, ◌<◌, true, false, if◌then◌else◌}
use Rattle.std.specs.Prelude.{List, [], ◌∷◌, filter_map, length, bytes_eq}
use Rattle.std.specs.Prelude.{Option, Some, None, is_some, IfSome, unwrap_or}
use Rattle.std.specs.Prelude.{ℤ, pos, ◌-ℤ◌, nat_abs, int_lt}
use Rattle.std.specs.Int.{int_min}
use Rattle.std.specs.List.{AllByRecursion}
use Rattle.slate_types.specs.declared.config.Ttl.{Ttl}
use Rattle.slate_types.specs.declared.config.Ttl.TheVariants.{NoExpiry, ExpireAfter}
use Rattle.slate_types.specs.declared.iter.IterationOrder.TheVariants.{Ascending}
use Rattle.slate_types.specs.declared.types.RowEntry.{RowEntry}
use Rattle.slate_types.specs.declared.types.ValueDeletable.{ValueDeletable}
use Rattle.slate_types.specs.declared.types.ValueDeletable.TheVariants as values
use Rattle.slate_types.specs.Fold.{Combine}
use Rattle.slate_types.specs.Rows.{is_operand, is_tombstone, operand}
use Rattle.slate_mem.specs.declared.WriteOp.{WriteOp}
use Rattle.slate_mem.specs.declared.WriteOp.TheVariants as ops
use Rattle.slate_mem.specs.KeyTests.{Segments, nest, prefix_by, segment_refusal}
use Rattle.slate_txn.specs.declared.line.Line.{Line}
use Rattle.slate_txn.specs.declared.line.Line.TheVariants as lines
use Rattle.slate_txn.specs.State.{Rules, opening, last}
use Rattle.slate_txn.specs.Reads.{state_at}
use Rattle.slate_txn.specs.Reply.{Reply, NowIs, Written}
use Rattle.slate_txn.specs.Step.{after, answers}
use Rattle.slate_tables.specs.Exported.{KeysCome}

abbrev pub created : RowEntry → ℤ
created r = unwrap_or r.create_ts (pos 0)

abbrev pub earlier : ℤ → Option ℤ → ℤ
earlier now None = now
earlier now (Some end) = int_min now end

abbrev pub moment : RowEntry → ℤ
moment r = earlier (created r) r.expire_ts

abbrev pub time_to_live : ℤ → Option ℤ → Ttl
time_to_live now None = NoExpiry
time_to_live now (Some end) = ExpireAfter (nat_abs (end -ℤ now))

abbrev pub value_op : Ttl → ValueDeletable → WriteOp
value_op ttl (values.Value v) = ops.Put v (record { ttl = ttl })
value_op ttl (values.Merge v) = ops.Merge v (record { ttl = ttl })
value_op ttl values.Tombstone = ops.Delete

abbrev pub load_op : RowEntry → WriteOp
load_op r = value_op (time_to_live (moment r) r.expire_ts) r.value

abbrev pub load_lines : List RowEntry → List Line
load_lines [] = []
load_lines (r ∷ rows) =
    lines.Now (moment r) ∷ lines.Write ((r.key, load_op r) ∷ []) ∷ load_lines rows

abbrev pub load_replies : ℕ → List RowEntry → List Reply
load_replies n [] = []
load_replies n (r ∷ rows) = NowIs (moment r) ∷ Written (Some (n + 1)) ∷ load_replies (n + 1) rows

-- no later than the greatest moment
abbrev pub IsReached : ℤ → Type 0
IsReached end = int_lt (pos (2 ^ 63 - 1)) end ≡ false

pub record CanLoad (combine : Option (List ℕ → Combine)) (r : RowEntry) : Type 0 where
  pub some : 0 < length r.key
  pub short : length r.key < 2 ^ 16
  pub value : length (operand r) < 2 ^ 32
  pub kept : is_tombstone r ≡ false
  pub operator : is_operand r ≡ true → is_some combine ≡ true
  pub expiry : IfSome r.expire_ts IsReached

abbrev pub prefixes_of_rows : Segments → List RowEntry → List (List ℕ)
prefixes_of_rows segments rows = filter_map (λ r. prefix_by segments r.key) rows

pub record KeysPass (segments : Segments) (rows : List RowEntry) : Type 0 where
  pub each : AllByRecursion (λ r. segment_refusal segments r.key ≡ None) rows
  pub apart : let all = prefixes_of_rows segments rows in
      AllByRecursion (λ p. AllByRecursion (λ q. nest p q ≡ false) all) all

abbrev pub reloaded : ℕ → RowEntry → RowEntry
reloaded n r = record r { seq = n; create_ts = Some (moment r) }

abbrev pub loaded_row : ℕ → List RowEntry → List ℕ → Option RowEntry
loaded_row n [] k = None
loaded_row n (r ∷ rows) k =
    if bytes_eq r.key k then Some (reloaded (n + 1) r) else loaded_row (n + 1) rows k

-- whatever the default time to live is
abbrev pub LoadsRows : Type 0
LoadsRows = (r : Rules) (rows : List RowEntry) → KeysPass r.segment rows →
    KeysCome Ascending rows → AllByRecursion (CanLoad r.combine) rows →
    r.start_seq + length rows < 2 ^ 64 - 1 →
    let s = after r opening (load_lines rows) in
    (answers r opening (load_lines rows) ≡ load_replies r.start_seq rows)
    × ((k : List ℕ) → state_at r s.commits (last r s) k ≡ loaded_row r.start_seq rows k)
