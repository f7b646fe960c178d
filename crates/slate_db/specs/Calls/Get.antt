-- Reads of a key by an open transaction or an open snapshot. by: what filters are asked; id: the
-- reader; k: the key; before, after: what a call reaches; c: the core.
--     rows_kept ops k      the rows of own operations of the key, the oldest first
--     rows_read m c k at ops      the key's rows in the commits up to a sequence, and own ones
--                behind them
--     SeesKey by id k at before after operator_alone c result      the row that it sees at a
--                sequence
--     GetsKey by id k before after operator_alone old new result      what it is answered, at its
--                own start
use Rattle.std.specs.Prelude.{◌≡◌, ◌≤◌, ◌++◌, ◌∷◌, ℕ, true, List, [], map, Option, None, Some, option_map, IfOk, Result}
use Rattle.slate_types.specs.declared.error.SlateDBError.{SlateDBError}
use Rattle.slate_types.specs.declared.types.KeyValue.{KeyValue}
use Rattle.slate_types.specs.declared.types.RowEntry.{RowEntry}
use Rattle.slate_types.specs.Fold.{Combine, IsLawful, KeepsShort, fold_rows, shown}
use Rattle.slate_types.specs.Outside.{Meaning, Reach}
use Rattle.slate_types.specs.Rows.{key_value}
use Rattle.slate_types.specs.World.{IsCall}
use Rattle.slate_mem.specs.declared.WriteOp.{WriteOp}
use Rattle.slate_mem.specs.Batch.{Ops, kept, replaces}
use Rattle.slate_mem.specs.KeyTests.{Segments}
use Rattle.slate_mem.specs.RowOf.{own_row}
use Rattle.slate_txn.specs.declared.line.Line.TheVariants as lines
use Rattle.slate_txn.specs.Reads.{key_rows, up_to}
use Rattle.slate_txn.specs.Reply.{Found}
use Rattle.slate_txn.specs.State.{Tx}
use Rattle.slate_txn.specs.Step as model
use Rattle.slate_txn.specs.Step.{Reader, reader}
use Rattle.slate_db.specs.Asked.{Asks, Finds, needs_tables}
use Rattle.slate_db.specs.Calls.Common.{IsTransaction}
use Rattle.slate_db.specs.Meaning.{combine_of, rules_in, rules_of}
use Rattle.slate_db.specs.Model.{CoreModel, Rows}
use Rattle.slate_db.specs.Readable.{IsAnswered, IsOwnRead, IsRead, MeetsOperand, decides_own, keeps_merge, reader_at}
use Rattle.slate_db.specs.Shown.{Asking}
use Rattle.slate_db.specs.Vouched.{IsVouchedFor}

abbrev pub rows_kept : Ops → List ℕ → Rows
rows_kept ops k = map (own_row k) (kept ops k)

abbrev pub rows_read : Meaning → CoreModel → List ℕ → ℕ → Ops → Rows
rows_read m c k at ops =
    key_rows (rules_of c.settings m) k (up_to at c.state.commits) ++ rows_kept ops k

-- own, decided, folded: where own operations decide, no store is asked; missing, operand: an
-- operand without an operator
pub record SeesKey (by : Asking) (id k : List ℕ) (at : ℕ) (before after : Reach)
    (operator_alone : Type 0) (c : CoreModel) (result : Result (Option RowEntry) SlateDBError) :
    Type 0 where
  pub read : (from : Reader) → reader c.state id ≡ Some from → IsRead by at before after c
      (λ row. c.floor ≤ at → row ≡ fold_rows (combine_of before.meaning k)
      (rows_read before.meaning c k at from.ops)) result
  pub asks : Asks by before after c
  pub finds : (from : Reader) → reader c.state id ≡ Some from → c.floor ≤ at → Finds by k
      (needs_tables (rules_of c.settings before.meaning) c.state at from.ops k) before after c
      result
  pub own : (t : Tx) (op : WriteOp) → IsTransaction c id t → kept t.ops k ≡ op ∷ [] →
      replaces op ≡ true → IsOwnRead before after (λ row. row ≡ Some (own_row k op)) result
  pub decided : (t : Tx) → IsTransaction c id t → decides_own k t.ops ≡ true →
      IsCall before after [] × operator_alone
  pub folded : (t : Tx) → IsTransaction c id t → decides_own k t.ops ≡ true →
      IsLawful (combine_of before.meaning k) → KeepsShort (combine_of before.meaning k) →
      IfOk result (λ row. row ≡ fold_rows (combine_of before.meaning k) (rows_kept t.ops k))
  pub missing : (t : Tx) → IsTransaction c id t → before.meaning.combine ≡ None →
      keeps_merge k t.ops ≡ true → IfOk result (λ row. ⊥)
  pub operand : (from : Reader) → reader c.state id ≡ Some from → before.meaning.combine ≡ None →
      MeetsOperand k at from.ops c → IfOk result (λ row. ⊥)

-- the same of the answer, which the model gives too
pub record GetsKey (by : Asking) (id k : List ℕ) (before after : Reach) (operator_alone : Type 0)
    (old new : CoreModel) (result : Result (Option KeyValue) SlateDBError) : Type 0 where
  pub read : IsRead by (reader_at old.state id) before after old (λ a. (g : Segments) →
      model.step (rules_in old.settings before.meaning g) old.state (lines.Get id k)
      ≡ (new.state, Found a)) result
  pub asks : Asks by before after old
  pub finds : (from : Reader) → reader old.state id ≡ Some from → Finds by k
      (needs_tables (rules_of old.settings before.meaning) old.state from.at from.ops k)
      before after old result
  pub own : (t : Tx) (op : WriteOp) → IsTransaction old id t → kept t.ops k ≡ op ∷ [] →
      replaces op ≡ true → IsOwnRead before after (λ a. (f : Combine) →
      a ≡ option_map key_value (shown f (own_row k op ∷ []))) result
  pub decided : (t : Tx) → IsTransaction old id t → decides_own k t.ops ≡ true →
      IsCall before after [] × operator_alone
  pub folded : (t : Tx) → IsTransaction old id t → decides_own k t.ops ≡ true →
      IsLawful (combine_of before.meaning k) → KeepsShort (combine_of before.meaning k) →
      IfOk result (λ a. a ≡ option_map key_value (shown (combine_of before.meaning k) (rows_kept
      t.ops k)))
  pub missing : (t : Tx) → IsTransaction old id t → before.meaning.combine ≡ None →
      keeps_merge k t.ops ≡ true → IfOk result (λ a. ⊥)
  pub operand : (from : Reader) → reader old.state id ≡ Some from → before.meaning.combine ≡ None →
      MeetsOperand k from.at from.ops old → IfOk result (λ a. ⊥)
  pub vouched : IsAnswered by.policies before after old → (other : List ℕ) →
      IsVouchedFor before.meaning old other → IsVouchedFor before.meaning new other
