-- What a line is answered.
use Rattle.std.specs.Prelude.{ℕ, List, Option, ℤ}
use Rattle.slate_types.specs.declared.error.SlateDBError.{SlateDBError}
use Rattle.slate_types.specs.declared.types.KeyValue.{KeyValue}
use Rattle.slate_txn.specs.State.{Commit}

pub data Reply : Type 0 where
  Done : Reply
  Refused : SlateDBError → Reply
  NowIs : ℤ → Reply
  Begun : List ℕ → ℕ → Reply
  SnapshotAt : List ℕ → ℕ → Reply
  Found : Option KeyValue → Reply
  RowsAre : List KeyValue → Reply
  Committed : Option ℕ → Reply
  Written : Option ℕ → Reply
  Frozen : ℕ → Reply
  Flushed : ℕ → Reply
  JournalIs : List Commit → Reply
