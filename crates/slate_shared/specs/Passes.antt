-- What contracts see of a pass and of a transaction.
--     PassModel      its table, its parts, the events that it has seen, and the places of its own commits, writes and installs
--     Opened      its table, the events seen, the id, and what it did and saw
--     pass_model z v      a pass with this view
use Rattle.std.specs.Prelude.{ℕ, List}
use Rattle.atomic_table.specs.Seated.{TableId}
use Rattle.slate_txn.specs.declared.event.Event.{Event}
use Rattle.slate_txn.specs.State.{Tx}
use Rattle.slate_shared.specs.declared.board.View.{View}

pub record PassModel : Type 0 where
  pub table : TableId
  pub parts : ℕ
  pub seen : List Event
  pub own : List ℕ

-- it has no place of its own before its commit
pub record Opened : Type 0 where
  pub table : TableId
  pub seen : List Event
  pub id : List ℕ
  pub tx : Tx

abbrev pub pass_model : TableId → View → PassModel
pass_model z v = record { table = z; parts = v.parts; seen = v.seen; own = v.own }
