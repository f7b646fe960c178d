use Rattle.std.proofs.Common.{◌≡◌, take}
use Rattle.slate_db.proofs.flight.share_all.Given as goal

abbrev pub invariant-loop-table : goal.invariant-loop-table
invariant-loop-table l = record { same : l.tables ≡ l.initial.tables; shared : l.shared.items ≡ take l.table-index l.initial.tables }
