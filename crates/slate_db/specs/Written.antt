-- What a write makes.
--     after_write c n now ops rows spare      the core after the commit n, but for the prefixes that it records
--     IsWritten old new n now ops      the commit's rows are in memory, and an event says so; nothing changes where the batch is empty
use Rattle.std.specs.Prelude.{◌≡◌, ℕ, [], ◌∷◌, ◌++◌, Option, Some, None, ℤ}
use Rattle.slate_mem.specs.Batch.{Ops, batch_keys}
use Rattle.slate_txn.specs.declared.event.Event.TheVariants as events
use Rattle.slate_db.specs.Model.{CoreModel, Rows}

-- rows: the active rows after it
abbrev pub after_write : CoreModel → ℕ → ℤ → Ops → Rows → ℕ → CoreModel
after_write c n now ops rows spare = record c {
  state = record c.state { commits = c.state.commits ++ (record { seq = n; now = now; ops = ops; tracked = batch_keys ops } ∷ []) };
  events = c.events ++ (events.Write n now ops ∷ []);
  spare = spare;
  active = rows;
}

abbrev pub IsWritten : CoreModel → CoreModel → Option ℕ → ℤ → Ops → Type 0
IsWritten old new None now ops = (ops ≡ []) × (new ≡ old)
IsWritten old new (Some n) now ops = new ≡ record (after_write old n now ops new.active new.spare) { segments = new.segments }
