-- What a journal of changes of records says.
--     AreIndexed fs r es      at each sequence the entries are just those of the records; all
--             commits change records; and each would read the same just before it, whatever others
--             tracked
use Rattle.std.specs.Prelude.{ℕ, List}
use Rattle.slate_txn.specs.declared.event.Event.{Event}
use Rattle.slate_txn.specs.Replay.{replay}
use Rattle.slate_txn.specs.State.{Rules}
use Rattle.slate_index.specs.Changes.{HasEntries}
use Rattle.slate_index.specs.Entries.{FieldsModel}
use Rattle.slate_index.specs.Journals.{AreChanges, values_at}
use Rattle.slate_threads.specs.Own.{AreSerial}

pub record AreIndexed (fs : FieldsModel) (r : Rules) (es : List Event) : Type 0 where
  pub entries : (n : ℕ) → HasEntries fs (values_at r (replay es).commits n)
  pub changes : AreChanges fs es
  pub serial : AreSerial r es
