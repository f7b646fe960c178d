-- What contracts see of what lies behind the lock.
--     LockedModel      the journal, and the flush on its way
--     holds_at events flight      these two
--     grow h e      with one event more
--     frozen_by h is      after a freeze, of which an event says so or none does
--     IsFull n events      the journal has no place for so many events more, beside the ends of what is open
use Rattle.std.specs.Prelude.{ℕ, ◌+◌, ◌<◌, List, [], ◌∷◌, ◌++◌, length, Option, Bool, true, false}
use Rattle.slate_txn.specs.declared.event.Event.{Event}
use Rattle.slate_txn.specs.declared.event.Event.TheVariants.{Freeze}
use Rattle.slate_txn.specs.Replay.{replay}
use Rattle.slate_db.specs.Log.{LIMIT, ends_of}
use Rattle.slate_db.specs.declared.flight.Flight.{Flight}

pub record LockedModel : Type 0 where
  pub events : List Event
  pub flight : Option Flight

abbrev pub holds_at : List Event → Option Flight → LockedModel
holds_at events flight = record { events = events; flight = flight }

abbrev pub grow : LockedModel → Event → LockedModel
grow h e = holds_at (h.events ++ e ∷ []) h.flight

abbrev pub frozen_by : LockedModel → Bool → LockedModel
frozen_by h true = grow h Freeze
frozen_by h false = h

abbrev pub IsFull : ℕ → List Event → Type 0
IsFull n events = LIMIT < length events + ends_of (replay events) + n
