-- What a freeze does.
--     IsFrozen old new      the active rows stand behind the frozen ones, and an event says so; nothing changes where there are none
use Rattle.std.specs.Prelude.{◌≡◌, ◌≢◌, ◌⊎◌, [], ◌∷◌, ◌++◌}
use Rattle.slate_txn.specs.declared.event.Event.TheVariants as events
use Rattle.slate_db.specs.Model.{CoreModel}

abbrev pub IsFrozen : CoreModel → CoreModel → Type 0
IsFrozen old new = ((old.active ≡ []) × (new ≡ old))
    ⊎ ((old.active ≢ []) × (new ≡ record old { events = old.events ++ (events.Freeze ∷ []); spare = new.spare; active = []; frozen = old.frozen ++ (old.active ∷ []) }))
