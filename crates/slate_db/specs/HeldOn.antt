-- What a flush carries on of the tables that the journal names. before, after: what the call reaches
--     HoldsOn before after old new      where the store held them, it holds those that are named now
--     TellsOn before after old new      so do the objects as the told acts left them, of a store that tells its acts
--     FiltersOn policies m old new      where they had the filters of the policies, so have those that are named now
use Rattle.std.specs.Prelude.{◌≡◌, List, ◌++◌, Some}
use Rattle.slate_types.specs.Outside.{Act, Objects, Reach}
use Rattle.slate_filter.specs.Policy.{Policy}
use Rattle.slate_store.specs.Lying.{after_acts}
use Rattle.slate_db.specs.Installs.{Holds, HoldsTables, tables_of}
use Rattle.slate_db.specs.Meaning.{Meaning}
use Rattle.slate_db.specs.Model.{CoreModel}
use Rattle.slate_db.specs.Readable.{AreFiltered}

abbrev pub HoldsOn : Reach → Reach → CoreModel → CoreModel → Type 0
HoldsOn before after old new = (os : Objects) → before.objects ≡ Some os → Holds os (tables_of old.events) → HoldsTables after.objects new.events

abbrev pub TellsOn : Reach → Reach → CoreModel → CoreModel → Type 0
TellsOn before after old new = (os : Objects) (known more : List Act) → before.acts ≡ Some known → after.acts ≡ Some (known ++ more) → Holds os (tables_of old.events) → Holds (after_acts os more) (tables_of new.events)

abbrev pub FiltersOn : List Policy → Meaning → CoreModel → CoreModel → Type 0
FiltersOn policies m old new = AreFiltered m.encode policies (tables_of old.events) → AreFiltered m.encode policies (tables_of new.events)
