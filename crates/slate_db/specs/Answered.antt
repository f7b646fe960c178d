-- What a store answered in a call, as the acts that it tells have it.
--     AnswersAct os act      where the act is a read, it was answered by the objects
--     AnswersAs os before after      the store tells its acts, and answered each read of a call by the objects; before, after: the acts that it tells
--     Answering os objects before after      the store holds the objects, or tells its acts, and answered each read of a call by them
--     AnswersFrom os before after      the same of what a call reaches
--     AddsActs before after      of what a store tells of its acts: those from before, and maybe more behind them
--     AddsPuts ts before after      of what a store tells of its acts: the puts of these tables were added, from the last to the first
--     AddsTables old new before after      of two lists of tables the second has some more, and their puts were told
use Rattle.std.specs.Prelude.{◌≡◌, ◌⊎◌, ℕ, List, [], ◌∷◌, ◌++◌, Option, Some}
use Rattle.std.specs.List.{AllByRecursion}
use Rattle.slate_types.specs.declared.types.Ulid.{Ulid}
use Rattle.slate_types.specs.Outside.{Objects, Reach}
pub use Rattle.slate_types.specs.Outside.{PutsNothing, AddsReads}
use Rattle.slate_store.specs.Store.{Act, AddsAct, AnswersRead}
use Rattle.slate_table.specs.Paths.{path_of}
use Rattle.slate_db.specs.Installs.{root}

abbrev pub AnswersAct : Objects → Act → Type 0
AnswersAct os (Act.read path start len answer) = AnswersRead os path start len answer
AnswersAct os _ = Unit {0}

pub record AnswersAs (os : Objects) (before after : Option (List Act)) : Type 0 where
  pub known : List Act
  pub more : List Act
  pub began : before ≡ Some known
  pub ended : after ≡ Some (known ++ more)
  pub each : AllByRecursion (AnswersAct os) more

abbrev pub Answering : Objects → Option Objects → Option (List Act) → Option (List Act) → Type 0
Answering os objects before after = (objects ≡ Some os) ⊎ AnswersAs os before after

abbrev pub AnswersFrom : Objects → Reach → Reach → Type 0
AnswersFrom os before after = Answering os before.objects before.acts after.acts

abbrev pub AddsActs : Option (List Act) → Option (List Act) → Type 0
AddsActs before after = (known : List Act) → before ≡ Some known → (more : List Act) × (after ≡ Some (known ++ more))

abbrev pub AddsPuts : List (Ulid × List ℕ) → Option (List Act) → Option (List Act) → Type 0
AddsPuts [] before after = after ≡ before
AddsPuts (t ∷ ts) before after = (middle : Option (List Act)) × AddsPuts ts before middle ×
    AddsAct middle (Act.put (path_of root t.0.0) t.1) after

abbrev pub AddsTables : List (Ulid × List ℕ) → List (Ulid × List ℕ) → Option (List Act) → Option (List Act) → Type 0
AddsTables old new before after = (ts : List (Ulid × List ℕ)) × (new ≡ old ++ ts) × AddsPuts ts before after
