-- What an Ok rests on over a store that tells its acts alone: the objects answered each read of the call, or a section slipped through.
--     StandsAt encode os path kept      a table stands at the path among the objects, with these bytes and sections
--     IsSlipFrom encode os act      a read returned a section of such a table that isn't what stands there, and whose checksum fits
--     AnySlips encode os acts      one of the acts is such a read of the objects as they were by then
--     SlipsFrom encode os before after      so is one of the acts that a store told of a call; before, after: the acts that it tells
--     OrSlips os before after holds      of a call over a store that tells its acts this holds, or such a read is among them
--     ChecksFrom os before after      the objects answered each read of such a call, or such a read is among them
use Rattle.std.specs.Prelude.{◌≡◌, ◌⊎◌, ℕ, List, [], ◌∷◌, ◌++◌, Option, Some}
use Rattle.slate_types.specs.Outside.{Act, Objects, Reach, object_at}
use Rattle.slate_types.specs.World.{IsSlipOf, Kept}
use Rattle.slate_store.specs.Lying.{after_act}
use Rattle.slate_table.specs.Parts.{Encode, sum_fits}
use Rattle.slate_table.specs.Paths.{path_of}
use Rattle.slate_table.specs.Table.{IsTableOf, table_places}
use Rattle.slate_db.specs.Answered.{AnswersFrom}
use Rattle.slate_db.specs.Installs.{root}
use Rattle.slate_db.specs.Model.{Rows}

pub record StandsAt (encode : Encode) (os : Objects) (path : List ℕ) (kept : Kept) : Type 0 where
  pub id : ℕ
  pub named : path ≡ path_of root id
  pub there : object_at os path ≡ Some kept.bytes
  pub version : ℕ
  pub blocks : List Rows
  pub filters : List (List ℕ × List ℕ)
  pub is : IsTableOf encode kept.bytes version id blocks filters
  pub sections : kept.sections ≡ table_places encode version id blocks filters

abbrev pub IsSlipFrom : Encode → Objects → Act → Type 0
IsSlipFrom encode os (Act.read path start len answer) =
    (kept : Kept) × (bytes : List ℕ) × StandsAt encode os path kept × (answer ≡ Some bytes) × IsSlipOf sum_fits kept start len bytes
IsSlipFrom encode os _ = ⊥

abbrev pub AnySlips : Encode → Objects → List Act → Type 0
AnySlips encode os [] = ⊥
AnySlips encode os (act ∷ acts) = IsSlipFrom encode os act ⊎ AnySlips encode (after_act os act) acts

pub record SlipsFrom (encode : Encode) (os : Objects) (before after : Option (List Act)) : Type 0 where
  pub known : List Act
  pub acts : List Act
  pub began : before ≡ Some known
  pub ended : after ≡ Some (known ++ acts)
  pub slipped : AnySlips encode os acts

abbrev pub OrSlips : Objects → Reach → Reach → Type 0 → Type 0
OrSlips os before after holds = (known : List Act) → before.acts ≡ Some known → holds ⊎ SlipsFrom before.meaning.encode os before.acts after.acts

abbrev pub ChecksFrom : Objects → Reach → Reach → Type 0
ChecksFrom os before after = OrSlips os before after (AnswersFrom os before after)
