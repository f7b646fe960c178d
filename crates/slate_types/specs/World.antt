-- What an iterator takes its outside for, and what its calls met of that.
--     Section      where a section lies in an object, and its cover: what its checksum covers beside its bytes
--     Kept      an object: its bytes, and of a table its sections, the separators of its blocks, and their rows, as they are read
--     World      what the outside is taken for: the objects that an iterator may read, by their paths, what a checksum fits, and the meaning
--     nothing      the world of sources in memory
--     IsReadAct act      the act is a read
--     AnswersObjects os act, AnswersWorld w act      a read was answered by these objects, or by the object that the world has
--     IsCall before after reads      a call made these reads, and nothing else; of a store that tells its objects each was answered by them
--     Made before after means      a call made some reads, and they mean this
--     IsReadAt paths act, ReadsAt paths before after      a read is of an object at one of these paths; so is each read of a call
--     HoldsWorld os w      the objects hold those of the world
--     Sees w before after      a call met the world: the store tells that it holds these objects, or that it answered each read by them
--     IsSlip w act      a read returned a section that isn't the world's, and whose checksum fits
--     Checks w before after      a call over a store that tells its reads met the world, or a read of it slipped
use Rattle.std.specs.Prelude.{◌≡◌, ◌≢◌, ◌⊎◌, ℕ, ◌+◌, ◌-◌, ◌≤◌, Bool, true, false, List, ◌++◌, length, Contains, Option, Some, None, IfSome}
use Rattle.std.specs.List.{AllByRecursion}
use Rattle.slate_types.specs.declared.types.RowEntry.{RowEntry}
use Rattle.slate_types.specs.Outside.{Objects, Act, object_at, part, part_of, Meaning, no_parts, Reach}

pub record Section : Type 0 where
  pub at : ℕ
  pub len : ℕ
  pub cover : List ℕ

pub record Kept : Type 0 where
  pub bytes : List ℕ
  pub sections : List Section
  pub keys : List (List ℕ)
  pub blocks : List (List RowEntry)

-- fits: whether the last four bytes of a section are the checksum of what it covers: a cover, and the section's other bytes
pub record World : Type 0 where
  pub holds : List ℕ → Option Kept
  pub fits : List ℕ → List ℕ → Bool
  pub meaning : Meaning

abbrev pub nothing : World
nothing = record { holds = λ path. None; fits = λ cover part. false; meaning = no_parts }

-- ---- what a call read

abbrev pub IsReadAct : Act → Type 0
IsReadAct (Act.read path start len answer) = Unit {0}
IsReadAct _ = ⊥

abbrev pub AnswersObjects : Objects → Act → Type 0
AnswersObjects os (Act.read path start len answer) = answer ≡ part_of (object_at os path) start len
AnswersObjects os _ = Unit {0}

abbrev pub AnswersWorld : World → Act → Type 0
AnswersWorld w (Act.read path start len answer) = IfSome (w.holds path) (λ kept. answer ≡ part_of (Some kept.bytes) start len)
AnswersWorld w _ = Unit {0}

pub record IsCall (before after : Reach) (reads : List Act) : Type 0 where
  pub objects : after.objects ≡ before.objects
  pub meaning : after.meaning ≡ before.meaning
  pub adds : (known : List Act) → before.acts ≡ Some known → after.acts ≡ Some (known ++ reads)
  pub each : AllByRecursion IsReadAct reads
  pub answered : (os : Objects) → before.objects ≡ Some os → AllByRecursion (AnswersObjects os) reads

abbrev pub Made : Reach → Reach → (List Act → Type 0) → Type 0
Made before after means = (reads : List Act) × IsCall before after reads × means reads

abbrev pub IsReadAt : List (List ℕ) → Act → Type 0
IsReadAt paths (Act.read path start len answer) = Contains paths path
IsReadAt paths _ = Unit {0}

abbrev pub ReadsAt : List (List ℕ) → Reach → Reach → Type 0
ReadsAt paths before after = Made before after (λ reads. AllByRecursion (IsReadAt paths) reads)

-- ---- what a call met

abbrev pub HoldsWorld : Objects → World → Type 0
HoldsWorld os w = (path : List ℕ) (kept : Kept) → w.holds path ≡ Some kept → object_at os path ≡ Some kept.bytes

pub record Honest (w : World) (before : Reach) : Type 0 where
  pub os : Objects
  pub tells : before.objects ≡ Some os
  pub holds : HoldsWorld os w

pub record Answered (w : World) (before after : Reach) : Type 0 where
  pub known : List Act
  pub reads : List Act
  pub began : before.acts ≡ Some known
  pub ended : after.acts ≡ Some (known ++ reads)
  pub each : AllByRecursion (AnswersWorld w) reads

pub record Sees (w : World) (before after : Reach) : Type 0 where
  pub meaning : w.meaning ≡ before.meaning
  pub met : Honest w before ⊎ Answered w before after

-- ---- what slips through

pub record IsSlipOf (fits : List ℕ → List ℕ → Bool) (kept : Kept) (start len : ℕ) (answer : List ℕ) : Type 0 where
  pub place : Section
  pub among : Contains kept.sections place
  pub whole : length answer ≡ len
  pub from : start ≤ place.at
  pub upto : place.at + place.len ≤ start + len
  pub differs : part (place.at - start) place.len answer ≢ part place.at place.len kept.bytes
  pub passes : fits place.cover (part (place.at - start) place.len answer) ≡ true

abbrev pub IsSlip : World → Act → Type 0
IsSlip w (Act.read path start len answer) = (kept : Kept) × (bytes : List ℕ) × (w.holds path ≡ Some kept) × (answer ≡ Some bytes) × IsSlipOf w.fits kept start len bytes
IsSlip w _ = ⊥

pub record Slips (w : World) (before after : Reach) : Type 0 where
  pub known : List Act
  pub reads : List Act
  pub began : before.acts ≡ Some known
  pub ended : after.acts ≡ Some (known ++ reads)
  pub act : Act
  pub among : Contains reads act
  pub slip : IsSlip w act

abbrev pub Checks : World → Reach → Reach → Type 0
Checks w before after = (known : List Act) → before.acts ≡ Some known → w.meaning ≡ before.meaning → Sees w before after ⊎ Slips w before after
