-- What a run reads, line by line; acts: as the store tells them; t: what is the same for the whole run.
--     AreObjects os tables      the objects are these tables, each at its path
--     HasAsked t tables s name k acts      of a get at the state: where policies are set, filters were read before blocks, and let the key through; where its fold
--                 takes the row of a commit that was flushed, a block was read that has the key; nothing was put, and nothing is told where the name isn't open
--     ReadsFor t tables s line acts      so do the acts of a line that gets a key; a scan reads as it likes and puts nothing, a flush puts and does nothing else, and other lines do nothing
--     ReadsOf t tables s meant acts      the same of what a line means; a silent one does nothing
--     ReadsByLine t tables s ls parts      of lines from a state on each has its part of the acts, in order
--     IsReadInParts t ls known after objects      the acts behind the known ones are such parts, one behind the other, over the objects of the store after the run
--     HasReadByLine t ls before after objects      so are the acts of a run, where the store tells them; before, after: the acts that it tells
use Rattle.std.specs.Prelude.{◌≡◌, ◌≢◌, ℕ, true, List, [], ◌∷◌, ◌++◌, flat_map, Option, Some, None}
use Rattle.std.specs.List.{AllByRecursion}
use Rattle.slate_types.specs.declared.types.Ulid.{Ulid}
use Rattle.slate_types.specs.Outside.{Act, Objects, PutsNothing}
use Rattle.slate_txn.specs.declared.line.Line.{Line}
use Rattle.slate_txn.specs.declared.line.Line.TheVariants as lines
use Rattle.slate_txn.specs.State.{State, opening}
use Rattle.slate_txn.specs.Step.{Reader, reader}
use Rattle.slate_db.specs.Asked.{ReadsFiltersFirst, ReadsKey, needs_tables}
use Rattle.slate_db.specs.Installs.{Holds}
use Rattle.slate_language.specs.Replies.{after_lines, meanings}
use Rattle.slate_script.specs.Calls.Line.{IsPutAct}
use Rattle.slate_script.specs.StoredState.{IsObjectOf}
use Rattle.slate_script.specs.Terms.{Terms, rules_by}
use Rattle.slate_script.specs.Told.{asking_for}

pub record AreObjects (os : Objects) (tables : List (Ulid × List ℕ)) : Type 0 where
  pub held : Holds os tables
  pub each : AllByRecursion (IsObjectOf tables) os

pub record HasAsked (t : Terms) (tables : List (Ulid × List ℕ)) (s : State) (name k : List ℕ) (acts : List Act) : Type 0 where
  pub filters : t.policies ≢ [] → ReadsFiltersFirst t.parts.encode (asking_for t.policies k) tables acts
  pub finds : (from : Reader) → reader s name ≡ Some from → needs_tables (rules_by t) s from.at from.ops k ≡ true → ReadsKey t.parts.encode k tables acts
  pub alone : AllByRecursion PutsNothing acts
  pub closed : reader s name ≡ None → acts ≡ []

abbrev pub ReadsFor : Terms → List (Ulid × List ℕ) → State → Line → List Act → Type 0
ReadsFor t tables s (lines.Get name k) acts = HasAsked t tables s name k acts
ReadsFor t tables s (lines.Scan name order start end sts) acts = AllByRecursion PutsNothing acts
ReadsFor t tables s (lines.Prefix name order p start end sts) acts = AllByRecursion PutsNothing acts
ReadsFor t tables s lines.Flush acts = AllByRecursion IsPutAct acts
ReadsFor t tables s line acts = acts ≡ []

abbrev pub ReadsOf : Terms → List (Ulid × List ℕ) → State → List Line → List Act → Type 0
ReadsOf t tables s [] acts = acts ≡ []
ReadsOf t tables s (line ∷ rest) acts = ReadsFor t tables s line acts

abbrev pub ReadsByLine : Terms → List (Ulid × List ℕ) → State → List (List ℕ) → List (List Act) → Type 0
ReadsByLine t tables s [] [] = Unit {0}
ReadsByLine t tables s (l ∷ ls) (part ∷ parts) = ReadsOf t tables s (meanings (l ∷ [])) part × ReadsByLine t tables (after_lines (rules_by t) s (l ∷ [])) ls parts
ReadsByLine t tables s [] (part ∷ parts) = ⊥
ReadsByLine t tables s (l ∷ ls) [] = ⊥

pub record IsReadInParts (t : Terms) (ls : List (List ℕ)) (known : List Act) (after : Option (List Act)) (objects : Option Objects) : Type 0 where
  pub acts : List Act
  pub told : after ≡ Some (known ++ acts)
  pub os : Objects
  pub stand : objects ≡ Some os
  pub tables : List (Ulid × List ℕ)
  pub are : AreObjects os tables
  pub parts : List (List Act)
  pub whole : acts ≡ flat_map (λ part. part) parts
  pub each : ReadsByLine t tables opening ls parts

abbrev pub HasReadByLine : Terms → List (List ℕ) → Option (List Act) → Option (List Act) → Option Objects → Type 0
HasReadByLine t ls before after objects = (known : List Act) → before ≡ Some known → IsReadInParts t ls known after objects
