-- What a store tells that answers chosen reads otherwise.
--     LyingStoreModel      answers: the chosen ones, by their numbers from 1; objects: what was put; acts: what was done, oldest first
--     told_objects answers os      the objects, which are told where no answer is chosen
--     after_act os act, after_acts os acts      the objects once a put stands at its path; the same of several acts
--     act_of read, reads_of acts      a read as an act; the reads among the acts
--     chosen_for number answers      the first answer that is chosen for the number
--     answer_as chosen honest      the chosen answer, and else the honest one
--     AreAnswered answers before acts      each read and length was answered so, behind the acts before
use Rattle.std.specs.Prelude.{◌≡◌, ℕ, ◌+◌, ◌==◌, List, [], ◌∷◌, ◌++◌, length, find, Option, Some, None}
use Rattle.slate_types.specs.Outside.{Objects}
use Rattle.slate_store.specs.declared.lying_store.StoreRead.{StoreRead}
use Rattle.slate_store.specs.Store.{Act, object_at, part_of, len_of, with_object}

abbrev pub Chosen : Type 0
Chosen = List (ℕ × Option (List ℕ))

pub record LyingStoreModel : Type 0 where
  pub answers : Chosen
  pub objects : Objects
  pub acts : List Act

abbrev pub told_objects : Chosen → Objects → Option Objects
told_objects [] os = Some os
told_objects (c ∷ cs) os = None

abbrev pub after_act : Objects → Act → Objects
after_act os (Act.put path bytes) = with_object os path bytes
after_act os (Act.read path start len answer) = os
after_act os (Act.len path answer) = os

abbrev pub after_acts : Objects → List Act → Objects
after_acts os [] = os
after_acts os (a ∷ acts) = after_acts (after_act os a) acts

abbrev pub act_of : StoreRead → Act
act_of r = Act.read r.path r.start r.len r.bytes

abbrev pub reads_of : List Act → List Act
reads_of [] = []
reads_of (Act.put path bytes ∷ acts) = reads_of acts
reads_of (Act.read path start len answer ∷ acts) = Act.read path start len answer ∷ reads_of acts
reads_of (Act.len path answer ∷ acts) = reads_of acts

abbrev pub chosen_for : ℕ → Chosen → Option (ℕ × Option (List ℕ))
chosen_for number answers = find (λ c. c.0 == number) answers

abbrev pub answer_as : Option (ℕ × Option (List ℕ)) → Option (List ℕ) → Option (List ℕ)
answer_as None honest = honest
answer_as (Some c) honest = c.1

-- before: the acts from before, by whose puts an act is answered, and behind whose reads a read is counted
abbrev pub IsAnswered : Chosen → List Act → Act → Type 0
IsAnswered answers before (Act.put path bytes) = Unit {0}
IsAnswered answers before (Act.read path start len answer) =
    answer ≡ answer_as (chosen_for (length (reads_of before) + 1) answers) (part_of (object_at (after_acts [] before) path) start len)
IsAnswered answers before (Act.len path answer) = answer ≡ len_of (object_at (after_acts [] before) path)

abbrev pub AreAnswered : Chosen → List Act → List Act → Type 0
AreAnswered answers before [] = Unit {0}
AreAnswered answers before (a ∷ acts) = IsAnswered answers before a × AreAnswered answers (before ++ (a ∷ [])) acts
