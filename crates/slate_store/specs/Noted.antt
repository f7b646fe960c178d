-- What a lying store keeps of its acts.
--     acts_of noted reads      the acts, where the reads stand beside those that are noted
--     places noted      how many reads are noted
--     IsConsistent      each read has a place, and the acts are answered by the chosen answers and the objects that they left
use Rattle.std.specs.Prelude.{◌≡◌, ℕ, ◌+◌, List, [], ◌∷◌, length}
use Rattle.slate_types.specs.Outside.{Objects}
use Rattle.slate_store.specs.declared.lying_store.Noted.{Noted}
use Rattle.slate_store.specs.declared.lying_store.Noted.TheVariants.{Put, Read, Len}
use Rattle.slate_store.specs.declared.lying_store.StoreRead.{StoreRead}
use Rattle.slate_store.specs.Store.{Act}
use Rattle.slate_store.specs.Lying.{Chosen, act_of, after_acts, AreAnswered}

abbrev pub acts_of : List Noted → List StoreRead → List Act
acts_of [] reads = []
acts_of (Put path bytes ∷ noted) reads = Act.put path bytes ∷ acts_of noted reads
acts_of (Read ∷ noted) [] = acts_of noted []
acts_of (Read ∷ noted) (r ∷ reads) = act_of r ∷ acts_of noted reads
acts_of (Len path len ∷ noted) reads = Act.len path len ∷ acts_of noted reads

abbrev pub places : List Noted → ℕ
places [] = 0
places (Put path bytes ∷ noted) = places noted
places (Read ∷ noted) = places noted + 1
places (Len path len ∷ noted) = places noted

pub record IsConsistent (answers : Chosen) (os : Objects) (noted : List Noted) (reads : List StoreRead) : Type 0 where
  pub counted : places noted ≡ length reads
  pub left : os ≡ after_acts [] (acts_of noted reads)
  pub answered : AreAnswered answers [] (acts_of noted reads)
