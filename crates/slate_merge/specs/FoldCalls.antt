-- What calls do that take the next rows of a source and fold them. A state is the source, the row that was read ahead, and rows that were taken.
--     group_rows group      the rows of a group, the newest first
--     operable_by folding rest x w      `operable_taken` by how rows are folded
--     StepsFolding folding rest sound refuses begins takes seeks order before after x answer y      the next row was taken and folded
--     FailsFolding folding refuses begins takes seeks before after x e y      the error is a fault, or what the rows that come next may be
--                                                                             refused for, and of a missing operator or a rise it says which
--     stops_gathering folding refuses takes first after x m reads at e      rows that go with the first one end by what the source
--                                                                           refuses, or by a rise
use Rattle.std.specs.Prelude.{◌⊎◌, ℕ, List, [], ◌∷◌, ◌++◌, Option, Some, None}
use Rattle.slate_types.specs.declared.error.SlateDBError.{SlateDBError}
use Rattle.slate_types.specs.declared.iter.IterationOrder.{IterationOrder}
use Rattle.slate_types.specs.declared.types.RowEntry.{RowEntry}
use Rattle.slate_types.specs.Outside.{Act, IsFault, Meaning, Reach}
use Rattle.slate_types.specs.Steps.{Step}
use Rattle.slate_types.specs.World.{World, Made}
use Rattle.slate_merge.specs.declared.fold_group.Group.{Group}
use Rattle.slate_merge.specs.declared.folding.Folding.{Folding}
use Rattle.slate_merge.specs.Offers.{offers}
use Rattle.slate_merge.specs.Folds.{BlamesNext, MeetsRise, Taken, hands_out, operable_taken, refuses_folds, rest_folds, sound_taken}

abbrev pub group_rows : Group → List RowEntry
group_rows group = group.newer.items ++ (group.oldest ∷ [])

module _ {S : Type 0} (folding : Folding) where
  abbrev pub operable_by : (S → World → List RowEntry) → Taken S → World → Type 0
  operable_by rest x w = operable_taken folding.merge_different_expire_ts folding.snapshot_barrier_seq rest x w

  module _ (rest : S → World → List RowEntry) (sound : S → World → Type 0) (refuses : S → Meaning → List Act → Option (List ℕ) → SlateDBError → Type 0)
      (begins : S → Meaning → List Act → S → Type 0) (takes : S → Meaning → List Act → Option RowEntry → S → Type 0) (seeks : S → Meaning → List Act → List ℕ → S → Type 0) (order : S → IterationOrder) where
    abbrev pub StepsFolding : Reach → Reach → Taken S → Option RowEntry → Taken S → Type 0
    StepsFolding before after x answer y =
        Step (rest_folds folding.merge_different_expire_ts folding.snapshot_barrier_seq rest) (sound_taken rest sound order) (refuses_folds refuses (offers begins takes seeks)) (hands_out takes folding.snapshot_barrier_seq)
        before after x answer y

  module _ (refuses : S → Meaning → List Act → Option (List ℕ) → SlateDBError → Type 0) where
    abbrev pub FailsFolding : (S → Meaning → List Act → S → Type 0) → (S → Meaning → List Act → Option RowEntry → S → Type 0) → (S → Meaning → List Act → List ℕ → S → Type 0) → Reach → Reach → Taken S → SlateDBError → Taken S → Type 0
    FailsFolding begins takes seeks before after x e y =
        Made before after (λ reads. (IsFault before after e ⊎ refuses_folds refuses (offers begins takes seeks) x before.meaning reads None e)
        × BlamesNext refuses takes folding.merge_different_expire_ts folding.snapshot_barrier_seq x.1 before.meaning reads None e x.0 y.0)

    abbrev pub stops_gathering : (S → Meaning → List Act → Option RowEntry → S → Type 0) → RowEntry → S → S → Meaning → List Act → Option (List ℕ) → SlateDBError → Type 0
    stops_gathering takes first after x m reads at e =
        refuses x m reads at e ⊎ MeetsRise (λ u rs a v. takes u m rs a v) folding.merge_different_expire_ts folding.snapshot_barrier_seq (Some first) reads x after e
