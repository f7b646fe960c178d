-- What calls do to the sources of a merge, and to heads in a heap, by what each source is as an iterator.
--     left_of_heads rest order heads w      what heads have left
--     AreMerging rest sound order_of order heads w      heads are what a merge may stand on
--     MovesSources rest sound refuses order_of order change before after x y      sources have left what they had, changed so
--     StepsHeads rest sound refuses begins takes seeks order_of order change before after heads answer new      the first row was taken of
--                                                                                                          what heads have left, changed so
--     SourcesAddNone refuses begins takes seeks before after x y      behind the reads of a call they neither refuse nor offer more
use Rattle.std.specs.Prelude.{ℕ, List, Option}
use Rattle.slate_types.specs.declared.error.SlateDBError.{SlateDBError}
use Rattle.slate_types.specs.declared.iter.IterationOrder.{IterationOrder}
use Rattle.slate_types.specs.declared.types.RowEntry.{RowEntry}
use Rattle.slate_types.specs.Outside.{Act, Meaning, Reach}
use Rattle.slate_types.specs.Steps.{Step}
use Rattle.slate_types.specs.World.{World}
use Rattle.slate_types.proofs.Moves.{Moves}
use Rattle.slate_merge.specs.declared.head.Head.{Head}
use Rattle.slate_merge.specs.NoMoreRows.{AddsNoneByCall}
use Rattle.slate_merge.specs.Offers.{offers}
use Rattle.slate_merge.specs.MergeBringing.{sources_offer, takes_front}
use Rattle.slate_merge.specs.Merging.{IsMergingIn, Sources, begun_sources, blames, left_in}

module _ {S : Type 0} where
  abbrev pub left_of_heads : (S → World → List RowEntry) → IterationOrder → List (Head S) → World → List RowEntry
  left_of_heads rest order heads w = left_in rest order (begun_sources heads) w

  abbrev pub AreMerging : (S → World → List RowEntry) → (S → World → Type 0) → (S → IterationOrder) → IterationOrder → List (Head S) → World → Type 0
  AreMerging rest sound order_of order heads w = IsMergingIn rest sound order_of order (begun_sources heads) w

  abbrev pub MovesSources : (S → World → List RowEntry) → (S → World → Type 0) → (S → Meaning → List Act → Option (List ℕ) → SlateDBError → Type 0) → (S → IterationOrder) → IterationOrder → (List RowEntry → List RowEntry)
      → Reach → Reach → Sources S → Sources S → Type 0
  MovesSources rest sound refuses order_of order change before after x y = Moves (λ z w. change (left_in rest order z w)) (IsMergingIn rest sound order_of order) (blames refuses) before after x y

  module _ (rest : S → World → List RowEntry) (sound : S → World → Type 0) (refuses : S → Meaning → List Act → Option (List ℕ) → SlateDBError → Type 0)
      (begins : S → Meaning → List Act → S → Type 0) (takes : S → Meaning → List Act → Option RowEntry → S → Type 0) (seeks : S → Meaning → List Act → List ℕ → S → Type 0) where
    abbrev pub StepsHeads : (S → IterationOrder) → IterationOrder → (List RowEntry → List RowEntry) → Reach → Reach → List (Head S) → Option RowEntry → List (Head S) → Type 0
    StepsHeads order_of order change before after heads answer new =
        Step (λ z w. change (left_in rest order z w)) (IsMergingIn rest sound order_of order) (blames refuses) (takes_front (offers begins takes seeks)) before after (begun_sources heads) answer (begun_sources new)

  abbrev pub SourcesAddNone : (S → Meaning → List Act → Option (List ℕ) → SlateDBError → Type 0) → (S → Meaning → List Act → S → Type 0) → (S → Meaning → List Act → Option RowEntry → S → Type 0) → (S → Meaning → List Act → List ℕ → S → Type 0)
      → Reach → Reach → Sources S → Sources S → Type 0
  SourcesAddNone refuses begins takes seeks before after x y = AddsNoneByCall (sources_offer (offers begins takes seeks)) (blames refuses) before after x y
