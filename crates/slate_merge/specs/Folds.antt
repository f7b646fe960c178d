-- Rows that were taken off a source to be folded, before one that was read ahead, and before the others.
--     Taken S      a source, the row that was read ahead, and rows that were taken
--     rest_taken, sound_taken, refuses_taken      of a source, the row that was read ahead, and the rows that were taken
--     takes_ahead takes x m reads answer y      the row that was read ahead is the answer, or the source gave it
--     rest_folds different barrier      the rows of such a state, of which operands are folded
--     RefusesOpen m at e      an operand that isn't above the barrier is refused, where there is no operator
--     IsRise e      the error names two sequences, the second of which is greater
--     RefusesRise m at e      a row is refused that has a greater sequence than the operand before it, which is folded
--     BringsOperand brings m at e      an operand is refused, where there is no operator, and such a row is brought
--     BringsRise brings rises m at e      the same of a row that has a greater sequence than an operand of its key: the operand is brought,
--                                         and the row rises
--     RefusesBrought brings rises m at e      one of the two
--     RefusesOffered offers x m reads at e      the same of what the source offers behind the row that was read ahead
--     refuses_folds refuses offers      what the source refuses, and an operand or a rise of the rows that come next
--     NoneOpen barrier rows      none of the rows is such an operand
--     operable_taken different barrier rest      without an operator none of the rows of such a state is; and no row rises above the operand before it
--     EndsBy takes x m reads row y      the source gave rows, and this one last
--     folds_held takes      the source gave rows, and one that is ahead then was the last of these
--     hands_out takes barrier      so it is; and without an operator nothing is folded: the answer is the row that was read ahead, or
--                                  the source gave it, and it's no such operand
--     MeetsOpen takes barrier ahead reads before after      such an operand comes next: it was read ahead, or the source gave it
--     EndsByRise different barrier rows e      the last row of these rises above the one before it, and e names both; the others are folded
--     MeetsRise takes different barrier ahead reads before after e      so it is of the rows that come next: the first was read ahead, or
--                                                                       the source gave it, and the source gave the others
--     Blames e own opens rises      a missing operator is the source's refusal, or such an operand comes next; and a greater sequence
--                                   is so too, or such a row comes
--     BlamesNext refuses takes different barrier ahead m reads at e before after      the same of the rows that come next
use Rattle.std.specs.Prelude.{◌≡◌, ◌≢◌, ◌⊎◌, ◌<◌, ℕ, Bool, true, false, List, [], ◌∷◌, ◌++◌, Option, Some, None, IfSome, bytes_eq}
use Rattle.std.specs.List.{AllByRecursion}
use Rattle.slate_types.specs.declared.error.SlateDBError.{SlateDBError}
use Rattle.slate_types.specs.declared.error.SlateDBError.TheVariants.{InvalidSequenceOrder, MergeOperatorMissing}
use Rattle.slate_types.specs.declared.iter.IterationOrder.{IterationOrder}
use Rattle.slate_types.specs.declared.types.RowEntry.{RowEntry}
use Rattle.slate_types.specs.Fold.{operator_at}
use Rattle.slate_types.specs.Iteration.{IsInOrder}
use Rattle.slate_types.specs.Outside.{Act, Meaning}
use Rattle.slate_types.specs.Rows.{is_operand}
use Rattle.slate_types.specs.Steps.{Takes}
use Rattle.slate_types.specs.World.{World}
use Rattle.slate_merge.specs.Folding.{AreLinked, NoneRises, folded, is_open, links, rises}
use Rattle.slate_merge.specs.Handing.{AreAmong, Gives}
use Rattle.slate_merge.specs.Offers.{Offer, Comes, Rises}
use Rattle.slate_merge.specs.Peeking.{TakesAhead, with_ahead}

abbrev pub Taken : Type 0 → Type 0
Taken S = S × Option RowEntry × List RowEntry

abbrev pub RefusesOpen : Meaning → Option (List ℕ) → SlateDBError → Type 0
RefusesOpen m at e = (at ≡ None) × (e ≡ MergeOperatorMissing) × (m.combine ≡ None)

abbrev pub IsRise : SlateDBError → Type 0
IsRise (InvalidSequenceOrder current next) = current < next
IsRise e = ⊥

abbrev pub RefusesRise : Meaning → Option (List ℕ) → SlateDBError → Type 0
RefusesRise m at e = (at ≡ None) × (m.combine ≢ None) × IsRise e

-- brings: a row that comes next
pub record BringsOperand (brings : RowEntry → Type 0) (m : Meaning) (at : Option (List ℕ)) (e : SlateDBError) : Type 0 where
  pub refuses : RefusesOpen m at e
  pub row : RowEntry
  pub operand : is_operand row ≡ true
  pub brought : brings row

-- rises: one that stood out of turn
pub record BringsRise (brings rises : RowEntry → Type 0) (m : Meaning) (at : Option (List ℕ)) (e : SlateDBError) : Type 0 where
  pub refuses : RefusesRise m at e
  pub current : RowEntry
  pub next : RowEntry
  pub operand : is_operand current ≡ true
  pub same_key : bytes_eq current.key next.key ≡ true
  pub names : e ≡ InvalidSequenceOrder current.seq next.seq
  pub brought : brings current
  pub brought_next : rises next

abbrev pub RefusesBrought : (RowEntry → Type 0) → (RowEntry → Type 0) → Meaning → Option (List ℕ) → SlateDBError → Type 0
RefusesBrought brings rises m at e = BringsOperand brings m at e ⊎ BringsRise brings rises m at e

abbrev pub Blames : SlateDBError → Type 0 → Type 0 → Type 0 → Type 0
Blames e own opens rises =
    (e ≡ MergeOperatorMissing → own ⊎ opens)
    × ((current next : ℕ) → e ≡ InvalidSequenceOrder current next → own ⊎ rises)

pub record EndsByRise (different : Bool) (barrier : Option ℕ) (rows : List RowEntry) (e : SlateDBError) : Type 0 where
  pub newer : List RowEntry
  pub oldest : RowEntry
  pub row : RowEntry
  pub are : rows ≡ newer ++ (oldest ∷ row ∷ [])
  pub linked : AreLinked (links different barrier) newer oldest
  pub rises : rises different barrier oldest row ≡ true
  pub refusal : e ≡ InvalidSequenceOrder oldest.seq row.seq

abbrev pub NoneOpen : Option ℕ → List RowEntry → Type 0
NoneOpen barrier rows = AllByRecursion (λ r. is_open barrier r ≡ false) rows

module _ {S : Type 0} where
  abbrev pub rest_taken : (S → World → List RowEntry) → Taken S → World → List RowEntry
  rest_taken rest x w = x.2 ++ with_ahead x.1 (rest x.0 w)

  abbrev pub sound_taken : (S → World → List RowEntry) → (S → World → Type 0) → (S → IterationOrder) → Taken S → World → Type 0
  sound_taken rest sound order x w = sound x.0 w × IsInOrder (order x.0) (rest_taken rest x w)

  abbrev pub refuses_taken : (S → Meaning → List Act → Option (List ℕ) → SlateDBError → Type 0) → Taken S → Meaning → List Act → Option (List ℕ) → SlateDBError → Type 0
  refuses_taken refuses x m reads at e = refuses x.0 m reads at e

  abbrev pub takes_ahead : (S → Meaning → List Act → Option RowEntry → S → Type 0) → Taken S → Meaning → List Act → Option RowEntry → Taken S → Type 0
  takes_ahead takes x m reads answer y = TakesAhead (λ u rs a v. takes u m rs a v) x.1 reads answer x.0 y.0

  abbrev pub rest_folds : Bool → Option ℕ → (S → World → List RowEntry) → Taken S → World → List RowEntry
  rest_folds different barrier rest x w = folded (operator_at w.meaning.combine) different barrier (rest_taken rest x w)

  abbrev pub RefusesOffered : (Option RowEntry → S → Meaning → List Act → Offer → Type 0) → Taken S → Meaning → List Act → Option (List ℕ) → SlateDBError → Type 0
  RefusesOffered offers x m reads at e = RefusesBrought (λ r. offers x.1 x.0 m reads (Comes r)) (λ r. offers x.1 x.0 m reads (Rises r)) m at e

  abbrev pub refuses_folds : (S → Meaning → List Act → Option (List ℕ) → SlateDBError → Type 0) → (Option RowEntry → S → Meaning → List Act → Offer → Type 0) → Taken S → Meaning → List Act → Option (List ℕ) → SlateDBError → Type 0
  refuses_folds refuses offers x m reads at e = refuses x.0 m reads at e ⊎ RefusesOffered offers x m reads at e

  abbrev pub operable_taken : Bool → Option ℕ → (S → World → List RowEntry) → Taken S → World → Type 0
  operable_taken different barrier rest x w =
      (w.meaning.combine ≡ None → NoneOpen barrier (rest_taken rest x w))
      × NoneRises different barrier (rest_taken rest x w)

  abbrev pub EndsBy : (S → Meaning → List Act → Option RowEntry → S → Type 0) → S → Meaning → List Act → RowEntry → S → Type 0
  EndsBy takes x m reads row y = (given : List RowEntry) × Takes (λ u rs a v. takes u m rs a v) x reads (given ++ (row ∷ [])) y

  abbrev pub folds_held : (S → Meaning → List Act → Option RowEntry → S → Type 0) → Taken S → Meaning → List Act → Taken S → Type 0
  folds_held takes x m reads y =
      (given : List RowEntry) × Gives (λ u rs a v. takes u m rs a v) x.0 reads given y.0 × AreAmong (with_ahead y.1 []) given × IfSome y.1 (λ row. EndsBy takes x.0 m reads row y.0)

  abbrev pub hands_out : (S → Meaning → List Act → Option RowEntry → S → Type 0) → Option ℕ → Taken S → Meaning → List Act → Option RowEntry → Taken S → Type 0
  hands_out takes barrier x m reads answer y =
      (m.combine ≡ None → IfSome answer (λ row. is_open barrier row ≡ false) × takes_ahead takes x m reads answer y)
      × folds_held takes x m reads y

  abbrev pub MeetsOpen : (S → List Act → Option RowEntry → S → Type 0) → Option ℕ → Option RowEntry → List Act → S → S → Type 0
  MeetsOpen takes barrier ahead reads before after = (row : RowEntry) × (is_open barrier row ≡ true) × TakesAhead takes ahead reads (Some row) before after

  abbrev pub MeetsRise : (S → List Act → Option RowEntry → S → Type 0) → Bool → Option ℕ → Option RowEntry → List Act → S → S → SlateDBError → Type 0
  MeetsRise takes different barrier ahead reads before after e =
      (given : List RowEntry) × Takes takes before reads given after × EndsByRise different barrier (with_ahead ahead given) e

  abbrev pub BlamesNext : (S → Meaning → List Act → Option (List ℕ) → SlateDBError → Type 0) → (S → Meaning → List Act → Option RowEntry → S → Type 0) → Bool → Option ℕ → Option RowEntry → Meaning → List Act → Option (List ℕ) → SlateDBError → S → S → Type 0
  BlamesNext refuses takes different barrier ahead m reads at e before after =
      Blames e (refuses before m reads at e)
      (MeetsOpen (λ u rs a v. takes u m rs a v) barrier ahead reads before after)
      (MeetsRise (λ u rs a v. takes u m rs a v) different barrier ahead reads before after e)
