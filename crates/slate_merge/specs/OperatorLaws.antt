-- The laws of an iterator that folds operands.
--     folding_rises, folding_more, folding_whole      its rest comes in the order; other reads before take no refusal away; and where
--                                                     each read is answered by the world, nothing is damaged
--     brought_weaker      what is refused of rows that are brought is refused of more rows
--     rise_undamaged      a row that rises is no damage
use Rattle.std.proofs.Common.{inl, inr, ℕ, List, [], ◌++◌, Option, Some, None, Bool, subst}
use Rattle.std.specs.List.{AllByRecursion}
use Rattle.slate_types.specs.declared.error.SlateDBError.{SlateDBError}
use Rattle.slate_types.specs.declared.error.SlateDBError.TheVariants.{InvalidSequenceOrder}
use Rattle.slate_types.specs.declared.iter.IterationOrder.{IterationOrder}
use Rattle.slate_types.specs.declared.types.RowEntry.{RowEntry}
use Rattle.slate_types.specs.Fold.{operator_at}
use Rattle.slate_types.specs.Iteration.{IsInOrder}
use Rattle.slate_types.specs.Outside.{Act, Meaning}
use Rattle.slate_types.specs.Refusing.{IsDamage}
use Rattle.slate_types.specs.World.{World, AnswersWorld}
use Rattle.slate_merge.specs.declared.operator_iterator.MergeOperatorIterator.{MergeOperatorIterator}
use Rattle.slate_merge.specs.Offers.{Offer, Comes, Rises, offers, offers_behind_others}
use Rattle.slate_merge.specs.FoldedLaws.{folded_in_order}
use Rattle.slate_merge.specs.Folds.{IsRise, RefusesBrought, refuses_folds}
use Rattle.slate_merge.specs.OperatorIterators.{RefusesBy, SoundUnless, refuses_folding, rest_folding, rows_unless, sound_folding}
use Rattle.slate_merge.specs.Peeking.{with_ahead}

rises_unless : (refusal : Option SlateDBError) (P : Type 0) (order : IterationOrder) (rows : List RowEntry) → (P → IsInOrder order rows) → SoundUnless refusal P → IsInOrder order (rows_unless refusal rows)
rises_unless None P order rows f h = f h
rises_unless (Some kept) P order rows f h = tt

pub folding_rises : {S : Type 0} (rest : S → World → List RowEntry) (sound : S → World → Type 0) (order : S → IterationOrder) (it : MergeOperatorIterator S) (w : World) → sound_folding rest sound order it w → IsInOrder (order it.iterator) (rest_folding rest it w)
folding_rises rest sound order it w h =
    rises_unless it.refusal _ (order it.iterator) _ (λ k. folded_in_order (order it.iterator) (operator_at w.meaning.combine) it.folding.merge_different_expire_ts it.folding.snapshot_barrier_seq (with_ahead it.ahead (rest it.iterator w)) k.1) h

more_by : (refusal : Option SlateDBError) (begun : Bool) (own more : SlateDBError → Type 0) (e : SlateDBError) → (own e → more e) → RefusesBy refusal begun own e → RefusesBy refusal begun more e
more_by None begun own more e f (inl h) = inl h
more_by None begun own more e f (inr h) = inr (f h)
more_by (Some kept) begun own more e f h = h

-- more rows are brought
pub brought_weaker : (some more rises rises_more : RowEntry → Type 0) (m : Meaning) (at : Option (List ℕ)) (e : SlateDBError) → ((r : RowEntry) → some r → more r) → ((r : RowEntry) → rises r → rises_more r) →
    RefusesBrought some rises m at e → RefusesBrought more rises_more m at e
brought_weaker some more rises rises_more m at e f g (inl k) = inl (record { refuses = k.refuses; row = k.row; operand = k.operand; brought = f k.row k.brought })
brought_weaker some more rises rises_more m at e f g (inr k) = inr (record {
  refuses = k.refuses;
  current = k.current;
  next = k.next;
  operand = k.operand;
  same_key = k.same_key;
  names = k.names;
  brought = f k.current k.brought;
  brought_next = g k.next k.brought_next;
})

pub folding_more : {S : Type 0} (refuses : S → Meaning → List Act → Option (List ℕ) → SlateDBError → Type 0) → ((x : S) (m : Meaning) (done reads : List Act) (at : Option (List ℕ)) (e : SlateDBError) → refuses x m reads at e → refuses x m (done ++ reads) at e) →
    (begins : S → Meaning → List Act → S → Type 0) (takes : S → Meaning → List Act → Option RowEntry → S → Type 0) (seeks : S → Meaning → List Act → List ℕ → S → Type 0) (it : MergeOperatorIterator S) (m : Meaning) (done reads : List Act) (at : Option (List ℕ)) (e : SlateDBError) →
    refuses_folding refuses (offers begins takes seeks) it m reads at e → refuses_folding refuses (offers begins takes seeks) it m (done ++ reads) at e
folding_more {S} refuses more begins takes seeks it m done reads at e h =
    more_by it.refusal it.begun (λ d. refuses_folds refuses (offers begins takes seeks) (it.iterator, it.ahead, []) m reads at d) (λ d. refuses_folds refuses (offers begins takes seeks) (it.iterator, it.ahead, []) m (done ++ reads) at d) e by h
  where
    offered : List Act → Offer → Type 0
    offered rs o = offers begins takes seeks it.ahead it.iterator m rs o

    behind : (o : Offer) → offered reads o → offered (done ++ reads) o
    behind o k = offers_behind_others begins takes seeks it.ahead it.iterator m done reads o k

    by : refuses_folds {S = S} refuses (offers begins takes seeks) (it.iterator, it.ahead, []) m reads at e → refuses_folds {S = S} refuses (offers begins takes seeks) (it.iterator, it.ahead, []) m (done ++ reads) at e
    by (inl k) = inl (more it.iterator m done reads at e k)
    by (inr k) = inr (brought_weaker (λ r. offered reads (Comes r)) (λ r. offered (done ++ reads) (Comes r)) (λ r. offered reads (Rises r)) (λ r. offered (done ++ reads) (Rises r)) m at e (λ r. behind (Comes r)) (λ r. behind (Rises r)) k)

whole_by : (refusal : Option SlateDBError) (begun : Bool) (P : Type 0) (own : SlateDBError → Type 0) (e : SlateDBError) → (P → own e → ¬ IsDamage e) → SoundUnless refusal P → RefusesBy refusal begun own e → ¬ IsDamage e
whole_by None begun P own e f s (inl h) = λ damage. subst IsDamage h.1 damage
whole_by None begun P own e f s (inr h) = f s h
whole_by (Some kept) begun P own e f s h = λ damage. s (subst IsDamage h.1 damage)

pub rise_undamaged : (e : SlateDBError) → IsRise e → ¬ IsDamage e
rise_undamaged (InvalidSequenceOrder current next) h = λ damage. damage
rise_undamaged e h = absurd h

pub folding_whole : {S : Type 0} (rest : S → World → List RowEntry) (sound : S → World → Type 0) (order : S → IterationOrder) (refuses : S → Meaning → List Act → Option (List ℕ) → SlateDBError → Type 0) →
    ((x : S) (w : World) (reads : List Act) (at : Option (List ℕ)) (e : SlateDBError) → sound x w → AllByRecursion (AnswersWorld w) reads → refuses x w.meaning reads at e → ¬ IsDamage e) →
    (offers : Option RowEntry → S → Meaning → List Act → Offer → Type 0) (it : MergeOperatorIterator S) (w : World) (reads : List Act) (at : Option (List ℕ)) (e : SlateDBError) →
    sound_folding rest sound order it w → AllByRecursion (AnswersWorld w) reads → refuses_folding refuses offers it w.meaning reads at e → ¬ IsDamage e
folding_whole {S} rest sound order refuses whole offers it w reads at e s answered h =
    whole_by it.refusal it.begun _ (λ d. refuses_folds refuses offers (it.iterator, it.ahead, []) w.meaning reads at d) e (λ k r. by k.0 r) s h
  where
    by : sound it.iterator w → refuses_folds {S = S} refuses offers (it.iterator, it.ahead, []) w.meaning reads at e → ¬ IsDamage e
    by k (inl r) = whole it.iterator w reads at e k answered r
    by k (inr (inl r)) = λ damage. subst IsDamage r.refuses.1 damage
    by k (inr (inr r)) = rise_undamaged e r.refuses.2
