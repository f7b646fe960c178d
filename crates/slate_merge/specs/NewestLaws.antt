-- The laws of an iterator that hands out the newest row of each key first.
--     key_not_before      a row that isn't before another has no key that comes before
--     newest_rises      rows that are in turn come in the order
--     newest_order, newest_more, newest_whole      its rest comes in the order; other reads before take no refusal away; and where each read is
--                                                  answered by the world, nothing is damaged
use Rattle.std.proofs.Common.{◌≡◌, inl, inr, ℕ, false, List, [], ◌∷◌, ◌++◌, Option, Some, None, refl, subst}
use Rattle.std.specs.List.{AllByRecursion}
use Rattle.slate_types.specs.declared.bytes_range.BytesRange.{BytesRange}
use Rattle.slate_types.specs.declared.error.SlateDBError.{SlateDBError}
use Rattle.slate_types.specs.Outside.{Act, Meaning}
use Rattle.slate_types.specs.Refusing.{IsDamage}
use Rattle.slate_types.specs.World.{World, AnswersWorld}
use Rattle.slate_merge.specs.declared.progress.Progress.{Progress}
use Rattle.slate_merge.specs.declared.progress.Progress.TheVariants.{New, Going, Refused}
use Rattle.slate_merge.specs.Groups.{in_turn, rest_grouped}
use Rattle.slate_merge.specs.NewestFirst.{RefusesSeek, refuses_newest, rest_newest, sound_newest}
use Rattle.std.specs.Ordering.{is_lt, nat_cmp, ordering_then}
use Rattle.std.specs.declared.cmp.Ordering.{Ordering}
use Rattle.std.specs.declared.cmp.Ordering.TheVariants.{Less, Equal, Greater}
use Rattle.slate_types.specs.declared.types.RowEntry.{RowEntry}
use Rattle.slate_types.specs.declared.iter.IterationOrder.{IterationOrder}
use Rattle.slate_types.specs.declared.iter.IterationOrder.TheVariants.{Ascending, Descending}
use Rattle.slate_types.specs.Iteration.{IsInOrder, NoneBefore, comes_before}
use Rattle.slate_types.specs.Keys.{key_cmp}
use Rattle.slate_types.specs.RowTurns.{AreInTurn, NoneEarlier, row_before}

first_not : (o p : Ordering) → is_lt (ordering_then o p) ≡ false → is_lt o ≡ false
first_not Less p h = h
first_not Equal p h = refl
first_not Greater p h = refl

pub key_not_before : (order : IterationOrder) (z r : RowEntry) → row_before order z r ≡ false → comes_before order z.key r.key ≡ false
key_not_before Ascending z r h = first_not (key_cmp z.key r.key) (nat_cmp r.seq z.seq) h
key_not_before Descending z r h = first_not (key_cmp r.key z.key) (nat_cmp r.seq z.seq) h

none_before : (order : IterationOrder) (r : RowEntry) (rows : List RowEntry) → NoneEarlier (row_before order) r rows → NoneBefore order r.key rows
none_before order r [] h = tt
none_before order r (z ∷ rows) h = (key_not_before order z r h.0, none_before order r rows h.1)

pub newest_rises : (order : IterationOrder) (rows : List RowEntry) → AreInTurn (row_before order) rows → IsInOrder order rows
newest_rises order [] h = tt
newest_rises order (r ∷ rows) h = (none_before order r rows h.0, newest_rises order rows h.1)

pub newest_order : {I : Type 0} (rest : I → World → List RowEntry) (sound : I → World → Type 0) (order : I → IterationOrder) (it : I) (s : Progress) (w : World) → sound_newest rest sound order it s w → IsInOrder (order it) (rest_newest rest order it s w)
newest_order rest sound order it New w h = newest_rises (order it) (in_turn (order it) (rest it w)) h.1
newest_order rest sound order it (Going groups) w h = newest_rises (order it) (rest_grouped rest order (it, groups) w) h.1.turn
newest_order rest sound order it (Refused e) w h = tt

pub newest_more : {I : Type 0} (refuses : I → Meaning → List Act → Option (List ℕ) → SlateDBError → Type 0) → ((x : I) (m : Meaning) (done reads : List Act) (at : Option (List ℕ)) (e : SlateDBError) → refuses x m reads at e → refuses x m (done ++ reads) at e) →
    (range : BytesRange) (it : I) (s : Progress) (m : Meaning) (done reads : List Act) (at : Option (List ℕ)) (e : SlateDBError) → refuses_newest refuses range it s m reads at e → refuses_newest refuses range it s m (done ++ reads) at e
newest_more refuses more range it New m done reads at e (inl h) = inl h
newest_more refuses more range it New m done reads at e (inr (inl h)) = inr (inl (more it m done reads at e h))
newest_more refuses more range it New m done reads at e (inr (inr h)) = inr (inr h)
newest_more refuses more range it (Going groups) m done reads at e (inl h) = inl (more it m done reads at e h)
newest_more refuses more range it (Going groups) m done reads at e (inr h) = inr h
newest_more refuses more range it (Refused kept) m done reads at e h = h

out_undamaged : (range : BytesRange) (at : Option (List ℕ)) (e : SlateDBError) → RefusesSeek range at e → ¬ IsDamage e
out_undamaged range None e h = absurd h
out_undamaged range (Some key) e h = λ damage. subst IsDamage h.1 damage

pub newest_whole : {I : Type 0} (rest : I → World → List RowEntry) (sound : I → World → Type 0) (order : I → IterationOrder) (refuses : I → Meaning → List Act → Option (List ℕ) → SlateDBError → Type 0) →
    ((x : I) (w : World) (reads : List Act) (at : Option (List ℕ)) (e : SlateDBError) → sound x w → AllByRecursion (AnswersWorld w) reads → refuses x w.meaning reads at e → ¬ IsDamage e) →
    (range : BytesRange) (it : I) (s : Progress) (w : World) (reads : List Act) (at : Option (List ℕ)) (e : SlateDBError) → sound_newest rest sound order it s w → AllByRecursion (AnswersWorld w) reads → refuses_newest refuses range it s w.meaning reads at e → ¬ IsDamage e
newest_whole rest sound order refuses whole range it New w reads at e s answered (inl h) = λ damage. subst IsDamage h damage
newest_whole rest sound order refuses whole range it New w reads at e s answered (inr (inl h)) = whole it w reads at e s.0 answered h
newest_whole rest sound order refuses whole range it New w reads at e s answered (inr (inr h)) = out_undamaged range at e h
newest_whole rest sound order refuses whole range it (Going groups) w reads at e s answered (inl h) = whole it w reads at e s.0 answered h
newest_whole rest sound order refuses whole range it (Going groups) w reads at e s answered (inr h) = out_undamaged range at e h
newest_whole rest sound order refuses whole range it (Refused kept) w reads at e s answered h = λ damage. s (subst IsDamage h.1 damage)
