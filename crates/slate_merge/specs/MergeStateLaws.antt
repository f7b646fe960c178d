-- What a merge owes as an iterator, and what a new one brings.
--     rest_rises, refuses_more, refuses_whole      its rest comes in the order; other reads before take no refusal away; and where each
--                                            read is answered by the world, nothing is damaged
--     merges      a new merge is sound where its sources are, and brings their rows merged
--     any_weaker      what holds of one of some elements, in weaker words
--     either_more      what a source is blamed for by some reads it is by more
use Rattle.std.specs.Prelude.{◌≡◌, ℕ, Bool, List, [], ◌∷◌, ◌++◌, map, Option, None}
use Rattle.std.proofs.Common.{inl, inr, sym, ap, ◌∙◌, subst}
use Rattle.std.specs.List.{AllByRecursion}
use Rattle.std.specs.BinaryHeap.{heap_items}
use Rattle.slate_types.specs.declared.error.SlateDBError.{SlateDBError}
use Rattle.slate_types.specs.declared.iter.IterationOrder.{IterationOrder}
use Rattle.slate_types.specs.declared.types.RowEntry.{RowEntry}
use Rattle.slate_types.specs.Iteration.{IsInOrder}
use Rattle.slate_types.specs.Outside.{Act, Meaning}
use Rattle.slate_types.specs.Refusing.{IsDamage, NoMore}
use Rattle.slate_types.specs.World.{World, AnswersWorld}
use Rattle.slate_merge.specs.declared.head.Head.{Head}
use Rattle.slate_merge.specs.declared.merge_iterator.MergeIterator.{MergeIterator}
use Rattle.slate_merge.specs.declared.merge_iterator.MergeState.{MergeState}
use Rattle.slate_merge.specs.declared.merge_iterator.MergeState.TheVariants.{New, Begun, Refused}
use Rattle.slate_merge.specs.Merge.{merged, shown_rows}
use Rattle.slate_merge.specs.MergeLaws.{fresh_rows}
use Rattle.slate_merge.specs.Merging.{AnyByRecursion, CanMerge, IsSoundHead, Sources, begun_sources, blames, either_refusal, left_rows, waiting_sources}
use Rattle.slate_merge.specs.MergeStates.{IsMergeOf, IsSoundIn, WaitingAre, refuses_in, rest_in}
use Rattle.slate_merge.specs.Rising.{shown_left}

pub any_weaker : {X : Type 0} (P Q : X → Type 0) → ((x : X) → P x → Q x) → (xs : List X) → AnyByRecursion P xs → AnyByRecursion Q xs
any_weaker P Q f [] h = h
any_weaker P Q f (x ∷ xs) (inl h) = inl (f x h)
any_weaker P Q f (x ∷ xs) (inr h) = inr (any_weaker P Q f xs h)

any_none : {X R : Type 0} (P Q : X → Type 0) → ((x : X) → P x → Q x → R) → (xs : List X) → AllByRecursion P xs → AnyByRecursion Q xs → R
any_none P Q f [] all h = elim h [ ]
any_none P Q f (x ∷ xs) all (inl h) = f x all.0 h
any_none P Q f (x ∷ xs) all (inr h) = any_none P Q f xs all.1 h

module _ {S : Type 0} (refuses : S → Meaning → List Act → Option (List ℕ) → SlateDBError → Type 0) where
  module _ (more : (x : S) (m : Meaning) (done reads : List Act) (at : Option (List ℕ)) (e : SlateDBError) → refuses x m reads at e → refuses x m (done ++ reads) at e) (m : Meaning) (reads : List Act) where
    pub either_more : (later : List Act) (at : Option (List ℕ)) (e : SlateDBError) (s : S) → either_refusal (λ t. refuses t m later) at s e → either_refusal (λ t. refuses t m (reads ++ later)) at s e
    either_more later at e s (inl h) = inl (more s m reads later at e h)
    either_more later at e s (inr h) = inr (more s m reads later None e h)

    blamed_more : (x : Sources S) → NoMore (blames refuses x m) reads (blames refuses x m)
    blamed_more x later at e (inl h) = inl (any_weaker _ _ (λ s k. either_more later at e s k) x.waiting h)
    blamed_more x later at e (inr h) = inr (any_weaker _ _ (λ (y : Head S) k. either_more later at e y.source k) x.heads h)

    pub refuses_more : (s : MergeState S) → NoMore (refuses_in refuses s m) reads (refuses_in refuses s m)
    refuses_more (New sources) later at e (inl h) = inl h
    refuses_more (New sources) later at e (inr h) = inr (blamed_more (waiting_sources sources.items) later at e h)
    refuses_more (Begun heads) later at e h = blamed_more (begun_sources (heap_items heads)) later at e h
    refuses_more (Refused k) later at e h = h

  module _ (rest : S → World → List RowEntry) (sound : S → World → Type 0) (order_of : S → IterationOrder)
      (whole : (x : S) (w : World) (reads : List Act) (at : Option (List ℕ)) (e : SlateDBError) → sound x w → AllByRecursion (AnswersWorld w) reads → refuses x w.meaning reads at e → ¬ IsDamage e) (order : IterationOrder) (w : World) (reads : List Act) (at : Option (List ℕ)) (e : SlateDBError) where
    source_whole : (x : S) → AllByRecursion (AnswersWorld w) reads → sound x w → either_refusal (λ s. refuses s w.meaning reads) at x e → ¬ IsDamage e
    source_whole x each h (inl r) = whole x w reads at e h each r
    source_whole x each h (inr r) = whole x w reads None e h each r

    pub refuses_whole : (s : MergeState S) → IsSoundIn rest sound order_of order s w → AllByRecursion (AnswersWorld w) reads → refuses_in refuses s w.meaning reads at e → ¬ IsDamage e
    refuses_whole (New sources) h each (inl is) = subst (λ d. ¬ IsDamage d) (sym is) (λ d. d)
    refuses_whole (New sources) h each (inr (inl r)) = any_none (CanMerge (λ s. rest s w) (λ s. sound s w × (order_of s ≡ order)) order) (λ s. either_refusal (λ t. refuses t w.meaning reads) at s e) (λ x p q. source_whole x each p.0.0 q) sources.items h r
    refuses_whole (New sources) h each (inr (inr r)) = elim r [ ]
    refuses_whole (Begun heads) h each (inl r) = elim r [ ]
    refuses_whole (Begun heads) h each (inr r) = any_none (IsSoundHead (λ s. rest s w) (λ s. sound s w × (order_of s ≡ order)) order) (λ x. either_refusal (λ t. refuses t w.meaning reads) at x.source e) (λ x p q. source_whole x.source each p.0.0 q) (heap_items heads) h.begun r
    refuses_whole (Refused k) h each r = subst (λ d. ¬ IsDamage d) (sym r.1) h

pub rest_rises : {S : Type 0} (rest : S → World → List RowEntry) (order : IterationOrder) (dedup : Bool) (s : MergeState S) (w : World) → IsInOrder order (rest_in rest order dedup s w)
rest_rises rest order dedup (New sources) w = shown_left (λ s. rest s w) order dedup sources.items []
rest_rises rest order dedup (Begun heads) w = shown_left (λ s. rest s w) order dedup [] (heap_items heads)
rest_rises rest order dedup (Refused k) w = tt

module _ {S : Type 0} (rest : S → World → List RowEntry) (sound : S → World → Type 0) (order_of : S → IterationOrder) (w : World) (sources : List S) where
  abbrev AreMergeable : IterationOrder → List S → Type 0
  AreMergeable order xs = AllByRecursion (CanMerge (λ s. rest s w) (λ s. sound s w × (order_of s ≡ order)) order) xs

  waiting_sound : (order : IterationOrder) (s : MergeState S) → WaitingAre sources s → AreMergeable order sources → IsSoundIn rest sound order_of order s w
  waiting_sound order (New waiting) is h = subst (AreMergeable order) (sym is) h
  waiting_sound order (Begun heads) is h = absurd is
  waiting_sound order (Refused k) is h = absurd is

  waiting_rows : (order : IterationOrder) (dedup : Bool) (s : MergeState S) → WaitingAre sources s → rest_in rest order dedup s w ≡ merged order dedup (map (λ s. rest s w) sources)
  waiting_rows order dedup (New waiting) is = ap (λ (l : List S). shown_rows dedup (left_rows (λ s. rest s w) order l [])) is ∙ fresh_rows (λ s. rest s w) order dedup sources
  waiting_rows order dedup (Begun heads) is = absurd is
  waiting_rows order dedup (Refused k) is = absurd is

  pub merges : (order : IterationOrder) (dedup : Bool) (it : MergeIterator S) → IsMergeOf sources order dedup it → AreMergeable order sources
      → IsSoundIn rest sound order_of it.order it.state w × (rest_in rest it.order it.dedup it.state w ≡ merged order dedup (map (λ s. rest s w) sources))
  merges order dedup it m h = (
    waiting_sound it.order it.state m.waits (subst (λ o. AreMergeable o sources) (sym m.ordered) h),
    waiting_rows it.order it.dedup it.state m.waits ∙ (λ i. merged (m.ordered i) (m.drops i) (map (λ s. rest s w) sources)),
  )
