-- What the sources of a merge bring, behind the reads of one of them.
use Rattle.std.proofs.Common.{◌≡◌, ◌⊎◌, inl, inr, ℕ, List, [], ◌∷◌, ◌++◌, Option, Some, None, IsPermutation, subst}
use Rattle.std.specs.Prelude.{IfSome}
use Rattle.std.specs.BinaryHeap.{heap_items}
use Rattle.slate_types.specs.declared.error.SlateDBError.{SlateDBError}
use Rattle.slate_types.specs.declared.types.RowEntry.{RowEntry}
use Rattle.slate_types.specs.Outside.{Act, Meaning, Reach}
use Rattle.slate_types.specs.Refusing.{NoMore}
use Rattle.slate_types.specs.World.{Made}
use Rattle.slate_types.proofs.Calls.{call_none, call_both, no_more_both}
use Rattle.slate_merge.specs.declared.head.Head.{Head}
use Rattle.slate_merge.specs.declared.merge_iterator.MergeState.{MergeState}
use Rattle.slate_merge.specs.declared.merge_iterator.MergeState.TheVariants.{New, Begun, Refused}
use Rattle.slate_merge.specs.NoMoreRows.{AddsNone, AddsNoneByCall, NoMoreRows}
use Rattle.slate_merge.specs.Calls.{BringsByCalls}
use Rattle.slate_merge.specs.MergeBringing.{merge_brings, merge_offers, sources_bring, sources_offer, takes_front}
use Rattle.slate_merge.specs.MergeStateLaws.{any_weaker}
use Rattle.slate_merge.specs.Offers.{Comes, Offer, offers}
use Rattle.slate_merge.specs.Merging.{AnyByRecursion, IsFront, Sources, begun_sources, blames, waiting_sources}
use Rattle.slate_merge.proofs.NoMoreRows.{no_rows_both}
use Rattle.slate_merge.proofs.StepLaws.{any_shuffled}

-- ---- what each source brings

module _ {S : Type 0} (brings other : S → Meaning → List Act → RowEntry → Type 0) (m : Meaning) (reads all : List Act) (r : RowEntry) (to : (x : S) → brings x m reads r → other x m all r) where
  head_to : (h : Head S) → (h.row ≡ r) ⊎ brings h.source m reads r → (h.row ≡ r) ⊎ other h.source m all r
  head_to h (inl is) = inl is
  head_to h (inr k) = inr (to h.source k)

  pub sources_to : (x : Sources S) → sources_bring brings x m reads r → sources_bring other x m all r
  sources_to x (inl k) = inl (any_weaker (λ s. brings s m reads r) (λ s. other s m all r) to x.waiting k)
  sources_to x (inr k) = inr (any_weaker (λ h. (h.row ≡ r) ⊎ brings h.source m reads r) (λ h. (h.row ≡ r) ⊎ other h.source m all r) head_to x.heads k)

  merge_to : (s : MergeState S) → merge_brings brings s m reads r → merge_brings other s m all r
  merge_to (New sources) k = sources_to (waiting_sources sources.items) k
  merge_to (Begun heads) k = sources_to (begun_sources (heap_items heads)) k
  merge_to (Refused e) k = k

module _ {S : Type 0} where
  -- by more reads
  pub merge_grows : (brings : S → Meaning → List Act → RowEntry → Type 0) (s : MergeState S) (m : Meaning) (reads all : List Act) (r : RowEntry) → merge_brings brings s m reads r → ((x : S) → brings x m reads r → brings x m all r) → merge_brings brings s m all r
  merge_grows brings s m reads all r k grows = merge_to brings brings m reads all r grows s k

  -- in other words
  pub merge_brings_to : (brings other : S → Meaning → List Act → RowEntry → Type 0) (s : MergeState S) (m : Meaning) (reads : List Act) (r : RowEntry) → merge_brings brings s m reads r → ((x : S) → brings x m reads r → other x m reads r) → merge_brings other s m reads r
  merge_brings_to brings other s m reads r k to = merge_to brings other m reads reads r to s k

-- ---- what each source offers, in other words

module _ {S : Type 0} (offers other : Option RowEntry → S → Meaning → List Act → Offer → Type 0) (m : Meaning) (reads all : List Act) (o p : Offer) (to : (ahead : Option RowEntry) (x : S) → offers ahead x m reads o → other ahead x m all p) where
  offered_to : (x : Sources S) → sources_offer offers x m reads o → sources_offer other x m all p
  offered_to x (inl k) = inl (any_weaker (λ s. offers None s m reads o) (λ s. other None s m all p) (λ s. to None s) x.waiting k)
  offered_to x (inr k) = inr (any_weaker (λ h. offers (Some h.row) h.source m reads o) (λ h. other (Some h.row) h.source m all p) (λ h. to (Some h.row) h.source) x.heads k)

  pub merge_offers_to : (s : MergeState S) → merge_offers offers s m reads o → merge_offers other s m all p
  merge_offers_to (New sources) k = offered_to (waiting_sources sources.items) k
  merge_offers_to (Begun heads) k = offered_to (begun_sources (heap_items heads)) k
  merge_offers_to (Refused e) k = k

-- the rows among what is offered
module _ {S : Type 0} (begins : S → Meaning → List Act → S → Type 0) (takes : S → Meaning → List Act → Option RowEntry → S → Type 0) (seeks : S → Meaning → List Act → List ℕ → S → Type 0) where
  rows_offered : (s : MergeState S) (m : Meaning) (reads : List Act) (r : RowEntry) → merge_offers (offers begins takes seeks) s m reads (Comes r) → merge_brings (BringsByCalls begins takes seeks) s m reads r
  rows_offered (New sources) m reads r k = k
  rows_offered (Begun heads) m reads r k = k
  rows_offered (Refused e) m reads r k = k

  offered_rows : (s : MergeState S) (m : Meaning) (reads : List Act) (r : RowEntry) → merge_brings (BringsByCalls begins takes seeks) s m reads r → merge_offers (offers begins takes seeks) s m reads (Comes r)
  offered_rows (New sources) m reads r k = k
  offered_rows (Begun heads) m reads r k = k
  offered_rows (Refused e) m reads r k = k

  pub rows_less : (x y : MergeState S) (m : Meaning) (reads : List Act) → NoMoreRows (merge_offers (offers begins takes seeks) x m) reads (merge_offers (offers begins takes seeks) y m) →
      NoMoreRows (merge_brings (BringsByCalls begins takes seeks) x m) reads (merge_brings (BringsByCalls begins takes seeks) y m)
  rows_less x y m reads less later r k = rows_offered x m (reads ++ later) r (less later (Comes r) (offered_rows y m later r k))

-- ---- behind the reads of one source

module _ {S : Type 0} (offers : Option RowEntry → S → Meaning → List Act → Offer → Type 0) (more : (ahead : Option RowEntry) (x : S) (m : Meaning) (done reads : List Act) (o : Offer) → offers ahead x m reads o → offers ahead x m (done ++ reads) o) (m : Meaning) (reads : List Act) where
  abbrev pub has_offer : List Act → Offer → Head S → Type 0
  has_offer acts o h = offers (Some h.row) h.source m acts o

  waiting_more : (later : List Act) (o : Offer) (waiting : List S) → AnyByRecursion (λ s. offers None s m later o) waiting → AnyByRecursion (λ s. offers None s m (reads ++ later) o) waiting
  waiting_more later o waiting k = any_weaker (λ s. offers None s m later o) (λ s. offers None s m (reads ++ later) o) (λ s h. more None s m reads later o h) waiting k

  heads_more : (later : List Act) (o : Offer) (heads : List (Head S)) → AnyByRecursion (has_offer later o) heads → AnyByRecursion (has_offer (reads ++ later) o) heads
  heads_more later o heads k = any_weaker (has_offer later o) (has_offer (reads ++ later) o) (λ h l. more (Some h.row) h.source m reads later o l) heads k

  -- a head went on
  pub brought_put : (waiting : List S) (heads others new : List (Head S)) (x y : Head S) → IsPermutation heads (x ∷ others) → IsPermutation (y ∷ others) new → ((later : List Act) (o : Offer) → has_offer later o y → has_offer (reads ++ later) o x)
      → NoMoreRows (sources_offer offers (record { waiting = waiting; heads = heads }) m) reads (sources_offer offers (record { waiting = waiting; heads = new }) m)
  brought_put waiting heads others new x y p q less later o (inl k) = inl (waiting_more later o waiting k)
  brought_put waiting heads others new x y p q less later o (inr k) =
      inr (any_shuffled (has_offer (reads ++ later) o) heads (x ∷ others) p (elim (any_shuffled (has_offer later o) (y ∷ others) new q k) as (λ _. AnyByRecursion (has_offer (reads ++ later) o) (x ∷ others)) [
        | inl own ↦ inl (less later o own)
        | inr rest ↦ inr (heads_more later o others rest)
      ]))

  -- a head's source has ended
  pub brought_gone : (waiting : List S) (heads others : List (Head S)) (x : Head S) → IsPermutation heads (x ∷ others) → NoMoreRows (sources_offer offers (record { waiting = waiting; heads = heads }) m) reads (sources_offer offers (record { waiting = waiting; heads = others }) m)
  brought_gone waiting heads others x p later o (inl k) = inl (waiting_more later o waiting k)
  brought_gone waiting heads others x p later o (inr k) = inr (any_shuffled (has_offer (reads ++ later) o) heads (x ∷ others) p (inr (heads_more later o others k)))

  -- a source that waited began
  pub brought_begun : (source : S) (waiting : List S) (heads new : List (Head S)) (y : Head S) → IsPermutation (y ∷ heads) new → ((later : List Act) (o : Offer) → has_offer later o y → offers None source m (reads ++ later) o)
      → NoMoreRows (sources_offer offers (record { waiting = source ∷ waiting; heads = heads }) m) reads (sources_offer offers (record { waiting = waiting; heads = new }) m)
  brought_begun source waiting heads new y q less later o (inl k) = inl (inr (waiting_more later o waiting k))
  brought_begun source waiting heads new y q less later o (inr k) =
      elim (any_shuffled (has_offer later o) (y ∷ heads) new q k) as (λ _. sources_offer offers (record { waiting = source ∷ waiting; heads = heads }) m (reads ++ later) o) [
        | inl own ↦ inl (inl (less later o own))
        | inr rest ↦ inr (heads_more later o heads rest)
      ]

  -- and has no row
  pub brought_empty : (source : S) (waiting : List S) (heads : List (Head S)) → NoMoreRows (sources_offer offers (record { waiting = source ∷ waiting; heads = heads }) m) reads (sources_offer offers (record { waiting = waiting; heads = heads }) m)
  brought_empty source waiting heads later o (inl k) = inl (inr (waiting_more later o waiting k))
  brought_empty source waiting heads later o (inr k) = inr (heads_more later o heads k)

-- ---- the calls of sources, one behind the other

module _ {S : Type 0} (offers : Option RowEntry → S → Meaning → List Act → Offer → Type 0) (refuses : S → Meaning → List Act → Option (List ℕ) → SlateDBError → Type 0) where
  abbrev pub SourcesAdd : Reach → Reach → Sources S → Sources S → Type 0
  SourcesAdd a b x y = AddsNoneByCall (sources_offer offers) (blames refuses) a b x y

  pub sources_none : (t : Reach) (x : Sources S) → SourcesAdd t t x x
  sources_none t x = ([], call_none t, (λ later at e k. k, λ later o k. k))

  pub sources_both : (a b c : Reach) (x y z : Sources S) → SourcesAdd a b x y → SourcesAdd b c y z → SourcesAdd a c x z
  sources_both a b c x y z f l = (
    f.0 ++ l.0,
    call_both a b c f.0 l.0 f.1 l.1,
    (no_more_both (blames refuses x a.meaning) (blames refuses y a.meaning) (blames refuses z a.meaning) f.0 l.0 f.2.0 last.0, no_rows_both (sources_offer offers x a.meaning) (sources_offer offers y a.meaning) (sources_offer offers z a.meaning) f.0 l.0 f.2.1 last.1),
  )
    where
      last : AddsNone (sources_offer offers) (blames refuses) a.meaning y l.0 z
      last = subst (λ (p : Meaning). AddsNone (sources_offer offers) (blames refuses) p y l.0 z) f.1.meaning l.2

  pub sources_step : (a b c : Reach) (x y z : Sources S) (answer : Option RowEntry) → SourcesAdd a b x y → Made b c (λ reads. takes_front offers y b.meaning reads answer z × NoMore (blames refuses y b.meaning) reads (blames refuses z b.meaning)) → SourcesAdd a c x z
  sources_step a b c x y z answer f t = sources_both a b c x y z f (t.0, t.1, (t.2.1, t.2.0.1))

-- the row of the first head is one that was brought
pub front_brought : {S : Type 0} (brings : S → Meaning → List Act → RowEntry → Type 0) (m : Meaning) (reads : List Act) (answer : Option RowEntry) (heads : List (Head S)) → IsFront answer heads → IfSome answer (λ r. sources_bring brings (begun_sources heads) m reads r)
front_brought brings m reads None heads is = tt
front_brought brings m reads (Some r) [] never = absurd never
front_brought brings m reads (Some r) (h ∷ heads) is = inr (inl (inl is))
