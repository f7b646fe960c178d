-- What a flush through a pass leaves, exit by exit.
use Rattle.std.proofs.Common.{◌≡◌, ◌⊎◌, ⊎_elim, inl, inr, ℕ, ◌<◌, ◌^◌, false, true, List, [], ◌∷◌, ◌++◌, length, map, Option, Some, None, refl, sym, ap, ◌∙◌, subst}
use Rattle.std.specs.Prelude.{Result, Ok, Err, IfOk, IfErr, IfSome, OnErr}
use Rattle.std.specs.List.{AllByRecursion}
use mathlib.Core.List.{IsPrefix}
use Rattle.slate_types.specs.declared.config.Options.{Options}
use Rattle.slate_types.specs.declared.error.SlateDBError.{SlateDBError}
use Rattle.slate_types.specs.declared.error.SlateDBError.TheVariants.{LimitReached, OutOfMemory}
use Rattle.slate_types.specs.declared.types.Ulid.{Ulid}
use Rattle.slate_types.specs.Outside.{IsFault, Objects, Reach}
use Rattle.slate_filter.specs.Policy.{Policy}
use Rattle.slate_mem.specs.KeyTests.{Segments}
use Rattle.slate_mem.specs.Lookup.{is_merge_among, newest_first}
use Rattle.slate_read.specs.declared.sorted_run.SortedRun.{SortedRun}
use Rattle.slate_table.specs.Table.{AreInOrder}
use Rattle.slate_txn.specs.declared.event.Event.{Event}
use Rattle.slate_txn.specs.declared.event.Event.TheVariants.{Freeze, Install}
use Rattle.slate_txn.specs.Places.{above_install}
use Rattle.slate_txn.specs.Replay.{replay}
use Rattle.slate_txn.specs.Settings.{Settings, settings_of}
use Rattle.slate_txn.specs.State.{Commit, last_of}
use Rattle.slate_db.specs.declared.flight.Flight.{Flight}
use Rattle.slate_db.specs.Flushed.{AreSomeOfFlush, HasTooLarge, IsFolded, IsPut, Layout, MayTakeTables, TakesTables, WantsOperator, layout_of}
use Rattle.slate_db.specs.Flying.{took}
use Rattle.slate_db.specs.Installs.{tables_of}
use Rattle.slate_db.specs.Log.{LIMIT}
use Rattle.slate_db.specs.Meaning.{Meaning}
use Rattle.slate_db.specs.Model.{Rows}
use Rattle.slate_db.specs.Readable.{AreFiltered}
use Rattle.slate_shared.specs.declared.board.View.{View}
use Rattle.slate_shared.specs.declared.errand.Errand.{Errand}
use Rattle.slate_shared.specs.Errands.{Departs, HasErrand, HasGivenUp, HasLanded, HasTableTooLarge, IsFlushFrom, IsNextFlush, IsOverLimit, IsRowsOf, KeepsOn, Lands, Refusal, StoresOn, barrier_of}
use Rattle.slate_shared.specs.Given.{AreGiven}
use Rattle.slate_shared.specs.LockedModel.{IsFull}
use Rattle.slate_shared.proofs.Flown.{above_newest, prefix_either}
use Rattle.slate_shared.proofs.Lists.{prefix_more, prefix_self, prefix_trans}

-- of the tables of a flush, by equations of all that they are made by
pub at_flight : (T : Meaning × Layout × ℕ × ℕ × List Rows → Type 0) (m n : Meaning) (l l' : Layout) (r k b d : ℕ) (xs ys : List Rows) → m ≡ n → l ≡ l' → r ≡ k → b ≡ d → xs ≡ ys → T (m, l, r, b, xs) → T (n, l', k, d, ys)
at_flight T m n l l' r k b d xs ys meaning layout number barrier layers = subst T (λ i. (meaning i, layout i, number i, barrier i, layers i))

pub layout_given : (o a : Options) (g h : Segments) (ps qs : List Policy) → AreGiven o g ps a h qs → layout_of a qs h ≡ layout_of o ps g
layout_given o a g h ps qs given = λ i. layout_of (given.options i) (given.policies i) (given.segments i)

-- what is in hand has the number of its flight
pub comes_next : (o : Settings) (m : Meaning) (journal es : List Event) (flight : Option Flight) (x : Errand) → HasErrand o m journal flight x → ((f : Flight) → flight ≡ Some f → IsNextFlush f.number es) → IsNextFlush x.number es
comes_next o m journal es flight x has next = subst (λ (n : ℕ). IsNextFlush n es) (sym has.errand.number) (next has.flight_of has.flies)

-- ---- a flush lands

may_take : (P : List (Ulid × List ℕ) → Type 0) (ts : List (Ulid × List ℕ)) (a b : Option Objects) → P ts → TakesTables ts a b → MayTakeTables P a b
may_take P ts None b made takes = tt
may_take P ts (Some os) b made takes = inr (ts, made, takes)

module _ (first before : List Event) (ts : List (Ulid × List ℕ)) (flight : Option Flight) (own : List ℕ) (seen : List Event) (own' : List ℕ) (pre : IsPrefix first before) where
  module _ (o : Settings) (m : Meaning) (layout : Layout) (from : List Event) (x : Errand) (runs : List SortedRun) (a b : Option Objects) (early : IsPrefix from first) (has : HasErrand o m from flight x)
      (put : IsPut m layout has.flight_of.number (barrier_of o from) (took has.flight_of) ts runs a b) where
    begins_here : IsPrefix from before
    begins_here = prefix_trans from first before early pre

    flush_at : (r : Result ℕ SlateDBError) (es : List Event) → before ≡ es → Lands before ts flight own seen own' r → IsFlushFrom o m from from es has.flight_of.number (took has.flight_of)
    flush_at r es same lands = record {
      known = prefix_self from;
      later = subst (IsPrefix from) same begins_here;
      next = subst (IsNextFlush has.flight_of.number) same (lands.next has.flight_of has.flies);
      rows = has.errand.rows;
    }

    pub lands_landed : (r : Result ℕ SlateDBError) → Lands before ts flight own seen own' r → StoresOn before ts a b → AreFiltered m.encode layout.policies (tables_of seen) → IfOk r (λ n. HasLanded o m layout n a b from own seen own')
    lands_landed (Ok n) lands stored filtered = record {
      journal = before;
      seen = begins_here;
      tables = ts;
      event = lands.event.0;
      place = lands.event.1;
      from = from;
      through = lands.through has.flight_of has.flies ∙ has.errand.through;
      number = has.flight_of.number;
      layers = took has.flight_of;
      taken = flush_at (Ok n) before refl lands;
      runs = runs;
      put = put;
      stored = stored;
      filtered = filtered;
    }
    lands_landed (Err e) lands stored filtered = tt

    -- its tables stay, and no event names them
    pub lands_left : (r : Result ℕ SlateDBError) → Lands before ts flight own seen own' r → OnErr r (HasGivenUp o m layout a b from seen)
    lands_left (Ok n) lands = tt
    lands_left (Err e) lands = record {
      from = from;
      number = has.flight_of.number;
      layers = took has.flight_of;
      taken = flush_at (Err e) seen (sym lands.same.0) lands;
      put = may_take (AreSomeOfFlush m layout has.flight_of.number (barrier_of o from) (took has.flight_of)) ts a b ([], put.made) put.taken;
    }

  pub lands_kept : (r : Result ℕ SlateDBError) (a b : Option Objects) → Lands before ts flight own seen own' r → KeepsOn before a b → OnErr r ((own' ≡ own) × KeepsOn seen a b)
  lands_kept (Ok n) a b lands keeps = tt
  lands_kept (Err e) a b lands keeps = (lands.same.1, subst (λ (es : List Event). KeepsOn es a b) (sym lands.same.0) keeps)

  pub lands_seen : (r : Result ℕ SlateDBError) → Lands before ts flight own seen own' r → IsPrefix first seen
  lands_seen (Ok n) lands = subst (IsPrefix first) (sym lands.event.0) (prefix_more first before (Install n ts ∷ []) pre)
  lands_seen (Err e) lands = subst (IsPrefix first) (sym lands.same.0) pre

  pub lands_cause : (r : Result ℕ SlateDBError) (a b : Reach) (P : SlateDBError → Type 0) → Lands before ts flight own seen own' r →
      IfErr r (λ e. IsFault a b e ⊎ ((e ≡ LimitReached LIMIT) × IsFull 1 seen) ⊎ P e)
  lands_cause (Ok n) a b P lands = tt
  lands_cause (Err e) a b P lands = ⊎_elim (λ (out : e ≡ OutOfMemory). inl (subst (IsFault a b) (sym out) tt)) (λ (full : (e ≡ LimitReached LIMIT) × IsFull 1 before). inr (inl (full.0, subst (IsFull 1) (sym lands.same.0) full.1))) lands.cause

-- ---- its tables weren't stored

abbrev pub Unstored : Meaning → Layout → ℕ → List Rows → SlateDBError → Type 0
Unstored m layout barrier layers e = ((rows : Rows) × IsFolded m barrier layers rows × AreInOrder rows × HasTooLarge layout rows e) ⊎ WantsOperator m layers e

pub unstored_cause : (o : Settings) (m : Meaning) (layout : Layout) (journal : List Event) (flight : Option Flight) (x : Errand) (layers : List Rows) (a b : Reach) (seen : List Event) (e : SlateDBError) → HasErrand o m journal flight x → a.meaning ≡ m → layers ≡ map (λ t. t.rows) x.tables.items →
    IsFault a b e ⊎ Unstored a.meaning layout x.barrier layers e →
    IsFault a b e ⊎ ((e ≡ LimitReached LIMIT) × IsFull 1 seen) ⊎ HasTableTooLarge o m layout journal e
unstored_cause o m layout journal flight x layers a b seen e has means same cause =
    ⊎_elim (λ (fault : IsFault a b e). inl fault) (λ (u : Unstored a.meaning layout x.barrier layers e). inr (inr (by (subst (λ (y : Meaning). Unstored y layout x.barrier layers e) means u)))) cause
  where
    are : layers ≡ took has.flight_of
    are = same ∙ has.errand.tables

    rows : IsRowsOf o m journal layers
    rows = subst (IsRowsOf o m journal) (sym are) has.errand.rows

    plain : m.combine ≡ None → is_merge_among (newest_first layers) ≡ false
    plain none = ap (λ ls. is_merge_among (newest_first ls)) are ∙ has.errand.plain none

    by : Unstored m layout x.barrier layers e → HasTableTooLarge o m layout journal e
    by (inl large) = record {
      layers = layers;
      are = rows;
      rows = large.0;
      folded = subst (λ (b : ℕ). IsFolded m b layers large.0) (has.errand.barrier ∙ has.errand.start) large.1;
      order = large.2;
      large = large.3;
    }
    by (inr wants) = let clash : true ≡ false = sym wants.2 ∙ plain wants.1 in cc

-- of a store that refused them some first ones may stay
pub unstored_left : (o : Settings) (m : Meaning) (layout : Layout) (from seen : List Event) (flight : Option Flight) (x : Errand) (a b : Option Objects) → IsPrefix from seen → (has : HasErrand o m from flight x) → IsNextFlush has.flight_of.number seen →
    MayTakeTables (AreSomeOfFlush m layout has.flight_of.number (barrier_of o from) (took has.flight_of)) a b → HasGivenUp o m layout a b from seen
unstored_left o m layout from seen flight x a b early has next may = record {
  from = from;
  number = has.flight_of.number;
  layers = took has.flight_of;
  taken = record { known = prefix_self from; later = early; next = next; rows = has.errand.rows };
  put = may;
}

-- ---- all of it

-- it found nothing to store, or was refused as it set off
pub refused_off : (o : Settings) (m : Meaning) (layout : Layout) (a b : Reach) (first before seen : List Event) (e : SlateDBError) → IsPrefix first before → IsPrefix before seen → Refusal 1 before e →
    IsFault a b e ⊎ ((es : List Event) × IsPrefix first es × IsPrefix es seen × IsOverLimit o m layout es e)
refused_off o m layout a b first before seen e pre post cause = ⊎_elim (λ (out : e ≡ OutOfMemory). inl (subst (IsFault a b) (sym out) tt)) (λ (full : (e ≡ LimitReached LIMIT) × IsFull 1 before). inr (before, pre, post, inl full)) cause

pub none_above : (n : ℕ) (seen : List Event) → above_install seen ≡ [] → AllByRecursion (λ c. n < c.seq) (above_install seen)
none_above n seen none = subst (λ (cs : List Commit). AllByRecursion (λ c. n < c.seq) cs) (sym none) tt

-- its install is the last
pub through_flown : (o : Settings) (m : Meaning) (layout : Layout) (from : List Event) (w u : View) (a b : Option Objects) (r : Result ℕ SlateDBError) → IfOk r (λ n. HasLanded o m layout n a b from w.own u.seen u.own) →
    IfOk r (λ n. AllByRecursion (λ c. n < c.seq) (above_install u.seen))
through_flown o m layout from w u a b (Ok n) h = above_newest u.seen h.journal n h.tables h.event
through_flown o m layout from w u a b (Err e) h = tt

-- v: as it was; w: when it had set off; u: at its end
module _ (o : Options) (m : Meaning) (v w u : View) (before : List Event) (newest : ℕ) (x : Errand) (pre : IsPrefix v.seen before) (off : Departs o m before w.seen w.flight (Ok (newest, Some x))) where
  pub seen_off : IsPrefix before w.seen
  seen_off = prefix_either before w.seen Freeze off.event

  pub begins_off : IsPrefix v.seen w.seen
  begins_off = prefix_trans v.seen before w.seen pre seen_off

  pub newest_flown : (r : Result ℕ SlateDBError) → IsPrefix w.seen u.seen → ((f : Flight) → w.flight ≡ Some f → IfOk r (λ n. n ≡ f.through)) →
      IfOk r (λ n. (es : List Event) × IsPrefix v.seen es × IsPrefix es u.seen × (n ≡ last_of o.start_seq (replay es).commits))
  newest_flown (Ok n) seen through = (before, pre, prefix_trans before w.seen u.seen seen_off seen, through off.off.flight_of off.off.flies ∙ off.off.errand.through)
  newest_flown (Err e) seen through = tt

  taken_off : (from es : List Event) (number : ℕ) (layers : List Rows) → IsFlushFrom (settings_of o) m before from es number layers → IsFlushFrom (settings_of o) m v.seen from es number layers
  taken_off from es number layers h = record { known = prefix_trans v.seen before from pre h.known; later = h.later; next = h.next; rows = h.rows }

  pub own_flown : (layout : Layout) (still : Type 0) (a b : Option Objects) (r : Result ℕ SlateDBError) → w.own ≡ v.own → IfOk r (λ n. HasLanded (settings_of o) m layout n a b before w.own u.seen u.own) →
      IfOk r (λ n. ((u.own ≡ v.own) × still) ⊎ HasLanded (settings_of o) m layout n a b v.seen v.own u.seen u.own)
  own_flown layout still a b (Ok n) own h = inr (record {
    journal = h.journal;
    seen = prefix_trans v.seen before h.journal pre h.seen;
    tables = h.tables;
    event = h.event;
    place = h.place ∙ ap (λ (ns : List ℕ). ns ++ length h.journal ∷ []) own;
    from = h.from;
    through = h.through;
    number = h.number;
    layers = h.layers;
    taken = taken_off h.from h.journal h.number h.layers h.taken;
    runs = h.runs;
    put = h.put;
    stored = h.stored;
    filtered = h.filtered;
  })
  own_flown layout still a b (Err e) own h = tt

  pub refused_flown : (a b : Option Objects) (r : Result ℕ SlateDBError) → w.own ≡ v.own → OnErr r ((u.own ≡ w.own) × KeepsOn u.seen a b) → OnErr r ((u.own ≡ v.own) × KeepsOn u.seen a b)
  refused_flown a b (Ok n) own h = tt
  refused_flown a b (Err e) own h = (h.0 ∙ own, h.1)

  pub left_flown : (layout : Layout) (still : Type 0) (a b : Option Objects) (r : Result ℕ SlateDBError) → OnErr r (HasGivenUp (settings_of o) m layout a b before u.seen) → OnErr r (still ⊎ HasGivenUp (settings_of o) m layout a b v.seen u.seen)
  left_flown layout still a b (Ok n) h = tt
  left_flown layout still a b (Err e) h = inr (record { from = h.from; number = h.number; layers = h.layers; taken = taken_off h.from u.seen h.number h.layers h.taken; put = h.put })

  pub cause_flown : (layout : Layout) (a b : Reach) (r : Result ℕ SlateDBError) → IsPrefix w.seen u.seen → IfErr r (λ e. IsFault a b e ⊎ ((e ≡ LimitReached LIMIT) × IsFull 1 u.seen) ⊎ HasTableTooLarge (settings_of o) m layout before e) →
      IfErr r (λ e. IsFault a b e ⊎ ((es : List Event) × IsPrefix v.seen es × IsPrefix es u.seen × IsOverLimit (settings_of o) m layout es e))
  cause_flown layout a b (Ok n) later cause = tt
  cause_flown layout a b (Err e) later (inl fault) = inl fault
  cause_flown layout a b (Err e) later (inr (inl full)) = inr (u.seen, prefix_trans v.seen w.seen u.seen begins_off later, prefix_self u.seen, inl full)
  cause_flown layout a b (Err e) later (inr (inr large)) = inr (before, pre, prefix_trans before w.seen u.seen seen_off later, inr large)
