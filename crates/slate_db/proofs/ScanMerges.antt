-- A scan that was opened: what it leaves, and what it may refuse for.
use Rattle.std.proofs.Common.{◌≡◌, ◌≢◌, ◌⊎◌, inl, inr, ℕ, ◌≤◌, true, false, List, [], ◌∷◌, ◌++◌, map, filter, flat_map, reverse, Option, Some, None, refl, sym, ap, subst, ◌∙◌}
use Rattle.std.specs.Prelude.{Contains, IfErr, IfOk, Result, Ok, Err}
use Rattle.std.proofs.lemmas.List.Elements.{Contains-append_right}
use Rattle.std.specs.List.{AllByRecursion}
use Rattle.slate_types.specs.declared.bytes_range.BytesRange.{BytesRange}
use Rattle.slate_types.specs.declared.error.SlateDBError.{SlateDBError}
use Rattle.slate_types.specs.declared.error.SlateDBError.TheVariants.{InvalidSequenceOrder, IteratorNotInitialized, OutOfMemory}
use Rattle.slate_types.specs.declared.filter_policy.FilterContext.{FilterContext}
use Rattle.slate_types.specs.declared.filter_policy.FilterQuery.{FilterQuery}
use Rattle.slate_types.specs.declared.iter.IterationOrder.{IterationOrder}
use Rattle.slate_types.specs.declared.types.KeyValue.{KeyValue}
use Rattle.slate_types.specs.declared.types.RowEntry.{RowEntry}
use Rattle.slate_types.specs.Fold.{operator_at}
use Rattle.slate_types.specs.Iteration.{IsInOrder}
use Rattle.slate_types.specs.Keys.{in_range}
use Rattle.slate_types.specs.Outside.{Act, IsFault, Meaning, Objects, OnlyReads, Reach}
use Rattle.slate_types.specs.Refusing.{IsDamage, IsReady, NoMore}
use Rattle.slate_types.specs.Steps.{Takes}
use Rattle.slate_types.specs.World.{AnswersWorld, Checks, IsCall, Made, Sees, World}
use Rattle.slate_types.proofs.Calls.{call_both, seen}
use Rattle.slate_types.proofs.Reaching.{fault_earlier}
use Rattle.slate_mem.specs.Batch.{Ops}
use Rattle.slate_mem.specs.BatchModel.{holds_merge}
use Rattle.slate_mem.specs.Lookup.{newest_first}
use Rattle.slate_merge.specs.declared.folding.Folding.{Folding}
use Rattle.slate_merge.specs.declared.merge_iterator.MergeState.{MergeState}
use Rattle.slate_merge.specs.declared.merge_iterator.MergeState.TheVariants.{Begun, New, Refused}
use Rattle.slate_merge.specs.Folding.{NoneRises, folded, is_open}
use Rattle.slate_merge.specs.Folds.{Blames, BlamesNext, IsRise, MeetsOpen, MeetsRise}
use Rattle.slate_merge.specs.Offers.{Comes, Rises}
use Rattle.slate_merge.specs.MergeLaws.{merged_in_order}
use Rattle.slate_merge.specs.Merging.{AnyByRecursion, blames, waiting_sources}
use Rattle.slate_merge.specs.MergeStateLaws.{any_weaker, merges}
use Rattle.slate_merge.specs.MergeStates.{IsFrontIn, IsMergeOf, WaitingAre, refuses_in}
use Rattle.slate_merge.specs.OperatorLaws.{brought_weaker}
use Rattle.slate_merge.specs.OperatorIterators.{IsFolding, IsGoing, IsOperable, Keeps, RefusesBy, Stays, StaysIn, rest_folding}
use Rattle.slate_merge.specs.Peeking.{TakesAhead, with_ahead}
use Rattle.slate_merge.proofs.Offerings.{offers_begun}
use Rattle.slate_read.specs.declared.sorted_run.SortedRun.{SortedRun}
use Rattle.slate_read.specs.ReadSources as read
use Rattle.slate_read.specs.Showing.{ShowsByReads}
use Rattle.slate_table.specs.declared.info.SsTableHandle.{SsTableHandle}
use Rattle.slate_table.specs.Parts.{Encode}
use Rattle.slate_db.specs.declared.scan.DbIterator.{DbIterator}
use Rattle.slate_db.specs.declared.scan.ScanState.{ScanState}
use Rattle.slate_db.specs.declared.scan.ScanState.TheVariants.{Walking}
use Rattle.slate_db.specs.Answered.{AnswersFrom}
use Rattle.slate_db.specs.Checked.{ChecksFrom, OrSlips}
use Rattle.slate_db.specs.Installs.{handles_of, tables_of}
use Rattle.slate_db.specs.Lookup.{AreFilteredAs}
use Rattle.slate_db.specs.Log.{AreFine}
use Rattle.slate_db.specs.Model.{CoreModel, Rows, memory}
use Rattle.slate_db.specs.OpenScans.{AreScanSources, CanOpen, FoldsRefuse, IsBlamedFor, SourcesBring, SourcesRise, folded_rows, merged_rows}
use Rattle.slate_filter.specs.Policy.{Policy}
use Rattle.slate_db.specs.Readable.{IsAnswered, IsOwnRow, IsReadable}
use Rattle.slate_db.specs.RangeShares.{HasUpto, LeavesSeen}
use Rattle.slate_db.specs.ScanFilters.{AreLetIn, AreRunsLeft, AreTablesThere, RunsAreLeft, ShowsFilters, scan_query}
use Rattle.slate_db.specs.Scanned.{AreStoredRuns, own_rows}
use Rattle.slate_db.specs.Scans.{AreForIn, AreScanTables, FoldsAll, HandsIn, IsFor, IsHandedByScan, IsMergeWithin, IsOpeningError, IsOperableIn, IsReadAmong, IsReached, IsRefusedByScan, IsScanRefusal, IsScanned, IsShownByScan, IsSoundIn, IsSoundSource, IsWorldOf, Leaves, MergedSources, RefusesFold, RefusesIn, ScanHands, ScanRefuses, ScanSource, ShowsAmong, has_value, left_in, merge_begins, merge_offers, merge_refuses, merge_rows, merge_seeks, merge_takes, order_of, source_refuses, source_rows}
use Rattle.slate_db.specs.Sound.{AreBases}
use Rattle.slate_db.specs.Whole.{IsWhole, Unseen}
use Rattle.slate_db.proofs.Answered.{from_first, from_last}
use Rattle.slate_db.proofs.Filters.{filtered_known}
use Rattle.slate_db.proofs.Foldings.{bases_closed, closed_bases, going_refuses, not_open, refuses_going}
use Rattle.slate_db.proofs.Runs.{all_handles}
use Rattle.slate_db.proofs.ScanBringings.{merge_sources, read_later, scanned_later, sources_scanned}
use Rattle.slate_db.proofs.ScanRises.{merge_risen, sources_risen}
use Rattle.slate_db.proofs.ScanFilters.{let_in_before, shows_more, tables_there}
use Rattle.slate_db.proofs.ScanOpenings.{ScanOpens, runs_of_core, scan_opens, stored}
use Rattle.slate_db.proofs.ScanRefusals.{IsShown, blamed_shows}
use Rattle.slate_db.proofs.ScanFolds.{merged_falls}
use Rattle.slate_db.proofs.ScanStates.{Folds, IsSound, Merged, OwnRefusal, met_anywhere, operable_folds}
use Rattle.slate_db.proofs.ScanWithin.{AreSourcesWithin, waiting_within}
use Rattle.slate_db.proofs.ScanWorlds.{or_slips_last, or_slips_world, sees_world, world_holds}

-- ---- a merge that was begun

pub waiting_blamed : {S : Type 0} (refuses : S → Meaning → List Act → Option (List ℕ) → SlateDBError → Type 0) (sources : List S) (s : MergeState S) → WaitingAre sources s → (m : Meaning) (reads : List Act) (at : Option (List ℕ)) (e : SlateDBError) →
    e ≢ IteratorNotInitialized → refuses_in refuses s m reads at e → (e ≢ IteratorNotInitialized) × blames refuses (waiting_sources sources) m reads at e
waiting_blamed refuses sources (New waiting) is m reads at e begun (inl bad) = absurd (begun bad)
waiting_blamed {S = S} refuses sources (New waiting) is m reads at e begun (inr b) = (begun, subst (λ (l : List S). blames refuses (waiting_sources l) m reads at e) is b)
waiting_blamed refuses sources (Begun heads) is m reads at e begun h = absurd is
waiting_blamed refuses sources (Refused k) is m reads at e begun h = absurd is

-- what the refusal of an opening is blamed on
pub refusal_blamed : {S : Type 0} (refuses : S → Meaning → List Act → Option (List ℕ) → SlateDBError → Type 0) (sources : List S) (s : MergeState S) → WaitingAre sources s → (a b : Reach) (error refusal : SlateDBError) →
    ((refusal ≡ error) × (error ≢ IteratorNotInitialized)) ⊎ (refusal ≡ OutOfMemory) → (reads : List Act) → IsCall a b reads → IsFault a b error ⊎ refuses_in refuses s a.meaning reads None error →
    Made a b (λ reads. IsFault a b refusal ⊎ ((refusal ≢ IteratorNotInitialized) × blames refuses (waiting_sources sources) a.meaning reads None refusal))
refusal_blamed refuses sources s waits a b error refusal (inr memory) reads call cause = (reads, call, inl (subst (IsFault a b) (sym memory) tt))
refusal_blamed refuses sources s waits a b error refusal (inl (same, begun)) reads call (inl fault) = (reads, call, inl (subst (IsFault a b) (sym same) fault))
refusal_blamed refuses sources s waits a b error refusal (inl (same, begun)) reads call (inr r) =
    (reads, call, inr (subst (λ (e : SlateDBError). (e ≢ IteratorNotInitialized) × blames refuses (waiting_sources sources) a.meaning reads None e) (sym same) (waiting_blamed refuses sources s waits a.meaning reads None error begun r)))

no_rows : {A : Type 0} (newer : List RowEntry) (oldest : RowEntry) (rows : List RowEntry) → [] ≡ newer ++ (oldest ∷ rows) → A
no_rows [] oldest rows is = cc
no_rows (r ∷ newer) oldest rows is = cc

blames_rise : {own opens rising : Type 0} (e : SlateDBError) → IsRise e → Blames e own opens rising → own ⊎ rising
blames_rise (InvalidSequenceOrder current next) h blames = blames.1 current next refl
blames_rise e h blames = absurd h

-- ---- a new iterator over it

module _ (sources : List ScanSource) (order : IterationOrder) (merge : MergedSources) (made : IsMergeOf sources order true merge) (it : Merged) (new : IsFolding merge (record { merge_different_expire_ts = true; snapshot_barrier_seq = None }) it) where
  abbrev fresh : Merged
  fresh = record { iterator = merge; folding = record { merge_different_expire_ts = true; snapshot_barrier_seq = None }; ahead = None; begun = false; refusal = None }

  is_fresh : fresh ≡ it
  is_fresh = sym (λ i. record { iterator = new.rows i; folding = new.folds i; ahead = new.none i; begun = new.unbegun i; refusal = new.unrefused i })

  pub fresh_waits : WaitingAre sources it.iterator.state
  fresh_waits = subst (λ (u : Merged). WaitingAre sources u.iterator.state) is_fresh made.waits

  pub fresh_within : (paths : List (List ℕ)) → AreSourcesWithin paths sources → IsMergeWithin it.iterator paths
  fresh_within paths h = waiting_within (λ (s : ScanSource) ps. read.IsSourceWithin s.iterator ps) sources it.iterator.state paths fresh_waits h

  module _ (w : World) (can : AllByRecursion (CanOpen w order) sources) where
    merge_is : merge_rows merge w ≡ merged_rows order w sources
    merge_is = (merges source_rows IsSoundSource order_of w sources order _ merge made can).1

    pub fresh_sound : IsSound it w
    fresh_sound = subst (λ (u : Merged). IsSound u w) is_fresh (
      (merges source_rows IsSoundSource order_of w sources order _ merge made can).0,
      subst (λ (o : IterationOrder). IsInOrder o (merge_rows merge w)) (sym made.ordered) (subst (IsInOrder order) (sym merge_is) (merged_in_order order true (map (λ s. source_rows s w) sources))),
    )

    pub fresh_rows : rest_folding merge_rows it w ≡ folded_rows w.meaning order w sources
    fresh_rows = ap (λ (u : Merged). rest_folding merge_rows u w) (sym is_fresh) ∙ ap (folded (operator_at w.meaning.combine) true None) merge_is

    pub fresh_operable : (w.meaning.combine ≡ None → AreBases (merged_rows order w sources)) → IsOperable merge_rows it w
    fresh_operable bases = subst (λ (u : Merged). IsOperable merge_rows u w) is_fresh (
      λ none. bases_closed None (merge_rows merge w) (subst AreBases (sym merge_is) (bases none)),
      subst (NoneRises true None) (sym merge_is) (merged_falls order (map (λ s. source_rows s w) sources)),
    )

  pub opened_folds : (v : Merged) → v.folding ≡ it.folding → FoldsAll v
  opened_folds v same = (ap (λ (f : Folding). f.merge_different_expire_ts) (same ∙ new.folds), ap (λ (f : Folding). f.snapshot_barrier_seq) (same ∙ new.folds))

  pub opened_operable : (v : Merged) (w : World) → v.folding ≡ it.folding → IsOperable merge_rows v w → IsOperableIn (Walking v) w
  opened_operable v w same h = operable_folds v w (opened_folds v same) h

  ready_never : {Q : Type 0} (v : Merged) (m : Meaning) (later : List Act) (at : Option (List ℕ)) (e : SlateDBError) → IsReady (Folds v m) → Folds v m later at e → e ≡ IteratorNotInitialized → Q
  ready_never v m later at e ready h is = absurd (ready later at (subst (λ (d : SlateDBError). Folds v m later at d) is h))

  pub opened_later : (v : Merged) (m : Meaning) (reads : List Act) → IsGoing v → IsReady (Folds v m) → NoMore (merge_refuses it.iterator m) reads (merge_refuses v.iterator m) →
      (later : List Act) (at : Option (List ℕ)) (e : SlateDBError) → merge_refuses v.iterator m later at e → IsBlamedFor sources m (reads ++ later) at e
  opened_later v m reads going ready less later at e h =
      waiting_blamed source_refuses sources it.iterator.state fresh_waits m (reads ++ later) at e
      (λ is. ready_never v m later at e ready (going_refuses (λ d. merge_refuses v.iterator m later at d ⊎ RefusesFold v m later at d) v e going (inl h)) is)
      (less later at e h)

  -- what it refuses from then on, its sources bring, or refuse
  pub opened_brought : (v : Merged) (m : Meaning) (reads : List Act) → IsReady (Folds v m) → NoMore (Folds it m) reads (Folds v m) → (later : List Act) (at : Option (List ℕ)) (e : SlateDBError) → Folds v m later at e → FoldsRefuse sources m (reads ++ later) at e
  opened_brought v m reads ready less later at e h = by (subst (λ (u : Merged). Folds u m (reads ++ later) at e) (sym is_fresh) (less later at e h))
    where
      begun : e ≢ IteratorNotInitialized
      begun is = ready_never v m later at e ready h is

      by : ((false ≡ false) × (e ≡ IteratorNotInitialized)) ⊎ (merge_refuses merge m (reads ++ later) at e ⊎ RefusesFold fresh m (reads ++ later) at e) → FoldsRefuse sources m (reads ++ later) at e
      by (inl bad) = absurd (begun bad.1)
      by (inr (inl refused)) = inr (waiting_blamed source_refuses sources merge.state made.waits m (reads ++ later) at e begun refused)
      by (inr (inr brought)) =
          let all = reads ++ later in
          inl (brought_weaker (λ r. merge_offers None merge m all (Comes r)) (SourcesBring sources m all) (λ r. merge_offers None merge m all (Rises r)) (SourcesRise sources m all) m at e
          (λ r c. merge_sources sources merge made.waits m all r c) (λ r c. merge_risen sources merge made.waits m all r c) brought)

  -- nor does a beginning bring more than they do
  pub opened_offers : (v : Merged) (m : Meaning) (reads : List Act) → v.ahead ≡ it.ahead → merge_begins it.iterator m reads v.iterator → (later : List Act) (r : RowEntry) → merge_offers v.ahead v.iterator m later (Comes r) → SourcesBring sources m (reads ++ later) r
  opened_offers v m reads same begun later r k =
      merge_sources sources merge made.waits m (reads ++ later) r
      (subst (λ (u : Merged). merge_offers u.ahead u.iterator m (reads ++ later) (Comes r)) (sym is_fresh)
      (offers_begun merge_begins merge_takes merge_seeks m it.iterator v.iterator reads begun it.ahead later (Comes r) (subst (λ (o : Option RowEntry). merge_offers o v.iterator m later (Comes r)) same k)))

  not_waiting : {Q : Type 0} (answer : Option RowEntry) (s : MergeState ScanSource) → WaitingAre sources s → IsFrontIn answer s → Q
  not_waiting answer (New waiting) is front = absurd front
  not_waiting answer (Begun heads) is front = absurd is
  not_waiting answer (Refused k) is front = absurd is

  unbegun : (s : MergeState ScanSource) → WaitingAre sources s → (m : Meaning) (reads : List Act) (at : Option (List ℕ)) (e : SlateDBError) → e ≡ IteratorNotInitialized → refuses_in source_refuses s m reads at e
  unbegun (New waiting) is m reads at e h = inl h
  unbegun (Begun heads) is m reads at e h = absurd is
  unbegun (Refused k) is m reads at e h = absurd is

  abbrev BlamedOn : (MergedSources → Meaning → List Act → Option RowEntry → MergedSources → Type 0) → Meaning → List Act → SlateDBError → Merged → Type 0
  BlamedOn takes m reads e v = BlamesNext merge_refuses takes it.folding.merge_different_expire_ts it.folding.snapshot_barrier_seq it.ahead m reads None e it.iterator v.iterator

  -- an opening meets no operand
  pub opening_own : (takes : MergedSources → Meaning → List Act → Option RowEntry → MergedSources → Type 0) → ((u v : MergedSources) (m : Meaning) (reads : List Act) (answer : Option RowEntry) → takes u m reads answer v → IsFrontIn answer u.state) →
      (v : Merged) (a b : Reach) (reads : List Act) (e : SlateDBError) → Stays merge_refuses takes it a.meaning reads None e v → IsFault a b e ⊎ Folds it a.meaning reads None e → IsFault a b e ⊎ refuses_in source_refuses it.iterator.state a.meaning reads None e
  opening_own takes front v a b reads e stays (inl fault) = inl fault
  opening_own takes front v a b reads e stays (inr r) = inr (by_fresh (subst (λ (u : Merged). RefusesBy u.refusal u.begun (λ d. refuses_in source_refuses it.iterator.state a.meaning reads None d ⊎ RefusesFold u a.meaning reads None d) e) (sym is_fresh) r))
    where
      met : MeetsOpen (λ u rs answer x. takes u a.meaning rs answer x) it.folding.snapshot_barrier_seq it.ahead reads it.iterator v.iterator → refuses_in source_refuses it.iterator.state a.meaning reads None e
      met (row, is_open_row, taken) = not_waiting (Some row) it.iterator.state fresh_waits (front it.iterator v.iterator a.meaning reads (Some row)
          (subst (λ (ahead : Option RowEntry). TakesAhead (λ u rs answer x. takes u a.meaning rs answer x) ahead reads (Some row) it.iterator v.iterator) new.none taken))

      risen : MeetsRise (λ u rs answer x. takes u a.meaning rs answer x) it.folding.merge_different_expire_ts it.folding.snapshot_barrier_seq it.ahead reads it.iterator v.iterator e → refuses_in source_refuses it.iterator.state a.meaning reads None e
      risen (given, came, ends) = first given came (subst (λ (ahead : Option RowEntry). with_ahead ahead given ≡ ends.newer ++ (ends.oldest ∷ ends.row ∷ [])) new.none ends.are)
        where
          first : (rows : List RowEntry) → Takes (λ u rs answer x. takes u a.meaning rs answer x) it.iterator reads rows v.iterator → rows ≡ ends.newer ++ (ends.oldest ∷ ends.row ∷ []) → refuses_in source_refuses it.iterator.state a.meaning reads None e
          first [] t is = no_rows ends.newer ends.oldest (ends.row ∷ []) is
          first (row ∷ rows) t is = not_waiting (Some row) it.iterator.state fresh_waits (front it.iterator t.0 a.meaning t.1 (Some row) t.4)

      stayed : StaysIn None false None e ((reads ≡ []) × (v ≡ it)) (Keeps e v × BlamedOn takes a.meaning reads e v) → RefusesFold fresh a.meaning reads None e → refuses_in source_refuses it.iterator.state a.meaning reads None e
      stayed (inl s) refused = unbegun it.iterator.state fresh_waits a.meaning reads None e s.1
      stayed (inr s) (inl operand) = elim (s.1.1.0 operand.refuses.1) [ inl own ↦ own | inr meets ↦ met meets ]
      stayed (inr s) (inr rise) = elim (blames_rise e rise.refuses.2 s.1.1) [ inl own ↦ own | inr meets ↦ risen meets ]

      by_fresh : ((false ≡ false) × (e ≡ IteratorNotInitialized)) ⊎ (refuses_in source_refuses it.iterator.state a.meaning reads None e ⊎ RefusesFold fresh a.meaning reads None e) → refuses_in source_refuses it.iterator.state a.meaning reads None e
      by_fresh (inl h) = unbegun it.iterator.state fresh_waits a.meaning reads None e h.1
      by_fresh (inr (inl h)) = h
      by_fresh (inr (inr h)) = stayed (subst (λ (u : Merged). StaysIn u.refusal u.begun None e ((reads ≡ []) × (v ≡ it)) (Keeps e v × BlamedOn takes a.meaning reads e v)) (sym is_fresh) stays) h

-- ---- what is left

module _ (os : Objects) (m : Meaning) (c : CoreModel) (n : ℕ) (ops : Ops) (range : BytesRange) (order : IterationOrder) (sources : List ScanSource) where
  pub opened_leaves : (o : ScanOpens os m c n ops range order sources) (rows : Merged) (it : DbIterator) → it.state ≡ Walking rows → it.range ≡ range → it.order ≡ order → IsGoing rows × FoldsAll rows × (rows.iterator.order ≡ order) →
      IsSound rows o.world → rest_folding merge_rows rows o.world ≡ folded_rows o.world.meaning order o.world sources → IsOperableIn (Walking rows) o.world → AreForIn range m (Walking rows) →
      LeavesSeen os m c n ops range order it
  opened_leaves o rows it state_is range_is order_is going sound rest op meant = (
    o.world,
    o.is,
    record {
      sound = subst (λ (s : ScanState). IsSoundIn it.order s o.world) (sym state_is) (going.0, going.1, sound, going.2 ∙ sym order_is);
      operable = subst (λ (s : ScanState). IsOperableIn s o.world) (sym state_is) op;
      within = subst (λ (b : BytesRange). AllByRecursion (λ r. in_range b r.key ≡ true) (left_in it.state o.world)) (sym range_is) (subst (AllByRecursion (λ r. in_range range r.key ≡ true)) (sym left_is) o.within);
      left = ap (filter has_value) left_is ∙ o.left;
      meant = subst (λ (b : BytesRange). AreForIn b o.world.meaning it.state) (sym range_is) (subst (λ (s : ScanState). AreForIn range o.world.meaning s) (sym state_is) (subst (λ (k : Meaning). AreForIn range k (Walking rows)) (sym o.is.meaning) meant));
    },
  )
    where
      left_is : left_in it.state o.world ≡ folded_rows m order o.world sources
      left_is = ap (λ (s : ScanState). left_in s o.world) state_is ∙ rest ∙ ap (λ (k : Meaning). folded_rows k order o.world sources) o.is.meaning

-- ---- what is refused

-- what reads show they show behind others
by_reads_later : (decode : Encode) (h : SsTableHandle) (done reads : List Act) (e : SlateDBError) → ShowsByReads decode h reads e → ShowsByReads decode h (done ++ reads) e
by_reads_later decode h done reads e s = record {
  given = s.given;
  among = Contains-append_right done reads _ s.among;
  why = elim s.why [
    | inl k ↦ inl k
    | inr k ↦ inr (k.0, k.1, record { first = k.2.first; stop = k.2.stop; at = k.2.at; from = k.2.from; upto = k.2.upto; within = k.2.within; given = k.2.given; among = Contains-append_right done reads _ k.2.among; refuses = k.2.refuses })
  ];
}

shown_later : (decode : Encode) (hs : List SsTableHandle) (done reads : List Act) (e : SlateDBError) → ShowsAmong decode hs reads e → ShowsAmong decode hs (done ++ reads) e
shown_later decode hs done reads e (h, there, s) = (h, there, by_reads_later decode h done reads e s)

-- opening: the reads of the call that asked
module _ (policies : List Policy) (query : Option FilterQuery) (m : Meaning) (c : CoreModel) (opening : List Act) where
  pub refused_later : (done reads : List Act) (at : Option (List ℕ)) (e : SlateDBError) → IsRefusedByScan policies query m c opening reads at e → IsRefusedByScan policies query m c opening (done ++ reads) at e
  refused_later done reads at e r = record {
    left = r.left;
    tables = r.tables;
    refused = elim r.refused [
      | inl k ↦ inl (brought_weaker (IsScanned m c r.left reads) (IsScanned m c r.left (done ++ reads)) (IsReadAmong m r.left reads) (IsReadAmong m r.left (done ++ reads)) m at e (scanned_later m c r.left done reads) (read_later m r.left done reads) k)
      | inr s ↦ inr (shown_later m.decode r.left done reads e s)
    ];
  }

  pub handed_later : (done reads : List Act) (a : KeyValue) → IsHandedByScan policies query m c opening reads a → IsHandedByScan policies query m c opening (done ++ reads) a
  handed_later done reads a h = record { left = h.left; tables = h.tables; row = h.row; base = h.base; value = h.value; scanned = scanned_later m c h.left done reads h.row h.scanned }

-- left: of the runs of a core, what filters left
module _ (m : Meaning) (c : CoreModel) (x : Unseen) (w : IsWhole c x) (left : List SortedRun) (among : (h : SsTableHandle) → Contains (handles_of left) h → Contains (handles_of x.runs) h) (range : BytesRange) (order : IterationOrder) (n : ℕ) (ops : Ops)
    (layers : List Rows) (sources : List ScanSource) (are : AreScanSources range order n ops layers (reverse left) sources) where
  shown : (reads : List Act) (at : Option (List ℕ)) (e : SlateDBError) → IsReached range at → IsBlamedFor sources m reads at e → IsShown m (handles_of left) reads e
  shown reads at e reached blamed = blamed_shows m range order n ops layers left sources are reads at e reached blamed

  abbrev pub LaterBlamed : Merged → List Act → Type 0
  LaterBlamed rows reads = (later : List Act) (at : Option (List ℕ)) (e : SlateDBError) → merge_refuses rows.iterator m later at e → IsBlamedFor sources m (reads ++ later) at e

  pub sources_for : (rows : Merged) (reads : List Act) → LaterBlamed rows reads → AreForIn range m (Walking rows)
  sources_for rows reads blamed later at e h = (shown (reads ++ later) at e h.0 (blamed later at e h.1)).0

  own_refusal : (rows : Merged) (it : DbIterator) → it.state ≡ Walking rows → it.range ≡ range → IsGoing rows → (later : List Act) (at : Option (List ℕ)) (e : SlateDBError) → ScanRefuses it m later at e → OwnRefusal range rows m later at e
  own_refusal rows it state_is range_is going later at e h =
      refuses_going (OwnRefusal range rows m later at) rows e going (subst (λ (b : BytesRange). RefusesIn b (Walking rows) m later at e) range_is (subst (λ (s : ScanState). RefusesIn it.range s m later at e) state_is h))

  pub scan_is_for : (rows : Merged) (it : DbIterator) (reads : List Act) → it.state ≡ Walking rows → it.range ≡ range → IsGoing rows → LaterBlamed rows reads → IsFor m it
  scan_is_for rows it reads state_is range_is going blamed later at e h = by (own_refusal rows it state_is range_is going later at e h)
    where
      by : OwnRefusal range rows m later at e → IsScanRefusal e
      by (inl (inl operand)) = inl operand.refuses.1
      by (inl (inr rise)) = inr (inl rise.refuses.2)
      by (inr r) = inr (inr (sources_for rows reads blamed later at e r))

  abbrev pub LaterBrought : Merged → List Act → Type 0
  LaterBrought rows reads = (later : List Act) (at : Option (List ℕ)) (e : SlateDBError) → Folds rows m later at e → FoldsRefuse sources m (reads ++ later) at e

  -- opening: the reads of the call that asked
  module _ (policies : List Policy) (query : Option FilterQuery) (opening : List Act) (asked : AreLetIn m.decode policies query (handles_of left) opening) where
    scan_tables : AreScanTables policies query m c opening (handles_of left)
    scan_tables = record { handles = handles_of x.runs; are = all_handles c.events x.runs w.tied.runs; among = among; asked = asked }

    -- owns: the own operations are of an open transaction; there: the rows of the layers are among those in memory
    pub scan_refused : (owns : (k : List ℕ) → AllByRecursion (IsOwnRow c) (own_rows ops k)) → (there : (r : RowEntry) → Contains (flat_map (λ rows. rows) layers) r → Contains (newest_first (memory c)) r) → (rows : Merged) (it : DbIterator) (reads : List Act) → it.state ≡ Walking rows → it.range ≡ range → IsGoing rows → LaterBrought rows reads →
        (later : List Act) (at : Option (List ℕ)) (e : SlateDBError) → ScanRefuses it m later at e → IsRefusedByScan policies query m c opening (reads ++ later) at e
    scan_refused owns there rows it reads state_is range_is going brought later at e h = by (own_refusal rows it state_is range_is going later at e h)
      where
        of : IsReached range at → FoldsRefuse sources m (reads ++ later) at e → IsRefusedByScan policies query m c opening (reads ++ later) at e
        of reached (inl met) = record {
          left = handles_of left;
          tables = scan_tables;
          refused = inl (brought_weaker (SourcesBring sources m (reads ++ later)) (IsScanned m c (handles_of left) (reads ++ later)) (SourcesRise sources m (reads ++ later)) (IsReadAmong m (handles_of left) (reads ++ later)) m at e
              (λ r k. sources_scanned m range order (reads ++ later) r c n ops layers left sources are owns (there r) k)
              (λ r k. sources_risen m range order (reads ++ later) r n ops layers left sources are k) met);
        }
        of reached (inr blamed) = record { left = handles_of left; tables = scan_tables; refused = inr (shown (reads ++ later) at e reached blamed).1 }

        folds : merge_refuses rows.iterator m later at e ⊎ RefusesFold rows m later at e → Folds rows m later at e
        folds k = going_refuses (λ d. merge_refuses rows.iterator m later at d ⊎ RefusesFold rows m later at d) rows e going k

        by : OwnRefusal range rows m later at e → IsRefusedByScan policies query m c opening (reads ++ later) at e
        by (inl met) = of (met_anywhere rows range m later at e met) (brought later at e (folds (inr met)))
        by (inr r) = of r.0 (brought later at e (folds (inl r.1)))

    -- what it hands out from then on where there is no operator
    pub scan_hands : (owns : (k : List ℕ) → AllByRecursion (IsOwnRow c) (own_rows ops k)) → (there : (r : RowEntry) → Contains (flat_map (λ rows. rows) layers) r → Contains (newest_first (memory c)) r) → (rows : Merged) (it : DbIterator) (reads : List Act) → it.state ≡ Walking rows → FoldsAll rows →
        ((later : List Act) (r : RowEntry) → merge_offers rows.ahead rows.iterator m later (Comes r) → SourcesBring sources m (reads ++ later) r) → (later : List Act) (a : KeyValue) → ScanHands it m later a → IsHandedByScan policies query m c opening (reads ++ later) a
    scan_hands owns there rows it reads state_is folds offered later a h = by (subst (λ (s : ScanState). HandsIn s m later a) state_is h)
      where
        by : HandsIn (Walking rows) m later a → IsHandedByScan policies query m c opening (reads ++ later) a
        by q = record {
          left = handles_of left;
          tables = scan_tables;
          row = q.row;
          base = not_open q.row (subst (λ (b : Option ℕ). is_open b q.row ≡ false) folds.1 q.closed);
          value = q.value;
          scanned = sources_scanned m range order (reads ++ later) q.row c n ops layers left sources are owns (there q.row) (offered later q.row q.brought);
        }

  -- before: the filters were asked
  pub opening_refused : (policies : List Policy) (query : Option FilterQuery) (before middle after : Reach) (e : SlateDBError) → middle.meaning ≡ m → OnlyReads before middle →
      Made before middle (λ reads. AreLetIn before.meaning.decode policies query (handles_of left) reads) → Made middle after (λ reads. IsFault middle after e ⊎ IsBlamedFor sources m reads None e) → IsOpeningError policies query before after c e
  opening_refused policies query before middle after e same first asked (reads, call, inl fault) = inl (fault_earlier before middle after e first.later fault)
  opening_refused policies query before middle after e same first asked (reads, call, inr blamed) =
      inr (
        asked.0 ++ reads,
        call_both before middle after asked.0 reads asked.1 call,
        inl (subst (λ (k : Meaning). IsShownByScan policies query k c (asked.0 ++ reads) e) (sym same ∙ first.meaning) (record {
          left = handles_of left;
          tables = scan_tables policies query (asked.0 ++ reads) (let_in_before m.decode policies query (handles_of left) asked.0 reads (subst (λ (k : Meaning). AreLetIn k.decode policies query (handles_of left) asked.0) (sym first.meaning ∙ same) asked.2));
          shown = shown_later m.decode (handles_of left) asked.0 reads e (shown reads None e tt blamed).1;
        })),
      )

  pub opening_undamaged : (os : Objects) (before after : Reach) (e : SlateDBError) (o : ScanOpens os m c n ops range order sources) → Sees o.world before after → Made before after (λ reads. IsFault before after e ⊎ IsBlamedFor sources m reads None e) → IsFault before after e
  opening_undamaged os before after e o sees (reads, call, inl fault) = fault
  opening_undamaged os before after e o sees (reads, call, inr blamed) = absurd (undamaged sources o.can (either blamed.1) (shown reads None e tt blamed).0)
    where
      each : AllByRecursion (AnswersWorld o.world) reads
      each = seen o.world before after reads sees call

      either : blames source_refuses (waiting_sources sources) m reads None e → AnyByRecursion (λ s. source_refuses s m reads None e) sources
      either (inl some) = any_weaker _ _ (λ s h. elim h [ inl r ↦ r | inr r ↦ r ]) sources some
      either (inr none) = absurd none

      undamaged : (ss : List ScanSource) → AllByRecursion (CanOpen o.world order) ss → AnyByRecursion (λ s. source_refuses s m reads None e) ss → IsDamage e → ⊥
      undamaged [] can some = absurd some
      undamaged (s ∷ ss) can (inl r) = read.source_whole s.iterator o.world reads None e can.0.0.0 each (subst (λ (k : Meaning). source_refuses s k reads None e) (sym o.is.meaning) r)
      undamaged (s ∷ ss) can (inr r) = undamaged ss can.1 r

-- ---- a scan of a core

-- what asking filters is refused for
pub asking_refused : (policies : List Policy) (query : Option FilterQuery) (before after : Reach) (c : CoreModel) (x : Unseen) → IsWhole c x → (e : SlateDBError) →
    IsFault before after e ⊎ Made before after (λ reads. ShowsFilters before.meaning.decode policies query (handles_of x.runs) reads e) → IsOpeningError policies query before after c e
asking_refused policies query before after c x w e (inl fault) = inl fault
asking_refused policies query before after c x w e (inr (reads, call, s)) = inr (reads, call, inr (record { handles = handles_of x.runs; are = all_handles c.events x.runs w.tied.runs; shown = s }))

-- the same of equal policies, and of an equal query
pub query_as : {A : Type 0} (of : A → Policy) (xs ys : List A) → xs ≡ ys → (range : BytesRange) (p q : Option (List ℕ)) → p ≡ q → (u v : Option FilterContext) → u ≡ v → (means : List Policy → Option FilterQuery → Type 0) →
    means (map of xs) (scan_query range p u) → means (map of ys) (scan_query range q v)
query_as {A} of xs ys policies range p q prefix u v context means h =
    subst (λ (ws : List A). means (map of ws) (scan_query range q v)) policies
    (subst (λ (o : Option (List ℕ)). means (map of xs) (scan_query range o v)) prefix (subst (λ (o : Option FilterContext). means (map of xs) (scan_query range p o)) context h))

pub answered_as : {A : Type 0} (of : A → Policy) (xs ys : List A) → xs ≡ ys → (before after : Reach) (c : CoreModel) (means : Objects → Type 0) → ((a : IsAnswered (map of xs) before after c) → means a.os) → (a : IsAnswered (map of ys) before after c) → means a.os
answered_as {A} of xs ys same before after c means h = subst (λ (ws : List A). (a : IsAnswered (map of ws) before after c) → means a.os) same h

-- the runs of a core are stored, with their filters
pub runs_filtered : (policies : List Policy) (m : Meaning) (os : Objects) (c : CoreModel) (x : Unseen) → IsWhole c x → IsReadable policies m os c → AreFilteredAs policies m os (handles_of x.runs)
runs_filtered policies m os c x w r = filtered_known policies m os (tables_of c.events) (handles_of x.runs) r.lawful_policies r.filtered (all_handles c.events x.runs w.tied.runs) r.holds

pub runs_there : (policies : List Policy) (m : Meaning) (os : Objects) (c : CoreModel) (x : Unseen) → IsWhole c x → IsReadable policies m os c → AreTablesThere m os (handles_of x.runs)
runs_there policies m os c x w r = tables_there m os x.runs (runs_of_core m c x w r.lawful r.kept).groups (stored m c x w r.lawful r.kept os r.holds)

readable_still : (policies : List Policy) (m m2 : Meaning) (os : Objects) (c : CoreModel) → m2 ≡ m → IsReadable policies m os c → IsReadable policies m2 os c
readable_still policies m m2 os c same r = subst (λ (k : Meaning). IsReadable policies k os c) (sym same) r

abbrev LeavesRuns : List Policy → Meaning → Objects → BytesRange → List SortedRun → List SortedRun → Type 0
LeavesRuns policies m os range runs left = (groups : List (List Rows)) → AreStoredRuns m os runs groups → AreFilteredAs policies m os (handles_of runs) → AreRunsLeft range runs groups left

leaves_runs : (policies : List Policy) (query : Option FilterQuery) (before middle : Reach) (range : BytesRange) (runs left : List SortedRun) → RunsAreLeft policies query before middle range runs left → OnlyReads before middle → (os : Objects) → AnswersFrom os before middle → LeavesRuns policies middle.meaning os range runs left
leaves_runs policies query before middle range runs left asked first os answers groups s f =
    asked.others groups os (subst (λ (k : Meaning). AreStoredRuns k os runs groups) first.meaning s) (subst (λ (k : Meaning). AreFilteredAs policies k os (handles_of runs)) first.meaning f) answers

-- readable: objects for which the core is; lefts: what the filters left of its runs, by these
module _ (policies : List Policy) (before after : Reach) (c : CoreModel) (x : Unseen) (w : IsWhole c x) (left : List SortedRun) (among : (h : SsTableHandle) → Contains (handles_of left) h → Contains (handles_of x.runs) h) (range : BytesRange) (order : IterationOrder)
    (n : ℕ) (ops : Ops) (fine : AreFine ops) (from : c.floor ≤ n) (active : Rows) (has : HasUpto range n c.active active) (sources : List ScanSource) (are : AreScanSources range order n ops (active ∷ reverse c.frozen) (reverse left) sources) (os : Objects) (readable : IsReadable policies before.meaning os c)
    (lefts : LeavesRuns policies before.meaning os range x.runs left) (plain : before.meaning.combine ≡ None → holds_merge ops ≡ false) where
  opens : ScanOpens os before.meaning c n ops range order sources
  opens = scan_opens before.meaning c x w readable.lawful readable.kept os readable.holds n from ops fine plain range order left
      (lefts (runs_of_core before.meaning c x w readable.lawful readable.kept).groups (stored before.meaning c x w readable.lawful readable.kept os readable.holds) (runs_filtered policies before.meaning os c x w readable)) active has sources are

  -- where the objects answered the call, it met the world
  opens_met : AnswersFrom os before after → Sees opens.world before after
  opens_met answers = sees_world os opens.world before after opens.is.meaning (world_holds os before.meaning opens.world opens.is) answers

  world_operable : opens.world.meaning.combine ≡ None → AreBases (merged_rows order opens.world sources)
  world_operable none = opens.operable (ap (λ (m : Meaning). m.combine) (sym opens.is.meaning) ∙ none)

  scan_leaves : (rows : Merged) (it : DbIterator) → it.state ≡ Walking rows → it.range ≡ range → it.order ≡ order → IsGoing rows × FoldsAll rows × (rows.iterator.order ≡ order) →
      ((v : World) → AllByRecursion (CanOpen v order) sources → Sees v before after → IsSound rows v) →
      ((v : World) → AllByRecursion (CanOpen v order) sources → Sees v before after → rest_folding merge_rows rows v ≡ folded_rows v.meaning order v sources) →
      ((v : World) → AllByRecursion (CanOpen v order) sources → Sees v before after → (v.meaning.combine ≡ None → AreBases (merged_rows order v sources)) → IsOperableIn (Walking rows) v) →
      (reads : List Act) → LaterBlamed before.meaning c x w left among range order n ops (active ∷ reverse c.frozen) sources are rows reads →
      Sees opens.world before after → LeavesSeen os before.meaning c n ops range order it
  scan_leaves rows it state_is range_is order_is going sound rest op reads blamed sees =
      opened_leaves os before.meaning c n ops range order sources opens rows it state_is range_is order_is going (sound opens.world opens.can sees) (rest opens.world opens.can sees) (op opens.world opens.can sees world_operable)
      (sources_for before.meaning c x w left among range order n ops (active ∷ reverse c.frozen) sources are rows reads blamed)

  scan_undamaged : AnswersFrom os before after → (e : SlateDBError) → Made before after (λ reads. IsFault before after e ⊎ IsBlamedFor sources before.meaning reads None e) → IsFault before after e
  scan_undamaged answers e made = opening_undamaged before.meaning c x w left among range order n ops (active ∷ reverse c.frozen) sources are os before after e opens (opens_met answers) made

-- what an opened scan leaves: where objects answered the call, and over a store that tells its acts, but for a section that slipped
pub record OpensScan (policies : List Policy) (before after : Reach) (c : CoreModel) (n : ℕ) (ops : Ops) (range : BytesRange) (order : IterationOrder) (it : DbIterator) : Type 0 where
  pub answered : (a : IsAnswered policies before after c) → LeavesSeen a.os before.meaning c n ops range order it
  pub checked : (os : Objects) → IsReadable policies before.meaning os c → OrSlips os before after (LeavesSeen os before.meaning c n ops range order it)

-- filters are asked to the middle, and the sources that they left are opened from there on
module _ (policies : List Policy) (query : Option FilterQuery) (before middle after : Reach) (c : CoreModel) (x : Unseen) (w : IsWhole c x) (left : List SortedRun) (range : BytesRange) (asked : RunsAreLeft policies query before middle range x.runs left) (first : OnlyReads before middle) (last : OnlyReads middle after)
    (order : IterationOrder) (n : ℕ) (ops : Ops) (fine : AreFine ops) (from : c.floor ≤ n) (active : Rows) (has : HasUpto range n c.active active) (sources : List ScanSource) (are : AreScanSources range order n ops (active ∷ reverse c.frozen) (reverse left) sources)
    (plain : (os : Objects) → IsReadable policies middle.meaning os c → middle.meaning.combine ≡ None → holds_merge ops ≡ false) where
  module _ (os : Objects) (readable : IsReadable policies before.meaning os c) (answers : AnswersFrom os before middle) where
    abbrev still : IsReadable policies middle.meaning os c
    still = readable_still policies before.meaning middle.meaning os c first.meaning readable

    abbrev lefts_still : LeavesRuns policies middle.meaning os range x.runs left
    lefts_still = leaves_runs policies query before middle range x.runs left asked first os answers

    abbrev opens_last : ScanOpens os middle.meaning c n ops range order sources
    opens_last = opens policies middle after c x w left asked.among range order n ops fine from active has sources are os still lefts_still (plain os still)

  pub scan_opened : (rows : Merged) (it : DbIterator) → it.state ≡ Walking rows → it.range ≡ range → it.order ≡ order → IsGoing rows × FoldsAll rows × (rows.iterator.order ≡ order) →
      ((v : World) → AllByRecursion (CanOpen v order) sources → Sees v middle after → IsSound rows v) →
      ((v : World) → AllByRecursion (CanOpen v order) sources → Sees v middle after → rest_folding merge_rows rows v ≡ folded_rows v.meaning order v sources) →
      ((v : World) → AllByRecursion (CanOpen v order) sources → Sees v middle after → (v.meaning.combine ≡ None → AreBases (merged_rows order v sources)) → IsOperableIn (Walking rows) v) →
      ((v : World) → AllByRecursion (CanOpen v order) sources → Checks v middle after) →
      (reads : List Act) → IsCall middle after reads → LaterBlamed middle.meaning c x w left asked.among range order n ops (active ∷ reverse c.frozen) sources are rows reads →
      OpensScan policies before after c n ops range order it
  scan_opened rows it state_is range_is order_is going sound rest op checks reads call blamed = record {
    answered = λ a. let answers = from_first a.os before middle after first last a.answers in leaves a.os a.readable answers (met a.os a.readable answers (from_last a.os before middle after first last a.answers));
    checked = λ os r.
        or_slips_last os before middle after (LeavesSeen os before.meaning c n ops range order it) first last (asking_checked os r)
        (λ answers. let o = opens_last os r answers in or_slips_world os o.world middle after reads (LeavesSeen os before.meaning c n ops range order it) o.is call (checks o.world o.can) (leaves os r answers));
  }
    where
      asking_checked : (os : Objects) → IsReadable policies before.meaning os c → ChecksFrom os before middle
      asking_checked os r = asked.checked (runs_of_core before.meaning c x w r.lawful r.kept).groups os (stored before.meaning c x w r.lawful r.kept os r.holds)

      met : (os : Objects) (r : IsReadable policies before.meaning os c) (answers : AnswersFrom os before middle) → AnswersFrom os middle after → Sees (opens_last os r answers).world middle after
      met os r answers later = opens_met policies middle after c x w left asked.among range order n ops fine from active has sources are os (still os r answers) (lefts_still os r answers) (plain os (still os r answers)) later

      leaves : (os : Objects) (r : IsReadable policies before.meaning os c) (answers : AnswersFrom os before middle) → Sees (opens_last os r answers).world middle after → LeavesSeen os before.meaning c n ops range order it
      leaves os r answers sees =
          subst (λ (m : Meaning). LeavesSeen os m c n ops range order it) first.meaning
          (scan_leaves policies middle after c x w left asked.among range order n ops fine from active has sources are os (still os r answers) (lefts_still os r answers) (plain os (still os r answers))
          rows it state_is range_is order_is going sound rest op reads blamed sees)

  -- a refused opening, where objects answered the call
  pub opening_whole : (e : SlateDBError) → Made middle after (λ reads. IsFault middle after e ⊎ IsBlamedFor sources middle.meaning reads None e) → IsAnswered policies before after c → IsFault before after e
  opening_whole e made a =
      let answers = from_first a.os before middle after first last a.answers in
      fault_earlier before middle after e first.later
      (scan_undamaged policies middle after c x w left asked.among range order n ops fine from active has sources are a.os (still a.os a.readable answers) (lefts_still a.os a.readable answers) (plain a.os (still a.os a.readable answers))
      (from_last a.os before middle after first last a.answers) e made)

pub readable_as : {A : Type 0} (of : A → Policy) (xs ys : List A) → xs ≡ ys → (m : Meaning) (os : Objects) (c : CoreModel) → IsReadable (map of ys) m os c → IsReadable (map of xs) m os c
readable_as {A} of xs ys same m os c r = subst (λ (ws : List A). IsReadable (map of ws) m os c) (sym same) r
