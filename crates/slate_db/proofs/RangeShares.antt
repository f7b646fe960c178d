-- What stands in a range at a core's moment, and what an opening over it answers.
use Rattle.std.proofs.Common.{◌≡◌, ◌≢◌, ◌⊎◌, inl, inr, ℕ, ◌≤◌, false, List, [], ◌∷◌, ◌++◌, map, flat_map, reverse, Option, Some, None, refl, sym, ap, subst, ◌∙◌, append_assoc}
use Rattle.std.specs.Prelude.{Contains, Result, Ok, Err, IfErr, IfOk}
use Rattle.std.specs.List.{AllByRecursion}
use Rattle.std.proofs.lemmas.List.Elements.{Contains-append_cases, Contains-append_left, Contains-append_right}
use Rattle.slate_types.specs.declared.bytes_range.BytesRange.{BytesRange}
use Rattle.slate_types.specs.declared.error.SlateDBError.{SlateDBError}
use Rattle.slate_types.specs.declared.filter_policy.FilterQuery.{FilterQuery}
use Rattle.slate_types.specs.declared.iter.IterationOrder.{IterationOrder}
use Rattle.slate_types.specs.declared.types.KeyValue.{KeyValue}
use Rattle.slate_types.specs.declared.types.RowEntry.{RowEntry}
use Rattle.slate_types.specs.Iteration.{RowList}
use Rattle.slate_types.specs.Outside.{Act, IsFault, Meaning, Objects, OnlyReads, Reach, unblamed}
use Rattle.slate_types.specs.World.{Checks, Made, ReadsAt, Sees, World}
use Rattle.slate_types.proofs.Calls.{call_both}
use Rattle.slate_filter.specs.Policy.{Policy}
use Rattle.slate_mem.specs.BatchModel.{holds_merge}
use Rattle.slate_mem.specs.Lookup.{newest_first}
use Rattle.slate_merge.specs.Offers.{Comes}
use Rattle.slate_merge.specs.OperatorIterators.{IsGoing, rest_folding}
use Rattle.slate_read.specs.declared.sorted_run.SortedRun.{SortedRun}
use Rattle.slate_read.specs.TableWalk.{path_in}
use Rattle.slate_table.specs.declared.info.SsTableHandle.{SsTableHandle}
use Rattle.slate_txn.specs.Step.{Reader}
use Rattle.slate_db.specs.declared.scan.DbIterator.{DbIterator}
use Rattle.slate_db.specs.declared.scan.ScanState.{ScanState}
use Rattle.slate_db.specs.declared.scan.ScanState.TheVariants.{Walking}
use Rattle.slate_db.specs.Checked.{OrSlips}
use Rattle.slate_db.specs.Installs.{handles_of}
use Rattle.slate_db.specs.Lookup.{AreFilteredAs, AreStoredAs}
use Rattle.slate_db.specs.Model.{CoreModel, Rows, memory}
use Rattle.slate_db.specs.OpenScans.{AreScanSources, CanOpen, FoldsRefuse, IsBlamedFor, LeftSources, SourcesBring, folded_rows, merged_rows}
use Rattle.slate_db.specs.RangeShares.{HasUpto, IsOpened, IsPart, IsReaderOf, LeavesSeen, StandsIn}
use Rattle.slate_db.specs.Readable.{IsAnswered, IsReadable}
use Rattle.slate_db.specs.ScanFilters.{AreLeft, AreLetIn, AreRunsLeft, AreTablesThere, AsksOf, FailsAsking, RunsAreLeft, ShowsFilters}
use Rattle.slate_db.specs.Scanned.{AreStoredRuns, own_rows}
use Rattle.slate_db.specs.Scans.{FoldsAll, IsFor, IsHandedByScan, IsMergeWithin, IsOpeningError, IsOperableIn, IsRefusedByScan, IsScanWithin, IsWithinIn, ScanHands, ScanRefuses, ScanSource, merge_offers, merge_refuses, merge_rows}
use Rattle.slate_db.specs.SharedRuns.{tables_in}
use Rattle.slate_db.specs.Sound.{AreBases}
use Rattle.slate_db.proofs.RangeRows.{has_part}
use Rattle.slate_db.proofs.Readers.{own_of_reader}
use Rattle.slate_db.proofs.ScanBringings.{layers_turned}
use Rattle.slate_db.proofs.ScanFilters.{let_in_before}
use Rattle.slate_db.proofs.ScanMerges.{OpensScan, asking_refused, handed_later, opening_refused, opening_whole, refused_later, runs_filtered, runs_there, scan_hands, scan_is_for, scan_opened, scan_refused}
use Rattle.slate_db.proofs.ScanReaders.{plain_reader}
use Rattle.slate_db.proofs.ScanStates.{Folds, IsSound, Merged}
use Rattle.slate_db.proofs.ScanWithin.{AreSourcesWithin, asking_within, left_within, sources_within}
use Rattle.slate_db.proofs.SharedRuns.{same_handles}

-- ---- runs with the same tables

same_stored : (m : Meaning) (os : Objects) (runs copies : List SortedRun) (groups : List (List Rows)) → tables_in runs ≡ tables_in copies → AreStoredRuns m os runs groups → AreStoredRuns m os copies groups
same_stored m os [] [] [] same s = s
same_stored m os [] [] (ls ∷ groups) same s = absurd s
same_stored m os (r ∷ runs) (t ∷ copies) (ls ∷ groups) same s =
    let first : r.tables.items ≡ t.tables.items = cc in
    let later : tables_in runs ≡ tables_in copies = cc in
    (subst (λ (hs : List SsTableHandle). AreStoredAs m os hs ls) first s.0, same_stored m os runs copies groups later s.1)
same_stored m os (r ∷ runs) (t ∷ copies) [] same s = absurd s
same_stored m os [] (t ∷ copies) groups same s = cc
same_stored m os (r ∷ runs) [] groups same s = cc

same_left : (range : BytesRange) (runs copies : List SortedRun) (groups : List (List Rows)) (left : List SortedRun) → tables_in runs ≡ tables_in copies → AreRunsLeft range runs groups left → AreRunsLeft range copies groups left
same_left range [] [] [] left same h = h
same_left range [] [] (ls ∷ groups) left same h = absurd h
same_left range (r ∷ runs) (t ∷ copies) (ls ∷ groups) left same h =
    let first : r.tables.items ≡ t.tables.items = cc in
    let later : tables_in runs ≡ tables_in copies = cc in
    elim h [
      | inl k ↦ inl (k.0, k.1, k.2, subst (λ (hs : List SsTableHandle). AreLeft range hs ls k.0.tables.items) first k.3, same_left range runs copies groups k.1 later k.4)
      | inr k ↦ inr (subst (λ (hs : List SsTableHandle). AreLeft range hs ls []) first k.0, same_left range runs copies groups left later k.1)
    ]
same_left range (r ∷ runs) (t ∷ copies) [] left same h = absurd h
same_left range [] (t ∷ copies) groups left same h = cc
same_left range (r ∷ runs) [] groups left same h = cc

left_of_runs : (policies : List Policy) (query : Option FilterQuery) (before after : Reach) (range : BytesRange) (runs copies left : List SortedRun) → tables_in copies ≡ tables_in runs → RunsAreLeft policies query before after range copies left → RunsAreLeft policies query before after range runs left
left_of_runs policies query before after range runs copies left same h = record {
  among = λ t k. subst (λ (hs : List SsTableHandle). Contains hs t) (same_handles copies runs same) (h.among t k);
  let_in = subst (λ (hs : List SsTableHandle). AsksOf hs before after (λ reads. AreLetIn before.meaning.decode policies query (handles_of left) reads)) (same_handles copies runs same) h.let_in;
  others = λ groups os stored filtered answers.
      same_left range copies runs groups left same
      (h.others groups os (same_stored before.meaning os runs copies groups (sym same) stored) (subst (AreFilteredAs policies before.meaning os) (sym (same_handles copies runs same)) filtered) answers);
  checked = λ groups os stored. h.checked groups os (same_stored before.meaning os runs copies groups (sym same) stored);
}

-- ---- what stands in a range

pub stands_part : (c : CoreModel) (range wide : BytesRange) (n : ℕ) (active : Rows) (frozen : List Rows) (runs : List SortedRun) → IsPart range wide → StandsIn c wide n active frozen runs → StandsIn c range n active frozen runs
stands_part c range wide n active frozen runs part st = record { unseen = st.unseen; whole = st.whole; tables = st.tables; frozen_are = st.frozen_are; active_has = has_part range wide n c.active active part st.active_has }

layers_there : (c : CoreModel) (range : BytesRange) (n : ℕ) (active : Rows) → HasUpto range n c.active active → (r : RowEntry) → Contains (flat_map (λ rows. rows) (active ∷ reverse c.frozen)) r → Contains (newest_first (memory c)) r
layers_there c range n active has r k =
    subst (λ (l : Rows). Contains l r) (sym (layers_turned c)) (by (Contains-append_cases active (flat_map (λ rows. rows) (reverse c.frozen)) r k))
  where
    by : Contains active r ⊎ Contains (flat_map (λ rows. rows) (reverse c.frozen)) r → Contains (flat_map (λ rows. rows) (c.active ∷ reverse c.frozen)) r
    by (inl k) = Contains-append_left c.active (flat_map (λ rows. rows) (reverse c.frozen)) r (has.among r k)
    by (inr k) = Contains-append_right c.active (flat_map (λ rows. rows) (reverse c.frozen)) r k

-- ---- an opening

-- asking filters was refused
pub asking_opens : (policies : List Policy) (query : Option FilterQuery) (before after : Reach) (c : CoreModel) (range : BytesRange) (n : ℕ) (active : Rows) (frozen : List Rows) (runs : List SortedRun) (id : List ℕ) (from : Reader) (order : IterationOrder) (e : SlateDBError)
    (result : Result DbIterator SlateDBError) → result ≡ Err e → FailsAsking policies query before after (handles_of runs) e → StandsIn c range n active frozen runs → unblamed e after.faults ≡ unblamed e before.faults → IsOpened policies query before after c n from.ops range order result
asking_opens policies query before after c range n active frozen runs id from order e result is fails st still = subst (IsOpened policies query before after c n from.ops range order) (sym is) (record {
  opened = λ above a. tt;
  checked = λ above os r. tt;
  later = tt;
  hands = tt;
  within = asking_within policies query before after c st.unseen (λ left. Unit {0}) st.whole refused.asks tt;
  undamaged = λ above a. refused.undamaged a.os (runs_there policies before.meaning a.os c st.unseen st.whole a.readable) (runs_filtered policies before.meaning a.os c st.unseen st.whole a.readable) a.answers;
  cause = asking_refused policies query before after c st.unseen st.whole e refused.cause;
  still = still;
})
  where
    refused : FailsAsking policies query before after (handles_of st.unseen.runs) e
    refused = subst (λ (hs : List SsTableHandle). FailsAsking policies query before after hs e) (same_handles runs st.unseen.runs st.tables) fails

-- filters were asked to the middle, and the sources that they left are opened from there on
module _ (policies : List Policy) (query : Option FilterQuery) (before middle after : Reach) (c : CoreModel) (range : BytesRange) (n : ℕ) (order : IterationOrder) (active : Rows) (frozen : List Rows) (runs : List SortedRun) (own : RowList) (sources : List ScanSource)
    (first : OnlyReads before middle) (last : OnlyReads middle after) (lefts : LeftSources policies query before middle range order n own active frozen runs sources) (id : List ℕ) (from : Reader)
    (st : StandsIn c range n active frozen runs) (mine : IsReaderOf c id from range order own) where
  here : AreScanSources range order n from.ops (active ∷ reverse c.frozen) (reverse lefts.left) sources
  here = subst (λ (ls : List Rows). AreScanSources range order n from.ops (active ∷ reverse ls) (reverse lefts.left) sources) st.frozen_are (lefts.are from.ops mine.own_are)

  asked_here : RunsAreLeft policies query before middle range st.unseen.runs lefts.left
  asked_here = left_of_runs policies query before middle range st.unseen.runs runs lefts.left st.tables lefts.asked

  abbrev asked : Made before middle (λ reads. AreLetIn before.meaning.decode policies query (handles_of lefts.left) reads)
  asked = (lefts.asked.let_in.0, lefts.asked.let_in.1, lefts.asked.let_in.2.1)

  -- by the reads of the whole opening
  let_in : (reads : List Act) → AreLetIn middle.meaning.decode policies query (handles_of lefts.left) (asked.0 ++ reads)
  let_in reads = let_in_before middle.meaning.decode policies query (handles_of lefts.left) asked.0 reads (subst (λ (k : Meaning). AreLetIn k.decode policies query (handles_of lefts.left) asked.0) (sym first.meaning) asked.2)

  abbrev some : List (List ℕ)
  some = map path_in (handles_of lefts.left)

  them : AreSourcesWithin some sources
  them = sources_within range order n from.ops (active ∷ reverse c.frozen) lefts.left sources here

  plain : (os : Objects) → IsReadable policies middle.meaning os c → middle.meaning.combine ≡ None → holds_merge from.ops ≡ false
  plain os r = plain_reader middle.meaning c id from mine.open_there r.kept.2

  pub sources_open : (rows : Merged) (it : DbIterator) → it.state ≡ Walking rows → it.range ≡ range → it.order ≡ order → IsGoing rows × FoldsAll rows × (rows.iterator.order ≡ order) →
      ((v : World) → AllByRecursion (CanOpen v order) sources → Sees v middle after → IsSound rows v) →
      ((v : World) → AllByRecursion (CanOpen v order) sources → Sees v middle after → rest_folding merge_rows rows v ≡ folded_rows v.meaning order v sources) →
      ((v : World) → AllByRecursion (CanOpen v order) sources → Sees v middle after → (v.meaning.combine ≡ None → AreBases (merged_rows order v sources)) → IsOperableIn (Walking rows) v) →
      ((v : World) → AllByRecursion (CanOpen v order) sources → Checks v middle after) →
      Made middle after (λ reads. (later : List Act) (at : Option (List ℕ)) (e : SlateDBError) → merge_refuses rows.iterator middle.meaning later at e → IsBlamedFor sources middle.meaning (reads ++ later) at e) →
      Made middle after (λ reads. (later : List Act) (at : Option (List ℕ)) (e : SlateDBError) → Folds rows middle.meaning later at e → FoldsRefuse sources middle.meaning (reads ++ later) at e) →
      Made middle after (λ reads. (later : List Act) (r : RowEntry) → merge_offers rows.ahead rows.iterator middle.meaning later (Comes r) → SourcesBring sources middle.meaning (reads ++ later) r) →
      ((paths : List (List ℕ)) → AreSourcesWithin paths sources → ReadsAt paths middle after × IsMergeWithin rows.iterator paths) →
      after.faults ≡ before.faults → IsOpened policies query before after c n from.ops range order (Ok it)
  sources_open rows it state_is range_is order_is going sound rest op checks blamed brought offered within still = record {
    opened = λ above a. (opens above).answered a;
    checked = λ above os r. (opens above).checked os r;
    later = (
      subst (λ (k : Meaning). IsFor k it) first.meaning
          (scan_is_for middle.meaning c st.unseen st.whole lefts.left asked_here.among range order n from.ops (active ∷ reverse c.frozen) sources here rows it blamed.0 state_is range_is going.0 blamed.2),
      (
        asked.0 ++ brought.0,
        call_both before middle after asked.0 brought.0 asked.1 brought.1,
        λ later at e h.
            subst (λ (reads : List Act). IsRefusedByScan policies query before.meaning c (asked.0 ++ brought.0) reads at e) (sym (append_assoc asked.0 brought.0 later))
            (refused_later policies query before.meaning c (asked.0 ++ brought.0) asked.0 (brought.0 ++ later) at e
            (subst (λ (k : Meaning). IsRefusedByScan policies query k c (asked.0 ++ brought.0) (brought.0 ++ later) at e) first.meaning (by later at e (subst (λ (k : Meaning). ScanRefuses it k later at e) (sym first.meaning) h)))),
      ),
    );
    hands = (
      asked.0 ++ offered.0,
      call_both before middle after asked.0 offered.0 asked.1 offered.1,
      λ later a h.
          subst (λ (reads : List Act). IsHandedByScan policies query before.meaning c (asked.0 ++ offered.0) reads a) (sym (append_assoc asked.0 offered.0 later))
          (handed_later policies query before.meaning c (asked.0 ++ offered.0) asked.0 (offered.0 ++ later) a
          (subst (λ (k : Meaning). IsHandedByScan policies query k c (asked.0 ++ offered.0) (offered.0 ++ later) a) first.meaning (handed later a (subst (λ (k : Meaning). ScanHands it k later a) (sym first.meaning) h)))),
    );
    within = (let read = within some them in left_within policies query before middle after c st.unseen range lefts.left (λ left. IsScanWithin it (map path_in left)) st.whole asked_here read.0 (subst (λ (s : ScanState). IsWithinIn s some) (sym state_is) read.1));
    undamaged = λ above a. tt;
    cause = tt;
    still = still;
  }
    where
      opens : c.floor ≤ n → OpensScan policies before after c n from.ops range order it
      opens above = scan_opened policies query before middle after c st.unseen st.whole lefts.left range asked_here first last order n from.ops mine.fine above active st.active_has sources here plain rows it state_is range_is order_is going sound rest op checks blamed.0 blamed.1 blamed.2

      by : (later : List Act) (at : Option (List ℕ)) (e : SlateDBError) → ScanRefuses it middle.meaning later at e → IsRefusedByScan policies query middle.meaning c (asked.0 ++ brought.0) (brought.0 ++ later) at e
      by later at e h =
          scan_refused middle.meaning c st.unseen st.whole lefts.left asked_here.among range order n from.ops (active ∷ reverse c.frozen) sources here policies query (asked.0 ++ brought.0) (let_in brought.0)
          (λ k. own_of_reader c id from k (own_rows from.ops k) mine.open_there refl) (layers_there c range n active st.active_has) rows it brought.0 state_is range_is going.0 brought.2 later at e h

      handed : (later : List Act) (a : KeyValue) → ScanHands it middle.meaning later a → IsHandedByScan policies query middle.meaning c (asked.0 ++ offered.0) (offered.0 ++ later) a
      handed later a h =
          scan_hands middle.meaning c st.unseen st.whole lefts.left asked_here.among range order n from.ops (active ∷ reverse c.frozen) sources here policies query (asked.0 ++ offered.0) (let_in offered.0)
          (λ k. own_of_reader c id from k (own_rows from.ops k) mine.open_there refl) (layers_there c range n active st.active_has) rows it offered.0 state_is going.1 offered.2 later a h

  pub rows_refused : (e : SlateDBError) (result : Result DbIterator SlateDBError) → result ≡ Err e → Made middle after (λ reads. IsFault middle after e ⊎ IsBlamedFor sources middle.meaning reads None e) →
      ((paths : List (List ℕ)) → AreSourcesWithin paths sources → ReadsAt paths middle after) → unblamed e after.faults ≡ unblamed e before.faults → IsOpened policies query before after c n from.ops range order result
  rows_refused e result is made within still = subst (IsOpened policies query before after c n from.ops range order) (sym is) (record {
    opened = λ above a. tt;
    checked = λ above os r. tt;
    later = tt;
    hands = tt;
    within = left_within policies query before middle after c st.unseen range lefts.left (λ left. Unit {0}) st.whole asked_here (within some them) tt;
    undamaged = λ above a. opening_whole policies query before middle after c st.unseen st.whole lefts.left range asked_here first last order n from.ops mine.fine above active st.active_has sources here plain e made a;
    cause = opening_refused middle.meaning c st.unseen st.whole lefts.left asked_here.among range order n from.ops (active ∷ reverse c.frozen) sources here policies query before middle after e refl first asked made;
    still = still;
  })
