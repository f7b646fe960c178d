-- Scans: what is left of one, what it may refuse for, and how a core opens it.
--     ScanSource      a source of a scan: rows of which those above the transaction's begin are passed over
--     source_rows, IsSoundSource, order_of, source_refuses, source_begins, source_takes, source_seeks      what it is as an iterator
--     merge_rows, IsSoundMerged, order_of_merge, merge_refuses, merge_begins, merge_takes, merge_seeks      of the sources merged
--     merge_brings rows m reads r      the rows that calls of the merge may hand out by the reads
--     IsMergeWithin rows paths      the merge reads objects at these paths alone
--     merge_offers ahead rows m reads o      these, and those that rise, behind the row that is held ahead
--     RefusesFold rows m reads at e      an operand without an operator, or a row that rises above one, of what comes next where they are folded
--     left_of it w      the rows that are left, tombstones among them
--     brought_in state w      the rows that the sources still bring, whose operands aren't folded yet
--     IsOperableIn state w      without an operator none of these is an operand; and none rises above the operand before it
--     Leaves it w rows      in the world exactly these rows are left to be handed out
--     ScanRefuses it m reads at e      what it may refuse for by the reads from now on, in a seek to a key, or in the other calls
--     ScanHands it m reads a      what it may hand out by the reads from now on where there is no operator: what is seen of a row that calls of the merge may hand out, folded onto none
--     IsReached range at      a seek is to no key before the range
--     AreForIn range m state      by this meaning the sources that are left refuse for damage alone
--     IsScanRefusal e      damage, want of an operator, or a row of a greater sequence than the operand before it
--     IsFor m it      it was opened for parts of this meaning: by these it refuses so alone
--     IsRefusedScan e it, IsUnrefused it, Keeps e it      it was refused so; not yet; it keeps this refusal, or want of memory in its place
--     AnswersAgain e result      so it answers from then on, or want of memory where no copy can be made
--     id_of it, number_of it, scan_of it      a transaction's scan: whose it is, which of its scans, and what it has left
--     IsScanOf id n order range it      it is that of the transaction with this id, the n-th that it opened
--     IsWorldOf os m w      the world has tables of these objects, for what the parts mean
--     LeavesIn os m it rows      in some world that the objects hold
--     IsOpenScan c it      its transaction is open, and opened it; or its snapshot is open
--     IsWithinIn state paths, IsScanWithin it paths      what is left of a scan is read from objects at these paths alone
--     HasLeft m c it rows      of the list that the scan's opening fixed these rows are left, by the transcript
--     ShowsAmong decode hs reads e      of some tables one shows the error, by reads among these
--     IsShownByFilters policies query m c reads e      the reads show it of the filters of a table that the journal names, which were asked this
--     IsReadAmong m hs reads r      of some tables one has the row, by reads among these
--     IsScanned m c hs reads r      so it is, or the row stands in memory, or is of an open transaction's own
--     AreScanTables policies query m c opening left      some of the tables that the journal names, which the opening's reads let in
--     IsShownByScan policies query m c reads e      the reads let in a table that the journal names, and show the error of it
--     IsRefusedByScan policies query m c opening reads at e      the reads show it of the tables that the opening let in; or, but for a seek,
--                                                                 such a row is an operand, and there is no operator; or there is one,
--                                                                 and a row of one of these tables, which was read, has a greater
--                                                                 sequence than an operand of its key: it names the two
--     IsHandedByScan policies query m c opening reads a      such a row of the core is no operand, and a is what is seen of it
--     IsOpeningRead handles left act      a read of the filters of one of these tables, or any read of one that was let in
--     OpensWithin policies query m c reads means      each read of an opening is one, and this holds of the tables that were let in
--     OpensAlone policies query before after c      a call made such reads alone
--     IsRefusedByTables m c reads at e      refused so by tables that the journal names, whatever their filters say
--     IsRefusedInScan policies m c reads e      so it is, or the reads of its opening show it of the filters that were asked
--     IsOpeningError policies query before after c e, IsScanError policies before after c e      a fault that came in the call, or want of memory, or such a refusal by its reads: an opening meets no operand
use Rattle.std.specs.Prelude.{◌≡◌, ◌≢◌, ◌⊎◌, ℕ, ◌<◌, true, List, [], filter, count_by, Contains, Option, Some, None, Result, Err, IsSome, slice_get, map}
use Rattle.std.specs.List.{AllByRecursion}
use Rattle.slate_types.specs.declared.bytes_range.BytesRange.{BytesRange}
use Rattle.slate_types.specs.declared.error.SlateDBError.{SlateDBError}
use Rattle.slate_types.specs.declared.error.SlateDBError.TheVariants.{MergeOperatorMissing, OutOfMemory}
use Rattle.slate_types.specs.declared.filter_policy.FilterQuery.{FilterQuery}
use Rattle.slate_types.specs.declared.iter.IterationOrder.{IterationOrder}
use Rattle.slate_types.specs.declared.types.KeyValue.{KeyValue}
use Rattle.slate_types.specs.declared.types.RowEntry.{RowEntry}
use Rattle.slate_types.specs.Keys.{in_range, is_past_start}
use Rattle.slate_types.specs.Outside.{Act, Objects, IsFault, Meaning, Reach}
use Rattle.slate_types.specs.Refusing.{IsDamage}
use Rattle.slate_types.specs.Rows.{is_base, key_value}
use Rattle.slate_types.specs.World.{Kept, World, Made, IsReadAt}
use Rattle.slate_filter.specs.Policy.{Policy}
use Rattle.slate_mem.specs.Lookup.{newest_first}
use Rattle.slate_merge.specs.declared.filter_iterator.FilterIterator.{FilterIterator}
use Rattle.slate_merge.specs.declared.filter_iterator.MaxSeq.{MaxSeq}
use Rattle.slate_merge.specs.declared.merge_iterator.MergeIterator.{MergeIterator}
use Rattle.slate_merge.specs.declared.operator_iterator.MergeOperatorIterator.{MergeOperatorIterator}
use Rattle.slate_merge.specs.Calls.{BringsByCalls}
use Rattle.slate_merge.specs.Filtering.{TakesKept, upto_seq}
use Rattle.slate_merge.specs.Folding.{NoneRises}
use Rattle.slate_merge.specs.Folds.{IsRise, RefusesBrought}
use Rattle.slate_merge.specs.MergeBringing.{MergeBegins, MergeSeeks, MergeTakes}
use Rattle.slate_merge.specs.MergeStates as merge
use Rattle.slate_merge.specs.MergeStates.{IsSoundMerge, refuses_in, rest_of_merge}
use Rattle.slate_merge.specs.Offers.{Comes, Offer, Rises, offers}
use Rattle.slate_merge.specs.OperatorIterators.{IsGoing, RefusesBy, rest_folding, sound_folding}
use Rattle.slate_merge.specs.Peeking.{with_ahead}
use Rattle.slate_read.specs.declared.read_source.ReadSource.{ReadSource}
use Rattle.slate_read.specs.Bringing.{BringsUnread}
use Rattle.slate_read.specs.ReadSources as read
use Rattle.slate_read.specs.SourceBringing as bringing
use Rattle.slate_read.specs.Showing.{ShowsByReads}
use Rattle.slate_read.specs.TableWalk.{path_in}
use Rattle.slate_table.specs.declared.info.SsTableHandle.{SsTableHandle}
use Rattle.slate_table.specs.Parts.{Encode, sum_fits}
use Rattle.slate_txn.specs.Alone.{scans_left}
use Rattle.slate_txn.specs.Named.{find_named}
use Rattle.slate_txn.specs.State.{Tx}
use Rattle.slate_txn.specs.Step.{is_scan, reader}
use Rattle.slate_db.specs.declared.scan.DbIterator.{DbIterator}
use Rattle.slate_db.specs.declared.scan.ScanState.{ScanState}
use Rattle.slate_db.specs.declared.scan.TxnIterator.{TxnIterator}
use Rattle.slate_db.specs.declared.scan.ScanState.TheVariants.{Walking, Done, Refused}
use Rattle.slate_db.specs.Checked.{StandsAt}
use Rattle.slate_db.specs.Installs.{AreHandles, tables_of}
use Rattle.slate_db.specs.Meaning.{rules_of}
use Rattle.slate_db.specs.Model.{CoreModel, memory}
use Rattle.slate_db.specs.Readable.{IsOwnRow}
use Rattle.slate_db.specs.ScanFilters.{AreLetIn, IsAskingRead, ShowsFilters}
use Rattle.slate_db.specs.Values.{IsUnfolded}
pub use Rattle.slate_db.specs.Values.{has_value}

pub record IsWorldOf (os : Objects) (m : Meaning) (w : World) : Type 0 where
  pub meaning : w.meaning ≡ m
  pub fits : w.fits ≡ sum_fits
  pub tables : (path : List ℕ) (kept : Kept) → w.holds path ≡ Some kept → StandsAt m.encode os path kept

abbrev pub IsReached : BytesRange → Option (List ℕ) → Type 0
IsReached range None = Unit {0}
IsReached range (Some key) = is_past_start range.start key ≡ true

-- an operand is refused where there is no operator, and a row that rises above one
abbrev pub IsScanRefusal : SlateDBError → Type 0
IsScanRefusal e = (e ≡ MergeOperatorMissing) ⊎ IsRise e ⊎ IsDamage e

abbrev pub ScanSource : Type 0
ScanSource = FilterIterator ReadSource MaxSeq

-- ---- the sources

abbrev pub source_rows : ScanSource → World → List RowEntry
source_rows s w = filter (upto_seq s.predicate.max_seq) (read.rest_of s.iterator w)

abbrev pub IsSoundSource : ScanSource → World → Type 0
IsSoundSource s w = read.IsSoundSource s.iterator w

abbrev pub order_of : ScanSource → IterationOrder
order_of s = read.order_of s.iterator

abbrev pub source_refuses : ScanSource → Meaning → List Act → Option (List ℕ) → SlateDBError → Type 0
source_refuses s m reads at e = read.source_refuses s.iterator m reads at e

-- what its calls may read and answer, and what becomes of it then
abbrev pub source_begins : ScanSource → Meaning → List Act → ScanSource → Type 0
source_begins before m reads after = bringing.source_begins before.iterator m reads after.iterator × (after.predicate ≡ before.predicate)

abbrev pub source_takes : ScanSource → Meaning → List Act → Option RowEntry → ScanSource → Type 0
source_takes before m reads answer after = TakesKept (λ x rs a y. bringing.source_takes x m rs a y) (upto_seq before.predicate.max_seq) before.iterator reads answer after.iterator × (after.predicate ≡ before.predicate)

abbrev pub source_seeks : ScanSource → Meaning → List Act → List ℕ → ScanSource → Type 0
source_seeks before m reads key after = bringing.source_seeks before.iterator m reads key after.iterator × (after.predicate ≡ before.predicate)

-- ---- their rows merged

abbrev pub MergedSources : Type 0
MergedSources = MergeIterator ScanSource

abbrev pub merge_rows : MergedSources → World → List RowEntry
merge_rows rows w = rest_of_merge source_rows rows w

abbrev pub IsSoundMerged : MergedSources → World → Type 0
IsSoundMerged rows w = IsSoundMerge source_rows IsSoundSource order_of rows w

abbrev pub order_of_merge : MergedSources → IterationOrder
order_of_merge rows = rows.order

abbrev pub merge_refuses : MergedSources → Meaning → List Act → Option (List ℕ) → SlateDBError → Type 0
merge_refuses rows m reads at e = refuses_in source_refuses rows.state m reads at e

abbrev pub merge_begins : MergedSources → Meaning → List Act → MergedSources → Type 0
merge_begins before m reads after = MergeBegins source_begins source_takes source_seeks before m reads after

abbrev pub merge_takes : MergedSources → Meaning → List Act → Option RowEntry → MergedSources → Type 0
merge_takes before m reads answer after = MergeTakes source_begins source_takes source_seeks before m reads answer after

abbrev pub merge_seeks : MergedSources → Meaning → List Act → List ℕ → MergedSources → Type 0
merge_seeks before m reads key after = MergeSeeks source_begins source_takes source_seeks before m reads key after

-- the rows that calls of the merge may hand out
abbrev pub merge_brings : MergedSources → Meaning → List Act → RowEntry → Type 0
merge_brings rows m reads r = BringsByCalls merge_begins merge_takes merge_seeks rows m reads r

abbrev pub IsMergeWithin : MergedSources → List (List ℕ) → Type 0
IsMergeWithin rows paths = merge.IsWithinIn (λ (s : ScanSource) ps. read.IsSourceWithin s.iterator ps) rows.state paths

-- ---- and folded

-- expiries may differ, and there is no barrier
abbrev pub FoldsAll : MergeOperatorIterator MergedSources → Type 0
FoldsAll it = (it.folding.merge_different_expire_ts ≡ true) × (it.folding.snapshot_barrier_seq ≡ None)

abbrev pub left_in : ScanState → World → List RowEntry
left_in (Walking rows) w = rest_folding merge_rows rows w
left_in Done w = []
left_in (Refused e) w = []

abbrev pub brought_in : ScanState → World → List RowEntry
brought_in (Walking rows) w = with_ahead rows.ahead (merge_rows rows.iterator w)
brought_in Done w = []
brought_in (Refused e) w = []

abbrev pub IsOperableIn : ScanState → World → Type 0
IsOperableIn state w =
    (w.meaning.combine ≡ None → AllByRecursion (λ r. is_base r ≡ true) (brought_in state w))
    × NoneRises true None (brought_in state w)

-- order: that of the scan
abbrev pub IsSoundIn : IterationOrder → ScanState → World → Type 0
IsSoundIn order (Walking rows) w = IsGoing rows × FoldsAll rows × sound_folding merge_rows IsSoundMerged order_of_merge rows w × (rows.iterator.order ≡ order)
IsSoundIn order Done w = Unit {0}
IsSoundIn order (Refused e) w = ⊥

abbrev pub IsWithinIn : ScanState → List (List ℕ) → Type 0
IsWithinIn (Walking rows) paths = IsMergeWithin rows.iterator paths
IsWithinIn Done paths = Unit {0}
IsWithinIn (Refused e) paths = Unit {0}

abbrev pub IsScanWithin : DbIterator → List (List ℕ) → Type 0
IsScanWithin it paths = IsWithinIn it.state paths

abbrev pub left_of : DbIterator → World → List RowEntry
left_of it w = left_in it.state w

-- what the sources that are left refuse for
abbrev pub SourcesRefuse : BytesRange → ScanState → Meaning → List Act → Option (List ℕ) → SlateDBError → Type 0
SourcesRefuse range (Walking rows) m reads at e = IsReached range at × merge_refuses rows.iterator m reads at e
SourcesRefuse range _ m reads at e = ⊥

abbrev pub merge_offers : Option RowEntry → MergedSources → Meaning → List Act → Offer → Type 0
merge_offers ahead rows m reads o = offers merge_begins merge_takes merge_seeks ahead rows m reads o

-- of the row that was read ahead, and of those that calls of the merge may hand out
abbrev pub RefusesFold : MergeOperatorIterator MergedSources → Meaning → List Act → Option (List ℕ) → SlateDBError → Type 0
RefusesFold rows m reads at e = RefusesBrought (λ r. merge_offers rows.ahead rows.iterator m reads (Comes r)) (λ r. merge_offers rows.ahead rows.iterator m reads (Rises r)) m at e

-- an operand without an operator, and a row that rises above one: no seek meets them
abbrev pub RefusesIn : BytesRange → ScanState → Meaning → List Act → Option (List ℕ) → SlateDBError → Type 0
RefusesIn range (Walking rows) m reads at e = RefusesBy rows.refusal rows.begun (λ d. RefusesFold rows m reads at d ⊎ (IsReached range at × merge_refuses rows.iterator m reads at d)) e
RefusesIn range Done m reads at e = ⊥
RefusesIn range (Refused kept) m reads at e = (kept ≢ OutOfMemory) × (e ≡ kept)

abbrev pub ScanRefuses : DbIterator → Meaning → List Act → Option (List ℕ) → SlateDBError → Type 0
ScanRefuses it m reads at e = RefusesIn it.range it.state m reads at e

abbrev pub HandsIn : ScanState → Meaning → List Act → KeyValue → Type 0
HandsIn (Walking rows) m reads a = IsUnfolded rows.folding.snapshot_barrier_seq (λ r. merge_offers rows.ahead rows.iterator m reads (Comes r)) a
HandsIn Done m reads a = ⊥
HandsIn (Refused e) m reads a = ⊥

abbrev pub ScanHands : DbIterator → Meaning → List Act → KeyValue → Type 0
ScanHands it m reads a = HandsIn it.state m reads a

abbrev pub IsFor : Meaning → DbIterator → Type 0
IsFor m it = (reads : List Act) (at : Option (List ℕ)) (e : SlateDBError) → ScanRefuses it m reads at e → IsScanRefusal e

-- the sources that are left refuse for damage alone
abbrev pub AreForIn : BytesRange → Meaning → ScanState → Type 0
AreForIn range m state = (reads : List Act) (at : Option (List ℕ)) (e : SlateDBError) → SourcesRefuse range state m reads at e → IsDamage e

pub record Leaves (it : DbIterator) (w : World) (rows : List RowEntry) : Type 0 where
  pub sound : IsSoundIn it.order it.state w
  pub operable : IsOperableIn it.state w
  pub within : AllByRecursion (λ r. in_range it.range r.key ≡ true) (left_of it w)
  pub left : filter has_value (left_of it w) ≡ rows
  pub meant : AreForIn it.range w.meaning it.state

abbrev pub IsRefusedScan : SlateDBError → DbIterator → Type 0
IsRefusedScan e it = it.state ≡ Refused e

abbrev pub IsUnrefused : DbIterator → Type 0
IsUnrefused it = (e : SlateDBError) → it.state ≢ Refused e

abbrev pub Keeps : SlateDBError → DbIterator → Type 0
Keeps e it = IsRefusedScan e it ⊎ IsRefusedScan OutOfMemory it

-- a refusal that is kept, or want of memory for a copy of it
abbrev pub AnswersAgain : {A : Type 0} → SlateDBError → Result A SlateDBError → Type 0
AnswersAgain e result = (result ≡ Err e) ⊎ (result ≡ Err OutOfMemory)

-- ---- a transaction's scan

abbrev pub id_of : TxnIterator → List ℕ
id_of it = it.id

-- its place among the scans of its transaction
abbrev pub number_of : TxnIterator → ℕ
number_of it = it.scan

abbrev pub scan_of : TxnIterator → DbIterator
scan_of it = it.rows

pub record IsScanOf (id : List ℕ) (n : ℕ) (order : IterationOrder) (range : BytesRange) (it : TxnIterator) : Type 0 where
  pub named : id_of it ≡ id
  pub number : number_of it ≡ n
  pub ordered : (scan_of it).order ≡ order
  pub ranged : (scan_of it).range ≡ range

abbrev pub LeavesIn : Objects → Meaning → TxnIterator → List RowEntry → Type 0
LeavesIn os m it rows = (w : World) × IsWorldOf os m w × Leaves (scan_of it) w rows

abbrev pub IsOpenScan : CoreModel → TxnIterator → Type 0
IsOpenScan c it = IsSome (reader c.state (id_of it)) × ((t : Tx) → find_named (id_of it) c.state.txns ≡ Some t → number_of it < count_by is_scan t.transcript)

abbrev pub HasLeft : Meaning → CoreModel → TxnIterator → List RowEntry → Type 0
HasLeft m c it rows = (t : Tx) → find_named (id_of it) c.state.txns ≡ Some t →
    slice_get (scans_left (rules_of c.settings m) c.state.commits t.begin t.transcript) (number_of it) ≡ Some ((scan_of it).order, rows)

-- ---- what is refused

abbrev pub ShowsAmong : Encode → List SsTableHandle → List Act → SlateDBError → Type 0
ShowsAmong decode hs reads e = (table : SsTableHandle) × Contains hs table × ShowsByReads decode table reads e

-- policies, query: what filters were asked; opening: the reads of the call that asked; handles: what is kept of the tables that the journal names
pub record AreScanTables (policies : List Policy) (query : Option FilterQuery) (m : Meaning) (c : CoreModel) (opening : List Act) (left : List SsTableHandle) : Type 0 where
  pub handles : List SsTableHandle
  pub are : AreHandles (tables_of c.events) handles
  pub among : (h : SsTableHandle) → Contains left h → Contains handles h
  pub asked : AreLetIn m.decode policies query left opening

-- a read of the filters of one of the tables that may be asked, or any read of one that was let in
abbrev pub IsOpeningRead : List SsTableHandle → List SsTableHandle → Act → Type 0
IsOpeningRead handles left act = IsAskingRead handles act ⊎ IsReadAt (map path_in left) act

-- reads: all of the opening's; means: what holds of the tables that were let in
pub record OpensWithin (policies : List Policy) (query : Option FilterQuery) (m : Meaning) (c : CoreModel) (reads : List Act) (means : List SsTableHandle → Type 0) : Type 0 where
  pub left : List SsTableHandle
  pub tables : AreScanTables policies query m c reads left
  pub each : AllByRecursion (IsOpeningRead tables.handles left) reads
  pub meant : means left

abbrev pub OpensAlone : List Policy → Option FilterQuery → Reach → Reach → CoreModel → Type 0
OpensAlone policies query before after c = Made before after (λ reads. OpensWithin policies query before.meaning c reads (λ left. Unit {0}))

-- of a call that asked itself
pub record IsShownByScan (policies : List Policy) (query : Option FilterQuery) (m : Meaning) (c : CoreModel) (reads : List Act) (e : SlateDBError) : Type 0 where
  pub left : List SsTableHandle
  pub tables : AreScanTables policies query m c reads left
  pub shown : ShowsAmong m.decode left reads e

-- of some tables one has the row: its index was read, and a read of neighbouring blocks shows one that has it
abbrev pub IsReadAmong : Meaning → List SsTableHandle → List Act → RowEntry → Type 0
IsReadAmong m hs reads r = (table : SsTableHandle) × Contains hs table × ((order : IterationOrder) × BringsUnread m table order reads r)

abbrev pub IsScanned : Meaning → CoreModel → List SsTableHandle → List Act → RowEntry → Type 0
IsScanned m c hs reads r = IsOwnRow c r ⊎ Contains (newest_first (memory c)) r ⊎ IsReadAmong m hs reads r

-- at: the key of a seek, none in the other calls
pub record IsRefusedByScan (policies : List Policy) (query : Option FilterQuery) (m : Meaning) (c : CoreModel) (opening reads : List Act) (at : Option (List ℕ)) (e : SlateDBError) : Type 0 where
  pub left : List SsTableHandle
  pub tables : AreScanTables policies query m c opening left
  pub refused : RefusesBrought (IsScanned m c left reads) (IsReadAmong m left reads) m at e ⊎ ShowsAmong m.decode left reads e

pub record IsHandedByScan (policies : List Policy) (query : Option FilterQuery) (m : Meaning) (c : CoreModel) (opening reads : List Act) (a : KeyValue) : Type 0 where
  pub left : List SsTableHandle
  pub tables : AreScanTables policies query m c opening left
  pub row : RowEntry
  pub base : is_base row ≡ true
  pub value : a ≡ key_value row
  pub scanned : IsScanned m c left reads row

-- nothing was asked
abbrev pub IsRefusedByTables : Meaning → CoreModel → List Act → Option (List ℕ) → SlateDBError → Type 0
IsRefusedByTables m c reads at e = IsRefusedByScan [] None m c [] reads at e

pub record IsShownByFilters (policies : List Policy) (query : Option FilterQuery) (m : Meaning) (c : CoreModel) (reads : List Act) (e : SlateDBError) : Type 0 where
  pub handles : List SsTableHandle
  pub are : AreHandles (tables_of c.events) handles
  pub shown : ShowsFilters m.decode policies query handles reads e

-- policies, query: what filters are asked
abbrev pub IsOpeningError : List Policy → Option FilterQuery → Reach → Reach → CoreModel → SlateDBError → Type 0
IsOpeningError policies query before after c e = IsFault before after e ⊎ Made before after (λ reads. IsShownByScan policies query before.meaning c reads e ⊎ IsShownByFilters policies query before.meaning c reads e)

-- policies: those that the opening asked
abbrev pub IsRefusedInScan : List Policy → Meaning → CoreModel → List Act → SlateDBError → Type 0
IsRefusedInScan policies m c reads e = ((at : Option (List ℕ)) × IsRefusedByTables m c reads at e) ⊎ ((query : Option FilterQuery) × IsShownByFilters policies query m c reads e)

abbrev pub IsScanError : List Policy → Reach → Reach → CoreModel → SlateDBError → Type 0
IsScanError policies before after c e = IsFault before after e ⊎ Made before after (λ reads. IsRefusedInScan policies before.meaning c reads e)
