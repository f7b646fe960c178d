-- A walk over the blocks of a stored table.
--     root, path_in h      the folder of the store's objects, and where a table stands
--     start_of, size_of      where the section of a block lies
--     size_between h entries first stop      the bytes of neighbouring blocks
--     read_of h entries first stop given, answer_at h entries first stop given block      a read of neighbouring blocks, and what it says of the
--                              section of one
--     Walks version order block it      what a block's walk has at its start
--     RefusesRows version order block e      a walk over the block is refused, or a row of it
--     RefusesWalk decode version order section e      the section is refused, or its block, or a row of that
--     RefusesSome m h entries order reads e      a read of neighbouring blocks shows one that is refused, or has a row that is
--     RefusesLeft open e, RefusesReady version order ready e      a row is refused that is left of the block that is open, or of a block that was
--                                                                 read ahead
--     RefusesUnread m h order reads e      of a table that wasn't opened, the index is refused, or a block of it
--     refuses_blocks h order cursor      what blocks of a cursor's table are refused for, by the reads
--     IsIndexed m h reads entries, RefusesIndexed m h reads e, refuses_index h      the index was read by one read of its section, or is refused
--     max_blocks, max_reads      a table has fewer blocks, and a walk over a block not more rows
--     rows_between kept first stop      the rows of neighbouring blocks
--     left_in open, reads_in open      the rows that the block that is open has left, and how many reads of rows these are
--     rest_behind cursor order kept, rest_covered range order kept      the rows behind a cursor, and those of all blocks that can hold keys of a
--                                                                       range
--     rest_in, rest_at, bound_in, refuses_in      the rows of a walk that is new, walks or was refused, how many reads of rows are left, and what it
--                                                 refuses
--     rest_after h order cursor w, bound_behind cursor, refuses_behind h order cursor      the same of a cursor
--     IsWalkWithin it paths      the walk reads an object at one of these paths alone
--     rest_of it w      the rows of a walk over a table
--     nth_block order first stop n      the number of a block of a row of neighbours, by how many come before it in the order
--     IsFetched p h entries first stop reads blocks      neighbouring blocks were read by one read
--     size_upto size n, IsEnough size bytes left count      the sum of the first sizes; and so many blocks are taken: one, and more until they have
--                                                           so many bytes or none is left
--     unread_first order cursor, unread_stop order cursor, unread_size h entries order first stop n      the blocks that weren't read, and the bytes
--                              of one of these
--     StandsNext order first stop from upto      blocks that stand first of neighbouring ones, in the order
--     IsNextFetch h order limit cursor first stop      the blocks that the next read takes
--     Fetches m h order bytes reads before after      these were read by one read, and stand ready
--     index_lies, block_lies      where they lie in an object, and what their checksums cover
--     index_part h kept, block_part h kept entries block      what the bytes of an object say of these sections
--     IsReadable p h kept      an object is a table of this handle, whose blocks have these rows
--     IsWhole order open, AreReadAhead h order kept cursor      no row that the block that is open has left is refused; and the blocks that were read
--                                                               ahead are the next ones
--     IsSoundWalk it w      what the rest of a walk rests on
--     IsSoundCursor h order cursor w, IsSoundState, IsSoundAt      the same of a cursor, of where a walk stands, and of that in a range
--     IsSoundRising h order cursor w      a cursor is sound, and what is behind it comes in the order
--     next_first order cursor, next_stop order cursor      the blocks that are left behind the next one
--     AreOpened version order block open, Opens h order before after      the rows of the block are open; the next block, which was read ahead, is
--                                                                         opened
--     TakesOpen before answer after      a row of the block that is open is taken, or that is spent
--     SkipsOpen key before some after      its rows are taken off before a key; some: whether one is left
--     StepsBehind h order before after x answer y      the next row behind a cursor was taken
--     Sought rest sound refuses order key before after x y, SoughtBehind h order key before after x y      a seek is done, and one of a cursor
--     StaysAtEnd order before after, passed_over order before after      the end that the order comes to stays; how many blocks were passed over
--     Jumps order key before after      the blocks were passed over that the order puts before a key as a whole
--     is_in range r, rows_in range order kept      the row is in the range; the rows of a table that are, in the order
--     BeginsAt range entries cursor, Begins range entries s, BeginsIn range before after      a walk begins at the blocks that can hold keys of the
--                              range, and one that has begun stays
--     IsUnopened s, IsWalking s      it wasn't begun; it walks
--     IsSameWalk before after      it is over the same table, with the same range and order
--     Keeps e s      a refusal is kept, or want of memory in its place
--     Stays before at e after      it refuses, and stands as it stood, or keeps the refusal
--     StaysIn before at e after      the same of where it stands
use Rattle.std.specs.Prelude.{◌≡◌, ◌≢◌, ◌⊎◌, ℕ, zero, suc, ◌+◌, ◌-◌, ◌*◌, ◌^◌, ◌<◌, ◌≤◌, true, List, [], ◌∷◌, ◌++◌, drop, length, flat_map, slice_get, slice_range, Contains, IsSorted, Bool, false, filter, codes, Option, Some, None, Ok, Err, IsOk}
use Rattle.std.specs.List.{AllByRecursion}
use Rattle.slate_types.specs.declared.bytes_range.BytesRange.{BytesRange}
use Rattle.slate_types.specs.declared.error.SlateDBError.{SlateDBError}
use Rattle.slate_types.specs.declared.error.SlateDBError.TheVariants.{InvalidVersion, IteratorNotInitialized, OutOfMemory}
use Rattle.slate_types.specs.declared.types.RowEntry.{RowEntry}
use Rattle.slate_types.specs.declared.iter.IterationOrder.{IterationOrder}
use Rattle.slate_types.specs.declared.iter.IterationOrder.TheVariants.{Ascending, Descending}
use Rattle.slate_types.specs.Iteration.{IsInOrder, comes_before, drop_before, in_order}
use Rattle.slate_types.specs.Keys.{in_range, key_cmp}
use Rattle.slate_types.specs.RowTurns.{AreInTurn, row_before}
use Rattle.slate_types.specs.Partitions.{covering_start, covering_end, CanHold}
use Rattle.slate_store.specs.Store.{Act, part_of}
use Rattle.slate_block.specs.declared.block.Block.{Block}
use Rattle.slate_block.specs.declared.data_block_iterator.DataBlockIterator.{DataBlockIterator}
use Rattle.slate_block.specs.BlockSpelling.{IsKnown, IsSecond}
use Rattle.slate_block.specs.BlockWalks.{IsRising, ReadsLeft, left, rows_of, Refuses, TakesRead}
use Rattle.slate_block.specs.EitherVersion.{left_of}
use Rattle.slate_block.specs.GroupWalks.{walk_in}
use Rattle.slate_block.specs.ReadingLaws.{EachIsAByte}
use Rattle.slate_block.specs.Walks.{RowRead, block_reads, block_rows}
use Rattle.slate_table.specs.declared.info.SsTableHandle.{SsTableHandle}
use Rattle.slate_table.specs.Finding.{encloses}
use Rattle.slate_table.specs.InfoReading.{seen_info}
use Rattle.slate_table.specs.IndexReading.{index_keys}
use Rattle.slate_table.specs.IndexValue.{entries_of}
use Rattle.slate_table.specs.Parts.{Encode, block_kind, cover_of, index_kind, summed}
use Rattle.slate_table.specs.Paths.{path_of}
use Rattle.slate_table.specs.Reading.{SectionRead, of_block, of_blocks, of_index, whole_answer, IsIndexRead, RefusesIndex, AreBlocksRead, IsBlockRead, RefusesBlock, block_start, blocks_size}
use Rattle.slate_merge.specs.Answering.{no_words}
use Rattle.slate_merge.specs.Kept.{Copies}
use Rattle.slate_read.specs.declared.table_state.TableWalk.{TableWalk}
use Rattle.slate_read.specs.declared.table_state.TableState.{TableState}
use Rattle.slate_read.specs.declared.table_state.TableState.TheVariants.{New, Walking, Refused}
use Rattle.slate_read.specs.declared.table_state.Cursor.{Cursor}
use Rattle.slate_types.specs.World.{Checks, Kept, Made, Section, Sees, World}
use Rattle.slate_types.specs.Outside.{Meaning, Reach}
use Rattle.slate_types.specs.Refusing.{IsDamage, NoMore}
use Rattle.slate_types.specs.Steps.{Step}

abbrev pub root : List ℕ
root = codes "db"

unfoldable pub path_in : SsTableHandle → List ℕ
path_in h = path_of root h.id.0

-- ---- one block

abbrev pub start_of : SsTableHandle → List (ℕ × List ℕ) → ℕ → ℕ
start_of h entries block = block_start h.info.filter_offset entries block

abbrev pub size_of : SsTableHandle → List (ℕ × List ℕ) → ℕ → ℕ
size_of h entries block = blocks_size h.info.filter_offset entries block (block + 1)

-- of neighbouring blocks, their read, and what it says of the section of one of them
abbrev pub size_between : SsTableHandle → List (ℕ × List ℕ) → ℕ → ℕ → ℕ
size_between h entries first stop = blocks_size h.info.filter_offset entries first stop

abbrev pub read_of : SsTableHandle → List (ℕ × List ℕ) → ℕ → ℕ → Option (List ℕ) → Act
read_of h entries first stop given = Act.read (path_in h) (start_of h entries first) (size_between h entries first stop) given

abbrev pub answer_at : SsTableHandle → List (ℕ × List ℕ) → ℕ → ℕ → Option (List ℕ) → ℕ → SectionRead
answer_at h entries first stop given block = of_blocks h entries first (whole_answer (size_between h entries first stop) given) block

pub record Walks (version : ℕ) (order : IterationOrder) (block : Block) (it : ReadsLeft) : Type 0 where
  pub same_order : it.order ≡ order
  pub reads : ((version ≡ 1) × (block_reads 1 block.body block.offsets.items ≡ Ok (in_order order it.reads))) ⊎ (IsSecond version × (it.reads ≡ walk_in order block.body block.offsets.items))
  pub rows : (rows : List RowEntry) → block_rows version block.body block.offsets.items ≡ Ok rows → left it ≡ Ok (in_order order rows)

-- the block begins no walk, or one of its rows is refused
abbrev pub RefusesRows : ℕ → IterationOrder → Block → SlateDBError → Type 0
RefusesRows version order block e =
    (IsKnown version × (block_reads version block.body block.offsets.items ≡ Err e))
    ⊎ ((IsKnown version → ⊥) × (e ≡ InvalidVersion version))
    ⊎ ((it : ReadsLeft) × Walks version order block it × Refuses it.reads e)

unfoldable pub RefusesWalk : Encode → ℕ → IterationOrder → SectionRead → SlateDBError → Type 0
RefusesWalk decode version order s e = RefusesBlock decode s e ⊎ ((block : Block) × EachIsAByte block.body × IsBlockRead decode s block × RefusesRows version order block e)

-- ---- a table

abbrev pub max_blocks : ℕ
max_blocks = 2 ^ 32

abbrev pub max_reads : ℕ
max_reads = 2 ^ 21

abbrev pub rows_between : Kept → ℕ → ℕ → List RowEntry
rows_between kept first stop = flat_map (λ b. b) (slice_range kept.blocks first stop)

abbrev pub left_in : Option (DataBlockIterator Block) → List RowEntry
left_in None = []
left_in (Some it) = rows_of (left (left_of it))

abbrev pub reads_in : Option (DataBlockIterator Block) → ℕ
reads_in None = 0
reads_in (Some it) = length (left_of it).reads

-- behind a cursor
abbrev pub rest_behind : Cursor → IterationOrder → Option Kept → List RowEntry
rest_behind cursor order None = []
rest_behind cursor order (Some kept) = left_in cursor.rows ++ in_order order (rows_between kept cursor.first cursor.stop)

-- of all blocks that can hold keys of a range
abbrev pub rest_covered : BytesRange → IterationOrder → Option Kept → List RowEntry
rest_covered range order None = []
rest_covered range order (Some kept) = let first = covering_start kept.keys range.start in in_order order (rows_between kept first (covering_end kept.keys first range.end))

abbrev pub rest_in : TableState → BytesRange → IterationOrder → Option Kept → List RowEntry
rest_in New range order kept = rest_covered range order kept
rest_in (Walking cursor) range order kept = rest_behind cursor order kept
rest_in (Refused e) range order kept = []

abbrev pub rest_at : BytesRange → SsTableHandle → IterationOrder → TableState → World → List RowEntry
rest_at range h order s w = rest_in s range order (w.holds (path_in h))

abbrev pub rest_of : TableWalk → World → List RowEntry
rest_of it w = rest_at it.range it.table it.order it.state w

-- it reads objects at these paths alone
abbrev pub IsWalkWithin : TableWalk → List (List ℕ) → Type 0
IsWalkWithin it paths = Contains paths (path_in it.table)

abbrev pub bound_in : TableState → ℕ
bound_in New = max_blocks * max_reads
bound_in (Walking cursor) = reads_in cursor.rows + (cursor.stop - cursor.first) * max_reads
bound_in (Refused e) = 0

-- ---- refusals, by the reads from now on

-- a read of neighbouring blocks refuses one of them
pub record RefusesSome (p : Meaning) (h : SsTableHandle) (entries : List (ℕ × List ℕ)) (order : IterationOrder) (reads : List Act) (e : SlateDBError) : Type 0 where
  pub first : ℕ
  pub stop : ℕ
  pub at : ℕ
  pub given : Option (List ℕ)
  pub from : first ≤ at
  pub below : at < stop
  pub within : stop ≤ length entries
  pub among : Contains reads (read_of h entries first stop given)
  pub why : RefusesWalk p.decode h.format_version order (answer_at h entries first stop given at) e

abbrev pub RefusesLeft : Option (DataBlockIterator Block) → SlateDBError → Type 0
RefusesLeft None e = ⊥
RefusesLeft (Some it) e = Refuses (left_of it).reads e

-- a block that was read ahead begins no walk, or one of its rows is refused
abbrev pub RefusesReady : ℕ → IterationOrder → List Block → SlateDBError → Type 0
RefusesReady version order ready e = (n : ℕ) × (block : Block) × (slice_get ready n ≡ Some block) × EachIsAByte block.body × RefusesRows version order block e

abbrev pub RefusesUnread : Meaning → SsTableHandle → IterationOrder → List Act → SlateDBError → Type 0
RefusesUnread p h order reads e =
    (given : Option (List ℕ)) × Contains reads (Act.read (path_in h) h.info.index_offset h.info.index_len given)
    × (RefusesIndex p.decode h.info.filter_offset (of_index h (whole_answer h.info.index_len given)) e
    ⊎ ((entries : List (ℕ × List ℕ)) × IsIndexRead p.decode h.info.filter_offset (of_index h (whole_answer h.info.index_len given)) entries × RefusesSome p h entries order reads e))

-- of the blocks of a cursor's table, by the reads
abbrev pub refuses_blocks : SsTableHandle → IterationOrder → Cursor → Meaning → List Act → Option (List ℕ) → SlateDBError → Type 0
refuses_blocks h order cursor p reads at e = IsDamage e × RefusesSome p h (entries_of cursor.index) order reads e

abbrev pub refuses_behind : SsTableHandle → IterationOrder → Cursor → Meaning → List Act → Option (List ℕ) → SlateDBError → Type 0
refuses_behind h order cursor p reads at e = IsDamage e × (RefusesLeft cursor.rows e ⊎ RefusesReady h.format_version order cursor.ready.items e ⊎ RefusesSome p h (entries_of cursor.index) order reads e)

-- a table that wasn't opened; one that is walked; and one that was refused
abbrev pub refuses_in : TableState → SsTableHandle → IterationOrder → Meaning → List Act → Option (List ℕ) → SlateDBError → Type 0
refuses_in New h order p reads at e = (e ≡ IteratorNotInitialized) ⊎ (IsDamage e × RefusesUnread p h order reads e)
refuses_in (Walking cursor) h order p reads at e = refuses_behind h order cursor p reads at e
refuses_in (Refused kept) h order p reads at e = (kept ≢ OutOfMemory) × (e ≡ kept)

-- ---- what a walk rests on

abbrev pub index_part : SsTableHandle → Kept → SectionRead
index_part h kept = of_index h (part_of (Some kept.bytes) h.info.index_offset h.info.index_len)

abbrev pub block_part : SsTableHandle → Kept → List (ℕ × List ℕ) → ℕ → SectionRead
block_part h kept entries block = of_block h entries block (part_of (Some kept.bytes) (start_of h entries block) (size_of h entries block))

-- where the sections of the index and of a block lie, and what their checksums cover
abbrev pub index_lies : SsTableHandle → Section
index_lies h = record { at = h.info.index_offset; len = h.info.index_len; cover = cover_of h.format_version h.id.0 index_kind h.info.index_offset }

abbrev pub block_lies : SsTableHandle → List (ℕ × List ℕ) → ℕ → Section
block_lies h entries i = record { at = start_of h entries i; len = size_of h entries i; cover = cover_of h.format_version h.id.0 block_kind (start_of h entries i) }

pub record IsReadable (w : World) (h : SsTableHandle) (kept : Kept) : Type 0 where
  pub held : w.holds (path_in h) ≡ Some kept
  pub entries : List (ℕ × List ℕ)
  pub keys : index_keys entries ≡ kept.keys
  pub count : length kept.blocks ≡ length entries
  pub index : (es : List (ℕ × List ℕ)) → IsIndexRead w.meaning.decode h.info.filter_offset (index_part h kept) es → es ≡ entries
  pub index_fine : (e : SlateDBError) → RefusesIndex w.meaning.decode h.info.filter_offset (index_part h kept) e → ⊥
  pub known : IsKnown h.format_version
  pub block : (i : ℕ) (rows : List RowEntry) (block : Block) → slice_get kept.blocks i ≡ Some rows → EachIsAByte block.body → IsBlockRead w.meaning.decode (block_part h kept entries i) block → block_rows h.format_version block.body block.offsets.items ≡ Ok rows
  pub block_fine : (i : ℕ) (e : SlateDBError) → i < length entries → RefusesBlock w.meaning.decode (block_part h kept entries i) e → ⊥
  pub index_place : Contains kept.sections (index_lies h)
  pub block_place : (i : ℕ) → i < length entries → Contains kept.sections (block_lies h entries i)
  pub inside : (place : Section) → Contains kept.sections place → place.at + place.len ≤ length kept.bytes
  pub sums : (cover stored : List ℕ) → w.fits cover (summed cover stored) ≡ true
  pub rising : IsInOrder Ascending (flat_map (λ b. b) kept.blocks)
  pub turn : AreInTurn (row_before Ascending) (flat_map (λ b. b) kept.blocks)
  pub enclosed : AllByRecursion (λ r. encloses (seen_info h.info) r.key ≡ true) (flat_map (λ b. b) kept.blocks)
  pub sorted : IsSorted key_cmp kept.keys
  pub holds : (i : ℕ) (rows : List RowEntry) → slice_get kept.blocks i ≡ Some rows → AllByRecursion (λ r. CanHold kept.keys i r.key) rows

abbrev pub IsWhole : IterationOrder → Option (DataBlockIterator Block) → Type 0
IsWhole order None = Unit {0}
IsWhole order (Some it) = IsOk (left (left_of it)) × ((left_of it).order ≡ order)

abbrev pub nth_block : IterationOrder → ℕ → ℕ → ℕ → ℕ
nth_block Ascending first stop n = first + n
nth_block Descending first stop n = stop - 1 - n

-- the blocks that were read ahead are the table's next ones in the order
abbrev pub AreReadAhead : SsTableHandle → IterationOrder → Kept → Cursor → Type 0
AreReadAhead h order kept cursor =
    (n : ℕ) (block : Block) (rows : List RowEntry) → slice_get cursor.ready.items n ≡ Some block → slice_get kept.blocks (nth_block order cursor.first cursor.stop n) ≡ Some rows → EachIsAByte block.body
    → block_rows h.format_version block.body block.offsets.items ≡ Ok rows

-- of the table's index, blocks that were read ahead, and a block of the table, where it is read
pub record IsSoundCursor (h : SsTableHandle) (order : IterationOrder) (cursor : Cursor) (w : World) : Type 0 where
  pub kept : Kept
  pub table : IsReadable w h kept
  pub index : entries_of cursor.index ≡ table.entries
  pub ready : AreReadAhead h order kept cursor
  pub whole : IsWhole order cursor.rows

abbrev pub IsSoundState : TableState → SsTableHandle → IterationOrder → World → Type 0
IsSoundState New h order w = (kept : Kept) × IsReadable w h kept
IsSoundState (Walking cursor) h order w = IsSoundCursor h order cursor w
IsSoundState (Refused e) h order w = ¬ IsDamage e

pub record IsSoundAt (range : BytesRange) (h : SsTableHandle) (order : IterationOrder) (s : TableState) (w : World) : Type 0 where
  pub state : IsSoundState s h order w
  pub rising : IsInOrder order (rest_at range h order s w)

abbrev pub IsSoundWalk : TableWalk → World → Type 0
IsSoundWalk it w = IsSoundAt it.range it.table it.order it.state w

-- neighbouring blocks were read by one read of their sections
unfoldable pub IsFetched : Meaning → SsTableHandle → List (ℕ × List ℕ) → ℕ → ℕ → List Act → List Block → Type 0
IsFetched p h entries first stop reads blocks =
    (given : Option (List ℕ)) × (reads ≡ read_of h entries first stop given ∷ []) × AreBlocksRead p.decode (answer_at h entries first stop given) first blocks × (length blocks ≡ stop - first)

-- ---- what a cursor does

abbrev pub next_first : IterationOrder → Cursor → ℕ
next_first Ascending cursor = cursor.first + 1
next_first Descending cursor = cursor.first

abbrev pub next_stop : IterationOrder → Cursor → ℕ
next_stop Ascending cursor = cursor.stop
next_stop Descending cursor = cursor.stop - 1

abbrev pub AreOpened : ℕ → IterationOrder → Block → Option (DataBlockIterator Block) → Type 0
AreOpened version order block None = ⊥
AreOpened version order block (Some it) = Walks version order block (left_of it) × (length (left_of it).reads ≤ max_reads)

-- the next block in the order, which was read ahead, is opened
pub record Opens (h : SsTableHandle) (order : IterationOrder) (before after : Cursor) : Type 0 where
  pub index : after.index ≡ before.index
  pub first : after.first ≡ next_first order before
  pub stop : after.stop ≡ next_stop order before
  pub block : Block
  pub ready : before.ready.items ≡ block ∷ after.ready.items
  pub bytes : EachIsAByte block.body
  pub rows : AreOpened h.format_version order block after.rows

-- ---- blocks that are read ahead

-- the sum of the first so many sizes
abbrev pub size_upto : (ℕ → ℕ) → ℕ → ℕ
size_upto size zero = 0
size_upto size (suc n) = size_upto size n + size n

-- so many of the blocks that are left are taken: the first one, and more until they have so many bytes, or no block is left
pub record IsEnough (size : ℕ → ℕ) (bytes left count : ℕ) : Type 0 where
  pub some : 0 < count
  pub within : count ≤ left
  pub enough : count < left → bytes ≤ size_upto size count
  pub no_more : (n : ℕ) → 0 < n → n < count → size_upto size n < bytes

-- the blocks that weren't read
abbrev pub unread_first : IterationOrder → Cursor → ℕ
unread_first Ascending cursor = cursor.first + length cursor.ready.items
unread_first Descending cursor = cursor.first

abbrev pub unread_stop : IterationOrder → Cursor → ℕ
unread_stop Ascending cursor = cursor.stop
unread_stop Descending cursor = cursor.stop - length cursor.ready.items

-- how many bytes the section of such a block has, by how many come before it in the order
abbrev pub unread_size : SsTableHandle → List (ℕ × List ℕ) → IterationOrder → ℕ → ℕ → ℕ → ℕ
unread_size h entries order first stop n = size_of h entries (nth_block order first stop n)

abbrev pub StandsNext : IterationOrder → ℕ → ℕ → ℕ → ℕ → Type 0
StandsNext Ascending first stop from upto = (from ≡ first) × (upto ≤ stop)
StandsNext Descending first stop from upto = (upto ≡ stop) × (first ≤ from)

pub record IsNextFetch (h : SsTableHandle) (order : IterationOrder) (bytes : ℕ) (cursor : Cursor) (from upto : ℕ) : Type 0 where
  pub next : StandsNext order (unread_first order cursor) (unread_stop order cursor) from upto
  pub some : from < upto
  pub enough : IsEnough (unread_size h (entries_of cursor.index) order (unread_first order cursor) (unread_stop order cursor)) bytes (unread_stop order cursor - unread_first order cursor) (upto - from)

-- and they were read by one read
pub record Fetches (p : Meaning) (h : SsTableHandle) (order : IterationOrder) (bytes : ℕ) (reads : List Act) (before after : Cursor) : Type 0 where
  pub index : after.index ≡ before.index
  pub first : after.first ≡ before.first
  pub stop : after.stop ≡ before.stop
  pub rows : after.rows ≡ before.rows
  pub from : ℕ
  pub upto : ℕ
  pub next : IsNextFetch h order bytes before from upto
  pub blocks : List Block
  pub ready : after.ready.items ≡ before.ready.items ++ in_order order blocks
  pub fetched : IsFetched p h (entries_of before.index) from upto reads blocks

-- a row of the block that is open is taken, or that is spent
abbrev pub TakesOpen : Option (DataBlockIterator Block) → Option RowEntry → Option (DataBlockIterator Block) → Type 0
TakesOpen None None after = after ≡ None
TakesOpen None (Some row) after = ⊥
TakesOpen (Some it) answer None = ⊥
TakesOpen (Some it) answer (Some next) = TakesRead (left_of it).reads answer (left_of next).reads × ((left_of next).order ≡ (left_of it).order)

-- in a world
abbrev pub rest_after : SsTableHandle → IterationOrder → Cursor → World → List RowEntry
rest_after h order cursor w = rest_behind cursor order (w.holds (path_in h))

abbrev pub bound_behind : Cursor → ℕ
bound_behind cursor = reads_in cursor.rows + (cursor.stop - cursor.first) * max_reads

-- the index was read, by one read of its section, or refused
unfoldable pub IsIndexed : Meaning → SsTableHandle → List Act → List (ℕ × List ℕ) → Type 0
IsIndexed p h reads entries =
    (given : Option (List ℕ)) × (reads ≡ Act.read (path_in h) h.info.index_offset h.info.index_len given ∷ [])
    × IsIndexRead p.decode h.info.filter_offset (of_index h (whole_answer h.info.index_len given)) entries

abbrev pub RefusesIndexed : Meaning → SsTableHandle → List Act → SlateDBError → Type 0
RefusesIndexed p h reads e =
    (given : Option (List ℕ)) × Contains reads (Act.read (path_in h) h.info.index_offset h.info.index_len given) × RefusesIndex p.decode h.info.filter_offset (of_index h (whole_answer h.info.index_len given)) e

abbrev pub refuses_index : SsTableHandle → Meaning → List Act → Option (List ℕ) → SlateDBError → Type 0
refuses_index h m reads at e = IsDamage e × RefusesIndexed m h reads e

-- a refusal is kept, or want of memory in its place
abbrev pub Keeps : SlateDBError → TableState → Type 0
Keeps e s = (s ≡ Refused e) ⊎ (s ≡ Refused OutOfMemory)

-- the walk stands before the blocks that can hold keys of a range
pub record BeginsAt (range : BytesRange) (entries : List (ℕ × List ℕ)) (cursor : Cursor) : Type 0 where
  pub index : entries_of cursor.index ≡ entries
  pub first : cursor.first ≡ covering_start (index_keys entries) range.start
  pub stop : cursor.stop ≡ covering_end (index_keys entries) cursor.first range.end
  pub ready : cursor.ready.items ≡ []
  pub rows : cursor.rows ≡ None

abbrev pub Begins : BytesRange → List (ℕ × List ℕ) → TableState → Type 0
Begins range entries New = ⊥
Begins range entries (Walking cursor) = BeginsAt range entries cursor
Begins range entries (Refused e) = ⊥

abbrev pub IsUnopened : TableState → Type 0
IsUnopened s = s ≡ New

abbrev pub IsWalking : TableState → Type 0
IsWalking (Walking cursor) = Unit {0}
IsWalking s = ⊥

-- a walk that wasn't begun, one over blocks, which is left, and one that was refused
abbrev pub StaysIn : TableState → Option (List ℕ) → SlateDBError → TableState → Type 0
StaysIn New at e after = ((e ≡ IteratorNotInitialized) × (after ≡ New)) ⊎ ((at ≡ None) × Keeps e after)
StaysIn (Walking cursor) at e after = Keeps e after
StaysIn (Refused kept) at e after = Copies kept e × (after ≡ Refused kept)

-- it is over the same table
abbrev pub IsSameWalk : TableWalk → TableWalk → Type 0
IsSameWalk before after = (after.range ≡ before.range) × (after.table ≡ before.table) × (after.order ≡ before.order)

-- a walk that has begun stays, and a new one is over the blocks that can hold keys of its range
abbrev pub BeginsIn : BytesRange → TableState → TableState → Type 0
BeginsIn range New after = (entries : List (ℕ × List ℕ)) × Begins range entries after
BeginsIn range (Walking cursor) after = after ≡ Walking cursor
BeginsIn range (Refused e) after = ⊥

-- it refuses, and stands as it stood, or keeps the refusal
abbrev pub Stays : TableWalk → Option (List ℕ) → SlateDBError → TableWalk → Type 0
Stays before at e after = StaysIn before.state at e after.state × IsSameWalk before after

-- ---- the rows of a table in a range

abbrev pub is_in : BytesRange → RowEntry → Bool
is_in range r = in_range range r.key

abbrev pub rows_in : BytesRange → IterationOrder → Kept → List RowEntry
rows_in range order kept = in_order order (filter (is_in range) (flat_map (λ b. b) kept.blocks))

-- ---- a seek

-- rows of the block that is open are taken off before a key; some: whether one is left
abbrev pub SkipsOpen : List ℕ → Option (DataBlockIterator Block) → Bool → Option (DataBlockIterator Block) → Type 0
SkipsOpen key None some after = (some ≡ false) × (after ≡ None)
SkipsOpen key (Some it) some None = ⊥
SkipsOpen key (Some it) some (Some next) =
    ((front : List RowRead) × ((left_of it).reads ≡ front ++ (left_of next).reads))
    × (IsRising (left_of it).order (left (left_of it)) → left (left_of next) ≡ Ok (drop_before (left_of it).order key (rows_of (left (left_of it)))))
    × ((left_of next).order ≡ (left_of it).order) × (some ≡ true → 0 < length (left_of next).reads) × (some ≡ false → length (left_of next).reads ≡ 0)

abbrev pub IsSoundRising : SsTableHandle → IterationOrder → Cursor → World → Type 0
IsSoundRising h order cursor w = IsSoundCursor h order cursor w × IsInOrder order (rest_after h order cursor w)

-- a seek that is done
pub record Sought {A : Type 0} (rest : A → World → List RowEntry) (sound : A → World → Type 0) (refuses : A → Meaning → List Act → Option (List ℕ) → SlateDBError → Type 0) (order : IterationOrder) (key : List ℕ) (before after : Reach) (x y : A) : Type 0 where
  pub rows : (w : World) → Sees w before after → sound x w → rest y w ≡ drop_before order key (rest x w)
  pub still : (w : World) → Sees w before after → sound x w → sound y w
  pub checked : (w : World) → sound x w → Checks w before after
  pub made : Made before after (λ reads. NoMore (refuses x before.meaning) reads (refuses y before.meaning))

-- of a cursor
abbrev pub StepsBehind : SsTableHandle → IterationOrder → Reach → Reach → Cursor → Option RowEntry → Cursor → Type 0
StepsBehind h order before after x answer y = Step (rest_after h order) (IsSoundCursor h order) (refuses_behind h order) no_words before after x answer y

abbrev pub SoughtBehind : SsTableHandle → IterationOrder → List ℕ → Reach → Reach → Cursor → Cursor → Type 0
SoughtBehind h order key before after x y = Sought (rest_after h order) (IsSoundRising h order) (refuses_behind h order) order key before after x y

-- blocks that the order puts before a key as a whole are passed over
abbrev pub StaysAtEnd : IterationOrder → Cursor → Cursor → Type 0
StaysAtEnd Ascending before after = after.stop ≡ before.stop
StaysAtEnd Descending before after = after.first ≡ before.first

abbrev pub passed_over : IterationOrder → Cursor → Cursor → ℕ
passed_over Ascending before after = after.first - before.first
passed_over Descending before after = before.stop - after.stop

pub record Jumps (order : IterationOrder) (key : List ℕ) (before after : Cursor) : Type 0 where
  pub index : after.index ≡ before.index
  pub rows : after.rows ≡ before.rows
  pub ready : after.ready.items ≡ drop (passed_over order before after) before.ready.items
  pub first : before.first ≤ after.first
  pub stop : after.stop ≤ before.stop
  pub end : StaysAtEnd order before after
  pub passed : (i : ℕ) (k : List ℕ) → CanHold (index_keys (entries_of before.index)) i k → before.first ≤ i → i < before.stop → (after.first ≤ i → i < after.stop → ⊥) → comes_before order k key ≡ true
