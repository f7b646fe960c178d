-- A block's rows, read one behind the other.
--     moved at e      the refusal of a field, with its place in the rows' part, where a row's bytes begin at a place
--     entry_v2_in body from upto      the fields of the row of version 2 at a place of the rows' part; or the refusal
--     row_v1_in, row_v2_in body other from upto      the row at a place of the rows' part, whose key leaves out a front of the other key, and the place behind it; or the refusal
--     before row left      a row before others, or the first refusal
--     next_place end ats      where the next row, or the next restart, begins
--     row_upto body other at upto      the row of version 1 between two places, which it fills
--     all_ok reads      what was read, or the first refusal
--     reads_v1 body first ats end      what each row of version 1 at these places is read as, up to the next place
--     first_key_v1 body offsets, block_reads_v1 body offsets      a block's first key, and what each of its rows is read as; or why its first row is refused
--     group_reads n body previous at end last      what so many rows of version 2 up to the end are read as; in the last group there may be fewer
--     restart_reads body at end last      the same of the group that begins at a restart
--     reads_v2 body ats end      the same of the groups that begin at these places
--     are_named offsets      the offsets begin at 0, and their number fits its field
--     block_reads version body offsets      what each row of a block is read as, or why none is read
--     block_rows version body offsets      the rows of a block, or the refusal of the first field that fails
use Rattle.std.specs.Prelude.{ℕ, zero, suc, ◌+◌, ◌^◌, Bool, true, false, ◌&&◌, if◌then◌else◌, nat_lt, nat_le, ◌==◌, List, [], ◌∷◌, ◌++◌, length, slice_range, Result, Ok, Err}
use Rattle.slate_types.specs.declared.error.SlateDBError.{SlateDBError}
use Rattle.slate_types.specs.declared.error.SlateDBError.TheVariants.{CorruptTable}
use Rattle.slate_types.specs.declared.types.RowEntry.{RowEntry}
use Rattle.slate_block.specs.declared.row.SstRowEntry.{SstRowEntry}
use Rattle.slate_block.specs.declared.row.SstRowEntryV2.{SstRowEntryV2}
use Rattle.slate_block.specs.BlockSpelling.{whole_key}
use Rattle.slate_block.specs.Damage.{◌>>=◌}
use Rattle.slate_block.specs.RowReading.{row_v1_of, row_v2_of}

abbrev pub moved : ℕ → SlateDBError → SlateDBError
moved at (CorruptTable place) = CorruptTable (at + place)
moved at e = e

abbrev pub moved_result : {A : Type 0} → ℕ → Result A SlateDBError → Result A SlateDBError
moved_result at (Ok x) = Ok x
moved_result at (Err e) = Err (moved at e)

-- the front is there, and the whole is a key
abbrev pub is_restored : ℕ → List ℕ → List ℕ → Bool
is_restored n other suffix = nat_le n (length other) && nat_lt 0 (n + length suffix) && nat_lt (n + length suffix) (2 ^ 16)

abbrev pub whole_v1 : List ℕ → SstRowEntry → RowEntry
whole_v1 other e = record { key = whole_key e.key_prefix_len other e.key_suffix; value = e.value; seq = e.seq; create_ts = e.create_ts; expire_ts = e.expire_ts }

abbrev pub whole_v2 : List ℕ → SstRowEntryV2 → RowEntry
whole_v2 other e = record { key = whole_key e.shared_bytes other e.key_suffix; value = e.value; seq = e.seq; create_ts = e.create_ts; expire_ts = e.expire_ts }

-- the bytes between two places, where they are places of the rows' part
unfoldable pub between : List ℕ → ℕ → ℕ → Result (List ℕ) SlateDBError
between body from upto = if nat_le from upto && nat_le upto (length body) then Ok (slice_range body from upto) else Err (CorruptTable from)

unfoldable pub row_v1_in : List ℕ → List ℕ → ℕ → ℕ → Result (RowEntry × ℕ) SlateDBError
row_v1_in body other from upto = do
  bytes ← between body from upto
  found ← moved_result from (row_v1_of bytes)
  if is_restored found.0.key_prefix_len other found.0.key_suffix then Ok (whole_v1 other found.0, from + found.1) else Err (CorruptTable from)

unfoldable pub entry_v2_in : List ℕ → ℕ → ℕ → Result (SstRowEntryV2 × ℕ) SlateDBError
entry_v2_in body from upto = between body from upto >>= λ bytes. moved_result from (row_v2_of bytes)

unfoldable pub row_v2_in : List ℕ → List ℕ → ℕ → ℕ → Result (RowEntry × ℕ) SlateDBError
row_v2_in body other from upto = entry_v2_in body from upto >>= λ found.
    if is_restored found.0.shared_bytes other found.0.key_suffix then Ok (whole_v2 other found.0, from + found.1) else Err (CorruptTable from)

abbrev pub next_place : ℕ → List ℕ → ℕ
next_place end [] = end
next_place end (at ∷ ats) = at

-- a row before others, where nothing is refused
abbrev pub before : RowEntry → Result (List RowEntry) SlateDBError → Result (List RowEntry) SlateDBError
before row left = left >>= λ rows. Ok (row ∷ rows)

-- ---- version 1: each row ends where the next begins; the first shares with nothing, the others with the first

unfoldable pub row_upto : List ℕ → List ℕ → ℕ → ℕ → Result RowEntry SlateDBError
row_upto body other at upto = row_v1_in body other at upto >>= λ found. if found.1 == upto then Ok found.0 else Err (CorruptTable found.1)

abbrev pub RowRead : Type 0
RowRead = Result RowEntry SlateDBError

abbrev pub all_ok : List RowRead → Result (List RowEntry) SlateDBError
all_ok [] = Ok []
all_ok (read ∷ reads) = read >>= λ row. before row (all_ok reads)

abbrev pub reads_v1 : List ℕ → List ℕ → List ℕ → ℕ → List RowRead
reads_v1 body first [] end = []
reads_v1 body first (at ∷ ats) end = row_upto body first at (next_place end ats) ∷ reads_v1 body first ats end

unfoldable pub first_key_v1 : List ℕ → List ℕ → Result (List ℕ) SlateDBError
first_key_v1 body [] = Err (CorruptTable 0)
first_key_v1 body (at ∷ ats) = row_upto body [] at (next_place (length body) ats) >>= λ row. Ok row.key

unfoldable pub block_reads_v1 : List ℕ → List ℕ → Result (List RowRead) SlateDBError
block_reads_v1 body offsets = first_key_v1 body offsets >>= λ first. Ok (reads_v1 body first offsets (length body))

-- ---- version 2: a group of 16 rows begins at each restart, and ends where the next begins; the last may have fewer. A row that
-- is refused ends what is read of its group

abbrev pub read_then : Result (RowEntry × ℕ) SlateDBError → (RowEntry × ℕ → List RowRead) → List RowRead
read_then (Ok found) behind = Ok found.0 ∷ behind found
read_then (Err e) behind = Err e ∷ []

unfoldable pub group_reads : ℕ → List ℕ → List ℕ → ℕ → ℕ → Bool → List RowRead
group_reads zero body previous at end last = if at == end then [] else Err (CorruptTable at) ∷ []
group_reads (suc n) body previous at end last = if last && at == end then []
    else read_then (row_v2_in body previous at end) (λ found. group_reads n body found.0.key found.1 end last)

-- the first row of a group shares nothing
unfoldable pub restart_reads : List ℕ → ℕ → ℕ → Bool → List RowRead
restart_reads body at end last = read_then (row_v2_in body [] at end) (λ found. group_reads 15 body found.0.key found.1 end last)

abbrev pub is_none_left : List ℕ → Bool
is_none_left [] = true
is_none_left (at ∷ ats) = false

unfoldable pub reads_v2 : List ℕ → List ℕ → ℕ → List RowRead
reads_v2 body [] end = []
reads_v2 body (at ∷ ats) end = restart_reads body at (next_place end ats) (is_none_left ats) ++ reads_v2 body ats end

-- ---- a block names its rows from the first on, and their number fits its field

abbrev pub begins_at_zero : List ℕ → Bool
begins_at_zero [] = false
begins_at_zero (at ∷ ats) = at == 0

abbrev pub are_named : List ℕ → Bool
are_named offsets = begins_at_zero offsets && nat_lt (length offsets) (2 ^ 16)

unfoldable pub block_reads : ℕ → List ℕ → List ℕ → Result (List RowRead) SlateDBError
block_reads version body offsets = if are_named offsets then (if version == 1 then block_reads_v1 body offsets else Ok (reads_v2 body offsets (length body))) else Err (CorruptTable 0)

unfoldable pub block_rows : ℕ → List ℕ → List ℕ → Result (List RowEntry) SlateDBError
block_rows version body offsets = block_reads version body offsets >>= all_ok
