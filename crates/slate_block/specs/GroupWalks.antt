-- What is left of a walk over a block of version 2.
--     group_end body offsets n, restart_at body offsets n      where the group that begins at a restart ends, and what its rows are read as
--     group_left body group      what is left of a group; is_over group      nothing is
--     left_v2 body offsets place      what is left of a block of version 2
--     as_place place      a place whose key before it stands in a buffer
--     PassesRow body other from upto key after passed      the row between two places is read by the other key. Where it comes before a key, what is passed is where it ends, and its own key comes after; else nothing is
--     PassesFirst key now after passed      the first row is read, and taken off where it comes before a key
--     BeginsBefore order body offsets n key      the order puts a group's first key, where its row is read, before the key
--     reads_back n body offsets      what the rows of so many groups are read as, the last first: a group is read as a whole, and one that fails is refused as a whole
--     left_back body offsets groups rows      what is left before a group's rows and behind so many groups
--     walk_in order body offsets      what the rows of a block of version 2 are read as in an order
use Rattle.std.specs.Prelude.{◌≡◌, ℕ, zero, suc, reverse, map, ◌+◌, Bool, true, false, ◌&&◌, ◌||◌, ◌==◌, List, [], ◌∷◌, ◌++◌, length, drop, slice_index, Option, Some, None, Result, Ok, Err}
use Rattle.slate_types.specs.declared.error.SlateDBError.{SlateDBError}
use Rattle.slate_types.specs.declared.types.RowEntry.{RowEntry}
use Rattle.slate_types.specs.declared.iter.IterationOrder.{IterationOrder}
use Rattle.slate_types.specs.declared.iter.IterationOrder.TheVariants.{Ascending, Descending}
use Rattle.slate_types.specs.Iteration.{comes_before}
use Rattle.slate_block.specs.declared.row_groups.RowGroup.{RowGroup}
use Rattle.slate_block.specs.declared.walk_v2.BlockPlace.{BlockPlace}
use Rattle.slate_block.specs.declared.key_walk.KeyPlace.{KeyPlace}
use Rattle.slate_block.specs.Walks.{RowRead, all_ok, next_place, row_v2_in, group_reads, restart_reads, is_none_left, reads_v2}

abbrev pub group_end : List ℕ → List ℕ → ℕ → ℕ
group_end body offsets n = next_place (length body) (drop (n + 1) offsets)

unfoldable pub restart_at : List ℕ → List ℕ → ℕ → List RowRead
restart_at body offsets n = restart_reads body (slice_index offsets n) (group_end body offsets n) (is_none_left (drop (n + 1) offsets))

abbrev pub is_over : RowGroup → Bool
is_over group = group.at == group.end && (group.room == 0 || group.is_last)

unfoldable pub group_left : List ℕ → RowGroup → List RowRead
group_left body group = group_reads group.room body group.previous group.at group.end group.is_last

unfoldable pub left_v2 : List ℕ → List ℕ → BlockPlace → List RowRead
left_v2 body offsets place = group_left body place.group ++ reads_v2 body (drop place.next offsets) (length body)

abbrev pub as_place : KeyPlace → BlockPlace
as_place p = record { group = record { at = p.at; end = p.end; room = p.room; is_last = p.is_last; previous = p.previous.items }; next = p.next }

abbrev pub PassesRow : List ℕ → List ℕ → ℕ → ℕ → List ℕ → List ℕ → Option ℕ → Type 0
PassesRow body other from upto key after (Some end) = (row : RowEntry) × (row_v2_in body other from upto ≡ Ok (row, end)) × (after ≡ row.key) × (comes_before Ascending row.key key ≡ true)
PassesRow body other from upto key after None = (row : RowEntry) × (end : ℕ) × (row_v2_in body other from upto ≡ Ok (row, end)) × (after ≡ other) × (comes_before Ascending row.key key ≡ false)

abbrev pub PassesFirst : List ℕ → List RowRead → List RowRead → Bool → Type 0
PassesFirst key now after true = (row : RowEntry) × (now ≡ Ok row ∷ after) × (comes_before Ascending row.key key ≡ true)
PassesFirst key now after false = (row : RowEntry) × (reads : List RowRead) × (now ≡ Ok row ∷ reads) × (after ≡ now) × (comes_before Ascending row.key key ≡ false)

abbrev pub BeginsBefore : IterationOrder → List ℕ → List ℕ → ℕ → List ℕ → Type 0
BeginsBefore order body offsets n key = (row : RowEntry) (reads : List RowRead) → restart_at body offsets n ≡ Ok row ∷ reads → comes_before order row.key key ≡ true

-- ---- from the end

-- what is read together, turned round
abbrev pub turned : Result (List RowEntry) SlateDBError → List RowRead
turned (Ok rows) = map (λ row. Ok row) (reverse rows)
turned (Err e) = Err e ∷ []

unfoldable pub reads_back : ℕ → List ℕ → List ℕ → List RowRead
reads_back zero body offsets = []
reads_back (suc n) body offsets = turned (all_ok (restart_at body offsets n)) ++ reads_back n body offsets

unfoldable pub left_back : List ℕ → List ℕ → ℕ → List RowEntry → List RowRead
left_back body offsets groups rows = turned (Ok rows) ++ reads_back groups body offsets

-- ---- in either order

abbrev pub walk_in : IterationOrder → List ℕ → List ℕ → List RowRead
walk_in Ascending body offsets = reads_v2 body offsets (length body)
walk_in Descending body offsets = reads_back (length offsets) body offsets
