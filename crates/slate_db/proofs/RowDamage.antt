-- What is refused of a block's rows, and what reads of a scan show, can't be read.
use Rattle.slate_block.specs.BlockSpelling.{IsKnown}
use Rattle.std.proofs.Common.{◌≡◌, ◌≢◌, ◌⊎◌, inl, inr, [], ◌∷◌, ◌+◌, ℕ, Bool, true, false, cond, List, Option, Some, None, Result, Ok, Err, sym, subst}
use Rattle.std.specs.Prelude.{Contains, IfErr, ◌&&◌, ◌==◌, length, nat_le, slice_get, slice_range}
use Rattle.std.specs.Int.{w16, w32, w64}
use Rattle.slate_types.specs.declared.error.SlateDBError.{SlateDBError}
use Rattle.slate_types.specs.declared.error.SlateDBError.TheVariants.{ChecksumMismatch, CorruptTable, InvalidFilterBlock, InvalidRowFlags, InvalidSequenceOrder, MergeOperatorMissing}
use Rattle.slate_types.specs.declared.filter_policy.FilterQuery.{FilterQuery}
use Rattle.slate_types.specs.declared.iter.IterationOrder.{IterationOrder}
use Rattle.slate_types.specs.Outside.{Act, Meaning, Reach}
use Rattle.slate_block.specs.declared.block.Block.{Block}
use Rattle.slate_block.specs.declared.flags.RowFlags.{RowFlags}
use Rattle.slate_block.specs.BlockWalks.{IsBlockDamage}
use Rattle.slate_block.specs.Damage.{◌>>=◌, block_field, flags_at, flags_field, has, head_layout, key_layout_v1, layout_v1, number_field, row_flags, stamp_field, stamps_layout, value_layout}
use Rattle.slate_block.specs.RowSpelling.{are_flags}
use Rattle.slate_block.specs.RowReading.{row_v1_of}
use Rattle.slate_block.specs.Walks.{are_named, between, block_reads, block_reads_v1, first_key_v1, is_restored, moved, moved_result, next_place, reads_v2, row_upto, row_v1_in}
use Rattle.slate_filter.specs.Policy.{Policy}
use Rattle.slate_table.specs.Reading.{SectionRead}
use Rattle.slate_table.specs.declared.info.SsTableHandle.{SsTableHandle}
use Rattle.slate_table.specs.Parts.{Encode}
use Rattle.slate_merge.specs.Folds.{IsRise, RefusesBrought}
use Rattle.slate_read.specs.Showing.{RefusesBlockOf, ShowsByReads}
use Rattle.slate_read.specs.TableWalk.{RefusesRows}
use Rattle.slate_db.specs.Installs.{AreHandles, tables_of}
use Rattle.slate_db.specs.Model.{CoreModel}
use Rattle.slate_db.specs.Parts.{IsTableError}
use Rattle.slate_db.specs.Scans.{AreScanTables, IsOpeningError, IsRefusedByScan, IsRefusedByTables, IsRefusedInScan, IsReadAmong, IsScanError, IsScanned, ShowsAmong}
use Rattle.slate_db.specs.Shown.{IsUnreadable}
use Rattle.slate_db.proofs.Damaged.{block_damage, block_unreadable, bound, in_block, index_unreadable, number_damage, passes}
use Rattle.slate_db.proofs.Shown.{known_version, unreadable_kind}

-- ---- the fields of a row of version 1

flags_at_damage : (at : ℕ) (b : Option ℕ) → IfErr (flags_at at b) IsUnreadable
flags_at_damage at None = tt
flags_at_damage at (Some b) = passes (are_flags b) (row_flags b, at + 1) (InvalidRowFlags b) tt

flags_damage : (bytes : List ℕ) (at : ℕ) → IfErr (flags_field bytes at) IsUnreadable
unfolding flags_field
flags_damage bytes at = flags_at_damage at (slice_get bytes at)

stamp_damage : (there : Bool) (bytes : List ℕ) (at : ℕ) → IfErr (stamp_field there bytes at) IsUnreadable
unfolding stamp_field
stamp_damage false bytes at = tt
stamp_damage true bytes at = bound (number_field w64 bytes at) _ (number_damage w64 bytes at) (λ bits. tt)

head_damage : (bytes : List ℕ) (at : ℕ) → IfErr (head_layout bytes at) IsUnreadable
unfolding head_layout
head_damage bytes at = bound (number_field w64 bytes at) _ (number_damage w64 bytes at) (λ seq. bound (flags_field bytes seq.1) _ (flags_damage bytes seq.1) (λ flags. tt))

stamps_damage : (flags : RowFlags) (bytes : List ℕ) (at : ℕ) → IfErr (stamps_layout flags bytes at) IsUnreadable
unfolding stamps_layout
stamps_damage flags bytes at =
    bound (stamp_field (has 2 flags) bytes at) _ (stamp_damage (has 2 flags) bytes at) (λ expire. bound (stamp_field (has 4 flags) bytes expire.1) _ (stamp_damage (has 4 flags) bytes expire.1) (λ create. tt))

value_damage : (none : Bool) (bytes : List ℕ) (at : ℕ) → IfErr (value_layout none bytes at) IsUnreadable
unfolding value_layout
value_damage true bytes at = tt
value_damage false bytes at = bound (number_field w32 bytes at) _ (number_damage w32 bytes at) (λ len. block_damage len.0 bytes len.1)

key_damage : (bytes : List ℕ) → IfErr (key_layout_v1 bytes) IsUnreadable
unfolding key_layout_v1
key_damage bytes =
    bound (number_field w16 bytes 0) _ (number_damage w16 bytes 0) (λ shared. bound (number_field w16 bytes shared.1) _ (number_damage w16 bytes shared.1)
    (λ len. bound (block_field len.0 bytes len.1) _ (block_damage len.0 bytes len.1) (λ suffix. tt)))

layout_damage : (bytes : List ℕ) → IfErr (layout_v1 bytes) IsUnreadable
unfolding layout_v1
layout_damage bytes =
    bound (key_layout_v1 bytes) _ (key_damage bytes) (λ key. bound (head_layout bytes key.1.1) _ (head_damage bytes key.1.1)
    (λ head. bound (stamps_layout head.0.1 bytes head.1) _ (stamps_damage head.0.1 bytes head.1)
    (λ stamps. bound (value_layout (has 1 head.0.1) bytes stamps.1) _ (value_damage (has 1 head.0.1) bytes stamps.1) (λ value. tt))))

row_damage : (bytes : List ℕ) → IfErr (row_v1_of bytes) IsUnreadable
unfolding row_v1_of
row_damage bytes = bound (layout_v1 bytes) _ (layout_damage bytes) (λ row. tt)

-- ---- rows of version 1, and a block's

moved_kind : (at : ℕ) (e : SlateDBError) → IsUnreadable e → IsUnreadable (moved at e)
moved_kind at (CorruptTable place) h = tt
moved_kind at (ChecksumMismatch stored computed) h = tt
moved_kind at (InvalidRowFlags b) h = tt
moved_kind at (InvalidFilterBlock len) h = tt
moved_kind at _ h = absurd h

moved_damage : {A : Type 0} (at : ℕ) (r : Result A SlateDBError) → IfErr r IsUnreadable → IfErr (moved_result at r) IsUnreadable
moved_damage at (Ok x) h = tt
moved_damage at (Err e) h = moved_kind at e h

between_damage : (body : List ℕ) (from upto : ℕ) → IfErr (between body from upto) IsUnreadable
unfolding between
between_damage body from upto = passes (nat_le from upto && nat_le upto (length body)) (slice_range body from upto) (CorruptTable from) tt

in_damage : (body other : List ℕ) (from upto : ℕ) → IfErr (row_v1_in body other from upto) IsUnreadable
unfolding row_v1_in
in_damage body other from upto =
    bound (between body from upto) _ (between_damage body from upto) (λ bytes. bound (moved_result from (row_v1_of bytes)) _ (moved_damage from (row_v1_of bytes) (row_damage bytes))
    (λ found. passes (is_restored found.0.key_prefix_len other found.0.key_suffix) _ (CorruptTable from) tt))

upto_damage : (body other : List ℕ) (at upto : ℕ) → IfErr (row_upto body other at upto) IsUnreadable
unfolding row_upto
upto_damage body other at upto = bound (row_v1_in body other at upto) _ (in_damage body other at upto) (λ found. passes (found.1 == upto) found.0 (CorruptTable found.1) tt)

first_damage : (body offsets : List ℕ) → IfErr (first_key_v1 body offsets) IsUnreadable
unfolding first_key_v1
first_damage body [] = tt
first_damage body (at ∷ ats) = bound (row_upto body [] at (next_place (length body) ats)) _ (upto_damage body [] at (next_place (length body) ats)) (λ row. tt)

reads_v1_damage : (body offsets : List ℕ) → IfErr (block_reads_v1 body offsets) IsUnreadable
unfolding block_reads_v1
reads_v1_damage body offsets = bound (first_key_v1 body offsets) _ (first_damage body offsets) (λ first. tt)

either : {A : Type 0} (t : Bool) (r s : Result A SlateDBError) → IfErr r IsUnreadable → IfErr s IsUnreadable → IfErr (cond t r s) IsUnreadable
either true r s h k = h
either false r s h k = k

reads_damage : (version : ℕ) (body offsets : List ℕ) → IfErr (block_reads version body offsets) IsUnreadable
unfolding block_reads
reads_damage version body offsets =
    either (are_named offsets) (cond (version == 1) (block_reads_v1 body offsets) (Ok (reads_v2 body offsets (length body)))) (Err (CorruptTable 0))
    (either (version == 1) (block_reads_v1 body offsets) (Ok (reads_v2 body offsets (length body))) (reads_v1_damage body offsets) tt) tt

-- ---- what reads show

rows_unreadable : (version : ℕ) (order : IterationOrder) (block : Block) (e : SlateDBError) → IsKnown version → RefusesRows version order block e → IsUnreadable e
rows_unreadable version order block e known (inl h) = subst (λ (r : Result _ SlateDBError). IfErr r IsUnreadable) h.1 (reads_damage version block.body block.offsets.items)
rows_unreadable version order block e known (inr (inl h)) = absurd (h.0 known)
rows_unreadable version order block e known (inr (inr (it, walks, r))) = in_block e r.0

block_of_unreadable : (decode : Encode) (version : ℕ) (s : SectionRead) (e : SlateDBError) → IsKnown version → RefusesBlockOf decode version s e → IsUnreadable e
block_of_unreadable decode version s e known (inl h) = block_unreadable decode s e h
block_of_unreadable decode version s e known (inr (block, read, (order, rows))) = rows_unreadable version order block e known rows

shown_unreadable : (decode : Encode) (h : SsTableHandle) (acts : List Act) (e : SlateDBError) → IsKnown h.format_version → ShowsByReads decode h acts e → IsUnreadable e
shown_unreadable decode h acts e known s = elim s.why as (λ _. IsUnreadable e) [
  | inl k ↦ index_unreadable decode h.info.filter_offset _ e k
  | inr k ↦ block_of_unreadable decode h.format_version _ e known k.2.refuses
]

rise_kind : (e : SlateDBError) → IsRise e → IsTableError e
rise_kind (InvalidSequenceOrder current next) h = tt
rise_kind e h = absurd h

-- what a scan is refused for is an error of a table, or of an operand
pub scan_kind : (m : Meaning) (c : CoreModel) (acts : List Act) (at : Option (List ℕ)) (e : SlateDBError) → IsRefusedByTables m c acts at e → IsTableError e
scan_kind m c acts at e r = by r.refused
  where
    by : RefusesBrought (IsScanned m c r.left acts) (IsReadAmong m r.left acts) m at e ⊎ ShowsAmong m.decode r.left acts e → IsTableError e
    by (inl (inl operand)) = subst IsTableError (sym operand.refuses.1) tt
    by (inl (inr rise)) = rise_kind e rise.refuses.2
    by (inr (h, there, shows)) = unreadable_kind e (shown_unreadable m.decode h acts e (known_version (tables_of c.events) r.tables.handles h r.tables.are (r.tables.among h there)) shows)

-- so it is with its opening
pub in_scan_kind : (policies : List Policy) (m : Meaning) (c : CoreModel) (acts : List Act) (e : SlateDBError) → IsRefusedInScan policies m c acts e → IsTableError e
in_scan_kind policies m c acts e (inl (at, refused)) = scan_kind m c acts at e refused
in_scan_kind policies m c acts e (inr (query, filters)) = unreadable_kind e filters.shown.kind

-- tables that were let in are some that the journal names
unasked : {policies : List Policy} {query : Option FilterQuery} {m : Meaning} {c : CoreModel} {opening : List Act} (left : List SsTableHandle) → AreScanTables policies query m c opening left → AreScanTables [] None m c [] left
unasked left t = record { handles = t.handles; are = t.are; among = t.among; asked = λ h there query is. cc }

pub by_tables : {policies : List Policy} {query : Option FilterQuery} (m : Meaning) (c : CoreModel) (opening reads : List Act) (at : Option (List ℕ)) (e : SlateDBError) → IsRefusedByScan policies query m c opening reads at e → IsRefusedByTables m c reads at e
by_tables m c opening reads at e r = record { left = r.left; tables = unasked r.left r.tables; refused = r.refused }

-- and an opening's is one of a scan
pub opening_scan : {policies : List Policy} {query : Option FilterQuery} (before after : Reach) (c : CoreModel) (e : SlateDBError) → IsOpeningError policies query before after c e → IsScanError policies before after c e
opening_scan before after c e (inl fault) = inl fault
opening_scan before after c e (inr (reads, call, inl s)) = inr (reads, call, inl (None, record { left = s.left; tables = unasked s.left s.tables; refused = inr s.shown }))
opening_scan {policies} {query} before after c e (inr (reads, call, inr f)) = inr (reads, call, inr (query, f))
