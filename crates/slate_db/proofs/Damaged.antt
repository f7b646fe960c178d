-- What is refused of a part that was read can't be read.
use Rattle.slate_block.specs.BlockSpelling.{IsKnown}
use Rattle.std.proofs.Common.{◌≡◌, ◌≢◌, ◌<◌, [], ◌∷◌, ◌++◌, ℕ, zero, suc, ◌+◌, ◌-◌, ◌*◌, ◌⊎◌, inl, inr, Bool, true, false, cond, eqb, List, length, drop, take, Option, Some, None, Result, Ok, Err, refl, sym, subst, arith}
use Rattle.std.specs.Prelude.{Contains, IfErr, ◌&&◌, ◌==◌, nat_lt, nat_le, min, slice_get, slice_range}
use Rattle.std.specs.Int.{Width, w16, w32, w64, byte_len, from_be_bytes}
use Rattle.std.proofs.lemmas.Bool.{eqb-true}
use Rattle.std.proofs.lemmas.Option.{same_Some}
use Rattle.slate_types.specs.declared.error.SlateDBError.{SlateDBError}
use Rattle.slate_types.specs.declared.error.SlateDBError.TheVariants.{CorruptTable, ChecksumMismatch, InvalidRowFlags, InvalidVersion, OutOfMemory}
use Rattle.slate_types.specs.declared.filter_policy.FilterQuery.{FilterQuery}
use Rattle.slate_block.specs.declared.block.Block.{Block}
use Rattle.slate_block.specs.BlockReading.{counted_offsets, offset_field as block_offset_field, offsets_from, offsets_of_block}
use Rattle.slate_block.specs.BlockWalks.{Refuses, IsBlockDamage}
use Rattle.slate_block.specs.Damage.{◌>>=◌, number_field, block_field}
use Rattle.slate_block.specs.RowReading.{refusal}
use Rattle.slate_block.specs.Walks.{RowRead, block_reads}
use Rattle.slate_filter.specs.Policy.{Policy}
use Rattle.slate_block.proofs.Versions.{known_or_not}
use Rattle.slate_table.specs.Checksum.{crc32}
use Rattle.slate_table.specs.Filtered.{RefusesQuery}
use Rattle.slate_table.specs.IndexReading.{counted, entries_from, entry_field, index_of, is_next_key, is_next_offset, offset_field, separator_field}
use Rattle.slate_table.specs.Parts.{Encode}
use Rattle.slate_table.specs.Reading.{SectionRead, IsRefused, RefusesBlock, RefusesIndex, stored_in, stored_of}
use Rattle.slate_table.specs.SectionReading.{part_in, part_of_sum, stored_sum}
use Rattle.slate_db.specs.Lookup.{IsUnknown}
use Rattle.slate_db.specs.Shown.{IsUnreadable, RefusesRow}
use Rattle.slate_types.proofs.Lists.{Contains_at}

-- ---- fields

pub bound : {A B : Type 0} (r : Result A SlateDBError) (f : A → Result B SlateDBError) → IfErr r IsUnreadable → ((x : A) → IfErr (f x) IsUnreadable) → IfErr (r >>= f) IsUnreadable
bound (Ok x) f h g = g x
bound (Err e) f h g = h

pub passes : {A : Type 0} (t : Bool) (x : A) (e : SlateDBError) → IsUnreadable e → IfErr (cond t (Ok x) (Err e)) IsUnreadable
passes true x e h = tt
passes false x e h = h

fails : {A : Type 0} (t : Bool) (x : A) (e : SlateDBError) → IsUnreadable e → IfErr (cond t (Err e) (Ok x)) IsUnreadable
fails true x e h = h
fails false x e h = tt

fails_or : {A : Type 0} (t : Bool) (e : SlateDBError) (r : Result A SlateDBError) → IsUnreadable e → IfErr r IsUnreadable → IfErr (cond t (Err e) r) IsUnreadable
fails_or true e r h rest = h
fails_or false e r h rest = rest

pub number_damage : (w : Width) (bytes : List ℕ) (at : ℕ) → IfErr (number_field w bytes at) IsUnreadable
unfolding number_field
number_damage w bytes at = fails (nat_lt (length (drop at bytes)) (byte_len w)) (from_be_bytes w (take (byte_len w) (drop at bytes)), at + byte_len w) (CorruptTable at) tt

pub block_damage : (len : ℕ) (bytes : List ℕ) (at : ℕ) → IfErr (block_field len bytes at) IsUnreadable
unfolding block_field
block_damage len bytes at = fails (nat_lt (length (drop at bytes)) len) (at, at + len) (CorruptTable at) tt

-- ---- the index

offset_damage : (end : ℕ) (last : Option (ℕ × List ℕ)) (bytes : List ℕ) (at : ℕ) → IfErr (offset_field end last bytes at) IsUnreadable
unfolding offset_field
offset_damage end last bytes at = bound (number_field w64 bytes at) _ (number_damage w64 bytes at) (λ offset. passes (is_next_offset last offset.0 && nat_le offset.0 end) offset (CorruptTable at) tt)

separator_damage : (last : Option (ℕ × List ℕ)) (bytes : List ℕ) (at : ℕ) → IfErr (separator_field last bytes at) IsUnreadable
unfolding separator_field
separator_damage last bytes at =
    bound (number_field w16 bytes at) _ (number_damage w16 bytes at) (λ len. bound (block_field len.0 bytes len.1) _ (block_damage len.0 bytes len.1)
    (λ key. passes (is_next_key last (slice_range bytes key.0 key.1)) key (CorruptTable key.0) tt))

entry_damage : (end : ℕ) (last : Option (ℕ × List ℕ)) (bytes : List ℕ) (at : ℕ) → IfErr (entry_field end last bytes at) IsUnreadable
unfolding entry_field
entry_damage end last bytes at = bound (offset_field end last bytes at) _ (offset_damage end last bytes at) (λ offset. bound (separator_field last bytes offset.1) _ (separator_damage last bytes offset.1) (λ key. tt))

entries_damage : (count end : ℕ) (last : Option (ℕ × List ℕ)) (bytes : List ℕ) (at : ℕ) → IfErr (entries_from count end last bytes at) IsUnreadable
unfolding entries_from
entries_damage zero end last bytes at = tt
entries_damage (suc count) end last bytes at =
    bound (entry_field end last bytes at) _ (entry_damage end last bytes at) (λ first. bound (entries_from count end (Some first.0) bytes first.1) _ (entries_damage count end (Some first.0) bytes first.1) (λ rest. tt))

counted_damage : (bytes : List ℕ) → IfErr (counted bytes) IsUnreadable
unfolding counted
counted_damage bytes = bound (number_field w32 bytes 0) _ (number_damage w32 bytes 0) (λ count. fails (count.0 == 0) count (CorruptTable 0) tt)

index_damage : (end : ℕ) (bytes : List ℕ) → IfErr (index_of end bytes) IsUnreadable
unfolding index_of
index_damage end bytes =
    bound (counted bytes) _ (counted_damage bytes) (λ count. bound (entries_from count.0 end None bytes count.1) _ (entries_damage count.0 end None bytes count.1) (λ entries. passes (entries.1 == length bytes) entries.0 (CorruptTable entries.1) tt))

-- ---- sections

part_damage : (cover bytes : List ℕ) → IfErr (part_in cover bytes) IsUnreadable
unfolding part_in
part_damage cover bytes =
    fails_or (nat_lt (length bytes) 4) (CorruptTable 0) _ tt
    (passes (stored_sum bytes == crc32 (cover ++ part_of_sum bytes)) (part_of_sum bytes) (ChecksumMismatch (stored_sum bytes) (crc32 (cover ++ part_of_sum bytes))) tt)

stored_damage : (s : SectionRead) → IfErr (stored_in s) IsUnreadable
stored_damage s = by s.answer
  where
    by : (answer : Option (List ℕ)) → IfErr (stored_of s.cover answer) IsUnreadable
    by None = tt
    by (Some bytes) = part_damage s.cover bytes

refused_damage : {A : Type 0} (r : Result A SlateDBError) (e : SlateDBError) → IfErr r IsUnreadable → refusal r ≡ Some e → IsUnreadable e
refused_damage (Ok x) e h is = absurd cc
refused_damage (Err f) e h is = let same : f ≡ e = cc in subst IsUnreadable same h

section_damage : {A : Type 0} (decode : Encode) (read : List ℕ → Result A SlateDBError) (s : SectionRead) (e : SlateDBError) → ((part : List ℕ) → IfErr (read part) IsUnreadable) → IsRefused decode (λ part. refusal (read part)) s e → IsUnreadable e
section_damage decode read s e each (inl h) = refused_damage (stored_in s) e (stored_damage s) h
section_damage decode read s e each (inr (part, is, h)) = refused_damage (read part) e (each part) h

-- ---- blocks

offset_in_block : (low high : ℕ) (bytes : List ℕ) (at : ℕ) → IfErr (block_offset_field low high bytes at) IsUnreadable
unfolding block_offset_field
offset_in_block low high bytes at = bound (number_field w16 bytes at) _ (number_damage w16 bytes at) (λ offset. fails_or (nat_lt offset.0 low) (CorruptTable at) _ tt (passes (nat_lt offset.0 high) offset (CorruptTable at) tt))

offsets_damage : (count low high end : ℕ) (bytes : List ℕ) (at : ℕ) → IfErr (offsets_from count low high end bytes at) IsUnreadable
unfolding offsets_from
offsets_damage zero low high end bytes at = tt
offsets_damage (suc count) low high end bytes at =
    bound (block_offset_field low high bytes at) _ (offset_in_block low high bytes at) (λ first. bound (offsets_from count (first.0 + 1) end end bytes first.1) _ (offsets_damage count (first.0 + 1) end end bytes first.1) (λ rest. tt))

count_of_block : (bytes : List ℕ) → IfErr (counted_offsets bytes) IsUnreadable
unfolding counted_offsets
count_of_block bytes =
    fails_or (nat_lt (length bytes) 2) (CorruptTable 0) _ tt (bound (number_field w16 bytes (length bytes - 2)) _ (number_damage w16 bytes (length bytes - 2))
    (λ count. fails_or (count.0 == 0) (CorruptTable (length bytes - 2)) _ tt (fails (nat_lt (length bytes - 2) (2 * count.0)) (length bytes - 2 - 2 * count.0, count.0) (CorruptTable (length bytes - 2)) tt)))

offsets_of_damage : (bytes : List ℕ) → IfErr (offsets_of_block bytes) IsUnreadable
unfolding offsets_of_block
offsets_of_damage bytes =
    bound (counted_offsets bytes) _ (count_of_block bytes) (λ counted. bound (offsets_from counted.1 0 (min 1 counted.0) counted.0 bytes counted.0) _ (offsets_damage counted.1 0 (min 1 counted.0) counted.0 bytes counted.0) (λ offsets. tt))

pub index_unreadable : (decode : Encode) (end : ℕ) (s : SectionRead) (e : SlateDBError) → RefusesIndex decode end s e → IsUnreadable e
index_unreadable decode end s e h = section_damage decode (index_of end) s e (index_damage end) h

pub filters_unreadable : (decode : Encode) (policies : List Policy) (query : FilterQuery) (s : SectionRead) (e : SlateDBError) → RefusesQuery decode policies query s e → IsUnreadable e
filters_unreadable decode policies query s e (inl (inl h)) = refused_damage (stored_in s) e (stored_damage s) h
filters_unreadable decode policies query s e (inl (inr (part, is, none))) = subst IsUnreadable (sym none.0) tt
filters_unreadable decode policies query s e (inr (part, filters, is, are, refused, named)) = subst IsUnreadable (sym named) tt

pub block_unreadable : (decode : Encode) (s : SectionRead) (e : SlateDBError) → RefusesBlock decode s e → IsUnreadable e
block_unreadable decode s e h = section_damage decode offsets_of_block s e offsets_of_damage h

-- ---- rows of a block

pub in_block : (e : SlateDBError) → IsBlockDamage e → IsUnreadable e
in_block (CorruptTable place) h = tt
in_block (InvalidRowFlags b) h = tt
in_block _ h = absurd h

-- none of them is read
pub begin_cause : {A : Type 0} (version : ℕ) (block : Block) (r : Result A SlateDBError) (e : SlateDBError) → r ≡ Err e → (IsKnown version → (e ≡ OutOfMemory) ⊎ (block_reads version block.body block.offsets.items ≡ Err e)) →
    (IsKnown version → (e ≡ OutOfMemory) ⊎ IsBlockDamage e) → ((IsKnown version → ⊥) → r ≡ Err (InvalidVersion version)) → (e ≡ OutOfMemory) ⊎ (IsUnreadable e × RefusesRow version block e) ⊎ IsUnknown version e
begin_cause version block r e is cause damage unknown = by (known_or_not version)
  where
    damaged : (e ≡ OutOfMemory) ⊎ (block_reads version block.body block.offsets.items ≡ Err e) → (e ≡ OutOfMemory) ⊎ IsBlockDamage e → (e ≡ OutOfMemory) ⊎ (IsUnreadable e × RefusesRow version block e) ⊎ IsUnknown version e
    damaged (inl m) k = inl m
    damaged (inr h) (inl m) = inl m
    damaged (inr h) (inr d) = inr (inl (in_block e d, inl h))

    by : IsKnown version ⊎ (IsKnown version → ⊥) → (e ≡ OutOfMemory) ⊎ (IsUnreadable e × RefusesRow version block e) ⊎ IsUnknown version e
    by (inl k) = damaged (cause k) (damage k)
    by (inr none) =
        let k : r ≡ Err (InvalidVersion version) = unknown none in
        let same : e ≡ InvalidVersion version = cc in
        inr (inr (none, same))

-- one of them is refused
pub walk_cause : {U : Type 0} (version : ℕ) (block : Block) (reads : List RowRead) (e : SlateDBError) → block_reads version block.body block.offsets.items ≡ Ok reads → (e ≡ OutOfMemory) ⊎ Refuses reads e → (e ≡ OutOfMemory) ⊎ (IsUnreadable e × RefusesRow version block e) ⊎ U
walk_cause version block reads e is (inl m) = inl m
walk_cause version block reads e is (inr r) = inr (inl (in_block e r.0, inr (reads, is, Contains_at reads r.1.0 (Err e) r.1.1)))
