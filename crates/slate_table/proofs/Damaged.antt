-- What is refused of a part that was read is damage.
use Rattle.std.proofs.Common.{◌≡◌, ◌<◌, [], ◌∷◌, ℕ, zero, suc, ◌+◌, ◌-◌, ◌*◌, inl, inr, Bool, true, false, cond, List, ◌++◌, length, drop, take, Option, Some, None, Result, Ok, Err, subst}
use Rattle.std.specs.Prelude.{IfErr, ◌&&◌, ◌==◌, nat_lt, nat_le, min, slice_range}
use Rattle.std.specs.Int.{Width, w16, w32, w64, byte_len, from_be_bytes}
use Rattle.slate_types.specs.declared.error.SlateDBError.{SlateDBError}
use Rattle.slate_types.specs.declared.error.SlateDBError.TheVariants.{CorruptTable, ChecksumMismatch}
use Rattle.slate_types.specs.Refusing.{IsDamage}
use Rattle.slate_block.specs.BlockReading.{counted_offsets, offset_field as block_offset_field, offsets_from, offsets_of_block}
use Rattle.slate_block.specs.Damage.{◌>>=◌, number_field, block_field}
use Rattle.slate_block.specs.RowReading.{refusal}
use Rattle.slate_table.specs.Checksum.{crc32}
use Rattle.slate_table.specs.IndexReading.{counted, entries_from, entry_field, index_of, is_next_key, is_next_offset, offset_field, separator_field}
use Rattle.slate_table.specs.Parts.{Encode}
use Rattle.slate_table.specs.Reading.{SectionRead, IsRefused, RefusesBlock, RefusesIndex, stored_of}
use Rattle.slate_table.specs.SectionReading.{part_in, part_of_sum, stored_sum}
use Rattle.slate_table.specs.StatsReading.{block_stats_field, block_stats_from, stats_in, three_numbers}

-- ---- fields

bound : {A B : Type 0} (r : Result A SlateDBError) (f : A → Result B SlateDBError) → IfErr r IsDamage → ((x : A) → IfErr (f x) IsDamage) → IfErr (r >>= f) IsDamage
bound (Ok x) f h g = g x
bound (Err e) f h g = h

passes : {A : Type 0} (t : Bool) (x : A) (e : SlateDBError) → IsDamage e → IfErr (cond t (Ok x) (Err e)) IsDamage
passes true x e h = tt
passes false x e h = h

fails : {A : Type 0} (t : Bool) (x : A) (e : SlateDBError) → IsDamage e → IfErr (cond t (Err e) (Ok x)) IsDamage
fails true x e h = h
fails false x e h = tt

fails_or : {A : Type 0} (t : Bool) (e : SlateDBError) (r : Result A SlateDBError) → IsDamage e → IfErr r IsDamage → IfErr (cond t (Err e) r) IsDamage
fails_or true e r h rest = h
fails_or false e r h rest = rest

number_damage : (w : Width) (bytes : List ℕ) (at : ℕ) → IfErr (number_field w bytes at) IsDamage
unfolding number_field
number_damage w bytes at = fails (nat_lt (length (drop at bytes)) (byte_len w)) (from_be_bytes w (take (byte_len w) (drop at bytes)), at + byte_len w) (CorruptTable at) tt

block_damage : (len : ℕ) (bytes : List ℕ) (at : ℕ) → IfErr (block_field len bytes at) IsDamage
unfolding block_field
block_damage len bytes at = fails (nat_lt (length (drop at bytes)) len) (at, at + len) (CorruptTable at) tt

-- ---- the index

offset_damage : (end : ℕ) (last : Option (ℕ × List ℕ)) (bytes : List ℕ) (at : ℕ) → IfErr (offset_field end last bytes at) IsDamage
unfolding offset_field
offset_damage end last bytes at = bound (number_field w64 bytes at) _ (number_damage w64 bytes at) (λ offset. passes (is_next_offset last offset.0 && nat_le offset.0 end) offset (CorruptTable at) tt)

separator_damage : (last : Option (ℕ × List ℕ)) (bytes : List ℕ) (at : ℕ) → IfErr (separator_field last bytes at) IsDamage
unfolding separator_field
separator_damage last bytes at =
    bound (number_field w16 bytes at) _ (number_damage w16 bytes at) (λ len. bound (block_field len.0 bytes len.1) _ (block_damage len.0 bytes len.1)
    (λ key. passes (is_next_key last (slice_range bytes key.0 key.1)) key (CorruptTable key.0) tt))

entry_damage : (end : ℕ) (last : Option (ℕ × List ℕ)) (bytes : List ℕ) (at : ℕ) → IfErr (entry_field end last bytes at) IsDamage
unfolding entry_field
entry_damage end last bytes at = bound (offset_field end last bytes at) _ (offset_damage end last bytes at) (λ offset. bound (separator_field last bytes offset.1) _ (separator_damage last bytes offset.1) (λ key. tt))

entries_damage : (count end : ℕ) (last : Option (ℕ × List ℕ)) (bytes : List ℕ) (at : ℕ) → IfErr (entries_from count end last bytes at) IsDamage
unfolding entries_from
entries_damage zero end last bytes at = tt
entries_damage (suc count) end last bytes at =
    bound (entry_field end last bytes at) _ (entry_damage end last bytes at) (λ first. bound (entries_from count end (Some first.0) bytes first.1) _ (entries_damage count end (Some first.0) bytes first.1) (λ rest. tt))

counted_damage : (bytes : List ℕ) → IfErr (counted bytes) IsDamage
unfolding counted
counted_damage bytes = bound (number_field w32 bytes 0) _ (number_damage w32 bytes 0) (λ count. fails (count.0 == 0) count (CorruptTable 0) tt)

pub index_damage : (end : ℕ) (bytes : List ℕ) → IfErr (index_of end bytes) IsDamage
unfolding index_of
index_damage end bytes =
    bound (counted bytes) _ (counted_damage bytes) (λ count. bound (entries_from count.0 end None bytes count.1) _ (entries_damage count.0 end None bytes count.1) (λ entries. passes (entries.1 == length bytes) entries.0 (CorruptTable entries.1) tt))

three_damage : (w : Width) (bytes : List ℕ) (at : ℕ) → IfErr (three_numbers w bytes at) IsDamage
unfolding three_numbers
three_damage w bytes at =
    bound (number_field w bytes at) _ (number_damage w bytes at) (λ first. bound (number_field w bytes first.1) _ (number_damage w bytes first.1)
    (λ second. bound (number_field w bytes second.1) _ (number_damage w bytes second.1) (λ third. tt)))

blocks_damage : (count : ℕ) (bytes : List ℕ) (at : ℕ) → IfErr (block_stats_from count bytes at) IsDamage
unfolding block_stats_from block_stats_field
blocks_damage zero bytes at = tt
blocks_damage (suc count) bytes at =
    bound (block_stats_field bytes at) _ (bound (three_numbers w16 bytes at) _ (three_damage w16 bytes at) (λ n. tt)) (λ first. bound (block_stats_from count bytes first.1) _ (blocks_damage count bytes first.1) (λ rest. tt))

pub stats_damage : (bytes : List ℕ) → IfErr (stats_in bytes) IsDamage
unfolding stats_in
stats_damage bytes =
    bound (three_numbers w64 bytes 0) _ (three_damage w64 bytes 0) (λ all. bound (number_field w64 bytes all.1) _ (number_damage w64 bytes all.1)
    (λ keys. bound (number_field w64 bytes keys.1) _ (number_damage w64 bytes keys.1) (λ values. bound (number_field w32 bytes values.1) _ (number_damage w32 bytes values.1)
    (λ count. bound (block_stats_from count.0 bytes count.1) _ (blocks_damage count.0 bytes count.1) (λ blocks. fails (nat_lt blocks.1 (length bytes)) _ (CorruptTable blocks.1) tt)))))

-- ---- sections

pub part_damage : (cover bytes : List ℕ) → IfErr (part_in cover bytes) IsDamage
unfolding part_in
part_damage cover bytes =
    let sum = crc32 (cover ++ part_of_sum bytes) in
    fails_or (nat_lt (length bytes) 4) (CorruptTable 0) _ tt (passes (stored_sum bytes == sum) (part_of_sum bytes) (ChecksumMismatch (stored_sum bytes) sum) tt)

stored_damage : (cover : List ℕ) (answer : Option (List ℕ)) → IfErr (stored_of cover answer) IsDamage
stored_damage cover None = tt
stored_damage cover (Some bytes) = part_damage cover bytes

pub refused_damage : {A : Type 0} (r : Result A SlateDBError) (e : SlateDBError) → IfErr r IsDamage → refusal r ≡ Some e → IsDamage e
refused_damage (Ok x) e h is = absurd cc
refused_damage (Err f) e h is = let same : f ≡ e = cc in subst IsDamage same h

pub section_damage : {A : Type 0} (decode : Encode) (read : List ℕ → Result A SlateDBError) (s : SectionRead) (e : SlateDBError) → ((part : List ℕ) → IfErr (read part) IsDamage) → IsRefused decode (λ part. refusal (read part)) s e → IsDamage e
section_damage decode read s e each (inl h) = refused_damage (stored_of s.cover s.answer) e (stored_damage s.cover s.answer) h
section_damage decode read s e each (inr (part, is, h)) = refused_damage (read part) e (each part) h

-- ---- blocks

offset_in_block : (low high : ℕ) (bytes : List ℕ) (at : ℕ) → IfErr (block_offset_field low high bytes at) IsDamage
unfolding block_offset_field
offset_in_block low high bytes at = bound (number_field w16 bytes at) _ (number_damage w16 bytes at) (λ offset. fails_or (nat_lt offset.0 low) (CorruptTable at) _ tt (passes (nat_lt offset.0 high) offset (CorruptTable at) tt))

offsets_damage : (count low high end : ℕ) (bytes : List ℕ) (at : ℕ) → IfErr (offsets_from count low high end bytes at) IsDamage
unfolding offsets_from
offsets_damage zero low high end bytes at = tt
offsets_damage (suc count) low high end bytes at =
    bound (block_offset_field low high bytes at) _ (offset_in_block low high bytes at) (λ first. bound (offsets_from count (first.0 + 1) end end bytes first.1) _ (offsets_damage count (first.0 + 1) end end bytes first.1) (λ rest. tt))

count_of_block : (bytes : List ℕ) → IfErr (counted_offsets bytes) IsDamage
unfolding counted_offsets
count_of_block bytes =
    fails_or (nat_lt (length bytes) 2) (CorruptTable 0) _ tt (bound (number_field w16 bytes (length bytes - 2)) _ (number_damage w16 bytes (length bytes - 2))
    (λ count. fails_or (count.0 == 0) (CorruptTable (length bytes - 2)) _ tt (fails (nat_lt (length bytes - 2) (2 * count.0)) (length bytes - 2 - 2 * count.0, count.0) (CorruptTable (length bytes - 2)) tt)))

pub offsets_of_damage : (bytes : List ℕ) → IfErr (offsets_of_block bytes) IsDamage
unfolding offsets_of_block
offsets_of_damage bytes =
    bound (counted_offsets bytes) _ (count_of_block bytes) (λ counted. bound (offsets_from counted.1 0 (min 1 counted.0) counted.0 bytes counted.0) _ (offsets_damage counted.1 0 (min 1 counted.0) counted.0 bytes counted.0) (λ offsets. tt))

-- ---- what calls refuse for

pub index_refusal : (decode : Encode) (end : ℕ) (s : SectionRead) (e : SlateDBError) → RefusesIndex decode end s e → IsDamage e
index_refusal decode end s e r = section_damage decode (index_of end) s e (index_damage end) r

pub block_refusal : (decode : Encode) (s : SectionRead) (e : SlateDBError) → RefusesBlock decode s e → IsDamage e
block_refusal decode s e r = section_damage decode offsets_of_block s e offsets_of_damage r
