-- What a part is refused for is no fault of a part outside.
use Rattle.std.proofs.Common.{◌≡◌, ◌⊎◌, inl, inr, ℕ, ◌+◌, ◌-◌, Bool, true, false, cond, ltb, List, length, drop, take, refl, sym, ap, ◌∙◌, subst}
use Rattle.std.specs.Prelude.{IfErr, Option, Some, None, Result, Ok, Err, slice_get, nat_lt, ◌==◌, slice_range}
use Rattle.std.specs.Int.{Width, byte_len, from_be_bytes, w16, w64}
use Rattle.slate_types.specs.declared.error.SlateDBError.{SlateDBError}
use Rattle.slate_types.specs.declared.error.SlateDBError.TheVariants.{BlockTransformError, CorruptTable, EmptyBlockMeta, EmptySSTable, InvalidFilterBlock, InvalidVersion, OutOfMemory, StoreFault, UnsupportedCompression}
use Rattle.slate_types.specs.Outside.{Act, Objects}
use Rattle.slate_types.specs.Refusing.{IsDamage}
use Rattle.slate_block.specs.BlockSpelling.{is_known}
use Rattle.slate_block.specs.Damage.{◌>>=◌, block_field, number_field}
use Rattle.slate_block.specs.RowReading.{refusal}
use Rattle.slate_table.specs.Decoded.{Info}
use Rattle.slate_table.specs.InfoReading.{byte_at, byte_field, ending, info_from, info_in, key_field, key_text, place_field, section_place, version_field}
use Rattle.slate_table.specs.Opening.{RefusesInfo, RefusesOpen, last_in, long_in}
use Rattle.slate_table.specs.Parts.{Encode}
use Rattle.slate_table.specs.Reading.{RefusesFilters, RefusesIndex, RefusesStats, SectionRead, stored_in, stored_of}
use Rattle.slate_table.specs.SectionReading.{footer_in, part_in}
use Rattle.slate_table.proofs.Damaged.{index_refusal, part_damage, refused_damage, section_damage, stats_damage}
use Rattle.slate_table.specs.StatsReading.{stats_in}
use Rattle.slate_tables.specs.Checks.{IsOutsideError}

abbrev pub IsReal : SlateDBError → Type 0
IsReal e = IsOutsideError e → ⊥

pub damage_real : (e : SlateDBError) → IsDamage e → IsReal e
damage_real e d (inl is) = subst IsDamage is d
damage_real e d (inr (inl is)) = subst IsDamage is d
damage_real e d (inr (inr is)) = subst IsDamage is d

long_real : (n : ℕ) → IsReal (EmptySSTable n)
long_real n (inl is) = cc
long_real n (inr (inl is)) = cc
long_real n (inr (inr is)) = cc

empty_real : (n : ℕ) → IsReal (EmptyBlockMeta n)
empty_real n (inl is) = cc
empty_real n (inr (inl is)) = cc
empty_real n (inr (inr is)) = cc

codec_real : (n : ℕ) → IsReal (UnsupportedCompression n)
codec_real n (inl is) = cc
codec_real n (inr (inl is)) = cc
codec_real n (inr (inr is)) = cc

corrupt_real : (n : ℕ) → IsReal (CorruptTable n)
corrupt_real n = damage_real (CorruptTable n) tt

-- ---- fields, one after another

bound : {A B : Type 0} (r : Result A SlateDBError) (f : A → Result B SlateDBError) → IfErr r IsReal → ((x : A) → IfErr (f x) IsReal) → IfErr (r >>= f) IsReal
bound (Ok x) f h g = g x
bound (Err e) f h g = h

choose : {A : Type 0} (t : Bool) (r s : Result A SlateDBError) → IfErr r IsReal → IfErr s IsReal → IfErr (cond t r s) IsReal
choose true r s h k = h
choose false r s h k = k

number : (w : Width) (bytes : List ℕ) (at : ℕ) → IfErr (number_field w bytes at) IsReal
unfolding number_field
number w bytes at = choose (nat_lt (length (drop at bytes)) (byte_len w)) (Err (CorruptTable at)) (Ok (from_be_bytes w (take (byte_len w) (drop at bytes)), at + byte_len w)) (corrupt_real at) tt

block : (len : ℕ) (bytes : List ℕ) (at : ℕ) → IfErr (block_field len bytes at) IsReal
unfolding block_field
block len bytes at = choose (nat_lt (length (drop at bytes)) len) (Err (CorruptTable at)) (Ok (at, at + len)) (corrupt_real at) tt

byte : (bytes : List ℕ) (at : ℕ) → IfErr (byte_field bytes at) IsReal
unfolding byte_field
byte bytes at = by (slice_get bytes at)
  where
    by : (o : Option ℕ) → IfErr (byte_at at o) IsReal
    by None = corrupt_real at
    by (Some b) = tt

version_of : (version : ℕ) (bytes : List ℕ) → IfErr (version_field version bytes) IsReal
unfolding version_field
version_of version bytes = bound (number_field w16 bytes 0) _ (number w16 bytes 0) (λ stored. choose (stored.0 == version) (Ok stored) (Err (CorruptTable 0)) tt (corrupt_real 0))

text : (bytes : List ℕ) (at : ℕ) → IfErr (key_text bytes at) IsReal
unfolding key_text
text bytes at = bound (number_field w16 bytes at) _ (number w16 bytes at) (λ size. bound (block_field size.0 bytes size.1) _ (block size.0 bytes size.1) (λ key. tt))

key : (bytes : List ℕ) (at : ℕ) → IfErr (key_field bytes at) IsReal
unfolding key_field
key bytes at = bound (byte_field bytes at) _ (byte bytes at)
    (λ there. choose (there.0 == 0) (Ok (None, there.1)) _ tt
    (choose (there.0 == 1) _ (Err (CorruptTable at)) (bound (key_text bytes there.1) _ (text bytes there.1) (λ found. tt)) (corrupt_real at)))

place : (end : ℕ) (bytes : List ℕ) (at : ℕ) → IfErr (place_field end bytes at) IsReal
unfolding place_field
place end bytes at = bound (number_field w64 bytes at) _ (number w64 bytes at)
    (λ offset. choose (nat_lt end offset.0) (Err (CorruptTable at)) _ (corrupt_real at)
    (bound (number_field w64 bytes offset.1) _ (number w64 bytes offset.1)
    (λ size. choose (nat_lt (end - offset.0) size.0) (Err (CorruptTable offset.1)) (Ok ((offset.0, size.0), size.1)) (corrupt_real offset.1) tt)))

ends : (bytes : List ℕ) (at : ℕ) → IfErr (ending bytes at) IsReal
unfolding ending
ends bytes at = bound (byte_field bytes at) _ (byte bytes at)
    (λ codec. bound (byte_field bytes codec.1) _ (byte bytes codec.1)
    (λ format. choose (format.0 == 1) _ (Err (CorruptTable codec.1))
    (choose (nat_lt format.1 (length bytes)) (Err (CorruptTable format.1)) _ (corrupt_real format.1)
    (choose (codec.0 == 0) (Ok tt) (Err (UnsupportedCompression codec.0)) tt (codec_real codec.0))) (corrupt_real codec.1)))

from : (end : ℕ) (bytes : List ℕ) (at : ℕ) (first last : Option (List ℕ)) → IfErr (info_from end bytes at first last) IsReal
unfolding info_from
from end bytes at first last = bound (place_field end bytes at) _ (place end bytes at)
    (λ index. bound (place_field end bytes index.1) _ (place end bytes index.1)
    (λ filters. bound (place_field end bytes filters.1) _ (place end bytes filters.1)
    (λ stats. bound (ending bytes stats.1) _ (ends bytes stats.1) (λ ended. tt))))

info_real : (version end : ℕ) (bytes : List ℕ) → IfErr (info_in version end bytes) IsReal
unfolding info_in
info_real version end bytes = bound (version_field version bytes) _ (version_of version bytes)
    (λ stored. bound (key_field bytes stored.1) _ (key bytes stored.1)
    (λ first. bound (key_field bytes first.1) _ (key bytes first.1) (λ last. from end bytes last.1 first.0 last.0)))

footer_real : (size : ℕ) (bytes : List ℕ) → IfErr (footer_in size bytes) IsReal
unfolding footer_in
footer_real size bytes = bound (number_field w64 bytes 0) _ (number w64 bytes 0)
    (λ offset. bound (number_field w16 bytes offset.1) _ (number w16 bytes offset.1)
    (λ version. choose (is_known version.0) _ (Err (InvalidVersion version.0))
    (choose (nat_lt (size - 10) offset.0) (Err (CorruptTable 0)) (Ok (offset.0, version.0)) (corrupt_real 0) tt) (damage_real (InvalidVersion version.0) tt)))

-- ---- what calls refuse for

err_real : {A : Type 0} (r : Result A SlateDBError) (e : SlateDBError) → IfErr r IsReal → r ≡ Err e → IsReal e
err_real {A} r e h is = subst (λ (x : Result A SlateDBError). IfErr x IsReal) is h

refused_real : {A : Type 0} (r : Result A SlateDBError) (e : SlateDBError) → IfErr r IsReal → refusal r ≡ Some e → IsReal e
refused_real (Ok x) e h is = absurd cc
refused_real (Err f) e h is = let same : f ≡ e = cc in subst IsReal same h

stored_real : (s : SectionRead) (e : SlateDBError) → refusal (stored_in s) ≡ Some e → IsReal e
stored_real s e is = damage_real e (refused_damage (stored_of s.cover s.answer) e (by s.answer) is)
  where
    by : (answer : Option (List ℕ)) → IfErr (stored_of s.cover answer) IsDamage
    by None = tt
    by (Some bytes) = part_damage s.cover bytes

size_real : (size : Option ℕ) (e : SlateDBError) → long_in size ≡ Err e → IsReal e
size_real None e is = let same : CorruptTable 0 ≡ e = cc in subst IsReal same (corrupt_real 0)
size_real (Some size) e is = err_real (long_in (Some size)) e (choose (nat_lt 10 size) (Ok size) (Err (EmptySSTable size)) tt (long_real size)) is

last_real : (size : ℕ) (answer : Option (List ℕ)) (e : SlateDBError) → last_in size answer ≡ Err e → IsReal e
last_real size None e is = let same : CorruptTable 0 ≡ e = cc in subst IsReal same (corrupt_real 0)
last_real size (Some bytes) e is = err_real (footer_in size bytes) e (footer_real size bytes) is

info_refused : (version id end : ℕ) (answer : Option (List ℕ)) (e : SlateDBError) → RefusesInfo version id end answer e → IsReal e
info_refused version id end answer e (inl is) = stored_real _ e is
info_refused version id end answer e (inr (part, is, refused)) = refused_real (info_in version end part) e (info_real version end part) refused

pub open_real : (objects : Option Objects) (before after : Option (List Act)) (path : List ℕ) (id : ℕ) (e : SlateDBError) → RefusesOpen objects before after path id e → IsReal e
unfolding RefusesOpen
open_real objects before after path id e (inl r) = size_real r.0 e r.2
open_real objects before after path id e (inr (inl r)) = last_real r.0 r.4.0 e r.4.2
open_real objects before after path id e (inr (inr (inl r))) = subst IsReal (sym r.8) (empty_real _)
open_real objects before after path id e (inr (inr (inr r))) = info_refused r.2 id r.1 r.9.0 e r.9.2

pub stats_real : (decode : Encode) (s : SectionRead) (e : SlateDBError) → RefusesStats decode s e → IsReal e
unfolding RefusesStats
stats_real decode s e r = damage_real e (section_damage decode stats_in s e stats_damage r)

pub index_real : (decode : Encode) (end : ℕ) (s : SectionRead) (e : SlateDBError) → RefusesIndex decode end s e → IsReal e
index_real decode end s e r = damage_real e (index_refusal decode end s e r)

pub filters_real : (decode : Encode) (s : SectionRead) (e : SlateDBError) → RefusesFilters decode s e → IsReal e
filters_real decode s e (inl is) = stored_real s e is
filters_real decode s e (inr (part, is, none)) = subst IsReal (sym none.0) (damage_real (InvalidFilterBlock (length part)) tt)
