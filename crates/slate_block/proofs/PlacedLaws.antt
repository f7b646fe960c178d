-- The row between two places is the one that begins the bytes there.
use Rattle.std.proofs.Common.{◌≡◌, ℕ, ◌+◌, if◌then◌else◌, true, false, ◌<◌, ◌^◌, List, length, take, Result, Ok, Err, refl, sym, ap, subst, ◌∙◌, ◌⊎◌, inl, inr, Bool, cond, arith}
use Rattle.std.specs.Prelude.{IfOk, IfErr}
use Rattle.slate_types.specs.declared.error.SlateDBError.{SlateDBError}
use Rattle.slate_types.specs.declared.error.SlateDBError.TheVariants.{CorruptTable, OutOfMemory}
use Rattle.slate_types.specs.declared.types.RowEntry.{RowEntry}
use Rattle.slate_block.specs.declared.fields.RowFields.{RowFields}
use Rattle.slate_block.specs.declared.row.SstRowEntry.{SstRowEntry}
use Rattle.slate_block.specs.declared.row.SstRowEntryV2.{SstRowEntryV2}
use Rattle.slate_block.specs.declared.rows_part.Version.{Version}
use Rattle.slate_block.specs.declared.rows_part.Version.TheVariants.{V1, V2, V3}
use Rattle.slate_block.specs.Damage.{◌>>=◌, layout_v1, layout_v2, IsDamageIn}
use Rattle.slate_block.specs.RowReading.{entry_of_v1, entry_of_v2, row_v1_of, row_v2_of}
use Rattle.slate_block.specs.Walks.{between, entry_v2_in, is_restored, moved, moved_result, row_v1_in, row_v2_in, whole_v1, whole_v2}
use Rattle.slate_block.specs.BlockWalks.{IsBlockDamage}
use Rattle.slate_block.specs.WholeKeys.{IsRestored}
use Rattle.std.proofs.lemmas.Bool.{le-leb, lt-ltb}
use Rattle.std.proofs.lemmas.List.{length-append, length-take}
use Rattle.slate_block.proofs.WalkedBlocks.{restored, three_from}
use Rattle.slate_block.specs.PlacedRows.{as_read, fields_of, row_in, suffix_of, whole_of}

abbrev pub found_of : List ℕ → ℕ → List ℕ → ℕ × RowFields → Result (RowEntry × ℕ) SlateDBError
found_of other from bytes row = if is_restored row.0 other (suffix_of bytes row.1) then Ok (whole_of bytes other row.0 row.1, from + row.1.end) else Err (CorruptTable from)

unfoldable pub placed : Version → List ℕ → ℕ → List ℕ → Result (RowEntry × ℕ) SlateDBError
placed version other from bytes = moved_result from (fields_of version bytes) >>= found_of other from bytes

abbrev found_v1 : List ℕ → ℕ → SstRowEntry × ℕ → Result (RowEntry × ℕ) SlateDBError
found_v1 other from found = if is_restored found.0.key_prefix_len other found.0.key_suffix then Ok (whole_v1 other found.0, from + found.1) else Err (CorruptTable from)

abbrev found_v2 : List ℕ → ℕ → SstRowEntryV2 × ℕ → Result (RowEntry × ℕ) SlateDBError
found_v2 other from found = if is_restored found.0.shared_bytes other found.0.key_suffix then Ok (whole_v2 other found.0, from + found.1) else Err (CorruptTable from)

same_v1 : (other : List ℕ) (from : ℕ) (bytes : List ℕ) (read : Result (ℕ × RowFields) SlateDBError)
    → (moved_result from (read >>= λ row. Ok (entry_of_v1 bytes row.0 row.1, row.1.end)) >>= found_v1 other from)
    ≡ (moved_result from (read >>= λ row. Ok (row.0, as_read row.1)) >>= found_of other from bytes)
same_v1 other from bytes (Ok row) = refl
same_v1 other from bytes (Err e) = refl

same_v2 : (other : List ℕ) (from : ℕ) (bytes : List ℕ) (read : Result (ℕ × RowFields) SlateDBError)
    → (moved_result from (read >>= λ row. Ok (entry_of_v2 bytes row.0 row.1, row.1.end)) >>= found_v2 other from)
    ≡ (moved_result from read >>= found_of other from bytes)
same_v2 other from bytes (Ok row) = refl
same_v2 other from bytes (Err e) = refl

pub row_placed : (version : Version) (body other : List ℕ) (from upto : ℕ) (bytes : List ℕ) → between body from upto ≡ Ok bytes → row_in version body other from upto ≡ placed version other from bytes
unfolding row_v1_in row_v2_in entry_v2_in row_v1_of row_v2_of placed fields_of
row_placed V1 body other from upto bytes is =
    ap (λ (part : Result (List ℕ) SlateDBError). part >>= λ bytes. moved_result from (row_v1_of bytes) >>= found_v1 other from) is ∙ same_v1 other from bytes (layout_v1 bytes)
row_placed V2 body other from upto bytes is =
    ap (λ (part : Result (List ℕ) SlateDBError). (part >>= λ bytes. moved_result from (row_v2_of bytes)) >>= found_v2 other from) is ∙ same_v2 other from bytes (layout_v2 bytes)
row_placed V3 body other from upto bytes is =
    ap (λ (part : Result (List ℕ) SlateDBError). (part >>= λ bytes. moved_result from (row_v2_of bytes)) >>= found_v2 other from) is ∙ same_v2 other from bytes (layout_v2 bytes)

pub no_row_placed : (version : Version) (body other : List ℕ) (from upto : ℕ) (e : SlateDBError) → between body from upto ≡ Err e → row_in version body other from upto ≡ Err e
unfolding row_v1_in row_v2_in entry_v2_in
no_row_placed V1 body other from upto e is =
    ap (λ (part : Result (List ℕ) SlateDBError). part >>= λ bytes. moved_result from (row_v1_of bytes) >>= found_v1 other from) is
no_row_placed V2 body other from upto e is =
    ap (λ (part : Result (List ℕ) SlateDBError). (part >>= λ bytes. moved_result from (row_v2_of bytes)) >>= found_v2 other from) is
no_row_placed V3 body other from upto e is =
    ap (λ (part : Result (List ℕ) SlateDBError). (part >>= λ bytes. moved_result from (row_v2_of bytes)) >>= found_v2 other from) is

-- ---- the row of fields that were read

placed_of : (version : Version) (other : List ℕ) (from : ℕ) (bytes : List ℕ) (row : ℕ × RowFields) → fields_of version bytes ≡ Ok row → placed version other from bytes ≡ found_of other from bytes row
unfolding placed
placed_of version other from bytes row read = ap (λ (r : Result (ℕ × RowFields) SlateDBError). moved_result from r >>= found_of other from bytes) read

-- its key is restored, or it is refused
whole_found : (other : List ℕ) (from : ℕ) (bytes : List ℕ) (row : ℕ × RowFields) (b : Bool) (found : RowEntry × ℕ) → b ≡ true → found.0 ≡ whole_of bytes other row.0 row.1 → found.1 ≡ from + row.1.end →
    cond {A = Result (RowEntry × ℕ) SlateDBError} b (Ok (whole_of bytes other row.0 row.1, from + row.1.end)) (Err (CorruptTable from)) ≡ Ok found
whole_found other from bytes row b found h r s = ap (λ (c : Bool). cond {A = Result (RowEntry × ℕ) SlateDBError} c (Ok (whole_of bytes other row.0 row.1, from + row.1.end)) (Err (CorruptTable from))) h ∙ (λ i. Ok (sym r i, sym s i))

whole_refused : (other : List ℕ) (from : ℕ) (bytes : List ℕ) (row : ℕ × RowFields) (b : Bool) (e : SlateDBError) → b ≡ false → e ≡ CorruptTable from → cond {A = Result (RowEntry × ℕ) SlateDBError} b (Ok (whole_of bytes other row.0 row.1, from + row.1.end)) (Err (CorruptTable from)) ≡ Err e
whole_refused other from bytes row b e h r = ap (λ (c : Bool). cond {A = Result (RowEntry × ℕ) SlateDBError} c (Ok (whole_of bytes other row.0 row.1, from + row.1.end)) (Err (CorruptTable from))) h ∙ ap Err (sym r)

pub placed_found : (version : Version) (other : List ℕ) (from : ℕ) (bytes : List ℕ) (row : ℕ × RowFields) (r : Result (RowEntry × ℕ) SlateDBError) → fields_of version bytes ≡ Ok row →
    IfOk r (λ found. (is_restored row.0 other (suffix_of bytes row.1) ≡ true) × (found.0 ≡ whole_of bytes other row.0 row.1) × (found.1 ≡ from + row.1.end)) → IfOk r (λ found. placed version other from bytes ≡ Ok found)
placed_found version other from bytes row (Ok found) read h = placed_of version other from bytes row read ∙ whole_found other from bytes row (is_restored row.0 other (suffix_of bytes row.1)) found h.0 h.1 h.2
placed_found version other from bytes row (Err e) read h = tt

pub placed_cause : (version : Version) (other : List ℕ) (from : ℕ) (bytes : List ℕ) (row : ℕ × RowFields) (r : Result (RowEntry × ℕ) SlateDBError) (m : SlateDBError) → fields_of version bytes ≡ Ok row →
    IfErr r (λ e. (e ≡ m) ⊎ ((is_restored row.0 other (suffix_of bytes row.1) ≡ false) × (e ≡ CorruptTable from))) → IfErr r (λ e. (e ≡ m) ⊎ (placed version other from bytes ≡ Err e))
placed_cause version other from bytes row (Ok found) m read h = tt
placed_cause version other from bytes row (Err e) m read (inl h) = inl h
placed_cause version other from bytes row (Err e) m read (inr h) = inr (placed_of version other from bytes row read ∙ whole_refused other from bytes row (is_restored row.0 other (suffix_of bytes row.1)) e h.0 h.1)

pub placed_refused : (version : Version) (other : List ℕ) (from : ℕ) (bytes : List ℕ) (e : SlateDBError) → fields_of version bytes ≡ Err e → placed version other from bytes ≡ Err (moved from e)
unfolding placed
placed_refused version other from bytes e read = ap (λ (r : Result (ℕ × RowFields) SlateDBError). moved_result from r >>= found_of other from bytes) read

pub no_row_refused : (version : Version) (body other : List ℕ) (from upto : ℕ) (e m : SlateDBError) → (e ≡ m) ⊎ (between body from upto ≡ Err e) → (e ≡ m) ⊎ (row_in version body other from upto ≡ Err e)
no_row_refused version body other from upto e m (inl h) = inl h
no_row_refused version body other from upto e m (inr h) = inr (no_row_placed version body other from upto e h)

-- ---- where a refusal stands

pub place_within : (from : ℕ) (bytes : List ℕ) (e : SlateDBError) → from + length bytes < 2 ^ 64 → IsDamageIn (length bytes) e → (place : ℕ) → e ≡ CorruptTable place → from + place < 2 ^ 64
place_within from bytes e lt h place is = let inside = subst (IsDamageIn (length bytes)) is h in omega (arith, lt, inside)

whole_damaged : {P : Type 0} (from : ℕ) (e m : SlateDBError) → (e ≡ m) ⊎ (P × (e ≡ CorruptTable from)) → (e ≡ m) ⊎ IsBlockDamage e
whole_damaged from e m (inl h) = inl h
whole_damaged from e m (inr h) = inr (subst IsBlockDamage (sym h.1) tt)

pub whole_damage : {A : Type 0} (P : Type 0) (r : Result A SlateDBError) (from : ℕ) (m : SlateDBError) → IfErr r (λ e. (e ≡ m) ⊎ (P × (e ≡ CorruptTable from))) → IfErr r (λ e. (e ≡ m) ⊎ IsBlockDamage e)
whole_damage P (Ok x) from m h = tt
whole_damage P (Err e) from m h = whole_damaged from e m h

pub restored_within : (from n place : ℕ) (e : SlateDBError) → from + n < 2 ^ 64 → (e ≡ OutOfMemory) ⊎ (e ≡ CorruptTable 0) → e ≡ CorruptTable place → from + place < 2 ^ 64
restored_within from n place e lt (inl h) is = absurd cc
restored_within from n place e lt (inr h) is = let same : place ≡ 0 = cc in omega (arith, lt, same)

-- ---- keys that are restored, and others

pub restored_true : (n : ℕ) (other suffix : List ℕ) → IsRestored n other suffix → is_restored n other suffix ≡ true
restored_true n other suffix key =
    let front = length-take n other in
    let whole = length-append (take n other) suffix in
    three_from _ _ _ (le-leb _ _ key.0) (lt-ltb _ _ (omega (arith, front, whole, key.0, key.1.0))) (lt-ltb _ _ (omega (arith, front, whole, key.0, key.1.1)))

pub refused_key : (n from : ℕ) (other suffix : List ℕ) (e : SlateDBError) → (e ≡ OutOfMemory) ⊎ (e ≡ CorruptTable 0) → (IsRestored n other suffix → e ≡ OutOfMemory) →
    (moved from e ≡ OutOfMemory) ⊎ ((is_restored n other suffix ≡ false) × (moved from e ≡ CorruptTable from))
refused_key n from other suffix e (inl out) only = inl (ap (moved from) out)
refused_key n from other suffix e (inr here) only = by (is_restored n other suffix) refl
  where
    by : (b : Bool) → is_restored n other suffix ≡ b → (moved from e ≡ OutOfMemory) ⊎ ((is_restored n other suffix ≡ false) × (moved from e ≡ CorruptTable from))
    by true is = let key = restored n other suffix is in let out = only (key.0.0, key.1) in absurd cc
    by false is = let place : from + 0 ≡ from = omega arith in inr (is, ap (moved from) here ∙ ap CorruptTable place)
