-- Rows whose fields were read, and rows whose fields were refused.
use Rattle.std.proofs.Common.{◌≡◌, ℕ, List, drop, Ok, Err, sym, ap, subst}
use Rattle.std.specs.Prelude.{slice_range}
use Rattle.slate_types.specs.declared.error.SlateDBError.{SlateDBError}
use Rattle.slate_block.specs.declared.fields.KeyFields.{KeyFields}
use Rattle.slate_block.specs.declared.fields.RowFields.{RowFields}
use Rattle.slate_block.specs.declared.row.SstRowEntry.{SstRowEntry}
use Rattle.slate_block.specs.declared.row.SstRowEntryV2.{SstRowEntryV2}
use Rattle.slate_block.specs.Damage.{◌>>=◌, layout_v1, layout_v2, key_layout_v2}
use Rattle.slate_block.specs.RowReading.{entry_of_v1, entry_of_v2, row_v1_of, row_v2_of, key_v2_of, BeginsV1, BeginsV2, BeginsKeyV2}
use Rattle.slate_block.proofs.Groups.{IsBytes}
use Rattle.slate_block.proofs.ReadingLaws.{row_v2_begins, key_v2_begins}
use Rattle.slate_block.proofs.ReadingLawsV1.{row_v1_begins}

pub no_row_v1 : (bytes : List ℕ) (e : SlateDBError) → Err e ≡ layout_v1 bytes → row_v1_of bytes ≡ Err e
unfolding row_v1_of
no_row_v1 bytes e h = ap (λ r. r >>= λ row. Ok (entry_of_v1 bytes row.0 row.1, row.1.end)) (sym h)

pub no_row_v2 : (bytes : List ℕ) (e : SlateDBError) → Err e ≡ layout_v2 bytes → row_v2_of bytes ≡ Err e
unfolding row_v2_of
no_row_v2 bytes e h = ap (λ r. r >>= λ row. Ok (entry_of_v2 bytes row.0 row.1, row.1.end)) (sym h)

pub no_key_v2 : (bytes : List ℕ) (e : SlateDBError) → Err e ≡ key_layout_v2 bytes → key_v2_of bytes ≡ Err e
unfolding key_v2_of
no_key_v2 bytes e h = ap (λ r. r >>= λ key. Ok ((key.shared_bytes, slice_range bytes key.suffix_at key.suffix_end), key.suffix_end)) (sym h)

row_v1_read : (bytes : List ℕ) (x : ℕ × RowFields) → Ok x ≡ layout_v1 bytes → row_v1_of bytes ≡ Ok (entry_of_v1 bytes x.0 x.1, x.1.end)
unfolding row_v1_of
row_v1_read bytes x h = ap (λ r. r >>= λ row. Ok (entry_of_v1 bytes row.0 row.1, row.1.end)) (sym h)

row_v2_read : (bytes : List ℕ) (x : ℕ × RowFields) → Ok x ≡ layout_v2 bytes → row_v2_of bytes ≡ Ok (entry_of_v2 bytes x.0 x.1, x.1.end)
unfolding row_v2_of
row_v2_read bytes x h = ap (λ r. r >>= λ row. Ok (entry_of_v2 bytes row.0 row.1, row.1.end)) (sym h)

key_v2_read : (bytes : List ℕ) (key : KeyFields) → Ok key ≡ key_layout_v2 bytes → key_v2_of bytes ≡ Ok ((key.shared_bytes, slice_range bytes key.suffix_at key.suffix_end), key.suffix_end)
unfolding key_v2_of
key_v2_read bytes key h = ap (λ r. r >>= λ key. Ok ((key.shared_bytes, slice_range bytes key.suffix_at key.suffix_end), key.suffix_end)) (sym h)

pub begins_v1 : (bytes : List ℕ) (x : ℕ × RowFields) (row : SstRowEntry) → IsBytes bytes → Ok x ≡ layout_v1 bytes → entry_of_v1 bytes x.0 x.1 ≡ row → BeginsV1 row bytes (drop x.1.end bytes)
begins_v1 bytes x row fits h same = subst (λ (r : SstRowEntry). BeginsV1 r bytes (drop x.1.end bytes)) same (row_v1_begins bytes (entry_of_v1 bytes x.0 x.1) x.1.end fits (row_v1_read bytes x h))

pub begins_v2 : (bytes : List ℕ) (x : ℕ × RowFields) (row : SstRowEntryV2) → IsBytes bytes → Ok x ≡ layout_v2 bytes → entry_of_v2 bytes x.0 x.1 ≡ row → BeginsV2 row bytes (drop x.1.end bytes)
begins_v2 bytes x row fits h same = subst (λ (r : SstRowEntryV2). BeginsV2 r bytes (drop x.1.end bytes)) same (row_v2_begins bytes (entry_of_v2 bytes x.0 x.1) x.1.end fits (row_v2_read bytes x h))

pub begins_key_v2 : (bytes : List ℕ) (key : KeyFields) (suffix : List ℕ) → IsBytes bytes → Ok key ≡ key_layout_v2 bytes → slice_range bytes key.suffix_at key.suffix_end ≡ suffix → BeginsKeyV2 (key.shared_bytes, suffix) bytes (drop key.suffix_end bytes)
begins_key_v2 bytes key suffix fits h same = subst (λ (s : List ℕ). BeginsKeyV2 (key.shared_bytes, s) bytes (drop key.suffix_end bytes)) same (key_v2_begins bytes (key.shared_bytes, slice_range bytes key.suffix_at key.suffix_end) key.suffix_end fits (key_v2_read bytes key h))
