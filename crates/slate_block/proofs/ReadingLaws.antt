-- What is read is spelled so, and what is spelled so is read.
use Rattle.std.proofs.Common.{◌≡◌, ℕ, ◌+◌, ◌^◌, ◌<◌, Bool, true, false, cond, ◌&&◌, ltb, List, [], ◌∷◌, ◌++◌, length, drop, Option, Some, None, is_some, Ok, Err, ℤ, refl, sym, ap, subst, ◌∙◌, ◌⊎◌, inl, inr, append_assoc, arith}
use Rattle.std.specs.Prelude.{slice_range}
use Rattle.std.specs.Int.{w64}
use Rattle.std.proofs.lemmas.Bool.{ltb-false}
use Rattle.std.proofs.lemmas.List.{length-append, nil_from_length}
use Rattle.slate_types.specs.declared.error.SlateDBError.{SlateDBError}
use Rattle.slate_types.specs.declared.error.SlateDBError.TheVariants.{CorruptTable}
use Rattle.slate_types.specs.declared.types.ValueDeletable.{ValueDeletable}
use Rattle.slate_types.specs.declared.types.ValueDeletable.TheVariants.{Value, Merge, Tombstone}
use Rattle.slate_types.specs.Rows.{bytes_of}
use Rattle.slate_block.specs.declared.flags.RowFlags.{RowFlags}
use Rattle.slate_block.specs.declared.fields.KeyFields.{KeyFields}
use Rattle.slate_block.specs.declared.fields.RowFields.{RowFields}
use Rattle.slate_block.specs.declared.row.SstRowEntryV2.{SstRowEntryV2}
use Rattle.slate_block.specs.Varint.{IsVarint, varint}
use Rattle.slate_block.specs.RowSpelling.{v2_bytes, be64, are_flags, flags, stamp_bytes, FitsStamp}
use Rattle.slate_block.specs.Damage.{◌>>=◌, varint_field, number_field, block_field, row_flags, has, flags_field, stamp_field, head_layout, stamps_layout, key_layout_v2, length_agrees, layout_v2}
use Rattle.slate_block.specs.RowReading.{value_of, entry_of_v2, row_v2_of, key_v2_of, BeginsV2, BeginsKeyV2}
use Rattle.slate_block.proofs.Groups.{IsBytes}
use Rattle.slate_block.proofs.VarintLaws.{varint_spells}
use Rattle.slate_block.proofs.FlagLaws.{flags_sum, named}
use Rattle.slate_block.proofs.FieldLaws.{bind_ok, guard_ok, ok_is, Stands, behind, wide64, varint_takes, varint_again, number_takes, number_again, block_takes, block_again, flags_takes, flags_again, stamp_takes, stamp_again}

-- ---- one behind the other

pub then : (bytes : List ℕ) (a : ℕ) (x : List ℕ) (b : ℕ) (y : List ℕ) (c : ℕ) → Stands bytes a x b → Stands bytes b y c → Stands bytes a (x ++ y) c
then bytes a x b y c p q = record {
  parts = p.parts ∙ ap (λ (l : List ℕ). x ++ l) q.parts ∙ sym (append_assoc x y (drop c bytes));
  place = omega (arith, p.place, q.place, length-append x y);
}

-- ---- the sequence, the flags and the stamps

pub record HeadTakes (bytes : List ℕ) (at : ℕ) (seq : ℕ) (f : RowFlags) (next : ℕ) : Type 0 where
  pub here : Stands bytes at (be64 seq ++ (f.0 ∷ [])) next
  pub fits : seq < 2 ^ 64
  pub known : are_flags f.0 ≡ true

pub head_takes : (bytes : List ℕ) (at : ℕ) (x : (ℕ × RowFlags) × ℕ) → IsBytes bytes → head_layout bytes at ≡ Ok x → HeadTakes bytes at x.0.0 x.0.1 x.1
unfolding head_layout
head_takes bytes at x fits e =
    let a = bind_ok (number_field w64 bytes at) (λ seq. flags_field bytes seq.1 >>= λ flags. Ok ((seq.0, flags.0), flags.1)) x e in
    let b = bind_ok (flags_field bytes a.0.1) (λ flags. Ok ((a.0.0, flags.0), flags.1)) x a.2 in
    let t0 = number_takes w64 (2 ^ 64) wide64 bytes at a.0.0 a.0.1 fits a.1 in
    let t1 = flags_takes bytes a.0.1 b.0.0 b.0.1 b.1 in
    let made : (ℕ × RowFlags) × ℕ = ((a.0.0, b.0.0), b.0.1) in
    subst (λ (y : (ℕ × RowFlags) × ℕ). HeadTakes bytes at y.0.0 y.0.1 y.1) {x = made} (ok_is made x b.2)
    (record { here = then bytes at (be64 a.0.0) a.0.1 (b.0.0.0 ∷ []) b.0.1 t0.0 t1.0; fits = t0.1; known = t1.1 })

pub record StampsTake (flags : RowFlags) (bytes : List ℕ) (at : ℕ) (expire create : Option ℤ) (next : ℕ) : Type 0 where
  pub here : Stands bytes at (stamp_bytes expire ++ stamp_bytes create) next
  pub fits_expire : FitsStamp expire
  pub fits_create : FitsStamp create
  pub has_expire : is_some expire ≡ has 2 flags
  pub has_create : is_some create ≡ has 4 flags

pub stamps_take : (flags : RowFlags) (bytes : List ℕ) (at : ℕ) (x : (Option ℤ × Option ℤ) × ℕ) → IsBytes bytes → stamps_layout flags bytes at ≡ Ok x → StampsTake flags bytes at x.0.0 x.0.1 x.1
unfolding stamps_layout
stamps_take flags bytes at x fits e =
    let a = bind_ok (stamp_field (has 2 flags) bytes at) (λ expire. stamp_field (has 4 flags) bytes expire.1 >>= λ create. Ok ((expire.0, create.0), create.1)) x e in
    let b = bind_ok (stamp_field (has 4 flags) bytes a.0.1) (λ create. Ok ((a.0.0, create.0), create.1)) x a.2 in
    let t0 = stamp_takes (has 2 flags) bytes at a.0.0 a.0.1 fits a.1 in
    let t1 = stamp_takes (has 4 flags) bytes a.0.1 b.0.0 b.0.1 fits b.1 in
    let made : (Option ℤ × Option ℤ) × ℕ = ((a.0.0, b.0.0), b.0.1) in
    subst (λ (y : (Option ℤ × Option ℤ) × ℕ). StampsTake flags bytes at y.0.0 y.0.1 y.1) {x = made} (ok_is made x b.2)
    (record { here = then bytes at (stamp_bytes a.0.0) a.0.1 (stamp_bytes b.0.0) b.0.1 t0.0 t1.0; fits_expire = t0.1; fits_create = t1.1; has_expire = t0.2; has_create = t1.2 })

-- ---- version 2

record KeyTakes (bytes : List ℕ) (key : KeyFields) : Type 0 where
  pub here : Stands bytes 0 (varint key.shared_bytes ++ (varint (length (slice_range bytes key.suffix_at key.suffix_end)) ++ (varint key.value_len ++ slice_range bytes key.suffix_at key.suffix_end))) key.suffix_end
  pub shared : key.shared_bytes < 2 ^ 32
  pub suffix : length (slice_range bytes key.suffix_at key.suffix_end) < 2 ^ 32
  pub value : key.value_len < 2 ^ 32

key_stands : (bytes : List ℕ) (shared p len q value r start stop : ℕ) → IsBytes bytes → varint_field bytes 0 ≡ Ok (shared, p) → varint_field bytes p ≡ Ok (len, q) → varint_field bytes q ≡ Ok (value, r) → block_field len bytes r ≡ Ok (start, stop) →
    KeyTakes bytes (record { shared_bytes = shared; value_len_at = q; value_len = value; suffix_at = start; suffix_end = stop })
key_stands bytes shared p len q value r start stop fits a b c d =
    let text = slice_range bytes start stop in
    let t0 = varint_takes bytes 0 shared p fits a in
    let t1 = varint_takes bytes p len q fits b in
    let t2 = varint_takes bytes q value r fits c in
    let t3 = block_takes bytes len r start stop d in
    let e23 = then bytes q (varint value) r text stop t2.0 t3.0 in
    let e13 = then bytes p (varint len) q (varint value ++ text) stop t1.0 e23 in
    let e03 = then bytes 0 (varint shared) p (varint len ++ (varint value ++ text)) stop t0.0 e13 in
    let sized = subst (λ (k : ℕ). Stands bytes 0 (varint shared ++ (varint k ++ (varint value ++ text))) stop) (sym t3.1) e03 in
    record { here = sized; shared = t0.1; suffix = omega (arith, t1.1, t3.1); value = t2.1 }

key_takes : (bytes : List ℕ) (key : KeyFields) → IsBytes bytes → key_layout_v2 bytes ≡ Ok key → KeyTakes bytes key
unfolding key_layout_v2
key_takes bytes key fits e =
    let a = bind_ok (varint_field bytes 0) (λ shared. varint_field bytes shared.1 >>= λ suffix_len. varint_field bytes suffix_len.1 >>= λ value_len. block_field suffix_len.0 bytes value_len.1 >>= λ suffix. Ok (record { shared_bytes = shared.0; value_len_at = suffix_len.1; value_len = value_len.0; suffix_at = suffix.0; suffix_end = suffix.1 })) key e in
    let b = bind_ok (varint_field bytes a.0.1) (λ suffix_len. varint_field bytes suffix_len.1 >>= λ value_len. block_field suffix_len.0 bytes value_len.1 >>= λ suffix. Ok (record { shared_bytes = a.0.0; value_len_at = suffix_len.1; value_len = value_len.0; suffix_at = suffix.0; suffix_end = suffix.1 })) key a.2 in
    let c = bind_ok (varint_field bytes b.0.1) (λ value_len. block_field b.0.0 bytes value_len.1 >>= λ suffix. Ok (record { shared_bytes = a.0.0; value_len_at = b.0.1; value_len = value_len.0; suffix_at = suffix.0; suffix_end = suffix.1 })) key b.2 in
    let d = bind_ok (block_field b.0.0 bytes c.0.1) (λ suffix. Ok (record { shared_bytes = a.0.0; value_len_at = b.0.1; value_len = c.0.0; suffix_at = suffix.0; suffix_end = suffix.1 })) key c.2 in
    let made : KeyFields = record { shared_bytes = a.0.0; value_len_at = b.0.1; value_len = c.0.0; suffix_at = d.0.0; suffix_end = d.0.1 } in
    subst (λ (y : KeyFields). KeyTakes bytes y) {x = made} (ok_is made key d.2) (key_stands bytes a.0.0 a.0.1 b.0.0 b.0.1 c.0.0 c.0.1 d.0.0 d.0.1 fits a.1 b.1 c.1 d.1)

agreed : (f : RowFlags) (n : ℕ) (text : List ℕ) → (has 1 f && ltb 0 n) ≡ false → length text ≡ n → bytes_of (value_of f text) ≡ text
agreed f n text h size = by (has 1 f) (has 8 f) h
  where
    by : (s t : Bool) → (s && ltb 0 n) ≡ false → bytes_of (cond s Tombstone (cond t (Merge text) (Value text))) ≡ text
    by true t g = sym (nil_from_length text (omega (arith, ltb-false 0 n g, size)))
    by false true g = refl
    by false false g = refl

in_order : (a b c d e h g s t : List ℕ) → (a ++ (b ++ (c ++ d))) ++ (e ++ ((h ++ g) ++ (s ++ t))) ≡ ((((a ++ b) ++ c) ++ d) ++ e) ++ (((h ++ g) ++ s) ++ t)
in_order a b c d e h g s t = simp append_assoc

regrouped : (a b c x d e y h g z s t : List ℕ) → c ≡ x → e ≡ y → g ≡ z → (a ++ (b ++ (c ++ d))) ++ (e ++ ((h ++ g) ++ (s ++ t))) ≡ ((((a ++ b) ++ x) ++ d) ++ y) ++ (((h ++ z) ++ s) ++ t)
regrouped a b c x d e y h g z s t p q r = in_order a b c d e h g s t ∙ (λ i. ((((a ++ b) ++ p i) ++ d) ++ q i) ++ (((h ++ r i) ++ s) ++ t))

abbrev pub IsTakenV2 : List ℕ → ℕ → RowFields → Type 0
IsTakenV2 bytes shared fields = BeginsV2 (entry_of_v2 bytes shared fields) bytes (drop fields.end bytes) × (fields.end ≡ length (v2_bytes (entry_of_v2 bytes shared fields)))

four_parts : (a b c d : List ℕ) → a ++ (b ++ (c ++ d)) ≡ ((a ++ b) ++ c) ++ d
four_parts a b c d = simp append_assoc

five_parts : (a b c d x : List ℕ) → (((a ++ b) ++ c) ++ d) ++ x ≡ a ++ (b ++ (c ++ (d ++ x)))
five_parts a b c d x = simp append_assoc

taken_v2 : KeyFields → ℕ → ℕ → ℕ → RowFlags → Option ℤ → Option ℤ → ℕ → RowFields
taken_v2 key start stop seq f expire create end = record { suffix_at = key.suffix_at; suffix_end = key.suffix_end; value_at = start; value_end = stop; seq = seq; flags = f; expire_ts = expire; create_ts = create; end = end }

from_zero : (n : ℕ) → 0 + n ≡ n
from_zero n = omega arith

row_v2_takes : (bytes : List ℕ) (key : KeyFields) (start stop seq : ℕ) (f : RowFlags) (at : ℕ) (expire create : Option ℤ) (end : ℕ) → KeyTakes bytes key →
    Stands bytes key.suffix_end (slice_range bytes start stop) stop → length (slice_range bytes start stop) ≡ key.value_len →
    HeadTakes bytes stop seq f at → (has 1 f && ltb 0 key.value_len) ≡ false → StampsTake f bytes at expire create end → IsTakenV2 bytes key.shared_bytes (taken_v2 key start stop seq f expire create end)
unfolding taken_v2
row_v2_takes bytes key start stop seq f at expire create end k here size head agree stamps =
    let text = slice_range bytes start stop in
    let suffix = slice_range bytes key.suffix_at key.suffix_end in
    let value = value_of f text in
    let a = varint key.shared_bytes in
    let b = varint (length suffix) in
    let same : text ≡ bytes_of value = sym (agreed f key.value_len text agree size) in
    let long : key.value_len ≡ length (bytes_of value) = sym size ∙ ap length same in
    let flag : (f.0 ∷ []) ≡ (flags value expire create ∷ []) = ap (λ (x : ℕ). x ∷ []) (sym (flags_sum f text expire create head.known stamps.has_expire stamps.has_create)) in
    let head_text = be64 seq ++ (f.0 ∷ []) in
    let stamp_text = stamp_bytes expire ++ stamp_bytes create in
    let e3 = then bytes stop head_text at stamp_text end head.here stamps.here in
    let e2 = then bytes key.suffix_end text stop (head_text ++ stamp_text) end here e3 in
    let e1 = then bytes 0 (a ++ (b ++ (varint key.value_len ++ suffix))) key.suffix_end (text ++ (head_text ++ stamp_text)) end k.here e2 in
    let order = regrouped a b (varint key.value_len) (varint (length (bytes_of value))) suffix text (bytes_of value) (be64 seq) (f.0 ∷ []) (flags value expire create ∷ []) (stamp_bytes expire) (stamp_bytes create) (ap varint long) same flag in
    (((k.shared, k.suffix, omega (arith, k.value, long), head.fits, stamps.fits_expire, stamps.fits_create), e1.parts ∙ ap (λ (l : List ℕ). l ++ drop end bytes) order), e1.place ∙ from_zero _ ∙ ap (λ (l : List ℕ). length l) order)

fields_stand : (bytes : List ℕ) (key : KeyFields) (start stop seq : ℕ) (read f : RowFlags) (at : ℕ) (expire create : Option ℤ) (end : ℕ) → KeyTakes bytes key → block_field key.value_len bytes key.suffix_end ≡ Ok (start, stop) →
    HeadTakes bytes stop seq read at → length_agrees read key ≡ Ok f → StampsTake f bytes at expire create end → IsTakenV2 bytes key.shared_bytes (taken_v2 key start stop seq f expire create end)
unfolding length_agrees
fields_stand bytes key start stop seq read f at expire create end k block head agree stamps =
    let g = guard_ok (has 1 read && ltb 0 key.value_len) (CorruptTable key.value_len_at) read f agree in
    let here = block_takes bytes key.value_len key.suffix_end start stop block in
    let known = subst (λ (y : RowFlags). HeadTakes bytes stop seq y at) g.1 head in
    row_v2_takes bytes key start stop seq f at expire create end k here.0 here.1 known (subst (λ (y : RowFlags). (has 1 y && ltb 0 key.value_len) ≡ false) g.1 g.0) stamps

layout_v2_takes : (bytes : List ℕ) (x : ℕ × RowFields) → IsBytes bytes → layout_v2 bytes ≡ Ok x → IsTakenV2 bytes x.0 x.1
unfolding layout_v2 taken_v2
layout_v2_takes bytes x fits e =
    let a = bind_ok (key_layout_v2 bytes) (λ key. block_field key.value_len bytes key.suffix_end >>= λ value. head_layout bytes value.1 >>= λ head. length_agrees head.0.1 key >>= λ flags. stamps_layout flags bytes head.1 >>= λ stamps. Ok (key.shared_bytes, taken_v2 key value.0 value.1 head.0.0 flags stamps.0.0 stamps.0.1 stamps.1)) x e in
    let key = a.0 in
    let b = bind_ok (block_field key.value_len bytes key.suffix_end) (λ value. head_layout bytes value.1 >>= λ head. length_agrees head.0.1 key >>= λ flags. stamps_layout flags bytes head.1 >>= λ stamps. Ok (key.shared_bytes, taken_v2 key value.0 value.1 head.0.0 flags stamps.0.0 stamps.0.1 stamps.1)) x a.2 in
    let c = bind_ok (head_layout bytes b.0.1) (λ head. length_agrees head.0.1 key >>= λ flags. stamps_layout flags bytes head.1 >>= λ stamps. Ok (key.shared_bytes, taken_v2 key b.0.0 b.0.1 head.0.0 flags stamps.0.0 stamps.0.1 stamps.1)) x b.2 in
    let d = bind_ok (length_agrees c.0.0.1 key) (λ flags. stamps_layout flags bytes c.0.1 >>= λ stamps. Ok (key.shared_bytes, taken_v2 key b.0.0 b.0.1 c.0.0.0 flags stamps.0.0 stamps.0.1 stamps.1)) x c.2 in
    let f = bind_ok (stamps_layout d.0 bytes c.0.1) (λ stamps. Ok (key.shared_bytes, taken_v2 key b.0.0 b.0.1 c.0.0.0 d.0 stamps.0.0 stamps.0.1 stamps.1)) x d.2 in
    let made : ℕ × RowFields = (key.shared_bytes, taken_v2 key b.0.0 b.0.1 c.0.0.0 d.0 f.0.0.0 f.0.0.1 f.0.1) in
    subst (λ (y : ℕ × RowFields). IsTakenV2 bytes y.0 y.1) {x = made} (ok_is made x f.2)
    (fields_stand bytes key b.0.0 b.0.1 c.0.0.0 c.0.0.1 d.0 c.0.1 f.0.0.0 f.0.0.1 f.0.1 (key_takes bytes key fits a.1) b.1 (head_takes bytes b.0.1 c.0 fits c.1) d.1 (stamps_take d.0 bytes c.0.1 f.0 fits f.1))

pub row_v2_begins : (bytes : List ℕ) (row : SstRowEntryV2) (end : ℕ) → IsBytes bytes → row_v2_of bytes ≡ Ok (row, end) → BeginsV2 row bytes (drop end bytes)
unfolding row_v2_of
row_v2_begins bytes row end fits e =
    let a = bind_ok (layout_v2 bytes) (λ x. Ok (entry_of_v2 bytes x.0 x.1, x.1.end)) (row, end) e in
    let made : SstRowEntryV2 × ℕ = (entry_of_v2 bytes a.0.0 a.0.1, a.0.1.end) in
    subst (λ (y : SstRowEntryV2 × ℕ). BeginsV2 y.0 bytes (drop y.1 bytes)) {x = made} (ok_is made (row, end) a.2) (layout_v2_takes bytes a.0 fits a.1).0

pub row_v2_end : (bytes : List ℕ) (row : SstRowEntryV2) (end : ℕ) → IsBytes bytes → row_v2_of bytes ≡ Ok (row, end) → end ≡ length (v2_bytes row)
unfolding row_v2_of
row_v2_end bytes row end fits e =
    let a = bind_ok (layout_v2 bytes) (λ x. Ok (entry_of_v2 bytes x.0 x.1, x.1.end)) (row, end) e in
    let made : SstRowEntryV2 × ℕ = (entry_of_v2 bytes a.0.0 a.0.1, a.0.1.end) in
    subst (λ (y : SstRowEntryV2 × ℕ). y.1 ≡ length (v2_bytes y.0)) {x = made} (ok_is made (row, end) a.2) (layout_v2_takes bytes a.0 fits a.1).1

pub key_v2_begins : (bytes : List ℕ) (x : ℕ × List ℕ) (end : ℕ) → IsBytes bytes → key_v2_of bytes ≡ Ok (x, end) → BeginsKeyV2 x bytes (drop end bytes)
unfolding key_v2_of
key_v2_begins bytes x end fits e =
    let a = bind_ok (key_layout_v2 bytes) (λ key. Ok ((key.shared_bytes, slice_range bytes key.suffix_at key.suffix_end), key.suffix_end)) (x, end) e in
    let key = a.0 in
    let suffix = slice_range bytes key.suffix_at key.suffix_end in
    let k = key_takes bytes key fits a.1 in
    let made : (ℕ × List ℕ) × ℕ = ((key.shared_bytes, suffix), key.suffix_end) in
    let whole : bytes ≡ (((varint key.shared_bytes ++ varint (length suffix)) ++ varint key.value_len) ++ suffix) ++ drop key.suffix_end bytes =
    k.here.parts ∙ ap (λ (l : List ℕ). l ++ drop key.suffix_end bytes) (four_parts (varint key.shared_bytes) (varint (length suffix)) (varint key.value_len) suffix) in
    subst (λ (y : (ℕ × List ℕ) × ℕ). BeginsKeyV2 y.0 bytes (drop y.1 bytes)) {x = made} (ok_is made (x, end) a.2) (key.value_len, k.shared, k.suffix, k.value, whole)

-- ---- what is spelled is read

key_again : (bytes a b c d rest : List ℕ) (n m : ℕ) → IsVarint a n → IsVarint b (length d) → IsVarint c m → bytes ≡ a ++ (b ++ (c ++ (d ++ rest))) →
    (key : KeyFields) × (key_layout_v2 bytes ≡ Ok key) × (key.value_len ≡ m) × (drop key.suffix_end bytes ≡ rest)
unfolding key_layout_v2
key_again bytes a b c d rest n m sa sb sc h =
    let p1 = 0 + length a in
    let p2 = p1 + length b in
    let p3 = p2 + length c in
    let h1 = behind bytes a (b ++ (c ++ (d ++ rest))) 0 h in
    let h2 = behind bytes b (c ++ (d ++ rest)) p1 h1 in
    let h3 = behind bytes c (d ++ rest) p2 h2 in
    let h4 = behind bytes d rest p3 h3 in
    let r0 = varint_again bytes a (b ++ (c ++ (d ++ rest))) 0 n sa h in
    let r1 = varint_again bytes b (c ++ (d ++ rest)) p1 (length d) sb h1 in
    let r2 = varint_again bytes c (d ++ rest) p2 m sc h2 in
    let r3 = block_again bytes d rest p3 (length d) refl h3 in
    (record { shared_bytes = n; value_len_at = p2; value_len = m; suffix_at = p3; suffix_end = p3 + length d }, rw (r0, r1, r2, r3) refl, refl, h4)

pub head_again : (bytes rest : List ℕ) (at seq b : ℕ) → seq < 2 ^ 64 → are_flags b ≡ true → drop at bytes ≡ be64 seq ++ (b ∷ rest) → (head_layout bytes at ≡ Ok ((seq, row_flags b), at + 8 + 1)) × (drop (at + 8 + 1) bytes ≡ rest)
unfolding head_layout
head_again bytes rest at seq b lt known h =
    let h1 = behind bytes (be64 seq) (b ∷ rest) at h in
    let r0 = number_again w64 (2 ^ 64) wide64 bytes (b ∷ rest) at seq lt h in
    let r1 = flags_again bytes rest (at + 8) b known h1 in
    (rw (r0, r1) refl, behind bytes (b ∷ []) rest (at + 8) h1)

pub stamps_again : (flags : RowFlags) (bytes rest : List ℕ) (at : ℕ) (expire create : Option ℤ) → FitsStamp expire → FitsStamp create → has 2 flags ≡ is_some expire → has 4 flags ≡ is_some create →
    drop at bytes ≡ stamp_bytes expire ++ (stamp_bytes create ++ rest) → (stamps_layout flags bytes at ≡ Ok ((expire, create), at + length (stamp_bytes expire) + length (stamp_bytes create))) × (drop (at + length (stamp_bytes expire) + length (stamp_bytes create)) bytes ≡ rest)
unfolding stamps_layout
stamps_again flags bytes rest at expire create fe fc he hc h =
    let h1 = behind bytes (stamp_bytes expire) (stamp_bytes create ++ rest) at h in
    let r0 = ap (λ (t : Bool). stamp_field t bytes at) he ∙ stamp_again bytes (stamp_bytes create ++ rest) at expire fe h in
    let r1 = ap (λ (t : Bool). stamp_field t bytes (at + length (stamp_bytes expire))) hc ∙ stamp_again bytes rest (at + length (stamp_bytes expire)) create fc h1 in
    (rw (r0, r1) refl, behind bytes (stamp_bytes create) rest (at + length (stamp_bytes expire)) h1)

apart_v2 : (a b c d e h g s t x : List ℕ) → (((((a ++ b) ++ c) ++ d) ++ e) ++ (((h ++ g) ++ s) ++ t)) ++ x ≡ a ++ (b ++ (c ++ (d ++ (e ++ (h ++ (g ++ (s ++ (t ++ x))))))))
apart_v2 a b c d e h g s t x = simp append_assoc

no_value : (value : ValueDeletable) (expire create : Option ℤ) → (has 1 (row_flags (flags value expire create)) && ltb 0 (length (bytes_of value))) ≡ false
no_value (Value v) None None = refl
no_value (Value v) None (Some y) = refl
no_value (Value v) (Some x) None = refl
no_value (Value v) (Some x) (Some y) = refl
no_value (Merge v) None None = refl
no_value (Merge v) None (Some y) = refl
no_value (Merge v) (Some x) None = refl
no_value (Merge v) (Some x) (Some y) = refl
no_value Tombstone None None = refl
no_value Tombstone None (Some y) = refl
no_value Tombstone (Some x) None = refl
no_value Tombstone (Some x) (Some y) = refl

agrees_again : (value : ValueDeletable) (expire create : Option ℤ) (key : KeyFields) → key.value_len ≡ length (bytes_of value) → length_agrees (row_flags (flags value expire create)) key ≡ Ok (row_flags (flags value expire create))
unfolding length_agrees
agrees_again value expire create key size = rw (size, no_value value expire create) refl

layout_v2_again : (row : SstRowEntryV2) (bytes rest : List ℕ) → BeginsV2 row bytes rest → (x : ℕ × RowFields) × (layout_v2 bytes ≡ Ok x)
unfolding layout_v2
layout_v2_again row bytes rest begins =
    let fits = begins.0 in
    let a = varint row.shared_bytes in
    let b = varint (length row.key_suffix) in
    let e = bytes_of row.value in
    let c = varint (length e) in
    let fl = flags row.value row.expire_ts row.create_ts in
    let s = stamp_bytes row.expire_ts in
    let t = stamp_bytes row.create_ts in
    let name = named row.value row.expire_ts row.create_ts in
    let tail = s ++ (t ++ rest) in
    let order = begins.1 ∙ apart_v2 a b c row.key_suffix e (be64 row.seq) (fl ∷ []) s t rest in
    let key = key_again bytes a b c row.key_suffix (e ++ (be64 row.seq ++ (fl ∷ tail))) row.shared_bytes (length e) (varint_spells row.shared_bytes fits.0) (varint_spells (length row.key_suffix) fits.1) (varint_spells (length e) fits.2) order in
    let r1 = block_again bytes e (be64 row.seq ++ (fl ∷ tail)) key.0.suffix_end key.0.value_len key.2 key.3 in
    let h1 = behind bytes e (be64 row.seq ++ (fl ∷ tail)) key.0.suffix_end key.3 in
    let head = head_again bytes tail (key.0.suffix_end + length e) row.seq fl fits.3 name.known h1 in
    let r3 = agrees_again row.value row.expire_ts row.create_ts key.0 key.2 in
    let at = key.0.suffix_end + length e + 8 + 1 in
    let stamps = stamps_again (row_flags fl) bytes rest at row.expire_ts row.create_ts fits.4 fits.5 name.has_expire name.has_create head.1 in (
      (key.0.shared_bytes, record { suffix_at = key.0.suffix_at; suffix_end = key.0.suffix_end; value_at = key.0.suffix_end; value_end = key.0.suffix_end + length e; seq = row.seq; flags = row_flags fl; expire_ts = row.expire_ts; create_ts = row.create_ts; end = at + length s + length t }),
      rw (key.1, r1, head.0, r3, stamps.0) refl,
    )

pub row_v2_again : (row : SstRowEntryV2) (bytes rest : List ℕ) → BeginsV2 row bytes rest → (x : SstRowEntryV2 × ℕ) × (row_v2_of bytes ≡ Ok x)
unfolding row_v2_of
row_v2_again row bytes rest begins =
    let found = layout_v2_again row bytes rest begins in
    ((entry_of_v2 bytes found.0.0 found.0.1, found.0.1.end), rw found.1 refl)

pub key_v2_again : (key : ℕ × List ℕ) (bytes rest : List ℕ) → BeginsKeyV2 key bytes rest → (x : (ℕ × List ℕ) × ℕ) × (key_v2_of bytes ≡ Ok x)
unfolding key_v2_of
key_v2_again key bytes rest begins =
    let a = varint key.0 in
    let b = varint (length key.1) in
    let c = varint begins.0 in
    let order = begins.4 ∙ five_parts a b c key.1 rest in
    let found = key_again bytes a b c key.1 rest key.0 begins.0 (varint_spells key.0 begins.1) (varint_spells (length key.1) begins.2) (varint_spells begins.0 begins.3) order in
    (((found.0.shared_bytes, slice_range bytes found.0.suffix_at found.0.suffix_end), found.0.suffix_end), rw found.1 refl)

-- ---- what a reader's refusal says

pub refused_begins : (row : SstRowEntryV2) (bytes rest : List ℕ) (e m : SlateDBError) → (e ≡ m) ⊎ (row_v2_of bytes ≡ Err e) → BeginsV2 row bytes rest → e ≡ m
refused_begins row bytes rest e m (inl h) begins = h
refused_begins row bytes rest e m (inr h) begins = let found = row_v2_again row bytes rest begins in let clash : Ok found.0 ≡ Err e = sym found.1 ∙ h in absurd cc

pub refused_key : (key : ℕ × List ℕ) (bytes rest : List ℕ) (e m : SlateDBError) → (e ≡ m) ⊎ (key_v2_of bytes ≡ Err e) → BeginsKeyV2 key bytes rest → e ≡ m
refused_key key bytes rest e m (inl h) begins = h
refused_key key bytes rest e m (inr h) begins = let found = key_v2_again key bytes rest begins in let clash : Ok found.0 ≡ Err e = sym found.1 ∙ h in absurd cc
