-- What is read of version 1 is spelled so, and what is spelled so is read.
use Rattle.std.proofs.Common.{◌≡◌, ℕ, ◌+◌, ◌^◌, ◌<◌, ◌≤◌, Bool, true, false, cond, List, [], ◌∷◌, ◌++◌, length, drop, Option, Some, None, Ok, Err, ℤ, refl, sym, ap, subst, ◌∙◌, ◌⊎◌, inl, inr, append_assoc, arith}
use Rattle.std.proofs.lemmas.List.{length-append, length-drop}
use Rattle.std.specs.Prelude.{slice_range}
use Rattle.std.specs.Int.{w16, w32}
use Rattle.slate_types.specs.declared.error.SlateDBError.{SlateDBError}
use Rattle.slate_types.specs.declared.types.ValueDeletable.{ValueDeletable}
use Rattle.slate_types.specs.declared.types.ValueDeletable.TheVariants.{Value, Merge, Tombstone}
use Rattle.slate_types.specs.Rows.{bytes_of}
use Rattle.slate_block.specs.declared.flags.RowFlags.{RowFlags}
use Rattle.slate_block.specs.declared.fields.RowFields.{RowFields}
use Rattle.slate_block.specs.declared.row.SstRowEntry.{SstRowEntry}
use Rattle.slate_block.specs.RowSpelling.{be16, be32, be64, flags, stamp_bytes, v1_value, read_expiry}
use Rattle.slate_block.specs.Damage.{◌>>=◌, number_field, block_field, row_flags, has, head_layout, stamps_layout, value_layout, key_layout_v1, layout_v1}
use Rattle.slate_block.specs.RowReading.{value_of, expiry_of, entry_of_v1, row_v1_of, BeginsV1}
use Rattle.slate_block.proofs.Groups.{IsBytes}
use Rattle.slate_block.proofs.FlagLaws.{flags_sum, named}
use Rattle.slate_block.proofs.FieldLaws.{bind_ok, ok_is, Stands, behind, wide16, wide32, number_takes, number_again, block_takes, block_again}
use Rattle.slate_block.proofs.ReadingLaws.{then, HeadTakes, head_takes, StampsTake, stamps_take, head_again, stamps_again}

-- ---- the value

plain_value_takes : (bytes : List ℕ) (at start stop : ℕ) → IsBytes bytes → value_layout false bytes at ≡ Ok (start, stop) →
    Stands bytes at (be32 (length (slice_range bytes start stop)) ++ slice_range bytes start stop) stop × (length (slice_range bytes start stop) < 2 ^ 32)
unfolding value_layout
plain_value_takes bytes at start stop fits e =
    let a = bind_ok (number_field w32 bytes at) (λ len. block_field len.0 bytes len.1) (start, stop) e in
    let text = slice_range bytes start stop in
    let t0 = number_takes w32 (2 ^ 32) wide32 bytes at a.0.0 a.0.1 fits a.1 in
    let t1 = block_takes bytes a.0.0 a.0.1 start stop a.2 in
    let both = then bytes at (be32 a.0.0) a.0.1 text stop t0.0 t1.0 in
    (subst (λ (k : ℕ). Stands bytes at (be32 k ++ text) stop) (sym t1.1) both, omega (arith, t0.1, t1.1))

record ValueTakes (bytes : List ℕ) (at : ℕ) (value : ValueDeletable) (stop : ℕ) : Type 0 where
  pub here : Stands bytes at (v1_value value) stop
  pub fits : length (bytes_of value) < 2 ^ 32

no_value_takes : (bytes : List ℕ) (at start stop : ℕ) → value_layout true bytes at ≡ Ok (start, stop) → ValueTakes bytes at Tombstone stop
unfolding value_layout
no_value_takes bytes at start stop e =
    let here : Stands bytes at [] at = record { parts = refl; place = omega arith } in
    record { here = subst (λ (p : ℕ × ℕ). Stands bytes at [] p.1) (ok_is (at, at) (start, stop) e) here; fits = omega arith }

value_takes : (f : RowFlags) (bytes : List ℕ) (at start stop : ℕ) → IsBytes bytes → value_layout (has 1 f) bytes at ≡ Ok (start, stop) → ValueTakes bytes at (value_of f (slice_range bytes start stop)) stop
value_takes f bytes at start stop fits e = by (has 1 f) (has 8 f) e
  where
    by : (s t : Bool) → value_layout s bytes at ≡ Ok (start, stop) → ValueTakes bytes at (cond s Tombstone (cond t (Merge (slice_range bytes start stop)) (Value (slice_range bytes start stop)))) stop
    by true t g = no_value_takes bytes at start stop g
    by false true g = let both = plain_value_takes bytes at start stop fits g in record { here = both.0; fits = both.1 }
    by false false g = let both = plain_value_takes bytes at start stop fits g in record { here = both.0; fits = both.1 }

expiry_is : (f : RowFlags) (text : List ℕ) (expire : Option ℤ) → expiry_of f expire ≡ read_expiry (value_of f text) expire
expiry_is f text expire = by (has 1 f) (has 8 f)
  where
    by : (s t : Bool) → cond s None expire ≡ read_expiry (cond s Tombstone (cond t (Merge text) (Value text))) expire
    by true t = refl
    by false true = refl
    by false false = refl

-- ---- what is read is spelled

in_order : (a b c h g s t v : List ℕ) → (a ++ (b ++ c)) ++ ((h ++ g) ++ ((s ++ t) ++ v)) ≡ (((a ++ b) ++ c) ++ (((h ++ g) ++ s) ++ t)) ++ v
in_order a b c h g s t v = simp append_assoc

regrouped : (a b c h g z s t v : List ℕ) → g ≡ z → (a ++ (b ++ c)) ++ ((h ++ g) ++ ((s ++ t) ++ v)) ≡ (((a ++ b) ++ c) ++ (((h ++ z) ++ s) ++ t)) ++ v
regrouped a b c h g z s t v p = in_order a b c h g s t v ∙ (λ i. (((a ++ b) ++ c) ++ (((h ++ p i) ++ s) ++ t)) ++ v)

record KeyTakes (bytes : List ℕ) (key : ℕ × (ℕ × ℕ)) : Type 0 where
  pub here : Stands bytes 0 (be16 key.0 ++ (be16 (length (slice_range bytes key.1.0 key.1.1)) ++ slice_range bytes key.1.0 key.1.1)) key.1.1
  pub shared : key.0 < 2 ^ 16
  pub suffix : length (slice_range bytes key.1.0 key.1.1) < 2 ^ 16

key_takes : (bytes : List ℕ) (key : ℕ × (ℕ × ℕ)) → IsBytes bytes → key_layout_v1 bytes ≡ Ok key → KeyTakes bytes key
unfolding key_layout_v1
key_takes bytes key fits e =
    let a = bind_ok (number_field w16 bytes 0) (λ shared. number_field w16 bytes shared.1 >>= λ len. block_field len.0 bytes len.1 >>= λ suffix. Ok (shared.0, suffix)) key e in
    let b = bind_ok (number_field w16 bytes a.0.1) (λ len. block_field len.0 bytes len.1 >>= λ suffix. Ok (a.0.0, suffix)) key a.2 in
    let c = bind_ok (block_field b.0.0 bytes b.0.1) (λ suffix. Ok (a.0.0, suffix)) key b.2 in
    let text = slice_range bytes c.0.0 c.0.1 in
    let t0 = number_takes w16 (2 ^ 16) wide16 bytes 0 a.0.0 a.0.1 fits a.1 in
    let t1 = number_takes w16 (2 ^ 16) wide16 bytes a.0.1 b.0.0 b.0.1 fits b.1 in
    let t2 = block_takes bytes b.0.0 b.0.1 c.0.0 c.0.1 c.1 in
    let e12 = then bytes a.0.1 (be16 b.0.0) b.0.1 text c.0.1 t1.0 t2.0 in
    let e02 = then bytes 0 (be16 a.0.0) a.0.1 (be16 b.0.0 ++ text) c.0.1 t0.0 e12 in
    let sized = subst (λ (k : ℕ). Stands bytes 0 (be16 a.0.0 ++ (be16 k ++ text)) c.0.1) (sym t2.1) e02 in
    let made : ℕ × (ℕ × ℕ) = (a.0.0, c.0) in
    subst (λ (y : ℕ × (ℕ × ℕ)). KeyTakes bytes y) {x = made} (ok_is made key c.2) (record { here = sized; shared = t0.1; suffix = omega (arith, t1.1, t2.1) })

abbrev IsTakenV1 : List ℕ → ℕ → RowFields → Type 0
IsTakenV1 bytes shared fields = BeginsV1 (entry_of_v1 bytes shared fields) bytes (drop fields.end bytes) × (fields.end ≤ length bytes)

taken_v1 : ℕ → ℕ → ℕ → ℕ → ℕ → RowFlags → Option ℤ → Option ℤ → RowFields
taken_v1 from to start stop seq f expire create = record { suffix_at = from; suffix_end = to; value_at = start; value_end = stop; seq = seq; flags = f; expire_ts = expire; create_ts = create; end = stop }

row_v1_takes : (bytes : List ℕ) (key : ℕ × (ℕ × ℕ)) (seq : ℕ) (f : RowFlags) (three : ℕ) (expire create : Option ℤ) (four start stop : ℕ) →
    KeyTakes bytes key → HeadTakes bytes key.1.1 seq f three → StampsTake f bytes three expire create four → ValueTakes bytes four (value_of f (slice_range bytes start stop)) stop → IsTakenV1 bytes key.0 (taken_v1 key.1.0 key.1.1 start stop seq f expire create)
unfolding taken_v1
row_v1_takes bytes key seq f three expire create four start stop k head stamps val =
    let text = slice_range bytes start stop in
    let suffix = slice_range bytes key.1.0 key.1.1 in
    let value = value_of f text in
    let flag : (f.0 ∷ []) ≡ (flags value expire create ∷ []) = ap (λ (x : ℕ). x ∷ []) (sym (flags_sum f text expire create head.known stamps.has_expire stamps.has_create)) in
    let key_text = be16 key.0 ++ (be16 (length suffix) ++ suffix) in
    let head_text = be64 seq ++ (f.0 ∷ []) in
    let stamp_text = stamp_bytes expire ++ stamp_bytes create in
    let e2 = then bytes three stamp_text four (v1_value value) stop stamps.here val.here in
    let e1 = then bytes key.1.1 head_text three (stamp_text ++ v1_value value) stop head.here e2 in
    let e0 = then bytes 0 key_text key.1.1 (head_text ++ (stamp_text ++ v1_value value)) stop k.here e1 in
    let order = regrouped (be16 key.0) (be16 (length suffix)) suffix (be64 seq) (f.0 ∷ []) (flags value expire create ∷ []) (stamp_bytes expire) (stamp_bytes create) (v1_value value) flag in
    let written : SstRowEntry = record { key_prefix_len = key.0; key_suffix = suffix; seq = seq; expire_ts = expire; create_ts = create; value = value } in
    let begins : BeginsV1 (entry_of_v1 bytes key.0 (taken_v1 key.1.0 key.1.1 start stop seq f expire create)) bytes (drop stop bytes) = (
      written,
      (k.shared, k.suffix, val.fits, head.fits, stamps.fits_expire, stamps.fits_create),
      e0.parts ∙ ap (λ (l : List ℕ). l ++ drop stop bytes) order,
      ap (λ (x : Option ℤ). record { key_prefix_len = key.0; key_suffix = suffix; seq = seq; expire_ts = x; create_ts = create; value = value }) (expiry_is f text expire),
    ) in
    (begins, omega (arith, e0.place, ap (λ (l : List ℕ). length l) e0.parts, length-append (key_text ++ (head_text ++ (stamp_text ++ v1_value value))) (drop stop bytes), length-drop stop bytes))

layout_v1_takes : (bytes : List ℕ) (x : ℕ × RowFields) → IsBytes bytes → layout_v1 bytes ≡ Ok x → IsTakenV1 bytes x.0 x.1
unfolding layout_v1 taken_v1
layout_v1_takes bytes x fits e =
    let a = bind_ok (key_layout_v1 bytes) (λ key. head_layout bytes key.1.1 >>= λ head. stamps_layout head.0.1 bytes head.1 >>= λ stamps. value_layout (has 1 head.0.1) bytes stamps.1 >>= λ value. Ok (key.0, taken_v1 key.1.0 key.1.1 value.0 value.1 head.0.0 head.0.1 stamps.0.0 stamps.0.1)) x e in
    let key = a.0 in
    let b = bind_ok (head_layout bytes key.1.1) (λ head. stamps_layout head.0.1 bytes head.1 >>= λ stamps. value_layout (has 1 head.0.1) bytes stamps.1 >>= λ value. Ok (key.0, taken_v1 key.1.0 key.1.1 value.0 value.1 head.0.0 head.0.1 stamps.0.0 stamps.0.1)) x a.2 in
    let f = b.0.0.1 in
    let c = bind_ok (stamps_layout f bytes b.0.1) (λ stamps. value_layout (has 1 f) bytes stamps.1 >>= λ value. Ok (key.0, taken_v1 key.1.0 key.1.1 value.0 value.1 b.0.0.0 f stamps.0.0 stamps.0.1)) x b.2 in
    let d = bind_ok (value_layout (has 1 f) bytes c.0.1) (λ value. Ok (key.0, taken_v1 key.1.0 key.1.1 value.0 value.1 b.0.0.0 f c.0.0.0 c.0.0.1)) x c.2 in
    let made : ℕ × RowFields = (key.0, taken_v1 key.1.0 key.1.1 d.0.0 d.0.1 b.0.0.0 f c.0.0.0 c.0.0.1) in
    subst (λ (y : ℕ × RowFields). IsTakenV1 bytes y.0 y.1) {x = made} (ok_is made x d.2)
    (row_v1_takes bytes key b.0.0.0 f b.0.1 c.0.0.0 c.0.0.1 c.0.1 d.0.0 d.0.1 (key_takes bytes key fits a.1) (head_takes bytes key.1.1 b.0 fits b.1) (stamps_take f bytes b.0.1 c.0 fits c.1)
    (value_takes f bytes c.0.1 d.0.0 d.0.1 fits d.1))

row_v1_taken : (bytes : List ℕ) (row : SstRowEntry) (end : ℕ) → IsBytes bytes → row_v1_of bytes ≡ Ok (row, end) → BeginsV1 row bytes (drop end bytes) × (end ≤ length bytes)
unfolding row_v1_of
row_v1_taken bytes row end fits e =
    let a = bind_ok (layout_v1 bytes) (λ x. Ok (entry_of_v1 bytes x.0 x.1, x.1.end)) (row, end) e in
    let made : SstRowEntry × ℕ = (entry_of_v1 bytes a.0.0 a.0.1, a.0.1.end) in
    subst (λ (y : SstRowEntry × ℕ). BeginsV1 y.0 bytes (drop y.1 bytes) × (y.1 ≤ length bytes)) {x = made} (ok_is made (row, end) a.2) (layout_v1_takes bytes a.0 fits a.1)

pub row_v1_begins : (bytes : List ℕ) (row : SstRowEntry) (end : ℕ) → IsBytes bytes → row_v1_of bytes ≡ Ok (row, end) → BeginsV1 row bytes (drop end bytes)
row_v1_begins bytes row end fits e = (row_v1_taken bytes row end fits e).0

pub row_v1_within : (bytes : List ℕ) (row : SstRowEntry) (end : ℕ) → IsBytes bytes → row_v1_of bytes ≡ Ok (row, end) → end ≤ length bytes
row_v1_within bytes row end fits e = (row_v1_taken bytes row end fits e).1

-- ---- what is spelled is read

is_tombstone : ValueDeletable → Bool
is_tombstone (Value v) = false
is_tombstone (Merge v) = false
is_tombstone Tombstone = true

tombstone_again : (value : ValueDeletable) (expire create : Option ℤ) → has 1 (row_flags (flags value expire create)) ≡ is_tombstone value
unfolding is_tombstone
tombstone_again (Value v) None None = refl
tombstone_again (Value v) None (Some y) = refl
tombstone_again (Value v) (Some x) None = refl
tombstone_again (Value v) (Some x) (Some y) = refl
tombstone_again (Merge v) None None = refl
tombstone_again (Merge v) None (Some y) = refl
tombstone_again (Merge v) (Some x) None = refl
tombstone_again (Merge v) (Some x) (Some y) = refl
tombstone_again Tombstone None None = refl
tombstone_again Tombstone None (Some y) = refl
tombstone_again Tombstone (Some x) None = refl
tombstone_again Tombstone (Some x) (Some y) = refl

plain_value_again : (bytes text rest : List ℕ) (at : ℕ) → length text < 2 ^ 32 → drop at bytes ≡ be32 (length text) ++ (text ++ rest) → (x : ℕ × ℕ) × (value_layout false bytes at ≡ Ok x)
unfolding value_layout
plain_value_again bytes text rest at lt h =
    let h1 = behind bytes (be32 (length text)) (text ++ rest) at h in
    let r0 = number_again w32 (2 ^ 32) wide32 bytes (text ++ rest) at (length text) lt h in
    let r1 = block_again bytes text rest (at + 4) (length text) refl h1 in
    ((at + 4, at + 4 + length text), rw (r0, r1) refl)

value_again : (value : ValueDeletable) (bytes rest : List ℕ) (at : ℕ) → length (bytes_of value) < 2 ^ 32 → drop at bytes ≡ v1_value value ++ rest → (x : ℕ × ℕ) × (value_layout (is_tombstone value) bytes at ≡ Ok x)
unfolding is_tombstone value_layout
value_again (Value v) bytes rest at lt h = plain_value_again bytes v rest at lt h
value_again (Merge v) bytes rest at lt h = plain_value_again bytes v rest at lt h
value_again Tombstone bytes rest at lt h = ((at, at), refl)

apart_v1 : (a b c h g s t v x : List ℕ) → ((((a ++ b) ++ c) ++ (((h ++ g) ++ s) ++ t)) ++ v) ++ x ≡ a ++ (b ++ (c ++ (h ++ (g ++ (s ++ (t ++ (v ++ x)))))))
apart_v1 a b c h g s t v x = simp append_assoc

layout_v1_again : (row : SstRowEntry) (bytes rest : List ℕ) → BeginsV1 row bytes rest → (x : ℕ × RowFields) × (layout_v1 bytes ≡ Ok x)
unfolding layout_v1 key_layout_v1
layout_v1_again row bytes rest begins =
    let w = begins.0 in
    let fits = begins.1 in
    let a = be16 w.key_prefix_len in
    let b = be16 (length w.key_suffix) in
    let fl = flags w.value w.expire_ts w.create_ts in
    let s = stamp_bytes w.expire_ts in
    let t = stamp_bytes w.create_ts in
    let v = v1_value w.value in
    let name = named w.value w.expire_ts w.create_ts in
    let r7 = s ++ (t ++ (v ++ rest)) in
    let r5 = be64 w.seq ++ (fl ∷ r7) in
    let order = begins.2 ∙ apart_v1 a b w.key_suffix (be64 w.seq) (fl ∷ []) s t v rest in
    let h1 = behind bytes a (b ++ (w.key_suffix ++ r5)) 0 order in
    let h2 = behind bytes b (w.key_suffix ++ r5) 2 h1 in
    let h3 = behind bytes w.key_suffix r5 4 h2 in
    let r0 = number_again w16 (2 ^ 16) wide16 bytes (b ++ (w.key_suffix ++ r5)) 0 w.key_prefix_len fits.0 order in
    let r1 = number_again w16 (2 ^ 16) wide16 bytes (w.key_suffix ++ r5) 2 (length w.key_suffix) fits.1 h1 in
    let r2 = block_again bytes w.key_suffix r5 4 (length w.key_suffix) refl h2 in
    let head = head_again bytes r7 (4 + length w.key_suffix) w.seq fl fits.3 name.known h3 in
    let at = 4 + length w.key_suffix + 8 + 1 in
    let stamps = stamps_again (row_flags fl) bytes (v ++ rest) at w.expire_ts w.create_ts fits.4 fits.5 name.has_expire name.has_create head.1 in
    let end = at + length s + length t in
    let value = value_again w.value bytes rest end fits.2 stamps.1 in
    let read : value_layout (has 1 (row_flags fl)) bytes end ≡ Ok value.0 = ap (λ (y : Bool). value_layout y bytes end) (tombstone_again w.value w.expire_ts w.create_ts) ∙ value.1 in (
      (w.key_prefix_len, record { suffix_at = 4; suffix_end = 4 + length w.key_suffix; value_at = value.0.0; value_end = value.0.1; seq = w.seq; flags = row_flags fl; expire_ts = w.expire_ts; create_ts = w.create_ts; end = value.0.1 }),
      rw (r0, r1, r2, head.0, stamps.0, read) refl,
    )

pub row_v1_again : (row : SstRowEntry) (bytes rest : List ℕ) → BeginsV1 row bytes rest → (x : SstRowEntry × ℕ) × (row_v1_of bytes ≡ Ok x)
unfolding row_v1_of
row_v1_again row bytes rest begins =
    let found = layout_v1_again row bytes rest begins in
    ((entry_of_v1 bytes found.0.0 found.0.1, found.0.1.end), rw found.1 refl)

pub refused_v1 : (row : SstRowEntry) (bytes rest : List ℕ) (e m : SlateDBError) → (e ≡ m) ⊎ (row_v1_of bytes ≡ Err e) → BeginsV1 row bytes rest → e ≡ m
refused_v1 row bytes rest e m (inl h) begins = h
refused_v1 row bytes rest e m (inr h) begins = let found = row_v1_again row bytes rest begins in let clash : Ok found.0 ≡ Err e = sym found.1 ∙ h in absurd cc
