-- A field that is read stands in the bytes, and a field that stands in the bytes is read.
use Rattle.std.proofs.Common.{◌≡◌, ℕ, zero, suc, ◌+◌, ◌-◌, ◌^◌, ◌<◌, ◌≤◌, Bool, true, false, cond, ltb, List, [], ◌∷◌, ◌++◌, length, get_or, take, drop, Option, Some, None, is_some, Result, Ok, Err, ℤ, refl, sym, ap, subst, ◌∙◌, arith, inl, inr, ◌⊎◌}
use Rattle.std.specs.Prelude.{FitsSigned, slice_get, slice_range}
use Rattle.std.specs.Int.{Width, w16, w32, w64, byte_len, from_be_bytes, to_be_bytes, cast_signed, cast_unsigned}
use Rattle.std.proofs.lemmas.Bool.{cases_lt, ltb-true, ltb-false, le-ltb, lt-ltb}
use Rattle.std.proofs.lemmas.Int.{of_z-to_z, to_z-of_z, ints}
use Rattle.std.proofs.lemmas.List.{take_at, drop_at, take-append-drop, length-append, length-take, length-drop, drop-drop, get_or-drop, get_or-take, get_or_past, at_drop_more}
use Rattle.std.proofs.lemmas.Nat.{be_bytes_2, be_bytes_4, be_bytes_8, from_be_bytes-to_be_bytes_2, from_be_bytes-to_be_bytes_4, from_be_bytes-to_be_bytes_8}
use Rattle.std.proofs.lemmas.Option.{slice_get_past, slice_get-get_or, slice_get_within, get_or_from_slice_get}
use Rattle.slate_types.specs.declared.error.SlateDBError.{SlateDBError}
use Rattle.slate_types.specs.declared.error.SlateDBError.TheVariants.{CorruptTable, InvalidRowFlags}
use Rattle.slate_block.specs.declared.fields.KeyFields.{KeyFields}
use Rattle.slate_block.specs.declared.flags.RowFlags.{RowFlags}
use Rattle.slate_block.specs.Varint.{IsVarint, varint}
use Rattle.slate_block.specs.RowSpelling.{be64, are_flags, stamp_bytes, FitsStamp}
use Rattle.slate_block.specs.Damage.{◌>>=◌, Field, head_layout, front_varint, varint_at, varint_field, number_field, block_field, row_flags, flags_at, flags_field, stamp_field, has, length_agrees}
use Rattle.slate_block.proofs.Groups.{IsBytes, front_found, front_again}
use Rattle.slate_block.proofs.VarintLaws.{one_varint}

pub IsBytes_drop : (n : ℕ) (bytes : List ℕ) → IsBytes bytes → IsBytes (drop n bytes)
IsBytes_drop n bytes h i = rw get_or-drop (h (n + i))

pub IsBytes_take : (n : ℕ) (bytes : List ℕ) → IsBytes bytes → IsBytes (take n bytes)
IsBytes_take n bytes h i =
    elim (cases_lt i n) [
      | inl lt ↦ rw (get_or-take n bytes i 0 lt) (h i)
      | inr le ↦ rw (get_or_past (take n bytes) i 0 (omega (arith, length-take n bytes))) (omega arith)
    ]

-- the value of a step that did not fail
pub bind_ok : {A B : Type 0} (r : Result A SlateDBError) (f : A → Result B SlateDBError) (y : B) → (r >>= f) ≡ Ok y → (x : A) × (r ≡ Ok x) × (f x ≡ Ok y)
bind_ok (Ok x) f y e = (x, refl, e)
bind_ok (Err d) f y e = absurd cc

-- a test that did not fail
pub guard_ok : {A : Type 0} (b : Bool) (d : SlateDBError) (x y : A) → cond b (Err d) (Ok x) ≡ Ok y → (b ≡ false) × (x ≡ y)
guard_ok true d x y e = absurd cc
guard_ok false d x y e = (refl, cc)

abbrev done : {A : Type 0} → A → Result A SlateDBError
done x = Ok x

pub ok_is : {A : Type 0} (x y : A) → done x ≡ done y → x ≡ y
ok_is x y e = cc

-- a text stands at a place, and the next one behind it
pub record Stands (bytes : List ℕ) (at : ℕ) (text : List ℕ) (next : ℕ) : Type 0 where
  pub parts : drop at bytes ≡ text ++ drop next bytes
  pub place : next ≡ at + length text

stands : (bytes : List ℕ) (at n : ℕ) → n ≤ length (drop at bytes) → Stands bytes at (take n (drop at bytes)) (at + n)
stands bytes at n le = record {
  parts = sym (take-append-drop n (drop at bytes)) ∙ ap (λ (l : List ℕ). take n (drop at bytes) ++ l) (drop-drop n at bytes);
  place = omega (arith, length-take n (drop at bytes));
}

pub behind : (bytes text rest : List ℕ) (at : ℕ) → drop at bytes ≡ text ++ rest → drop (at + length text) bytes ≡ rest
behind bytes text rest at h = sym (drop-drop (length text) at bytes) ∙ ap (drop (length text)) h ∙ drop_at text rest (length text) refl

-- ---- varints

pub varint_takes : (bytes : List ℕ) (at n next : ℕ) → IsBytes bytes → varint_field bytes at ≡ Ok (n, next) → Stands bytes at (varint n) next × (n < 2 ^ 32)
unfolding varint_field
varint_takes bytes at n next fits e = by (front_varint (drop at bytes)) refl e
  where
    by : (o : Option (ℕ × ℕ)) → front_varint (drop at bytes) ≡ o → varint_at at o ≡ Ok (n, next) → Stands bytes at (varint n) next × (n < 2 ^ 32)
    by None is f = absurd cc
    by (Some x) is f =
        let found = front_found (drop at bytes) x (IsBytes_drop at bytes fits) is in
        let one : take x.1 (drop at bytes) ≡ varint x.0 = one_varint (take x.1 (drop at bytes)) x.0 found.1 in
        let here : Stands bytes at (varint x.0) (at + x.1) = subst (λ (t : List ℕ). Stands bytes at t (at + x.1)) one (stands bytes at x.1 found.0) in
        subst (λ (p : ℕ × ℕ). Stands bytes at (varint p.0) p.1 × (p.0 < 2 ^ 32)) (ok_is (x.0, at + x.1) (n, next) f) (here, found.1.0)

pub varint_again : (bytes text rest : List ℕ) (at n : ℕ) → IsVarint text n → drop at bytes ≡ text ++ rest → varint_field bytes at ≡ Ok (n, at + length text)
unfolding varint_field
varint_again bytes text rest at n s h = ap (λ (l : List ℕ). varint_at at (front_varint l)) h ∙ ap (varint_at at) (front_again text rest n s)

-- ---- numbers

pub record IsWide (w : Width) (limit : ℕ) : Type 0 where
  pub len : (n : ℕ) → length (to_be_bytes w n) ≡ byte_len w
  pub back : (bytes : List ℕ) → length bytes ≡ byte_len w → IsBytes bytes → to_be_bytes w (from_be_bytes w bytes) ≡ bytes
  pub again : (n : ℕ) → n < limit → from_be_bytes w (to_be_bytes w n) ≡ n
  pub below : (bytes : List ℕ) → IsBytes bytes → from_be_bytes w bytes < limit

pub wide16 : IsWide w16 (2 ^ 16)
wide16 = record {
  len = λ n. refl;
  back = λ bytes len fits. be_bytes_2 bytes _ len fits refl;
  again = λ n lt. from_be_bytes-to_be_bytes_2 n lt;
  below = λ bytes fits. omega (arith, fits 0, fits 1);
}

pub wide32 : IsWide w32 (2 ^ 32)
wide32 = record {
  len = λ n. refl;
  back = λ bytes len fits. be_bytes_4 bytes _ len fits refl;
  again = λ n lt. from_be_bytes-to_be_bytes_4 n lt;
  below = λ bytes fits. omega (arith, fits 0, fits 1, fits 2, fits 3);
}

pub wide64 : IsWide w64 (2 ^ 64)
wide64 = record {
  len = λ n. refl;
  back = λ bytes len fits. be_bytes_8 bytes _ len fits refl;
  again = λ n lt. from_be_bytes-to_be_bytes_8 n lt;
  below = λ bytes fits. omega (arith, fits 0, fits 1, fits 2, fits 3, fits 4, fits 5, fits 6, fits 7);
}

pub number_takes : (w : Width) (limit : ℕ) (wide : IsWide w limit) (bytes : List ℕ) (at n next : ℕ) → IsBytes bytes → number_field w bytes at ≡ Ok (n, next) → Stands bytes at (to_be_bytes w n) next × (n < limit)
unfolding number_field
number_takes w limit wide bytes at n next fits e =
    let rest = drop at bytes in
    let front = take (byte_len w) rest in
    let g = guard_ok (ltb (length rest) (byte_len w)) (CorruptTable at) (from_be_bytes w front, at + byte_len w) (n, next) e in
    let long : byte_len w ≤ length rest = ltb-false _ _ g.0 in
    let bytes_there : IsBytes front = IsBytes_take (byte_len w) rest (IsBytes_drop at bytes fits) in
    let same : to_be_bytes w (from_be_bytes w front) ≡ front = wide.back front (omega (arith, length-take (byte_len w) rest, long)) bytes_there in
    let here : Stands bytes at (to_be_bytes w (from_be_bytes w front)) (at + byte_len w) = subst (λ (t : List ℕ). Stands bytes at t (at + byte_len w)) (sym same) (stands bytes at (byte_len w) long) in
    subst (λ (p : ℕ × ℕ). Stands bytes at (to_be_bytes w p.0) p.1 × (p.0 < limit)) g.1 (here, wide.below front bytes_there)

pub no_number : (w : Width) (bytes : List ℕ) (at : ℕ) → length (take (length bytes - at) (drop at bytes)) < byte_len w → number_field w bytes at ≡ Err (CorruptTable at)
unfolding number_field
no_number w bytes at short =
    let less : ltb (length (drop at bytes)) (byte_len w) ≡ true = lt-ltb _ _ (omega (arith, short, length-take (length bytes - at) (drop at bytes), length-drop at bytes)) in
    rw less refl

pub number_again : (w : Width) (limit : ℕ) (wide : IsWide w limit) (bytes rest : List ℕ) (at n : ℕ) → n < limit → drop at bytes ≡ to_be_bytes w n ++ rest → number_field w bytes at ≡ Ok (n, at + byte_len w)
unfolding number_field
number_again w limit wide bytes rest at n lt h =
    let len = wide.len n in
    let long : ltb (length (to_be_bytes w n ++ rest)) (byte_len w) ≡ false = le-ltb _ _ (omega (arith, length-append (to_be_bytes w n) rest, len)) in
    rw (h, long, take_at (to_be_bytes w n) rest (byte_len w) len, wide.again n lt) refl

-- ---- so many bytes

pub block_takes : (bytes : List ℕ) (len at start next : ℕ) → block_field len bytes at ≡ Ok (start, next) → Stands bytes at (slice_range bytes start next) next × (length (slice_range bytes start next) ≡ len)
unfolding block_field
block_takes bytes len at start next e =
    let g = guard_ok (ltb (length (drop at bytes)) len) (CorruptTable at) (at, at + len) (start, next) e in
    let long : len ≤ length (drop at bytes) = ltb-false _ _ g.0 in
    let same : at + len - at ≡ len = omega arith in
    let text : take len (drop at bytes) ≡ slice_range bytes at (at + len) = ap (λ (k : ℕ). take k (drop at bytes)) (sym same) in
    let here : Stands bytes at (slice_range bytes at (at + len)) (at + len) = subst (λ (t : List ℕ). Stands bytes at t (at + len)) text (stands bytes at len long) in
    let size : length (slice_range bytes at (at + len)) ≡ len = sym (ap length text) ∙ omega (arith, length-take len (drop at bytes), long) in
    subst (λ (p : ℕ × ℕ). Stands bytes at (slice_range bytes p.0 p.1) p.1 × (length (slice_range bytes p.0 p.1) ≡ len)) g.1 (here, size)

pub block_again : (bytes text rest : List ℕ) (at len : ℕ) → len ≡ length text → drop at bytes ≡ text ++ rest → block_field len bytes at ≡ Ok (at, at + length text)
unfolding block_field
block_again bytes text rest at len is h =
    let long : ltb (length (text ++ rest)) (length text) ≡ false = le-ltb _ _ (omega (arith, length-append text rest)) in
    rw (is, h, long) refl

pub block_text : (bytes text rest : List ℕ) (at : ℕ) → drop at bytes ≡ text ++ rest → slice_range bytes at (at + length text) ≡ text
block_text bytes text rest at h =
    let same : at + length text - at ≡ length text = omega arith in
    rw (same, h) (take_at text rest (length text) refl)

-- ---- flags

pub flags_takes : (bytes : List ℕ) (at : ℕ) (f : RowFlags) (next : ℕ) → flags_field bytes at ≡ Ok (f, next) → Stands bytes at (f.0 ∷ []) next × (are_flags f.0 ≡ true)
unfolding flags_field
flags_takes bytes at f next e = by (slice_get bytes at) refl e
  where
    known : (b : ℕ) (t : Bool) → are_flags b ≡ t → slice_get bytes at ≡ Some b → cond {A = Result (RowFlags × ℕ) SlateDBError} t (Ok (row_flags b, at + 1)) (Err (InvalidRowFlags b)) ≡ Ok (f, next) → Stands bytes at (f.0 ∷ []) next × (are_flags f.0 ≡ true)
    known b true t-is is g =
        let lt : at < length bytes = slice_get_within bytes at b is in
        let byte : get_or bytes at 0 ≡ b = get_or_from_slice_get bytes at b 0 is in
        let parts : drop at bytes ≡ b ∷ drop (at + 1) bytes = at_drop_more (λ (l : List ℕ). l) bytes at 0 lt ∙ ap (λ (x : ℕ). x ∷ drop (at + 1) bytes) byte in
        let here : Stands bytes at (b ∷ []) (at + 1) = record { parts = parts; place = refl } in
        subst (λ (p : RowFlags × ℕ). Stands bytes at (p.0.0 ∷ []) p.1 × (are_flags p.0.0 ≡ true)) (ok_is (row_flags b, at + 1) (f, next) g) (here, t-is)
    known b false t-is is g = absurd cc

    by : (o : Option ℕ) → slice_get bytes at ≡ o → flags_at at o ≡ Ok (f, next) → Stands bytes at (f.0 ∷ []) next × (are_flags f.0 ≡ true)
    by None is g = absurd cc
    by (Some b) is g = known b (are_flags b) refl is g

pub front_byte : (bytes : List ℕ) (at b : ℕ) (rest : List ℕ) → drop at bytes ≡ b ∷ rest → slice_get bytes at ≡ Some b
front_byte [] zero b rest h = absurd cc
front_byte [] (suc at) b rest h = absurd cc
front_byte (x ∷ bytes) zero b rest h = ap Some (ap (λ l. get_or l 0 0) h)
front_byte (x ∷ bytes) (suc at) b rest h = front_byte bytes at b rest h

pub flags_again : (bytes rest : List ℕ) (at b : ℕ) → are_flags b ≡ true → drop at bytes ≡ b ∷ rest → flags_field bytes at ≡ Ok (row_flags b, at + 1)
unfolding flags_field
flags_again bytes rest at b known h = ap (flags_at at) (front_byte bytes at b rest h) ∙ ap (λ (t : Bool). cond {A = Result (RowFlags × ℕ) SlateDBError} t (Ok (row_flags b, at + 1)) (Err (InvalidRowFlags b))) known

-- ---- stamps

stamp_fits : (n : ℕ) → n < 2 ^ 64 → FitsSigned w64 (cast_signed w64 n)
stamp_fits n lt = omega (arith, ints)

pub stamp_takes : (there : Bool) (bytes : List ℕ) (at : ℕ) (z : Option ℤ) (next : ℕ) → IsBytes bytes → stamp_field there bytes at ≡ Ok (z, next) → Stands bytes at (stamp_bytes z) next × FitsStamp z × (is_some z ≡ there)
unfolding stamp_field
stamp_takes false bytes at z next fits e =
    let here : Stands bytes at [] at = record { parts = refl; place = omega arith } in
    subst (λ (p : Option ℤ × ℕ). Stands bytes at (stamp_bytes p.0) p.1 × FitsStamp p.0 × (is_some p.0 ≡ false)) (ok_is (None, at) (z, next) e) (here, tt, refl)
stamp_takes true bytes at z next fits e =
    let b = bind_ok (number_field w64 bytes at) (λ bits. Ok (Some (cast_signed w64 bits.0), bits.1)) (z, next) e in
    let n = b.0.0 in
    let t = number_takes w64 (2 ^ 64) wide64 bytes at n b.0.1 fits b.1 in
    let same : be64 n ≡ be64 (cast_unsigned w64 (cast_signed w64 n)) = ap be64 (sym (of_z-to_z w64 n t.1)) in
    let here : Stands bytes at (be64 (cast_unsigned w64 (cast_signed w64 n))) b.0.1 = subst (λ (l : List ℕ). Stands bytes at l b.0.1) same t.0 in
    subst (λ (p : Option ℤ × ℕ). Stands bytes at (stamp_bytes p.0) p.1 × FitsStamp p.0 × (is_some p.0 ≡ true)) (ok_is (Some (cast_signed w64 n), b.0.1) (z, next) b.2) (here, stamp_fits n t.1, refl)

pub stamp_below : (z : ℤ) → FitsSigned w64 z → cast_unsigned w64 z < 2 ^ 64
stamp_below z f = omega (arith, ints)

pub stamp_again : (bytes rest : List ℕ) (at : ℕ) (z : Option ℤ) → FitsStamp z → drop at bytes ≡ stamp_bytes z ++ rest → stamp_field (is_some z) bytes at ≡ Ok (z, at + length (stamp_bytes z))
unfolding stamp_field
stamp_again bytes rest at None fits h = let same : at ≡ at + 0 = omega arith in ap (λ (k : ℕ). Ok (None, k)) same
stamp_again bytes rest at (Some z) fits h =
    let read : number_field w64 bytes at ≡ Ok (cast_unsigned w64 z, at + 8) = number_again w64 (2 ^ 64) wide64 bytes rest at (cast_unsigned w64 z) (stamp_below z fits) h in
    rw read (ap (λ (x : ℤ). Ok (Some x, at + 8)) (to_z-of_z w64 z fits))

-- ---- the sequence and the flags

pub no_flags : (bytes : List ℕ) (at : ℕ) → false ≡ ltb at (length bytes) → flags_field bytes at ≡ Err (CorruptTable at)
unfolding flags_field
no_flags bytes at h = ap (flags_at at) (slice_get_past bytes at (ltb-false at (length bytes) (sym h)))

pub flags_there : (bytes : List ℕ) (at b : ℕ) (t : Bool) → true ≡ ltb at (length bytes) → b ≡ get_or bytes at b → are_flags b ≡ t → flags_field bytes at ≡ cond t (Ok (row_flags b, at + 1)) (Err (InvalidRowFlags b))
unfolding flags_field
flags_there bytes at b t h e f =
    ap (flags_at at) (slice_get-get_or bytes at b (ltb-true at (length bytes) (sym h)) ∙ ap Some (sym e))
    ∙ ap (λ (k : Bool). cond {A = Result (RowFlags × ℕ) SlateDBError} k (Ok (row_flags b, at + 1)) (Err (InvalidRowFlags b))) f

pub head_read : (bytes : List ℕ) (at seq next : ℕ) (flags : Field RowFlags) → Ok (seq, next) ≡ number_field w64 bytes at → flags_field bytes next ≡ flags → head_layout bytes at ≡ (flags >>= λ found. Ok ((seq, found.0), found.1))
unfolding head_layout
head_read bytes at seq next flags e h = rw (sym e, h) refl

-- ---- the length of a tombstone's value

pub agreed : (flags : RowFlags) (key : KeyFields) (is_tombstone : Bool) → is_tombstone ≡ has 1 flags → (is_tombstone ≡ true) × (key.value_len ≤ 0) ⊎ (is_tombstone ≡ false) → length_agrees flags key ≡ Ok flags
unfolding length_agrees
agreed flags key is_tombstone is (inl h) = rw (sym is, h.0, le-ltb 0 key.value_len h.1) refl
agreed flags key is_tombstone is (inr h) = rw (sym is, h) refl
