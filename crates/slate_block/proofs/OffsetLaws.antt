-- The offsets of a block, read one after the other.
use Rattle.std.proofs.Common.{◌≡◌, ℕ, zero, suc, ◌+◌, ◌-◌, ◌*◌, ◌^◌, ◌<◌, ◌≤◌, Bool, true, false, cond, eqb, ltb, min, List, [], ◌∷◌, ◌++◌, length, take, drop, Result, Ok, Err, refl, sym, ap, subst, ◌∙◌, ◌⊎◌, inl, inr, append_assoc, arith}
use Rattle.std.specs.List.{flat_map}
use Rattle.std.specs.Int.{w16}
use Rattle.std.proofs.lemmas.Bool.{ltb-true, ltb-false, le-ltb, lt-ltb}
use Rattle.std.proofs.lemmas.Bool.Decides.{nat_tests}
use Rattle.std.proofs.lemmas.List.{append-nil, length-append, length-take, length-drop, take-append-drop, drop_at, nil_from_length}
use Rattle.std.proofs.lemmas.List.Concat.{flat_map-cons}
use Rattle.slate_types.specs.declared.error.SlateDBError.{SlateDBError}
use Rattle.slate_types.specs.declared.error.SlateDBError.TheVariants.{CorruptTable}
use Rattle.slate_block.specs.RowSpelling.{be16}
use Rattle.slate_block.specs.BlockSpelling.{block_spelling}
use Rattle.slate_block.specs.Damage.{◌>>=◌, number_field}
use Rattle.slate_block.specs.BlockReading.{Rise, AreOffsets, IsApart, counted_offsets, offset_field, offsets_from, offsets_of_block}
use Rattle.slate_block.proofs.Groups.{IsBytes}
use Rattle.slate_block.proofs.FieldLaws.{bind_ok, ok_is, Stands, behind, wide16, number_takes, number_again}
use Rattle.slate_block.proofs.ReadingLaws.{then}

-- ---- as a loop does

abbrev pub with_front : List ℕ → Result (List ℕ) SlateDBError → Result (List ℕ) SlateDBError
with_front front read = read >>= λ rest. Ok (front ++ rest)

regroup : (front : List ℕ) (n : ℕ) (read : Result (List ℕ) SlateDBError) → with_front front (read >>= λ rest. Ok (n ∷ rest)) ≡ with_front (front ++ n ∷ []) read
regroup front n (Ok x) = ap (λ (l : List ℕ). Ok l) (sym (append_assoc front (n ∷ []) x))
regroup front n (Err e) = refl

pub goes_on : (front : List ℕ) (count i low high end : ℕ) (bytes : List ℕ) (at n next : ℕ) (total : Result (List ℕ) SlateDBError) → i < count → offset_field low high bytes at ≡ Ok (n, next) →
    with_front front (offsets_from (count - i) low high end bytes at) ≡ total → with_front (front ++ n ∷ []) (offsets_from (count - (i + 1)) (n + 1) end end bytes next) ≡ total
unfolding offsets_from
goes_on front count i low high end bytes at n next total lt h so_far =
    let k : count - i ≡ suc (count - (i + 1)) = omega arith in
    let one : with_front front (offsets_from (count - i) low high end bytes at) ≡ with_front (front ++ n ∷ []) (offsets_from (count - (i + 1)) (n + 1) end end bytes next) =
    rw (k, h) (regroup front n (offsets_from (count - (i + 1)) (n + 1) end end bytes next)) in
    sym one ∙ so_far

pub stops : (e : SlateDBError) (front : List ℕ) (count i low high end : ℕ) (bytes : List ℕ) (at : ℕ) (total : Result (List ℕ) SlateDBError) → i < count → offset_field low high bytes at ≡ Err e →
    with_front front (offsets_from (count - i) low high end bytes at) ≡ total → total ≡ Err e
unfolding offsets_from
stops e front count i low high end bytes at total lt h so_far =
    let k : count - i ≡ suc (count - (i + 1)) = omega arith in
    let one : with_front front (offsets_from (count - i) low high end bytes at) ≡ Err e = rw (k, h) refl in
    sym so_far ∙ one

pub is_done : (front : List ℕ) (count i low high end : ℕ) (bytes : List ℕ) (at : ℕ) (total : Result (List ℕ) SlateDBError) → count ≤ i → with_front front (offsets_from (count - i) low high end bytes at) ≡ total → total ≡ Ok front
unfolding offsets_from
is_done front count i low high end bytes at total le so_far =
    let k : count - i ≡ 0 = omega arith in
    let one : with_front front (offsets_from (count - i) low high end bytes at) ≡ Ok front = rw k (ap (λ (l : List ℕ). Ok l) (append-nil front)) in
    sym so_far ∙ one

-- ---- what is read is spelled

FirstRise : ℕ → ℕ → ℕ → List ℕ → Type 0
FirstRise low high end [] = Unit {0}
FirstRise low high end (x ∷ xs) = (low ≤ x) × (x < high) × (x < 2 ^ 16) × Rise (x + 1) end xs

first_is_rise : (low end : ℕ) (xs : List ℕ) → FirstRise low end end xs → Rise low end xs
unfolding FirstRise
first_is_rise low end [] h = h
first_is_rise low end (x ∷ xs) h = h

rise_is_first : (low end : ℕ) (xs : List ℕ) → Rise low end xs → FirstRise low end end xs
unfolding FirstRise
rise_is_first low end [] h = h
rise_is_first low end (x ∷ xs) h = h

record OffsetTakes (low high : ℕ) (bytes : List ℕ) (at n next : ℕ) : Type 0 where
  pub here : Stands bytes at (be16 n) next
  pub fits : n < 2 ^ 16
  pub past : low ≤ n
  pub below : n < high

choose_ok : {A : Type 0} (s t : Bool) (d : SlateDBError) (x y : A) → cond s (Err d) (cond t (Ok x) (Err d)) ≡ Ok y → (s ≡ false) × (t ≡ true) × (x ≡ y)
choose_ok true t d x y e = absurd cc
choose_ok false true d x y e = (refl, refl, ok_is x y e)
choose_ok false false d x y e = absurd cc

offset_takes : (low high : ℕ) (bytes : List ℕ) (at n next : ℕ) → IsBytes bytes → offset_field low high bytes at ≡ Ok (n, next) → OffsetTakes low high bytes at n next
unfolding offset_field
offset_takes low high bytes at n next fits e =
    let a = bind_ok (number_field w16 bytes at) (λ offset. cond (ltb offset.0 low) (Err (CorruptTable at)) (cond (ltb offset.0 high) (Ok offset) (Err (CorruptTable at)))) (n, next) e in
    let t = number_takes w16 (2 ^ 16) wide16 bytes at a.0.0 a.0.1 fits a.1 in
    let g = choose_ok (ltb a.0.0 low) (ltb a.0.0 high) (CorruptTable at) a.0 (n, next) a.2 in
    subst (λ (p : ℕ × ℕ). OffsetTakes low high bytes at p.0 p.1) g.2 (record { here = t.0; fits = t.1; past = ltb-false a.0.0 low g.0; below = ltb-true a.0.0 high g.1 })

record OffsetsTake (count low high end : ℕ) (bytes : List ℕ) (at : ℕ) (xs : List ℕ) : Type 0 where
  pub here : Stands bytes at (flat_map be16 xs) (at + 2 * count)
  pub counted : length xs ≡ count
  pub rise : FirstRise low high end xs

offsets_take : (count low high end : ℕ) (bytes : List ℕ) (at : ℕ) (xs : List ℕ) → IsBytes bytes → offsets_from count low high end bytes at ≡ Ok xs → OffsetsTake count low high end bytes at xs
unfolding offsets_from FirstRise
offsets_take zero low high end bytes at xs fits e =
    let here : Stands bytes at [] at = record { parts = refl; place = omega arith } in
    let same : at ≡ at + 2 * 0 = omega arith in
    subst (λ (l : List ℕ). OffsetsTake 0 low high end bytes at l) (ok_is [] xs e) (record { here = subst (λ (k : ℕ). Stands bytes at [] k) same here; counted = refl; rise = tt })
offsets_take (suc count) low high end bytes at xs fits e =
    let a = bind_ok (offset_field low high bytes at) (λ first. offsets_from count (first.0 + 1) end end bytes first.1 >>= λ rest. Ok (first.0 ∷ rest)) xs e in
    let b = bind_ok (offsets_from count (a.0.0 + 1) end end bytes a.0.1) (λ rest. Ok (a.0.0 ∷ rest)) xs a.2 in
    let t0 = offset_takes low high bytes at a.0.0 a.0.1 fits a.1 in
    let t1 = offsets_take count (a.0.0 + 1) end end bytes a.0.1 b.0 fits b.1 in
    let both = then bytes at (be16 a.0.0) a.0.1 (flat_map be16 b.0) (a.0.1 + 2 * count) t0.here t1.here in
    let same : a.0.1 + 2 * count ≡ at + 2 * suc count = omega (arith, t0.here.place) in
    let whole = subst (λ (k : ℕ). Stands bytes at (be16 a.0.0 ++ flat_map be16 b.0) k) same both in
    let text = subst (λ (l : List ℕ). Stands bytes at l (at + 2 * suc count)) (sym (flat_map-cons be16 a.0.0 b.0)) whole in
    subst (λ (l : List ℕ). OffsetsTake (suc count) low high end bytes at l) (ok_is (a.0.0 ∷ b.0) xs b.2)
    (record { here = text; counted = ap suc t1.counted; rise = (t0.past, t0.below, t0.fits, first_is_rise (a.0.0 + 1) end b.0 t1.rise) })

record CountTakes (bytes : List ℕ) (end count : ℕ) : Type 0 where
  pub sum : end + 2 * count + 2 ≡ length bytes
  pub some : 0 < count
  pub few : count < 2 ^ 16
  pub here : Stands bytes (end + 2 * count) (be16 count) (length bytes)

if_ok : {A : Type 0} (s t : Bool) (d f : SlateDBError) (x y : A) → cond s (Err d) (cond t (Err f) (Ok x)) ≡ Ok y → (s ≡ false) × (t ≡ false) × (x ≡ y)
if_ok true t d f x y e = absurd cc
if_ok false true d f x y e = absurd cc
if_ok false false d f x y e = (refl, refl, ok_is x y e)

long_enough : {A : Type 0} (s : Bool) (d : SlateDBError) (r : Result A SlateDBError) (y : A) → cond s (Err d) r ≡ Ok y → (s ≡ false) × (r ≡ Ok y)
long_enough true d r y e = absurd cc
long_enough false d r y e = (refl, e)

count_takes : (bytes : List ℕ) (end count : ℕ) → IsBytes bytes → counted_offsets bytes ≡ Ok (end, count) → CountTakes bytes end count
unfolding counted_offsets
count_takes bytes end count fits e =
    let n = length bytes - 2 in
    let f : ℕ × ℕ → Result (ℕ × ℕ) SlateDBError = λ c. cond (eqb c.0 0) (Err (CorruptTable n)) (cond (ltb n (2 * c.0)) (Err (CorruptTable n)) (Ok (n - 2 * c.0, c.0))) in
    let l = long_enough (ltb (length bytes) 2) (CorruptTable 0) (number_field w16 bytes n >>= f) (end, count) e in
    let long : 2 ≤ length bytes = ltb-false (length bytes) 2 l.0 in
    let a = bind_ok (number_field w16 bytes n) f (end, count) l.1 in
    let t = number_takes w16 (2 ^ 16) wide16 bytes n a.0.0 a.0.1 fits a.1 in
    let g = if_ok (eqb a.0.0 0) (ltb n (2 * a.0.0)) (CorruptTable n) (CorruptTable n) (n - 2 * a.0.0, a.0.0) (end, count) a.2 in
    let some : 0 < a.0.0 = grind (arith, nat_tests) in
    let room : 2 * a.0.0 ≤ n = ltb-false n (2 * a.0.0) g.1 in
    let place : n ≡ n - 2 * a.0.0 + 2 * a.0.0 = omega arith in
    let next : a.0.1 ≡ length bytes = omega (arith, t.0.place, long) in
    let here = subst (λ (k : ℕ). Stands bytes k (be16 a.0.0) (length bytes)) place (subst (λ (k : ℕ). Stands bytes n (be16 a.0.0) k) next t.0) in
    subst (λ (p : ℕ × ℕ). CountTakes bytes p.0 p.1) g.2 (record { sum = omega (arith, long, room); some = some; few = t.1; here = here })

are_offsets : (end : ℕ) (xs : List ℕ) → 0 < length xs → FirstRise 0 (min 1 end) end xs → AreOffsets end xs
unfolding FirstRise
are_offsets end [] some h = absurd (omega arith)
are_offsets end (x ∷ xs) some h =
    let first : x ≡ 0 = omega (arith, h.1) in
    (first, omega (arith, h.1), subst (λ (k : ℕ). Rise (k + 1) end xs) first h.3)

drop_all : (bytes : List ℕ) → drop (length bytes) bytes ≡ []
drop_all bytes = nil_from_length (drop (length bytes) bytes) (omega (arith, length-drop (length bytes) bytes))

pub block_takes_apart : (bytes : List ℕ) (end : ℕ) (offsets : List ℕ) → IsBytes bytes → offsets_of_block bytes ≡ Ok (end, offsets) → IsApart (take end bytes) offsets bytes
unfolding offsets_of_block
block_takes_apart bytes end offsets fits e =
    let a = bind_ok (counted_offsets bytes) (λ counted. offsets_from counted.1 0 (min 1 counted.0) counted.0 bytes counted.0 >>= λ xs. Ok (counted.0, xs)) (end, offsets) e in
    let b = bind_ok (offsets_from a.0.1 0 (min 1 a.0.0) a.0.0 bytes a.0.0) (λ xs. Ok (a.0.0, xs)) (end, offsets) a.2 in
    let c = count_takes bytes a.0.0 a.0.1 fits a.1 in
    let o = offsets_take a.0.1 0 (min 1 a.0.0) a.0.0 bytes a.0.0 b.0 fits b.1 in
    let body = take a.0.0 bytes in
    let size : length body ≡ a.0.0 = omega (arith, length-take a.0.0 bytes, c.sum) in
    let both = then bytes a.0.0 (flat_map be16 b.0) (a.0.0 + 2 * a.0.1) (be16 a.0.1) (length bytes) o.here c.here in
    let tail : drop a.0.0 bytes ≡ flat_map be16 b.0 ++ be16 (length b.0) = both.parts ∙ ap (λ (l : List ℕ). (flat_map be16 b.0 ++ be16 a.0.1) ++ l) (drop_all bytes) ∙ append-nil (flat_map be16 b.0 ++ be16 a.0.1) ∙ ap (λ (k : ℕ). flat_map be16 b.0 ++ be16 k) (sym o.counted) in
    let whole : bytes ≡ block_spelling body b.0 = sym (take-append-drop a.0.0 bytes) ∙ ap (λ (l : List ℕ). body ++ l) tail ∙ sym (append_assoc body (flat_map be16 b.0) (be16 (length b.0))) in
    let offs = subst (λ (k : ℕ). AreOffsets k b.0) (sym size) (are_offsets a.0.0 b.0 (omega (arith, o.counted, c.some)) o.rise) in
    subst (λ (p : ℕ × List ℕ). IsApart (take p.0 bytes) p.1 bytes) (ok_is (a.0.0, b.0) (end, offsets) b.2) (offs, omega (arith, o.counted, c.few), whole)

-- ---- what is spelled is read

offset_again : (low high : ℕ) (bytes rest : List ℕ) (at n : ℕ) → low ≤ n → n < high → n < 2 ^ 16 → drop at bytes ≡ be16 n ++ rest → offset_field low high bytes at ≡ Ok (n, at + 2)
unfolding offset_field
offset_again low high bytes rest at n p q fits h = rw (number_again w16 (2 ^ 16) wide16 bytes rest at n fits h, le-ltb n low p, lt-ltb n high q) refl

offsets_again : (xs : List ℕ) (low high end : ℕ) (bytes rest : List ℕ) (at : ℕ) → FirstRise low high end xs → drop at bytes ≡ flat_map be16 xs ++ rest → offsets_from (length xs) low high end bytes at ≡ Ok xs
unfolding offsets_from FirstRise
offsets_again [] low high end bytes rest at h d = refl
offsets_again (x ∷ xs) low high end bytes rest at h d =
    let parts : drop at bytes ≡ be16 x ++ (flat_map be16 xs ++ rest) = d ∙ ap (λ (l : List ℕ). l ++ rest) (flat_map-cons be16 x xs) ∙ append_assoc (be16 x) (flat_map be16 xs) rest in
    let first = offset_again low high bytes (flat_map be16 xs ++ rest) at x h.0 h.1 h.2 parts in
    let later = offsets_again xs (x + 1) end end bytes rest (at + 2) (rise_is_first (x + 1) end xs h.3) (behind bytes (be16 x) (flat_map be16 xs ++ rest) at parts) in
    rw (first, later) refl

length_offsets : (xs : List ℕ) → length (flat_map be16 xs) ≡ 2 * length xs
length_offsets [] = refl
length_offsets (x ∷ xs) = ap length (flat_map-cons be16 x xs) ∙ omega (arith, length-append (be16 x) (flat_map be16 xs), length_offsets xs)

pub offsets_len : (xs : List ℕ) → length (flat_map be16 xs ++ be16 (length xs)) ≡ 2 * length xs + 2
offsets_len xs = length-append (flat_map be16 xs) (be16 (length xs)) ∙ omega (arith, length_offsets xs)

pub block_len : (body xs : List ℕ) → length body + length (flat_map be16 xs ++ be16 (length xs)) ≡ length (block_spelling body xs)
block_len body xs = sym (ap length (append_assoc body (flat_map be16 xs) (be16 (length xs))) ∙ length-append body (flat_map be16 xs ++ be16 (length xs)))

first_rise : (end : ℕ) (xs : List ℕ) → AreOffsets end xs → (0 < length xs) × FirstRise 0 (min 1 end) end xs
unfolding FirstRise
first_rise end [] h = absurd h
first_rise end (x ∷ xs) h = (omega arith, (omega arith, omega (arith, h.0, h.1), omega (arith, h.0), subst (λ (k : ℕ). Rise (k + 1) end xs) (sym h.0) h.2))

count_again : (bytes : List ℕ) (end count : ℕ) → end + 2 * count + 2 ≡ length bytes → 0 < count → count < 2 ^ 16 → drop (length bytes - 2) bytes ≡ be16 count ++ [] → counted_offsets bytes ≡ Ok (end, count)
unfolding counted_offsets
count_again bytes end count sum some few h =
    let n = length bytes - 2 in
    let long : ltb (length bytes) 2 ≡ false = le-ltb (length bytes) 2 (omega (arith, sum)) in
    let r = number_again w16 (2 ^ 16) wide16 bytes [] n count few h in
    let not_0 : eqb count 0 ≡ false = grind (arith, nat_tests) in
    let room : ltb n (2 * count) ≡ false = le-ltb n (2 * count) (omega (arith, sum)) in
    let place : n - 2 * count ≡ end = omega (arith, sum) in
    rw (long, r, not_0, room, place) refl

pub block_again_apart : (body offsets bytes : List ℕ) → IsApart body offsets bytes → (x : ℕ × List ℕ) × (offsets_of_block bytes ≡ Ok x)
unfolding offsets_of_block
block_again_apart body offsets bytes apart =
    let count = length offsets in
    let front = body ++ flat_map be16 offsets in
    let whole = apart.2 in
    let first = first_rise (length body) offsets apart.0 in
    let sum : length body + 2 * count + 2 ≡ length bytes = omega (arith, ap length whole, length-append front (be16 count), length-append body (flat_map be16 offsets), length_offsets offsets) in
    let place : length bytes - 2 ≡ length front = omega (arith, sum, length-append body (flat_map be16 offsets), length_offsets offsets) in
    let last : drop (length bytes - 2) bytes ≡ be16 count ++ [] = ap (drop (length bytes - 2)) whole ∙ drop_at front (be16 count) (length bytes - 2) (sym place) ∙ sym (append-nil (be16 count)) in
    let counted = count_again bytes (length body) count sum first.0 apart.1 last in
    let behind_body : drop (length body) bytes ≡ flat_map be16 offsets ++ be16 count = ap (drop (length body)) (whole ∙ append_assoc body (flat_map be16 offsets) (be16 count)) ∙ drop_at body (flat_map be16 offsets ++ be16 count) (length body) refl in
    let read = offsets_again offsets 0 (min 1 (length body)) (length body) bytes (be16 count) (length body) first.1 behind_body in
    ((length body, offsets), rw (counted, read) refl)

pub refused_block : (body offsets bytes : List ℕ) (e m : SlateDBError) → (e ≡ m) ⊎ (offsets_of_block bytes ≡ Err e) → IsApart body offsets bytes → e ≡ m
refused_block body offsets bytes e m (inl h) apart = h
refused_block body offsets bytes e m (inr h) apart = let found = block_again_apart body offsets bytes apart in let clash : Ok found.0 ≡ Err e = sym found.1 ∙ h in absurd cc

-- ---- the count and the offsets are read one after the other

pub no_count : (bytes : List ℕ) (e : SlateDBError) → Err e ≡ counted_offsets bytes → offsets_of_block bytes ≡ Err e
unfolding offsets_of_block
no_count bytes e h = rw (sym h) refl

pub no_offsets : (bytes : List ℕ) (end count : ℕ) (e m : SlateDBError) → Ok (end, count) ≡ counted_offsets bytes → (e ≡ m) ⊎ (offsets_from count 0 (min 1 end) end bytes end ≡ Err e) → (e ≡ m) ⊎ (offsets_of_block bytes ≡ Err e)
unfolding offsets_of_block
no_offsets bytes end count e m counted (inl h) = inl h
no_offsets bytes end count e m counted (inr h) = inr (rw (sym counted, h) refl)

pub offsets_read : (bytes : List ℕ) (end count : ℕ) (offsets : List ℕ) → Ok (end, count) ≡ counted_offsets bytes → offsets_from count 0 (min 1 end) end bytes end ≡ Ok offsets → offsets_of_block bytes ≡ Ok (end, offsets)
unfolding offsets_of_block
offsets_read bytes end count offsets counted read = rw (sym counted, read) refl
