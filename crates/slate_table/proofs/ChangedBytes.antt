-- A checksum tells each byte that was changed.
use Rattle.std.proofs.Common.{◌≡◌, ◌⊎◌, inl, inr, ℕ, zero, suc, ◌+◌, ◌-◌, ◌*◌, ◌/◌, ◌%◌, ◌^◌, ◌<◌, Bool, true, false, cond, eqb, List, [], ◌∷◌, ◌++◌, length, take, drop, refl, sym, ap, subst, ◌∙◌, arith, append_assoc}
use Rattle.std.specs.Prelude.{◌≢◌, bit_xor, slice_index, Contains}
use Rattle.std.specs.Int.Bits.{xor_assoc, xor_self, xor_zero_l}
use Rattle.std.proofs.lemmas.Bool.{eqb-true, eqb-false}
use Rattle.std.proofs.lemmas.List.{append_cancel_left, length-append, take_at, drop_at}
use Rattle.std.proofs.lemmas.Nat.{xor_comm, xor_lt, xor_mod}
use Rattle.std.proofs.lemmas.Slice.Eq.{bytes_eq-Decides}
use Rattle.slate_block.specs.RowSpelling.{be32}
use Rattle.slate_block.proofs.Pieces.{same_ends}
use Rattle.slate_table.specs.ChangedBytes.{IsByteChanged}
use Rattle.slate_table.specs.Checksum.{crc_bit, crc_bits, crc_from, crc32}
use Rattle.slate_table.specs.Parts.{sum_fits, summed}
use Rattle.slate_table.proofs.CrcLaws.{bits_linear, from_linear, twice, xor_zero_r}
use Rattle.slate_table.proofs.SectionReads.{bits_below}

-- ---- no difference gets lost

xor_none : (a b : ℕ) → bit_xor a b ≡ 0 → a ≡ b
xor_none a b h = sym (xor_zero_r a) ∙ ap (bit_xor a) (sym (xor_self b)) ∙ sym (xor_assoc a b b) ∙ ap (λ (x : ℕ). bit_xor x b) h ∙ xor_zero_l b

xor_back : (a p : ℕ) → bit_xor (bit_xor a p) p ≡ a
xor_back a p = xor_assoc a p p ∙ ap (bit_xor a) (xor_self p) ∙ xor_zero_r a

same_behind : (a b p : ℕ) → bit_xor a p ≡ bit_xor b p → a ≡ b
same_behind a b p h = sym (xor_back a p) ∙ ap (λ (x : ℕ). bit_xor x p) h ∙ xor_back b p

no_bit : (c : ℕ) → c < 2 ^ 32 → crc_bit c ≡ 0 → c ≡ 0
no_bit c lt h = by (eqb (c % 2) 1) refl h
  where
    by : (t : Bool) → eqb (c % 2) 1 ≡ t → cond t (bit_xor (c / 2) 0xedb88320) (c / 2) ≡ 0 → c ≡ 0
    by true odd none = let half : c / 2 ≡ 0xedb88320 = xor_none (c / 2) 0xedb88320 none in absurd (omega (arith, lt, half))
    by false odd none = let even : c % 2 ≢ 1 = eqb-false (c % 2) 1 odd in omega (arith, none, even)

no_bits : (n c : ℕ) → c < 2 ^ 32 → crc_bits n c ≡ 0 → c ≡ 0
no_bits zero c lt h = h
no_bits (suc n) c lt h = no_bit c lt (no_bits n (crc_bit c) (bits_below 1 c lt) h)

-- the checksum behind a byte, from that behind another one
behind_other : (c x y : ℕ) (bs : List ℕ) → crc_from c (x ∷ bs) ≡ bit_xor (crc_bits (8 * length bs) (crc_bits 8 (bit_xor x y))) (crc_from c (y ∷ bs))
behind_other c x y bs =
    ap (λ (n : ℕ). crc_from (crc_bits 8 n) bs) (xor_comm c x ∙ sym (twice x c y))
    ∙ ap (λ (n : ℕ). crc_from n bs) (bits_linear 8 (bit_xor x y) (bit_xor c y))
    ∙ from_linear (crc_bits 8 (bit_xor x y)) (crc_bits 8 (bit_xor c y)) bs

same_byte : (c x y : ℕ) (bs : List ℕ) → x < 256 → y < 256 → crc_from c (x ∷ bs) % 2 ^ 32 ≡ crc_from c (y ∷ bs) % 2 ^ 32 → x ≡ y
same_byte c x y bs lx ly h =
    let apart = bit_xor x y in
    let small : apart < 2 ^ 8 = xor_lt 8 x y lx ly in
    let first : crc_bits 8 apart < 2 ^ 32 = bits_below 8 apart (omega (arith, small)) in
    let e = crc_bits (8 * length bs) (crc_bits 8 apart) in
    let below : e < 2 ^ 32 = bits_below (8 * length bs) (crc_bits 8 apart) first in
    let rest = crc_from c (y ∷ bs) in
    let low : e % 2 ^ 32 ≡ e = omega (arith, below) in
    let both : bit_xor e (rest % 2 ^ 32) ≡ rest % 2 ^ 32 =
    ap (λ (n : ℕ). bit_xor n (rest % 2 ^ 32)) (sym low) ∙ sym (xor_mod e rest 32) ∙ ap (λ (n : ℕ). n % 2 ^ 32) (sym (behind_other c x y bs)) ∙ h in
    let none : e ≡ 0 = same_behind e 0 (rest % 2 ^ 32) (both ∙ sym (xor_zero_l (rest % 2 ^ 32))) in
    xor_none x y (no_bits 8 apart (omega (arith, small)) (no_bits (8 * length bs) (crc_bits 8 apart) first none))

from_both : (c : ℕ) (a b : List ℕ) → crc_from c (a ++ b) ≡ crc_from (crc_from c a) b
from_both c [] b = refl
from_both c (x ∷ a) b = from_both (crc_bits 8 (bit_xor c x)) a b

-- what a checksum's bytes have of it
low_word : (m n : ℕ) → be32 m ≡ be32 n → m % 2 ^ 32 ≡ n % 2 ^ 32
low_word m n h =
    let a : m / 256 ^ 3 % 256 ≡ n / 256 ^ 3 % 256 = ap (λ (l : List ℕ). slice_index l 0) h in
    let b : m / 256 ^ 2 % 256 ≡ n / 256 ^ 2 % 256 = ap (λ (l : List ℕ). slice_index l 1) h in
    let c : m / 256 ^ 1 % 256 ≡ n / 256 ^ 1 % 256 = ap (λ (l : List ℕ). slice_index l 2) h in
    let d : m % 256 ≡ n % 256 = ap (λ (l : List ℕ). slice_index l 3) h in
    omega (arith, a, b, c, d)

same_covered : (front behind : List ℕ) (x y : ℕ) → x < 256 → y < 256 → be32 (crc32 (front ++ (x ∷ behind))) ≡ be32 (crc32 (front ++ (y ∷ behind))) → x ≡ y
same_covered front behind x y lx ly h =
    let one = crc_from 0xffffffff (front ++ (x ∷ behind)) in
    let other = crc_from 0xffffffff (front ++ (y ∷ behind)) in
    let low : bit_xor (one % 2 ^ 32) (0xffffffff % 2 ^ 32) ≡ bit_xor (other % 2 ^ 32) (0xffffffff % 2 ^ 32) =
    sym (xor_mod one 0xffffffff 32) ∙ low_word (bit_xor one 0xffffffff) (bit_xor other 0xffffffff) h ∙ xor_mod other 0xffffffff 32 in
    same_byte (crc_from 0xffffffff front) x y behind lx ly
    (ap (λ (n : ℕ). n % 2 ^ 32) (sym (from_both 0xffffffff front (x ∷ behind))) ∙ same_behind (one % 2 ^ 32) (other % 2 ^ 32) (0xffffffff % 2 ^ 32) low ∙ ap (λ (n : ℕ). n % 2 ^ 32) (from_both 0xffffffff front (y ∷ behind)))

-- ---- where the byte stands

-- of bytes with their checksum behind: in the bytes, or in the checksum
abbrev Split : List ℕ → List ℕ → List ℕ → ℕ → List ℕ → Type 0
Split stored sum front b behind =
    ((mid : List ℕ) × (stored ≡ front ++ (b ∷ mid)) × (behind ≡ mid ++ sum))
    ⊎ ((mid : List ℕ) × (front ≡ stored ++ mid) × (sum ≡ mid ++ (b ∷ behind)))

head_is : (a b : ℕ) (x y : List ℕ) → a ∷ x ≡ b ∷ y → a ≡ b
head_is a b x y h = ap (λ (l : List ℕ). slice_index l 0) h

tail_is : (a b : ℕ) (x y : List ℕ) → a ∷ x ≡ b ∷ y → x ≡ y
tail_is a b x y h = ap (λ (l : List ℕ). drop 1 l) h

split : (stored sum front : List ℕ) (b : ℕ) (behind : List ℕ) → stored ++ sum ≡ front ++ (b ∷ behind) → Split stored sum front b behind
split [] sum front b behind h = inr (front, refl, h)
split (s ∷ stored) sum [] b behind h = inl (stored, ap (λ (n : ℕ). n ∷ stored) (head_is s b (stored ++ sum) behind h), sym (tail_is s b (stored ++ sum) behind h))
split (s ∷ stored) sum (f ∷ front) b behind h = by (split stored sum front b behind (tail_is s f (stored ++ sum) (front ++ (b ∷ behind)) h))
  where
    same : s ≡ f
    same = head_is s f (stored ++ sum) (front ++ (b ∷ behind)) h

    by : Split stored sum front b behind → Split (s ∷ stored) sum (f ∷ front) b behind
    by (inl (mid, here, later)) = inl (mid, (λ i. same i ∷ here i), later)
    by (inr (mid, here, later)) = inr (mid, (λ i. sym same i ∷ here i), later)

-- ---- it is told

fits_is : (cover a sum : List ℕ) → length sum ≡ 4 → sum_fits cover (a ++ sum) ≡ true → sum ≡ be32 (crc32 (cover ++ a))
fits_is cover a sum four h =
    let all = a ++ sum in
    let size : length all - 4 ≡ length a = let n = length-append a sum in omega (arith, n, four) in
    sym (drop_at a sum (length a) refl) ∙ ap (λ (n : ℕ). drop n all) (sym size)
    ∙ (bytes_eq-Decides (drop (length all - 4) all) (be32 (crc32 (cover ++ take (length all - 4) all)))).0 h
    ∙ ap (λ (l : List ℕ). be32 (crc32 (cover ++ l))) (ap (λ (n : ℕ). take n all) size ∙ take_at a sum (length a) refl)

told_by : (cover stored changed : List ℕ) → IsByteChanged (summed cover stored) changed → sum_fits cover changed ≡ true → ⊥
told_by cover stored changed c fits = by (split stored sum c.front c.old c.behind c.was)
  where
    sum : List ℕ
    sum = be32 (crc32 (cover ++ stored))

    by : Split stored sum c.front c.old c.behind → ⊥
    by (inl (mid, here, later)) =
        let other = c.front ++ (c.new ∷ mid) in
        let is : changed ≡ other ++ sum = c.is ∙ ap (λ (l : List ℕ). c.front ++ (c.new ∷ l)) later ∙ sym (append_assoc c.front (c.new ∷ mid) sum) in
        let same = fits_is cover other sum refl (ap (sum_fits cover) (sym is) ∙ fits) in
        c.differs (same_covered (cover ++ c.front) mid c.old c.new c.old_byte c.new_byte
        (ap (λ (l : List ℕ). be32 (crc32 l)) (append_assoc cover c.front (c.old ∷ mid) ∙ ap (λ (l : List ℕ). cover ++ l) (sym here)) ∙ same
        ∙ ap (λ (l : List ℕ). be32 (crc32 l)) (sym (append_assoc cover c.front (c.new ∷ mid)))))
    by (inr (mid, here, later)) =
        let other = mid ++ (c.new ∷ c.behind) in
        let is : changed ≡ stored ++ other = c.is ∙ ap (λ (l : List ℕ). l ++ (c.new ∷ c.behind)) here ∙ append_assoc stored mid (c.new ∷ c.behind) in
        let was = length-append mid (c.old ∷ c.behind) in
        let now = length-append mid (c.new ∷ c.behind) in
        let all : 4 ≡ length (mid ++ (c.old ∷ c.behind)) = ap (λ (l : List ℕ). length l) later in
        let four : length other ≡ 4 = omega (arith, was, now, all) in
        let same = fits_is cover stored other four (ap (sum_fits cover) (sym is) ∙ fits) in
        c.differs (head_is c.old c.new c.behind c.behind (append_cancel_left mid (c.old ∷ c.behind) (c.new ∷ c.behind) (sym later ∙ sym same)))

pub byte_told : (cover stored changed : List ℕ) → IsByteChanged (summed cover stored) changed → sum_fits cover changed ≡ false
byte_told cover stored changed c = by (sum_fits cover changed) refl
  where
    by : (t : Bool) → sum_fits cover changed ≡ t → t ≡ false
    by true fits = absurd (told_by cover stored changed c fits)
    by false fits = refl
