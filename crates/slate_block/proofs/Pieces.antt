-- Byte strings that stand one behind the other, and how they are told apart.
use Rattle.std.proofs.Common.{◌≡◌, ℕ, ◌<◌, ◌^◌, List, [], ◌∷◌, ◌++◌, length, get_or, refl, sym, ap, ◌∙◌, arith, length-append}
use Rattle.std.specs.Int.{w16, w32, w64, from_be_bytes}
use Rattle.std.proofs.lemmas.Nat.{from_be_bytes-to_be_bytes_2, from_be_bytes-to_be_bytes_4, from_be_bytes-to_be_bytes_8}
use Rattle.slate_block.specs.RowSpelling.{be16, be32, be64}

pub same_head : (p q : ℕ) (x y : List ℕ) → p ∷ x ≡ q ∷ y → p ≡ q
same_head p q x y h = ap (λ l. get_or l 0 0) h

after : List ℕ → List ℕ
after [] = []
after (b ∷ bs) = bs

pub same_tail : (p q : ℕ) (x y : List ℕ) → p ∷ x ≡ q ∷ y → x ≡ y
unfolding after
same_tail p q x y h = ap after h

-- of equal length they end at one place
pub same_pieces : (a b x y : List ℕ) → length a ≡ length b → a ++ x ≡ b ++ y → (a ≡ b) × (x ≡ y)
same_pieces [] [] x y n h = (refl, h)
same_pieces [] (q ∷ b) x y n h = absurd (omega (arith, n))
same_pieces (p ∷ a) [] x y n h = absurd (omega (arith, n))
same_pieces (p ∷ a) (q ∷ b) x y n h =
    let rest = same_pieces a b x y (omega (arith, n)) (same_tail p q (a ++ x) (b ++ y) h) in
    let first : p ≡ q = same_head p q (a ++ x) (b ++ y) h in
    ((λ i. first i ∷ rest.0 i), rest.1)

pub same_ends : (a b x y : List ℕ) → length x ≡ length y → a ++ x ≡ b ++ y → (a ≡ b) × (x ≡ y)
same_ends a b x y n h =
    let whole : length (a ++ x) ≡ length (b ++ y) = ap (λ l. length l) h in
    same_pieces a b x y (omega (arith, n, whole, length-append a x, length-append b y)) h

pub same_whole : (a b : List ℕ) → a ≡ b → a ++ [] ≡ b ++ []
same_whole a b h = ap (λ l. l ++ []) h

-- ---- numbers of 2, 4 and 8 bytes

pub same_be16 : (m n : ℕ) (x y : List ℕ) → m < 2 ^ 16 → n < 2 ^ 16 → be16 m ++ x ≡ be16 n ++ y → (m ≡ n) × (x ≡ y)
same_be16 m n x y p q h =
    let both = same_pieces (be16 m) (be16 n) x y refl h in
    (sym (from_be_bytes-to_be_bytes_2 m p) ∙ ap (from_be_bytes w16) both.0 ∙ from_be_bytes-to_be_bytes_2 n q, both.1)

pub same_be32 : (m n : ℕ) (x y : List ℕ) → m < 2 ^ 32 → n < 2 ^ 32 → be32 m ++ x ≡ be32 n ++ y → (m ≡ n) × (x ≡ y)
same_be32 m n x y p q h =
    let both = same_pieces (be32 m) (be32 n) x y refl h in
    (sym (from_be_bytes-to_be_bytes_4 m p) ∙ ap (from_be_bytes w32) both.0 ∙ from_be_bytes-to_be_bytes_4 n q, both.1)

pub same_be64 : (m n : ℕ) (x y : List ℕ) → m < 2 ^ 64 → n < 2 ^ 64 → be64 m ++ x ≡ be64 n ++ y → (m ≡ n) × (x ≡ y)
same_be64 m n x y p q h =
    let both = same_pieces (be64 m) (be64 n) x y refl h in
    (sym (from_be_bytes-to_be_bytes_8 m p) ∙ ap (from_be_bytes w64) both.0 ∙ from_be_bytes-to_be_bytes_8 n q, both.1)
