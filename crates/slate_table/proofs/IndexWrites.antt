-- The entries of an index, written one after the other.
use Rattle.std.proofs.Common.{◌≡◌, ℕ, ◌+◌, ◌<◌, List, [], ◌∷◌, ◌++◌, length, get_or, take, sym, ap, ◌∙◌, append_assoc, arith}
use Rattle.std.proofs.lemmas.List.{append-nil, length-take, take_more}
use Rattle.slate_block.specs.RowSpelling.{be16, be64}
use Rattle.slate_table.specs.Parts.{index_entries}

abbrev pub one_entry : ℕ → List ℕ → List ℕ
one_entry at key = be64 at ++ (be16 (length key) ++ key)

entries_end : (ats : List ℕ) (ks : List (List ℕ)) (a : ℕ) (k : List ℕ) → length ks ≡ length ats → index_entries (ats ++ a ∷ []) (ks ++ k ∷ []) ≡ index_entries ats ks ++ one_entry a k
entries_end [] [] a k n = ap (λ (l : List ℕ). be64 a ++ (be16 (length k) ++ l)) (append-nil k)
entries_end [] (y ∷ ks) a k n = absurd (omega (arith, n))
entries_end (x ∷ ats) [] a k n = absurd (omega (arith, n))
entries_end (x ∷ ats) (y ∷ ks) a k n =
    let later = entries_end ats ks a k (omega (arith, n)) in
    ap (λ (l : List ℕ). be64 x ++ (be16 (length y) ++ l)) (ap (λ (l : List ℕ). y ++ l) later ∙ sym (append_assoc y (index_entries ats ks) (one_entry a k)))

pub one_more : (ats : List ℕ) (ks : List (List ℕ)) (i : ℕ) → i < length ats → length ks ≡ length ats →
    index_entries (take (i + 1) ats) (take (i + 1) ks) ≡ index_entries (take i ats) (take i ks) ++ one_entry (get_or ats i 0) (get_or ks i [])
one_more ats ks i p n =
    let q : i < length ks = omega (arith, n) in
    let sizes : length (take i ks) ≡ length (take i ats) = omega (arith, length-take i ks, length-take i ats, n) in
    rw (take_more ats i 0 p, take_more ks i [] q) (entries_end (take i ats) (take i ks) (get_or ats i 0) (get_or ks i []) sizes)
