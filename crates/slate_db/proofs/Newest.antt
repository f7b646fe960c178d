-- The newest rows of a key in layers, and their fold.
use Rattle.std.proofs.Common.{◌≡◌, ℕ, Bool, true, false, cond, ◌&&◌, List, [], ◌∷◌, ◌++◌, filter, reverse, refl, sym, ap, ◌∙◌, bytes_eq, nat_le, append-nil}
use Rattle.std.proofs.lemmas.List.{reverse-append}
use Rattle.std.proofs.lemmas.List.Elements.{filter-append}
use Rattle.slate_types.specs.declared.types.RowEntry.{RowEntry}
use Rattle.slate_mem.specs.Table.{to_base, up_to, newest}
use Rattle.slate_mem.specs.Lookup.{newest_first}
use Rattle.slate_mem.proofs.LayerLaws.{both, first_more}
use Rattle.slate_db.specs.Model.{Rows, versions, versions_in}
use Rattle.slate_types.specs.Rows.{of_key}
use Rattle.slate_db.specs.Sound.{at_most}

pub up_to_is : (k : List ℕ) (n : ℕ) (rows : Rows) → up_to k n rows ≡ at_most n (of_key k rows)
up_to_is k n [] = refl
up_to_is k n (r ∷ rs) = by (bytes_eq r.key k) (nat_le r.seq n) refl (up_to_is k n rs)
  where
    by : (a b : Bool) → nat_le r.seq n ≡ b → up_to k n rs ≡ at_most n (of_key k rs) → cond (a && b) (r ∷ up_to k n rs) (up_to k n rs) ≡ at_most n (cond a (r ∷ of_key k rs) (of_key k rs))
    by true true e rest = ap (λ xs. r ∷ xs) rest ∙ sym (ap (λ t. cond t (r ∷ at_most n (of_key k rs)) (at_most n (of_key k rs))) e)
    by true false e rest = rest ∙ sym (ap (λ t. cond t (r ∷ at_most n (of_key k rs)) (at_most n (of_key k rs))) e)
    by false b e rest = rest

turned_filter : (t : RowEntry → Bool) (xs : Rows) → filter t (reverse xs) ≡ reverse (filter t xs)
turned_filter t [] = refl
turned_filter t (x ∷ xs) =
    ap (filter t) (reverse-append (x ∷ []) xs) ∙ filter-append t (reverse xs) (x ∷ []) ∙ ap (λ ys. ys ++ cond (t x) (x ∷ []) []) (turned_filter t xs) ∙ by (t x)
  where
    by : (b : Bool) → reverse (filter t xs) ++ cond b (x ∷ []) [] ≡ reverse (cond b (x ∷ filter t xs) (filter t xs))
    by true = sym (reverse-append (x ∷ []) (filter t xs))
    by false = append-nil (reverse (filter t xs))

-- the rows of a key up to a sequence, turned round
pub versions_are : (k : List ℕ) (n : ℕ) (layers : List Rows) → reverse (up_to k n (newest_first layers)) ≡ at_most n (versions_in k layers)
versions_are k n [] = refl
versions_are k n (x ∷ layers) =
    ap (λ rows. reverse (up_to k n rows)) (first_more x layers)
    ∙ ap reverse (both k n (newest_first layers) x)
    ∙ reverse-append (up_to k n (newest_first layers)) (up_to k n x)
    ∙ (λ i. reverse (up_to_is k n x i) ++ versions_are k n layers i)
    ∙ ap (λ ys. ys ++ at_most n (versions_in k layers)) (sym (turned_filter (λ r. nat_le r.seq n) (of_key k x)))
    ∙ sym (filter-append (λ r. nat_le r.seq n) (versions k x) (versions_in k layers))

pub all_versions_are : (k : List ℕ) (layers : List Rows) → versions k (newest_first layers) ≡ versions_in k layers
all_versions_are k [] = refl
all_versions_are k (x ∷ layers) =
    ap (versions k) (first_more x layers)
    ∙ ap reverse (filter-append (λ r. bytes_eq r.key k) (newest_first layers) x)
    ∙ reverse-append (of_key k (newest_first layers)) (of_key k x)
    ∙ ap (λ xs. versions k x ++ xs) (all_versions_are k layers)

-- rows with the same ones of a key
pub newest_same : (k : List ℕ) (n : ℕ) (xs ys : Rows) → of_key k xs ≡ of_key k ys → newest k n xs ≡ newest k n ys
newest_same k n xs ys h = ap to_base (up_to_is k n xs ∙ ap (at_most n) h ∙ sym (up_to_is k n ys))
