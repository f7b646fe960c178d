-- A line that asks for a search names an index that there is, and a field that it can have.
use Rattle.std.proofs.Common.{◌≡◌, ℕ, ◌<◌, ◌≤◌, Bool, true, false, cond, List, [], ◌∷◌, length, bytes_eq, codes, Option, Some, None, option_map, refl, subst, arith}
use Rattle.std.specs.Prelude.{nat_le, nat_lt}
use Rattle.std.proofs.lemmas.Bool.Decides.{nat_tests}
use Rattle.slate_language.specs.Parse.{both, only_if, read_bytes, read_number, tokens_of, ◌>>=◌}
use Rattle.slate_index.specs.declared.line.Line.{Line}
use Rattle.slate_index.specs.declared.line.Line.TheVariants as lines
use Rattle.slate_index.specs.Entries.{FieldsModel, longest_field}
use Rattle.slate_index.specs.Script.{IsOwn, delete_line, find_line, line_behind, line_of, meaning, name_in, put_line}

same_line : (l k : Line) → Some l ≡ Some k → l ≡ k
same_line l k e = cc

below : (n m : ℕ) → nat_lt n m ≡ true → n < m
below n m h = grind (arith, nat_tests)

short : (n : ℕ) → nat_le n longest_field ≡ true → n ≤ longest_field
short n h = grind (arith, nat_tests)

module _ (fs : FieldsModel) (l : Line) where
  of_put : (a b : Option (List ℕ)) → both lines.Put a b ≡ Some l → IsOwn fs l
  of_put None b e = cc
  of_put (Some x) None e = cc
  of_put (Some x) (Some y) e = subst (IsOwn fs) (same_line (lines.Put x y) l e) tt

  of_delete : (a : Option (List ℕ)) → option_map lines.Delete a ≡ Some l → IsOwn fs l
  of_delete None e = cc
  of_delete (Some x) e = subst (IsOwn fs) (same_line (lines.Delete x) l e) tt

  of_find : (a : Option ℕ) (b : Option (List ℕ)) → both lines.Find (a >>= λ n. only_if (nat_lt n fs.count) n) (b >>= λ f. only_if (nat_le (length f) longest_field) f) ≡ Some l → IsOwn fs l
  of_find None b e = cc
  of_find (Some n) b e = by (nat_lt n fs.count) refl b e
    where
      at : (f : List ℕ) → nat_lt n fs.count ≡ true → (t : Bool) → nat_le (length f) longest_field ≡ t → both lines.Find (Some n) (only_if t f) ≡ Some l → IsOwn fs l
      at f below_it false is e = cc
      at f below_it true is e = subst (IsOwn fs) (same_line (lines.Find n f) l e) (below n fs.count below_it, short (length f) is)

      by : (t : Bool) → nat_lt n fs.count ≡ t → (b : Option (List ℕ)) → both lines.Find (only_if t n) (b >>= λ f. only_if (nat_le (length f) longest_field) f) ≡ Some l → IsOwn fs l
      by false is b e = cc
      by true is None e = cc
      by true is (Some f) e = at f is (nat_le (length f) longest_field) refl e

  put_own : (ts : List (List ℕ)) → put_line ts ≡ Some l → IsOwn fs l
  put_own [] e = cc
  put_own (t ∷ []) e = cc
  put_own (t ∷ u ∷ []) e = of_put (name_in t) (read_bytes u) e
  put_own (t ∷ u ∷ x ∷ ts) e = cc

  delete_own : (ts : List (List ℕ)) → delete_line ts ≡ Some l → IsOwn fs l
  delete_own [] e = cc
  delete_own (t ∷ []) e = of_delete (name_in t) e
  delete_own (t ∷ u ∷ ts) e = cc

  find_own : (ts : List (List ℕ)) → find_line fs ts ≡ Some l → IsOwn fs l
  find_own [] e = cc
  find_own (t ∷ []) e = cc
  find_own (t ∷ u ∷ []) e = of_find (read_number t) (read_bytes u) e
  find_own (t ∷ u ∷ x ∷ ts) e = cc

  behind_own : (word : List ℕ) (ts : List (List ℕ)) → line_behind fs word ts ≡ Some l → IsOwn fs l
  behind_own word ts e = by (bytes_eq word (codes "put")) (bytes_eq word (codes "del")) (bytes_eq word (codes "find")) e
    where
      by : (a b c : Bool) → cond a (put_line ts) (cond b (delete_line ts) (cond c (find_line fs ts) None)) ≡ Some l → IsOwn fs l
      by true b c e = put_own ts e
      by false true c e = delete_own ts e
      by false false true e = find_own ts e
      by false false false e = cc

  of_tokens : (ts : List (List ℕ)) → line_of fs ts ≡ Some l → IsOwn fs l
  of_tokens [] e = cc
  of_tokens (word ∷ ts) e = behind_own word ts e

  pub own_line : (bytes : List ℕ) → meaning fs bytes ≡ Some l → IsOwn fs l
  own_line bytes e = of_tokens (tokens_of bytes) e
