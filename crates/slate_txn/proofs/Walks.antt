-- A walk over keys or ranges: what each adds.
use Rattle.std.proofs.Common.{◌≡◌, ℕ, ◌+◌, ◌≤◌, ◌<◌, Bool, List, ◌∷◌, length, drop, get_or, Option, sym, ap, ◌∙◌, add-one, drop-cons}
use Rattle.std.specs.List.{list_any}
use Rattle.std.proofs.lemmas.List.{drop_all}
use Rattle.slate_txn.specs.Managers.{newest_kept, later}
use Rattle.slate_txn.proofs.Keeps.{Entries, either_test, no_test, later_assoc, later_none}

module _ {X : Type 0} (test : X → List ℕ → Bool) (b : ℕ) (es : Entries) where
  abbrev pub of_all : List X → Option ℕ
  of_all xs = newest_kept (λ k. list_any (λ y. test y k) xs) b es

module _ {X : Type 0} (test : X → List ℕ → Bool) (b : ℕ) (es : Entries) where
  drop_first : (xs : List X) (i : ℕ) (x : X) → i < length xs → x ≡ get_or xs i x → drop i xs ≡ x ∷ drop (i + 1) xs
  drop_first xs i x h e = drop-cons xs i x h ∙ (let s = sym e in let n = sym (add-one i) in λ j. s j ∷ drop (n j) xs)

  pub turn : (xs : List X) (i : ℕ) (x : X) (so_far found target : Option ℕ) → i < length xs → x ≡ get_or xs i x → found ≡ newest_kept (test x) b es →
      later so_far (of_all test b es (drop i xs)) ≡ target → later (later so_far found) (of_all test b es (drop (i + 1) xs)) ≡ target
  turn xs i x so_far found target h e f g =
      later_assoc so_far found (of_all test b es (drop (i + 1) xs))
      ∙ ap (λ o. later so_far o) (ap (λ o. later o (of_all test b es (drop (i + 1) xs))) f ∙ sym (either_test (test x) (λ k. list_any (λ y. test y k) (drop (i + 1) xs)) b es))
      ∙ ap (λ ys. later so_far (of_all test b es ys)) (sym (drop_first xs i x h e))
      ∙ g

  pub ended : (xs : List X) (i : ℕ) (so_far target : Option ℕ) → length xs ≤ i → later so_far (of_all test b es (drop i xs)) ≡ target → so_far ≡ target
  ended xs i so_far target h g =
      sym (later_none so_far) ∙ ap (λ o. later so_far o) (sym (ap (of_all test b es) (drop_all i xs h) ∙ no_test b es)) ∙ g
