-- A new name stands last.
use Rattle.std.proofs.Common.{◌≡◌, ◌≢◌, Bool, true, false, cond, bytes_eq, ℕ, List, [], ◌∷◌, ◌++◌, Option, Some, None, refl, sym, ap, ◌∙◌}
use Rattle.std.proofs.lemmas.Slice.Eq.{bytes_eq-Decides}
use Rattle.slate_types.proofs.KeyOrder.{bytes_eq_same}
use Rattle.slate_txn.specs.Named.{find_named, update_named, without}

pub find_last : {X : Type 0} (k : List ℕ) (x : X) (ps : List (List ℕ × X)) → find_named k ps ≡ None → find_named k (ps ++ ((k, x) ∷ [])) ≡ Some x
find_last k x [] h = ap (λ b. cond b (Some x) None) (bytes_eq_same k)
find_last {X} k x (p ∷ ps) h = by (bytes_eq p.0 k) h (find_last k x ps)
  where
    by : (b : Bool) → cond b (Some p.1) (find_named k ps) ≡ None → (find_named k ps ≡ None → find_named k (ps ++ ((k, x) ∷ [])) ≡ Some x) → cond b (Some p.1) (find_named k (ps ++ ((k, x) ∷ []))) ≡ Some x
    by true e rest = cc
    by false e rest = rest e

pub find_other : {X : Type 0} (k j : List ℕ) (x : X) (ps : List (List ℕ × X)) → j ≢ k → find_named j (ps ++ ((k, x) ∷ [])) ≡ find_named j ps
find_other k j x [] h = by (bytes_eq k j) refl
  where
    by : (b : Bool) → bytes_eq k j ≡ b → cond b (Some x) None ≡ None
    by true e = absurd (h (sym ((bytes_eq-Decides k j).0 e)))
    by false e = refl
find_other k j x (p ∷ ps) h = ap (λ o. cond (bytes_eq p.0 j) (Some p.1) o) (find_other k j x ps h)

pub update_last : {X : Type 0} (k : List ℕ) (f : X → X) (x : X) (ps : List (List ℕ × X)) → find_named k ps ≡ None → update_named k f (ps ++ ((k, x) ∷ [])) ≡ ps ++ ((k, f x) ∷ [])
update_last k f x [] h = ap (λ b. cond b ((k, f x) ∷ []) ((k, x) ∷ [])) (bytes_eq_same k)
update_last {X} k f x (p ∷ ps) h = by (bytes_eq p.0 k) h (update_last k f x ps)
  where
    by : (b : Bool) → cond b (Some p.1) (find_named k ps) ≡ None → (find_named k ps ≡ None → update_named k f (ps ++ ((k, x) ∷ [])) ≡ ps ++ ((k, f x) ∷ [])) →
        cond b ((p.0, f p.1) ∷ (ps ++ ((k, x) ∷ []))) (p ∷ update_named k f (ps ++ ((k, x) ∷ []))) ≡ p ∷ (ps ++ ((k, f x) ∷ []))
    by true e rest = cc
    by false e rest = ap (λ qs. p ∷ qs) (rest e)

pub without_none : {X : Type 0} (k : List ℕ) (ps : List (List ℕ × X)) → find_named k ps ≡ None → without k ps ≡ ps
without_none k [] h = refl
without_none {X} k (p ∷ ps) h = by (bytes_eq p.0 k) h (without_none k ps)
  where
    by : (b : Bool) → cond b (Some p.1) (find_named k ps) ≡ None → (find_named k ps ≡ None → without k ps ≡ ps) → cond b ps (p ∷ without k ps) ≡ p ∷ ps
    by true e rest = cc
    by false e rest = ap (λ qs. p ∷ qs) (rest e)
