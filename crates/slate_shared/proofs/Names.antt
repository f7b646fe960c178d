-- Names that stand, and which seat has one.
use Rattle.std.proofs.Common.{◌≡◌, ℕ, Bool, true, false, cond, if◌then◌else◌, List, [], ◌∷◌, ◌++◌, bytes_eq, Some, None, refl, sym, ap, ◌∙◌}
use Rattle.std.proofs.lemmas.Slice.Eq.{bytes_eq-Decides}
use Rattle.slate_types.proofs.KeyOrder.{bytes_eq_same}
use Rattle.slate_txn.specs.declared.event.Event.{Event}
use Rattle.slate_txn.specs.Named.{find_named, without, set_named}
use Rattle.slate_txn.specs.Replay.{apply, apply_all, replay}
use Rattle.slate_txn.specs.State.{State, opening}

apply_more : (s : State) (es : List Event) (e : Event) → apply_all s (es ++ (e ∷ [])) ≡ apply (apply_all s es) e
apply_more s [] e = refl
apply_more s (x ∷ es) e = apply_more (apply s x) es e

pub replay_more : (es : List Event) (e : Event) → replay (es ++ (e ∷ [])) ≡ apply (replay es) e
replay_more es e = apply_more opening es e

-- the other name
not_same : (j k : List ℕ) → (j ≡ k → ⊥) → bytes_eq j k ≡ false
not_same j k ne = by (bytes_eq j k) refl
  where
    by : (b : Bool) → bytes_eq j k ≡ b → b ≡ false
    by true e = absurd (ne ((bytes_eq-Decides j k).0 e))
    by false e = refl

pub found_before : {X : Type 0} (k : List ℕ) (x : X) (j : List ℕ) (y : X) (ps : List (List ℕ × X)) → find_named k ps ≡ Some x → find_named k (set_named j y ps) ≡ Some x
found_before k x j y [] e = absurd (cc e)
found_before k x j y (p ∷ ps) e = by (bytes_eq p.0 k) (λ h. found_before k x j y ps h) e
  where
    by : (b : Bool) → (find_named k ps ≡ Some x → find_named k (set_named j y ps) ≡ Some x) → cond b (Some p.1) (find_named k ps) ≡ Some x → cond b (Some p.1) (find_named k (set_named j y ps)) ≡ Some x
    by true later h = h
    by false later h = later h

pub found_last : {X : Type 0} (k : List ℕ) (x : X) (ps : List (List ℕ × X)) → find_named k ps ≡ None → find_named k (set_named k x ps) ≡ Some x
found_last k x [] e = ap (λ b. cond b (Some x) None) (bytes_eq_same k)
found_last k x (p ∷ ps) e = by (bytes_eq p.0 k) (λ h. found_last k x ps h) e
  where
    by : (b : Bool) → (find_named k ps ≡ None → find_named k (set_named k x ps) ≡ Some x) → cond b (Some p.1) (find_named k ps) ≡ None → cond b (Some p.1) (find_named k (set_named k x ps)) ≡ Some x
    by true later h = absurd (cc h)
    by false later h = later h

pub found_without : {X : Type 0} (j k : List ℕ) (x : X) (ps : List (List ℕ × X)) → (k ≡ j → ⊥) → find_named k ps ≡ Some x → find_named k (without j ps) ≡ Some x
found_without j k x [] ne e = e
found_without j k x (p ∷ ps) ne e = by (bytes_eq p.0 j) (bytes_eq p.0 k) refl refl (λ h. found_without j k x ps ne h) e
  where
    by : (b c : Bool) → bytes_eq p.0 j ≡ b → bytes_eq p.0 k ≡ c → (find_named k ps ≡ Some x → find_named k (without j ps) ≡ Some x) → cond c (Some p.1) (find_named k ps) ≡ Some x → find_named k (cond b ps (p ∷ without j ps)) ≡ Some x
    by true true is_j is_k later h = absurd (ne (sym ((bytes_eq-Decides p.0 k).0 is_k) ∙ (bytes_eq-Decides p.0 j).0 is_j))
    by true false is_j is_k later h = h
    by false true is_j is_k later h = ap (λ c. cond c (Some p.1) (find_named k (without j ps))) is_k ∙ h
    by false false is_j is_k later h = ap (λ c. cond c (Some p.1) (find_named k (without j ps))) is_k ∙ later h

-- f, but x at the name
abbrev pub mark_id : (List ℕ → ℕ) → List ℕ → ℕ → List ℕ → ℕ
mark_id f n x p = if bytes_eq p n then x else f p

pub mark_id_here : (f : List ℕ → ℕ) (n : List ℕ) (x : ℕ) (p : List ℕ) → p ≡ n → mark_id f n x p ≡ x
mark_id_here f n x p e = ap (λ (c : Bool). if c then x else f p) ((bytes_eq-Decides p n).1 e)

pub mark_id_else : (f : List ℕ → ℕ) (n : List ℕ) (x : ℕ) (p : List ℕ) → (p ≡ n → ⊥) → mark_id f n x p ≡ f p
mark_id_else f n x p ne = ap (λ (c : Bool). if c then x else f p) (not_same p n ne)
