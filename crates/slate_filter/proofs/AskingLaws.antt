-- What filters that are asked one after the other answer is whether one of them denies.
use Rattle.std.proofs.Common.{◌≡◌, ℕ, Bool, true, false, not, cond, ◌||◌, List, [], ◌∷◌, Option, Some, None, refl, ap, ◌∙◌}
use Rattle.std.specs.Prelude.{IfSome, IfOk, bytes_eq}
use Rattle.std.specs.Option.{ok_or}
use Rattle.slate_types.specs.declared.filter_policy.FilterQuery.{FilterQuery}
use Rattle.slate_filter.specs.Policy.{Policy, denies, is_denied_by, is_denied}
use Rattle.slate_filter.specs.Asking.{also, asked_by, asked}

denied_by : (policies : List Policy) (query : FilterQuery) (f : List ℕ × List ℕ) → IfSome (asked_by policies query f) (λ b. is_denied_by policies query f ≡ not b)
denied_by [] query f = refl
denied_by (p ∷ ps) query f = by (bytes_eq p.name f.0) (p.answers f.1 query) (denied_by ps query f)
  where
    by : (t : Bool) (o : Option Bool) → IfSome (asked_by ps query f) (λ b. is_denied_by ps query f ≡ not b) →
        IfSome (also (cond t o (Some true)) (asked_by ps query f)) (λ b. (cond t (denies o) false || is_denied_by ps query f) ≡ not b)
    by true None h = tt
    by true (Some true) h = h
    by true (Some false) h = refl
    by false o h = h

-- where nothing that was asked is refused, what is answered is whether the query isn't denied
pub denied : (policies : List Policy) (fs : List (List ℕ × List ℕ)) (query : FilterQuery) → IfSome (asked policies fs query) (λ b. is_denied policies fs query ≡ not b)
denied policies [] query = refl
denied policies (f ∷ fs) query = by (asked_by policies query f) (denied_by policies query f) (denied policies fs query)
  where
    by : (o : Option Bool) → IfSome o (λ b. is_denied_by policies query f ≡ not b) → IfSome (asked policies fs query) (λ b. is_denied policies fs query ≡ not b) →
        IfSome (also o (asked policies fs query)) (λ b. (is_denied_by policies query f || is_denied policies fs query) ≡ not b)
    by None g h = tt
    by (Some true) g h = rest (asked policies fs query) h
      where
        rest : (o : Option Bool) → IfSome o (λ b. is_denied policies fs query ≡ not b) → IfSome o (λ b. (is_denied_by policies query f || is_denied policies fs query) ≡ not b)
        rest None h = tt
        rest (Some b) h = ap (λ t. t || is_denied policies fs query) g ∙ h
    by (Some false) g h = ap (λ t. t || is_denied policies fs query) g

-- of a call that answers a refusal with an error
pub ok_or_denied : {E : Type 0} (e : E) (policies : List Policy) (fs : List (List ℕ × List ℕ)) (query : FilterQuery) →
    IfOk (ok_or (asked policies fs query) e) (λ b. is_denied policies fs query ≡ not b)
ok_or_denied e policies fs query = by (asked policies fs query) (denied policies fs query)
  where
    by : (o : Option Bool) → IfSome o (λ b. is_denied policies fs query ≡ not b) → IfOk (ok_or o e) (λ b. is_denied policies fs query ≡ not b)
    by None h = tt
    by (Some b) h = h
