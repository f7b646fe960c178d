-- Filters of lawful policies, asked by the same policies, refuse no query.
use Rattle.std.proofs.Common.{◌≡◌, ℕ, Bool, true, false, cond, ◌||◌, ltb, List, [], ◌∷◌, length, map, filter_map, Option, Some, None, inl, inr, refl, sym, ap, subst, ◌∙◌}
use Rattle.std.specs.Prelude.{bytes_eq, IfSome}
use Rattle.std.specs.List.{AllByRecursion, cons_option}
use Rattle.std.proofs.lemmas.Bool.{false≢true}
use Rattle.std.proofs.lemmas.Slice.Eq.{bytes_eq-Decides}
use Rattle.slate_types.specs.declared.types.RowEntry.{RowEntry}
use Rattle.slate_types.specs.declared.filter_policy.FilterQuery.{FilterQuery}
use Rattle.slate_types.specs.Keys.{among}
use Rattle.slate_filter.proofs.BloomLaws.{Has}
use Rattle.slate_filter.specs.Asking.{also, answer_of, asked_by, asked}
use Rattle.slate_filter.specs.Laws.{AreDistinct}
use Rattle.slate_filter.specs.Policy.{Policy, IsLawfulPolicy, named, filters_of}

abbrev pub IsAnswered : Option Bool → Type 0
IsAnswered o = (b : Bool) × (o ≡ Some b)

both_answered : (o p : Option Bool) → IsAnswered o → IsAnswered p → IsAnswered (also o p)
both_answered None p (b, is) k = absurd cc
both_answered (Some true) p h k = k
both_answered (Some false) p h k = (false, refl)

one_answered : (ps : List Policy) (query : FilterQuery) (name bytes : List ℕ) → AllByRecursion (λ (q : Policy). bytes_eq q.name name ≡ true → IsAnswered (q.answers bytes query)) ps → IsAnswered (asked_by ps query (name, bytes))
one_answered [] query name bytes h = (true, refl)
one_answered (p ∷ ps) query name bytes h = both_answered (answer_of p query (name, bytes)) (asked_by ps query (name, bytes)) (by (bytes_eq p.name name) refl) (one_answered ps query name bytes h.1)
  where
    by : (t : Bool) → bytes_eq p.name name ≡ t → IsAnswered (cond t (p.answers bytes query) (Some true))
    by true e = h.0 e
    by false e = (true, refl)

-- ---- the policies of a list have distinct names

name_of : Policy → List ℕ
name_of p = p.name

-- a name that isn't among names is no policy's
no_name : (name : List ℕ) (ps : List Policy) (p : Policy) → among name (map name_of ps) ≡ false → Has ps p → bytes_eq p.name name ≡ true → ⊥
unfolding name_of Has
no_name name [] p n h e = absurd h
no_name name (q ∷ ps) p n (inl same) e = absurd (false≢true (sym n ∙ (λ i. bytes_eq ((same i).name) name || among name (map name_of ps)) ∙ ap (λ t. t || among name (map name_of ps)) e))
no_name name (q ∷ ps) p n (inr h) e = by (bytes_eq q.name name) n (λ m. no_name name ps p m h e)
  where
    by : (t : Bool) → (t || among name (map name_of ps)) ≡ false → (among name (map name_of ps) ≡ false → ⊥) → ⊥
    by true m f = absurd (false≢true (sym m))
    by false m f = f m

one_of_name : (ps : List Policy) (p q : Policy) → AreDistinct (map name_of ps) → Has ps p → Has ps q → bytes_eq q.name p.name ≡ true → q ≡ p
unfolding name_of Has
one_of_name [] p q d h k e = absurd h
one_of_name (x ∷ ps) p q d (inl h) (inl k) e = sym k ∙ h
one_of_name (x ∷ ps) p q d (inl h) (inr k) e = absurd (no_name x.name ps q d.0 k (ap (λ (y : Policy). bytes_eq q.name y.name) h ∙ e))
one_of_name (x ∷ ps) p q d (inr h) (inl k) e =
    let name : p.name ≡ x.name = sym ((bytes_eq-Decides q.name p.name).0 e) ∙ sym (ap (λ (y : Policy). y.name) k) in
    absurd (no_name x.name ps p d.0 h ((bytes_eq-Decides p.name x.name).1 name))
one_of_name (x ∷ ps) p q d (inr h) (inr k) e = one_of_name ps p q d.1 h k e

for_each : {P : Policy → Type 0} (ps : List Policy) → ((p : Policy) → Has ps p → P p) → AllByRecursion P ps
unfolding Has
for_each [] f = tt
for_each {P} (p ∷ ps) f = (f p (inl refl), for_each {P = P} ps (λ q h. f q (inr h)))

all_has : (P : Policy → Type 0) (ps : List Policy) (p : Policy) → AllByRecursion P ps → Has ps p → P p
unfolding Has
all_has P [] p f h = absurd h
all_has P (q ∷ ps) p f (inl e) = subst P e f.0
all_has P (q ∷ ps) p f (inr h) = all_has P ps p f.1 h

-- ---- all filters

all_answered : (all ps : List Policy) (query : FilterQuery) (rows : List RowEntry) → ((p : Policy) → Has ps p → Has all p) → AreDistinct (map name_of all) →
    ((p : Policy) → Has all p → IfSome (p.builds rows) (λ bytes. IsAnswered (p.answers bytes query))) →
    IsAnswered (asked all (filter_map (λ (p : Policy). named p.name (p.builds rows)) ps) query)
unfolding Has
all_answered all [] query rows within d ans = (true, refl)
all_answered all (p ∷ ps) query rows within d ans =
    by (p.builds rows) (ans p (within p (inl refl))) (all_answered all ps query rows (λ q h. within q (inr h)) d ans)
  where
    by : (o : Option (List ℕ)) → IfSome o (λ bytes. IsAnswered (p.answers bytes query)) → IsAnswered (asked all (filter_map (λ (q : Policy). named q.name (q.builds rows)) ps) query) →
        IsAnswered (asked all (cons_option (named p.name o) (filter_map (λ (q : Policy). named q.name (q.builds rows)) ps)) query)
    by None a rest = rest
    by (Some bytes) a rest =
        let mine = one_answered all query p.name bytes (for_each all (λ q k e. subst (λ (y : Policy). IsAnswered (y.answers bytes query)) (sym (one_of_name all p q d (within p (inl refl)) k e)) a)) in
        both_answered (asked_by all query (p.name, bytes)) (asked all (filter_map (λ (q : Policy). named q.name (q.builds rows)) ps) query) mine rest

pub all_are_answered : (policies : List Policy) → AreDistinct (map (λ (p : Policy). p.name) policies) → AllByRecursion (λ (p : Policy). IsLawfulPolicy p.builds p.answers) policies →
    (min : ℕ) (rows : List RowEntry) (query : FilterQuery) → IsAnswered (asked policies (filters_of policies min rows) query)
unfolding name_of
all_are_answered policies d lawful min rows query = by (ltb (length rows) min)
  where
    by : (t : Bool) → IsAnswered (asked policies (cond t [] (filter_map (λ (p : Policy). named p.name (p.builds rows)) policies)) query)
    by true = (true, refl)
    by false = all_answered policies policies query rows (λ p h. h) d
        (λ p h. (all_has (λ (q : Policy). IsLawfulPolicy q.builds q.answers) policies p lawful h).reads rows query)
