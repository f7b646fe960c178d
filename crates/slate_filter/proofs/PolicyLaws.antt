-- Filters of lawful policies deny no query that a row of their table matches.
use Rattle.std.proofs.Common.{◌≡◌, ℕ, Bool, true, false, cond, ◌||◌, ltb, List, [], ◌∷◌, length, map, filter_map, Option, Some, None, inl, inr, refl, sym, ap, subst, ◌∙◌}
use Rattle.std.specs.Prelude.{bytes_eq, Contains, IfSome}
use Rattle.std.specs.List.{AllByRecursion, cons_option}
use Rattle.std.proofs.lemmas.Bool.{false≢true}
use Rattle.std.proofs.lemmas.Slice.Eq.{bytes_eq-Decides}
use Rattle.slate_types.specs.declared.types.RowEntry.{RowEntry}
use Rattle.slate_types.specs.declared.filter_policy.FilterQuery.{FilterQuery}
use Rattle.slate_types.specs.Keys.{among}
use Rattle.slate_filter.proofs.BloomLaws.{Has}
use Rattle.slate_filter.specs.Laws.{AreDistinct}
use Rattle.slate_filter.proofs.AskingLaws.{denied}
use Rattle.slate_filter.specs.Asking.{also, asked_by, asked}
use Rattle.slate_filter.specs.Policy.{Policy, IsLawfulPolicy, IsOf, named, filters_of, is_denied}

asked_one : (ps : List Policy) (query : FilterQuery) (name bytes : List ℕ) → AllByRecursion (λ (q : Policy). bytes_eq q.name name ≡ true → q.answers bytes query ≡ Some true) ps → asked_by ps query (name, bytes) ≡ Some true
asked_one [] query name bytes h = refl
asked_one (p ∷ ps) query name bytes h = by (bytes_eq p.name name) refl (asked_one ps query name bytes h.1)
  where
    by : (t : Bool) → bytes_eq p.name name ≡ t → asked_by ps query (name, bytes) ≡ Some true → also (cond t (p.answers bytes query) (Some true)) (asked_by ps query (name, bytes)) ≡ Some true
    by true e rest = ap (λ (o : Option Bool). also o (asked_by ps query (name, bytes))) (h.0 e) ∙ rest
    by false e rest = rest

name_of : Policy → List ℕ
name_of p = p.name

equal_bytes : (a b : List ℕ) → a ≡ b → bytes_eq a b ≡ true
equal_bytes a b e = (bytes_eq-Decides a b).1 e

-- a name that isn't among names is no policy's
no_name : (name : List ℕ) (ps : List Policy) (p : Policy) → among name (map name_of ps) ≡ false → Has ps p → bytes_eq p.name name ≡ true → ⊥
unfolding name_of Has
no_name name [] p n h e = absurd h
no_name name (q ∷ ps) p n (inl same) e = absurd (false≢true (sym n ∙ (λ i. bytes_eq ((same i).name) name || among name (map name_of ps)) ∙ ap (λ t. t || among name (map name_of ps)) e))
no_name name (q ∷ ps) p n (inr h) e = by (bytes_eq q.name name) n (λ m. no_name name ps p m h e)
  where
    by : (t : Bool) → (t || among name (map name_of ps)) ≡ false → (among name (map name_of ps) ≡ false → ⊥) → ⊥
    by true m f = absurd (false≢true (sym m))
    by false m f = f m

-- of two policies of a list with one name there is one
one_of_name : (ps : List Policy) (p q : Policy) → AreDistinct (map name_of ps) → Has ps p → Has ps q → bytes_eq q.name p.name ≡ true → q ≡ p
unfolding name_of Has
one_of_name [] p q d h k e = absurd h
one_of_name (x ∷ ps) p q d (inl h) (inl k) e = sym k ∙ h
one_of_name (x ∷ ps) p q d (inl h) (inr k) e = absurd (no_name x.name ps q d.0 k (ap (λ (y : Policy). bytes_eq q.name y.name) h ∙ e))
one_of_name (x ∷ ps) p q d (inr h) (inl k) e =
    let name : p.name ≡ x.name = sym ((bytes_eq-Decides q.name p.name).0 e) ∙ sym (ap (λ (y : Policy). y.name) k) in
    absurd (no_name x.name ps p d.0 h (equal_bytes p.name x.name name))
one_of_name (x ∷ ps) p q d (inr h) (inr k) e = one_of_name ps p q d.1 h k e

for_each : {P : Policy → Type 0} (ps : List Policy) → ((p : Policy) → Has ps p → P p) → AllByRecursion P ps
unfolding Has
for_each [] f = tt
for_each {P} (p ∷ ps) f = (f p (inl refl), for_each {P = P} ps (λ q h. f q (inr h)))

all_has : (P : Policy → Type 0) (ps : List Policy) (p : Policy) → AllByRecursion P ps → Has ps p → P p
unfolding Has
all_has P [] p f h = absurd h
all_has P (q ∷ ps) p f (inl e) = subst P e f.0
all_has P (q ∷ ps) p f (inr h) = all_has P ps p f.1 h

all_asked : (all ps : List Policy) (query : FilterQuery) (rows : List RowEntry) → ((p : Policy) → Has ps p → Has all p) → AreDistinct (map name_of all) →
    ((p : Policy) → Has all p → IfSome (p.builds rows) (λ bytes. p.answers bytes query ≡ Some true)) →
    asked all (filter_map (λ (p : Policy). named p.name (p.builds rows)) ps) query ≡ Some true
unfolding Has
all_asked all [] query rows within d ans = refl
all_asked all (p ∷ ps) query rows within d ans =
    by (p.builds rows) (ans p (within p (inl refl))) (all_asked all ps query rows (λ q h. within q (inr h)) d ans)
  where
    by : (o : Option (List ℕ)) → IfSome o (λ bytes. p.answers bytes query ≡ Some true) → asked all (filter_map (λ (q : Policy). named q.name (q.builds rows)) ps) query ≡ Some true →
        asked all (cons_option (named p.name o) (filter_map (λ (q : Policy). named q.name (q.builds rows)) ps)) query ≡ Some true
    by None a rest = rest
    by (Some bytes) a rest =
        let mine = asked_one all query p.name bytes (for_each all (λ q k e. ap (λ (y : Policy). y.answers bytes query) (one_of_name all p q d (within p (inl refl)) k e) ∙ a)) in
        ap (λ (o : Option Bool). also o (asked all (filter_map (λ (q : Policy). named q.name (q.builds rows)) ps) query)) mine ∙ rest

pub all_let_through : (policies : List Policy) → AreDistinct (map (λ (p : Policy). p.name) policies) → AllByRecursion (λ (p : Policy). IsLawfulPolicy p.builds p.answers) policies →
    (min : ℕ) (rows : List RowEntry) (row : RowEntry) (query : FilterQuery) → Contains rows row → IsOf query.target row.key → asked policies (filters_of policies min rows) query ≡ Some true
unfolding name_of
all_let_through policies d lawful min rows row query c m = by (ltb (length rows) min)
  where
    by : (t : Bool) → asked policies (cond t [] (filter_map (λ (p : Policy). named p.name (p.builds rows)) policies)) query ≡ Some true
    by true = refl
    by false = all_asked policies policies query rows (λ p h. h) d
        (λ p h. (all_has (λ (q : Policy). IsLawfulPolicy q.builds q.answers) policies p lawful h).keeps rows row query c m)

pub nothing_denied : (policies : List Policy) → AreDistinct (map (λ (p : Policy). p.name) policies) → AllByRecursion (λ (p : Policy). IsLawfulPolicy p.builds p.answers) policies →
    (min : ℕ) (rows : List RowEntry) (row : RowEntry) (query : FilterQuery) → Contains rows row → IsOf query.target row.key → is_denied policies (filters_of policies min rows) query ≡ false
nothing_denied policies d lawful min rows row query c m =
    let told = denied policies (filters_of policies min rows) query in
    rw (all_let_through policies d lawful min rows row query c m) at told
