-- The policies that words use of those that are handed in.
use Rattle.std.proofs.Common.{◌≡◌, ℕ, ◌≤◌, ◌<◌, ◌^◌, Bool, true, false, ◌||◌, cond, List, [], ◌∷◌, length, map, bytes_eq, refl, sym, ap, ◌∙◌, subst, arith}
use Rattle.std.specs.List.{AllByRecursion, filter}
use Rattle.slate_types.specs.Keys.{among}
use Rattle.slate_filter.specs.Laws.{AreDistinct, AreValidNames}
use Rattle.slate_filter.specs.Policy.{Policy, IsLawfulPolicy}
use Rattle.slate_table.specs.Filtered.{AreLawful}
use Rattle.slate_language.specs.Words.{used}
use Rattle.slate_types.proofs.Plain.{neither}

abbrev names_of : List Policy → List (List ℕ)
names_of policies = map (λ (p : Policy). p.name) policies

-- ---- some of them

among_kept : (test : Policy → Bool) (name : List ℕ) (policies : List Policy) → among name (names_of policies) ≡ false → among name (names_of (filter test policies)) ≡ false
among_kept test name [] h = h
among_kept test name (p ∷ ps) h = by (test p) (among_kept test name ps (neither (bytes_eq p.name name) (among name (names_of ps)) h).1)
  where
    by : (b : Bool) → among name (names_of (filter test ps)) ≡ false → among name (names_of (cond b (p ∷ filter test ps) (filter test ps))) ≡ false
    by true rest = ap (λ a. a || among name (names_of (filter test ps))) (neither (bytes_eq p.name name) (among name (names_of ps)) h).0 ∙ rest
    by false rest = rest

distinct_kept : (test : Policy → Bool) (policies : List Policy) → AreDistinct (names_of policies) → AreDistinct (names_of (filter test policies))
distinct_kept test [] h = h
distinct_kept test (p ∷ ps) h = by (test p) (distinct_kept test ps h.1)
  where
    by : (b : Bool) → AreDistinct (names_of (filter test ps)) → AreDistinct (names_of (cond b (p ∷ filter test ps) (filter test ps)))
    by true rest = (among_kept test p.name ps h.0, rest)
    by false rest = rest

each_kept : (P : Policy → Type 0) (test : Policy → Bool) (policies : List Policy) → AllByRecursion P policies → AllByRecursion P (filter test policies)
each_kept P test [] h = h
each_kept P test (p ∷ ps) h = by (test p) (each_kept P test ps h.1)
  where
    by : (b : Bool) → AllByRecursion P (filter test ps) → AllByRecursion P (cond b (p ∷ filter test ps) (filter test ps))
    by true rest = (h.0, rest)
    by false rest = rest

short_kept : (test : Policy → Bool) (policies : List Policy) → AllByRecursion (λ n. length n < 2 ^ 16) (names_of policies) → AllByRecursion (λ n. length n < 2 ^ 16) (names_of (filter test policies))
short_kept test [] h = h
short_kept test (p ∷ ps) h = by (test p) (short_kept test ps h.1)
  where
    by : (b : Bool) → AllByRecursion (λ n. length n < 2 ^ 16) (names_of (filter test ps)) → AllByRecursion (λ n. length n < 2 ^ 16) (names_of (cond b (p ∷ filter test ps) (filter test ps)))
    by true rest = (h.0, rest)
    by false rest = rest

no_more : (test : Policy → Bool) (policies : List Policy) → length (names_of (filter test policies)) ≤ length (names_of policies)
no_more test [] = omega arith
no_more test (p ∷ ps) = by (test p) (no_more test ps)
  where
    by : (b : Bool) → length (names_of (filter test ps)) ≤ length (names_of ps) → length (names_of (cond b (p ∷ filter test ps) (filter test ps))) ≤ length (names_of (p ∷ ps))
    by true h = omega (arith, h)
    by false h = omega (arith, h)

valid_kept : (test : Policy → Bool) (policies : List Policy) → AreValidNames (names_of policies) → AreValidNames (names_of (filter test policies))
valid_kept test policies h = record {
  few = let less : length (names_of (filter test policies)) ≤ length (names_of policies) = no_more test policies in omega (arith, less, h.few);
  short = short_kept test policies h.short;
  distinct = distinct_kept test policies h.distinct;
}

-- ---- those that words use

pub lawful_used : (ws : List (List ℕ)) (policies : List Policy) → AreLawful policies → AreLawful (used ws policies)
lawful_used ws policies h = record {
  distinct = distinct_kept _ policies h.distinct;
  each = each_kept (λ (p : Policy). IsLawfulPolicy p.builds p.answers) _ policies h.each;
}

names_as : {B : Type 0} (f : B → Policy) (bs : List B) → map (λ b. (f b).name) bs ≡ names_of (map f bs)
names_as f [] = refl
names_as f (b ∷ bs) = ap (λ ns. (f b).name ∷ ns) (names_as f bs)

-- f: what a policy that is handed in means
pub valid_used : {B : Type 0} (ws : List (List ℕ)) (handed kept : List B) (f : B → Policy) → map f kept ≡ used ws (map f handed) → AreValidNames (map (λ b. (f b).name) handed) → AreValidNames (map (λ b. (f b).name) kept)
valid_used ws handed kept f is h =
    subst AreValidNames (sym (names_as f kept ∙ ap names_of is)) (valid_kept _ (map f handed) (subst AreValidNames (names_as f handed) h))

pub lawful_kept : {B : Type 0} (ws : List (List ℕ)) (handed kept : List B) (f : B → Policy) → map f kept ≡ used ws (map f handed) → AreLawful (map f handed) → AreLawful (map f kept)
lawful_kept ws handed kept f is h = subst AreLawful (sym is) (lawful_used ws (map f handed) h)
