-- Values under names: what a map keyed by names finds, and what is kept of a list where one goes or is changed.
use Rattle.std.proofs.Common.{◌≡◌, ℕ, suc, ◌+◌, Bool, true, false, cond, List, [], ◌∷◌, ◌++◌, length, Option, Some, None, unwrap_or, option_map, refl, sym, ap, arith, bytes_eq, map, subst, ◌∙◌, Greater}
use Rattle.std.specs.Prelude.{IsSome, Result, Ok, Err, OnOk, OnErr}
use Rattle.std.specs.Map.{lookup, remove_entry, set_value}
use Rattle.std.specs.Ordering.{match_ordering}
use Rattle.std.specs.BTreeMap.{insert_entry, is_at}
use Rattle.std.proofs.lemmas.Cmp.{nat_list_eq_equiv}
use Rattle.std.proofs.lemmas.Map.Text.{is_eq-slice_cmp}
use Rattle.slate_types.specs.Keys.{key_cmp}
use Rattle.slate_txn.specs.Named.{find_named, without, update_named}
use Rattle.std.specs.List.{AllByRecursion}

-- ---- a map's entries

-- the map's test of two names is the list's
same_test : (k j : List ℕ) → is_at (key_cmp k) j ≡ bytes_eq j k
same_test k j = is_eq-slice_cmp k j ∙ nat_list_eq_equiv.symm k j

pub find_is : {X : Type 0} (k : List ℕ) (ps : List (List ℕ × X)) → lookup (is_at (key_cmp k)) ps ≡ find_named k ps
find_is k [] = refl
find_is k (p ∷ ps) = let t = same_test k p.0 in let rest = find_is k ps in λ i. cond (t i) (Some p.1) (rest i)

pub without_is : {X : Type 0} (k : List ℕ) (ps : List (List ℕ × X)) → remove_entry (is_at (key_cmp k)) ps ≡ without k ps
without_is k [] = refl
without_is k (p ∷ ps) = let t = same_test k p.0 in let rest = without_is k ps in λ i. cond (t i) ps (p ∷ rest i)

-- what is written over the value that was found
pub update_is : {X : Type 0} (k : List ℕ) (f : X → X) (x : X) (ps : List (List ℕ × X)) → find_named k ps ≡ Some x → set_value (is_at (key_cmp k)) ps (f x) ≡ update_named k f ps
update_is k f x [] h = refl
update_is {X} k f x (p ∷ ps) h = ap (λ t. cond t ((p.0, f x) ∷ ps) (p ∷ set_value (is_at (key_cmp k)) ps (f x))) (same_test k p.0) ∙ by (bytes_eq p.0 k) h (update_is k f x ps)
  where
    by : (b : Bool) → cond b (Some p.1) (find_named k ps) ≡ Some x → (find_named k ps ≡ Some x → set_value (is_at (key_cmp k)) ps (f x) ≡ update_named k f ps) →
        cond b ((p.0, f x) ∷ ps) (p ∷ set_value (is_at (key_cmp k)) ps (f x)) ≡ cond b ((p.0, f p.1) ∷ ps) (p ∷ update_named k f ps)
    by true e rest = ap (λ y. (p.0, f y) ∷ ps) (sym (ap (λ (o : Option X). unwrap_or o x) e))
    by false e rest = ap (λ qs. p ∷ qs) (rest e)

pub update_none : {X : Type 0} (k : List ℕ) (f : X → X) (ps : List (List ℕ × X)) → find_named k ps ≡ None → update_named k f ps ≡ ps
update_none k f [] h = refl
update_none k f (p ∷ ps) h = by (bytes_eq p.0 k) h (update_none k f ps)
  where
    by : (b : Bool) → cond b (Some p.1) (find_named k ps) ≡ None → (find_named k ps ≡ None → update_named k f ps ≡ ps) → cond b ((p.0, f p.1) ∷ ps) (p ∷ update_named k f ps) ≡ p ∷ ps
    by true e rest = let clash : Some p.1 ≡ None = e in cc
    by false e rest = ap (λ qs. p ∷ qs) (rest e)

-- ---- a name past all others

pub put_last : {X : Type 0} (k : List ℕ) (x : X) (ps : List (List ℕ × X)) → AllByRecursion (λ p. key_cmp k p.0 ≡ Greater) ps → insert_entry key_cmp ps k x ≡ ps ++ ((k, x) ∷ [])
put_last k x [] h = refl
put_last k x (p ∷ ps) h =
    ap (λ o. match_ordering o ((k, x) ∷ p ∷ ps) ((p.0, x) ∷ ps) (p ∷ insert_entry key_cmp ps k x)) h.0
    ∙ ap (λ qs. p ∷ qs) (put_last k x ps h.1)

pub without_last : {X : Type 0} (k : List ℕ) (x : X) (ps : List (List ℕ × X)) → find_named k ps ≡ None → without k (ps ++ ((k, x) ∷ [])) ≡ ps
without_last k x [] h = ap (λ t. cond t [] ((k, x) ∷ [])) (nat_list_eq_equiv.refl k)
without_last k x (p ∷ ps) h = by (bytes_eq p.0 k) h (without_last k x ps)
  where
    by : (b : Bool) → cond b (Some p.1) (find_named k ps) ≡ None → (find_named k ps ≡ None → without k (ps ++ ((k, x) ∷ [])) ≡ ps) → cond b (ps ++ ((k, x) ∷ [])) (p ∷ without k (ps ++ ((k, x) ∷ []))) ≡ p ∷ ps
    by true e rest = let clash : Some p.1 ≡ None = e in cc
    by false e rest = ap (λ qs. p ∷ qs) (rest e)

-- ---- a list without a name

length_step : (b : Bool) {X : Type 0} (p : List ℕ × X) (k : List ℕ) (ps : List (List ℕ × X)) → (IsSome (find_named k ps) → length (without k ps) + 1 ≡ length ps) → IsSome (cond b (Some p.1) (find_named k ps)) → length (cond b ps (p ∷ without k ps)) + 1 ≡ suc (length ps)
length_step true p k ps rest h = omega arith
length_step false p k ps rest h = let e : length (without k ps) + 1 ≡ length ps = rest h in omega arith

pub length_without : {X : Type 0} (k : List ℕ) (ps : List (List ℕ × X)) → IsSome (find_named k ps) → length (without k ps) + 1 ≡ length ps
length_without k [] h = cc
length_without k (p ∷ ps) h = length_step (bytes_eq p.0 k) p k ps (length_without k ps) h

all_step : (b : Bool) {X : Type 0} (P : List ℕ × X → Type 0) (p : List ℕ × X) (k : List ℕ) (ps : List (List ℕ × X)) → P p → AllByRecursion P ps → AllByRecursion P (without k ps) → AllByRecursion P (cond b ps (p ∷ without k ps))
all_step true P p k ps h hs rest = hs
all_step false P p k ps h hs rest = (h, rest)

pub all_without : {X : Type 0} (P : List ℕ × X → Type 0) (k : List ℕ) (ps : List (List ℕ × X)) → AllByRecursion P ps → AllByRecursion P (without k ps)
all_without P k [] h = tt
all_without P k (p ∷ ps) h = all_step (bytes_eq p.0 k) P p k ps h.0 h.1 (all_without P k ps h.1)

map_step : (b : Bool) {X : Type 0} (f : List ℕ × X → List ℕ × X) (p : List ℕ × X) (k : List ℕ) (ps : List (List ℕ × X)) → without k (map f ps) ≡ map f (without k ps) → cond b (map f ps) (f p ∷ without k (map f ps)) ≡ map f (cond b ps (p ∷ without k ps))
map_step true f p k ps rest = refl
map_step false f p k ps rest = ap (λ xs. f p ∷ xs) rest

pub without_map : {X : Type 0} (f : List ℕ × X → List ℕ × X) → ((p : List ℕ × X) → (f p).0 ≡ p.0) → (k : List ℕ) (ps : List (List ℕ × X)) → without k (map f ps) ≡ map f (without k ps)
without_map f same k [] = refl
without_map f same k (p ∷ ps) = ap (λ n. cond (bytes_eq n k) (map f ps) (f p ∷ without k (map f ps))) (same p) ∙ map_step (bytes_eq p.0 k) f p k ps (without_map f same k ps)

open_step : (b : Bool) {X : Type 0} (f : List ℕ × X → List ℕ × X) (p : List ℕ × X) (k : List ℕ) (ps : List (List ℕ × X)) → (IsSome (find_named k ps) → IsSome (find_named k (map f ps))) → IsSome (cond b (Some p.1) (find_named k ps)) → IsSome (cond b (Some (f p).1) (find_named k (map f ps)))
open_step true f p k ps rest h = h
open_step false f p k ps rest h = rest h

pub open_map : {X : Type 0} (f : List ℕ × X → List ℕ × X) → ((p : List ℕ × X) → (f p).0 ≡ p.0) → (k : List ℕ) (ps : List (List ℕ × X)) → IsSome (find_named k ps) → IsSome (find_named k (map f ps))
open_map f same k [] h = h
open_map f same k (p ∷ ps) h = subst (λ (n : List ℕ). IsSome (cond (bytes_eq n k) (Some (f p).1) (find_named k (map f ps)))) (sym (same p)) (open_step (bytes_eq p.0 k) f p k ps (open_map f same k ps) h)

-- ---- a list with one value changed

pub update_map : {X Y : Type 0} (g : List ℕ × X → Y) (k : List ℕ) (f : X → X) (ps : List (List ℕ × X)) → ((p : List ℕ × X) → g (p.0, f p.1) ≡ g p) → map g (update_named k f ps) ≡ map g ps
update_map g k f [] h = refl
update_map g k f (p ∷ ps) h = by (bytes_eq p.0 k) (update_map g k f ps h)
  where
    by : (b : Bool) → map g (update_named k f ps) ≡ map g ps → map g (cond b ((p.0, f p.1) ∷ ps) (p ∷ update_named k f ps)) ≡ g p ∷ map g ps
    by true rest = ap (λ y. y ∷ map g ps) (h p)
    by false rest = ap (λ ys. g p ∷ ys) rest

pub update_all : {X : Type 0} (P : List ℕ × X → Type 0) (k : List ℕ) (f : X → X) (ps : List (List ℕ × X)) → ((p : List ℕ × X) → P p → P (p.0, f p.1)) → AllByRecursion P ps → AllByRecursion P (update_named k f ps)
update_all P k f [] h a = tt
update_all P k f (p ∷ ps) h a = by (bytes_eq p.0 k) (update_all P k f ps h a.1)
  where
    by : (b : Bool) → AllByRecursion P (update_named k f ps) → AllByRecursion P (cond b ((p.0, f p.1) ∷ ps) (p ∷ update_named k f ps))
    by true rest = (h p a.0, a.1)
    by false rest = (a.0, rest)

-- what is found under a name after its value was changed
pub find_updated : {X : Type 0} (k : List ℕ) (f : X → X) (ps : List (List ℕ × X)) → find_named k (update_named k f ps) ≡ option_map f (find_named k ps)
find_updated k f [] = refl
find_updated {X} k f (p ∷ ps) = by (bytes_eq p.0 k) refl (find_updated k f ps)
  where
    by : (b : Bool) → bytes_eq p.0 k ≡ b → find_named k (update_named k f ps) ≡ option_map f (find_named k ps) → find_named k (cond b ((p.0, f p.1) ∷ ps) (p ∷ update_named k f ps)) ≡ option_map f (cond b (Some p.1) (find_named k ps))
    by true e rest = ap (λ t. cond t (Some (f p.1)) (find_named k ps)) e
    by false e rest = ap (λ t. cond t (Some p.1) (find_named k (update_named k f ps))) e ∙ rest

pub update_length : {X : Type 0} (k : List ℕ) (f : X → X) (ps : List (List ℕ × X)) → length (update_named k f ps) ≡ length ps
update_length k f [] = refl
update_length k f (p ∷ ps) = by (bytes_eq p.0 k) (update_length k f ps)
  where
    by : (b : Bool) → length (update_named k f ps) ≡ length ps → length (cond b ((p.0, f p.1) ∷ ps) (p ∷ update_named k f ps)) ≡ suc (length ps)
    by true rest = refl
    by false rest = ap suc rest

pub record IsNamed {X : Type 0} (o : Option X) : Type 0 where
  pub value : X
  pub is : o ≡ Some value

pub open_is : {X : Type 0} (o : Option X) → IsSome o → IsNamed o
open_is None h = cc
open_is (Some x) h = record { value = x; is = refl }

-- ---- under an answer

pub both_err : {X E P Q R : Type 0} (r : Result X E) → (P → Q → R) → OnErr r P → OnErr r Q → OnErr r R
both_err (Ok x) f h k = tt
both_err (Err e) f h k = f h k
