-- Values under names: what is found after a name is given, changed or taken away, and that names stand once.
use Rattle.std.proofs.Common.{◌≡◌, ℕ, Bool, true, false, cond, List, [], ◌∷◌, Option, Some, None, is_some, option_map, refl, sym, ap, ◌∙◌}
use Rattle.std.specs.Ordering.{is_eq}
use Rattle.std.specs.Str.{bytes_eq}
use Rattle.std.specs.Map.{lookup}
use Rattle.std.specs.BTreeMap.{is_at}
use Rattle.std.proofs.lemmas.Bool.{false_from_ne_true}
use Rattle.std.proofs.lemmas.Slice.Eq.{bytes_eq-Decides}
use Rattle.std.proofs.lemmas.Map.Text.{is_eq-slice_cmp}
use Rattle.slate_types.specs.Keys.{key_cmp}
use Rattle.slate_txn.specs.Named.{find_named, without, set_named, update_named, StandOnce}

-- ---- the test of two names

pub bytes_eq_is : (a b : List ℕ) → bytes_eq a b ≡ true → a ≡ b
bytes_eq_is a b e = (bytes_eq-Decides a b).0 e

pub bytes_eq_sym : (a b : List ℕ) → bytes_eq a b ≡ bytes_eq b a
bytes_eq_sym a b = by (bytes_eq a b) refl (bytes_eq b a) refl
  where
    by : (x : Bool) → bytes_eq a b ≡ x → (y : Bool) → bytes_eq b a ≡ y → x ≡ y
    by true e true f = refl
    by false e false f = refl
    by true e false f = sym ((bytes_eq-Decides b a).1 (sym (bytes_eq_is a b e))) ∙ f
    by false e true f = sym e ∙ (bytes_eq-Decides a b).1 (sym (bytes_eq_is b a f))

-- what equals one of two equal names equals the other
bytes_eq_follows : (a b c : List ℕ) → bytes_eq a b ≡ true → bytes_eq a c ≡ bytes_eq b c
bytes_eq_follows a b c e = ap (λ x. bytes_eq x c) (bytes_eq_is a b e)

-- std's order finds what the test finds
pub find_named_lookup : {X : Type 0} (k : List ℕ) (es : List (List ℕ × X)) → find_named k es ≡ lookup (is_at (key_cmp k)) es
find_named_lookup k [] = refl
find_named_lookup {X} k (e ∷ es) =
    ap (λ t. cond t (Some e.1) (find_named k es)) (bytes_eq_sym e.0 k ∙ sym (is_eq-slice_cmp k e.0))
    ∙ ap (λ (o : Option X). cond (is_eq (key_cmp k e.0)) (Some e.1) o) (find_named_lookup k es)

-- ---- what is found

pub find_named_set : {X : Type 0} (name q : List ℕ) (x : X) (ps : List (List ℕ × X)) → find_named name ps ≡ None →
    find_named q (set_named name x ps) ≡ cond (bytes_eq name q) (Some x) (find_named q ps)
find_named_set name q x [] none = refl
find_named_set name q x (p ∷ ps) none = by (bytes_eq p.0 name) refl (bytes_eq p.0 q) refl (find_named_set name q x ps)
  where
    by : (t : Bool) → bytes_eq p.0 name ≡ t → (u : Bool) → bytes_eq p.0 q ≡ u →
        (find_named name ps ≡ None → find_named q (set_named name x ps) ≡ cond (bytes_eq name q) (Some x) (find_named q ps)) →
        find_named q (set_named name x (p ∷ ps)) ≡ cond (bytes_eq name q) (Some x) (find_named q (p ∷ ps))
    by true e u f later = let bad : Some p.1 ≡ None = ap (λ t. cond t (Some p.1) (find_named name ps)) (sym e) ∙ none in cc
    by false e true f later =
        let apart : bytes_eq name q ≡ false = false_from_ne_true (bytes_eq name q) (λ g.
        let same : bytes_eq p.0 name ≡ true = ap (λ z. bytes_eq p.0 z) (bytes_eq_is name q g) ∙ f in cc) in
        ap (λ t. cond t (Some p.1) (find_named q (set_named name x ps))) f
        ∙ sym (ap (λ t. cond t (Some x) (cond (bytes_eq p.0 q) (Some p.1) (find_named q ps))) apart ∙ ap (λ t. cond t (Some p.1) (find_named q ps)) f)
    by false e false f later =
        let gone : find_named name ps ≡ None = sym (ap (λ t. cond t (Some p.1) (find_named name ps)) e) ∙ none in
        ap (λ t. cond t (Some p.1) (find_named q (set_named name x ps))) f
        ∙ later gone
        ∙ sym (ap (λ t. cond (bytes_eq name q) (Some x) (cond t (Some p.1) (find_named q ps))) f)

pub find_named_updated : {X : Type 0} (name q : List ℕ) (f : X → X) (ps : List (List ℕ × X)) →
    find_named q (update_named name f ps) ≡ cond (bytes_eq name q) (option_map f (find_named q ps)) (find_named q ps)
find_named_updated {X} name q f [] = by (bytes_eq name q)
  where
    by : (t : Bool) → let none : Option X = None in none ≡ cond t None None
    by true = refl
    by false = refl
find_named_updated name q f (p ∷ ps) = by (bytes_eq p.0 name) refl (bytes_eq p.0 q) refl (find_named_updated name q f ps)
  where
    by : (t : Bool) → bytes_eq p.0 name ≡ t → (u : Bool) → bytes_eq p.0 q ≡ u →
        find_named q (update_named name f ps) ≡ cond (bytes_eq name q) (option_map f (find_named q ps)) (find_named q ps) →
        find_named q (update_named name f (p ∷ ps)) ≡ cond (bytes_eq name q) (option_map f (find_named q (p ∷ ps))) (find_named q (p ∷ ps))
    by true e true g later =
        let same : bytes_eq name q ≡ true = sym (bytes_eq_follows p.0 name q e) ∙ g in
        ap (λ t. find_named q (cond t ((p.0, f p.1) ∷ ps) (p ∷ update_named name f ps))) e
        ∙ ap (λ u. cond u (Some (f p.1)) (find_named q ps)) g
        ∙ sym (ap (λ t. cond t (option_map f (find_named q (p ∷ ps))) (find_named q (p ∷ ps))) same ∙ ap (λ u. option_map f (cond u (Some p.1) (find_named q ps))) g)
    by true e false g later =
        let apart : bytes_eq name q ≡ false = sym (bytes_eq_follows p.0 name q e) ∙ g in
        ap (λ t. find_named q (cond t ((p.0, f p.1) ∷ ps) (p ∷ update_named name f ps))) e
        ∙ ap (λ u. cond u (Some (f p.1)) (find_named q ps)) g
        ∙ sym (ap (λ t. cond t (option_map f (find_named q (p ∷ ps))) (find_named q (p ∷ ps))) apart ∙ ap (λ u. cond u (Some p.1) (find_named q ps)) g)
    by false e true g later =
        let apart : bytes_eq name q ≡ false = false_from_ne_true (bytes_eq name q) (λ h.
        let same : bytes_eq p.0 name ≡ true = ap (λ z. bytes_eq p.0 z) (bytes_eq_is name q h) ∙ g in cc) in
        ap (λ t. find_named q (cond t ((p.0, f p.1) ∷ ps) (p ∷ update_named name f ps))) e ∙ ap (λ u. cond u (Some p.1) (find_named q (update_named name f ps))) g
        ∙ sym (ap (λ t. cond t (option_map f (find_named q (p ∷ ps))) (find_named q (p ∷ ps))) apart ∙ ap (λ u. cond u (Some p.1) (find_named q ps)) g)
    by false e false g later =
        ap (λ t. find_named q (cond t ((p.0, f p.1) ∷ ps) (p ∷ update_named name f ps))) e ∙ ap (λ u. cond u (Some p.1) (find_named q (update_named name f ps))) g
        ∙ later
        ∙ sym (ap (λ u. cond (bytes_eq name q) (option_map f (cond u (Some p.1) (find_named q ps))) (cond u (Some p.1) (find_named q ps))) g)

pub find_named_without : {X : Type 0} (name q : List ℕ) (ps : List (List ℕ × X)) → StandOnce ps →
    find_named q (without name ps) ≡ cond (bytes_eq name q) None (find_named q ps)
find_named_without {X} name q [] once = by (bytes_eq name q)
  where
    by : (t : Bool) → let none : Option X = None in none ≡ cond t None None
    by true = refl
    by false = refl
find_named_without name q (p ∷ ps) once = by (bytes_eq p.0 name) refl (bytes_eq p.0 q) refl (find_named_without name q ps once.1)
  where
    by : (t : Bool) → bytes_eq p.0 name ≡ t → (u : Bool) → bytes_eq p.0 q ≡ u →
        find_named q (without name ps) ≡ cond (bytes_eq name q) None (find_named q ps) →
        find_named q (without name (p ∷ ps)) ≡ cond (bytes_eq name q) None (find_named q (p ∷ ps))
    by true e true g later =
        let same : bytes_eq name q ≡ true = sym (bytes_eq_follows p.0 name q e) ∙ g in
        let gone : find_named q ps ≡ None = ap (λ z. find_named z ps) (sym (bytes_eq_is p.0 q g)) ∙ once.0 in
        ap (λ t. find_named q (cond t ps (p ∷ without name ps))) e ∙ gone ∙ sym (ap (λ t. cond t None (find_named q (p ∷ ps))) same)
    by true e false g later =
        let apart : bytes_eq name q ≡ false = sym (bytes_eq_follows p.0 name q e) ∙ g in
        ap (λ t. find_named q (cond t ps (p ∷ without name ps))) e
        ∙ sym (ap (λ t. cond t None (find_named q (p ∷ ps))) apart ∙ ap (λ u. cond u (Some p.1) (find_named q ps)) g)
    by false e true g later =
        let apart : bytes_eq name q ≡ false = false_from_ne_true (bytes_eq name q) (λ h.
        let same : bytes_eq p.0 name ≡ true = ap (λ z. bytes_eq p.0 z) (bytes_eq_is name q h) ∙ g in cc) in
        ap (λ t. find_named q (cond t ps (p ∷ without name ps))) e ∙ ap (λ u. cond u (Some p.1) (find_named q (without name ps))) g
        ∙ sym (ap (λ t. cond t None (find_named q (p ∷ ps))) apart ∙ ap (λ u. cond u (Some p.1) (find_named q ps)) g)
    by false e false g later =
        ap (λ t. find_named q (cond t ps (p ∷ without name ps))) e ∙ ap (λ u. cond u (Some p.1) (find_named q (without name ps))) g
        ∙ later
        ∙ sym (ap (λ u. cond (bytes_eq name q) None (cond u (Some p.1) (find_named q ps))) g)

-- ---- names that stand once

none_parts : {X : Type 0} (name : List ℕ) (p : List ℕ × X) (ps : List (List ℕ × X)) → find_named name (p ∷ ps) ≡ None → (bytes_eq p.0 name ≡ false) × (find_named name ps ≡ None)
none_parts name p ps none = by (bytes_eq p.0 name) none
  where
    by : (t : Bool) → cond t (Some p.1) (find_named name ps) ≡ None → (t ≡ false) × (find_named name ps ≡ None)
    by true h = cc
    by false h = (refl, h)

pub once_set : {X : Type 0} (name : List ℕ) (x : X) (ps : List (List ℕ × X)) → find_named name ps ≡ None → StandOnce ps → StandOnce (set_named name x ps)
once_set name x [] none once = (refl, tt)
once_set name x (p ∷ ps) none once =
    let parts : (bytes_eq p.0 name ≡ false) × (find_named name ps ≡ None) = none_parts name p ps none in
    (find_named_set name p.0 x ps parts.1 ∙ ap (λ t. cond t (Some x) (find_named p.0 ps)) (bytes_eq_sym name p.0 ∙ parts.0) ∙ once.0, once_set name x ps parts.1 once.1)

pub once_update : {X : Type 0} (name : List ℕ) (f : X → X) (ps : List (List ℕ × X)) → StandOnce ps → StandOnce (update_named name f ps)
once_update name f [] once = tt
once_update name f (p ∷ ps) once = by (bytes_eq p.0 name) (once_update name f ps once.1)
  where
    none : (t : Bool) → cond t (option_map f (find_named p.0 ps)) (find_named p.0 ps) ≡ None
    none true = ap (option_map f) once.0
    none false = once.0

    by : (t : Bool) → StandOnce (update_named name f ps) → StandOnce (cond t ((p.0, f p.1) ∷ ps) (p ∷ update_named name f ps))
    by true later = once
    by false later = (find_named_updated name p.0 f ps ∙ none (bytes_eq name p.0), later)

pub once_without : {X : Type 0} (name : List ℕ) (ps : List (List ℕ × X)) → StandOnce ps → StandOnce (without name ps)
once_without name [] once = tt
once_without name (p ∷ ps) once = by (bytes_eq p.0 name) (once_without name ps once.1)
  where
    none : (t : Bool) → cond t None (find_named p.0 ps) ≡ None
    none true = refl
    none false = once.0

    by : (t : Bool) → StandOnce (without name ps) → StandOnce (cond t ps (p ∷ without name ps))
    by true later = once.1
    by false later = (find_named_without name p.0 ps once.1 ∙ none (bytes_eq name p.0), later)

-- std's clause on a map that changed at one key, by what is found
pub named_after : {X : Type 0} (name q : List ℕ) (w : Option X) (old new : List (List ℕ × X)) →
    lookup (is_at (key_cmp q)) new ≡ cond (is_at (key_cmp name) q) w (lookup (is_at (key_cmp q)) old) → find_named q new ≡ cond (bytes_eq name q) w (find_named q old)
named_after name q w old new h = find_named_lookup q new ∙ h ∙ (λ i. cond (is_eq-slice_cmp name q i) w (sym (find_named_lookup q old) i))

-- ---- what is changed twice

pub update_twice : {X : Type 0} (k : List ℕ) (f g : X → X) (ps : List (List ℕ × X)) → update_named k g (update_named k f ps) ≡ update_named k (λ x. g (f x)) ps
update_twice k f g [] = refl
update_twice k f g (p ∷ ps) = by (bytes_eq p.0 k) refl (update_twice k f g ps)
  where
    by : (b : Bool) → bytes_eq p.0 k ≡ b → update_named k g (update_named k f ps) ≡ update_named k (λ x. g (f x)) ps →
        update_named k g (cond b ((p.0, f p.1) ∷ ps) (p ∷ update_named k f ps)) ≡ cond b ((p.0, g (f p.1)) ∷ ps) (p ∷ update_named k (λ x. g (f x)) ps)
    by true e rest = ap (λ c. cond c ((p.0, g (f p.1)) ∷ ps) ((p.0, f p.1) ∷ update_named k g ps)) e
    by false e rest = ap (λ c. cond c ((p.0, g p.1) ∷ update_named k f ps) (p ∷ update_named k g (update_named k f ps))) e ∙ ap (λ qs. p ∷ qs) rest

pub update_same : {X : Type 0} (k : List ℕ) (f : X → X) (ps : List (List ℕ × X)) → ((x : X) → f x ≡ x) → update_named k f ps ≡ ps
update_same k f [] same = refl
update_same k f (p ∷ ps) same = by (bytes_eq p.0 k) (update_same k f ps same)
  where
    by : (b : Bool) → update_named k f ps ≡ ps → cond b ((p.0, f p.1) ∷ ps) (p ∷ update_named k f ps) ≡ p ∷ ps
    by true rest = λ i. (p.0, same p.1 i) ∷ ps
    by false rest = ap (λ qs. p ∷ qs) rest

-- ---- where a name doesn't stand

pub without_none : {X : Type 0} (k : List ℕ) (ps : List (List ℕ × X)) → find_named k ps ≡ None → without k ps ≡ ps
without_none k [] none = refl
without_none k (p ∷ ps) none =
    let parts : (bytes_eq p.0 k ≡ false) × (find_named k ps ≡ None) = none_parts k p ps none in
    ap (λ b. cond b ps (p ∷ without k ps)) parts.0 ∙ ap (λ qs. p ∷ qs) (without_none k ps parts.1)
