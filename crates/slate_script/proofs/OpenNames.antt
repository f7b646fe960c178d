-- Names with their ids in one map, what is open under these, and two maps that are apart.
use Rattle.std.proofs.Common.{◌≡◌, ◌⊎◌, inl, inr, ℕ, Bool, true, false, cond, List, Option, Some, None, option_map, refl, sym, ap, ◌∙◌, subst}
use Rattle.std.specs.Prelude.{IsSome}
use Rattle.std.specs.Str.{bytes_eq}
use Rattle.std.proofs.lemmas.Bool.{false_from_ne_true}
use Rattle.slate_txn.specs.Named.{find_named, without, set_named, update_named, StandOnce}
use Rattle.slate_script.specs.Session.{AreApart, AreNames, AreUnder, under}
use Rattle.slate_types.proofs.KeyOrder.{bytes_eq_same}
use Rattle.slate_script.proofs.NamesLaws.{bytes_eq_is, find_named_set, find_named_updated, find_named_without, once_set, once_update, once_without}

-- each name with its id
abbrev pub Names : Type 0
Names = List (List ℕ × List ℕ)

not_same : (a b : List ℕ) → (a ≡ b → ⊥) → bytes_eq a b ≡ false
not_same a b h = false_from_ne_true (bytes_eq a b) (λ e. h (bytes_eq_is a b e))

pub none_some : {X : Type 0} (o : Option X) → o ≡ None → IsSome o → ⊥
none_some None h s = cc
none_some (Some x) h s = cc

some_same : (a b : List ℕ) → Some a ≡ Some b → a ≡ b
some_same a b h = cc

-- ---- the names, where an id more is open

some_set : {X : Type 0} (id i : List ℕ) (x : X) (ps : List (List ℕ × X)) → find_named id ps ≡ None → IsSome (find_named i ps) → IsSome (find_named i (set_named id x ps))
some_set {X} id i x ps none some = subst IsSome (sym (find_named_set id i x ps none)) (by (bytes_eq id i))
  where
    by : (b : Bool) → IsSome (cond b (Some x) (find_named i ps))
    by true = refl
    by false = some

found_set : {X : Type 0} (id : List ℕ) (x : X) (ps : List (List ℕ × X)) → find_named id ps ≡ None → find_named id (set_named id x ps) ≡ Some x
found_set id x ps none = find_named_set id id x ps none ∙ ap (λ b. cond b (Some x) (find_named id ps)) (bytes_eq_same id)

-- the names stand as they did
pub names_kept : {X : Type 0} (id : List ℕ) (x : X) (names : Names) (ps : List (List ℕ × X)) → find_named id ps ≡ None → AreNames names ps → AreNames names (set_named id x ps)
names_kept id x names ps none h = record {
  opened = λ name i is. some_set id i x ps none (h.opened name i is);
  apart = h.apart;
  once = once_set id x ps none h.once;
}

-- one name more stands for the new id
pub names_given : {X : Type 0} (name id : List ℕ) (x : X) (names more : Names) (ps : List (List ℕ × X)) → find_named id ps ≡ None → AreNames names ps →
    ((q : List ℕ) → find_named q more ≡ cond (bytes_eq name q) (Some id) (find_named q names)) → AreNames more (set_named id x ps)
names_given {X} name id x names more ps none h updates = record {
  opened = λ q i is. opened q i (bytes_eq name q) (sym (updates q) ∙ is);
  apart = λ p q i is was. apart p q i (bytes_eq name p) (bytes_eq name q) refl refl (sym (updates p) ∙ is) (sym (updates q) ∙ was);
  once = once_set id x ps none h.once;
}
  where
    opened : (q i : List ℕ) (b : Bool) → cond b (Some id) (find_named q names) ≡ Some i → IsSome (find_named i (set_named id x ps))
    opened q i true is = subst (λ j. IsSome (find_named j (set_named id x ps))) (some_same id i is) (subst IsSome (sym (found_set id x ps none)) refl)
    opened q i false is = some_set id i x ps none (h.opened q i is)

    unused : (q i : List ℕ) → Some id ≡ Some i → find_named q names ≡ Some i → ⊥
    unused q i is was = none_some (find_named id ps) none (h.opened q id (was ∙ sym is))

    apart : (p q i : List ℕ) (a b : Bool) → bytes_eq name p ≡ a → bytes_eq name q ≡ b → cond a (Some id) (find_named p names) ≡ Some i → cond b (Some id) (find_named q names) ≡ Some i → p ≡ q
    apart p q i true true e f is was = sym (bytes_eq_is name p e) ∙ bytes_eq_is name q f
    apart p q i true false e f is was = absurd (unused q i is was)
    apart p q i false true e f is was = absurd (unused p i was is)
    apart p q i false false e f is was = h.apart p q i is was

-- ---- the names, where one is taken away

-- another name stands for another id
pub other_id : {X : Type 0} (name q id i : List ℕ) (names : Names) (ps : List (List ℕ × X)) → AreNames names ps → find_named name names ≡ Some id → find_named q names ≡ Some i → bytes_eq name q ≡ false → bytes_eq id i ≡ false
other_id name q id i names ps h is was differs = not_same id i (λ same. differ (h.apart name q id is (was ∙ ap Some (sym same))))
  where
    differ : name ≡ q → ⊥
    differ e = let t : true ≡ false = sym (bytes_eq_same name) ∙ ap (bytes_eq name) e ∙ differs in cc

pub names_taken : {X : Type 0} (name id : List ℕ) (names fewer : Names) (ps : List (List ℕ × X)) → AreNames names ps → find_named name names ≡ Some id →
    ((q : List ℕ) → find_named q fewer ≡ cond (bytes_eq name q) None (find_named q names)) → AreNames fewer (without id ps)
names_taken {X} name id names fewer ps h is updates = record {
  opened = λ q i was. opened q i (bytes_eq name q) refl (sym (updates q) ∙ was);
  apart = λ p q i one other. apart p q i (bytes_eq name p) (bytes_eq name q) (sym (updates p) ∙ one) (sym (updates q) ∙ other);
  once = once_without id ps h.once;
}
  where
    opened : (q i : List ℕ) (b : Bool) → bytes_eq name q ≡ b → cond b None (find_named q names) ≡ Some i → IsSome (find_named i (without id ps))
    opened q i true e was = cc
    opened q i false e was =
        subst IsSome (sym (find_named_without id i ps h.once ∙ ap (λ b. cond b None (find_named i ps)) (other_id name q id i names ps h is was e))) (h.opened q i was)

    apart : (p q i : List ℕ) (a b : Bool) → cond a None (find_named p names) ≡ Some i → cond b None (find_named q names) ≡ Some i → p ≡ q
    apart p q i true b one other = cc
    apart p q i false true one other = cc
    apart p q i false false one other = h.apart p q i one other

-- ---- the names, where what is open is changed

pub names_changed : {X : Type 0} (id : List ℕ) (f : X → X) (names : Names) (ps : List (List ℕ × X)) → AreNames names ps → AreNames names (update_named id f ps)
names_changed {X} id f names ps h = record {
  opened = λ q i is. subst IsSome (sym (find_named_updated id i f ps)) (by (bytes_eq id i) (find_named i ps) (h.opened q i is));
  apart = h.apart;
  once = once_update id f ps h.once;
}
  where
    by : (b : Bool) (o : Option X) → IsSome o → IsSome (cond b (option_map f o) o)
    by true None some = some
    by true (Some x) some = refl
    by false o some = some

-- ---- two that are apart

pub apart_swap : {X Y : Type 0} (ps : List (List ℕ × X)) (qs : List (List ℕ × Y)) → AreApart ps qs → AreApart qs ps
apart_swap ps qs h q = by (h q)
  where
    by : (find_named q ps ≡ None) ⊎ (find_named q qs ≡ None) → (find_named q qs ≡ None) ⊎ (find_named q ps ≡ None)
    by (inl e) = inr e
    by (inr e) = inl e

-- a name that is in neither comes into one
pub apart_given : {X Y : Type 0} (name : List ℕ) (w : Option X) (ps new : List (List ℕ × X)) (qs : List (List ℕ × Y)) → find_named name qs ≡ None →
    ((q : List ℕ) → find_named q new ≡ cond (bytes_eq name q) w (find_named q ps)) → AreApart ps qs → AreApart new qs
apart_given name w ps new qs gone updates h q = by (bytes_eq name q) refl (h q)
  where
    by : (b : Bool) → bytes_eq name q ≡ b → (find_named q ps ≡ None) ⊎ (find_named q qs ≡ None) → (find_named q new ≡ None) ⊎ (find_named q qs ≡ None)
    by true e one = inr (ap (λ z. find_named z qs) (sym (bytes_eq_is name q e)) ∙ gone)
    by false e (inl was) = inl (updates q ∙ ap (λ b. cond b w (find_named q ps)) e ∙ was)
    by false e (inr was) = inr was

pub apart_taken : {X Y : Type 0} (name : List ℕ) (ps new : List (List ℕ × X)) (qs : List (List ℕ × Y)) →
    ((q : List ℕ) → find_named q new ≡ cond (bytes_eq name q) None (find_named q ps)) → AreApart ps qs → AreApart new qs
apart_taken name ps new qs updates h q = by (bytes_eq name q) refl (h q)
  where
    by : (b : Bool) → bytes_eq name q ≡ b → (find_named q ps ≡ None) ⊎ (find_named q qs ≡ None) → (find_named q new ≡ None) ⊎ (find_named q qs ≡ None)
    by true e one = inl (updates q ∙ ap (λ b. cond b None (find_named q ps)) e)
    by false e (inl was) = inl (updates q ∙ ap (λ b. cond b None (find_named q ps)) e ∙ was)
    by false e (inr was) = inr was

pub apart_changed : {X Y : Type 0} (id : List ℕ) (f : X → X) (ps : List (List ℕ × X)) (qs : List (List ℕ × Y)) → AreApart ps qs → AreApart (update_named id f ps) qs
apart_changed id f ps qs h q = by (bytes_eq id q) refl (h q)
  where
    by : (b : Bool) → bytes_eq id q ≡ b → (find_named q ps ≡ None) ⊎ (find_named q qs ≡ None) → (find_named q (update_named id f ps) ≡ None) ⊎ (find_named q qs ≡ None)
    by true e (inl was) = inl (find_named_updated id q f ps ∙ ap (λ b. cond b (option_map f (find_named q ps)) (find_named q ps)) e ∙ ap (option_map f) was)
    by false e (inl was) = inl (find_named_updated id q f ps ∙ ap (λ b. cond b (option_map f (find_named q ps)) (find_named q ps)) e ∙ was)
    by true e (inr was) = inr was
    by false e (inr was) = inr was

-- what one has, the other has not
pub apart_first : {X Y : Type 0} (ps : List (List ℕ × X)) (qs : List (List ℕ × Y)) (q : List ℕ) → AreApart ps qs → IsSome (find_named q ps) → find_named q qs ≡ None
apart_first ps qs q h some = by (h q)
  where
    by : (find_named q ps ≡ None) ⊎ (find_named q qs ≡ None) → find_named q qs ≡ None
    by (inl none) = absurd (none_some (find_named q ps) none some)
    by (inr none) = none

pub apart_last : {X Y : Type 0} (ps : List (List ℕ × X)) (qs : List (List ℕ × Y)) (q : List ℕ) → AreApart ps qs → IsSome (find_named q qs) → find_named q ps ≡ None
apart_last ps qs q h some = apart_first qs ps q (apart_swap ps qs h) some

-- ---- what is under the names

pub under_given : {X : Type 0} (name id : List ℕ) (x : X) (named : List (List ℕ × X)) (names more : Names) (ps : List (List ℕ × X)) → find_named name named ≡ None → find_named id ps ≡ None → AreNames names ps →
    ((q : List ℕ) → find_named q more ≡ cond (bytes_eq name q) (Some id) (find_named q names)) → AreUnder named names ps → AreUnder (set_named name x named) more (set_named id x ps)
under_given {X} name id x named names more ps gone fresh are updates h q =
    find_named_set name q x named gone ∙ found (bytes_eq name q) ∙ ap (under (set_named id x ps)) (sym (updates q))
  where
    kept : (i : List ℕ) → IsSome (find_named i ps) → find_named i ps ≡ find_named i (set_named id x ps)
    kept i some = sym (find_named_set id i x ps fresh ∙ by (bytes_eq id i) refl)
      where
        by : (b : Bool) → bytes_eq id i ≡ b → cond b (Some x) (find_named i ps) ≡ find_named i ps
        by true same = absurd (none_some (find_named i ps) (ap (λ j. find_named j ps) (sym (bytes_eq_is id i same)) ∙ fresh) some)
        by false same = refl

    others : (o : Option (List ℕ)) → find_named q names ≡ o → under ps o ≡ under (set_named id x ps) o
    others None was = refl
    others (Some i) was = kept i (are.opened q i was)

    found : (b : Bool) → cond b (Some x) (find_named q named) ≡ under (set_named id x ps) (cond b (Some id) (find_named q names))
    found true = sym (found_set id x ps fresh)
    found false = h q ∙ others (find_named q names) refl

-- under the other names, where one name's id is taken away or changed
under_others : {X : Type 0} (f : List (List ℕ × X) → List (List ℕ × X)) (name id : List ℕ) (names : Names) (ps : List (List ℕ × X)) → AreNames names ps → find_named name names ≡ Some id →
    ((i : List ℕ) → bytes_eq id i ≡ false → find_named i (f ps) ≡ find_named i ps) → (q : List ℕ) → bytes_eq name q ≡ false → under ps (find_named q names) ≡ under (f ps) (find_named q names)
under_others f name id names ps h is keeps q differs = by (find_named q names) refl
  where
    by : (o : Option (List ℕ)) → find_named q names ≡ o → under ps o ≡ under (f ps) o
    by None was = refl
    by (Some i) was = sym (keeps i (other_id name q id i names ps h is was differs))

pub under_taken : {X : Type 0} (name id : List ℕ) (named : List (List ℕ × X)) (names fewer : Names) (ps : List (List ℕ × X)) → StandOnce named → AreNames names ps → find_named name names ≡ Some id →
    ((q : List ℕ) → find_named q fewer ≡ cond (bytes_eq name q) None (find_named q names)) → AreUnder named names ps → AreUnder (without name named) fewer (without id ps)
under_taken name id named names fewer ps once are known updates h q =
    find_named_without name q named once ∙ found (bytes_eq name q) refl ∙ ap (under (without id ps)) (sym (updates q))
  where
    keeps : (i : List ℕ) → bytes_eq id i ≡ false → find_named i (without id ps) ≡ find_named i ps
    keeps i differs = find_named_without id i ps are.once ∙ ap (λ b. cond b None (find_named i ps)) differs

    found : (b : Bool) → bytes_eq name q ≡ b → cond b None (find_named q named) ≡ under (without id ps) (cond b None (find_named q names))
    found true same = refl
    found false differs = h q ∙ under_others (without id) name id names ps are known keeps q differs

pub under_changed : {X : Type 0} (name id : List ℕ) (f : X → X) (named : List (List ℕ × X)) (names : Names) (ps : List (List ℕ × X)) → AreNames names ps → find_named name names ≡ Some id →
    AreUnder named names ps → AreUnder (update_named name f named) names (update_named id f ps)
under_changed name id f named names ps are known h q = find_named_updated name q f named ∙ found (bytes_eq name q) refl
  where
    keeps : (i : List ℕ) → bytes_eq id i ≡ false → find_named i (update_named id f ps) ≡ find_named i ps
    keeps i differs = find_named_updated id i f ps ∙ ap (λ b. cond b (option_map f (find_named i ps)) (find_named i ps)) differs

    here : bytes_eq name q ≡ true → find_named q names ≡ Some id
    here same = ap (λ p. find_named p names) (sym (bytes_eq_is name q same)) ∙ known

    found : (b : Bool) → bytes_eq name q ≡ b → cond b (option_map f (find_named q named)) (find_named q named) ≡ under (update_named id f ps) (find_named q names)
    found true same =
        ap (option_map f) (h q ∙ ap (under ps) (here same))
        ∙ sym (ap (under (update_named id f ps)) (here same) ∙ find_named_updated id id f ps
        ∙ ap (λ b. cond b (option_map f (find_named id ps)) (find_named id ps)) (bytes_eq_same id))
    found false differs = h q ∙ under_others (update_named id f) name id names ps are known keeps q differs

-- no id, and so nothing
pub under_none : {X : Type 0} (name : List ℕ) (named : List (List ℕ × X)) (names : Names) (ps : List (List ℕ × X)) → AreUnder named names ps → find_named name names ≡ None → find_named name named ≡ None
under_none name named names ps h none = h name ∙ ap (under ps) none

-- the same under a state of the core that has become the same
pub under_same : {X : Type 0} (named : List (List ℕ × X)) (names : Names) (ps qs : List (List ℕ × X)) → AreUnder named names ps → ps ≡ qs → AreUnder named names qs
under_same named names ps qs h same q = h q ∙ ap (λ rs. under rs (find_named q names)) same
