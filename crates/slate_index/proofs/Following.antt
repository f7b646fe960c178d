-- A change keeps the entries of a map those of its records.
use Rattle.std.proofs.Common.{◌≡◌, ℕ, Bool, true, false, cond, not, ◌||◌, ◌&&◌, List, [], ◌∷◌, ◌++◌, filter, bytes_eq, Option, Some, None, is_some, refl, sym, ap, ◌∙◌}
use Rattle.std.proofs.lemmas.Slice.Eq.{bytes_eq-Decides}
use Rattle.slate_types.specs.Keys.{among}
use Rattle.slate_types.proofs.KeyOrder.{bytes_eq_same}
use Rattle.slate_index.specs.Entries.{FieldsModel, record_key, entries_of, entries_if, is_entry_key}
use Rattle.slate_index.specs.Changes.{Values, put_value, changed, deletes, entry_puts, change_puts, HasRecord, HasEntries}
use Rattle.slate_index.proofs.Telling.{tells_of, id_of_key}

-- ---- what puts and deletes leave at a key

changed_more : (m : Values) (xs ys : List (List ℕ × Option (List ℕ))) → changed m (xs ++ ys) ≡ changed (changed m xs) ys
changed_more m [] ys = refl
changed_more m (x ∷ xs) ys = changed_more (put_value m x.0 x.1) xs ys

after_deletes : (ks : List (List ℕ)) (m : Values) (k : List ℕ) → changed m (deletes ks) k ≡ cond (among k ks) None (m k)
after_deletes [] m k = refl
after_deletes (j ∷ ks) m k = after_deletes ks (put_value m j None) k ∙ by (bytes_eq j k) (among k ks)
  where
    by : (a b : Bool) → cond b None (cond a None (m k)) ≡ cond (a || b) None (m k)
    by true true = refl
    by true false = refl
    by false true = refl
    by false false = refl

after_entries : (ks : List (List ℕ)) (m : Values) (k : List ℕ) → changed m (entry_puts ks) k ≡ cond (among k ks) (Some []) (m k)
after_entries [] m k = refl
after_entries (j ∷ ks) m k = after_entries ks (put_value m j (Some [])) k ∙ by (bytes_eq j k) (among k ks)
  where
    by : (a b : Bool) → cond b (Some []) (cond a (Some []) (m k)) ≡ cond (a || b) (Some []) (m k)
    by true true = refl
    by true false = refl
    by false true = refl
    by false false = refl

and_false : (a : Bool) → (a && false) ≡ false
and_false true = refl
and_false false = refl

-- the keys of the old value that the new one hasn't
pub gone_is : (k : List ℕ) (olds news : List (List ℕ)) → among k (filter (λ j. not (among j news)) olds) ≡ (among k olds && not (among k news))
gone_is k [] news = refl
gone_is k (j ∷ olds) news = by (bytes_eq j k) refl (not (among j news)) refl (gone_is k olds news)
  where
    by : (a : Bool) → bytes_eq j k ≡ a → (b : Bool) → not (among j news) ≡ b → among k (filter (λ j. not (among j news)) olds) ≡ (among k olds && not (among k news)) →
        among k (cond b (j ∷ filter (λ j. not (among j news)) olds) (filter (λ j. not (among j news)) olds)) ≡ ((a || among k olds) && not (among k news))
    by true e true f later = ap (λ b. b || among k (filter (λ x. not (among x news)) olds)) e ∙ sym (ap (λ x. not (among x news)) (sym ((bytes_eq-Decides j k).0 e)) ∙ f)
    by true e false f later =
        let none : not (among k news) ≡ false = ap (λ x. not (among x news)) (sym ((bytes_eq-Decides j k).0 e)) ∙ f in
        later ∙ ap (λ b. among k olds && b) none ∙ and_false (among k olds) ∙ sym none
    by false e true f later = ap (λ b. b || among k (filter (λ x. not (among x news)) olds)) e ∙ later
    by false e false f later = later

-- ---- keys apart

no_record : (b : Bool) → b ≡ true → b ≡ false → {A : Type 0} → A
no_record b e f = let x : true ≡ false = sym e ∙ f in cc

entry_is : (fs : FieldsModel) (id : List ℕ) (o : Option (List ℕ)) (k : List ℕ) → among k (entries_if fs id o) ≡ true → (id_of_key k ≡ id) × (is_entry_key k ≡ true)
entry_is fs id None k h = cc
entry_is fs id (Some v) k h = tells_of fs fs.count id v k h

pub no_entry : (fs : FieldsModel) (id other : List ℕ) (o : Option (List ℕ)) → among (record_key other) (entries_if fs id o) ≡ false
no_entry fs id other o = by (among (record_key other) (entries_if fs id o)) refl
  where
    by : (b : Bool) → among (record_key other) (entries_if fs id o) ≡ b → b ≡ false
    by false e = refl
    by true e = let x : is_entry_key (record_key other) ≡ true = (entry_is fs id o (record_key other) e).1 in cc

apart : (id k : List ℕ) → is_entry_key k ≡ true → bytes_eq (record_key id) k ≡ false
apart id [] h = refl
apart id (b ∷ bs) h = by (bytes_eq (record_key id) (b ∷ bs)) refl
  where
    by : (t : Bool) → bytes_eq (record_key id) (b ∷ bs) ≡ t → t ≡ false
    by false e = refl
    by true e = let x : is_entry_key (record_key id) ≡ true = ap is_entry_key ((bytes_eq-Decides (record_key id) (b ∷ bs)).0 e) ∙ h in cc

-- ---- the map after a change

after_change : (fs : FieldsModel) (m : Values) (id : List ℕ) (old new : Option (List ℕ)) (k : List ℕ) →
    changed m (change_puts fs id old new) k ≡ cond (among k (entries_if fs id new)) (Some []) (cond (bytes_eq (record_key id) k) new (cond (among k (entries_if fs id old) && not (among k (entries_if fs id new))) None (m k)))
after_change fs m id old new k =
    ap (λ (f : Values). f k) (changed_more m (deletes (filter (λ k. not (among k (entries_if fs id new))) (entries_if fs id old))) ((record_key id, new) ∷ entry_puts (entries_if fs id new)))
    ∙ after_entries (entries_if fs id new) (put_value (changed m (deletes (filter (λ k. not (among k (entries_if fs id new))) (entries_if fs id old)))) (record_key id) new) k
    ∙ ap (λ o. cond (among k (entries_if fs id new)) (Some []) (cond (bytes_eq (record_key id) k) new o))
    (after_deletes (filter (λ k. not (among k (entries_if fs id new))) (entries_if fs id old)) m k ∙ ap (λ b. cond b None (m k)) (gone_is k (entries_if fs id old) (entries_if fs id new)))

pub at_record : (fs : FieldsModel) (m : Values) (id : List ℕ) (old new : Option (List ℕ)) (other : List ℕ) → changed m (change_puts fs id old new) (record_key other) ≡ cond (bytes_eq id other) new (m (record_key other))
at_record fs m id old new other =
    after_change fs m id old new (record_key other)
    ∙ ap (λ b. cond b (Some []) (cond (bytes_eq id other) new (cond (among (record_key other) (entries_if fs id old) && not (among (record_key other) (entries_if fs id new))) None (m (record_key other))))) (no_entry fs id other new)
    ∙ ap (λ b. cond (bytes_eq id other) new (cond (b && not (among (record_key other) (entries_if fs id new))) None (m (record_key other)))) (no_entry fs id other old)

at_entry : (fs : FieldsModel) (m : Values) (id : List ℕ) (old new : Option (List ℕ)) (k : List ℕ) → is_entry_key k ≡ true →
    changed m (change_puts fs id old new) k ≡ cond (among k (entries_if fs id new)) (Some []) (cond (among k (entries_if fs id old) && not (among k (entries_if fs id new))) None (m k))
at_entry fs m id old new k h =
    after_change fs m id old new k
    ∙ ap (λ b. cond (among k (entries_if fs id new)) (Some []) (cond b new (cond (among k (entries_if fs id old) && not (among k (entries_if fs id new))) None (m k)))) (apart id k h)

-- ---- both ways

-- the record's own entry
own : (fs : FieldsModel) (m : Values) (id k : List ℕ) (new : Option (List ℕ)) → m (record_key id) ≡ new → among k (entries_if fs id new) ≡ true → HasRecord fs m k
own fs m id k None e h = cc
own fs m id k (Some v) e h = record { id = id; value = v; stands = e; is = h }

by_record : (fs : FieldsModel) (m : Values) (id k : List ℕ) (old : Option (List ℕ)) (h : HasRecord fs m k) → h.id ≡ id → m (record_key id) ≡ old → among k (entries_if fs id old) ≡ true
by_record fs m id k old h e f =
    let is : Some h.value ≡ old = sym h.stands ∙ ap (λ x. m (record_key x)) e ∙ f in
    ap (λ o. among k (entries_if fs id o)) (sym is) ∙ ap (λ x. among k (entries_of fs x h.value)) (sym e) ∙ h.is

pub follow : (fs : FieldsModel) (m : Values) (id : List ℕ) (new : Option (List ℕ)) → HasEntries fs m → HasEntries fs (changed m (change_puts fs id (m (record_key id)) new))
follow fs m id new h = record { each = each; all = all }
  where
    old : Option (List ℕ)
    old = m (record_key id)

    n : Values
    n = changed m (change_puts fs id old new)

    self : n (record_key id) ≡ new
    self = at_record fs m id old new id ∙ ap (λ b. cond b new (m (record_key id))) (bytes_eq_same id)

    other : (j : List ℕ) → bytes_eq id j ≡ false → n (record_key j) ≡ m (record_key j)
    other j e = at_record fs m id old new j ∙ ap (λ b. cond b new (m (record_key j))) e

    kept : (k : List ℕ) (w : HasRecord fs m k) (b : Bool) → bytes_eq id w.id ≡ b → (b ≡ true → HasRecord fs n k) → HasRecord fs n k
    kept k w true e f = f refl
    kept k w false e f = record { id = w.id; value = w.value; stands = other w.id e ∙ w.stands; is = w.is }

    each : (k : List ℕ) → is_entry_key k ≡ true → is_some (n k) ≡ true → HasRecord fs n k
    each k x y = by (among k (entries_if fs id new)) refl (among k (entries_if fs id old)) refl
      where
        there : (b c : Bool) → among k (entries_if fs id new) ≡ b → among k (entries_if fs id old) ≡ c → n k ≡ cond b (Some []) (cond (c && not b) None (m k))
        there b c e f = at_entry fs m id old new k x ∙ ap (λ t. cond t (Some []) (cond (among k (entries_if fs id old) && not t) None (m k))) e ∙ ap (λ t. cond b (Some []) (cond (t && not b) None (m k))) f

        by : (b : Bool) → among k (entries_if fs id new) ≡ b → (c : Bool) → among k (entries_if fs id old) ≡ c → HasRecord fs n k
        by true e c f = own fs n id k new self e
        by false e true f = let z : false ≡ true = ap is_some (sym (there false true e f)) ∙ y in cc
        by false e false f =
            let z : is_some (m k) ≡ true = ap is_some (sym (there false false e f)) ∙ y in
            let w = h.each k x z in
            kept k w (bytes_eq id w.id) refl (λ q. no_record (among k (entries_if fs id old)) (by_record fs m id k old w (sym ((bytes_eq-Decides id w.id).0 q)) refl) f)

    all : (k : List ℕ) → HasRecord fs n k → n k ≡ Some []
    all k w = by (bytes_eq id w.id) refl
      where
        tells : (id_of_key k ≡ w.id) × (is_entry_key k ≡ true)
        tells = tells_of fs fs.count w.id w.value k w.is

        there : (b c : Bool) → among k (entries_if fs id new) ≡ b → among k (entries_if fs id old) ≡ c → n k ≡ cond b (Some []) (cond (c && not b) None (m k))
        there b c e f = at_entry fs m id old new k tells.1 ∙ ap (λ t. cond t (Some []) (cond (among k (entries_if fs id old) && not t) None (m k))) e ∙ ap (λ t. cond b (Some []) (cond (t && not b) None (m k))) f

        stranger : (o : Option (List ℕ)) → bytes_eq id w.id ≡ false → (b : Bool) → among k (entries_if fs id o) ≡ b → b ≡ false
        stranger o e false f = refl
        stranger o e true f =
            let same : id ≡ w.id = sym (entry_is fs id o k f).0 ∙ tells.0 in
            no_record (bytes_eq id w.id) (ap (λ x. bytes_eq id x) (sym same) ∙ bytes_eq_same id) e

        by : (b : Bool) → bytes_eq id w.id ≡ b → n k ≡ Some []
        by true e =
            let same : id ≡ w.id = (bytes_eq-Decides id w.id).0 e in
            let mine : among k (entries_if fs id new) ≡ true = by_record fs n id k new w (sym same) self in
            there true (among k (entries_if fs id old)) mine refl
        by false e =
            let was = h.all k (record { id = w.id; value = w.value; stands = sym (other w.id e) ∙ w.stands; is = w.is }) in
            there false false (stranger new e (among k (entries_if fs id new)) refl) (stranger old e (among k (entries_if fs id old)) refl) ∙ was

pub at_first : (fs : FieldsModel) → HasEntries fs (λ k. None)
at_first fs = record { each = λ k x y. absurd_of y; all = λ k w. none w.stands }
  where
    absurd_of : {A : Type 0} → false ≡ true → A
    absurd_of e = cc

    none : {A : Type 0} {v : List ℕ} → None ≡ Some v → A
    none e = cc
