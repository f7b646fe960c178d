-- A plain map of records, as lines change it.
use Rattle.std.proofs.Common.{◌≡◌, ℕ, Bool, true, false, cond, not, ◌||◌, List, [], ◌∷◌, map, filter, bytes_eq, Option, Some, None, refl, sym, ap, ◌∙◌}
use Rattle.std.proofs.lemmas.Slice.Eq.{bytes_eq-Decides}
use Rattle.slate_types.specs.Keys.{among}
use Rattle.slate_types.proofs.KeySetLaws.{same_set, set_keeps, set_rises}
use Rattle.slate_txn.specs.Named.{StandOnce}
use Rattle.slate_index.specs.Entries.{FieldsModel, record_key}
use Rattle.slate_index.specs.Changes.{Values}
use Rattle.slate_index.specs.Finds.{Finds, has_field, record_has}
use Rattle.slate_index.specs.Script.{Records, found, record_at, with_change, without_record}

-- ---- without a record

pub at_without : (id j : List ℕ) (rs : Records) → record_at (without_record id rs) j ≡ cond (bytes_eq id j) None (record_at rs j)
at_without id j [] = by (bytes_eq id j)
  where
    by : (b : Bool) → record_at [] j ≡ cond b None (record_at [] j)
    by true = refl
    by false = refl
at_without id j (r ∷ rs) = by (bytes_eq r.0 id) refl (bytes_eq id j) refl (bytes_eq r.0 j) refl (at_without id j rs)
  where
    by : (a : Bool) → bytes_eq r.0 id ≡ a → (b : Bool) → bytes_eq id j ≡ b → (c : Bool) → bytes_eq r.0 j ≡ c → record_at (without_record id rs) j ≡ cond b None (record_at rs j) →
        record_at (cond (not a) (r ∷ without_record id rs) (without_record id rs)) j ≡ cond b None (cond c (Some r.1) (record_at rs j))
    by true e true f c g later = later
    by true e false f true g later =
        let is : true ≡ false = sym g ∙ ap (λ k. bytes_eq k j) ((bytes_eq-Decides r.0 id).0 e) ∙ f in cc
    by true e false f false g later = later
    by false e true f true g later =
        let is : true ≡ false = sym ((bytes_eq-Decides r.0 id).1 ((bytes_eq-Decides r.0 j).0 g ∙ sym ((bytes_eq-Decides id j).0 f))) ∙ e in cc
    by false e true f false g later = ap (λ b. cond b (Some r.1) (record_at (without_record id rs) j)) g ∙ later
    by false e false f true g later = ap (λ b. cond b (Some r.1) (record_at (without_record id rs) j)) g
    by false e false f false g later = ap (λ b. cond b (Some r.1) (record_at (without_record id rs) j)) g ∙ later

pub at_change : (id j : List ℕ) (new : Option (List ℕ)) (rs : Records) → record_at (with_change id new rs) j ≡ cond (bytes_eq id j) new (record_at rs j)
at_change id j None rs = at_without id j rs
at_change id j (Some v) rs = by (bytes_eq id j) (at_without id j rs)
  where
    by : (b : Bool) → record_at (without_record id rs) j ≡ cond b None (record_at rs j) → cond b (Some v) (record_at (without_record id rs) j) ≡ cond b (Some v) (record_at rs j)
    by true h = refl
    by false h = h

once_without : (id : List ℕ) (rs : Records) → StandOnce rs → StandOnce (without_record id rs)
once_without id [] h = tt
once_without id (r ∷ rs) h = by (bytes_eq r.0 id) (once_without id rs h.1)
  where
    none : (b : Bool) → cond b None (record_at rs r.0) ≡ None
    none true = refl
    none false = h.0

    by : (a : Bool) → StandOnce (without_record id rs) → StandOnce (cond (not a) (r ∷ without_record id rs) (without_record id rs))
    by true later = later
    by false later = (at_without id r.0 rs ∙ none (bytes_eq id r.0), later)

same : (id : List ℕ) → bytes_eq id id ≡ true
same id = (bytes_eq-Decides id id).1 refl

pub once_change : (id : List ℕ) (new : Option (List ℕ)) (rs : Records) → StandOnce rs → StandOnce (with_change id new rs)
once_change id None rs h = once_without id rs h
once_change id (Some v) rs h = (at_without id id rs ∙ ap (λ b. cond b None (record_at rs id)) (same id), once_without id rs h)

-- ---- those that have a field

among_found : (fs : FieldsModel) (n : ℕ) (f : List ℕ) (rs : Records) (id : List ℕ) → StandOnce rs → among id (map (λ r. r.0) (filter (λ r. has_field fs n f r.1) rs)) ≡ record_has fs n f (record_at rs id)
among_found fs n f [] id h = refl
among_found fs n f (r ∷ rs) id h = by (bytes_eq r.0 id) refl (has_field fs n f r.1) refl (among_found fs n f rs id h.1)
  where
    rest : List (List ℕ)
    rest = map (λ r. r.0) (filter (λ r. has_field fs n f r.1) rs)

    by : (a : Bool) → bytes_eq r.0 id ≡ a → (b : Bool) → has_field fs n f r.1 ≡ b → among id rest ≡ record_has fs n f (record_at rs id) →
        among id (map (λ s. s.0) (cond b (r ∷ filter (λ s. has_field fs n f s.1) rs) (filter (λ s. has_field fs n f s.1) rs))) ≡ record_has fs n f (cond a (Some r.1) (record_at rs id))
    by true e true g later = ap (λ b. b || among id rest) e ∙ sym g
    by true e false g later = later ∙ ap (record_has fs n f) (ap (record_at rs) (sym ((bytes_eq-Decides r.0 id).0 e)) ∙ h.0) ∙ sym g
    by false e true g later = ap (λ b. b || among id rest) e ∙ later
    by false e false g later = later

-- what is found in a map is what the plain map of the same records has
pub found_alike : (fs : FieldsModel) (n : ℕ) (f : List ℕ) (m : Values) (rs : Records) (ids : List (List ℕ)) → StandOnce rs → ((id : List ℕ) → m (record_key id) ≡ record_at rs id) → Finds fs n f m ids → ids ≡ found fs n f rs
found_alike fs n f m rs ids once stands h = same_set ids (found fs n f rs) h.rising (set_rises (map (λ r. r.0) (filter (λ r. has_field fs n f r.1) rs)))
    (λ id. h.each id ∙ ap (record_has fs n f) (stands id) ∙ sym (among_found fs n f rs id once) ∙ sym (set_keeps (map (λ r. r.0) (filter (λ r. has_field fs n f r.1) rs)) id))
