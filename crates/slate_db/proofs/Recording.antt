-- Prefixes that are recorded, and taken back.
use Rattle.std.proofs.Common.{◌≡◌, ℕ, Bool, true, false, ◌&&◌, ◌||◌, cond, not, filter, List, [], ◌∷◌, ◌++◌, bytes_eq, refl, sym, ap, ◌∙◌}
use Rattle.std.specs.BTreeMap.{is_at}
use Rattle.std.specs.BTreeSet.{insert_key}
use Rattle.std.specs.List.{list_any}
use Rattle.std.specs.List.Sorted.{IsStrictlySortedBy}
use Rattle.std.proofs.lemmas.List.Kept.{IsStrictlySortedBy-filter}
use Rattle.std.proofs.lemmas.Slice.Eq.{bytes_eq-Decides}
use Rattle.slate_types.specs.Keys.{key_cmp, keys_set, among}
use Rattle.slate_types.proofs.KeySetLaws.{same_set, set_keeps}
use Rattle.slate_mem.proofs.NestLaws.{sets_same}
use Rattle.slate_mem.proofs.TableLaws.{any_append, set_of_set}
use Rattle.slate_db.specs.Segmented.{without_prefixes}

or_true : (b : Bool) → (b || true) ≡ true
or_true true = refl
or_true false = refl

or_assoc : (a b c : Bool) → ((a || b) || c) ≡ (b || (a || c))
or_assoc true true c = refl
or_assoc true false c = refl
or_assoc false b c = refl

and_false : (b : Bool) → (b && false) ≡ false
and_false true = refl
and_false false = refl

-- a prefix that is inserted is among them
among_inserted : (x p : List ℕ) (ks : List (List ℕ)) → IsStrictlySortedBy key_cmp ks → among p (insert_key key_cmp ks x) ≡ (bytes_eq x p || among p ks)
among_inserted x p ks rising = ap (λ js. among p (insert_key key_cmp js x)) (sym (set_of_set ks rising)) ∙ set_keeps (x ∷ ks) p

same_bytes : (x p : List ℕ) → bytes_eq x p ≡ true → x ≡ p
same_bytes x p e = (bytes_eq-Decides x p).0 e

-- ---- those that aren't recorded yet

-- which of the prefixes that are left, and of those that were found, aren't
abbrev pub IsMissing : List (List ℕ) → List (List ℕ) → List (List ℕ) → List (List ℕ) → Type 0
IsMissing recorded own fresh left = (p : List ℕ) → (among p fresh || (among p left && not (among p recorded))) ≡ (among p own && not (among p recorded))

pub missing_skipped : (x : List ℕ) (recorded own fresh left rest : List (List ℕ)) → left ≡ x ∷ rest → among x recorded ≡ true → IsMissing recorded own fresh left → IsMissing recorded own fresh rest
missing_skipped x recorded own fresh left rest is there was p = by (bytes_eq x p) refl ∙ ap (λ ks. among p fresh || (among p ks && not (among p recorded))) (sym is) ∙ was p
  where
    by : (b : Bool) → bytes_eq x p ≡ b → (among p fresh || (among p rest && not (among p recorded))) ≡ (among p fresh || ((bytes_eq x p || among p rest) && not (among p recorded)))
    by true e =
        let known : among p recorded ≡ true = ap (λ k. among k recorded) (sym (same_bytes x p e)) ∙ there in
        (λ i. among p fresh || (among p rest && not (known i))) ∙ ap (λ b. among p fresh || b) (and_false (among p rest)) ∙ sym (λ i. among p fresh || ((e i || among p rest) && not (known i)))
    by false e = sym (ap (λ b. among p fresh || ((b || among p rest) && not (among p recorded))) e)

pub missing_found : (x : List ℕ) (recorded own fresh left rest : List (List ℕ)) → left ≡ x ∷ rest → among x recorded ≡ false → IsStrictlySortedBy key_cmp fresh → IsMissing recorded own fresh left → IsMissing recorded own (insert_key key_cmp fresh x) rest
missing_found x recorded own fresh left rest is there rising was p =
    ap (λ b. b || (among p rest && not (among p recorded))) (among_inserted x p fresh rising)
    ∙ by (bytes_eq x p) refl
    ∙ ap (λ ks. among p fresh || (among p ks && not (among p recorded))) (sym is) ∙ was p
  where
    by : (b : Bool) → bytes_eq x p ≡ b → ((bytes_eq x p || among p fresh) || (among p rest && not (among p recorded))) ≡ (among p fresh || ((bytes_eq x p || among p rest) && not (among p recorded)))
    by true e =
        let known : among p recorded ≡ false = ap (λ k. among k recorded) (sym (same_bytes x p e)) ∙ there in
        (λ i. (e i || among p fresh) || (among p rest && not (among p recorded))) ∙ sym ((λ i. among p fresh || ((e i || among p rest) && not (known i))) ∙ or_true (among p fresh))
    by false e = (λ i. (e i || among p fresh) || (among p rest && not (among p recorded))) ∙ sym (ap (λ b. among p fresh || ((b || among p rest) && not (among p recorded))) e)

pub missing_all : (recorded own fresh : List (List ℕ)) → IsMissing recorded own fresh [] → (p : List ℕ) → among p fresh ≡ (among p own && not (among p recorded))
missing_all recorded own fresh was p = sym (or_false (among p fresh)) ∙ was p
  where
    or_false : (b : Bool) → (b || false) ≡ b
    or_false true = refl
    or_false false = refl

-- ---- those that are inserted

pub all_inserted : (x : List ℕ) (ks left rest : List (List ℕ)) → left ≡ x ∷ rest → IsStrictlySortedBy key_cmp ks → keys_set (insert_key key_cmp ks x ++ rest) ≡ keys_set (ks ++ left)
all_inserted x ks left rest is rising =
    sets_same (insert_key key_cmp ks x ++ rest) (ks ++ (x ∷ rest)) (λ p.
    any_append p (insert_key key_cmp ks x) rest ∙ ap (λ b. b || among p rest) (among_inserted x p ks rising) ∙ or_assoc (bytes_eq x p) (among p ks) (among p rest) ∙ sym (any_append p ks (x ∷ rest)))
    ∙ ap (λ js. keys_set (ks ++ js)) (sym is)

pub others_stay : (x p : List ℕ) (ks more : List (List ℕ)) → IsStrictlySortedBy key_cmp ks → among x more ≡ true → among p more ≡ false → among p (insert_key key_cmp ks x) ≡ among p ks
others_stay x p ks more rising there apart = among_inserted x p ks rising ∙ by (bytes_eq x p) refl
  where
    by : (b : Bool) → bytes_eq x p ≡ b → (bytes_eq x p || among p ks) ≡ among p ks
    by true e = let is : true ≡ false = sym there ∙ ap (λ k. among k more) (same_bytes x p e) ∙ apart in cc
    by false e = ap (λ b. b || among p ks) e

-- the first of those that are left, and the others
pub first_among : (x : List ℕ) (left rest more : List (List ℕ)) → left ≡ x ∷ rest → ((p : List ℕ) → among p left ≡ true → among p more ≡ true) → among x more ≡ true
first_among x left rest more is within = within x (ap (among x) is ∙ ap (λ b. b || among x rest) ((bytes_eq-Decides x x).1 refl))

pub rest_among : (x : List ℕ) (left rest more : List (List ℕ)) → left ≡ x ∷ rest → ((p : List ℕ) → among p left ≡ true → among p more ≡ true) → (p : List ℕ) → among p rest ≡ true → among p more ≡ true
rest_among x left rest more is within p there = within p (ap (among p) is ∙ ap (λ b. bytes_eq x p || b) there ∙ or_true (bytes_eq x p))

-- ---- what is recorded, and taken back

abbrev pub AreFresh : List (List ℕ) → List (List ℕ) → List (List ℕ) → Type 0
AreFresh recorded own fresh = (p : List ℕ) → among p fresh ≡ (among p own && not (among p recorded))

pub recorded_all : (recorded own fresh made : List (List ℕ)) → AreFresh recorded own fresh → IsStrictlySortedBy key_cmp made → keys_set made ≡ keys_set (recorded ++ fresh) → made ≡ keys_set (recorded ++ own)
recorded_all recorded own fresh made new rising is =
    sym (set_of_set made rising) ∙ is
    ∙ sets_same (recorded ++ fresh) (recorded ++ own) (λ p. any_append p recorded fresh ∙ ap (λ b. among p recorded || b) (new p) ∙ either (among p recorded) (among p own) ∙ sym (any_append p recorded own))
  where
    either : (a b : Bool) → (a || (b && not a)) ≡ (a || b)
    either true b = refl
    either false true = refl
    either false false = refl

among_kept : (P : List ℕ → Bool) (p : List ℕ) (ks : List (List ℕ)) → among p (filter P ks) ≡ (among p ks && P p)
among_kept P p [] = refl
among_kept P p (k ∷ ks) = by (P k) refl (bytes_eq k p) refl (among_kept P p ks)
  where
    by : (s : Bool) → P k ≡ s → (t : Bool) → bytes_eq k p ≡ t → among p (filter P ks) ≡ (among p ks && P p) → among p (cond (P k) (k ∷ filter P ks) (filter P ks)) ≡ ((bytes_eq k p || among p ks) && P p)
    by true e true f later =
        let passes : P p ≡ true = ap P (sym (same_bytes k p f)) ∙ e in
        (λ i. among p (cond (e i) (k ∷ filter P ks) (filter P ks))) ∙ (λ i. f i || among p (filter P ks)) ∙ sym (λ i. (f i || among p ks) && passes i)
    by true e false f later = (λ i. among p (cond (e i) (k ∷ filter P ks) (filter P ks))) ∙ (λ i. f i || among p (filter P ks)) ∙ later ∙ sym (λ i. (f i || among p ks) && P p)
    by false e true f later =
        let fails : P p ≡ false = ap P (sym (same_bytes k p f)) ∙ e in
        (λ i. among p (cond (e i) (k ∷ filter P ks) (filter P ks))) ∙ later ∙ (λ i. among p ks && fails i) ∙ and_false (among p ks) ∙ sym (λ i. (f i || among p ks) && fails i)
    by false e false f later = (λ i. among p (cond (e i) (k ∷ filter P ks) (filter P ks))) ∙ later ∙ sym (λ i. (f i || among p ks) && P p)

pub taken_back : (recorded own fresh made : List (List ℕ)) → AreFresh recorded own fresh → IsStrictlySortedBy key_cmp recorded → IsStrictlySortedBy key_cmp made → ((p : List ℕ) → among p fresh ≡ false → among p made ≡ among p recorded) → without_prefixes fresh made ≡ recorded
taken_back recorded own fresh made new rise rising others =
    same_set (without_prefixes fresh made) recorded (IsStrictlySortedBy-filter key_cmp (λ q. not (among q fresh)) made rising) rise each
  where
    each : (p : List ℕ) → among p (without_prefixes fresh made) ≡ among p recorded
    each p = among_kept (λ q. not (among q fresh)) p made ∙ by (among p fresh) refl
      where
        absent : (a b : Bool) → (a && not b) ≡ true → b ≡ false
        absent true true h = cc
        absent true false h = refl
        absent false b h = cc

        by : (b : Bool) → among p fresh ≡ b → (among p made && not (among p fresh)) ≡ among p recorded
        by true e = (λ i. among p made && not (e i)) ∙ and_false (among p made) ∙ sym (absent (among p own) (among p recorded) (sym (new p) ∙ e))
        by false e = (λ i. among p made && not (e i)) ∙ and_true (among p made) ∙ others p e
          where
            and_true : (a : Bool) → (a && true) ≡ a
            and_true true = refl
            and_true false = refl

-- a test of a set, and of its keys
pub is_there : (x : List ℕ) (ks : List (List ℕ)) (found b : Bool) → found ≡ list_any (is_at (key_cmp x)) ks → (list_any (is_at (key_cmp x)) ks ≡ among x ks) → found ≡ b → among x ks ≡ b
is_there x ks found b test is h = sym is ∙ sym test ∙ h
