-- Keys that are taken in, and what is found of each.
use Rattle.std.proofs.Common.{◌≡◌, ℕ, ◌+◌, ◌-◌, ◌<◌, ◌≤◌, Bool, true, false, cond, ◌||◌, ltb, is_some, List, [], ◌∷◌, length, drop, get_or, bytes_eq, Option, Some, None, unwrap_or, refl, sym, ap, ◌∙◌, arith, Less, Equal, Greater, Ordering, add-one, drop-cons}
use Rattle.std.specs.Ordering.{match_ordering}
use Rattle.std.specs.Map.{lookup, set_value, keys_of}
use Rattle.std.specs.BTreeMap.{insert_entry, is_at}
use Rattle.std.specs.List.{AllByRecursion}
use Rattle.std.specs.List.Sorted.{IsStrictlySortedBy}
use Rattle.std.proofs.lemmas.Bool.Decides.{nat_tests}
use Rattle.std.proofs.lemmas.List.{drop_all}
use Rattle.std.proofs.lemmas.Map.Text.{is_eq-slice_cmp}
use Rattle.std.proofs.lemmas.Slice.Eq.{bytes_eq-Decides}
use Rattle.slate_types.specs.Keys.{key_cmp, among}
use Rattle.slate_types.proofs.KeyOrder.{equal_keys, bytes_eq_below}
use Rattle.slate_txn.specs.Named.{find_named}
use Rattle.slate_txn.specs.Managers.{written, IsWritten}
use Rattle.slate_txn.specs.ManagersView.{placed, over, real, IsKeptWithin, AreKept}
use Rattle.slate_txn.proofs.Keeps.{Entries}
use Rattle.slate_txn.proofs.NamedLaws.{find_is}
use Rattle.slate_types.proofs.Plain.{none_by_test, none_some}

-- ---- one key

-- a key that is there already
pub placed_there : (key : List ℕ) (es : Entries) → is_some (find_named key es) ≡ true → (k : List ℕ) → find_named k es ≡ placed (bytes_eq key k) (find_named k es)
placed_there key es h k = by (find_named k es) refl (bytes_eq key k) refl
  where
    by : (o : Option ℕ) → find_named k es ≡ o → (t : Bool) → bytes_eq key k ≡ t → o ≡ placed t o
    by (Some n) e t d = refl
    by None e true d = let is : true ≡ false = sym h ∙ ap is_some (ap (λ x. find_named x es) ((bytes_eq-Decides key k).0 d) ∙ e) in cc
    by None e false d = refl

-- a key that wasn't
pub placed_new : (key : List ℕ) (es fs : Entries) → is_some (find_named key es) ≡ false → ((k : List ℕ) → lookup (is_at (key_cmp k)) fs ≡ cond (is_at (key_cmp key) k) (Some 0) (lookup (is_at (key_cmp k)) es)) →
    (k : List ℕ) → find_named k fs ≡ placed (bytes_eq key k) (find_named k es)
placed_new key es fs h was k =
    sym (find_is k fs) ∙ was k ∙ (let t = is_eq-slice_cmp key k in let f = find_is k es in λ i. cond (t i) (Some 0) (f i)) ∙ by (bytes_eq key k) refl (find_named k es) refl
  where
    by : (t : Bool) → bytes_eq key k ≡ t → (o : Option ℕ) → find_named k es ≡ o → cond t (Some 0) o ≡ placed t o
    by true d (Some n) e = none_some n (sym (sym (ap (λ x. find_named x es) ((bytes_eq-Decides key k).0 d) ∙ e) ∙ none_by_test (find_named key es) h))
    by true d None e = refl
    by false d (Some n) e = refl
    by false d None e = refl

-- a key that is taken in with its sequence at once
pub written_one : (n : ℕ) (key : List ℕ) (es fs : Entries) → ((k : List ℕ) → lookup (is_at (key_cmp k)) fs ≡ cond (is_at (key_cmp key) k) (Some n) (lookup (is_at (key_cmp k)) es)) → IsWritten n (key ∷ []) es fs
written_one n key es fs was k = sym (find_is k fs) ∙ was k ∙ (let t = is_eq-slice_cmp key k in let f = find_is k es in λ i. cond (t i) (Some n) (f i)) ∙ by (bytes_eq key k) (find_named k es)
  where
    by : (t : Bool) (o : Option ℕ) → cond t (Some n) o ≡ written n (t || false) o
    by true o = refl
    by false o = refl

-- what is none is taken out by its sequence
pub real_new : (key : List ℕ) (es : Entries) → is_some (find_named key es) ≡ false → real (insert_entry key_cmp es key 0) ≡ real es
real_new key [] h = refl
real_new key (e ∷ es) h = by (key_cmp key e.0) refl (bytes_eq e.0 key) refl h (real_new key es)
  where
    same_bytes : (k : List ℕ) → bytes_eq k k ≡ true
    same_bytes k = (bytes_eq-Decides k k).1 refl

    by : (o : Ordering) → key_cmp key e.0 ≡ o → (t : Bool) → bytes_eq e.0 key ≡ t → is_some (cond t (Some e.1) (find_named key es)) ≡ false → (is_some (find_named key es) ≡ false → real (insert_entry key_cmp es key 0) ≡ real es) →
        real (match_ordering o ((key, 0) ∷ e ∷ es) ((e.0, 0) ∷ es) (e ∷ insert_entry key_cmp es key 0)) ≡ real (e ∷ es)
    by o c true d g r = let is : true ≡ false = g in cc
    by Less c false d g r = refl
    by Equal c false d g r = let is : true ≡ false = sym (same_bytes key) ∙ ap (λ x. bytes_eq x key) (equal_keys key e.0 c) ∙ d in cc
    by Greater c false d g r = let f = r g in λ i. cond (ltb 0 e.1) (e ∷ f i) (f i)

-- ---- several keys

abbrev pub OnKeys : (Bool → Option ℕ → Option ℕ) → List (List ℕ) → Entries → Entries → Type 0
OnKeys f keys es fs = (k : List ℕ) → f (among k keys) (find_named k es) ≡ find_named k fs

placed_both : (a b : Bool) (o : Option ℕ) → placed (a || b) o ≡ placed b (placed a o)
placed_both true true None = refl
placed_both true false None = refl
placed_both false b None = refl
placed_both a b (Some n) = refl

over_both : (n : ℕ) (a b : Bool) (o : Option ℕ) → over n (a || b) o ≡ over n b (over n a o)
over_both n a b None = refl
over_both n true true (Some m) = refl
over_both n true false (Some m) = refl
over_both n false b (Some m) = refl

placed_false : (o : Option ℕ) → placed false o ≡ o
placed_false None = refl
placed_false (Some n) = refl

over_false : (n : ℕ) (o : Option ℕ) → over n false o ≡ o
over_false n None = refl
over_false n (Some m) = refl

drop_first : (xs : List (List ℕ)) (i : ℕ) (x : List ℕ) → i < length xs → x ≡ get_or xs i x → drop i xs ≡ x ∷ drop (i + 1) xs
drop_first xs i x h e = drop-cons xs i x h ∙ (let s = sym e in let n = sym (add-one i) in λ j. s j ∷ drop (n j) xs)

pub placed_turn : (xs : List (List ℕ)) (i : ℕ) (x : List ℕ) (es fs : Entries) (target : List ℕ → Option ℕ) → i < length xs → x ≡ get_or xs i x → ((k : List ℕ) → find_named k fs ≡ placed (bytes_eq x k) (find_named k es)) →
    ((k : List ℕ) → placed (among k (drop i xs)) (find_named k es) ≡ target k) → (k : List ℕ) → placed (among k (drop (i + 1) xs)) (find_named k fs) ≡ target k
placed_turn xs i x es fs target h e one all k =
    ap (placed (among k (drop (i + 1) xs))) (one k) ∙ sym (placed_both (bytes_eq x k) (among k (drop (i + 1) xs)) (find_named k es))
    ∙ ap (λ ys. placed (among k ys) (find_named k es)) (sym (drop_first xs i x h e)) ∙ all k

pub placed_end : (xs : List (List ℕ)) (i : ℕ) (es : Entries) (target : List ℕ → Option ℕ) → length xs ≤ i → ((k : List ℕ) → placed (among k (drop i xs)) (find_named k es) ≡ target k) → (k : List ℕ) → find_named k es ≡ target k
placed_end xs i es target h all k = sym (placed_false (find_named k es)) ∙ ap (λ ys. placed (among k ys) (find_named k es)) (sym (drop_all i xs h)) ∙ all k

pub over_turn : (n : ℕ) (xs : List (List ℕ)) (i : ℕ) (x : List ℕ) (es fs : Entries) (target : List ℕ → Option ℕ) → i < length xs → x ≡ get_or xs i x → ((k : List ℕ) → find_named k fs ≡ over n (bytes_eq x k) (find_named k es)) →
    ((k : List ℕ) → over n (among k (drop i xs)) (find_named k es) ≡ target k) → (k : List ℕ) → over n (among k (drop (i + 1) xs)) (find_named k fs) ≡ target k
over_turn n xs i x es fs target h e one all k =
    ap (over n (among k (drop (i + 1) xs))) (one k) ∙ sym (over_both n (bytes_eq x k) (among k (drop (i + 1) xs)) (find_named k es))
    ∙ ap (λ ys. over n (among k ys) (find_named k es)) (sym (drop_first xs i x h e)) ∙ all k

pub over_end : (n : ℕ) (xs : List (List ℕ)) (i : ℕ) (es : Entries) (target : List ℕ → Option ℕ) → length xs ≤ i → ((k : List ℕ) → over n (among k (drop i xs)) (find_named k es) ≡ target k) → (k : List ℕ) → find_named k es ≡ target k
over_end n xs i es target h all k = sym (over_false n (find_named k es)) ∙ ap (λ ys. over n (among k ys) (find_named k es)) (sym (drop_all i xs h)) ∙ all k

-- ---- a sequence that is set

pub find_set : (n : ℕ) (x : List ℕ) (es : Entries) (k : List ℕ) → find_named k (set_value (is_at (key_cmp x)) es n) ≡ over n (bytes_eq x k) (find_named k es)
find_set n x [] k = refl
find_set n x (e ∷ es) k = ap (λ t. find_named k (cond t ((e.0, n) ∷ es) (e ∷ set_value (is_at (key_cmp x)) es n))) test ∙ by (bytes_eq x e.0) refl (bytes_eq e.0 k) refl (find_set n x es k)
  where
    test : is_at (key_cmp x) e.0 ≡ bytes_eq x e.0
    test = is_eq-slice_cmp x e.0

    by : (t : Bool) → bytes_eq x e.0 ≡ t → (u : Bool) → bytes_eq e.0 k ≡ u → find_named k (set_value (is_at (key_cmp x)) es n) ≡ over n (bytes_eq x k) (find_named k es) →
        find_named k (cond t ((e.0, n) ∷ es) (e ∷ set_value (is_at (key_cmp x)) es n)) ≡ over n (bytes_eq x k) (cond u (Some e.1) (find_named k es))
    by true d true f r =
        let is : bytes_eq x k ≡ true = ap (λ y. bytes_eq x y) (sym ((bytes_eq-Decides e.0 k).0 f)) ∙ d in
        ap (λ u. cond u (Some n) (find_named k es)) f ∙ sym (ap (λ t. over n t (Some e.1)) is)
    by true d false f r =
        let is : bytes_eq x k ≡ false = ap (λ y. bytes_eq y k) ((bytes_eq-Decides x e.0).0 d) ∙ f in
        ap (λ u. cond u (Some n) (find_named k es)) f ∙ sym (over_false n (find_named k es)) ∙ sym (ap (λ t. over n t (find_named k es)) is)
    by false d true f r =
        let is : bytes_eq x k ≡ false = ap (λ y. bytes_eq x y) (sym ((bytes_eq-Decides e.0 k).0 f)) ∙ d in
        ap (λ u. cond u (Some e.1) (find_named k (set_value (is_at (key_cmp x)) es n))) f ∙ sym (ap (λ t. over n t (Some e.1)) is)
    by false d false f r = ap (λ u. cond u (Some e.1) (find_named k (set_value (is_at (key_cmp x)) es n))) f ∙ r

-- a key that isn't there takes no sequence
pub find_unset : (n : ℕ) (x : List ℕ) (es : Entries) → find_named x es ≡ None → (k : List ℕ) → find_named k es ≡ over n (bytes_eq x k) (find_named k es)
find_unset n x es h k = by (bytes_eq x k) refl (find_named k es) refl
  where
    by : (t : Bool) → bytes_eq x k ≡ t → (o : Option ℕ) → find_named k es ≡ o → o ≡ over n t o
    by t d None e = refl
    by true d (Some m) e = none_some m (sym h ∙ ap (λ y. find_named y es) ((bytes_eq-Decides x k).0 d) ∙ e)
    by false d (Some m) e = refl

-- ---- all together

pub written_is : (n : ℕ) (b : Bool) (o : Option ℕ) → over n b (placed b o) ≡ written n b o
written_is n true None = refl
written_is n true (Some m) = refl
written_is n false None = refl
written_is n false (Some m) = refl

-- ---- what is found of keys that rise

found_later : (e : List ℕ × ℕ) (es fs : Entries) → AllByRecursion (λ x. key_cmp e.0 x ≡ Less) (keys_of fs) → AllByRecursion (λ f. find_named f.0 es ≡ Some f.1) fs → AllByRecursion (λ f. find_named f.0 (e ∷ es) ≡ Some f.1) fs
found_later e es [] h g = tt
found_later e es (f ∷ fs) h g = (ap (λ t. cond t (Some e.1) (find_named f.0 es)) (bytes_eq_below e.0 f.0 h.0) ∙ g.0, found_later e es fs h.1 g.1)

pub finds_each : (es : Entries) → IsStrictlySortedBy key_cmp (keys_of es) → AllByRecursion (λ e. find_named e.0 es ≡ Some e.1) es
unfolding IsStrictlySortedBy
finds_each [] h = tt
finds_each (e ∷ es) h = (ap (λ t. cond t (Some e.1) (find_named e.0 es)) ((bytes_eq-Decides e.0 e.0).1 refl), found_later e es es h.0 (finds_each es h.1))

found_within : (n : ℕ) (es : Entries) → AllByRecursion (IsKeptWithin n) es → (k : List ℕ) (m : ℕ) → find_named k es ≡ Some m → (0 < m) × (m ≤ n)
found_within n [] h k m e = cc
found_within n (f ∷ es) h k m e = by (bytes_eq f.0 k) e (found_within n es h.1 k m)
  where
    by : (t : Bool) → cond t (Some f.1) (find_named k es) ≡ Some m → (find_named k es ≡ Some m → (0 < m) × (m ≤ n)) → (0 < m) × (m ≤ n)
    by true e r =
        let is : f.1 ≡ m = ap (λ (o : Option ℕ). unwrap_or o m) e in
        let low : 0 < f.1 = h.0.0 in
        let high : f.1 ≤ n = h.0.1 in
        (omega arith, omega arith)
    by false e r = r e

weaker : (P Q : List ℕ × ℕ → Type 0) → ((e : List ℕ × ℕ) → P e → Q e) → (es : Entries) → AllByRecursion P es → AllByRecursion Q es
weaker P Q f [] h = tt
weaker P Q f (e ∷ es) h = (f e h.0, weaker P Q f es h.1)

-- what is kept once the keys of a commit are written
pub kept_written : (n : ℕ) (keys : List (List ℕ)) (es fs : Entries) → 0 < n → AreKept (n - 1) es → IsStrictlySortedBy key_cmp (keys_of fs) → ((k : List ℕ) → find_named k fs ≡ written n (among k keys) (find_named k es)) → AreKept n fs
kept_written n keys es fs pos h rising found = record { rising = rising; within = weaker (λ f. find_named f.0 fs ≡ Some f.1) (IsKeptWithin n) (λ f e. one f.0 f.1 e) fs (finds_each fs rising) }
  where
    by : (t : Bool) (k : List ℕ) (m : ℕ) → written n t (find_named k es) ≡ Some m → (0 < m) × (m ≤ n)
    by true k m e = let is : n ≡ m = ap (λ (o : Option ℕ). unwrap_or o m) e in (omega arith, omega arith)
    by false k m e =
        let w = found_within (n - 1) es h.within k m e in
        let low : 0 < m = w.0 in
        let high : m ≤ n - 1 = w.1 in
        (low, omega arith)

    one : (k : List ℕ) (m : ℕ) → find_named k fs ≡ Some m → (0 < m) × (m ≤ n)
    one k m e = by (among k keys) k m (sym (found k) ∙ e)

pub real_all : (n : ℕ) (es : Entries) → AllByRecursion (IsKeptWithin n) es → real es ≡ es
real_all n [] h = refl
real_all n (e ∷ es) h =
    let low : 0 < e.1 = h.0.0 in
    let past : ltb 0 e.1 ≡ true = grind (arith, nat_tests) in
    (λ i. cond (past i) (e ∷ real es) (real es)) ∙ ap (λ fs. e ∷ fs) (real_all n es h.1)
