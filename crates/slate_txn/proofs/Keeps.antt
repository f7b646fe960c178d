-- What is kept of commits, as writes.
use Rattle.std.proofs.Common.{◌≡◌, ℕ, ◌≤◌, Bool, true, false, cond, ◌&&◌, ◌||◌, max, ltb, List, [], ◌∷◌, map, filter, bytes_eq, Option, Some, None, refl, sym, ap, ◌∙◌, arith}
use Rattle.std.specs.List.{list_any, AllByRecursion}
use Rattle.std.specs.List.Sorted.{IsStrictlySortedBy}
use Rattle.std.specs.Map.{keys_of}
use Rattle.std.specs.declared.cmp.Ordering.TheVariants.{Less}
use Rattle.std.proofs.lemmas.Slice.Eq.{bytes_eq-Decides}
use Rattle.slate_types.specs.Keys.{key_cmp}
use Rattle.std.proofs.lemmas.Cmp.{nat_list_eq_equiv}
use Rattle.slate_types.proofs.KeyOrder.{bytes_eq_above}
use Rattle.slate_txn.specs.State.{Commit}
use Rattle.slate_txn.specs.Conflict.{with_greatest, greatest}
use Rattle.slate_txn.specs.Named.{find_named}
use Rattle.slate_txn.specs.Managers.{above, KeepsAbove, newest_kept, later}
use Rattle.slate_txn.proofs.Newest.{Write, newest, is, same_newest}
use Rattle.std.proofs.Math.Bool.{or-false, and-false}

abbrev pub Entries : Type 0
Entries = List (List ℕ × ℕ)

abbrev pub writes_of : Entries → List Write
writes_of es = map (λ e. (e.1, e.0 ∷ [])) es

abbrev pub commit_writes : List Commit → List Write
commit_writes cs = map (λ c. (c.seq, c.tracked)) cs

pub kept_writes : (p : List ℕ → Bool) (b : ℕ) (es : Entries) → newest_kept p b es ≡ newest p b (writes_of es)
kept_writes p b [] = refl
kept_writes p b (e ∷ es) = let t = sym (or-false (p e.0)) in let r = kept_writes p b es in λ i. cond (ltb b e.1 && t i) (with_greatest e.1 (r i)) (r i)

pub commits_writes : (p : List ℕ → Bool) (b : ℕ) (cs : List Commit) → greatest (map (λ c. c.seq) (filter (λ c. ltb b c.seq && list_any p c.tracked) cs)) ≡ newest p b (commit_writes cs)
commits_writes p b [] = refl
commits_writes p b (c ∷ cs) = by (ltb b c.seq && list_any p c.tracked) (commits_writes p b cs)
  where
    by : (t : Bool) → greatest (map (λ d. d.seq) (filter (λ d. ltb b d.seq && list_any p d.tracked) cs)) ≡ newest p b (commit_writes cs) →
        greatest (map (λ d. d.seq) (cond t (c ∷ filter (λ d. ltb b d.seq && list_any p d.tracked) cs) (filter (λ d. ltb b d.seq && list_any p d.tracked) cs))) ≡ cond t (with_greatest c.seq (newest p b (commit_writes cs))) (newest p b (commit_writes cs))
    by true r = ap (with_greatest c.seq) r
    by false r = r

-- ---- one key

none_of_key : (k : List ℕ) (b : ℕ) (es : Entries) → AllByRecursion (λ x. key_cmp k x ≡ Less) (keys_of es) → newest_kept (is k) b es ≡ None
none_of_key k b [] h = refl
none_of_key k b (e ∷ es) h =
    (let t = bytes_eq_above k e.0 h.0 in λ i. cond (ltb b e.1 && t i) (with_greatest e.1 (newest_kept (is k) b es)) (newest_kept (is k) b es))
    ∙ ap (λ t. cond t (with_greatest e.1 (newest_kept (is k) b es)) (newest_kept (is k) b es)) (and-false (ltb b e.1))
    ∙ none_of_key k b es h.1

-- keys rise, so that each stands once
pub newest_of_key : (k : List ℕ) (b : ℕ) (es : Entries) → IsStrictlySortedBy key_cmp (keys_of es) → newest_kept (is k) b es ≡ above b (find_named k es)
unfolding IsStrictlySortedBy
newest_of_key k b [] h = refl
newest_of_key k b (e ∷ es) h = by (bytes_eq e.0 k) refl (newest_of_key k b es h.1)
  where
    by : (t : Bool) → bytes_eq e.0 k ≡ t → newest_kept (is k) b es ≡ above b (find_named k es) →
        cond (ltb b e.1 && t) (with_greatest e.1 (newest_kept (is k) b es)) (newest_kept (is k) b es) ≡ above b (cond t (Some e.1) (find_named k es))
    by true d r =
        let none : newest_kept (is k) b es ≡ None = ap (λ x. newest_kept (is x) b es) (sym ((bytes_eq-Decides e.0 k).0 d)) ∙ none_of_key e.0 b es h.0 in
        (λ i. cond (ltb b e.1 && true) (with_greatest e.1 (none i)) (none i)) ∙ here (ltb b e.1)
      where
        here : (c : Bool) → cond (c && true) (Some e.1) None ≡ cond c (Some e.1) None
        here true = refl
        here false = refl
    by false d r = ap (λ t. cond t (with_greatest e.1 (newest_kept (is k) b es)) (newest_kept (is k) b es)) (and-false (ltb b e.1)) ∙ r

-- ---- standing for commits

each : (s : ℕ) (es : Entries) (cs : List Commit) → IsStrictlySortedBy key_cmp (keys_of es) → KeepsAbove s es cs → (k : List ℕ) → newest (is k) s (writes_of es) ≡ newest (is k) s (commit_writes cs)
each s es cs h r k = sym (kept_writes (is k) s es) ∙ newest_of_key k s es h ∙ r k ∙ commits_writes (is k) s cs

-- What is kept above s tells the greatest sequence above b of all commits, at any test.
pub whole : (p : List ℕ → Bool) (s b : ℕ) (es : Entries) (cs : List Commit) → s ≤ b → IsStrictlySortedBy key_cmp (keys_of es) → KeepsAbove s es cs →
    newest_kept p b es ≡ greatest (map (λ c. c.seq) (filter (λ c. ltb b c.seq && list_any p c.tracked) cs))
whole p s b es cs l h r = kept_writes p b es ∙ same_newest p s b l (writes_of es) (commit_writes cs) (each s es cs h r) ∙ sym (commits_writes p b cs)

pub raised : (s b : ℕ) (es : Entries) (cs : List Commit) → s ≤ b → IsStrictlySortedBy key_cmp (keys_of es) → KeepsAbove s es cs → KeepsAbove b es cs
raised s b es cs l h r k = sym (newest_of_key k b es h) ∙ whole (is k) s b es cs l h r

-- ---- tests

pub same_test : (p q : List ℕ → Bool) (b : ℕ) (es : Entries) → ((k : List ℕ) → p k ≡ q k) → newest_kept p b es ≡ newest_kept q b es
same_test p q b [] h = refl
same_test p q b (e ∷ es) h = let r = same_test p q b es h in λ i. cond (ltb b e.1 && h e.0 i) (with_greatest e.1 (r i)) (r i)

-- the test of a key, the other way round
pub key_test : (k : List ℕ) (b : ℕ) (es : Entries) → newest_kept (is k) b es ≡ newest_kept (λ x. bytes_eq k x) b es
key_test k b es = same_test (is k) (λ x. bytes_eq k x) b es (λ x. nat_list_eq_equiv.symm x k)

pub no_test : (b : ℕ) (es : Entries) → newest_kept (λ k. false) b es ≡ None
no_test b [] = refl
no_test b (e ∷ es) = ap (λ t. cond t (with_greatest e.1 (newest_kept (λ k. false) b es)) (newest_kept (λ k. false) b es)) (and-false (ltb b e.1)) ∙ no_test b es

-- ---- the later of two

pub later_none : (o : Option ℕ) → later o None ≡ o
later_none None = refl
later_none (Some n) = refl

pub later_assoc : (a b c : Option ℕ) → later (later a b) c ≡ later a (later b c)
later_assoc None b c = refl
later_assoc (Some n) None c = refl
later_assoc (Some n) (Some m) None = refl
later_assoc (Some n) (Some m) (Some l) = ap Some (let e : max (max n m) l ≡ max n (max m l) = omega arith in e)

later_twice : (n : ℕ) (a b : Option ℕ) → with_greatest n (later a b) ≡ later (with_greatest n a) (with_greatest n b)
later_twice n None None = ap Some (let e : n ≡ max n n = omega arith in e)
later_twice n None (Some m) = ap Some (let e : max n m ≡ max n (max n m) = omega arith in e)
later_twice n (Some m) None = ap Some (let e : max n m ≡ max (max n m) n = omega arith in e)
later_twice n (Some m) (Some l) = ap Some (let e : max n (max m l) ≡ max (max n m) (max n l) = omega arith in e)

later_first : (n : ℕ) (a b : Option ℕ) → with_greatest n (later a b) ≡ later (with_greatest n a) b
later_first n None None = refl
later_first n None (Some m) = refl
later_first n (Some m) None = refl
later_first n (Some m) (Some l) = ap Some (let e : max n (max m l) ≡ max (max n m) l = omega arith in e)

later_second : (n : ℕ) (a b : Option ℕ) → with_greatest n (later a b) ≡ later a (with_greatest n b)
later_second n None None = refl
later_second n None (Some m) = refl
later_second n (Some m) None = ap Some (let e : max n m ≡ max m n = omega arith in e)
later_second n (Some m) (Some l) = ap Some (let e : max n (max m l) ≡ max m (max n l) = omega arith in e)

step : (n : ℕ) (one two : Option ℕ) (c t u : Bool) → cond (c && (t || u)) (with_greatest n (later one two)) (later one two) ≡ later (cond (c && t) (with_greatest n one) one) (cond (c && u) (with_greatest n two) two)
step n one two true true true = later_twice n one two
step n one two true true false = later_first n one two
step n one two true false true = later_second n one two
step n one two true false false = refl
step n one two false t u = refl

-- what passes one of two tests
pub either_test : (p q : List ℕ → Bool) (b : ℕ) (es : Entries) → newest_kept (λ k. p k || q k) b es ≡ later (newest_kept p b es) (newest_kept q b es)
either_test p q b [] = refl
either_test p q b (e ∷ es) =
    let r = either_test p q b es in
    (λ i. cond (ltb b e.1 && (p e.0 || q e.0)) (with_greatest e.1 (r i)) (r i)) ∙ step e.1 (newest_kept p b es) (newest_kept q b es) (ltb b e.1) (p e.0) (q e.0)
