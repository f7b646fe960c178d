-- One transaction more among those that are open, and what sequences say.
use Rattle.std.proofs.Common.{◌≡◌, ℕ, ◌+◌, ◌≤◌, Bool, true, false, cond, ◌||◌, List, [], ◌∷◌, ◌++◌, bytes_eq, is_some, Option, Some, None, refl, sym, ap, ◌∙◌, arith}
use Rattle.std.specs.List.{AllByRecursion}
use Rattle.slate_types.proofs.KeyOrder.{bytes_eq_same}
use Rattle.slate_txn.specs.Named.{find_named, without, update_named}
use Rattle.slate_txn.specs.State.{Commit, State, is_open, last_of}
use Rattle.slate_txn.specs.Laws.{Counts}

pub update_twice : {X : Type 0} (k : List ℕ) (f g : X → X) (ps : List (List ℕ × X)) → update_named k g (update_named k f ps) ≡ update_named k (λ x. g (f x)) ps
update_twice k f g [] = refl
update_twice k f g (p ∷ ps) = by (bytes_eq p.0 k) refl (update_twice k f g ps)
  where
    by : (b : Bool) → bytes_eq p.0 k ≡ b → update_named k g (update_named k f ps) ≡ update_named k (λ x. g (f x)) ps →
        update_named k g (cond b ((p.0, f p.1) ∷ ps) (p ∷ update_named k f ps)) ≡ cond b ((p.0, g (f p.1)) ∷ ps) (p ∷ update_named k (λ x. g (f x)) ps)
    by true e rest = ap (λ c. cond c ((p.0, g (f p.1)) ∷ ps) ((p.0, f p.1) ∷ update_named k g ps)) e
    by false e rest = ap (λ c. cond c ((p.0, g p.1) ∷ update_named k f ps) (p ∷ update_named k g (update_named k f ps))) e ∙ ap (λ qs. p ∷ qs) rest

pub update_same : {X : Type 0} (k : List ℕ) (f : X → X) (ps : List (List ℕ × X)) → ((x : X) → f x ≡ x) → update_named k f ps ≡ ps
update_same k f [] same = refl
update_same k f (p ∷ ps) same = by (bytes_eq p.0 k) (update_same k f ps same)
  where
    by : (b : Bool) → update_named k f ps ≡ ps → cond b ((p.0, f p.1) ∷ ps) (p ∷ update_named k f ps) ≡ p ∷ ps
    by true rest = λ i. (p.0, same p.1 i) ∷ ps
    by false rest = ap (λ qs. p ∷ qs) rest

-- the last of a list, under a name that no other has
pub update_last : {X : Type 0} (k : List ℕ) (f : X → X) (x : X) (ps : List (List ℕ × X)) → find_named k ps ≡ None → update_named k f (ps ++ ((k, x) ∷ [])) ≡ ps ++ ((k, f x) ∷ [])
update_last k f x [] none = ap (λ b. cond b ((k, f x) ∷ []) ((k, x) ∷ [])) (bytes_eq_same k)
update_last k f x (p ∷ ps) none = by (bytes_eq p.0 k) none (update_last k f x ps)
  where
    by : (b : Bool) → cond b (Some p.1) (find_named k ps) ≡ None → (find_named k ps ≡ None → update_named k f (ps ++ ((k, x) ∷ [])) ≡ ps ++ ((k, f x) ∷ [])) →
        cond b ((p.0, f p.1) ∷ (ps ++ ((k, x) ∷ []))) (p ∷ update_named k f (ps ++ ((k, x) ∷ []))) ≡ p ∷ (ps ++ ((k, f x) ∷ []))
    by true e rest = let clash : Some p.1 ≡ None = e in cc
    by false e rest = ap (λ qs. p ∷ qs) (rest e)

pub find_last : {X : Type 0} (k : List ℕ) (x : X) (ps : List (List ℕ × X)) → find_named k ps ≡ None → find_named k (ps ++ ((k, x) ∷ [])) ≡ Some x
find_last k x [] none = ap (λ b. cond b (Some x) None) (bytes_eq_same k)
find_last k x (p ∷ ps) none = by (bytes_eq p.0 k) none (find_last k x ps)
  where
    by : (b : Bool) → cond b (Some p.1) (find_named k ps) ≡ None → (find_named k ps ≡ None → find_named k (ps ++ ((k, x) ∷ [])) ≡ Some x) → cond b (Some p.1) (find_named k (ps ++ ((k, x) ∷ []))) ≡ Some x
    by true e rest = let clash : Some p.1 ≡ None = e in cc
    by false e rest = rest e

pub without_none : {X : Type 0} (k : List ℕ) (ps : List (List ℕ × X)) → find_named k ps ≡ None → without k ps ≡ ps
without_none k [] none = refl
without_none k (p ∷ ps) none = by (bytes_eq p.0 k) none (without_none k ps)
  where
    by : (b : Bool) → cond b (Some p.1) (find_named k ps) ≡ None → (find_named k ps ≡ None → without k ps ≡ ps) → cond b ps (p ∷ without k ps) ≡ p ∷ ps
    by true e rest = let clash : Some p.1 ≡ None = e in cc
    by false e rest = ap (λ qs. p ∷ qs) (rest e)

none_is : {X : Type 0} (o : Option X) → is_some o ≡ false → o ≡ None
none_is None e = refl
none_is (Some x) e = cc

neither : (a b : Bool) → (a || b) ≡ false → (a ≡ false) × (b ≡ false)
neither true b h = cc
neither false b h = (refl, h)

-- an id that is not open
pub no_transaction : (s : State) (id : List ℕ) → is_open s id ≡ false → find_named id s.txns ≡ None
no_transaction s id h = none_is (find_named id s.txns) (neither (is_some (find_named id s.txns)) (is_some (find_named id s.snapshots)) h).0

pub no_snapshot : (s : State) (id : List ℕ) → is_open s id ≡ false → find_named id s.snapshots ≡ None
no_snapshot s id h = none_is (find_named id s.snapshots) (neither (is_some (find_named id s.txns)) (is_some (find_named id s.snapshots)) h).1

-- ---- sequences

within : (n : ℕ) (cs : List Commit) → Counts n cs → (n ≤ last_of n cs) × AllByRecursion (λ c. c.seq ≤ last_of n cs) cs
within n [] h = (omega arith, tt)
within n (c ∷ cs) h = let rest = within c.seq cs h.1 in (omega (arith, h.0, rest.0), (rest.0, rest.1))

pub none_later : (n : ℕ) (cs : List Commit) → Counts n cs → AllByRecursion (λ c. c.seq ≤ last_of n cs) cs
none_later n cs h = (within n cs h).1

pub counts_back : (n : ℕ) (cs : List Commit) (c : Commit) → Counts n (cs ++ (c ∷ [])) → c.seq ≡ last_of n cs + 1
counts_back n [] c h = h.0
counts_back n (x ∷ cs) c h = counts_back x.seq cs c h.1
