-- Where begins rise, the first is the least; and they go on to rise.
use Rattle.std.proofs.Common.{◌≡◌, ℕ, ◌≤◌, min, Bool, true, false, cond, List, [], ◌∷◌, ◌++◌, Option, Some, unwrap_or, refl, sym, ap, subst, ◌∙◌, arith, bytes_eq}
use Rattle.std.specs.Prelude.{option_map, slice_get, Result, Ok, Err, OnOk, OnErr}
use Rattle.std.specs.List.{AllByRecursion}
use Rattle.slate_txn.specs.Named.{find_named, without, update_named}
use Rattle.slate_txn.specs.Open.{least_begin, BeginsRise}
use Rattle.slate_txn.specs.State.{Tx}
use Rattle.slate_txn.proofs.NamedLaws.{all_without, update_all}

least_same : (n : ℕ) (ps : List (List ℕ × Tx)) → AllByRecursion (λ p. n ≤ p.1.begin) ps → least_begin n ps ≡ n
least_same n [] h = refl
least_same n (p ∷ ps) h = ap (λ m. least_begin m ps) (let w : n ≤ p.1.begin = h.0 in let e : min n p.1.begin ≡ n = omega arith in e) ∙ least_same n ps h.1

pub least_first : (n : ℕ) (ps : List (List ℕ × Tx)) (p : List ℕ × Tx) → slice_get ps 0 ≡ Some p → BeginsRise ps → AllByRecursion (λ q. q.1.begin ≤ n) ps → p.1.begin ≡ least_begin n ps
least_first n [] p e h w = cc
least_first n (q ∷ ps) p e h w =
    let same : q.1.begin ≡ p.1.begin = ap (λ (o : Option (List ℕ × Tx)). (unwrap_or o p).1.begin) e in
    let below : q.1.begin ≤ n = w.0 in
    let first : min n q.1.begin ≡ q.1.begin = omega arith in
    sym same ∙ sym (ap (λ m. least_begin m ps) first ∙ least_same q.1.begin ps h.0)

-- ---- a list of begins that rises goes on to

pub rise_more : (ps : List (List ℕ × Tx)) (p : List ℕ × Tx) → BeginsRise ps → AllByRecursion (λ q. q.1.begin ≤ p.1.begin) ps → BeginsRise (ps ++ (p ∷ []))
rise_more [] p h w = (tt, tt)
rise_more (q ∷ ps) p h w = (all_behind ps h.0 w.0, rise_more ps p h.1 w.1)
  where
    all_behind : (xs : List (List ℕ × Tx)) → AllByRecursion (λ x. q.1.begin ≤ x.1.begin) xs → q.1.begin ≤ p.1.begin → AllByRecursion (λ x. q.1.begin ≤ x.1.begin) (xs ++ (p ∷ []))
    all_behind [] h w = (w, tt)
    all_behind (x ∷ xs) h w = (h.0, all_behind xs h.1 w)

all_put : (n : ℕ) (k : List ℕ) (x : Tx) (ps : List (List ℕ × Tx)) → option_map (λ (t : Tx). t.begin) (find_named k ps) ≡ Some x.begin →
    AllByRecursion (λ q. n ≤ q.1.begin) ps → AllByRecursion (λ q. n ≤ q.1.begin) (update_named k (λ _. x) ps)
all_put n k x [] e h = tt
all_put n k x (p ∷ ps) e h = by (bytes_eq p.0 k) e (all_put n k x ps)
  where
    by : (b : Bool) → option_map (λ (t : Tx). t.begin) (cond b (Some p.1) (find_named k ps)) ≡ Some x.begin →
        (option_map (λ (t : Tx). t.begin) (find_named k ps) ≡ Some x.begin → AllByRecursion (λ q. n ≤ q.1.begin) ps → AllByRecursion (λ q. n ≤ q.1.begin) (update_named k (λ _. x) ps)) →
        AllByRecursion (λ q. n ≤ q.1.begin) (cond b ((p.0, x) ∷ ps) (p ∷ update_named k (λ _. x) ps))
    by true e rest = (subst (λ (m : ℕ). n ≤ m) (ap (λ (o : Option ℕ). unwrap_or o x.begin) e) h.0, h.1)
    by false e rest = (h.0, rest e h.1)

pub rise_without : (k : List ℕ) (ps : List (List ℕ × Tx)) → BeginsRise ps → BeginsRise (without k ps)
rise_without k [] h = tt
rise_without k (p ∷ ps) h = by (bytes_eq p.0 k) (rise_without k ps h.1)
  where
    by : (b : Bool) → BeginsRise (without k ps) → BeginsRise (cond b ps (p ∷ without k ps))
    by true rest = h.1
    by false rest = (all_without _ k ps h.0, rest)

pub rise_updated : (k : List ℕ) (f : Tx → Tx) (ps : List (List ℕ × Tx)) → ((t : Tx) → (f t).begin ≡ t.begin) → BeginsRise ps → BeginsRise (update_named k f ps)
rise_updated k f [] same h = tt
rise_updated k f (p ∷ ps) same h = by (bytes_eq p.0 k) (rise_updated k f ps same h.1)
  where
    by : (b : Bool) → BeginsRise (update_named k f ps) → BeginsRise (cond b ((p.0, f p.1) ∷ ps) (p ∷ update_named k f ps))
    by true rest = (subst (λ (n : ℕ). AllByRecursion (λ (q : List ℕ × Tx). n ≤ q.1.begin) ps) (sym (same p.1)) h.0, h.1)
    by false rest = (update_all (λ (q : List ℕ × Tx). p.1.begin ≤ q.1.begin) k f ps (λ q a. subst (λ (n : ℕ). p.1.begin ≤ n) (sym (same q.1)) a) h.0, rest)

-- what is put in the place of a transaction began where it did
pub rise_put : (k : List ℕ) (x : Tx) (ps : List (List ℕ × Tx)) → option_map (λ (t : Tx). t.begin) (find_named k ps) ≡ Some x.begin → BeginsRise ps → BeginsRise (update_named k (λ _. x) ps)
rise_put k x [] e h = tt
rise_put k x (p ∷ ps) e h = by (bytes_eq p.0 k) e (rise_put k x ps)
  where
    by : (b : Bool) → option_map (λ (t : Tx). t.begin) (cond b (Some p.1) (find_named k ps)) ≡ Some x.begin →
        (option_map (λ (t : Tx). t.begin) (find_named k ps) ≡ Some x.begin → BeginsRise ps → BeginsRise (update_named k (λ _. x) ps)) →
        BeginsRise (cond b ((p.0, x) ∷ ps) (p ∷ update_named k (λ _. x) ps))
    by true e rest = (subst (λ (n : ℕ). AllByRecursion (λ (q : List ℕ × Tx). n ≤ q.1.begin) ps) (ap (λ (o : Option ℕ). unwrap_or o x.begin) e) h.0, h.1)
    by false e rest = (all_put p.1.begin k x ps e h.0, rest e h.1)

-- of two ways in which a call leaves the list
pub rise_either : {X E : Type 0} (r : Result X E) (good bad new : List (List ℕ × Tx)) → OnOk r (new ≡ good) → OnErr r (new ≡ bad) → BeginsRise good → BeginsRise bad → BeginsRise new
rise_either (Ok x) good bad new is same h k = subst BeginsRise (sym is) h
rise_either (Err e) good bad new is same h k = subst BeginsRise (sym same) k
