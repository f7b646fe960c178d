-- The barrier of a flush: of transactions alone it is the manager's least start, or the newest sequence; and nothing that is open stands below it.
use Rattle.std.proofs.Common.{◌≡◌, ℕ, ◌≤◌, min, List, [], ◌∷◌, map, Option, Some, None, refl, ◌∙◌, arith}
use Rattle.std.specs.Prelude.{IfSome}
use Rattle.std.specs.List.{AllByRecursion}
use Rattle.slate_types.proofs.Lists.{AllByRecursion_weaken}
use Rattle.slate_txn.specs.Managers.{with_least, least_seq, least_start as manager_start, untracked, Active}
use Rattle.slate_txn.specs.Open.{least_begin, or_least, least_start}
use Rattle.slate_txn.specs.State.{Tx, State}

-- what a manager holds of open transactions, whose own parts are held elsewhere
abbrev pub starts_of : List (List ℕ × Tx) → List (List ℕ × Active)
starts_of ps = map (λ p. (p.0, untracked p.1.begin)) ps

pub barrier_is : (n : ℕ) (ps : List (List ℕ × Tx)) → or_least n (manager_start (starts_of ps)) ≡ least_begin n ps
barrier_is n [] = refl
barrier_is n (p ∷ ps) = by (manager_start (starts_of ps)) ∙ barrier_is (min n p.1.begin) ps
  where
    by : (o : Option ℕ) → or_least n (with_least p.1.begin o) ≡ or_least (min n p.1.begin) o
    by None = let e : min p.1.begin n ≡ min n p.1.begin = omega arith in e
    by (Some m) = let e : min (min p.1.begin m) n ≡ min m (min n p.1.begin) = omega arith in e

-- ---- the least start is at most each

begin_within : (n : ℕ) (ps : List (List ℕ × Tx)) → least_begin n ps ≤ n
begin_within n [] = omega arith
begin_within n (p ∷ ps) = let h : least_begin (min n p.1.begin) ps ≤ min n p.1.begin = begin_within (min n p.1.begin) ps in omega arith

begin_each : (n : ℕ) (ps : List (List ℕ × Tx)) → AllByRecursion (λ p. least_begin n ps ≤ p.1.begin) ps
begin_each n [] = tt
begin_each n (p ∷ ps) = (let h : least_begin (min n p.1.begin) ps ≤ min n p.1.begin = begin_within (min n p.1.begin) ps in omega arith, begin_each (min n p.1.begin) ps)

or_within : (n : ℕ) (o : Option ℕ) → or_least n o ≤ n
or_within n None = omega arith
or_within n (Some m) = omega arith

or_each : (n : ℕ) (o : Option ℕ) → IfSome o (λ m. or_least n o ≤ m)
or_each n None = tt
or_each n (Some m) = let e : min m n ≤ m = omega arith in e

pub start_within : (n : ℕ) (s : State) → least_start n s ≤ n
start_within n s =
    let above : least_start n s ≤ least_begin n s.txns = or_within (least_begin n s.txns) (least_seq s.snapshots) in
    let h : least_begin n s.txns ≤ n = begin_within n s.txns in
    omega arith

pub start_begins : (n : ℕ) (s : State) → AllByRecursion (λ p. least_start n s ≤ p.1.begin) s.txns
start_begins n s =
    let above : least_start n s ≤ least_begin n s.txns = or_within (least_begin n s.txns) (least_seq s.snapshots) in
    AllByRecursion_weaken (λ p. least_begin n s.txns ≤ p.1.begin) (λ p. least_start n s ≤ p.1.begin) (λ p h. let k : least_begin n s.txns ≤ p.1.begin = h in omega arith) s.txns (begin_each n s.txns)

with_each : (b n : ℕ) (o : Option ℕ) → IfSome (with_least n o) (λ m. b ≤ m) → (b ≤ n) × IfSome o (λ m. b ≤ m)
with_each b n None h = (h, tt)
with_each b n (Some m) h = let k : b ≤ min n m = h in (omega arith, let e : b ≤ m = omega arith in e)

seq_each : (b : ℕ) (ps : List (List ℕ × ℕ)) → IfSome (least_seq ps) (λ m. b ≤ m) → AllByRecursion (λ p. b ≤ p.1) ps
seq_each b [] h = tt
seq_each b (p ∷ ps) h = ((with_each b p.1 (least_seq ps) h).0, seq_each b ps (with_each b p.1 (least_seq ps) h).1)

pub start_shows : (n : ℕ) (s : State) → AllByRecursion (λ p. least_start n s ≤ p.1) s.snapshots
start_shows n s = seq_each (least_start n s) s.snapshots (or_each (least_begin n s.txns) (least_seq s.snapshots))

-- ---- and it is no less than what is below each

begin_above : (b n : ℕ) (ps : List (List ℕ × Tx)) → b ≤ n → AllByRecursion (λ p. b ≤ p.1.begin) ps → b ≤ least_begin n ps
begin_above b n [] h a = h
begin_above b n (p ∷ ps) h a = begin_above b (min n p.1.begin) ps (let k : b ≤ p.1.begin = a.0 in omega arith) a.1

seq_above : (b : ℕ) (ps : List (List ℕ × ℕ)) → AllByRecursion (λ p. b ≤ p.1) ps → IfSome (least_seq ps) (λ m. b ≤ m)
seq_above b [] a = tt
seq_above b (p ∷ ps) a = by (least_seq ps) a.0 (seq_above b ps a.1)
  where
    by : (o : Option ℕ) → b ≤ p.1 → IfSome o (λ m. b ≤ m) → IfSome (with_least p.1 o) (λ m. b ≤ m)
    by None h k = h
    by (Some m) h k = let l : b ≤ m = k in let e : b ≤ min p.1 m = omega arith in e

or_above : (b n : ℕ) (o : Option ℕ) → b ≤ n → IfSome o (λ m. b ≤ m) → b ≤ or_least n o
or_above b n None h k = h
or_above b n (Some m) h k = let l : b ≤ m = k in let e : b ≤ min m n = omega arith in e

pub start_above : (b n : ℕ) (s : State) → b ≤ n → AllByRecursion (λ p. b ≤ p.1.begin) s.txns → AllByRecursion (λ p. b ≤ p.1) s.snapshots → b ≤ least_start n s
start_above b n s h begins shows = or_above b (least_begin n s.txns) (least_seq s.snapshots) (begin_above b n s.txns h begins) (seq_above b s.snapshots shows)
