-- Commits in rising order, cut at a sequence.
use Rattle.std.proofs.Common.{◌≡◌, ℕ, ◌<◌, ◌≤◌, Bool, true, false, cond, List, [], ◌∷◌, ◌++◌, refl, ap, ◌∙◌, arith, nat_le, nat_lt}
use Rattle.std.proofs.lemmas.Bool.Decides.{nat_tests}
use Rattle.slate_txn.specs.State.{Commit, last_of}
use Rattle.slate_txn.specs.Reads.{up_to}
use Rattle.slate_db.specs.Sound.{above}
use Rattle.slate_db.specs.Log.{Rising}

pub rising_from : (m n : ℕ) (cs : List Commit) → m ≤ n → Rising n cs → Rising m cs
rising_from m n [] h r = tt
rising_from m n (c ∷ cs) h r = (let k : n < c.seq = r.0 in omega arith, r.1)

pub rising_above : (n i : ℕ) (cs : List Commit) → Rising n cs → Rising n (above i cs)
rising_above n i [] r = tt
rising_above n i (c ∷ cs) r = by (nat_lt i c.seq) (rising_above c.seq i cs r.1)
  where
    by : (t : Bool) → Rising c.seq (above i cs) → Rising n (cond t (c ∷ above i cs) (above i cs))
    by true rest = (r.0, rest)
    by false rest = rising_from n c.seq (above i cs) (let k : n < c.seq = r.0 in omega arith) rest

all_above : (n i : ℕ) (cs : List Commit) → i ≤ n → Rising n cs → above i cs ≡ cs
all_above n i [] h r = refl
all_above n i (c ∷ cs) h r =
    let k : n < c.seq = r.0 in
    let e : nat_lt i c.seq ≡ true = grind (arith, nat_tests) in
    rw e (ap (λ xs. c ∷ xs) (all_above c.seq i cs (omega arith) r.1))

pub none_up_to : (n i : ℕ) (cs : List Commit) → i ≤ n → Rising n cs → up_to i cs ≡ []
none_up_to n i [] h r = refl
none_up_to n i (c ∷ cs) h r =
    let k : n < c.seq = r.0 in
    let e : nat_le c.seq i ≡ false = grind (arith, nat_tests) in
    rw e (none_up_to c.seq i cs (omega arith) r.1)

pub split_at : (n i : ℕ) (cs : List Commit) → Rising n cs → up_to i cs ++ above i cs ≡ cs
split_at n i [] r = refl
split_at n i (c ∷ cs) r = by (nat_le c.seq i) refl (split_at c.seq i cs r.1)
  where
    by : (t : Bool) → nat_le c.seq i ≡ t → up_to i cs ++ above i cs ≡ cs → cond t (c ∷ up_to i cs) (up_to i cs) ++ cond (nat_lt i c.seq) (c ∷ above i cs) (above i cs) ≡ c ∷ cs
    by true e rest = let f : nat_lt i c.seq ≡ false = grind (arith, nat_tests) in rw f (ap (λ xs. c ∷ xs) rest)
    by false e rest =
        let f : nat_lt i c.seq ≡ true = grind (arith, nat_tests) in
        let g : i ≤ c.seq = grind (arith, nat_tests) in
        rw f ((λ j. none_up_to c.seq i cs g r.1 j ++ (c ∷ above i cs)) ∙ ap (λ xs. c ∷ xs) (all_above c.seq i cs g r.1))

pub last_within : (n : ℕ) (cs : List Commit) → Rising n cs → n ≤ last_of n cs
last_within n [] r = omega arith
last_within n (c ∷ cs) r = let k : n < c.seq = r.0 in let h : c.seq ≤ last_of c.seq cs = last_within c.seq cs r.1 in omega arith

pub all_up_to : (n m : ℕ) (cs : List Commit) → Rising n cs → last_of n cs ≤ m → up_to m cs ≡ cs
all_up_to n m [] r h = refl
all_up_to n m (c ∷ cs) r h =
    let l : c.seq ≤ last_of c.seq cs = last_within c.seq cs r.1 in
    let e : nat_le c.seq m ≡ true = grind (arith, nat_tests) in
    rw e (ap (λ xs. c ∷ xs) (all_up_to c.seq m cs r.1 h))

-- a commit above both sequences changes neither
pub up_to_more : (i : ℕ) (cs : List Commit) (c : Commit) → i < c.seq → up_to i (cs ++ (c ∷ [])) ≡ up_to i cs
up_to_more i [] c h = let e : nat_le c.seq i ≡ false = grind (arith, nat_tests) in rw e refl
up_to_more i (x ∷ cs) c h = ap (λ ds. cond (nat_le x.seq i) (x ∷ ds) ds) (up_to_more i cs c h)

pub up_to_within : (n m i : ℕ) (cs : List Commit) → Rising n cs → last_of n cs ≤ m → up_to m (up_to i cs) ≡ up_to i cs
up_to_within n m i [] r h = refl
up_to_within n m i (c ∷ cs) r h = by (nat_le c.seq i) (up_to_within c.seq m i cs r.1 h)
  where
    by : (t : Bool) → up_to m (up_to i cs) ≡ up_to i cs → up_to m (cond t (c ∷ up_to i cs) (up_to i cs)) ≡ cond t (c ∷ up_to i cs) (up_to i cs)
    by true rest =
        let l : c.seq ≤ last_of c.seq cs = last_within c.seq cs r.1 in
        let e : nat_le c.seq m ≡ true = grind (arith, nat_tests) in
        rw e (ap (λ xs. c ∷ xs) rest)
    by false rest = rest

pub rising_more : (n : ℕ) (cs : List Commit) (c : Commit) → Rising n cs → last_of n cs < c.seq → Rising n (cs ++ (c ∷ []))
rising_more n [] c r h = (h, tt)
rising_more n (x ∷ cs) c r h = (r.0, rising_more x.seq cs c r.1 h)

pub last_more : (n : ℕ) (cs : List Commit) (c : Commit) → last_of n (cs ++ (c ∷ [])) ≡ c.seq
last_more n [] c = refl
last_more n (x ∷ cs) c = last_more x.seq cs c

pub none_above : (n m : ℕ) (cs : List Commit) → Rising n cs → last_of n cs ≤ m → above m cs ≡ []
none_above n m [] r h = refl
none_above n m (c ∷ cs) r h =
    let l : c.seq ≤ last_of c.seq cs = last_within c.seq cs r.1 in
    let e : nat_lt m c.seq ≡ false = grind (arith, nat_tests) in
    rw e (none_above c.seq m cs r.1 h)
