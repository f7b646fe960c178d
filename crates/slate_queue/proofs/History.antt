-- What deeds that are right where they stand have done.
use Rattle.std.proofs.Common.{◌≡◌, ◌≢◌, ℕ, zero, ◌+◌, ◌≤◌, ◌<◌, Bool, true, false, cond, ◌&&◌, ◌||◌, nat_eq, List, [], ◌∷◌, ◌++◌, Option, Some, None, refl, sym, ap, subst, ◌∙◌, arith, append_assoc}
use Rattle.std.proofs.lemmas.Bool.Decides.{nat_tests}
use Rattle.slate_queue.specs.Deeds.{Deed, Jobs, none_yet, with_lease, Does, done_by, Did, adds, claims, finishes, any_deed, lease_by, last_lease}

any_more : (t : Deed → Bool) (ds : List Deed) (d : Deed) → any_deed t (ds ++ (d ∷ [])) ≡ (any_deed t ds || t d)
any_more t [] d = by (t d)
  where
    by : (b : Bool) → (b || false) ≡ (false || b)
    by true = refl
    by false = refl
any_more t (x ∷ ds) d = ap (λ b. t x || b) (any_more t ds d) ∙ by (t x)
  where
    by : (b : Bool) → (b || (any_deed t ds || t d)) ≡ ((b || any_deed t ds) || t d)
    by true = refl
    by false = refl

last_more : (id n : ℕ) (ds : List Deed) (d : Deed) → last_lease id n (ds ++ (d ∷ [])) ≡ lease_by id (last_lease id n ds) d
last_more id n [] d = refl
last_more id n (x ∷ ds) d = last_more id (lease_by id n x) ds d

record Inv (ds : List Deed) (j : Jobs) : Type 0 where
  added : (id : ℕ) → any_deed (adds id) ds ≡ true → id ≤ j.counter
  stands : (id n : ℕ) → j.lease id ≡ Some n → (id ≤ j.counter) × (last_lease id 0 ds ≡ n)
  claimed : (id l : ℕ) → any_deed (claims id l) ds ≡ true → l ≤ last_lease id 0 ds
  fresh : (id : ℕ) → j.counter < id → last_lease id 0 ds ≡ 0
  finished : (id : ℕ) → any_deed (finishes id) ds ≡ true → (j.lease id ≡ None) × (id ≤ j.counter)

-- ---- tests

is_same : (a b : ℕ) → nat_eq a b ≡ true → a ≡ b
is_same a b e = grind (arith, nat_tests)

same : (a : ℕ) → nat_eq a a ≡ true
same a = grind (arith, nat_tests)

apart : (a b : ℕ) → (a ≡ b → ⊥) → nat_eq a b ≡ false
apart a b h = grind (arith, nat_tests)

or_cases : {P : Type 0} (a b : Bool) → (a || b) ≡ true → (a ≡ true → P) → (b ≡ true → P) → P
or_cases true b h f g = f refl
or_cases false b h f g = g h

and_both : (a b : Bool) → (a && b) ≡ true → (a ≡ true) × (b ≡ true)
and_both true b h = (refl, h)
and_both false b h = cc

some_is : (a b : ℕ) → Some a ≡ Some b → a ≡ b
some_is a b e = cc

-- splits what was done before from the last
split : {P : Type 0} (t : Deed → Bool) (ds : List Deed) (d : Deed) → any_deed t (ds ++ (d ∷ [])) ≡ true → (any_deed t ds ≡ true → P) → (t d ≡ true → P) → P
split t ds d h f g = or_cases (any_deed t ds) (t d) (sym (any_more t ds d) ∙ h) f g

-- a lease elsewhere, and at the id
lease_cases : {P : Type 0} (j : Jobs) (id x : ℕ) (l : Option ℕ) → (nat_eq id x ≡ true → with_lease j.lease id l x ≡ l → P) → (nat_eq id x ≡ false → with_lease j.lease id l x ≡ j.lease x → P) → P
lease_cases {P = P} j id x l f g = by (nat_eq id x) refl
  where
    by : (b : Bool) → nat_eq id x ≡ b → P
    by true e = f e (ap (λ t. cond t l (j.lease x)) e)
    by false e = g e (ap (λ t. cond t l (j.lease x)) e)

-- ---- one more deed

inv_added : (ds : List Deed) (j : Jobs) (id : ℕ) → Inv ds j → id ≡ j.counter + 1 → Inv (ds ++ (Deed.added id ∷ [])) (done_by j (Deed.added id))
inv_added ds j id h e = record {
  added = λ x t. split (adds x) ds (Deed.added id) t (λ u. past x (h.added x u)) (λ u. here x u);
  stands = λ x n s. lease_cases j id x (Some 0)
      (λ u v. (same_le x u, last_more x 0 ds (Deed.added id) ∙ h.fresh x (above x u) ∙ some_is 0 n (sym v ∙ s)))
      (λ u v. (past x (h.stands x n (sym v ∙ s)).0, last_more x 0 ds (Deed.added id) ∙ (h.stands x n (sym v ∙ s)).1));
  claimed = λ x l t. subst (λ z. l ≤ z) (sym (last_more x 0 ds (Deed.added id))) (split (claims x l) ds (Deed.added id) t (λ u. h.claimed x l u) (λ u. no u));
  fresh = λ x t. last_more x 0 ds (Deed.added id) ∙ h.fresh x (less x t);
  finished = λ x t. split (finishes x) ds (Deed.added id) t
      (λ u. (ap (λ b. cond b (Some 0) (j.lease x)) (apart id x (λ w. not_past x (h.finished x u).1 w)) ∙ (h.finished x u).0, past x (h.finished x u).1)) (λ u. no u);
}
  where
    past : (x : ℕ) → x ≤ j.counter → x ≤ id
    past x a = omega arith

    here : (x : ℕ) → nat_eq id x ≡ true → x ≤ id
    here x a = let s = is_same id x a in omega arith

    same_le : (x : ℕ) → nat_eq id x ≡ true → x ≤ id
    same_le x a = here x a

    above : (x : ℕ) → nat_eq id x ≡ true → j.counter < x
    above x a = let s = is_same id x a in omega arith

    less : (x : ℕ) → id < x → j.counter < x
    less x a = omega arith

    not_past : (x : ℕ) → x ≤ j.counter → id ≡ x → ⊥
    not_past x a w = omega arith

    no : {A : Type 0} → false ≡ true → A
    no u = cc

inv_claimed : (ds : List Deed) (j : Jobs) (id l old : ℕ) → Inv ds j → j.lease id ≡ Some old → l ≡ old + 1 → Inv (ds ++ (Deed.claimed id l ∷ [])) (done_by j (Deed.claimed id l))
inv_claimed ds j id l old h s e = record {
  added = λ x t. split (adds x) ds (Deed.claimed id l) t (h.added x) (λ u. no u);
  stands = λ x n t. lease_cases j id x (Some l)
      (λ u v. (subst (λ z. z ≤ j.counter) (is_same id x u) (h.stands id old s).0, last_more x 0 ds (Deed.claimed id l) ∙ ap (λ b. cond b l (last_lease x 0 ds)) u ∙ some_is l n (sym v ∙ t)))
      (λ u v. ((h.stands x n (sym v ∙ t)).0, last_more x 0 ds (Deed.claimed id l) ∙ ap (λ b. cond b l (last_lease x 0 ds)) u ∙ (h.stands x n (sym v ∙ t)).1));
  claimed = λ x k t. subst (λ z. k ≤ z) (sym (last_more x 0 ds (Deed.claimed id l))) (split (claims x k) ds (Deed.claimed id l) t (λ u. rises x k (nat_eq id x) refl (h.claimed x k u)) (λ u. new x k (and_both (nat_eq id x) (nat_eq l k) u)));
  fresh = λ x t. last_more x 0 ds (Deed.claimed id l) ∙ ap (λ b. cond b l (last_lease x 0 ds)) (apart id x (λ w. not_above x t w)) ∙ h.fresh x t;
  finished = λ x t. split (finishes x) ds (Deed.claimed id l) t
      (λ u. (ap (λ b. cond b (Some l) (j.lease x)) (apart id x (λ w. open_no x w (h.finished x u).0)) ∙ (h.finished x u).0, (h.finished x u).1)) (λ u. no u);
}
  where
    no : {A : Type 0} → false ≡ true → A
    no u = cc

    rises : (x k : ℕ) (b : Bool) → nat_eq id x ≡ b → k ≤ last_lease x 0 ds → k ≤ cond (nat_eq id x) l (last_lease x 0 ds)
    rises x k true u a =
        let is : last_lease id 0 ds ≡ old = (h.stands id old s).1 in
        let there : last_lease x 0 ds ≡ old = ap (λ y. last_lease y 0 ds) (sym (is_same id x u)) ∙ is in
        let to : cond (nat_eq id x) l (last_lease x 0 ds) ≡ l = ap (λ b. cond b l (last_lease x 0 ds)) u in
        omega arith
    rises x k false u a = subst (λ b. k ≤ cond b l (last_lease x 0 ds)) (sym u) a

    new : (x k : ℕ) → (nat_eq id x ≡ true) × (nat_eq l k ≡ true) → k ≤ cond (nat_eq id x) l (last_lease x 0 ds)
    new x k u =
        let to : cond (nat_eq id x) l (last_lease x 0 ds) ≡ l = ap (λ b. cond b l (last_lease x 0 ds)) u.0 in
        let is : l ≡ k = is_same l k u.1 in
        omega arith

    not_above : (x : ℕ) → j.counter < x → id ≡ x → ⊥
    not_above x a w = let b : id ≤ j.counter = (h.stands id old s).0 in omega arith

    open_no : (x : ℕ) → id ≡ x → j.lease x ≡ None → ⊥
    open_no x w u = let z : Some old ≡ None = sym s ∙ ap j.lease w ∙ u in cc

inv_finished : (ds : List Deed) (j : Jobs) (id l : ℕ) → Inv ds j → j.lease id ≡ Some l → Inv (ds ++ (Deed.finished id l ∷ [])) (done_by j (Deed.finished id l))
inv_finished ds j id l h s = record {
  added = λ x t. split (adds x) ds (Deed.finished id l) t (h.added x) (λ u. no u);
  stands = λ x n t. lease_cases j id x None (λ u v. none n (sym v ∙ t)) (λ u v. ((h.stands x n (sym v ∙ t)).0, last_more x 0 ds (Deed.finished id l) ∙ (h.stands x n (sym v ∙ t)).1));
  claimed = λ x k t. subst (λ z. k ≤ z) (sym (last_more x 0 ds (Deed.finished id l))) (split (claims x k) ds (Deed.finished id l) t (λ u. h.claimed x k u) (λ u. no u));
  fresh = λ x t. last_more x 0 ds (Deed.finished id l) ∙ h.fresh x t;
  finished = λ x t. lease_cases j id x None
      (λ u v. (v, subst (λ z. z ≤ j.counter) (is_same id x u) (h.stands id l s).0))
      (λ u v. split (finishes x) ds (Deed.finished id l) t (λ w. (v ∙ (h.finished x w).0, (h.finished x w).1)) (λ w. no (sym u ∙ w)));
}
  where
    no : {A : Type 0} → false ≡ true → A
    no u = cc

    none : {A : Type 0} (n : ℕ) → None ≡ Some n → A
    none n u = cc

inv_more : (ds : List Deed) (j : Jobs) (d : Deed) → Inv ds j → Does j d → Inv (ds ++ (d ∷ [])) (done_by j d)
inv_more ds j (Deed.added id) h d = inv_added ds j id h d
inv_more ds j (Deed.claimed id l) h d = inv_claimed ds j id l d.0 h d.1 d.2
inv_more ds j (Deed.finished id l) h d = inv_finished ds j id l h d.0

inv_first : Inv [] none_yet
inv_first = record { added = λ id t. no t; stands = λ id n t. none n t; claimed = λ id l t. no t; fresh = λ id t. refl; finished = λ id t. no t }
  where
    no : {A : Type 0} → false ≡ true → A
    no u = cc

    none : {A : Type 0} (n : ℕ) → None ≡ Some n → A
    none n u = cc

-- what stands before a deed, and that it is right there
record At (ds : List Deed) (d : Deed) : Type 0 where
  jobs : Jobs
  inv : Inv ds jobs
  does : Does jobs d

at : (done before later : List Deed) (d : Deed) (j : Jobs) → Inv done j → Did j (before ++ (d ∷ later)) → At (done ++ before) d
at done [] later d j h g = record { jobs = j; inv = subst (λ xs. Inv xs j) (sym (Rattle.std.proofs.Common.append-nil done)) h; does = g.0 }
at done (x ∷ before) later d j h g = subst (λ xs. At xs d) (append_assoc done (x ∷ []) before) (at (done ++ (x ∷ [])) before later d (done_by j x) (inv_more done j x h g.0) g.1)

-- ---- the laws

not_true : (b : Bool) → (b ≡ true → ⊥) → b ≡ false
not_true true h = absurd (h refl)
not_true false h = refl

pub claimed_once : (before later : List Deed) (id l : ℕ) → Did none_yet (before ++ (Deed.claimed id l ∷ later)) → any_deed (claims id l) before ≡ false
claimed_once before later id l g = by (at [] before later (Deed.claimed id l) none_yet inv_first g)
  where
    by : At before (Deed.claimed id l) → any_deed (claims id l) before ≡ false
    by a = not_true (any_deed (claims id l) before) (λ t.
        let le : l ≤ last_lease id 0 before = a.inv.claimed id l t in
        let is : last_lease id 0 before ≡ a.does.0 = (a.inv.stands id a.does.0 a.does.1).1 in
        let e : l ≡ a.does.0 + 1 = a.does.2 in
        omega arith)

pub added_once : (before later : List Deed) (id : ℕ) → Did none_yet (before ++ (Deed.added id ∷ later)) → any_deed (adds id) before ≡ false
added_once before later id g = by (at [] before later (Deed.added id) none_yet inv_first g)
  where
    by : At before (Deed.added id) → any_deed (adds id) before ≡ false
    by a = not_true (any_deed (adds id) before) (λ t. let le : id ≤ a.jobs.counter = a.inv.added id t in let e : id ≡ a.jobs.counter + 1 = a.does in omega arith)

pub finished_once : (before later : List Deed) (id l : ℕ) → Did none_yet (before ++ (Deed.finished id l ∷ later)) → any_deed (finishes id) before ≡ false
finished_once before later id l g = by (at [] before later (Deed.finished id l) none_yet inv_first g)
  where
    by : At before (Deed.finished id l) → any_deed (finishes id) before ≡ false
    by a = not_true (any_deed (finishes id) before) (λ t. let z : Some l ≡ None = sym a.does.0 ∙ (a.inv.finished id t).0 in cc)

pub last_named : (before later : List Deed) (id l : ℕ) → Did none_yet (before ++ (Deed.finished id l ∷ later)) → (last_lease id 0 before ≡ l) × (l ≢ 0)
last_named before later id l g = by (at [] before later (Deed.finished id l) none_yet inv_first g)
  where
    by : At before (Deed.finished id l) → (last_lease id 0 before ≡ l) × (l ≢ 0)
    by a = ((a.inv.stands id l a.does.0).1, a.does.1)
