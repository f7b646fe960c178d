-- What a walk over the rows of a scan has passed, and the first that it takes.
use Rattle.std.proofs.Common.{◌≡◌, ◌≢◌, ℕ, zero, suc, ◌+◌, ◌<◌, ◌≤◌, ◌^◌, ℤ, Bool, true, false, cond, ◌||◌, nat_eq, List, [], ◌∷◌, ◌++◌, map, filter, filter_map, bytes_eq, Option, Some, None, option_map, refl, sym, ap, subst, ◌∙◌, arith, inl, inr, Less}
use Rattle.std.specs.Prelude.{flat_map, is_some, IsSome}
use Rattle.std.specs.Ordering.{is_lt}
use Rattle.std.specs.List.{AllByRecursion, cons_option}
use Rattle.std.specs.List.Sorted.{IsStrictlySortedBy}
use Rattle.std.proofs.lemmas.Bool.Decides.{nat_tests}
use Rattle.std.proofs.lemmas.List.Kept.{IsStrictlySortedBy-filter}
use Rattle.std.proofs.lemmas.Slice.Eq.{bytes_eq-Decides}
use Rattle.slate_types.specs.declared.bytes_range.BytesRange.{BytesRange}
use Rattle.slate_types.specs.declared.iter.IterationOrder.TheVariants.{Ascending}
use Rattle.slate_types.specs.declared.types.KeyValue.{KeyValue}
use Rattle.slate_types.specs.declared.types.RowEntry.{RowEntry}
use Rattle.slate_types.specs.Fold.{shown}
use Rattle.slate_types.specs.Keys.{key_cmp, in_range, among, prefix_range}
use Rattle.slate_types.specs.Rows.{key_value, operand}
use Rattle.slate_types.proofs.KeyOrder.{lt_trans, lt_irreflexive}
use Rattle.slate_types.proofs.KeySetLaws.{AllAbove, set_rises, set_keeps}
use Rattle.slate_types.proofs.Plain.{neither}
use Rattle.slate_mem.specs.Batch.{Ops, kept, batch_keys}
use Rattle.slate_mem.specs.RowOf.{own_row, row_of}
use Rattle.slate_mem.proofs.BatchLaws.{has_one_row, none_left, some_kept}
use Rattle.slate_txn.specs.State.{Rules, Commit, combine_at, last_of}
use Rattle.slate_txn.specs.Reads.{key_rows, keys_seen, seen, rows_seen, state_at, up_to}
use Rattle.slate_txn.proofs.PartLaws.{IsOfKeys}
use Rattle.slate_txn.proofs.PlaceLaws.{own_seen}
use Rattle.slate_txn.proofs.SeenLaws.{AreSeen, rows_are_seen}
use Rattle.slate_queue.specs.Stored.{Job, jobs_prefix, job_key, is_job_key, job_of, number_bytes}
use Rattle.slate_queue.specs.Jobs.{Queue, first_free, first_from, free_or, is_free, last_number}
use Rattle.slate_queue.specs.Commits.{IsPassed}
use Rattle.slate_queue.specs.Standing.{IsQueueIn, job_in, value_from}
use Rattle.slate_queue.specs.FirstFree.{IsFreeRow, FirstIsTaken}
use Rattle.slate_queue.proofs.FormLaws.{never, first_same, rest_same}
use Rattle.slate_queue.proofs.JobOrder.{lesser_first}
use Rattle.slate_queue.proofs.JobValues.{value_is, value_same}
use Rattle.slate_queue.proofs.Stands.{sees_the_state}

-- ---- rows of rising keys

some_same : {X : Type 0} (x y : X) (o : Option X) → o ≡ Some x → o ≡ Some y → x ≡ y
some_same x y o e f = cc

no_some : {X : Type 0} {A : Type 0} (x : X) (o : Option X) → o ≡ None → o ≡ Some x → A
no_some x o e f = cc

pub above_is : (j k : List ℕ) (js : List (List ℕ)) → AllAbove j js → among k js ≡ true → key_cmp j k ≡ Less
above_is j k [] h e = never e
above_is j k (x ∷ xs) h e = by (bytes_eq x k) refl (above_is j k xs h.1)
  where
    by : (b : Bool) → bytes_eq x k ≡ b → (among k xs ≡ true → key_cmp j k ≡ Less) → key_cmp j k ≡ Less
    by true f later = subst (λ y. key_cmp j y ≡ Less) ((bytes_eq-Decides x k).0 f) h.0
    by false f later = later (sym (ap (λ b. b || among k xs) f) ∙ e)

none_between : {A : Type 0} (j k : List ℕ) (js : List (List ℕ)) → AllAbove j js → among k (j ∷ js) ≡ true → key_cmp k j ≡ Less → A
none_between {A = A} j k js h e l = by (bytes_eq j k) refl
  where
    by : (b : Bool) → bytes_eq j k ≡ b → A
    by true f = lt_irreflexive j (ap is_lt (subst (λ y. key_cmp y j ≡ Less) (sym ((bytes_eq-Decides j k).0 f)) l))
    by false f = lt_irreflexive k (lt_trans k j k (ap is_lt l) (ap is_lt (above_is j k js h (sym (ap (λ b. b || among k js) f) ∙ e))))

abbrev pub answers : (List ℕ → Option RowEntry) → List (List ℕ) → List KeyValue
answers f ks = map key_value (filter_map f ks)

-- what is true of all that was passed is true of each row before the next one
passed_before : (f : List ℕ → Option RowEntry) (P : KeyValue → Type 0) → IsOfKeys f → (ks : List (List ℕ)) → IsStrictlySortedBy key_cmp ks → (passed : List KeyValue) (kv : KeyValue) (rest : List KeyValue) →
    answers f ks ≡ passed ++ (kv ∷ rest) → AllByRecursion P passed → (k : List ℕ) (x : RowEntry) → f k ≡ Some x → among k ks ≡ true → key_cmp k kv.key ≡ Less → P (key_value x)
unfolding IsStrictlySortedBy
passed_before f P own [] rise passed kv rest e all k x is there l = never there
passed_before f P own (j ∷ js) rise passed kv rest e all k x is there l = by (f j) refl e (λ ps h hs t. passed_before f P own js rise.1 ps kv rest h hs k x is t l)
  where
    behind : bytes_eq j k ≡ false → among k js ≡ true
    behind g = sym (ap (λ b. b || among k js) g) ∙ there

    at : (y : RowEntry) → f j ≡ Some y → (ps : List KeyValue) → key_value y ∷ answers f js ≡ ps ++ (kv ∷ rest) → AllByRecursion P ps →
        ((us : List KeyValue) → answers f js ≡ us ++ (kv ∷ rest) → AllByRecursion P us → among k js ≡ true → P (key_value x)) → P (key_value x)
    at y g [] h hs later =
        let first : key_value y ≡ kv = first_same (key_value y) kv (answers f js) rest h in
        let same : kv.key ≡ j = sym (ap (λ (z : KeyValue). z.key) first) ∙ own j y g in
        none_between j k js rise.0 there (ap (key_cmp k) (sym same) ∙ l)
    at y g (p ∷ ps) h hs later = which (bytes_eq j k) refl
      where
        first : key_value y ≡ p
        first = first_same (key_value y) p (answers f js) (ps ++ (kv ∷ rest)) h

        which : (b : Bool) → bytes_eq j k ≡ b → P (key_value x)
        which true q = subst P (sym first ∙ ap key_value (some_same y x (f j) g (ap f ((bytes_eq-Decides j k).0 q) ∙ is))) hs.0
        which false q = later ps (rest_same (key_value y) p (answers f js) (ps ++ (kv ∷ rest)) h) hs.1 (behind q)

    by : (o : Option RowEntry) → f j ≡ o → map key_value (cons_option o (filter_map f js)) ≡ passed ++ (kv ∷ rest) →
        ((us : List KeyValue) → answers f js ≡ us ++ (kv ∷ rest) → AllByRecursion P us → among k js ≡ true → P (key_value x)) → P (key_value x)
    by None g h later = which (bytes_eq j k) refl
      where
        which : (b : Bool) → bytes_eq j k ≡ b → P (key_value x)
        which true q = no_some x (f j) g (ap f ((bytes_eq-Decides j k).0 q) ∙ is)
        which false q = later passed h all (behind q)
    by (Some y) g h later = at y g passed h all later

-- and of each row, where all were passed
passed_all : (f : List ℕ → Option RowEntry) (P : KeyValue → Type 0) (ks : List (List ℕ)) → AllByRecursion P (answers f ks) → (k : List ℕ) (x : RowEntry) → f k ≡ Some x → among k ks ≡ true → P (key_value x)
passed_all f P [] all k x is there = never there
passed_all f P (j ∷ js) all k x is there = by (f j) refl all (λ h t. passed_all f P js h k x is t)
  where
    behind : bytes_eq j k ≡ false → among k js ≡ true
    behind g = sym (ap (λ b. b || among k js) g) ∙ there

    by : (o : Option RowEntry) → f j ≡ o → AllByRecursion P (map key_value (cons_option o (filter_map f js))) → (AllByRecursion P (answers f js) → among k js ≡ true → P (key_value x)) → P (key_value x)
    by None g h later = which (bytes_eq j k) refl
      where
        which : (b : Bool) → bytes_eq j k ≡ b → P (key_value x)
        which true q = no_some x (f j) g (ap f ((bytes_eq-Decides j k).0 q) ∙ is)
        which false q = later h (behind q)
    by (Some y) g h later = which (bytes_eq j k) refl
      where
        which : (b : Bool) → bytes_eq j k ≡ b → P (key_value x)
        which true q = subst P (ap key_value (some_same y x (f j) g (ap f ((bytes_eq-Decides j k).0 q) ∙ is))) h.0
        which false q = later h.1 (behind q)

-- ---- each key that is seen in a range is among those of its scan

among_both : (k : List ℕ) (xs ys : List (List ℕ)) → among k (xs ++ ys) ≡ (among k xs || among k ys)
among_both k [] ys = refl
among_both k (x ∷ xs) ys = ap (λ b. bytes_eq x k || b) (among_both k xs ys) ∙ by (bytes_eq x k)
  where
    by : (b : Bool) → (b || (among k xs || among k ys)) ≡ ((b || among k xs) || among k ys)
    by true = refl
    by false = refl

no_rows : (r : Rules) (k : List ℕ) (cs : List Commit) → among k (flat_map (λ c. batch_keys c.ops) cs) ≡ false → key_rows r k cs ≡ []
no_rows r k [] h = refl
no_rows r k (c ∷ cs) h = by (row_of (combine_at r k) r.default_millis c.seq c.now c.ops k) (has_one_row (combine_at r k) r.default_millis c.seq c.now c.ops k ∙ both.0) (no_rows r k cs both.1)
  where
    both : (among k (batch_keys c.ops) ≡ false) × (among k (flat_map (λ c. batch_keys c.ops) cs) ≡ false)
    both = neither _ _ (sym (among_both k (batch_keys c.ops) (flat_map (λ c. batch_keys c.ops) cs)) ∙ h)

    by : (o : Option RowEntry) → is_some o ≡ false → key_rows r k cs ≡ [] → cons_option o (key_rows r k cs) ≡ []
    by None e later = later
    by (Some x) e later = cc

unseen : (r : Rules) (cs : List Commit) (n : ℕ) (ops : Ops) (k : List ℕ) → among k (keys_seen cs n ops) ≡ false → seen r cs n ops k ≡ None
unseen r cs n ops k h = λ i. shown (combine_at r k) (no_rows r k (up_to n cs) both.0 i ++ map (own_row k) (none_left (kept ops k) (some_kept ops k ∙ both.1) i))
  where
    both : (among k (flat_map (λ c. batch_keys c.ops) (up_to n cs)) ≡ false) × (among k (batch_keys ops) ≡ false)
    both = neither _ _ (sym (among_both k (flat_map (λ c. batch_keys c.ops) (up_to n cs)) (batch_keys ops)) ∙ sym (set_keeps (flat_map (λ c. batch_keys c.ops) (up_to n cs) ++ batch_keys ops) k) ∙ h)

among_kept : (k : List ℕ) (t : List ℕ → Bool) (ks : List (List ℕ)) → t k ≡ true → among k ks ≡ true → among k (filter t ks) ≡ true
among_kept k t [] p e = e
among_kept k t (j ∷ js) p e = by (bytes_eq j k) refl (among_kept k t js p)
  where
    by : (b : Bool) → bytes_eq j k ≡ b → (among k js ≡ true → among k (filter t js) ≡ true) → among k (cond (t j) (j ∷ filter t js) (filter t js)) ≡ true
    by true q later = ap (λ b. among k (cond b (j ∷ filter t js) (filter t js))) (ap t ((bytes_eq-Decides j k).0 q) ∙ p) ∙ ap (λ b. b || among k (filter t js)) q
    by false q later = on (t j) (later (sym (ap (λ b. b || among k js) q) ∙ e))
      where
        on : (b : Bool) → among k (filter t js) ≡ true → among k (cond b (j ∷ filter t js) (filter t js)) ≡ true
        on true found = ap (λ b. b || among k (filter t js)) q ∙ found
        on false found = found

is_scanned : (r : Rules) (cs : List Commit) (n : ℕ) (range : BytesRange) (k : List ℕ) (x : RowEntry) → seen r cs n [] k ≡ Some x → in_range range k ≡ true → among k (filter (in_range range) (keys_seen cs n [])) ≡ true
is_scanned r cs n range k x is within = among_kept k (in_range range) (keys_seen cs n []) within (by (among k (keys_seen cs n [])) refl)
  where
    by : (b : Bool) → among k (keys_seen cs n []) ≡ b → b ≡ true
    by true e = refl
    by false e = no_some x (seen r cs n [] k) (unseen r cs n [] k e) is

pub keys_rise : (cs : List Commit) (n : ℕ) (range : BytesRange) → IsStrictlySortedBy key_cmp (filter (in_range range) (keys_seen cs n []))
keys_rise cs n range = IsStrictlySortedBy-filter key_cmp (in_range range) (keys_seen cs n []) (set_rises (flat_map (λ c. batch_keys c.ops) (up_to n cs) ++ batch_keys []))

-- ---- the first free job

abbrev pub Skips : ℤ → Option Job → Type 0
Skips now None = Unit {0}
Skips now (Some j) = is_free now j ≡ false

skipped : (now : ℤ) (id : ℕ) (o : Option Job) (later : Option (ℕ × Job)) → Skips now o → free_or now id o later ≡ later
skipped now id None later h = refl
skipped now id (Some j) later h = ap (λ b. cond b (Some (id, j)) later) h

first_at : (now : ℤ) (job : ℕ → Option Job) (id : ℕ) (j : Job) → job id ≡ Some j → is_free now j ≡ true → (s n : ℕ) → s ≤ id → id < s + n → ((i : ℕ) → s ≤ i → i < id → Skips now (job i)) → first_from now job s n ≡ Some (id, j)
first_at now job id j is free s zero h below skips = absurd (omega arith)
first_at now job id j is free s (suc n) h below skips = by (nat_eq s id) refl (first_at now job id j is free (s + 1) n)
  where
    by : (b : Bool) → nat_eq s id ≡ b → (s + 1 ≤ id → id < (s + 1) + n → ((i : ℕ) → s + 1 ≤ i → i < id → Skips now (job i)) → first_from now job (s + 1) n ≡ Some (id, j)) →
        free_or now s (job s) (first_from now job (s + 1) n) ≡ Some (id, j)
    by true e later =
        let same : s ≡ id = grind (arith, nat_tests) in
        ap (λ i. free_or now i (job i) (first_from now job (s + 1) n)) same ∙ ap (λ o. free_or now id o (first_from now job (s + 1) n)) is ∙ ap (λ b. cond b (Some (id, j)) (first_from now job (s + 1) n)) free
    by false e later =
        let other : s ≢ id = grind (arith, nat_tests) in
        skipped now s (job s) (first_from now job (s + 1) n) (skips s (omega arith) (omega arith))
        ∙ later (omega arith) (omega arith) (λ i g l. skips i (omega arith) l)

none_at : (now : ℤ) (job : ℕ → Option Job) (s n : ℕ) → ((i : ℕ) → s ≤ i → i < s + n → Skips now (job i)) → first_from now job s n ≡ None
none_at now job s zero skips = refl
none_at now job s (suc n) skips =
    skipped now s (job s) (first_from now job (s + 1) n) (skips s (omega arith) (omega arith))
    ∙ none_at now job (s + 1) n (λ i g l. skips i (omega arith) (omega arith))

-- ---- a job's row

key_in : (id : ℕ) → in_range (prefix_range jobs_prefix) (job_key id) ≡ true
unfolding number_bytes
key_in id = refl

pub key_is_job : (id : ℕ) → is_job_key (job_key id) ≡ true
unfolding number_bytes
key_is_job id = refl

pub record HasRow (f : List ℕ → Option RowEntry) (id : ℕ) (job : Job) : Type 0 where
  pub row : RowEntry
  pub seen : f (job_key id) ≡ Some row
  pub stands : job_of (operand row) ≡ Some job

row_of_job : (r : Rules) (cs : List Commit) (n : ℕ) (id : ℕ) (job : Job) → job_in (value_from r cs n (job_key id)) ≡ Some (Some job) → HasRow (seen r cs n []) id job
row_of_job r cs n id job e = by (state_at r cs n (job_key id)) refl
  where
    by : (o : Option RowEntry) → state_at r cs n (job_key id) ≡ o → HasRow (seen r cs n []) id job
    by None h = no (sym (ap (λ o. job_in (option_map operand o)) h) ∙ e)
      where
        no : {A : Type 0} → Some None ≡ Some (Some job) → A
        no g = cc
    by (Some row) h = record {
      row = row;
      seen = sees_the_state r cs n (job_key id) ∙ h;
      stands = (value_is (operand row) job (sym (ap (λ o. job_in (option_map operand o)) h) ∙ e)).stands;
    }

-- what was passed is no free job
passed_skips : (now : ℤ) (kv : KeyValue) (id : ℕ) (job : Job) → kv.key ≡ job_key id → job_of kv.value ≡ Some job → IsPassed now kv → is_free now job ≡ false
passed_skips now kv id job key stands (inl none) = never (sym none ∙ ap is_job_key key ∙ key_is_job id)
passed_skips now kv id job key stands (inr h) = ap (is_free now) (some_same job h.1.0 (job_of kv.value) stands h.1.1) ∙ h.1.2

skips_by : (now : ℤ) (f : List ℕ → Option RowEntry) (value : List ℕ → Option (List ℕ)) (q : Queue) → IsQueueIn value q → IsOfKeys f →
    ((id : ℕ) (job : Job) → job_in (value (job_key id)) ≡ Some (Some job) → HasRow f id job) → (i : ℕ) → i < 2 ^ 64 → ((job : Job) (h : HasRow f i job) → IsPassed now (key_value h.row)) → Skips now (q.job i)
skips_by now f value q stands own has i fits passed = by (q.job i) refl
  where
    by : (o : Option Job) → q.job i ≡ o → Skips now o
    by None e = tt
    by (Some job) e =
        let row : HasRow f i job = has i job (stands.jobs i fits ∙ ap Some e) in
        passed_skips now (key_value row.row) i job (own (job_key i) row.row row.seen) row.stands (passed job row)

-- the row that a scan hands out at its place is seen at its key
pub row_at : (f : List ℕ → Option RowEntry) (rows : List RowEntry) → AreSeen f rows → (passed : List KeyValue) (kv : KeyValue) (rest : List KeyValue) → map key_value rows ≡ passed ++ (kv ∷ rest) → (x : RowEntry) × (f x.key ≡ Some x) × (key_value x ≡ kv)
row_at f [] all passed kv rest e = no passed e
  where
    no : {A : Type 0} (ps : List KeyValue) → [] ≡ ps ++ (kv ∷ rest) → A
    no [] h = cc
    no (p ∷ ps) h = cc
row_at f (x ∷ xs) all [] kv rest e = (x, all.0, first_same (key_value x) kv (map key_value xs) rest e)
row_at f (x ∷ xs) all (p ∷ ps) kv rest e = row_at f xs all.1 ps kv rest (rest_same (key_value x) p (map key_value xs) (ps ++ (kv ∷ rest)) e)

-- the rows of the scan of all jobs, as a reader at a sequence gets them
abbrev pub rows_from : Rules → List Commit → ℕ → List KeyValue
rows_from r cs n = map key_value (rows_seen r cs n [] Ascending (prefix_range jobs_prefix))

pub one_is_first : (r : Rules) (cs : List Commit) (n : ℕ) (q : Queue) (now : ℤ) (passed : List KeyValue) (kv : KeyValue) (rest : List KeyValue) (id : ℕ) (job : Job) → IsQueueIn (value_from r cs n) q →
    rows_from r cs n ≡ passed ++ (kv ∷ rest) → AllByRecursion (IsPassed now) passed → IsFreeRow now kv id job → first_free now q ≡ Some (id, job)
one_is_first r cs n q now passed kv rest id job stands e all free =
    first_at now q.job id job is free.free 1 q.counter within.0 (omega (arith, within.1))
    (λ i g l. skips_by now f (value_from r cs n) q stands own (row_of_job r cs n) i (omega (arith, free.fits))
    (λ j h. passed_before f (IsPassed now) own keys (keys_rise cs n range) passed kv rest e all (job_key i) h.row h.seen
    (is_scanned r cs n range (job_key i) h.row h.seen (key_in i)) (ap (key_cmp (job_key i)) free.is_job ∙ lesser_first i id l free.fits)))
  where
    range : BytesRange
    range = prefix_range jobs_prefix

    f : List ℕ → Option RowEntry
    f = seen r cs n []

    own : IsOfKeys f
    own = own_seen r cs n []

    keys : List (List ℕ)
    keys = filter (in_range range) (keys_seen cs n [])

    at : (x : RowEntry) × (f x.key ≡ Some x) × (key_value x ≡ kv)
    at = row_at f (rows_seen r cs n [] Ascending range) (rows_are_seen r cs n [] Ascending range) passed kv rest e

    key : at.0.key ≡ job_key id
    key = ap (λ (z : KeyValue). z.key) at.2 ∙ free.is_job

    shows : state_at r cs n (job_key id) ≡ Some at.0
    shows = sym (sees_the_state r cs n (job_key id)) ∙ ap f (sym key) ∙ at.1

    is : q.job id ≡ Some job
    is = value_same kv.value job (q.job id) free.stands
        (ap (λ (z : KeyValue). job_in (Some z.value)) (sym at.2) ∙ sym (ap (λ o. job_in (option_map operand o)) shows) ∙ stands.jobs id free.fits)

    some : IsSome (q.job id)
    some = subst IsSome (sym is) refl

    within : (1 ≤ id) × (id ≤ q.counter)
    within = stands.within id some

pub none_is_first : (r : Rules) (cs : List Commit) (n : ℕ) (q : Queue) (now : ℤ) (passed : List KeyValue) → IsQueueIn (value_from r cs n) q →
    rows_from r cs n ≡ passed → AllByRecursion (IsPassed now) passed → first_free now q ≡ None
none_is_first r cs n q now passed stands e all =
    none_at now q.job 1 q.counter
    (λ i g l. skips_by now f (value_from r cs n) q stands (own_seen r cs n []) (row_of_job r cs n) i (let most : q.counter ≤ last_number = stands.fits in omega arith)
    (λ j h. passed_all f (IsPassed now) (filter (in_range range) (keys_seen cs n [])) (subst (AllByRecursion (IsPassed now)) (sym e) all) (job_key i) h.row h.seen
    (is_scanned r cs n range (job_key i) h.row h.seen (key_in i))))
  where
    range : BytesRange
    range = prefix_range jobs_prefix

    f : List ℕ → Option RowEntry
    f = seen r cs n []

pub first_is_taken : FirstIsTaken
first_is_taken = record {
  one = λ r cs q now passed kv rest id job stands e all free. one_is_first r cs (last_of r.start_seq cs) q now passed kv rest id job stands e all free;
  none = λ r cs q now passed stands e all. none_is_first r cs (last_of r.start_seq cs) q now passed stands e all;
}
