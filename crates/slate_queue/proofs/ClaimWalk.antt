-- The steps of a claim: a scan of the jobs, the rows that it passes over, the row of the job and the job's put.
use Rattle.std.proofs.Common.{◌≡◌, inl, inr, ℕ, ◌+◌, ◌<◌, ◌≤◌, ℤ, w64, SFits, Bool, true, false, not, ◌&&◌, ◌||◌, List, [], ◌∷◌, ◌++◌, length, map, bytes_eq, Option, Some, None, Decides, refl, sym, ap, subst, ◌∙◌, arith, length-append}
use Rattle.std.specs.List.{AllByRecursion, list_all}
use Rattle.std.proofs.lemmas.Bool.Decides.{Decides-and, Decides-like}
use Rattle.std.proofs.lemmas.Slice.Eq.{bytes_eq-Decides}
use Rattle.std.specs.declared.ops.Bound.{Bound}
use Rattle.std.specs.declared.ops.Bound.TheVariants.{Included, Excluded, Unbounded}
use Rattle.slate_types.specs.declared.iter.IterationOrder.TheVariants.{Ascending, Descending}
use Rattle.slate_types.specs.declared.types.KeyValue.{KeyValue}
use Rattle.slate_types.specs.Keys.{prefix_range}
use Rattle.slate_mem.specs.declared.WriteOp.{WriteOp}
use Rattle.slate_mem.specs.Batch.{Ops, batch_keys}
use Rattle.slate_txn.specs.declared.event.TranscriptStep.{TranscriptStep}
use Rattle.slate_txn.specs.declared.event.TranscriptStep.TheVariants.{Get, Scan, Next, Seek, View, Own}
use Rattle.slate_queue.specs.Stored.{Job, jobs_prefix, is_job_key, job_bytes, job_of}
use Rattle.slate_queue.specs.Jobs.{is_free, leased}
use Rattle.slate_queue.specs.Commits.{put_of, IsPassed, IsClaim}
use Rattle.slate_queue.specs.Forms.{is_of_jobs, AreRewritten, opens_jobs, first_row, held_by, passes, is_passed, claim_steps, claims_by, claims_all, Claims}
use Rattle.slate_queue.proofs.Changes.{one_kept}
use Rattle.slate_queue.proofs.FormLaws.{never, refutes, and_both, first_same, rest_same}
use Rattle.slate_queue.proofs.ClaimForm.{row_is, claims_tell, claims_pass}

-- ---- the scan

abbrev bound_key : Bound (List ℕ) → List ℕ
bound_key (Included k) = k
bound_key (Excluded k) = k
bound_key Unbounded = []

abbrev start_key : TranscriptStep → List ℕ
start_key (Scan o r) = bound_key r.start
start_key _ = []

abbrev end_key : TranscriptStep → List ℕ
end_key (Scan o r) = bound_key r.end
end_key _ = []

abbrev is_half_open : Bound (List ℕ) → Bound (List ℕ) → Bool
is_half_open (Included a) (Excluded b) = true
is_half_open (Included a) (Included b) = false
is_half_open (Included a) Unbounded = false
is_half_open (Excluded a) e = false
is_half_open Unbounded e = false

abbrev has_bounds : TranscriptStep → Bool
has_bounds (Scan Ascending r) = is_half_open r.start r.end
has_bounds (Scan Descending r) = false
has_bounds (Get k a) = false
has_bounds (Next n a) = false
has_bounds (Seek n k) = false
has_bounds (View r) = false
has_bounds (Own k op) = false

abbrev all_jobs : TranscriptStep
all_jobs = Scan Ascending (prefix_range jobs_prefix)

no_scan : (step : TranscriptStep) → has_bounds step ≡ false → Decides false (step ≡ all_jobs)
no_scan step e = refutes (λ p. never (sym e ∙ ap has_bounds p))

pub opens_decides : (step : TranscriptStep) → Decides (opens_jobs step) (step ≡ Scan Ascending (prefix_range jobs_prefix))
opens_decides (Scan Ascending r) = by r.start r.end
  where
    by : (s e : Bound (List ℕ)) → Decides (is_of_jobs s e) (Scan Ascending (record { start = s; end = e }) ≡ all_jobs)
    by (Included a) (Excluded b) =
        Decides-like (bytes_eq a jobs_prefix && bytes_eq b (107 ∷ [])) (λ h. λ i. Scan Ascending (record { start = Included (h.0 i); end = Excluded (h.1 i) })) (λ p. (ap start_key p, ap end_key p))
        (Decides-and (bytes_eq a jobs_prefix) (bytes_eq b (107 ∷ [])) (bytes_eq-Decides a jobs_prefix) (bytes_eq-Decides b (107 ∷ [])))
    by (Included a) (Included b) = no_scan (Scan Ascending (record { start = Included a; end = Included b })) refl
    by (Included a) Unbounded = no_scan (Scan Ascending (record { start = Included a; end = Unbounded })) refl
    by (Excluded a) e = no_scan (Scan Ascending (record { start = Excluded a; end = e })) refl
    by Unbounded e = no_scan (Scan Ascending (record { start = Unbounded; end = e })) refl
opens_decides (Scan Descending r) = no_scan (Scan Descending r) refl
opens_decides (Get k a) = no_scan (Get k a) refl
opens_decides (Next n a) = no_scan (Next n a) refl
opens_decides (Seek n k) = no_scan (Seek n k) refl
opens_decides (View r) = no_scan (View r) refl
opens_decides (Own k op) = no_scan (Own k op) refl

-- ---- the rows that are passed over

abbrev Holds : ℤ → Option Job → Type 0
Holds now o = (j : Job) × (o ≡ Some j) × (is_free now j ≡ false)

held_is : (now : ℤ) (o : Option Job) → held_by now o ≡ true → Holds now o
held_is now None e = never e
held_is now (Some j) e = by (is_free now j) refl
  where
    by : (t : Bool) → is_free now j ≡ t → Holds now (Some j)
    by true f = never (sym (ap not f) ∙ e)
    by false f = (j, refl, f)

held_test : (now : ℤ) (o : Option Job) → Holds now o → held_by now o ≡ true
held_test now o h = ap (held_by now) h.1 ∙ ap not h.2

passed_is : (now : ℤ) (kv : KeyValue) → passes now (Some kv) ≡ true → IsPassed now kv
passed_is now kv e = by (is_job_key kv.key) refl
  where
    by : (t : Bool) → is_job_key kv.key ≡ t → IsPassed now kv
    by false f = inl f
    by true f = inr (f, held_is now (job_of kv.value) (sym (ap (λ b. not b || held_by now (job_of kv.value)) f) ∙ e))

passed_test : (now : ℤ) (kv : KeyValue) → IsPassed now kv → passes now (Some kv) ≡ true
passed_test now kv (inl f) = ap (λ b. not b || held_by now (job_of kv.value)) f
passed_test now kv (inr h) = ap (λ b. not b || held_by now (job_of kv.value)) h.0 ∙ held_test now (job_of kv.value) h.1

abbrev next : KeyValue → TranscriptStep
next kv = Next 0 (Some kv)

record PassedRows (now : ℤ) (steps : List TranscriptStep) : Type 0 where
  rows : List KeyValue
  is : steps ≡ map next rows
  each : AllByRecursion (IsPassed now) rows

passed_rows : (now : ℤ) (steps : List TranscriptStep) → list_all (is_passed now) steps ≡ true → PassedRows now steps
passed_rows now [] e = record { rows = []; is = refl; each = tt }
passed_rows now (step ∷ steps) e = by (first_row step) refl (and_both (is_passed now step) (list_all (is_passed now) steps) e) (passed_rows now steps)
  where
    by : (o : Option KeyValue) → first_row step ≡ o → (passes now (first_row step) ≡ true) × (list_all (is_passed now) steps ≡ true) → (list_all (is_passed now) steps ≡ true → PassedRows now steps) → PassedRows now (step ∷ steps)
    by None f h go = never (sym (ap (passes now) f) ∙ h.0)
    by (Some row) f h go =
        let later : PassedRows now steps = go h.1 in
        record { rows = row ∷ later.rows; is = λ i. row_is step row f i ∷ later.is i; each = (passed_is now row (sym (ap (passes now) f) ∙ h.0), later.each) }

all_passed : (now : ℤ) (rows : List KeyValue) → AllByRecursion (IsPassed now) rows → list_all (is_passed now) (map next rows) ≡ true
all_passed now [] h = refl
all_passed now (row ∷ rows) h = λ i. passed_test now row h.0 i && all_passed now rows h.1 i

-- ---- the steps

map_more : (rows : List KeyValue) (row : KeyValue) → map next (rows ++ (row ∷ [])) ≡ map next rows ++ (next row ∷ [])
map_more [] row = refl
map_more (r ∷ rows) row = ap (λ xs. next r ∷ xs) (map_more rows row)

abbrev is_empty : {X : Type 0} → List X → Bool
is_empty [] = true
is_empty (x ∷ xs) = false

some_last : {X : Type 0} (xs : List X) (a : X) → is_empty (xs ++ (a ∷ [])) ≡ false
some_last [] a = refl
some_last (x ∷ xs) a = refl

snoc_same : {X : Type 0} (xs ys : List X) (a b : X) → xs ++ (a ∷ []) ≡ ys ++ (b ∷ []) → (xs ≡ ys) × (a ≡ b)
snoc_same [] [] a b e = (refl, first_same a b [] [] e)
snoc_same [] (y ∷ ys) a b e = never (sym (some_last ys b) ∙ sym (ap is_empty (rest_same a y [] (ys ++ (b ∷ [])) e)))
snoc_same (x ∷ xs) [] a b e = never (sym (some_last xs a) ∙ ap is_empty (rest_same x b (xs ++ (a ∷ [])) [] e))
snoc_same (x ∷ xs) (y ∷ ys) a b e =
    let later = snoc_same xs ys a b (rest_same x y (xs ++ (a ∷ [])) (ys ++ (b ∷ [])) e) in
    ((λ i. first_same x y (xs ++ (a ∷ [])) (ys ++ (b ∷ [])) e i ∷ later.0 i), later.1)

pub claim_is : (now : ℤ) (ops : Ops) (tracked : List (List ℕ)) (scan : TranscriptStep) (passed : List TranscriptStep) (last own : TranscriptStep) → (opens_jobs scan && list_all (is_passed now) passed) ≡ true → Claims now ops tracked last own →
    IsClaim now ops tracked (claim_steps scan passed last own)
claim_is now ops tracked scan passed last own e h =
    let parts : (opens_jobs scan ≡ true) × (list_all (is_passed now) passed ≡ true) = and_both (opens_jobs scan) (list_all (is_passed now) passed) e in
    let rows : PassedRows now passed = passed_rows now passed parts.1 in
    let steps : passed ++ (last ∷ []) ≡ map next (rows.rows ++ (h.row ∷ [])) = (λ i. rows.is i ++ (h.answered i ∷ [])) ∙ sym (map_more rows.rows h.row) in
    record {
      passed = rows.rows;
      passes = rows.each;
      id = h.id;
      of_id = h.of_id;
      row = h.row;
      is_job = h.is_job;
      job = h.job;
      stands = h.stands;
      free = h.free;
      left = h.left;
      ms = h.ms;
      fits = h.fits;
      by = record {
        whole = λ i. (opens_decides scan).0 parts.0 i ∷ (steps i ++ (h.by i ∷ []));
        kept = h.kept ∙ sym (one_kept h.row.key (put_of (job_bytes (leased now h.ms h.job))));
        keys = h.keys ∙ sym (ap batch_keys h.kept);
      };
    }

pub claim_shows : (now : ℤ) (ops : Ops) (tracked : List (List ℕ)) (scan : TranscriptStep) (passed : List TranscriptStep) (last own : TranscriptStep) → IsClaim now ops tracked (claim_steps scan passed last own) →
    ((opens_jobs scan && list_all (is_passed now) passed) ≡ true) × Claims now ops tracked last own
claim_shows now ops tracked scan passed last own h = (
  (λ i. (opens_decides scan).1 scan_is i && (ap (list_all (is_passed now)) inner.0 ∙ all_passed now h.passed h.passes) i),
  record {
    row = h.row;
    answered = inner.1;
    id = h.id;
    of_id = h.of_id;
    is_job = h.is_job;
    job = h.job;
    stands = h.stands;
    free = h.free;
    left = h.left;
    ms = h.ms;
    fits = h.fits;
    kept = ops_are;
    keys = h.by.keys ∙ ap batch_keys ops_are;
    by = outer.1;
  },
)
  where
    op : WriteOp
    op = put_of (job_bytes (leased now h.ms h.job))

    steps : scan ∷ ((passed ++ (last ∷ [])) ++ (own ∷ [])) ≡ all_jobs ∷ (map next (h.passed ++ (h.row ∷ [])) ++ (Own h.row.key op ∷ []))
    steps = h.by.whole

    scan_is : scan ≡ all_jobs
    scan_is = first_same _ _ _ _ steps

    outer : (passed ++ (last ∷ []) ≡ map next (h.passed ++ (h.row ∷ []))) × (own ≡ Own h.row.key op)
    outer = snoc_same (passed ++ (last ∷ [])) (map next (h.passed ++ (h.row ∷ []))) own (Own h.row.key op) (rest_same _ _ _ _ steps)

    inner : (passed ≡ map next h.passed) × (last ≡ next h.row)
    inner = snoc_same passed (map next h.passed) last (next h.row) (outer.0 ∙ map_more h.passed h.row)

    ops_are : ops ≡ (h.row.key, op) ∷ []
    ops_are = h.by.kept ∙ one_kept h.row.key op

-- fewer steps claim none
pub claim_long : (now : ℤ) (ops : Ops) (tracked : List (List ℕ)) (ts : List TranscriptStep) → IsClaim now ops tracked ts → 3 ≤ length ts
claim_long now ops tracked ts h =
    let op : WriteOp = put_of (job_bytes (leased now h.ms h.job)) in
    let all : length ts ≡ length (all_jobs ∷ (map next (h.passed ++ (h.row ∷ [])) ++ (Own h.row.key op ∷ []))) = ap length h.by.whole in
    let outer : length (map next (h.passed ++ (h.row ∷ [])) ++ (Own h.row.key op ∷ [])) ≡ length (map next (h.passed ++ (h.row ∷ []))) + 1 = length-append (map next (h.passed ++ (h.row ∷ []))) (Own h.row.key op ∷ []) in
    let inner : length (map next (h.passed ++ (h.row ∷ []))) ≡ length (map next h.passed) + 1 = ap length (map_more h.passed h.row) ∙ length-append (map next h.passed) (next h.row ∷ []) in
    omega arith

-- the test of a commit of three steps or more
pub claim_test : (now : ℤ) (ops : Ops) (tracked : List (List ℕ)) (ts : List TranscriptStep) (scan : TranscriptStep) (passed : List TranscriptStep) (last own : TranscriptStep) (b : Bool) → ts ≡ claim_steps scan passed last own → SFits w64 now →
    b ≡ claims_all now scan passed last own ops tracked → (b ≡ true → AreRewritten ops) → Decides b (IsClaim now ops tracked ts)
claim_test now ops tracked ts scan passed last own b whole f test small = (tells, passes)
  where
    first : Bool
    first = opens_jobs scan && list_all (is_passed now) passed

    tells : b ≡ true → IsClaim now ops tracked ts
    tells e =
        let parts : (first ≡ true) × (claims_by now (first_row last) ops tracked own ≡ true) = and_both first (claims_by now (first_row last) ops tracked own) (sym test ∙ e) in
        subst (IsClaim now ops tracked) (sym whole) (claim_is now ops tracked scan passed last own parts.0 (claims_tell now ops tracked last own f (small e) parts.1))

    passes : IsClaim now ops tracked ts → b ≡ true
    passes h =
        let shown : (first ≡ true) × Claims now ops tracked last own = claim_shows now ops tracked scan passed last own (subst (IsClaim now ops tracked) whole h) in
        test ∙ (λ i. shown.0 i && claims_pass now ops tracked last own f shown.1 i)

-- fewer steps
pub no_claim_in : (now : ℤ) (ops : Ops) (tracked : List (List ℕ)) (ts : List TranscriptStep) → length ts < 3 → Decides false (IsClaim now ops tracked ts)
no_claim_in now ops tracked ts short = refutes (λ h. let l = claim_long now ops tracked ts h in omega arith)
