-- What a claim reads: no key behind that of the job that it takes.
use Rattle.std.proofs.Common.{◌≡◌, ◌≢◌, ℕ, ◌+◌, ◌<◌, ◌^◌, Bool, true, false, cond, not, ◌&&◌, ◌||◌, List, [], ◌∷◌, ◌++◌, map, filter_map, bytes_eq, Option, Some, None, refl, sym, ap, subst, ◌∙◌, append_assoc, arith}
use Rattle.std.specs.Ordering.{is_lt}
use Rattle.std.specs.List.{AllByRecursion, cons_option, list_any}
use Rattle.std.specs.List.Sorted.{IsStrictlySortedBy}
use Rattle.slate_types.specs.declared.bytes_range.BytesRange.{BytesRange}
use Rattle.slate_types.specs.declared.iter.IterationOrder.TheVariants.{Ascending}
use Rattle.slate_types.specs.declared.types.KeyValue.{KeyValue}
use Rattle.slate_types.specs.declared.types.RowEntry.{RowEntry}
use Rattle.slate_types.specs.Keys.{among, in_range, key_cmp, key_lt, prefix_range}
use Rattle.slate_types.specs.Rows.{key_value}
use Rattle.slate_types.proofs.KeyOrder.{bytes_eq_same, lt_trans}
use Rattle.slate_mem.specs.declared.WriteOp.{WriteOp}
use Rattle.slate_mem.specs.Batch.{batch_keys}
use Rattle.slate_txn.specs.declared.event.TranscriptStep.{TranscriptStep}
use Rattle.slate_txn.specs.declared.event.TranscriptStep.TheVariants as steps
use Rattle.slate_txn.specs.declared.reading.Part.{Part}
use Rattle.slate_txn.specs.declared.reading.Part.TheVariants.{Nothing, UpTo, ToEnd}
use Rattle.slate_txn.specs.Alone.{IsAlone}
use Rattle.slate_txn.specs.Reads.{rows_seen, seen}
use Rattle.slate_txn.specs.Tracking.{farther, is_read, is_within, reads_of, with_steps}
use Rattle.slate_txn.proofs.PartLaws.{IsOfKeys}
use Rattle.slate_txn.proofs.PlaceLaws.{own_seen}
use Rattle.slate_queue.specs.Stored.{counter_key, job_bytes, job_key, jobs_prefix}
use Rattle.slate_queue.specs.Jobs.{last_number, leased}
use Rattle.slate_queue.specs.Commits.{put_of}
use Rattle.slate_queue.specs.CallSteps.{nexts}
use Rattle.slate_queue.specs.Laws.{ClaimsMeetNoAdd, ClaimsReadUpToTheirJob}
use Rattle.slate_queue.proofs.CallSteps.{handed_out}
use Rattle.slate_queue.proofs.Changes.{added_kept, one_kept}
use Rattle.slate_queue.proofs.FirstFree.{above_is, answers, keys_rise}
use Rattle.slate_queue.proofs.FormLaws.{first_same, rest_same}
use Rattle.slate_queue.proofs.JobOrder.{lesser_first}
use Rattle.slate_queue.proofs.Stands.{keys_apart}

-- ---- rows rise

no_row : {A : Type 0} (ps : List KeyValue) (kv : KeyValue) (rest : List KeyValue) → [] ≡ ps ++ (kv ∷ rest) → A
no_row [] kv rest e = cc
no_row (p ∷ ps) kv rest e = cc

-- the key of a row is one of the keys
key_there : (f : List ℕ → Option RowEntry) → IsOfKeys f → (ks : List (List ℕ)) (ps : List KeyValue) (kv : KeyValue) (rest : List KeyValue) → answers f ks ≡ ps ++ (kv ∷ rest) → among kv.key ks ≡ true
key_there f own [] ps kv rest e = no_row ps kv rest e
key_there f own (j ∷ js) ps kv rest e = by (f j) refl e (key_there f own js)
  where
    more : (b : Bool) → among kv.key js ≡ true → (b || among kv.key js) ≡ true
    more true h = refl
    more false h = h

    at : (y : RowEntry) → f j ≡ Some y → (us : List KeyValue) → key_value y ∷ answers f js ≡ us ++ (kv ∷ rest) → ((vs : List KeyValue) (k : KeyValue) (r : List KeyValue) → answers f js ≡ vs ++ (k ∷ r) → among k.key js ≡ true) → among kv.key (j ∷ js) ≡ true
    at y g [] h later =
        let first : key_value y ≡ kv = first_same (key_value y) kv (answers f js) rest h in
        let same : j ≡ kv.key = sym (own j y g) ∙ ap (λ (z : KeyValue). z.key) first in
        ap (λ (b : Bool). b || among kv.key js) (ap (λ (i : List ℕ). bytes_eq i kv.key) same ∙ bytes_eq_same kv.key)
    at y g (u ∷ us) h later = more (bytes_eq j kv.key) (later us kv rest (rest_same (key_value y) u (answers f js) (us ++ (kv ∷ rest)) h))

    by : (o : Option RowEntry) → f j ≡ o → map key_value (cons_option o (filter_map f js)) ≡ ps ++ (kv ∷ rest) → ((vs : List KeyValue) (k : KeyValue) (r : List KeyValue) → answers f js ≡ vs ++ (k ∷ r) → among k.key js ≡ true) → among kv.key (j ∷ js) ≡ true
    by None g h later = more (bytes_eq j kv.key) (later ps kv rest h)
    by (Some y) g h later = at y g ps h later

rise_before : (f : List ℕ → Option RowEntry) → IsOfKeys f → (ks : List (List ℕ)) → IsStrictlySortedBy key_cmp ks → (ps : List KeyValue) (kv : KeyValue) (rest : List KeyValue) → answers f ks ≡ ps ++ (kv ∷ rest) → AllByRecursion (λ p. key_lt p.key kv.key ≡ true) ps
unfolding IsStrictlySortedBy
rise_before f own [] rise ps kv rest e = no_row ps kv rest e
rise_before f own (j ∷ js) rise ps kv rest e = by (f j) refl e (rise_before f own js rise.1)
  where
    at : (y : RowEntry) → f j ≡ Some y → (us : List KeyValue) → key_value y ∷ answers f js ≡ us ++ (kv ∷ rest) → ((vs : List KeyValue) (k : KeyValue) (r : List KeyValue) → answers f js ≡ vs ++ (k ∷ r) → AllByRecursion (λ p. key_lt p.key k.key ≡ true) vs) → AllByRecursion (λ p. key_lt p.key kv.key ≡ true) us
    at y g [] h later = tt
    at y g (u ∷ us) h later =
        let tail : answers f js ≡ us ++ (kv ∷ rest) = rest_same (key_value y) u (answers f js) (us ++ (kv ∷ rest)) h in
        let first : key_value y ≡ u = first_same (key_value y) u (answers f js) (us ++ (kv ∷ rest)) h in
        let same : j ≡ u.key = sym (own j y g) ∙ ap (λ (z : KeyValue). z.key) first in
        (subst (λ (i : List ℕ). key_lt i kv.key ≡ true) same (ap is_lt (above_is j kv.key js rise.0 (key_there f own js us kv rest tail))), later us kv rest tail)

    by : (o : Option RowEntry) → f j ≡ o → map key_value (cons_option o (filter_map f js)) ≡ ps ++ (kv ∷ rest) → ((vs : List KeyValue) (k : KeyValue) (r : List KeyValue) → answers f js ≡ vs ++ (k ∷ r) → AllByRecursion (λ p. key_lt p.key k.key ≡ true) vs) → AllByRecursion (λ p. key_lt p.key kv.key ≡ true) ps
    by None g h later = later ps kv rest h
    by (Some y) g h later = at y g ps h later

-- ---- the part of the scan that was read

abbrev IsBelow : List ℕ → Part → Type 0
IsBelow k Nothing = Unit {0}
IsBelow k (UpTo j) = key_lt j k ≡ true
IsBelow k ToEnd = ⊥

below_out : (k : List ℕ) (part : Part) → IsBelow k part → is_within Ascending part k ≡ false
below_out k Nothing h = refl
below_out k (UpTo j) h = ap not h
below_out k ToEnd h = absurd h

below_farther : (k j : List ℕ) (part : Part) → IsBelow k part → key_lt j k ≡ true → IsBelow k (farther Ascending part j)
below_farther k j Nothing h l = l
below_farther k j (UpTo i) h l = by (key_lt i j)
  where
    by : (b : Bool) → IsBelow k (cond b (UpTo j) (UpTo i))
    by true = l
    by false = h
below_farther k j ToEnd h l = h

all_below : (k : List ℕ) (kvs : List KeyValue) (kv : KeyValue) → AllByRecursion (λ p. key_lt p.key kv.key ≡ true) kvs → key_lt kv.key k ≡ true → AllByRecursion (λ p. key_lt p.key k ≡ true) (kvs ++ (kv ∷ []))
all_below k [] kv h l = (l, tt)
all_below k (p ∷ kvs) kv h l = (lt_trans p.key kv.key k h.0 l, all_below k kvs kv h.1 l)

outside : (a b : Bool) → b ≡ false → (false || ((a && b) || false) || false) ≡ false
outside true b e = ap (λ (x : Bool). false || (x || false) || false) e
outside false b e = refl

unread : (range : BytesRange) (k : List ℕ) (part : Part) (kvs : List KeyValue) (own : List ℕ) (op : WriteOp) → IsBelow k part → AllByRecursion (λ p. key_lt p.key k ≡ true) kvs →
    is_read (with_steps (record { keys = []; scans = record { order = Ascending; range = range; part = part } ∷ []; views = [] }) (nexts kvs ++ (steps.Own own op ∷ []))) k ≡ false
unread range k part [] own op h all = outside (in_range range k) (is_within Ascending part k) (below_out k part h)
unread range k part (kv ∷ kvs) own op h all = unread range k (farther Ascending part kv.key) kvs own op (below_farther k kv.key part h all.0) all.1

pub claims_read : ClaimsReadUpToTheirJob
claims_read r cs n now ops tracked ts claim k alone l =
    ap (λ (us : List TranscriptStep). is_read (reads_of us) k) claim.by.whole
    ∙ unread (prefix_range jobs_prefix) k Nothing (claim.passed ++ (claim.row ∷ [])) claim.row.key _ tt (all_below k claim.passed claim.row rise l)
  where
    rise : AllByRecursion (λ p. key_lt p.key claim.row.key ≡ true) claim.passed
    rise =
        let out = handed_out r cs n (rows_seen r cs n [] Ascending (prefix_range jobs_prefix)) (claim.passed ++ (claim.row ∷ [])) _ (subst (IsAlone r cs n) claim.by.whole alone) in
        rise_before (seen r cs n []) (own_seen r cs n []) _ (keys_rise cs n (prefix_range jobs_prefix)) claim.passed claim.row (map key_value out.left) (out.is ∙ append_assoc claim.passed (claim.row ∷ []) (map key_value out.left))

-- ---- an add of a greater id

different : (a b : ℕ) → a < b → a ≢ b
different a b l e = omega arith

neither : (a b : Bool) → a ≡ false → b ≡ false → (a || b) ≡ false
neither a b e f = λ i. e i || f i

pub claims_meet_no_add : ClaimsMeetNoAdd
claims_meet_no_add r cs n d ts claim c us add alone later = (
  ap (list_any (λ (k : List ℕ). among k d.tracked || is_read (reads_of ts) k)) keys
      ∙ neither (among (job_key (add.counter + 1)) d.tracked || is_read (reads_of ts) (job_key (add.counter + 1))) ((among counter_key d.tracked || is_read (reads_of ts) counter_key) || false) (missed (job_key (add.counter + 1)) apart unread_job)
      (neither (among counter_key d.tracked || is_read (reads_of ts) counter_key) false (missed counter_key (ap (λ (k : List ℕ). bytes_eq k counter_key) claim.is_job) unread_counter) refl),
  ap (list_any (λ (k : List ℕ). among k c.tracked || is_read (reads_of us) k)) own ∙ neither (among claim.row.key c.tracked || is_read (reads_of us) claim.row.key) false (neither (among claim.row.key c.tracked) (is_read (reads_of us) claim.row.key) unwritten unread_row) refl,
)
  where
    fits : add.counter + 1 < 2 ^ 64
    fits = let l : add.counter < last_number = add.left in omega arith

    own : d.tracked ≡ claim.row.key ∷ []
    own = claim.by.keys ∙ ap batch_keys (claim.by.kept ∙ one_kept claim.row.key (put_of (job_bytes (leased d.now claim.ms claim.job))))

    keys : c.tracked ≡ job_key (add.counter + 1) ∷ counter_key ∷ []
    keys = add.by.keys ∙ ap batch_keys (add.by.kept ∙ added_kept (add.counter + 1) add.payload)

    missed : (k : List ℕ) → bytes_eq claim.row.key k ≡ false → is_read (reads_of ts) k ≡ false → (among k d.tracked || is_read (reads_of ts) k) ≡ false
    missed k other unread = neither (among k d.tracked) (is_read (reads_of ts) k) (ap (among k) own ∙ ap (λ b. b || false) other) unread

    apart : bytes_eq claim.row.key (job_key (add.counter + 1)) ≡ false
    apart = ap (λ (k : List ℕ). bytes_eq k (job_key (add.counter + 1))) claim.is_job ∙ keys_apart claim.id (add.counter + 1) claim.of_id fits (different claim.id (add.counter + 1) later)

    unread_job : is_read (reads_of ts) (job_key (add.counter + 1)) ≡ false
    unread_job = claims_read r cs n d.now d.ops d.tracked ts claim (job_key (add.counter + 1)) alone (ap (λ (k : List ℕ). key_lt k (job_key (add.counter + 1))) claim.is_job ∙ ap is_lt (lesser_first claim.id (add.counter + 1) later fits))

    unread_counter : is_read (reads_of ts) counter_key ≡ false
    unread_counter = claims_read r cs n d.now d.ops d.tracked ts claim counter_key alone (ap (λ (k : List ℕ). key_lt k counter_key) claim.is_job)

    unwritten : among claim.row.key c.tracked ≡ false
    unwritten =
        ap (among claim.row.key) keys
        ∙ neither (bytes_eq (job_key (add.counter + 1)) claim.row.key) (bytes_eq counter_key claim.row.key || false)
        (ap (bytes_eq (job_key (add.counter + 1))) claim.is_job ∙ keys_apart (add.counter + 1) claim.id fits claim.of_id (λ e. different claim.id (add.counter + 1) later (sym e)))
        (ap (λ (k : List ℕ). bytes_eq counter_key k || false) claim.is_job)

    unread_row : is_read (reads_of us) claim.row.key ≡ false
    unread_row = ap (λ (ws : List TranscriptStep). is_read (reads_of ws) claim.row.key) add.by.whole ∙ ap (is_read (record { keys = counter_key ∷ []; scans = []; views = [] })) claim.is_job
