-- Which commits add a job.
use Rattle.std.proofs.Common.{◌≡◌, ℕ, ◌+◌, ◌<◌, Bool, true, false, cond, ◌&&◌, nat_lt, List, [], ◌∷◌, length, drop, bytes_eq, Option, Some, None, option_map, Decides, refl, sym, ap, ◌∙◌, arith}
use Rattle.std.proofs.lemmas.Slice.Eq.{bytes_eq-Decides}
use Rattle.slate_types.specs.declared.types.KeyValue.{KeyValue}
use Rattle.slate_mem.specs.declared.WriteOp.{WriteOp}
use Rattle.slate_mem.specs.Batch.{Ops, batch_keys}
use Rattle.slate_txn.specs.declared.event.TranscriptStep.{TranscriptStep}
use Rattle.slate_txn.specs.declared.event.TranscriptStep.TheVariants.{Get, Scan, Next, Seek, View, Own}
use Rattle.slate_queue.specs.Stored.{counter_key, job_key, number_bytes, job_bytes, counter_in}
use Rattle.slate_queue.specs.Jobs.{new_job, last_number}
use Rattle.slate_queue.specs.Commits.{put_of, IsAdd}
use Rattle.slate_queue.specs.Forms.{put_value, puts, keeps_put, next_of, next_id, is_new_job, adds_job, adds_by, adds_in}
use Rattle.slate_queue.proofs.Changes.{added_kept}
use Rattle.slate_queue.proofs.FormLaws.{never, refutes, some_is, and_both, keeps_put_decides, puts_decides, IsNewJob, new_job_is, new_job_test, first_same, rest_same, lt_is, lt_test}

-- ---- the read of the counter

record ReadBy (step : TranscriptStep) (id : ℕ) : Type 0 where
  answer : Option KeyValue
  counter : ℕ
  step_is : step ≡ Get counter_key answer
  read : counter_in (option_map (λ kv. kv.value) answer) ≡ Some counter
  left : counter < last_number
  is : id ≡ counter + 1

no_id : {A : Type 0} (id : ℕ) → None ≡ Some id → A
no_id id e = cc

read_by : (step : TranscriptStep) (id : ℕ) → next_id step ≡ Some id → ReadBy step id
read_by (Get k a) id e = by (bytes_eq k counter_key) refl
  where
    of_counter : k ≡ counter_key → (o : Option ℕ) → counter_in (option_map (λ kv. kv.value) a) ≡ o → next_of o ≡ Some id → ReadBy (Get k a) id
    of_counter same None read next = no_id id next
    of_counter same (Some n) read next = on (nat_lt n last_number) refl
      where
        on : (t : Bool) → nat_lt n last_number ≡ t → ReadBy (Get k a) id
        on true f = record {
          answer = a;
          counter = n;
          step_is = ap (λ j. Get j a) same;
          read = read;
          left = lt_is n last_number f;
          is = sym (some_is (n + 1) id (sym (ap (λ b. cond b (Some (n + 1)) None) f) ∙ next));
        }
        on false f = no_id id (sym (ap (λ b. cond b (Some (n + 1)) None) f) ∙ next)

    by : (t : Bool) → bytes_eq k counter_key ≡ t → ReadBy (Get k a) id
    by true f = of_counter ((bytes_eq-Decides k counter_key).0 f) (counter_in (option_map (λ kv. kv.value) a)) refl (sym (ap (λ b. cond b (next_of (counter_in (option_map (λ kv. kv.value) a))) None) f) ∙ e)
    by false f = no_id id (sym (ap (λ b. cond b (next_of (counter_in (option_map (λ kv. kv.value) a))) None) f) ∙ e)
read_by (Own k op) id e = no_id id e
read_by (Scan o r) id e = no_id id e
read_by (Next n a) id e = no_id id e
read_by (Seek n k) id e = no_id id e
read_by (View r) id e = no_id id e

reads_next : (a : Option KeyValue) (n : ℕ) → counter_in (option_map (λ kv. kv.value) a) ≡ Some n → n < last_number → next_id (Get counter_key a) ≡ Some (n + 1)
reads_next a n e h = ap next_of e ∙ ap (λ b. cond b (Some (n + 1)) None) (lt_test n last_number h)

-- ---- what the test tells

record AddsJob (id : ℕ) (v jk ck : List ℕ) (job counter : List ℕ × WriteOp) (first second : TranscriptStep) : Type 0 where
  new : is_new_job v ≡ true
  job_is : jk ≡ job_key id
  counter_is : ck ≡ counter_key
  kept_job : job ≡ (jk, put_of v)
  kept_counter : counter ≡ (ck, put_of (number_bytes id))
  own_counter : first ≡ Own ck (put_of (number_bytes id))
  own_job : second ≡ Own jk (put_of v)

adds_tells : (id : ℕ) (v jk ck : List ℕ) (job counter : List ℕ × WriteOp) (first second : TranscriptStep) → adds_job id v jk ck job counter first second ≡ true → AddsJob id v jk ck job counter first second
adds_tells id v jk ck job counter first second e =
    let a : Bool = is_new_job v in
    let b : Bool = bytes_eq jk (job_key id) in
    let c : Bool = bytes_eq ck counter_key in
    let d : Bool = keeps_put jk v job in
    let f : Bool = keeps_put ck (number_bytes id) counter in
    let g : Bool = puts ck (number_bytes id) first in
    let h : Bool = puts jk v second in
    let s : ((a && b && c && d && f && g) ≡ true) × (h ≡ true) = and_both (a && b && c && d && f && g) h e in
    let t : ((a && b && c && d && f) ≡ true) × (g ≡ true) = and_both (a && b && c && d && f) g s.0 in
    let u : ((a && b && c && d) ≡ true) × (f ≡ true) = and_both (a && b && c && d) f t.0 in
    let w : ((a && b && c) ≡ true) × (d ≡ true) = and_both (a && b && c) d u.0 in
    let x : ((a && b) ≡ true) × (c ≡ true) = and_both (a && b) c w.0 in
    let y : (a ≡ true) × (b ≡ true) = and_both a b x.0 in
    record {
      new = y.0;
      job_is = (bytes_eq-Decides jk (job_key id)).0 y.1;
      counter_is = (bytes_eq-Decides ck counter_key).0 x.1;
      kept_job = (keeps_put_decides jk v job).0 w.1;
      kept_counter = (keeps_put_decides ck (number_bytes id) counter).0 u.1;
      own_counter = (puts_decides ck (number_bytes id) first).0 t.1;
      own_job = (puts_decides jk v second).0 s.1;
    }

adds_passes : (id : ℕ) (v jk ck : List ℕ) (job counter : List ℕ × WriteOp) (first second : TranscriptStep) → AddsJob id v jk ck job counter first second → adds_job id v jk ck job counter first second ≡ true
adds_passes id v jk ck job counter first second h =
    λ i. h.new i && (bytes_eq-Decides jk (job_key id)).1 h.job_is i && (bytes_eq-Decides ck counter_key).1 h.counter_is i && (keeps_put_decides jk v job).1 h.kept_job i
    && (keeps_put_decides ck (number_bytes id) counter).1 h.kept_counter i && (puts_decides ck (number_bytes id) first).1 h.own_counter i && (puts_decides jk v second).1 h.own_job i

-- ---- the commit

added_by : (id : ℕ) (v jk ck : List ℕ) (job counter : List ℕ × WriteOp) (read first second : TranscriptStep) → ReadBy read id → AddsJob id v jk ck job counter first second → IsAdd (job ∷ counter ∷ []) (jk ∷ ck ∷ []) (read ∷ first ∷ second ∷ [])
added_by id v jk ck job counter read first second r h = record {
  payload = drop 16 v;
  short = new.short;
  counter = r.counter;
  answer = r.answer;
  read = r.read;
  left = r.left;
  by = record {
    whole = λ i. r.step_is i ∷ first_is i ∷ second_is i ∷ [];
    kept = ops_are ∙ sym (added_kept (r.counter + 1) (drop 16 v));
    keys = (λ i. key_is i ∷ h.counter_is i ∷ []) ∙ sym (ap batch_keys ops_are);
  };
}
  where
    new : IsNewJob v
    new = new_job_is v h.new

    key_is : jk ≡ job_key (r.counter + 1)
    key_is = h.job_is ∙ ap job_key r.is

    first_is : first ≡ Own counter_key (put_of (number_bytes (r.counter + 1)))
    first_is = h.own_counter ∙ (λ i. Own (h.counter_is i) (put_of (number_bytes (r.is i))))

    second_is : second ≡ Own (job_key (r.counter + 1)) (put_of (job_bytes (new_job (drop 16 v))))
    second_is = h.own_job ∙ (λ i. Own (key_is i) (put_of (new.is i)))

    ops_are : job ∷ counter ∷ [] ≡ (job_key (r.counter + 1), put_of (job_bytes (new_job (drop 16 v)))) ∷ (counter_key, put_of (number_bytes (r.counter + 1))) ∷ []
    ops_are = λ i. (h.kept_job ∙ (λ j. (key_is j, put_of (new.is j)))) i ∷ (h.kept_counter ∙ (λ j. (h.counter_is j, put_of (number_bytes (r.is j))))) i ∷ []

add_passes : (job counter : List ℕ × WriteOp) (jk ck : List ℕ) (read first second : TranscriptStep) → IsAdd (job ∷ counter ∷ []) (jk ∷ ck ∷ []) (read ∷ first ∷ second ∷ []) → adds_by (next_id read) (put_value job.1) jk ck job counter first second ≡ true
add_passes job counter jk ck read first second h =
    (λ i. adds_by (next_id (read_is i)) (put_value ((job_is i).1)) jk ck job counter first second)
    ∙ ap (λ o. adds_by o (Some value) jk ck job counter first second) (reads_next h.answer h.counter h.read h.left)
    ∙ adds_passes id value jk ck job counter first second (record {
      new = new_job_test h.payload h.short;
      job_is = key_is;
      counter_is = other_is;
      kept_job = job_is ∙ (λ i. (sym key_is i, put_of value));
      kept_counter = counter_is ∙ (λ i. (sym other_is i, put_of (number_bytes id)));
      own_counter = first_is ∙ (λ i. Own (sym other_is i) (put_of (number_bytes id)));
      own_job = second_is ∙ (λ i. Own (sym key_is i) (put_of value));
    })
  where
    id : ℕ
    id = h.counter + 1

    value : List ℕ
    value = job_bytes (new_job h.payload)

    steps : read ∷ first ∷ second ∷ [] ≡ Get counter_key h.answer ∷ Own counter_key (put_of (number_bytes id)) ∷ Own (job_key id) (put_of value) ∷ []
    steps = h.by.whole

    read_is : read ≡ Get counter_key h.answer
    read_is = first_same _ _ _ _ steps

    first_is : first ≡ Own counter_key (put_of (number_bytes id))
    first_is = first_same _ _ _ _ (rest_same _ _ _ _ steps)

    second_is : second ≡ Own (job_key id) (put_of value)
    second_is = first_same _ _ _ _ (rest_same _ _ _ _ (rest_same _ _ _ _ steps))

    ops : job ∷ counter ∷ [] ≡ (job_key id, put_of value) ∷ (counter_key, put_of (number_bytes id)) ∷ []
    ops = h.by.kept ∙ added_kept id h.payload

    job_is : job ≡ (job_key id, put_of value)
    job_is = first_same _ _ _ _ ops

    counter_is : counter ≡ (counter_key, put_of (number_bytes id))
    counter_is = first_same _ _ _ _ (rest_same _ _ _ _ ops)

    keys : jk ∷ ck ∷ [] ≡ job_key id ∷ counter_key ∷ []
    keys = h.by.keys ∙ ap batch_keys ops

    key_is : jk ≡ job_key id
    key_is = first_same _ _ _ _ keys

    other_is : ck ≡ counter_key
    other_is = first_same _ _ _ _ (rest_same _ _ _ _ keys)

-- the test of a commit of two operations and three steps
pub add_decides : (job counter : List ℕ × WriteOp) (jk ck : List ℕ) (read first second : TranscriptStep) →
    Decides (adds_by (next_id read) (put_value job.1) jk ck job counter first second) (IsAdd (job ∷ counter ∷ []) (jk ∷ ck ∷ []) (read ∷ first ∷ second ∷ []))
add_decides job counter jk ck read first second = (λ e. by (next_id read) (put_value job.1) refl e, add_passes job counter jk ck read first second)
  where
    by : (o : Option ℕ) (v : Option (List ℕ)) → next_id read ≡ o → adds_by o v jk ck job counter first second ≡ true → IsAdd (job ∷ counter ∷ []) (jk ∷ ck ∷ []) (read ∷ first ∷ second ∷ [])
    by None v r e = never e
    by (Some id) None r e = never e
    by (Some id) (Some v) r e = added_by id v jk ck job counter read first second (read_by read id r) (adds_tells id v jk ck job counter first second e)

-- another commit adds none
pub record AddLengths (ops : Ops) (tracked : List (List ℕ)) (ts : List TranscriptStep) : Type 0 where
  pub steps : length ts ≡ 3
  pub kept : length ops ≡ 2
  pub keys : length tracked ≡ 2

pub add_lengths : (ops : Ops) (tracked : List (List ℕ)) (ts : List TranscriptStep) → IsAdd ops tracked ts → AddLengths ops tracked ts
add_lengths ops tracked ts h =
    let is : ops ≡ (job_key (h.counter + 1), put_of (job_bytes (new_job h.payload))) ∷ (counter_key, put_of (number_bytes (h.counter + 1))) ∷ [] = h.by.kept ∙ added_kept (h.counter + 1) h.payload in
    record { steps = ap length h.by.whole; kept = ap length is; keys = ap length (h.by.keys ∙ ap batch_keys is) }

-- the test of any commit
pub adds_in_decides : (ts : List TranscriptStep) (ops : Ops) (tracked : List (List ℕ)) → Decides (adds_in ts ops tracked) (IsAdd ops tracked ts)
adds_in_decides (read ∷ first ∷ second ∷ []) (job ∷ counter ∷ []) (jk ∷ ck ∷ []) = add_decides job counter jk ck read first second
adds_in_decides (read ∷ first ∷ second ∷ []) (job ∷ counter ∷ []) [] = refutes (λ h. let l = (add_lengths _ _ _ h).keys in omega arith)
adds_in_decides (read ∷ first ∷ second ∷ []) (job ∷ counter ∷ []) (k ∷ []) = refutes (λ h. let l = (add_lengths _ _ _ h).keys in omega arith)
adds_in_decides (read ∷ first ∷ second ∷ []) (job ∷ counter ∷ []) (j ∷ k ∷ i ∷ ks) = refutes (λ h. let l = (add_lengths _ _ _ h).keys in omega arith)
adds_in_decides (read ∷ first ∷ second ∷ []) [] tracked = refutes (λ h. let l = (add_lengths _ _ _ h).kept in omega arith)
adds_in_decides (read ∷ first ∷ second ∷ []) (o ∷ []) tracked = refutes (λ h. let l = (add_lengths _ _ _ h).kept in omega arith)
adds_in_decides (read ∷ first ∷ second ∷ []) (o ∷ p ∷ q ∷ os) tracked = refutes (λ h. let l = (add_lengths _ _ _ h).kept in omega arith)
adds_in_decides [] ops tracked = refutes (λ h. let l = (add_lengths _ _ _ h).steps in omega arith)
adds_in_decides (s ∷ []) ops tracked = refutes (λ h. let l = (add_lengths _ _ _ h).steps in omega arith)
adds_in_decides (s ∷ t ∷ []) ops tracked = refutes (λ h. let l = (add_lengths _ _ _ h).steps in omega arith)
adds_in_decides (s ∷ t ∷ u ∷ v ∷ ts) ops tracked = refutes (λ h. let l = (add_lengths _ _ _ h).steps in omega arith)
