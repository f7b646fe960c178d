-- The jobs that stand behind some commits, and what one commit of a queue more does to them.
use Rattle.std.proofs.Common.{◌≡◌, ◌≢◌, ℕ, ◌+◌, ◌<◌, ◌≤◌, ◌^◌, Bool, true, false, cond, nat_eq, List, [], ◌∷◌, ◌++◌, map, length, bytes_eq, Option, Some, None, option_map, refl, sym, ap, subst, ◌∙◌, arith, append-nil}
use Rattle.std.specs.Prelude.{take, drop, nat_le}
use Rattle.std.specs.Int.{w64, cast_signed}
use Rattle.std.specs.List.{AllByRecursion}
use Rattle.std.proofs.lemmas.Bool.Decides.{nat_tests}
use Rattle.slate_types.specs.declared.iter.IterationOrder.TheVariants.{Ascending}
use Rattle.slate_types.specs.declared.types.KeyValue.{KeyValue}
use Rattle.slate_types.specs.declared.types.RowEntry.{RowEntry}
use Rattle.slate_types.specs.Keys.{prefix_range}
use Rattle.slate_types.specs.Rows.{key_value, operand}
use Rattle.slate_types.specs.Fold.{from_last, shown}
use Rattle.slate_mem.specs.declared.WriteOp.{WriteOp}
use Rattle.slate_mem.specs.declared.WriteOp.TheVariants.{Put, Delete, Merge}
use Rattle.slate_mem.specs.Batch.{replaces, kept_ops}
use Rattle.slate_txn.specs.declared.event.TranscriptStep.{TranscriptStep}
use Rattle.slate_txn.specs.declared.event.TranscriptStep.TheVariants as steps
use Rattle.slate_txn.specs.State.{Rules, Commit, combine_at, last_of}
use Rattle.slate_txn.specs.Reads.{key_rows, seen, state_at, rows_seen, up_to}
use Rattle.slate_txn.specs.Alone.{AloneFrom, IsAlone}
use Rattle.slate_txn.specs.Laws.{Counts}
use Rattle.slate_txn.proofs.SeenLaws.{IsOfRow, answers_are_seen, rows_are_seen}
use Rattle.slate_queue.specs.Stored.{Job, counter_key, jobs_prefix, job_key, id_of, lease_of, number_bytes, number_of, job_bytes, job_of, counter_in}
use Rattle.slate_queue.specs.Jobs.{new_job, leased, last_number}
use Rattle.slate_queue.specs.Commits.{put_of, added, IsAdd, IsClaim, IsFinish}
use Rattle.slate_queue.specs.Deeds.{Deed, Jobs, with_lease, Does, done_by, deed_by, lease_read}
use Rattle.slate_queue.specs.Standing.{value_from}
use Rattle.slate_queue.proofs.Changes.{number_again, eight, lease_again, id_again, apart_keys, same_bytes, one_kept, added_kept, value_at, left_by, IsPlain, leaves}

abbrev pub lease_in : Option (List ℕ) → Option ℕ
lease_in o = option_map lease_of o

pub record Stands (r : Rules) (cs : List Commit) (j : Jobs) : Type 0 where
  pub counter : counter_in (value_at r cs counter_key) ≡ Some j.counter
  pub leases : (id : ℕ) → id < 2 ^ 64 → lease_in (value_at r cs (job_key id)) ≡ j.lease id

-- a deed that the operations show, right on the jobs, and what stands behind it
pub record DoesOne (r : Rules) (cs : List Commit) (c : Commit) (ts : List TranscriptStep) (j : Jobs) : Type 0 where
  pub deed : Deed
  pub shown : deed_by c.ops ts ≡ Some deed
  pub does : Does j deed
  pub stands : Stands r (cs ++ (c ∷ [])) (done_by j deed)

pub some_is : {X : Type 0} (a b : X) → Some a ≡ Some b → a ≡ b
some_is a b e = cc

-- ---- what is read

pub sees_the_state : (r : Rules) (cs : List Commit) (n : ℕ) (k : List ℕ) → seen r cs n [] k ≡ state_at r cs n k
sees_the_state r cs n k = ap (shown (combine_at r k)) (append-nil (key_rows r k (up_to n cs)))

-- a get of a reader that has nothing of its own
pub value_seen : (r : Rules) (cs : List Commit) (n : ℕ) (k : List ℕ) (answer : Option KeyValue) → answer ≡ option_map key_value (seen r cs n [] k) → option_map (λ kv. kv.value) answer ≡ value_from r cs n k
value_seen r cs n k answer e = ap (option_map (λ kv. kv.value)) (e ∙ ap (option_map key_value) (sees_the_state r cs n k)) ∙ by (state_at r cs n k)
  where
    by : (o : Option RowEntry) → option_map (λ kv. kv.value) (option_map key_value o) ≡ option_map operand o
    by None = refl
    by (Some row) = refl

pub value_read : (r : Rules) (cs : List Commit) (k : List ℕ) (answer : Option KeyValue) → answer ≡ option_map key_value (seen r cs (last_of r.start_seq cs) [] k) → option_map (λ kv. kv.value) answer ≡ value_at r cs k
value_read r cs k answer e = value_seen r cs (last_of r.start_seq cs) k answer e

-- a row of a scan stands at its key
pub row_seen : (r : Rules) (cs : List Commit) (n : ℕ) (row : KeyValue) → IsOfRow (seen r cs n []) row → value_from r cs n row.key ≡ Some row.value
row_seen r cs n row h =
    ap (option_map operand) (sym (sees_the_state r cs n row.key) ∙ ap (seen r cs n []) (ap (λ kv. kv.key) h.is) ∙ h.stands)
    ∙ ap (λ kv. Some kv.value) (sym h.is)

pub row_read : (r : Rules) (cs : List Commit) (row : KeyValue) → IsOfRow (seen r cs (last_of r.start_seq cs) []) row → value_at r cs row.key ≡ Some row.value
row_read r cs row h = row_seen r cs (last_of r.start_seq cs) row h

last_of_rows : (P : KeyValue → Type 0) (kvs : List KeyValue) (kv : KeyValue) → AllByRecursion P (kvs ++ (kv ∷ [])) → P kv
last_of_rows P [] kv h = h.0
last_of_rows P (x ∷ kvs) kv h = last_of_rows P kvs kv h.1

-- ---- what a change leaves

abbrev pub left_of : WriteOp → Option (List ℕ)
left_of (Put v o) = Some v
left_of _ = None

abbrev pub IsPutOrDelete : WriteOp → Type 0
IsPutOrDelete (Put v o) = Unit {0}
IsPutOrDelete Delete = Unit {0}
IsPutOrDelete _ = ⊥

pub one_left : (r : Rules) (cs : List Commit) (c : Commit) (k : List ℕ) (op : WriteOp) (j : List ℕ) → Counts r.start_seq cs → c.seq ≡ last_of r.start_seq cs + 1 → c.ops ≡ kept_ops ((k, op) ∷ []) → IsPutOrDelete op →
    value_at r (cs ++ (c ∷ [])) j ≡ cond (bytes_eq k j) (left_of op) (value_at r cs j)
one_left r cs c k op j counts next is plain = leaves r cs c ((k, op) ∷ []) j counts next is (fits op plain (bytes_eq k j)) ∙ by op plain (bytes_eq k j)
  where
    kept_by : WriteOp → Bool → List WriteOp
    kept_by o b = from_last replaces (map (λ (x : List ℕ × WriteOp). x.1) (cond b ((k, o) ∷ []) []))

    fits : (o : WriteOp) → IsPutOrDelete o → (b : Bool) → IsPlain (kept_by o b)
    fits (Put v o) h true = tt
    fits (Put v o) h false = tt
    fits Delete h true = tt
    fits Delete h false = tt
    fits (Merge v o) h b = absurd h

    by : (o : WriteOp) → IsPutOrDelete o → (b : Bool) → left_by (kept_by o b) (value_at r cs j) ≡ cond b (left_of o) (value_at r cs j)
    by (Put v o) h true = refl
    by (Put v o) h false = refl
    by Delete h true = refl
    by Delete h false = refl
    by (Merge v o) h b = absurd h

-- the counter's key is no job's
other_counter : (id : ℕ) → bytes_eq (job_key id) counter_key ≡ false
other_counter id = refl

-- by whether the ids are one
pub by_id : {P : Type 0} (a b : ℕ) → (nat_eq a b ≡ true → a ≡ b → P) → (nat_eq a b ≡ false → a ≢ b → P) → P
by_id {P} a b f g = on (nat_eq a b) refl
  where
    on : (t : Bool) → nat_eq a b ≡ t → P
    on true e = f e (grind (arith, nat_tests))
    on false e = g e (grind (arith, nat_tests))

pub keys_apart : (a b : ℕ) → a < 2 ^ 64 → b < 2 ^ 64 → a ≢ b → bytes_eq (job_key a) (job_key b) ≡ false
keys_apart a b ha hb other = by (bytes_eq (job_key a) (job_key b)) refl
  where
    by : (t : Bool) → bytes_eq (job_key a) (job_key b) ≡ t → t ≡ false
    by true e = absurd (other (apart_keys a b ha hb e))
    by false e = refl

-- the leases behind a change of one job
leases_one : (r : Rules) (cs : List Commit) (c : Commit) (j : Jobs) (id : ℕ) (op : WriteOp) (l : Option ℕ) → Counts r.start_seq cs → c.seq ≡ last_of r.start_seq cs + 1 → c.ops ≡ kept_ops ((job_key id, op) ∷ []) → IsPutOrDelete op → id < 2 ^ 64 →
    lease_in (left_of op) ≡ l → Stands r cs j → (other : ℕ) → other < 2 ^ 64 → lease_in (value_at r (cs ++ (c ∷ [])) (job_key other)) ≡ with_lease j.lease id l other
leases_one r cs c j id op l counts next is plain fits new s other below =
    ap lease_in (one_left r cs c (job_key id) op (job_key other) counts next is plain)
    ∙ by_id id other
    (λ t same. ap (λ b. lease_in (cond b (left_of op) (value_at r cs (job_key other)))) (ap (λ x. bytes_eq (job_key id) (job_key x)) (sym same) ∙ same_bytes (job_key id)) ∙ new ∙ ap (λ b. cond b l (j.lease other)) (sym t))
    (λ t other_id. ap (λ b. lease_in (cond b (left_of op) (value_at r cs (job_key other)))) (keys_apart id other fits below other_id) ∙ s.leases other below ∙ ap (λ b. cond b l (j.lease other)) (sym t))

counter_one : (r : Rules) (cs : List Commit) (c : Commit) (j : Jobs) (id : ℕ) (op : WriteOp) → Counts r.start_seq cs → c.seq ≡ last_of r.start_seq cs + 1 → c.ops ≡ kept_ops ((job_key id, op) ∷ []) → IsPutOrDelete op → Stands r cs j →
    counter_in (value_at r (cs ++ (c ∷ [])) counter_key) ≡ Some j.counter
counter_one r cs c j id op counts next is plain s = ap counter_in (one_left r cs c (job_key id) op counter_key counts next is plain) ∙ s.counter

-- ---- one commit more

pub same_le : (x y : ℕ) → x ≡ y → x ≤ y
same_le x y e = omega arith

lease_of_job : (value : List ℕ) (job : Job) → job_of value ≡ Some job → lease_of value ≡ job.lease
lease_of_job value job e = by (nat_le 16 (length value)) refl
  where
    by : (t : Bool) → nat_le 16 (length value) ≡ t → lease_of value ≡ job.lease
    by true h = ap (λ (o : Job). o.lease) (some_is _ job (sym (ap (λ b. cond b (Some (record { lease = lease_of value; ends = cast_signed w64 (number_of (take 8 (drop 8 value))); payload = drop 16 value })) None) h) ∙ e))
    by false h = no (sym (ap (λ b. cond b (Some (record { lease = lease_of value; ends = cast_signed w64 (number_of (take 8 (drop 8 value))); payload = drop 16 value })) None) h) ∙ e)
      where
        no : {A : Type 0} → None ≡ Some job → A
        no u = cc

pub adds_one : (r : Rules) (cs : List Commit) (c : Commit) (ts : List TranscriptStep) (j : Jobs) → Counts r.start_seq cs → c.seq ≡ last_of r.start_seq cs + 1 → IsAlone r cs (last_of r.start_seq cs) ts → Stands r cs j → IsAdd c.ops c.tracked ts → DoesOne r cs c ts j
adds_one r cs c ts j counts next alone s h = record {
  deed = Deed.added id;
  shown = ap (λ os. deed_by os ts) (h.by.kept ∙ added_kept id h.payload) ∙ ap (λ x. Some (Deed.added x)) (id_again id fits);
  does = ap (λ x. x + 1) is_counter;
  stands = record { counter = counter_new; leases = leases_new };
}
  where
    id : ℕ
    id = h.counter + 1

    fits : id < 2 ^ 64
    fits = let l : h.counter < last_number = h.left in omega arith

    read : AloneFrom r cs (last_of r.start_seq cs) [] [] (steps.Get counter_key h.answer ∷ map (λ (o : List ℕ × WriteOp). steps.Own o.0 o.1) (added id h.payload))
    read = subst (IsAlone r cs (last_of r.start_seq cs)) h.by.whole alone

    is_counter : h.counter ≡ j.counter
    is_counter = some_is h.counter j.counter (sym h.read ∙ ap counter_in (value_read r cs counter_key h.answer read.0) ∙ s.counter)

    counter_new : counter_in (value_at r (cs ++ (c ∷ [])) counter_key) ≡ Some id
    counter_new =
        ap counter_in (leaves r cs c (added id h.payload) counter_key counts next h.by.kept tt)
        ∙ ap (λ n. cond (nat_eq n 8) (Some (number_of (number_bytes id))) None) (eight id) ∙ ap Some (number_again id fits)

    kept_job : (b : Bool) → List WriteOp
    kept_job b = from_last replaces (map (λ (x : List ℕ × WriteOp). x.1) (cond b ((job_key id, put_of (job_bytes (new_job h.payload))) ∷ []) []))

    plain : (b : Bool) → IsPlain (kept_job b)
    plain true = tt
    plain false = tt

    left : (other : ℕ) (b : Bool) → lease_in (left_by (kept_job b) (value_at r cs (job_key other))) ≡ cond b (Some 0) (lease_in (value_at r cs (job_key other)))
    left other true = ap Some (lease_again (new_job h.payload) (omega arith))
    left other false = refl

    leases_new : (other : ℕ) → other < 2 ^ 64 → lease_in (value_at r (cs ++ (c ∷ [])) (job_key other)) ≡ with_lease j.lease id (Some 0) other
    leases_new other below =
        ap lease_in (leaves r cs c (added id h.payload) (job_key other) counts next h.by.kept (plain (bytes_eq (job_key id) (job_key other))))
        ∙ left other (bytes_eq (job_key id) (job_key other))
        ∙ by_id id other
        (λ t same. ap (λ b. cond b (Some 0) (lease_in (value_at r cs (job_key other)))) (ap (λ x. bytes_eq (job_key id) (job_key x)) (sym same) ∙ same_bytes (job_key id)) ∙ ap (λ b. cond b (Some 0) (j.lease other)) (sym t))
        (λ t other_id. ap (λ b. cond b (Some 0) (lease_in (value_at r cs (job_key other)))) (keys_apart id other fits below other_id) ∙ s.leases other below ∙ ap (λ b. cond b (Some 0) (j.lease other)) (sym t))

pub claims_one : (r : Rules) (cs : List Commit) (c : Commit) (ts : List TranscriptStep) (j : Jobs) → Counts r.start_seq cs → c.seq ≡ last_of r.start_seq cs + 1 → IsAlone r cs (last_of r.start_seq cs) ts → Stands r cs j → IsClaim c.now c.ops c.tracked ts → DoesOne r cs c ts j
claims_one r cs c ts j counts next alone s h = record {
  deed = Deed.claimed h.id (h.job.lease + 1);
  shown = ap (λ os. deed_by os ts) (h.by.kept ∙ one_kept h.row.key op) ∙ ap (λ k. Some (Deed.claimed (id_of k) (lease_of (job_bytes new)))) h.is_job
      ∙ ap (λ x. Some (Deed.claimed x (lease_of (job_bytes new)))) (id_again h.id h.of_id) ∙ ap (λ x. Some (Deed.claimed h.id x)) (lease_again new fits);
  does = (h.job.lease, old, refl);
  stands = record {
    counter = counter_one r cs c j h.id op counts next kept_by_id tt s;
    leases = leases_one r cs c j h.id op (Some (h.job.lease + 1)) counts next kept_by_id tt h.of_id (ap Some (lease_again new fits)) s;
  };
}
  where
    new : Job
    new = leased c.now h.ms h.job

    op : WriteOp
    op = put_of (job_bytes new)

    fits : new.lease < 2 ^ 64
    fits = let l : h.job.lease < last_number = h.left in omega arith

    kept_by_id : c.ops ≡ kept_ops ((job_key h.id, op) ∷ [])
    kept_by_id = h.by.kept ∙ ap (λ k. kept_ops ((k, op) ∷ [])) h.is_job

    scan : AloneFrom r cs (last_of r.start_seq cs) [] [] ((steps.Scan Ascending (prefix_range jobs_prefix) ∷ map (λ kv. steps.Next 0 (Some kv)) (h.passed ++ (h.row ∷ []))) ++ map (λ (o : List ℕ × WriteOp). steps.Own o.0 o.1) ((h.row.key, op) ∷ []))
    scan = subst (IsAlone r cs (last_of r.start_seq cs)) h.by.whole alone

    row : IsOfRow (seen r cs (last_of r.start_seq cs) []) h.row
    row = last_of_rows (IsOfRow (seen r cs (last_of r.start_seq cs) [])) h.passed h.row
        (answers_are_seen r cs (last_of r.start_seq cs) (seen r cs (last_of r.start_seq cs) []) Ascending (rows_seen r cs (last_of r.start_seq cs) [] Ascending (prefix_range jobs_prefix)) (h.passed ++ (h.row ∷ []))
        (map (λ (o : List ℕ × WriteOp). steps.Own o.0 o.1) ((h.row.key, op) ∷ [])) (rows_are_seen r cs (last_of r.start_seq cs) [] Ascending (prefix_range jobs_prefix)) scan)

    old : j.lease h.id ≡ Some h.job.lease
    old = sym (s.leases h.id h.of_id) ∙ ap (λ k. lease_in (value_at r cs k)) (sym h.is_job) ∙ ap lease_in (row_read r cs h.row row) ∙ ap Some (lease_of_job h.row.value h.job h.stands)

pub finishes_one : (r : Rules) (cs : List Commit) (c : Commit) (ts : List TranscriptStep) (j : Jobs) → Counts r.start_seq cs → c.seq ≡ last_of r.start_seq cs + 1 → IsAlone r cs (last_of r.start_seq cs) ts → Stands r cs j → IsFinish c.ops c.tracked ts → DoesOne r cs c ts j
finishes_one r cs c ts j counts next alone s h = record {
  deed = Deed.finished h.id h.job.lease;
  shown = ap (λ os. deed_by os ts) (h.by.kept ∙ one_kept (job_key h.id) Delete) ∙ ap (λ us. Some (Deed.finished (id_of (job_key h.id)) (lease_read us))) h.by.whole
      ∙ ap (λ x. Some (Deed.finished x (lease_of h.row.value))) (id_again h.id h.fits) ∙ ap (λ x. Some (Deed.finished h.id x)) (lease_of_job h.row.value h.job h.stands);
  does = (old, h.claimed);
  stands = record {
    counter = counter_one r cs c j h.id Delete counts next h.by.kept tt s;
    leases = leases_one r cs c j h.id Delete None counts next h.by.kept tt h.fits refl s;
  };
}
  where
    read : AloneFrom r cs (last_of r.start_seq cs) [] [] (steps.Get (job_key h.id) (Some h.row) ∷ map (λ (o : List ℕ × WriteOp). steps.Own o.0 o.1) ((job_key h.id, Delete) ∷ []))
    read = subst (IsAlone r cs (last_of r.start_seq cs)) h.by.whole alone

    old : j.lease h.id ≡ Some h.job.lease
    old = sym (s.leases h.id h.fits) ∙ ap lease_in (sym (value_read r cs (job_key h.id) (Some h.row) read.0)) ∙ ap Some (lease_of_job h.row.value h.job h.stands)
