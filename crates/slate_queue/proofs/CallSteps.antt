-- What the steps of a call show of the queue that stands, and what stands behind its commit.
use Rattle.std.proofs.Common.{◌≡◌, ◌≢◌, ℕ, zero, suc, ◌+◌, ◌<◌, ◌≤◌, ◌^◌, ℤ, Bool, true, false, cond, nat_eq, nat_le, nat_lt, List, [], ◌∷◌, ◌++◌, map, length, bytes_eq, Option, Some, None, Ok, Err, refl, sym, ap, subst, ◌∙◌, arith, append_assoc, append-nil, SFits, w64}
use Rattle.std.specs.Prelude.{IsSome}
use Rattle.std.proofs.lemmas.Bool.Decides.{nat_tests}
use Rattle.slate_types.specs.declared.iter.IterationOrder.TheVariants.{Ascending}
use Rattle.slate_types.specs.declared.types.KeyValue.{KeyValue}
use Rattle.slate_types.specs.declared.types.RowEntry.{RowEntry}
use Rattle.slate_types.specs.Keys.{prefix_range}
use Rattle.slate_types.specs.Rows.{key_value}
use Rattle.slate_types.specs.Fold.{from_last}
use Rattle.slate_mem.specs.declared.WriteOp.{WriteOp}
use Rattle.slate_mem.specs.declared.WriteOp.TheVariants.{Delete}
use Rattle.slate_mem.specs.Batch.{Ops, replaces, kept_ops}
use Rattle.slate_txn.specs.declared.event.TranscriptStep.{TranscriptStep}
use Rattle.slate_txn.specs.declared.event.TranscriptStep.TheVariants as steps
use Rattle.slate_txn.specs.State.{Rules, Commit, last_of}
use Rattle.slate_txn.specs.Alone.{AloneFrom, IsAlone, Left, first_left}
use Rattle.slate_txn.specs.Reads.{rows_seen, seen}
use Rattle.slate_txn.specs.Laws as txn
use Rattle.slate_txn.proofs.ReadLaws.{alone_more}
use Rattle.slate_queue.specs.declared.error.QueueError.{QueueError}
use Rattle.slate_queue.specs.declared.error.QueueError.TheVariants as errors
use Rattle.slate_queue.specs.Stored.{Job, counter_key, counter_in, jobs_prefix, job_bytes, job_key, number_bytes, number_of}
use Rattle.slate_queue.specs.Jobs as model
use Rattle.slate_queue.specs.Jobs.{Queue, Call, claim_step, first_free, first_from, free_or, is_free, last_number, leased, longest, new_job, queue_step, with_job}
use Rattle.slate_queue.specs.Commits.{added, put_of}
use Rattle.slate_queue.specs.CallSteps.{AddStops, Adds, ClaimStops, FindsNone, FinishStops, Finishes, Takes, counter_refusal, job_refusal, lease_refusal, nexts, own_steps, scan_of_jobs, value_of}
use Rattle.slate_queue.specs.Standing.{IsQueueIn, Stands, job_in, value_at, value_from}
use Rattle.slate_queue.proofs.Changes.{eight, number_again, left_by, IsPlain, leaves, same_bytes}
use Rattle.slate_queue.proofs.ClaimForm.{end_fits}
use Rattle.slate_queue.proofs.JobValues.{bytes_in, value_is}
use Rattle.slate_queue.proofs.FirstFree.{none_is_first, one_is_first, row_at, rows_from}
use Rattle.slate_queue.proofs.Stands.{IsPutOrDelete, by_id, keys_apart, left_of, one_left, row_seen, value_seen}
use Rattle.slate_txn.proofs.SeenLaws.{rows_are_seen}

none_some : {X : Type 0} {A : Type 0} (x : X) → None ≡ Some x → A
none_some x e = cc

both_some : {X : Type 0} (x y : X) → Some x ≡ Some y → x ≡ y
both_some x y e = cc

-- ---- steps of one's own see nothing

own_alone : (r : Rules) (cs : List Commit) (n : ℕ) (ops : Ops) (scans : List Left) (some : Ops) → AloneFrom r cs n ops scans (own_steps some)
own_alone r cs n ops scans [] = tt
own_alone r cs n ops scans (o ∷ os) = own_alone r cs n (ops ++ ((o.0, o.1) ∷ [])) scans os

pub own_more_alone : (r : Rules) (cs : List Commit) (n : ℕ) (ts : List TranscriptStep) (some : Ops) → IsAlone r cs n ts → IsAlone r cs n (ts ++ own_steps some)
own_more_alone r cs n ts some h = alone_more r cs n [] [] ts (own_steps some) h (own_alone r cs n _ _ some)

-- ---- an add

abbrev pub after_add : Queue → List ℕ → Queue
after_add q payload = with_job (record q { counter = q.counter + 1 }) (q.counter + 1) (Some (new_job payload))

-- the counter that was read is the queue's
counter_read : (r : Rules) (cs : List Commit) (n : ℕ) (q : Queue) (answer : Option KeyValue) (more : List TranscriptStep) → IsQueueIn (value_from r cs n) q → IsAlone r cs n (steps.Get counter_key answer ∷ more) → counter_in (value_of answer) ≡ Some q.counter
counter_read r cs n q answer more stands alone = ap counter_in (value_seen r cs n counter_key answer alone.0) ∙ stands.counter

pub add_counter : (r : Rules) (cs : List Commit) (n : ℕ) (q : Queue) (payload : List ℕ) (id : ℕ) (ts : List TranscriptStep) → IsQueueIn (value_from r cs n) q → IsAlone r cs n ts → Adds payload id ts → (q.counter < last_number) × (id ≡ q.counter + 1)
add_counter r cs n q payload id ts stands alone adds =
    let counts = adds.counts in
    let whole : IsAlone r cs n (steps.Get counter_key counts.answer ∷ own_steps (added id payload)) = subst (IsAlone r cs n) (adds.steps ∙ ap (λ us. us ++ own_steps (added id payload)) counts.steps) alone in
    let same : counts.counter ≡ q.counter = both_some counts.counter q.counter (sym counts.read ∙ counter_read r cs n q counts.answer (own_steps (added id payload)) stands whole) in
    (subst (λ (k : ℕ). k < last_number) same counts.left, counts.is ∙ ap (λ (k : ℕ). k + 1) same)

not_spent : (n : ℕ) → n < last_number → nat_le last_number n ≡ false
not_spent n h = grind (arith, nat_tests)

short_payload : (n : ℕ) → n ≤ longest → nat_lt longest n ≡ false
short_payload n h = grind (arith, nat_tests)

pub add_step : (q : Queue) (payload : List ℕ) (id : ℕ) → length payload ≤ longest → (q.counter < last_number) × (id ≡ q.counter + 1) → queue_step q (Call.Add payload) ≡ Ok (after_add q payload, model.Answer.Added id)
add_step q payload id short h =
    (λ i. cond (short_payload (length payload) short i) (Err (errors.PayloadTooLong (length payload))) (cond (not_spent q.counter h.0 i) (Err errors.IdsSpent) (Ok (after_add q payload, model.Answer.Added (q.counter + 1)))))
    ∙ ap (λ (n : ℕ). Ok (after_add q payload, model.Answer.Added n)) (sym h.1)

pub add_stopped : (r : Rules) (cs : List Commit) (n : ℕ) (q : Queue) (payload : List ℕ) (e : QueueError) (ts : List TranscriptStep) → length payload ≤ longest → IsQueueIn (value_from r cs n) q → IsAlone r cs n ts → AddStops e ts → queue_step q (Call.Add payload) ≡ Err e
add_stopped r cs n q payload e ts short stands alone stops = by (nat_le last_number q.counter) refl
  where
    read : counter_in (value_of stops.answer) ≡ Some q.counter
    read = counter_read r cs n q stops.answer [] stands (subst (IsAlone r cs n) stops.steps alone)

    refusal : counter_refusal (Some q.counter) ≡ Some e
    refusal = sym (ap counter_refusal read) ∙ stops.refusal

    by : (b : Bool) → nat_le last_number q.counter ≡ b → queue_step q (Call.Add payload) ≡ Err e
    by true h =
        (λ i. cond (short_payload (length payload) short i) (Err (errors.PayloadTooLong (length payload))) (cond (h i) (Err errors.IdsSpent) (Ok (after_add q payload, model.Answer.Added (q.counter + 1)))))
        ∙ ap Err (both_some errors.IdsSpent e (sym (ap (λ b. cond b (Some errors.IdsSpent) None) h) ∙ refusal))
    by false h = none_some e (sym (ap (λ b. cond b (Some errors.IdsSpent) None) h) ∙ refusal)

pub too_long : (q : Queue) (payload : List ℕ) → longest < length payload → queue_step q (Call.Add payload) ≡ Err (errors.PayloadTooLong (length payload))
too_long q payload h =
    let long : nat_lt longest (length payload) ≡ true = grind (arith, nat_tests) in
    ap (λ b. cond b (Err (errors.PayloadTooLong (length payload))) (cond (nat_le last_number q.counter) (Err errors.IdsSpent) (Ok (after_add q payload, model.Answer.Added (q.counter + 1))))) long

new_job_in : (payload : List ℕ) → length payload ≤ longest → job_in (Some (job_bytes (new_job payload))) ≡ Some (Some (new_job payload))
new_job_in payload short = bytes_in (new_job payload) (omega arith) (record { sfits = omega arith }) short

pub add_stands : (r : Rules) (cs : List Commit) (c : Commit) (q : Queue) (payload : List ℕ) → txn.Counts r.start_seq cs → c.seq ≡ last_of r.start_seq cs + 1 → c.ops ≡ kept_ops (added (q.counter + 1) payload) → q.counter < last_number → length payload ≤ longest →
    Stands r cs q → Stands r (cs ++ (c ∷ [])) (after_add q payload)
add_stands r cs c q payload counts next ops left short s = record { counter = counter_new; jobs = jobs_new; within = within_new; fits = omega arith }
  where
    id : ℕ
    id = q.counter + 1

    fits : id < 2 ^ 64
    fits = omega arith

    counter_new : counter_in (value_at r (cs ++ (c ∷ [])) counter_key) ≡ Some id
    counter_new =
        ap counter_in (leaves r cs c (added id payload) counter_key counts next ops tt)
        ∙ ap (λ n. cond (nat_eq n 8) (Some (number_of (number_bytes id))) None) (eight id) ∙ ap Some (number_again id fits)

    kept_job : (b : Bool) → List WriteOp
    kept_job b = from_last replaces (map (λ (x : List ℕ × WriteOp). x.1) (cond b ((job_key id, put_of (job_bytes (new_job payload))) ∷ []) []))

    plain : (b : Bool) → IsPlain (kept_job b)
    plain true = tt
    plain false = tt

    left_in : (other : ℕ) (b : Bool) → job_in (left_by (kept_job b) (value_at r cs (job_key other))) ≡ cond b (Some (Some (new_job payload))) (job_in (value_at r cs (job_key other)))
    left_in other true = new_job_in payload short
    left_in other false = refl

    jobs_new : (other : ℕ) → other < 2 ^ 64 → job_in (value_at r (cs ++ (c ∷ [])) (job_key other)) ≡ Some ((after_add q payload).job other)
    jobs_new other below =
        ap job_in (leaves r cs c (added id payload) (job_key other) counts next ops (plain (bytes_eq (job_key id) (job_key other))))
        ∙ left_in other (bytes_eq (job_key id) (job_key other))
        ∙ by_id id other
        (λ t same. ap (λ b. cond b (Some (Some (new_job payload))) (job_in (value_at r cs (job_key other)))) (ap (λ x. bytes_eq (job_key id) (job_key x)) (sym same) ∙ same_bytes (job_key id)) ∙ ap (λ b. Some (cond b (Some (new_job payload)) (q.job other))) (sym t))
        (λ t apart. ap (λ b. cond b (Some (Some (new_job payload))) (job_in (value_at r cs (job_key other)))) (keys_apart id other fits below apart) ∙ s.jobs other below ∙ ap (λ b. Some (cond b (Some (new_job payload)) (q.job other))) (sym t))

    within_new : (other : ℕ) → IsSome ((after_add q payload).job other) → (1 ≤ other) × (other ≤ id)
    within_new other some = by_id id other
        (λ t same. (omega arith, omega arith))
        (λ t apart. let w = s.within other (subst IsSome (ap (λ b. cond b (Some (new_job payload)) (q.job other)) t) some) in (w.0, omega (arith, w.1)))

-- ---- one job

pub one_stands : (r : Rules) (cs : List Commit) (c : Commit) (q : Queue) (id : ℕ) (op : WriteOp) (j : Option Job) → txn.Counts r.start_seq cs → c.seq ≡ last_of r.start_seq cs + 1 → c.ops ≡ kept_ops ((job_key id, op) ∷ []) → IsPutOrDelete op → id < 2 ^ 64 →
    job_in (left_of op) ≡ Some j → IsSome (q.job id) → Stands r cs q → Stands r (cs ++ (c ∷ [])) (with_job q id j)
one_stands r cs c q id op j counts next ops plain fits new there s = record { counter = ap counter_in (one_left r cs c (job_key id) op counter_key counts next ops plain) ∙ s.counter; jobs = jobs_new; within = within_new; fits = s.fits }
  where
    jobs_new : (other : ℕ) → other < 2 ^ 64 → job_in (value_at r (cs ++ (c ∷ [])) (job_key other)) ≡ Some ((with_job q id j).job other)
    jobs_new other below =
        ap job_in (one_left r cs c (job_key id) op (job_key other) counts next ops plain)
        ∙ by_id id other
        (λ t same. ap (λ b. job_in (cond b (left_of op) (value_at r cs (job_key other)))) (ap (λ x. bytes_eq (job_key id) (job_key x)) (sym same) ∙ same_bytes (job_key id)) ∙ new ∙ ap (λ b. Some (cond b j (q.job other))) (sym t))
        (λ t apart. ap (λ b. job_in (cond b (left_of op) (value_at r cs (job_key other)))) (keys_apart id other fits below apart) ∙ s.jobs other below ∙ ap (λ b. Some (cond b j (q.job other))) (sym t))

    within_new : (other : ℕ) → IsSome ((with_job q id j).job other) → (1 ≤ other) × (other ≤ q.counter)
    within_new other some = by_id id other
        (λ t same. subst (λ (n : ℕ). (1 ≤ n) × (n ≤ q.counter)) same (s.within id there))
        (λ t apart. s.within other (subst IsSome (ap (λ b. cond b j (q.job other)) t) some))

-- ---- a finish

job_read : (r : Rules) (cs : List Commit) (n : ℕ) (q : Queue) (id : ℕ) (answer : Option KeyValue) (more : List TranscriptStep) → id < 2 ^ 64 → IsQueueIn (value_from r cs n) q → IsAlone r cs n (steps.Get (job_key id) answer ∷ more) → job_in (value_of answer) ≡ Some (q.job id)
job_read r cs n q id answer more fits stands alone = ap job_in (value_seen r cs n (job_key id) answer alone.0) ∙ stands.jobs id fits

pub finish_job_is : (r : Rules) (cs : List Commit) (n : ℕ) (q : Queue) (id lease : ℕ) (ts : List TranscriptStep) → id < 2 ^ 64 → IsQueueIn (value_from r cs n) q → IsAlone r cs n ts → (f : Finishes id lease ts) → q.job id ≡ Some f.job
finish_job_is r cs n q id lease ts fits stands alone f =
    both_some (q.job id) (Some f.job) (sym (job_read r cs n q id (Some f.row) (steps.Own (job_key id) Delete ∷ []) fits stands (subst (IsAlone r cs n) f.steps alone)) ∙ f.stands)

step_by_refusal : (q : Queue) (id lease : ℕ) (o : Option Job) (e : QueueError) → lease_refusal id lease o ≡ Some e → model.finish_step q id lease o ≡ Err e
step_by_refusal q id lease None e h = ap Err (both_some (errors.NoJob id) e h)
step_by_refusal q id lease (Some j) e h = by (nat_eq j.lease lease) (nat_eq lease 0) h
  where
    done : Queue × model.Answer
    done = (with_job q id None, model.Answer.Finished)

    by : (a b : Bool) → cond a (cond b (Some (errors.StaleLease j.lease)) None) (Some (errors.StaleLease j.lease)) ≡ Some e →
        cond a (cond b (Err (errors.StaleLease j.lease)) (Ok done)) (Err (errors.StaleLease j.lease)) ≡ Err e
    by true true g = ap Err (both_some (errors.StaleLease j.lease) e g)
    by true false g = none_some e g
    by false b g = ap Err (both_some (errors.StaleLease j.lease) e g)

pub finish_stopped : (r : Rules) (cs : List Commit) (n : ℕ) (q : Queue) (id lease : ℕ) (e : QueueError) (ts : List TranscriptStep) → id < 2 ^ 64 → IsQueueIn (value_from r cs n) q → IsAlone r cs n ts → FinishStops id lease e ts → queue_step q (Call.Finish id lease) ≡ Err e
finish_stopped r cs n q id lease e ts fits stands alone stops =
    step_by_refusal q id lease (q.job id) e
    (sym (ap (job_refusal id lease) (job_read r cs n q id stops.answer [] fits stands (subst (IsAlone r cs n) stops.steps alone))) ∙ stops.refusal)

pub finish_step_is : (q : Queue) (id lease : ℕ) (j : Job) → q.job id ≡ Some j → j.lease ≡ lease → lease ≢ 0 → queue_step q (Call.Finish id lease) ≡ Ok (with_job q id None, model.Answer.Finished)
finish_step_is q id lease j is named claimed =
    let same : nat_eq j.lease lease ≡ true = grind (arith, nat_tests) in
    let some : nat_eq lease 0 ≡ false = grind (arith, nat_tests) in
    ap (model.finish_step q id lease) is
    ∙ (λ i. cond (same i) (cond (some i) (Err (errors.StaleLease j.lease)) (Ok (with_job q id None, model.Answer.Finished))) (Err (errors.StaleLease j.lease)))

-- ---- a claim

-- the answers of a scan are its rows in turn
pub record HandedOut (r : Rules) (cs : List Commit) (n : ℕ) (rows : List RowEntry) (kvs : List KeyValue) (more : List TranscriptStep) : Type 0 where
  pub left : List RowEntry
  pub is : map key_value rows ≡ kvs ++ map key_value left
  pub rest : AloneFrom r cs n [] ((Ascending, left) ∷ []) more

pub handed_out : (r : Rules) (cs : List Commit) (n : ℕ) (rows : List RowEntry) (kvs : List KeyValue) (more : List TranscriptStep) → AloneFrom r cs n [] ((Ascending, rows) ∷ []) (nexts kvs ++ more) → HandedOut r cs n rows kvs more
handed_out r cs n rows [] more h = record { left = rows; is = refl; rest = h }
handed_out r cs n [] (kv ∷ kvs) more h = no h.0
  where
    no : {A : Type 0} → Some kv ≡ None → A
    no e = cc
handed_out r cs n (x ∷ rows) (kv ∷ kvs) more h =
    let later = handed_out r cs n rows kvs more h.1 in
    record { left = later.left; is = λ i. sym (both_some kv (key_value x) h.0) i ∷ later.is i; rest = later.rest }

-- the rows behind what was passed
rows_at : (r : Rules) (cs : List Commit) (n : ℕ) (passed : List KeyValue) (kv : KeyValue) (more : List TranscriptStep) → IsAlone r cs n (scan_of_jobs ∷ (nexts (passed ++ (kv ∷ [])) ++ more)) →
    (rest : List KeyValue) × (rows_from r cs n ≡ passed ++ (kv ∷ rest))
rows_at r cs n passed kv more alone =
    let out = handed_out r cs n (rows_seen r cs n [] Ascending (prefix_range jobs_prefix)) (passed ++ (kv ∷ [])) more alone in
    (map key_value out.left, out.is ∙ append_assoc passed (kv ∷ []) (map key_value out.left))

nothing_left : (rows : List RowEntry) → None ≡ first_left rows → map key_value rows ≡ []
nothing_left [] e = refl
nothing_left (x ∷ xs) e = none_some (key_value x) e

pub claim_first : (r : Rules) (cs : List Commit) (n : ℕ) (q : Queue) (now : ℤ) (kv : KeyValue) (id : ℕ) (job : Job) (ts : List TranscriptStep) → IsQueueIn (value_from r cs n) q → IsAlone r cs n ts → Takes now kv id job ts → first_free now q ≡ Some (id, job)
claim_first r cs n q now kv id job ts stands alone takes =
    let rows = rows_at r cs n takes.passed kv [] (subst (IsAlone r cs n) (takes.steps ∙ ap (λ us. scan_of_jobs ∷ us) (sym (append-nil (nexts (takes.passed ++ (kv ∷ [])))))) alone) in
    one_is_first r cs n q now takes.passed kv rows.0 id job stands rows.1 takes.passes takes.row

abbrev pub after_claim : Queue → ℤ → ℕ → ℕ → Job → Queue
after_claim q now ms id job = with_job q id (Some (leased now ms job))

spent_test : (n : ℕ) → last_number ≤ n → nat_le last_number n ≡ true
spent_test n h = grind (arith, nat_tests)

pub claim_step_is : (q : Queue) (now : ℤ) (ms id : ℕ) (job : Job) → first_free now q ≡ Some (id, job) → job.lease < last_number →
    queue_step q (Call.Claim now ms) ≡ Ok (after_claim q now ms id job, model.Answer.Claimed id (job.lease + 1) job.payload)
claim_step_is q now ms id job first left =
    ap (claim_step q now ms) first
    ∙ ap (λ b. cond b (Err (errors.LeasesSpent id)) (Ok (after_claim q now ms id job, model.Answer.Claimed id (job.lease + 1) job.payload))) (not_spent job.lease left)

pub none_step_is : (r : Rules) (cs : List Commit) (n : ℕ) (q : Queue) (now : ℤ) (ms : ℕ) (ts : List TranscriptStep) → IsQueueIn (value_from r cs n) q → IsAlone r cs n ts → FindsNone now ts → queue_step q (Call.Claim now ms) ≡ Ok (q, model.Answer.NoneFree)
none_step_is r cs n q now ms ts stands alone none =
    let out = handed_out r cs n (rows_seen r cs n [] Ascending (prefix_range jobs_prefix)) none.passed (steps.Next 0 None ∷ []) (subst (IsAlone r cs n) none.steps alone) in
    let all : rows_from r cs n ≡ none.passed = out.is ∙ ap (λ xs. none.passed ++ xs) (nothing_left out.left out.rest.0) ∙ append-nil none.passed in
    ap (claim_step q now ms) (none_is_first r cs n q now none.passed stands all none.passes)

-- the job that is taken stands
first_stands : (now : ℤ) (job : ℕ → Option Job) (s n id : ℕ) (j : Job) → first_from now job s n ≡ Some (id, j) → job id ≡ Some j
first_stands now job s zero id j e = none_some (id, j) e
first_stands now job s (suc n) id j e = by (job s) refl e (first_stands now job (s + 1) n id j)
  where
    by : (o : Option Job) → job s ≡ o → free_or now s o (first_from now job (s + 1) n) ≡ Some (id, j) → (first_from now job (s + 1) n ≡ Some (id, j) → job id ≡ Some j) → job id ≡ Some j
    by None h f later = later f
    by (Some i) h f later = on (is_free now i) f
      where
        on : (b : Bool) → cond b (Some (s, i)) (first_from now job (s + 1) n) ≡ Some (id, j) → job id ≡ Some j
        on true g = let same : (s, i) ≡ (id, j) = both_some (s, i) (id, j) g in ap job (sym (ap (λ (p : ℕ × Job). p.0) same)) ∙ h ∙ ap (λ (p : ℕ × Job). Some p.1) same
        on false g = later g

pub claim_stands : (r : Rules) (cs : List Commit) (c : Commit) (q : Queue) (now : ℤ) (ms id : ℕ) (job : Job) → SFits w64 now → txn.Counts r.start_seq cs → c.seq ≡ last_of r.start_seq cs + 1 → c.ops ≡ kept_ops ((job_key id, put_of (job_bytes (leased now ms job))) ∷ []) → id < 2 ^ 64 → job.lease < last_number →
    first_free now q ≡ Some (id, job) → Stands r cs q → Stands r (cs ++ (c ∷ [])) (after_claim q now ms id job)
claim_stands r cs c q now ms id job moment counts next ops fits left first s =
    one_stands r cs c q id (put_of (job_bytes (leased now ms job))) (Some (leased now ms job)) counts next ops tt fits
    (bytes_in (leased now ms job) (omega arith) (end_fits now ms moment) carries)
    (subst IsSome (sym is) refl) s
  where
    is : q.job id ≡ Some job
    is = first_stands now q.job 1 q.counter id job first

    carries : length job.payload ≤ longest
    carries = by (value_at r cs (job_key id)) refl
      where
        by : (o : Option (List ℕ)) → value_at r cs (job_key id) ≡ o → length job.payload ≤ longest
        by None e = both_apart (sym (ap job_in e) ∙ s.jobs id fits ∙ ap Some is)
          where
            both_apart : {A : Type 0} → Some None ≡ Some (Some job) → A
            both_apart h = cc
        by (Some v) e = (value_is v job (sym (ap job_in e) ∙ s.jobs id fits ∙ ap Some is)).carries

-- the row that a scan handed out behind others stands at its key
pub handed_stands : (r : Rules) (cs : List Commit) (n : ℕ) (passed : List KeyValue) (kv : KeyValue) (ts : List TranscriptStep) → IsAlone r cs n ts → ts ≡ scan_of_jobs ∷ nexts (passed ++ (kv ∷ [])) → value_from r cs n kv.key ≡ Some kv.value
handed_stands r cs n passed kv ts alone is =
    row_seen r cs n kv (record { row = row.0; stands = row.1; is = sym row.2 })
  where
    rows : (rest : List KeyValue) × (rows_from r cs n ≡ passed ++ (kv ∷ rest))
    rows = rows_at r cs n passed kv [] (subst (IsAlone r cs n) (is ∙ ap (λ us. scan_of_jobs ∷ us) (sym (append-nil (nexts (passed ++ (kv ∷ [])))))) alone)

    row : (x : RowEntry) × (seen r cs n [] x.key ≡ Some x) × (key_value x ≡ kv)
    row = row_at (seen r cs n []) (rows_seen r cs n [] Ascending (prefix_range jobs_prefix)) (rows_are_seen r cs n [] Ascending (prefix_range jobs_prefix)) passed kv rows.0 rows.1

pub claim_stopped : (r : Rules) (cs : List Commit) (n : ℕ) (q : Queue) (now : ℤ) (ms : ℕ) (e : QueueError) (ts : List TranscriptStep) → IsQueueIn (value_from r cs n) q → IsAlone r cs n ts → ClaimStops now e ts → queue_step q (Call.Claim now ms) ≡ Err e
claim_stopped r cs n q now ms e ts stands alone (ClaimStops.spent kv id job takes spent is) =
    ap (claim_step q now ms) (claim_first r cs n q now kv id job ts stands alone takes)
    ∙ ap (λ b. cond b (Err (errors.LeasesSpent id)) (Ok (after_claim q now ms id job, model.Answer.Claimed id (job.lease + 1) job.payload))) (spent_test job.lease spent)
    ∙ ap Err (sym is)
claim_stopped r cs n q now ms e ts stands alone (ClaimStops.bad passed kv passes bad is) = no (sym (stands.jobs bad.0 bad.1) ∙ ap job_in there ∙ bad.3)
  where
    no : {A : Type 0} → Some (q.job bad.0) ≡ None → A
    no h = cc

    there : value_from r cs n (job_key bad.0) ≡ Some kv.value
    there = ap (value_from r cs n) (sym bad.2) ∙ handed_stands r cs n passed kv ts alone is
