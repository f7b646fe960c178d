-- Which commits finish a job.
use Rattle.std.proofs.Common.{◌≡◌, ◌≢◌, ℕ, Bool, true, false, not, ◌&&◌, nat_eq, List, [], ◌∷◌, length, bytes_eq, Option, Some, None, Decides, refl, sym, ap, ◌∙◌, arith}
use Rattle.std.proofs.lemmas.Bool.Decides.{nat_tests}
use Rattle.std.proofs.lemmas.Slice.Eq.{bytes_eq-Decides}
use Rattle.slate_types.specs.declared.types.KeyValue.{KeyValue}
use Rattle.slate_mem.specs.declared.WriteOp.{WriteOp}
use Rattle.slate_mem.specs.declared.WriteOp.TheVariants.{Delete}
use Rattle.slate_mem.specs.Batch.{Ops, batch_keys}
use Rattle.slate_txn.specs.declared.event.TranscriptStep.{TranscriptStep}
use Rattle.slate_txn.specs.declared.event.TranscriptStep.TheVariants.{Get, Scan, Next, Seek, View, Own}
use Rattle.slate_queue.specs.Stored.{Job, job_key, id_of, job_of}
use Rattle.slate_queue.specs.Commits.{IsFinish}
use Rattle.slate_queue.specs.Forms.{has_job_key, is_claimed, keeps_delete, deletes, ends_job, finishes_by, finishes_in}
use Rattle.slate_queue.proofs.Changes.{one_kept, id_again}
use Rattle.slate_queue.proofs.FormLaws.{never, refutes, and_both, first_same, rest_same, own_id, keeps_delete_decides, deletes_decides}

record HasClaimed (o : Option Job) : Type 0 where
  job : Job
  stands : o ≡ Some job
  claimed : job.lease ≢ 0

claimed_is : (o : Option Job) → is_claimed o ≡ true → HasClaimed o
claimed_is None e = never e
claimed_is (Some j) e = record { job = j; stands = refl; claimed = grind (arith, nat_tests) }

claimed_test : (j : Job) → j.lease ≢ 0 → is_claimed (Some j) ≡ true
claimed_test j h = ap not no
  where
    no : nat_eq j.lease 0 ≡ false
    no = grind (arith, nat_tests)

ended_by : (k : List ℕ) (row : KeyValue) (key : List ℕ) (job : List ℕ × WriteOp) (own : TranscriptStep) → ends_job k row key job own ≡ true → IsFinish (job ∷ []) (key ∷ []) (Get k (Some row) ∷ own ∷ [])
ended_by k row key job own e =
    let a : Bool = has_job_key k in
    let b : Bool = is_claimed (job_of row.value) in
    let c : Bool = bytes_eq key k in
    let d : Bool = keeps_delete k job in
    let x = and_both (a && b && c && d) (deletes k own) e in
    let y = and_both (a && b && c) d x.0 in
    let z = and_both (a && b) c y.0 in
    let u = and_both a b z.0 in
    let held : HasClaimed (job_of row.value) = claimed_is (job_of row.value) u.1 in
    let is : k ≡ job_key (id_of k) = (bytes_eq-Decides k (job_key (id_of k))).0 u.0 in
    let ops : job ∷ [] ≡ (job_key (id_of k), Delete) ∷ [] = λ i. ((keeps_delete_decides k job).0 y.1 ∙ (λ j. (is j, Delete))) i ∷ [] in
    record {
      id = id_of k;
      fits = own_id k u.0;
      row = row;
      job = held.job;
      stands = held.stands;
      claimed = held.claimed;
      by = record {
        whole = λ i. Get (is i) (Some row) ∷ ((deletes_decides k own).0 x.1 ∙ (λ j. Own (is j) Delete)) i ∷ [];
        kept = ops ∙ sym (one_kept (job_key (id_of k)) Delete);
        keys = (λ i. ((bytes_eq-Decides key k).0 z.1 ∙ is) i ∷ []) ∙ sym (ap batch_keys ops);
      };
    }

finish_passes : (read : TranscriptStep) (key : List ℕ) (job : List ℕ × WriteOp) (own : TranscriptStep) → IsFinish (job ∷ []) (key ∷ []) (read ∷ own ∷ []) → finishes_by read key job own ≡ true
finish_passes read key job own h =
    ap (λ r. finishes_by r key job own) (first_same _ _ _ _ steps)
    ∙ (λ i. own_key i && (ap is_claimed h.stands ∙ claimed_test h.job h.claimed) i && (bytes_eq-Decides key (job_key h.id)).1 (first_same _ _ _ _ keys) i && (keeps_delete_decides (job_key h.id) job).1 (first_same _ _ _ _ ops) i
    && (deletes_decides (job_key h.id) own).1 (first_same _ _ _ _ (rest_same _ _ _ _ steps)) i)
  where
    steps : read ∷ own ∷ [] ≡ Get (job_key h.id) (Some h.row) ∷ Own (job_key h.id) Delete ∷ []
    steps = h.by.whole

    ops : job ∷ [] ≡ (job_key h.id, Delete) ∷ []
    ops = h.by.kept ∙ one_kept (job_key h.id) Delete

    keys : key ∷ [] ≡ job_key h.id ∷ []
    keys = h.by.keys ∙ ap batch_keys ops

    own_key : has_job_key (job_key h.id) ≡ true
    own_key = (bytes_eq-Decides (job_key h.id) (job_key (id_of (job_key h.id)))).1 (ap job_key (sym (id_again h.id h.fits)))

pub finish_decides : (read : TranscriptStep) (key : List ℕ) (job : List ℕ × WriteOp) (own : TranscriptStep) → Decides (finishes_by read key job own) (IsFinish (job ∷ []) (key ∷ []) (read ∷ own ∷ []))
finish_decides read key job own = (by read, finish_passes read key job own)
  where
    by : (r : TranscriptStep) → finishes_by r key job own ≡ true → IsFinish (job ∷ []) (key ∷ []) (r ∷ own ∷ [])
    by (Get k (Some row)) e = ended_by k row key job own e
    by (Get k None) e = never e
    by (Own k op) e = never e
    by (Scan o r) e = never e
    by (Next n a) e = never e
    by (Seek n k) e = never e
    by (View r) e = never e

-- another commit finishes none
pub record FinishLengths (ops : Ops) (tracked : List (List ℕ)) (ts : List TranscriptStep) : Type 0 where
  pub steps : length ts ≡ 2
  pub kept : length ops ≡ 1
  pub keys : length tracked ≡ 1

pub finish_lengths : (ops : Ops) (tracked : List (List ℕ)) (ts : List TranscriptStep) → IsFinish ops tracked ts → FinishLengths ops tracked ts
finish_lengths ops tracked ts h =
    let is : ops ≡ (job_key h.id, Delete) ∷ [] = h.by.kept ∙ one_kept (job_key h.id) Delete in
    record { steps = ap length h.by.whole; kept = ap length is; keys = ap length (h.by.keys ∙ ap batch_keys is) }

-- the test of any commit
pub finishes_in_decides : (ts : List TranscriptStep) (ops : Ops) (tracked : List (List ℕ)) → Decides (finishes_in ts ops tracked) (IsFinish ops tracked ts)
finishes_in_decides (read ∷ own ∷ []) (job ∷ []) (key ∷ []) = finish_decides read key job own
finishes_in_decides (read ∷ own ∷ []) (job ∷ []) [] = refutes (λ h. let l = (finish_lengths _ _ _ h).keys in omega arith)
finishes_in_decides (read ∷ own ∷ []) (job ∷ []) (j ∷ k ∷ ks) = refutes (λ h. let l = (finish_lengths _ _ _ h).keys in omega arith)
finishes_in_decides (read ∷ own ∷ []) [] tracked = refutes (λ h. let l = (finish_lengths _ _ _ h).kept in omega arith)
finishes_in_decides (read ∷ own ∷ []) (o ∷ p ∷ os) tracked = refutes (λ h. let l = (finish_lengths _ _ _ h).kept in omega arith)
finishes_in_decides [] ops tracked = refutes (λ h. let l = (finish_lengths _ _ _ h).steps in omega arith)
finishes_in_decides (s ∷ []) ops tracked = refutes (λ h. let l = (finish_lengths _ _ _ h).steps in omega arith)
finishes_in_decides (s ∷ t ∷ u ∷ ts) ops tracked = refutes (λ h. let l = (finish_lengths _ _ _ h).steps in omega arith)
