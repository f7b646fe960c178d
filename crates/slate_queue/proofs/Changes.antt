-- What is kept of a queue's changes, and what a commit of them leaves at a key.
use Rattle.std.proofs.Common.{◌≡◌, ℕ, ◌+◌, ◌<◌, ◌≤◌, ◌^◌, Bool, true, cond, List, [], ◌∷◌, ◌++◌, map, length, take, bytes_eq, Option, Some, None, option_map, refl, sym, ap, ◌∙◌, arith}
use Rattle.std.proofs.lemmas.Nat.{from_be_bytes-to_be_bytes_8}
use Rattle.std.proofs.lemmas.Slice.Eq.{bytes_eq-Decides}
use Rattle.slate_types.specs.Rows.{operand}
use Rattle.slate_types.specs.Fold.{from_last}
use Rattle.slate_mem.specs.declared.WriteOp.{WriteOp}
use Rattle.slate_mem.specs.declared.WriteOp.TheVariants.{Put, Delete, Merge}
use Rattle.slate_mem.specs.Batch.{Ops, replaces, kept, kept_ops}
use Rattle.slate_mem.proofs.BatchLaws.{keeps_what_is_kept}
use Rattle.slate_txn.specs.State.{Rules, Commit, last_of}
use Rattle.slate_txn.specs.Reads.{state_at}
use Rattle.slate_txn.specs.Laws.{Counts, shown_after}
use Rattle.slate_txn.proofs.Growing.{commit_shows, last_more}
use Rattle.slate_queue.specs.Stored.{Job, counter_key, job_key, id_of, lease_of, number_bytes, number_of, job_bytes}
use Rattle.slate_queue.specs.Jobs.{new_job}
pub use Rattle.slate_queue.specs.Standing.{value_at}
use Rattle.slate_queue.specs.Commits.{put_of, added}

-- ---- numbers

pub number_again : (n : ℕ) → n < 2 ^ 64 → number_of (number_bytes n) ≡ n
unfolding number_of number_bytes
number_again n h = from_be_bytes-to_be_bytes_8 n h

pub eight : (n : ℕ) → length (number_bytes n) ≡ 8
unfolding number_bytes
eight n = refl

pub front_eight : (n : ℕ) (xs : List ℕ) → take 8 (number_bytes n ++ xs) ≡ number_bytes n
unfolding number_bytes
front_eight n xs = refl

pub lease_again : (j : Job) → j.lease < 2 ^ 64 → lease_of (job_bytes j) ≡ j.lease
lease_again j h = ap number_of (front_eight j.lease _) ∙ number_again j.lease h

pub id_again : (id : ℕ) → id < 2 ^ 64 → id_of (job_key id) ≡ id
id_again id h = number_again id h

pub same_bytes : (k : List ℕ) → bytes_eq k k ≡ true
same_bytes k = (bytes_eq-Decides k k).1 refl

-- ids apart have keys apart
pub apart_keys : (a b : ℕ) → a < 2 ^ 64 → b < 2 ^ 64 → bytes_eq (job_key a) (job_key b) ≡ true → a ≡ b
apart_keys a b ha hb e = sym (id_again a ha) ∙ ap id_of ((bytes_eq-Decides (job_key a) (job_key b)).0 e) ∙ id_again b hb

-- ---- what is kept

pub one_kept : (k : List ℕ) (op : WriteOp) → kept_ops ((k, op) ∷ []) ≡ (k, op) ∷ []
one_kept k op = ap by (same_bytes k) ∙ whole op
  where
    named : WriteOp → List ℕ × WriteOp
    named o = (k, o)

    by : Bool → Ops
    by b = map named (from_last replaces (map (λ (o : List ℕ × WriteOp). o.1) (cond b ((k, op) ∷ []) []))) ++ []

    whole : (o : WriteOp) → map named (from_last replaces (o ∷ [])) ++ [] ≡ named o ∷ []
    whole (Put v o) = refl
    whole Delete = refl
    whole (Merge v o) = refl

pub added_kept : (id : ℕ) (payload : List ℕ) → kept_ops (added id payload) ≡ (job_key id, put_of (job_bytes (new_job payload))) ∷ (counter_key, put_of (number_bytes id)) ∷ []
added_kept id payload = ap by (same_bytes (job_key id))
  where
    by : Bool → Ops
    by b = map (λ o. (job_key id, o)) (from_last replaces (map (λ (o : List ℕ × WriteOp). o.1) (cond b ((job_key id, put_of (job_bytes (new_job payload))) ∷ []) []))) ++ ((counter_key, put_of (number_bytes id)) ∷ [])

-- ---- what a commit leaves at a key

-- what is left at a key by what a commit keeps of it
abbrev pub left_by : List WriteOp → Option (List ℕ) → Option (List ℕ)
left_by [] old = old
left_by (Put v o ∷ []) old = Some v
left_by (Delete ∷ []) old = None
left_by _ old = old

-- puts and deletes, one of a key
abbrev pub IsPlain : List WriteOp → Type 0
IsPlain [] = Unit {0}
IsPlain (Put v o ∷ []) = Unit {0}
IsPlain (Delete ∷ []) = Unit {0}
IsPlain _ = ⊥

same_le : (a b : ℕ) → a ≡ b → a ≤ b
same_le a b e = omega arith

pub leaves : (r : Rules) (cs : List Commit) (c : Commit) (changes : Ops) (k : List ℕ) → Counts r.start_seq cs → c.seq ≡ last_of r.start_seq cs + 1 → c.ops ≡ kept_ops changes → IsPlain (kept changes k) →
    value_at r (cs ++ (c ∷ [])) k ≡ left_by (kept changes k) (value_at r cs k)
leaves r cs c changes k counts next is plain =
    ap (λ n. option_map operand (state_at r (cs ++ (c ∷ [])) n k)) (last_more r.start_seq cs c)
    ∙ ap (option_map operand) (commit_shows r cs c c.seq k counts next (same_le c.seq c.seq refl))
    ∙ ap (λ os. option_map operand (shown_after r cs c k os)) (ap (λ os. kept os k) is ∙ keeps_what_is_kept changes k)
    ∙ by (kept changes k) plain
  where
    by : (os : List WriteOp) → IsPlain os → option_map operand (shown_after r cs c k os) ≡ left_by os (value_at r cs k)
    by [] h = refl
    by (Put v o ∷ []) h = refl
    by (Delete ∷ []) h = refl
    by (Merge v o ∷ os) h = absurd h
    by (Put v o ∷ other ∷ os) h = absurd h
    by (Delete ∷ other ∷ os) h = absurd h
