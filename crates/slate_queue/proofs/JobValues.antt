-- What stands at a job's key.
use Rattle.std.proofs.Common.{◌≡◌, ℕ, ◌+◌, ◌-◌, ◌<◌, ◌≤◌, ◌^◌, Bool, true, false, nat_le, nat_lt, ◌==◌, List, [], ◌∷◌, ◌++◌, length, drop, Option, Some, None, option_map, refl, sym, ap, subst, ◌∙◌, arith, SFits, w64, length-append, length-drop}
use Rattle.std.specs.Prelude.{IfSome}
use Rattle.std.specs.Int.{cast_unsigned}
use Rattle.std.proofs.lemmas.Bool.Decides.{nat_tests}
use Rattle.slate_types.specs.declared.error.SlateDBError.TheVariants as errors
use Rattle.slate_mem.specs.Refusals.{first_refusal, op_refusal, when}
use Rattle.slate_queue.specs.declared.stored.LeaseHead.{LeaseHead}
use Rattle.slate_queue.specs.CallSteps.{HasLease}
use Rattle.slate_queue.specs.Commits.{put_of}
use Rattle.slate_queue.specs.Forms.{head_of}
use Rattle.slate_queue.specs.Stored.{Job, job_bytes, job_key, job_of, number_bytes}
use Rattle.slate_queue.specs.Jobs.{longest}
use Rattle.slate_queue.specs.Standing.{job_by, job_in, longest_value}
use Rattle.slate_queue.proofs.Changes.{eight}
use Rattle.slate_queue.proofs.ClaimForm.{job_again}
use Rattle.slate_queue.proofs.FormLaws.{is_read, le_is, le_test}

pub record IsValue (v : List ℕ) (j : Job) : Type 0 where
  pub stands : job_of v ≡ Some j
  pub short : length v ≤ longest_value
  pub carries : length j.payload ≤ longest

none_there : {X : Type 0} {A : Type 0} (x : X) → None ≡ Some x → A
none_there x e = cc

opened : (o : Option Job) (j : Job) → option_map Some o ≡ Some (Some j) → o ≡ Some j
opened None j e = none_there (Some j) e
opened (Some i) j e = both (Some i) (Some j) e
  where
    both : (a b : Option Job) → Some a ≡ Some b → a ≡ b
    both a b h = cc

pub value_is : (v : List ℕ) (j : Job) → job_in (Some v) ≡ Some (Some j) → IsValue v j
value_is v j e = by (nat_le (length v) longest_value) refl e
  where
    by : (b : Bool) → nat_le (length v) longest_value ≡ b → job_by b (job_of v) ≡ Some (Some j) → IsValue v j
    by true h f =
        let is : job_of v ≡ Some j = opened (job_of v) j f in
        let short : length v ≤ longest_value = le_is (length v) longest_value h in
        let payload : length (drop 16 v) ≡ length j.payload = ap (λ (i : Job). length i.payload) (is_read v j is).is in
        let left : length (drop 16 v) ≡ length v - 16 = length-drop 16 v in
        record { stands = is; short = short; carries = omega arith }
    by false h f = none_there (Some j) f

pub value_in : (v : List ℕ) (j : Job) → job_of v ≡ Some j → length v ≤ longest_value → job_in (Some v) ≡ Some (Some j)
value_in v j e h = ap (λ b. job_by b (job_of v)) (le_test (length v) longest_value h) ∙ ap (option_map Some) e

-- a job that is read stands, where anything does
pub value_same : (v : List ℕ) (j : Job) (o : Option Job) → job_of v ≡ Some j → job_in (Some v) ≡ Some o → o ≡ Some j
value_same v j o e f = by (nat_le (length v) longest_value) refl f
  where
    both : (a b : Option Job) → Some a ≡ Some b → a ≡ b
    both a b h = cc

    by : (b : Bool) → nat_le (length v) longest_value ≡ b → job_by b (job_of v) ≡ Some o → o ≡ Some j
    by true h g = both o (Some j) (sym g ∙ ap (option_map Some) e)
    by false h g = none_there o g

pub job_long : (j : Job) → length (job_bytes j) ≡ 16 + length j.payload
job_long j =
    let a : length (job_bytes j) ≡ length (number_bytes j.lease) + length (number_bytes (cast_unsigned w64 j.ends) ++ j.payload) = length-append (number_bytes j.lease) (number_bytes (cast_unsigned w64 j.ends) ++ j.payload) in
    let b : length (number_bytes (cast_unsigned w64 j.ends) ++ j.payload) ≡ length (number_bytes (cast_unsigned w64 j.ends)) + length j.payload = length-append (number_bytes (cast_unsigned w64 j.ends)) j.payload in
    let x : length (number_bytes j.lease) ≡ 8 = eight j.lease in
    let y : length (number_bytes (cast_unsigned w64 j.ends)) ≡ 8 = eight (cast_unsigned w64 j.ends) in
    omega arith

pub bytes_in : (j : Job) → j.lease < 2 ^ 64 → SFits w64 j.ends → length j.payload ≤ longest → job_in (Some (job_bytes j)) ≡ Some (Some j)
bytes_in j lease ends short = value_in (job_bytes j) j (job_again j lease ends) (let all : length (job_bytes j) ≡ 16 + length j.payload = job_long j in omega arith)

-- ---- what is read at a job's key, and what may be put there

pub lease_read : (v : List ℕ) (o : Option LeaseHead) → o ≡ option_map head_of (job_of v) → length v ≤ longest_value → IfSome o (HasLease v)
lease_read v o is short = subst (λ (x : Option LeaseHead). IfSome x (HasLease v)) (sym is) (by (job_of v) refl)
  where
    by : (j : Option Job) → job_of v ≡ j → IfSome (option_map head_of j) (HasLease v)
    by None e = tt
    by (Some j) e = (j, value_in v j e short, refl)

none_empty : (n : ℕ) → 0 < n → (n == 0) ≡ false
none_empty n h = grind (arith, nat_tests)

not_above : (n m : ℕ) → n ≤ m → nat_lt m n ≡ false
not_above n m h = grind (arith, nat_tests)

pub short_put : (k v : List ℕ) → 0 < length k → length k ≤ 65535 → length v ≤ longest_value → op_refusal k (put_of v) ≡ None
short_put k v some short few = λ i.
    first_refusal (when (none_empty (length k) some i) errors.EmptyKey ∷ when (not_above (length k) 65535 short i) (errors.KeyTooLong (length k)) ∷ when (not_above (length v) longest_value few i) (errors.ValueTooLong (length v)) ∷ [])

pub key_long : (id : ℕ) → length (job_key id) ≡ 9
key_long id = let eight_more : length (number_bytes id) ≡ 8 = eight id in omega arith

-- a job of so short a payload
pub short_job : (k : List ℕ) (id : ℕ) (j : Job) (v : List ℕ) → k ≡ job_key id → v ≡ job_bytes j → length j.payload ≤ longest → op_refusal k (put_of v) ≡ None
short_job k id j v key value short =
    let keys : length k ≡ 9 = ap length key ∙ key_long id in
    let values : length v ≡ 16 + length j.payload = ap length value ∙ job_long j in
    short_put k v (omega arith) (omega arith) (omega arith)

pub short_rest : (p v w : List ℕ) → p ≡ drop 16 v → v ≡ w → length w ≤ longest_value → length p ≤ longest
short_rest p v w is same short =
    let rest : length p ≡ length w - 16 = ap length (is ∙ ap (drop 16) same) ∙ length-drop 16 w in
    omega arith
