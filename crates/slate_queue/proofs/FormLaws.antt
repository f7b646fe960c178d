-- What tests of puts, deletes, keys and jobs tell.
use Rattle.std.proofs.Common.{◌≡◌, ℕ, zero, suc, ◌+◌, ◌-◌, ◌<◌, ◌≤◌, ◌^◌, ℤ, Bool, true, false, true≢false, cond, not, ◌&&◌, nat_eq, nat_le, nat_lt, List, [], ◌∷◌, ◌++◌, length, take, drop, get_or, take-append-drop, length-drop, length-take-le, length-append, drop-drop, bytes_eq, Option, Some, None, option_map, Decides, refl, sym, ap, subst, ◌∙◌, arith, w8, w64, Fits}
use Rattle.std.proofs.lemmas.Bool.Decides.{Decides-and, Decides-like, nat_tests, same_from_decides}
use Rattle.std.proofs.lemmas.Int.{of_z-to_z}
use Rattle.std.proofs.lemmas.Nat.{be_bytes_8}
use Rattle.std.proofs.lemmas.Slice.Eq.{bytes_eq-Decides}
use Rattle.std.specs.Int.{cast_unsigned, cast_signed}
use Rattle.slate_types.specs.declared.config.Ttl.{Ttl}
use Rattle.slate_types.specs.declared.config.Ttl.TheVariants.{Default, NoExpiry, ExpireAfter}
use Rattle.slate_mem.specs.declared.WriteOp.{WriteOp}
use Rattle.slate_mem.specs.declared.WriteOp.TheVariants.{Put, Delete, Merge}
use Rattle.slate_txn.specs.declared.event.TranscriptStep.{TranscriptStep}
use Rattle.slate_txn.specs.declared.event.TranscriptStep.TheVariants.{Get, Scan, Next, Seek, View, Own}
use Rattle.slate_queue.specs.Stored.{Job, job_key, id_of, is_job_key, number_bytes, number_of, job_bytes, lease_of, job_of}
use Rattle.slate_queue.specs.declared.stored.LeaseHead.{LeaseHead}
use Rattle.slate_queue.specs.Jobs.{new_job, longest}
use Rattle.slate_queue.specs.Commits.{put_of}
use Rattle.slate_queue.specs.Forms.{is_default, put_value, is_just, puts, keeps_put, is_delete, deletes, keeps_delete, no_lease, is_new_job, has_job_key, head_of, held_by, frees, raises, is_next_lease, is_leased, IsRewritten}
use Rattle.slate_queue.proofs.Changes.{same_bytes}

pub never : {A : Type 0} → false ≡ true → A
never e = absurd (true≢false (sym e))

-- ---- lists of so many

abbrev head_of_list : {X : Type 0} → X → List X → X
head_of_list d [] = d
head_of_list d (x ∷ xs) = x

abbrev tail_of : {X : Type 0} → List X → List X
tail_of [] = []
tail_of (x ∷ xs) = xs

pub first_same : {X : Type 0} (a b : X) (xs ys : List X) → a ∷ xs ≡ b ∷ ys → a ≡ b
first_same a b xs ys e = ap (head_of_list a) e

pub rest_same : {X : Type 0} (a b : X) (xs ys : List X) → a ∷ xs ≡ b ∷ ys → xs ≡ ys
rest_same a b xs ys e = ap tail_of e

-- ---- tests of numbers

pub lt_is : (a b : ℕ) → nat_lt a b ≡ true → a < b
lt_is a b e = grind (arith, nat_tests)

pub lt_test : (a b : ℕ) → a < b → nat_lt a b ≡ true
lt_test a b h = grind (arith, nat_tests)

-- ---- puts and deletes

pub refutes : {P : Type 0} → (P → ⊥) → Decides false P
refutes n = (λ e. never e, λ p. absurd (n p))

abbrev of_put : WriteOp → List ℕ
of_put (Put v o) = v
of_put Delete = []
of_put (Merge v o) = []

abbrev is_plain : WriteOp → Bool
is_plain (Put v o) = is_default o.ttl
is_plain Delete = false
is_plain (Merge v o) = false

pub value_decides : (v : List ℕ) (op : WriteOp) → Decides (is_just v (put_value op)) (op ≡ put_of v)
value_decides v (Put w o) = by o.ttl
  where
    by : (t : Ttl) → Decides (is_just v (cond (is_default t) (Some w) None)) (Put w (record { ttl = t }) ≡ put_of v)
    by Default = (λ e. ap put_of ((bytes_eq-Decides w v).0 e), λ p. (bytes_eq-Decides w v).1 (ap of_put p))
    by NoExpiry = refutes (λ p. never (ap is_plain p))
    by (ExpireAfter n) = refutes (λ p. never (ap is_plain p))
value_decides v Delete = refutes (λ p. never (ap is_plain p))
value_decides v (Merge w o) = refutes (λ p. never (ap is_plain p))

pub keeps_put_decides : (k v : List ℕ) (o : List ℕ × WriteOp) → Decides (keeps_put k v o) (o ≡ (k, put_of v))
keeps_put_decides k v o =
    Decides-like (keeps_put k v o) (λ h. λ i. (h.0 i, h.1 i)) (λ p. (ap (λ (x : List ℕ × WriteOp). x.0) p, ap (λ (x : List ℕ × WriteOp). x.1) p))
    (Decides-and (bytes_eq o.0 k) (is_just v (put_value o.1)) (bytes_eq-Decides o.0 k) (value_decides v o.1))

pub delete_decides : (op : WriteOp) → Decides (is_delete op) (op ≡ Delete)
delete_decides Delete = (λ e. refl, λ p. refl)
delete_decides (Put v o) = refutes (λ p. never (ap is_delete p))
delete_decides (Merge v o) = refutes (λ p. never (ap is_delete p))

pub keeps_delete_decides : (k : List ℕ) (o : List ℕ × WriteOp) → Decides (keeps_delete k o) (o ≡ (k, Delete))
keeps_delete_decides k o =
    Decides-like (keeps_delete k o) (λ h. λ i. (h.0 i, h.1 i)) (λ p. (ap (λ (x : List ℕ × WriteOp). x.0) p, ap (λ (x : List ℕ × WriteOp). x.1) p))
    (Decides-and (bytes_eq o.0 k) (is_delete o.1) (bytes_eq-Decides o.0 k) (delete_decides o.1))

-- ---- steps of its own

abbrev own_key : TranscriptStep → List ℕ
own_key (Own k op) = k
own_key _ = []

abbrev own_op : TranscriptStep → WriteOp
own_op (Own k op) = op
own_op _ = Delete

abbrev is_own : TranscriptStep → Bool
is_own (Own k op) = true
is_own (Get k a) = false
is_own (Scan o r) = false
is_own (Next n a) = false
is_own (Seek n k) = false
is_own (View r) = false

no_own : (step : TranscriptStep) (k : List ℕ) (op : WriteOp) → is_own step ≡ false → Decides false (step ≡ Own k op)
no_own step k op e = refutes (λ p. never (sym e ∙ ap is_own p))

pub puts_decides : (k v : List ℕ) (step : TranscriptStep) → Decides (puts k v step) (step ≡ Own k (put_of v))
puts_decides k v (Own j op) =
    Decides-like (bytes_eq j k && is_just v (put_value op)) (λ h. λ i. Own (h.0 i) (h.1 i)) (λ p. (ap own_key p, ap own_op p))
    (Decides-and (bytes_eq j k) (is_just v (put_value op)) (bytes_eq-Decides j k) (value_decides v op))
puts_decides k v (Get j a) = no_own (Get j a) k (put_of v) refl
puts_decides k v (Scan o r) = no_own (Scan o r) k (put_of v) refl
puts_decides k v (Next n a) = no_own (Next n a) k (put_of v) refl
puts_decides k v (Seek n j) = no_own (Seek n j) k (put_of v) refl
puts_decides k v (View r) = no_own (View r) k (put_of v) refl

pub deletes_decides : (k : List ℕ) (step : TranscriptStep) → Decides (deletes k step) (step ≡ Own k Delete)
deletes_decides k (Own j op) =
    Decides-like (is_delete op && bytes_eq j k) (λ h. λ i. Own (h.1 i) (h.0 i)) (λ p. (ap own_op p, ap own_key p))
    (Decides-and (is_delete op) (bytes_eq j k) (delete_decides op) (bytes_eq-Decides j k))
deletes_decides k (Get j a) = no_own (Get j a) k Delete refl
deletes_decides k (Scan o r) = no_own (Scan o r) k Delete refl
deletes_decides k (Next n a) = no_own (Next n a) k Delete refl
deletes_decides k (Seek n j) = no_own (Seek n j) k Delete refl
deletes_decides k (View r) = no_own (View r) k Delete refl

-- ---- numbers, keys and jobs

abbrev pub AreSmall : List ℕ → Type 0
AreSmall bs = (i : ℕ) → get_or bs i 0 < 2 ^ 8

pub all_small : (bs : List ℕ) → ((i : ℕ) → Fits w8 (get_or bs i 0)) → AreSmall bs
all_small bs h i = let f = h i in omega arith

pub written_again : (bs : List ℕ) → length bs ≡ 8 → AreSmall bs → number_bytes (number_of bs) ≡ bs
unfolding number_of number_bytes
written_again bs l small = be_bytes_8 bs (number_of bs) l small refl

pub and_both : (a b : Bool) → (a && b) ≡ true → (a ≡ true) × (b ≡ true)
and_both true b e = (refl, e)
and_both false b e = never e

pub is_same : (a b : ℕ) → nat_eq a b ≡ true → a ≡ b
is_same a b e = grind (arith, nat_tests)

a_job_key : (n : ℕ) → is_job_key (job_key n) ≡ true
unfolding number_bytes
a_job_key n = refl

names_its_id : (k : List ℕ) → AreSmall k → is_job_key k ≡ true → k ≡ job_key (id_of k)
names_its_id [] small e = never e
names_its_id (b ∷ bs) small e =
    let parts : ((nat_eq 106 b && true) ≡ true) × (nat_eq (length (b ∷ bs)) 9 ≡ true) = and_both (nat_eq 106 b && true) (nat_eq (length (b ∷ bs)) 9) e in
    let is : 106 ≡ b = is_same 106 b (and_both (nat_eq 106 b) true parts.0).0 in
    let nine : length (b ∷ bs) ≡ 9 = is_same (length (b ∷ bs)) 9 parts.1 in
    let eight : length bs ≡ 8 = omega arith in
    λ i. sym is i ∷ sym (written_again bs eight (λ n. small (suc n))) i

pub is_key_test : (k : List ℕ) → AreSmall k → is_job_key k ≡ has_job_key k
is_key_test k small =
    same_from_decides (is_job_key k) (has_job_key k)
    (names_its_id k small, λ p. ap is_job_key p ∙ a_job_key (id_of k))
    (bytes_eq-Decides k (job_key (id_of k)))

-- ---- jobs

pub le_is : (a b : ℕ) → nat_le a b ≡ true → a ≤ b
le_is a b e = grind (arith, nat_tests)

pub le_test : (a b : ℕ) → a ≤ b → nat_le a b ≡ true
le_test a b h = grind (arith, nat_tests)

pub some_is : {X : Type 0} (a b : X) → Some a ≡ Some b → a ≡ b
some_is a b e = cc

small_take : (n : ℕ) (bs : List ℕ) → AreSmall bs → AreSmall (take n bs)
small_take zero [] small i = omega arith
small_take zero (b ∷ bs) small i = omega arith
small_take (suc n) [] small i = omega arith
small_take (suc n) (b ∷ bs) small zero = small zero
small_take (suc n) (b ∷ bs) small (suc i) = small_take n bs (λ j. small (suc j)) i

small_drop : (n : ℕ) (bs : List ℕ) → AreSmall bs → AreSmall (drop n bs)
small_drop zero [] small = small
small_drop zero (b ∷ bs) small = small
small_drop (suc n) [] small = small
small_drop (suc n) (b ∷ bs) small = small_drop n bs (λ j. small (suc j))

pub small_number : (bs : List ℕ) → AreSmall bs → number_of bs < 2 ^ 64
unfolding number_of
small_number bs small =
    let a = small 0 in let b = small 1 in let c = small 2 in let d = small 3 in let e = small 4 in let f = small 5 in let g = small 6 in let h = small 7 in
    omega arith

pub small_bytes : (n : ℕ) → AreSmall (number_bytes n)
unfolding number_bytes
small_bytes n zero = omega arith
small_bytes n (suc zero) = omega arith
small_bytes n (suc (suc zero)) = omega arith
small_bytes n (suc (suc (suc zero))) = omega arith
small_bytes n (suc (suc (suc (suc zero)))) = omega arith
small_bytes n (suc (suc (suc (suc (suc zero))))) = omega arith
small_bytes n (suc (suc (suc (suc (suc (suc zero)))))) = omega arith
small_bytes n (suc (suc (suc (suc (suc (suc (suc zero))))))) = omega arith
small_bytes n (suc (suc (suc (suc (suc (suc (suc (suc i)))))))) = omega arith

pub own_id : (k : List ℕ) → has_job_key k ≡ true → id_of k < 2 ^ 64
own_id k e = small_number (drop 1 k) (subst AreSmall (sym (ap (drop 1) ((bytes_eq-Decides k (job_key (id_of k))).0 e))) (small_bytes (id_of k)))

abbrev pub read_job : List ℕ → Job
read_job w = record { lease = lease_of w; ends = cast_signed w64 (number_of (take 8 (drop 8 w))); payload = drop 16 w }

pub job_long : (w : List ℕ) → 16 ≤ length w → job_of w ≡ Some (read_job w)
job_long w h = ap (λ b. cond b (Some (read_job w)) None) (le_test 16 (length w) h)

pub record IsRead (w : List ℕ) (k : Job) : Type 0 where
  pub long : 16 ≤ length w
  pub is : read_job w ≡ k

pub is_read : (w : List ℕ) (k : Job) → job_of w ≡ Some k → IsRead w k
is_read w k e = by (nat_le 16 (length w)) refl
  where
    no : {A : Type 0} → None ≡ Some k → A
    no u = cc

    by : (t : Bool) → nat_le 16 (length w) ≡ t → IsRead w k
    by true f = record { long = le_is 16 (length w) f; is = some_is (read_job w) k (sym (ap (λ b. cond b (Some (read_job w)) None) f) ∙ e) }
    by false f = no (sym (ap (λ b. cond b (Some (read_job w)) None) f) ∙ e)

written_job : (w : List ℕ) → AreSmall w → 16 ≤ length w → w ≡ job_bytes (read_job w)
unfolding number_of
written_job w small long =
    let lease : List ℕ = take 8 w in
    let end : List ℕ = take 8 (drop 8 w) in
    let small_end : AreSmall end = small_take 8 (drop 8 w) (small_drop 8 w small) in
    let back : length (drop 8 w) ≡ length w - 8 = length-drop 8 w in
    let first : lease ≡ number_bytes (number_of lease) = sym (written_again lease (length-take-le 8 w (omega arith)) (small_take 8 w small)) in
    let second : end ≡ number_bytes (cast_unsigned w64 (cast_signed w64 (number_of end))) =
    sym (written_again end (length-take-le 8 (drop 8 w) (omega arith)) small_end) ∙ ap number_bytes (sym (of_z-to_z w64 (number_of end) (small_number end small_end))) in
    sym (take-append-drop 8 w) ∙ ap (λ xs. lease ++ xs) (sym (take-append-drop 8 (drop 8 w))) ∙ (λ i. first i ++ (second i ++ drop-drop 8 8 w i))

pub rewritten : (w : List ℕ) → AreSmall w → IsRewritten w
rewritten w small k e = let r : IsRead w k = is_read w k e in written_job w small r.long ∙ ap job_bytes r.is

-- ---- leases that are read

no_lease_there : {A : Type 0} (h : LeaseHead) → Some h ≡ None → A
no_lease_there h e = cc

pub held_as : (now : ℤ) (o : Option Job) (h : LeaseHead) (b : Bool) → Some h ≡ option_map head_of o → b ≡ frees now h → not b ≡ held_by now o
held_as now None h b e f = no_lease_there h e
held_as now (Some j) h b e f = ap not (f ∙ ap (frees now) (some_is h (head_of j) e))

pub leased_by : (now : ℤ) (v w : List ℕ) (h k : LeaseHead) (b : Bool) → Some h ≡ option_map head_of (job_of v) → Some k ≡ option_map head_of (job_of w) → b ≡ (raises now h k && bytes_eq (drop 16 w) (drop 16 v)) → b ≡ is_leased now v w
leased_by now v w h k b hv hw is = is ∙ by (job_of v) (job_of w) refl refl hv hw
  where
    payload_of : (u : List ℕ) (j : Job) → job_of u ≡ Some j → drop 16 u ≡ j.payload
    payload_of u j e = ap (λ (i : Job). i.payload) (is_read u j e).is

    by : (o p : Option Job) → job_of v ≡ o → job_of w ≡ p → Some h ≡ option_map head_of o → Some k ≡ option_map head_of p → (raises now h k && bytes_eq (drop 16 w) (drop 16 v)) ≡ is_next_lease now o p
    by None p ev ew eh ek = no_lease_there h eh
    by (Some j) None ev ew eh ek = no_lease_there k ek
    by (Some j) (Some i) ev ew eh ek = λ n. raises now (some_is h (head_of j) eh n) (some_is k (head_of i) ek n) && bytes_eq (payload_of w i ew n) (payload_of v j ev n)

-- ---- an added job

added_bytes : (p : List ℕ) → job_bytes (new_job p) ≡ no_lease ++ p
unfolding number_bytes
added_bytes p = refl

pub record IsNewJob (v : List ℕ) : Type 0 where
  pub is : v ≡ job_bytes (new_job (drop 16 v))
  pub short : length (drop 16 v) ≤ longest

pub new_job_is : (v : List ℕ) → is_new_job v ≡ true → IsNewJob v
new_job_is v e =
    let parts : ((nat_le 16 (length v) && nat_le (length v) (2 ^ 32 - 1)) ≡ true) × (bytes_eq (take 16 v) no_lease ≡ true) = and_both (nat_le 16 (length v) && nat_le (length v) (2 ^ 32 - 1)) (bytes_eq (take 16 v) no_lease) e in
    let lengths : (nat_le 16 (length v) ≡ true) × (nat_le (length v) (2 ^ 32 - 1) ≡ true) = and_both (nat_le 16 (length v)) (nat_le (length v) (2 ^ 32 - 1)) parts.0 in
    let most : length v ≤ 2 ^ 32 - 1 = le_is (length v) (2 ^ 32 - 1) lengths.1 in
    let left : length (drop 16 v) ≡ length v - 16 = length-drop 16 v in
    record {
      is = sym (take-append-drop 16 v) ∙ ap (λ xs. xs ++ drop 16 v) ((bytes_eq-Decides (take 16 v) no_lease).0 parts.1) ∙ sym (added_bytes (drop 16 v));
      short = omega arith;
    }

pub new_job_test : (p : List ℕ) → length p ≤ longest → is_new_job (job_bytes (new_job p)) ≡ true
new_job_test p h =
    let all : length (no_lease ++ p) ≡ 16 + length p = length-append no_lease p in
    let least : nat_le 16 (length (no_lease ++ p)) ≡ true = le_test 16 (length (no_lease ++ p)) (omega arith) in
    let most : nat_le (length (no_lease ++ p)) (2 ^ 32 - 1) ≡ true = le_test (length (no_lease ++ p)) (2 ^ 32 - 1) (omega arith) in
    ap is_new_job (added_bytes p) ∙ (λ i. (least i && most i) && bytes_eq no_lease no_lease) ∙ same_bytes no_lease
