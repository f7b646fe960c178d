-- Which commits claim a job.
use Rattle.std.proofs.Common.{◌≡◌, ℕ, suc, ◌+◌, ◌-◌, ◌<◌, ◌≤◌, ◌^◌, ℤ, pos, negsuc, ◌+ℤ◌, int_le, int_lt, Bool, true, false, cond, ◌&&◌, nat_eq, nat_lt, List, [], ◌∷◌, ◌++◌, length, take, drop, bytes_eq, Option, Some, None, IfSome, refl, sym, ap, subst, ◌∙◌, arith, w64, SFits, length-append, to_z-of_z}
use Rattle.std.specs.Int.{cast_signed, cast_unsigned}
use Rattle.std.proofs.lemmas.Bool.Decides.{nat_tests}
use Rattle.std.proofs.lemmas.Int.{ints}
use Rattle.std.proofs.Math.Facts.{sfits_to_z}
use Rattle.std.proofs.lemmas.Slice.Eq.{bytes_eq-Decides}
use Rattle.slate_types.specs.declared.types.KeyValue.{KeyValue}
use Rattle.slate_mem.specs.declared.WriteOp.{WriteOp}
use Rattle.slate_mem.specs.Batch.{Ops}
use Rattle.slate_txn.specs.declared.event.TranscriptStep.{TranscriptStep}
use Rattle.slate_txn.specs.declared.event.TranscriptStep.TheVariants.{Get, Scan, Next, Seek, View, Own}
use Rattle.slate_queue.specs.Stored.{Job, job_key, id_of, number_bytes, number_of, job_bytes, job_of}
use Rattle.slate_queue.specs.Jobs.{is_free, last_number, last_moment, lease_end, leased}
use Rattle.slate_queue.specs.Commits.{put_of}
use Rattle.slate_queue.specs.Forms.{put_value, puts, keeps_put, has_job_key, first_row, is_next_lease, is_leased, IsRewritten, AreRewritten, takes, claims_op, claims_by, Claims}
use Rattle.slate_queue.proofs.Changes.{number_again, eight, front_eight, lease_again, id_again, same_bytes}
use Rattle.slate_queue.proofs.FormLaws.{never, and_both, keeps_put_decides, puts_decides, AreSmall, small_number, small_bytes, own_id, IsRead, is_read, job_long, first_same, is_same, lt_is, lt_test}

-- ---- moments

-- the milliseconds from a moment on to a later one
abbrev gap : ℤ → ℤ → ℕ
gap (pos a) (pos b) = b - a
gap (pos a) (negsuc b) = 0
gap (negsuc a) (pos b) = b + suc a
gap (negsuc a) (negsuc b) = a - b

goes_to : (now e : ℤ) → int_le now e ≡ true → now +ℤ pos (gap now e) ≡ e
goes_to (pos a) (pos b) h = let l : a ≤ b = grind (arith, nat_tests) in ap pos (omega arith)
goes_to (pos a) (negsuc b) h = never h
goes_to (negsuc a) (pos b) h = omega (arith, ints)
goes_to (negsuc a) (negsuc b) h = let l : b ≤ a = grind (arith, nat_tests) in omega (arith, ints)

gap_fits : (now e : ℤ) → SFits w64 now → SFits w64 e → gap now e < 2 ^ 64
gap_fits (pos a) (pos b) f g = let y : b < 2 ^ 63 = g.sfits in omega arith
gap_fits (pos a) (negsuc b) f g = omega arith
gap_fits (negsuc a) (pos b) f g = let x : a < 2 ^ 63 = f.sfits in let y : b < 2 ^ 63 = g.sfits in omega arith
gap_fits (negsuc a) (negsuc b) f g = let x : a < 2 ^ 63 = f.sfits in omega arith

none_later : (e : ℤ) → SFits w64 e → int_lt last_moment e ≡ false
none_later (pos b) f = let y : b < 2 ^ 63 = f.sfits in grind (arith, nat_tests)
none_later (negsuc b) f = refl

ends_there : (now e : ℤ) → SFits w64 e → int_le now e ≡ true → lease_end now (gap now e) ≡ e
ends_there now e f h = ap (λ z. cond (int_lt last_moment z) last_moment z) (goes_to now e h) ∙ ap (λ t. cond t last_moment e) (none_later e f)

pub sum_fits : (now : ℤ) (ms : ℕ) (z : ℤ) → SFits w64 now → now +ℤ pos ms ≡ z → int_lt last_moment z ≡ false → SFits w64 z
sum_fits now ms (pos n) f e h = record { sfits = grind (arith, nat_tests) }
sum_fits (pos a) ms (negsuc n) f e h = absurd (omega (arith, ints))
sum_fits (negsuc a) ms (negsuc n) f e h = let x : a < 2 ^ 63 = f.sfits in record { sfits = omega (arith, ints) }

pub end_fits : (now : ℤ) (ms : ℕ) → SFits w64 now → SFits w64 (lease_end now ms)
end_fits now ms f = by (int_lt last_moment (now +ℤ pos ms)) refl
  where
    by : (t : Bool) → int_lt last_moment (now +ℤ pos ms) ≡ t → SFits w64 (cond t last_moment (now +ℤ pos ms))
    by true e = record { sfits = omega arith }
    by false e = sum_fits now ms (now +ℤ pos ms) f refl e

not_before : (now : ℤ) (ms : ℕ) → int_le now (now +ℤ pos ms) ≡ true
not_before (pos a) ms = grind (arith, nat_tests)
not_before (negsuc a) ms = grind (arith, ints)

up_to_last : (now : ℤ) → SFits w64 now → int_le now last_moment ≡ true
up_to_last (pos a) f = let x : a < 2 ^ 63 = f.sfits in grind (arith, nat_tests)
up_to_last (negsuc a) f = refl

ends_later : (now : ℤ) (ms : ℕ) → SFits w64 now → int_le now (lease_end now ms) ≡ true
ends_later now ms f = by (int_lt last_moment (now +ℤ pos ms))
  where
    by : (t : Bool) → int_le now (cond t last_moment (now +ℤ pos ms)) ≡ true
    by true = up_to_last now f
    by false = not_before now ms

signed_fits : (n : ℕ) → n < 2 ^ 64 → SFits w64 (cast_signed w64 n)
signed_fits n h = sfits_to_z (record { fits = h })

unsigned_fits : (z : ℤ) → SFits w64 z → cast_unsigned w64 z < 2 ^ 64
unsigned_fits (pos n) f = let x : n < 2 ^ 63 = f.sfits in omega arith
unsigned_fits (negsuc n) f = let x : n < 2 ^ 63 = f.sfits in omega arith

-- ---- the job under its next lease

behind_eight : (n : ℕ) (xs : List ℕ) → drop 8 (number_bytes n ++ xs) ≡ xs
unfolding number_bytes
behind_eight n xs = refl

behind_sixteen : (m n : ℕ) (xs : List ℕ) → drop 16 (number_bytes m ++ (number_bytes n ++ xs)) ≡ xs
unfolding number_bytes
behind_sixteen m n xs = refl

pub job_again : (j : Job) → j.lease < 2 ^ 64 → SFits w64 j.ends → job_of (job_bytes j) ≡ Some j
job_again j h f = job_long (job_bytes j) long ∙ ap Some (λ i. record { lease = lease_again j h i; ends = end i; payload = behind_sixteen j.lease bits j.payload i })
  where
    bits : ℕ
    bits = cast_unsigned w64 j.ends

    first : length (job_bytes j) ≡ length (number_bytes j.lease) + length (number_bytes bits ++ j.payload)
    first = length-append (number_bytes j.lease) (number_bytes bits ++ j.payload)

    second : length (number_bytes bits ++ j.payload) ≡ length (number_bytes bits) + length j.payload
    second = length-append (number_bytes bits) j.payload

    long : 16 ≤ length (job_bytes j)
    long = let a : length (number_bytes j.lease) ≡ 8 = eight j.lease in let b : length (number_bytes bits) ≡ 8 = eight bits in let c = first in let d = second in omega arith

    end : cast_signed w64 (number_of (take 8 (drop 8 (job_bytes j)))) ≡ j.ends
    end =
        ap (λ xs. cast_signed w64 (number_of (take 8 xs))) (behind_eight j.lease (number_bytes bits ++ j.payload))
        ∙ ap (λ xs. cast_signed w64 (number_of xs)) (front_eight bits j.payload)
        ∙ ap (cast_signed w64) (number_again bits (unsigned_fits j.ends f)) ∙ to_z-of_z f

record IsLeased (now : ℤ) (v w : List ℕ) : Type 0 where
  job : Job
  stands : job_of v ≡ Some job
  free : is_free now job ≡ true
  left : job.lease < last_number
  ms : ℕ
  fits : ms < 2 ^ 64
  is : w ≡ job_bytes (leased now ms job)

leased_is : (now : ℤ) (v w : List ℕ) → SFits w64 now → IsRewritten w → is_leased now v w ≡ true → IsLeased now v w
leased_is now v w f again e = by (job_of v) (job_of w) refl refl e
  where
    small_end : (k : Job) → w ≡ job_bytes k → AreSmall (take 8 (drop 8 w))
    small_end k is =
        let bits : ℕ = cast_unsigned w64 k.ends in
        let there : take 8 (drop 8 w) ≡ number_bytes bits = ap (λ xs. take 8 (drop 8 xs)) is ∙ ap (take 8) (behind_eight k.lease (number_bytes bits ++ k.payload)) ∙ front_eight bits k.payload in
        subst AreSmall (sym there) (small_bytes bits)

    of_jobs : (j k : Job) → job_of v ≡ Some j → job_of w ≡ Some k → is_next_lease now (Some j) (Some k) ≡ true → IsLeased now v w
    of_jobs j k stands new t =
        let a : Bool = is_free now j in
        let b : Bool = nat_lt j.lease last_number in
        let c : Bool = nat_eq k.lease (j.lease + 1) in
        let d : Bool = int_le now k.ends in
        let x = and_both (a && (b && c) && d) (bytes_eq k.payload j.payload) t in
        let y = and_both (a && (b && c)) d x.0 in
        let z = and_both a (b && c) y.0 in
        let u = and_both b c z.1 in
        let read : IsRead w k = is_read w k new in
        let bits : List ℕ = take 8 (drop 8 w) in
        let fit : SFits w64 k.ends = subst (λ (o : Job). SFits w64 o.ends) read.is (signed_fits (number_of bits) (small_number bits (small_end k (again k new)))) in
        let lease : k.lease ≡ j.lease + 1 = is_same k.lease (j.lease + 1) u.1 in
        let end : k.ends ≡ lease_end now (gap now k.ends) = sym (ends_there now k.ends fit y.1) in
        let payload : k.payload ≡ j.payload = (bytes_eq-Decides k.payload j.payload).0 x.1 in
        record {
          job = j;
          stands = stands;
          free = z.0;
          left = lt_is j.lease last_number u.0;
          ms = gap now k.ends;
          fits = gap_fits now k.ends f fit;
          is = again k new ∙ (λ i. job_bytes (record { lease = lease i; ends = end i; payload = payload i }));
        }

    by : (o p : Option Job) → job_of v ≡ o → job_of w ≡ p → is_next_lease now o p ≡ true → IsLeased now v w
    by None p s n t = never t
    by (Some j) None s n t = never t
    by (Some j) (Some k) s n t = of_jobs j k s n t

leased_test : (now : ℤ) (v : List ℕ) (j : Job) (ms : ℕ) → SFits w64 now → job_of v ≡ Some j → is_free now j ≡ true → j.lease < last_number → is_leased now v (job_bytes (leased now ms j)) ≡ true
leased_test now v j ms f stands free left =
    (λ i. is_next_lease now (stands i) (job_again (leased now ms j) (omega arith) (end_fits now ms f) i))
    ∙ (λ i. free i && (lt_test j.lease last_number left i && same (j.lease + 1) i) && ends_later now ms f i && same_bytes j.payload i)
  where
    same : (a : ℕ) → nat_eq a a ≡ true
    same a = grind (arith, nat_tests)

-- ---- the operation

no_row : {A : Type 0} (row : KeyValue) → None ≡ Some row → A
no_row row e = cc

pub row_is : (step : TranscriptStep) (row : KeyValue) → first_row step ≡ Some row → step ≡ Next 0 (Some row)
row_is (Next n a) row e = by (nat_eq n 0) refl
  where
    by : (t : Bool) → nat_eq n 0 ≡ t → Next n a ≡ Next 0 (Some row)
    by true f = λ i. Next (is_same n 0 f i) ((sym (ap (λ b. cond b a None) f) ∙ e) i)
    by false f = no_row row (sym (ap (λ b. cond b a None) f) ∙ e)
row_is (Get k a) row e = no_row row e
row_is (Own k op) row e = no_row row e
row_is (Scan o r) row e = no_row row e
row_is (Seek n k) row e = no_row row e
row_is (View r) row e = no_row row e

-- what is known of a put's value
abbrev pub IsRewrittenPut : Option (List ℕ) → Type 0
IsRewrittenPut o = IfSome o IsRewritten

takes_tells : (now : ℤ) (row : KeyValue) (w key : List ℕ) (job : List ℕ × WriteOp) (last own : TranscriptStep) → SFits w64 now → IsRewritten w → last ≡ Next 0 (Some row) → takes now row (Some w) key job own ≡ true →
    Claims now (job ∷ []) (key ∷ []) last own
takes_tells now row w key job last own f again answered e =
    let a : Bool = is_leased now row.value w in
    let b : Bool = has_job_key row.key in
    let c : Bool = bytes_eq key row.key in
    let d : Bool = keeps_put key w job in
    let u = and_both a (b && c && (d && puts key w own)) e in
    let x = and_both (b && c) (d && puts key w own) u.1 in
    let y = and_both d (puts key w own) x.1 in
    let z = and_both b c x.0 in
    let l : IsLeased now row.value w = leased_is now row.value w f again u.0 in
    let same : key ≡ row.key = (bytes_eq-Decides key row.key).0 z.1 in
    record {
      row = row;
      answered = answered;
      id = id_of row.key;
      of_id = own_id row.key z.0;
      is_job = (bytes_eq-Decides row.key (job_key (id_of row.key))).0 z.0;
      job = l.job;
      stands = l.stands;
      free = l.free;
      left = l.left;
      ms = l.ms;
      fits = l.fits;
      kept = λ i. ((keeps_put_decides key w job).0 y.0 ∙ (λ j. (same j, put_of (l.is j)))) i ∷ [];
      keys = λ i. same i ∷ [];
      by = (puts_decides key w own).0 y.1 ∙ (λ j. Own (same j) (put_of (l.is j)));
    }

takes_passes : (now : ℤ) (job : List ℕ × WriteOp) (key : List ℕ) (last own : TranscriptStep) → SFits w64 now → (h : Claims now (job ∷ []) (key ∷ []) last own) → takes now h.row (put_value job.1) key job own ≡ true
takes_passes now job key last own f h =
    ap (λ (o : List ℕ × WriteOp). takes now h.row (put_value o.1) key job own) job_is
    ∙ (λ i. leased_test now h.row.value h.job h.ms f h.stands h.free h.left i && (own_key i && (bytes_eq-Decides key h.row.key).1 key_is i
    && ((keeps_put_decides key new job).1 (job_is ∙ (λ j. (sym key_is j, put_of new))) i && (puts_decides key new own).1 (h.by ∙ (λ j. Own (sym key_is j) (put_of new))) i)))
  where
    new : List ℕ
    new = job_bytes (leased now h.ms h.job)

    job_is : job ≡ (h.row.key, put_of new)
    job_is = first_same _ _ _ _ h.kept

    key_is : key ≡ h.row.key
    key_is = first_same _ _ _ _ h.keys

    own_key : has_job_key h.row.key ≡ true
    own_key = (bytes_eq-Decides h.row.key (job_key (id_of h.row.key))).1 (h.is_job ∙ ap job_key (sym (ap id_of h.is_job ∙ id_again h.id h.of_id)))

-- ---- the test of any commit

tells_op : (now : ℤ) (row : KeyValue) (ops : Ops) (tracked : List (List ℕ)) (last own : TranscriptStep) → SFits w64 now → AreRewritten ops → first_row last ≡ Some row → claims_op ops tracked now row own ≡ true → Claims now ops tracked last own
tells_op now row (job ∷ []) (key ∷ []) last own f small answered e = by (put_value job.1) small.0 e
  where
    by : (o : Option (List ℕ)) → IsRewrittenPut o → takes now row o key job own ≡ true → Claims now (job ∷ []) (key ∷ []) last own
    by None s t = never t
    by (Some w) s t = takes_tells now row w key job last own f s (row_is last row answered) t
tells_op now row (job ∷ []) [] last own f small answered e = never e
tells_op now row (job ∷ []) (j ∷ k ∷ ks) last own f small answered e = never e
tells_op now row [] tracked last own f small answered e = never e
tells_op now row (o ∷ p ∷ os) tracked last own f small answered e = never e

pub claims_tell : (now : ℤ) (ops : Ops) (tracked : List (List ℕ)) (last own : TranscriptStep) → SFits w64 now → AreRewritten ops → claims_by now (first_row last) ops tracked own ≡ true → Claims now ops tracked last own
claims_tell now ops tracked last own f small = by (first_row last) refl
  where
    by : (o : Option KeyValue) → first_row last ≡ o → claims_by now o ops tracked own ≡ true → Claims now ops tracked last own
    by None e t = never t
    by (Some row) e t = tells_op now row ops tracked last own f small e t

no_others : (now : ℤ) (ops : Ops) (tracked : List (List ℕ)) (last own : TranscriptStep) → Claims now ops tracked last own → (length ops ≡ 1) × (length tracked ≡ 1)
no_others now ops tracked last own h = (ap length h.kept, ap length h.keys)

passes_op : (now : ℤ) (ops : Ops) (tracked : List (List ℕ)) (last own : TranscriptStep) → SFits w64 now → (h : Claims now ops tracked last own) → claims_op ops tracked now h.row own ≡ true
passes_op now (job ∷ []) (key ∷ []) last own f h = takes_passes now job key last own f h
passes_op now (job ∷ []) [] last own f h = let l = (no_others _ _ _ _ _ h).1 in absurd (omega arith)
passes_op now (job ∷ []) (j ∷ k ∷ ks) last own f h = let l = (no_others _ _ _ _ _ h).1 in absurd (omega arith)
passes_op now [] tracked last own f h = let l = (no_others _ _ _ _ _ h).0 in absurd (omega arith)
passes_op now (o ∷ p ∷ os) tracked last own f h = let l = (no_others _ _ _ _ _ h).0 in absurd (omega arith)

pub claims_pass : (now : ℤ) (ops : Ops) (tracked : List (List ℕ)) (last own : TranscriptStep) → SFits w64 now → Claims now ops tracked last own → claims_by now (first_row last) ops tracked own ≡ true
claims_pass now ops tracked last own f h = ap (λ s. claims_by now (first_row s) ops tracked own) h.answered ∙ passes_op now ops tracked last own f h
