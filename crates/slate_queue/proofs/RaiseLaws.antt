-- The put of a claim: the end of the lease, and the payload.
use Rattle.std.proofs.Common.{◌≡◌, ℕ, ◌-◌, ◌^◌, ◌<◌, ◌≤◌, ℤ, pos, negsuc, ◌+ℤ◌, Bool, true, false, cond, min, nat_lt, List, [], ◌∷◌, ◌++◌, length, drop, refl, ap, subst, ◌∙◌, arith, SFits, of_z, to_z, w64, length-drop}
use Rattle.std.specs.Prelude.{int_lt, slice_range}
use Rattle.std.specs.Int.{saturate_signed}
use Rattle.std.proofs.lemmas.Bool.Decides.{nat_tests}
use Rattle.std.proofs.lemmas.Int.{to_z-of_z}
use Rattle.std.proofs.lemmas.List.{take_all}
use Rattle.slate_types.specs.declared.config.IsolationLevel.{IsolationLevel}
use Rattle.slate_types.specs.declared.types.KeyValue.{KeyValue}
use Rattle.slate_txn.specs.declared.event.TranscriptStep.{TranscriptStep}
use Rattle.slate_db.specs.Model.{CoreModel}
use Rattle.slate_steps.specs.Steps.{IsWithin}
use Rattle.slate_queue.specs.Stored.{job_bytes}
use Rattle.slate_queue.specs.Jobs.{last_moment, lease_end}
use Rattle.slate_queue.specs.Commits.{put_of}
use Rattle.slate_queue.specs.CallSteps.{own_steps}
use Rattle.slate_queue.proofs.ClaimForm.{end_fits, sum_fits}

pub saturated : (now : ℤ) (ms : ℕ) → SFits w64 now → saturate_signed w64 (now +ℤ pos ms) ≡ lease_end now ms
saturated now ms f = by (now +ℤ pos ms) refl
  where
    by : (z : ℤ) → now +ℤ pos ms ≡ z → saturate_signed w64 z ≡ cond (int_lt last_moment z) last_moment z
    by (pos n) e = on (nat_lt (2 ^ 63 - 1) n) refl
      where
        on : (t : Bool) → nat_lt (2 ^ 63 - 1) n ≡ t → pos (min n (2 ^ 63 - 1)) ≡ cond t last_moment (pos n)
        on true h = let above : 2 ^ 63 - 1 < n = grind (arith, nat_tests) in let least : min n (2 ^ 63 - 1) ≡ 2 ^ 63 - 1 = omega arith in ap pos least
        on false h = let within : n ≤ 2 ^ 63 - 1 = grind (arith, nat_tests) in let least : min n (2 ^ 63 - 1) ≡ n = omega arith in ap pos least
    by (negsuc n) e =
        let fits : SFits w64 (negsuc n) = sum_fits now ms (negsuc n) f e refl in
        let below : n < 2 ^ 63 = fits.sfits in
        let least : min n (2 ^ 63 - 1) ≡ n = omega arith in
        ap negsuc least

pub whole_slice : (v : List ℕ) (n : ℕ) → slice_range v n (length v) ≡ drop n v
whole_slice v n = take_all (length v - n) (drop n v) (let left : length (drop n v) ≡ length v - n = length-drop n v in omega arith)

-- the steps with the lease's end as the model has it
pub raised_within : (c d : CoreModel) (id : List ℕ) (level : IsolationLevel) (ts : List TranscriptStep) (row : KeyValue) (lease : ℕ) (y z : ℤ) → y ≡ z →
    IsWithin c id level (ts ++ own_steps ((row.key, put_of (job_bytes (record { lease = lease; ends = y; payload = drop 16 row.value }))) ∷ [])) d →
    IsWithin c id level (ts ++ own_steps ((row.key, put_of (job_bytes (record { lease = lease; ends = z; payload = drop 16 row.value }))) ∷ [])) d
raised_within c d id level ts row lease y z same h = subst (λ (ends : ℤ). IsWithin c id level (ts ++ own_steps ((row.key, put_of (job_bytes (record { lease = lease; ends = ends; payload = drop 16 row.value }))) ∷ [])) d) same h

-- the end that was computed, as it is handed on
pub ends_of : (now : ℤ) (ms : ℕ) (y ends : ℤ) → SFits w64 now → y ≡ now → ends ≡ saturate_signed w64 (y +ℤ pos ms) → to_z w64 (of_z w64 ends) ≡ lease_end now ms
ends_of now ms y ends fits same is =
    let whole : ends ≡ lease_end now ms = is ∙ ap (λ (z : ℤ). saturate_signed w64 (z +ℤ pos ms)) same ∙ saturated now ms fits in
    ap (λ (z : ℤ). to_z w64 (of_z w64 z)) whole ∙ to_z-of_z w64 (lease_end now ms) (end_fits now ms fits)
