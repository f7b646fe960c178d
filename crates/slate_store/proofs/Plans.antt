-- A call over a plan: whether it was to fail, and what it leaves of the plan.
use Rattle.std.proofs.Common.{◌≡◌, ℕ, List, Option, Some, None, Result, Ok, Err, ap, subst, sym, ◌∙◌}
use Rattle.std.specs.Prelude.{IsTrue, IsOkUnless, true, false}
use Rattle.std.proofs.lemmas.Bool.{true≢false}
use Rattle.slate_store.specs.declared.store.StoreError.{StoreError}
use Rattle.slate_store.specs.declared.store.StoreError.TheVariants.{OutOfMemory, Failed}
use Rattle.slate_store.specs.Plan.{Plan, next_call, is_planned, CountsCall, FailsAsPlanned, FailsWherePlanned}

abbrev the_plan : Plan → Option Plan → Plan
the_plan plan None = plan
the_plan plan (Some told) = told

same_plan : (plan told : Plan) (before : Option Plan) → Some plan ≡ before → before ≡ Some told → plan ≡ told
same_plan plan told before is tells = ap (the_plan plan) (is ∙ tells)

pub counts : (plan : Plan) {before : Option Plan} {failing : List ℕ} {calls : ℕ} → Some plan ≡ before → failing ≡ plan.failing → calls ≡ next_call plan.calls →
    CountsCall before (Some (record { failing = failing; calls = calls }))
counts plan {before} is same more told tells = rw (same, more) (ap (λ (p : Plan). Some (record p { calls = next_call p.calls })) (same_plan plan told before is tells))

pub fails : (plan : Plan) {before : Option Plan} {Fails : Type 0} → Some plan ≡ before → IsTrue (is_planned plan.failing (next_call plan.calls)) → Fails → FailsAsPlanned before Fails
fails plan {before} is planned failed told tells =
    (λ _. subst (λ (p : Plan). IsTrue (is_planned p.failing (next_call p.calls))) (same_plan plan told before is tells) planned, λ _. failed)

unplanned : (plan told : Plan) (before : Option Plan) → Some plan ≡ before → before ≡ Some told → (IsTrue (is_planned plan.failing (next_call plan.calls)) → ⊥) → IsTrue (is_planned told.failing (next_call told.calls)) → ⊥
unplanned plan told before is tells none planned = none (subst (λ (p : Plan). IsTrue (is_planned p.failing (next_call p.calls))) (sym (same_plan plan told before is tells)) planned)

pub succeeds : (plan : Plan) {before : Option Plan} {Fails : Type 0} → Some plan ≡ before → (IsTrue (is_planned plan.failing (next_call plan.calls)) → ⊥) → (Fails → ⊥) → FailsAsPlanned before Fails
succeeds plan {before} is none never told tells = (λ failed. absurd (never failed), λ planned. absurd (unplanned plan told before is tells none planned))

pub fails_anyhow : {before : Option Plan} {Fails : Type 0} → Fails → FailsWherePlanned before Fails
fails_anyhow failed told tells planned = failed

pub needs_none : (plan : Plan) {before : Option Plan} {Fails : Type 0} → Some plan ≡ before → (IsTrue (is_planned plan.failing (next_call plan.calls)) → ⊥) → FailsWherePlanned before Fails
needs_none plan {before} is none told tells planned = absurd (unplanned plan told before is tells none planned)

pub ok_is_no_error : false ≡ true → ⊥
ok_is_no_error is = true≢false (sym is)

pub ok_is_no_failure : {T : Type 0} {x : T} → Ok x ≡ Err Failed → ⊥
ok_is_no_failure e = cc

pub wants_memory : {T : Type 0} (r : Result T StoreError) → IsOkUnless r OutOfMemory → r ≡ Err Failed → ⊥
wants_memory (Ok x) cause e = cc
wants_memory (Err x) cause e = cc
