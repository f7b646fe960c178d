use Rattle.std.proofs.Common.{◌∙◌, ◌≤◌, ap, subst, refl, Some}
use Rattle.std.proofs.lemmas.Result.{IfOk-from_err}
use Rattle.slate_types.specs.Faults.{Rose}
use Rattle.slate_store.proofs.Plans.{counts, fails_anyhow, needs_none, ok_is_no_error}
use Rattle.slate_store.proofs.Steps.{on_err}
use Rattle.slate_store.proofs.memory.MemorySinkSink.write.Goals as goal

pub returns-in_err-step : goal.returns-in_err-step
returns-in_err-step c =
    record {
      bound = IfOk-from_err c.from_residual.result _ c.from_residual.ensures.0;
      some = λ more. IfOk-from_err c.from_residual.result _ c.from_residual.ensures.0;
      appended = λ before told. IfOk-from_err c.from_residual.result _ c.from_residual.ensures.0;
      failed = on_err c.from_residual.result (ap (λ s. Some s.content) c.self.view_is);
      later = subst (λ s. s.faults ≤ c.step.new.self.faults.count) c.self.view_is c.in_err-step.ensures.later;
      still = IfOk-from_err c.from_residual.result _ c.from_residual.ensures.0;
      cause = on_err c.from_residual.result (subst (λ s. Rose s.faults c.step.new.self.faults.count) c.self.view_is c.in_err-step.ensures.cause);
      counted = counts _ (ap (λ s. Some s.plan) c.self.view_is) c.in_err-step.ensures.failing c.in_err-step.ensures.counted;
      planned = fails_anyhow c.from_residual.ensures.0;
    }

pub returns-in-Ok-clause-counted : goal.returns-in-Ok-clause-counted
returns-in-Ok-clause-counted c = counts _ (ap (λ s. Some s.plan) c.self.view_is) c.in_ok-step.ensures.failing c.in_ok-step.ensures.counted

pub returns-in-Ok-clause-planned : goal.returns-in-Ok-clause-planned
returns-in-Ok-clause-planned c = needs_none _ (ap (λ s. Some s.plan) c.self.view_is) (λ t. ok_is_no_error (c.in_ok-step.ensures.planned.1 t))

pub returns-in-Err-clause-counted : goal.returns-in-Err-clause-counted
returns-in-Err-clause-counted c = counts _ (ap (λ s. Some s.plan) c.self.view_is) (c.raise.ensures.failing ∙ c.in_ok-step.ensures.failing) (c.raise.ensures.calls ∙ c.in_ok-step.ensures.counted)

pub returns-in-Err-clause-planned : goal.returns-in-Err-clause-planned
returns-in-Err-clause-planned c = fails_anyhow refl
