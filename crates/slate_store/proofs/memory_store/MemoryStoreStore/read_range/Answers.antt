use Rattle.std.proofs.Common.{◌∙◌, ◌≤◌, ap, subst, refl, Some, Err, inl, inr}
use Rattle.std.proofs.lemmas.Result.{err_from_is_err_and, IfOk-from_err}
use Rattle.slate_types.specs.Faults.{Rose}
use Rattle.slate_store.proofs.Plans.{counts, fails, succeeds, ok_is_no_error, ok_is_no_failure}
use Rattle.slate_store.proofs.Steps.{on_err, no_fault}
use Rattle.slate_store.proofs.memory_store.MemoryStoreStore.read_range.Goals as goal

pub returns-in_err-step : goal.returns-in_err-step
returns-in_err-step c =
    let p = err_from_is_err_and c.from_residual.result c.from_residual.ensures.1 in
    record {
      answer = λ os is. IfOk-from_err c.from_residual.result _ c.from_residual.ensures.0;
      objects = ap (λ s. Some s.objects) c.self.view_is;
      act = IfOk-from_err c.from_residual.result _ c.from_residual.ensures.0;
      refused_act = on_err c.from_residual.result refl;
      later = subst (λ s. s.faults ≤ c.step.new.self.faults.count) c.self.view_is c.in_err-step.ensures.later;
      still = inl (p.1 ∙ ap Err p.2);
      cause = λ e. subst (λ s. Rose s.faults c.step.new.self.faults.count) c.self.view_is c.in_err-step.ensures.cause;
      counted = counts _ (ap (λ s. Some s.plan) c.self.view_is) c.in_err-step.ensures.failing c.in_err-step.ensures.counted;
      planned = fails _ (ap (λ s. Some s.plan) c.self.view_is) (c.in_err-step.ensures.planned.0 refl) (p.1 ∙ ap Err p.2);
    }

pub returns-in_err-read_near : goal.returns-in_err-read_near
returns-in_err-read_near c =
    record {
      answer = λ os is. IfOk-from_err c.from_residual-in_err-read_near.result _ c.from_residual-in_err-read_near.ensures.0;
      objects = ap (λ s. Some s.objects) c.self.view_is;
      act = IfOk-from_err c.from_residual-in_err-read_near.result _ c.from_residual-in_err-read_near.ensures.0;
      refused_act = on_err c.from_residual-in_err-read_near.result refl;
      later = subst (λ s. s.faults ≤ c.step.new.self.faults.count) c.self.view_is c.in_ok-step.ensures.later;
      still = inr (c.in_ok-step.ensures.still ∙ ap (λ s. s.faults) c.self.view_is);
      cause = λ e. absurd (no_fault c.from_residual-in_err-read_near.result c.from_residual-in_err-read_near.ensures.1 e);
      counted = counts _ (ap (λ s. Some s.plan) c.self.view_is) c.in_ok-step.ensures.failing c.in_ok-step.ensures.counted;
      planned = succeeds _ (ap (λ s. Some s.plan) c.self.view_is) (λ t. ok_is_no_error (c.in_ok-step.ensures.planned.1 t)) (no_fault c.from_residual-in_err-read_near.result c.from_residual-in_err-read_near.ensures.1);
    }

pub returns-clause-counted : goal.returns-clause-counted
returns-clause-counted c = counts _ (ap (λ s. Some s.plan) c.self.view_is) c.in_ok-step.ensures.failing c.in_ok-step.ensures.counted

pub returns-clause-planned : goal.returns-clause-planned
returns-clause-planned c = succeeds _ (ap (λ s. Some s.plan) c.self.view_is) (λ t. ok_is_no_error (c.in_ok-step.ensures.planned.1 t)) ok_is_no_failure
