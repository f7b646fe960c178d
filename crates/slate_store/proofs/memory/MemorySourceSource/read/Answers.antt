use Rattle.std.proofs.Common.{◌≤◌, ap, subst, refl, Some}
use Rattle.std.proofs.lemmas.Result.{IfOk-from_err}
use Rattle.slate_types.specs.Faults.{Rose}
use Rattle.slate_store.proofs.Plans.{counts, fails, succeeds, ok_is_no_error}
use Rattle.slate_store.proofs.Steps.{on_err}
use Rattle.slate_store.proofs.memory.MemorySourceSource.read.Goals as goal

pub returns-in_err-step-clause-bound : goal.returns-in_err-step-clause-bound
returns-in_err-step-clause-bound c = IfOk-from_err c.from_residual.result _ c.from_residual.ensures.0

pub returns-in_err-step-clause-front : goal.returns-in_err-step-clause-front
returns-in_err-step-clause-front c = λ bytes told. IfOk-from_err c.from_residual.result _ c.from_residual.ensures.0

pub returns-in_err-step-clause-rest : goal.returns-in_err-step-clause-rest
returns-in_err-step-clause-rest c = λ bytes told. IfOk-from_err c.from_residual.result _ c.from_residual.ensures.0

pub returns-in_err-step-clause-failed : goal.returns-in_err-step-clause-failed
returns-in_err-step-clause-failed c = on_err c.from_residual.result (ap (λ s. Some s.left) c.self.view_is)

pub returns-in_err-step-clause-later : goal.returns-in_err-step-clause-later
returns-in_err-step-clause-later c = subst (λ s. s.faults ≤ c.step.new.self.faults.count) c.self.view_is c.in_err-step.ensures.later

pub returns-in_err-step-clause-still : goal.returns-in_err-step-clause-still
returns-in_err-step-clause-still c = IfOk-from_err c.from_residual.result _ c.from_residual.ensures.0

pub returns-in_err-step-clause-cause : goal.returns-in_err-step-clause-cause
returns-in_err-step-clause-cause c = on_err c.from_residual.result (subst (λ s. Rose s.faults c.step.new.self.faults.count) c.self.view_is c.in_err-step.ensures.cause)

pub returns-in_err-step-clause-counted : goal.returns-in_err-step-clause-counted
returns-in_err-step-clause-counted c = counts _ (ap (λ s. Some s.plan) c.self.view_is) c.in_err-step.ensures.failing c.in_err-step.ensures.counted

pub returns-in_err-step-clause-planned : goal.returns-in_err-step-clause-planned
returns-in_err-step-clause-planned c = fails _ (ap (λ s. Some s.plan) c.self.view_is) (c.in_err-step.ensures.planned.0 refl) c.from_residual.ensures.0

pub returns-clause-counted : goal.returns-clause-counted
returns-clause-counted c = counts _ (ap (λ s. Some s.plan) c.self.view_is) c.in_ok-step.ensures.failing c.in_ok-step.ensures.counted

pub returns-clause-planned : goal.returns-clause-planned
returns-clause-planned c = succeeds _ (ap (λ s. Some s.plan) c.self.view_is) (λ t. ok_is_no_error (c.in_ok-step.ensures.planned.1 t)) ok_is_no_error
