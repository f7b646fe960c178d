use Rattle.std.proofs.Common.{◌≡◌, ℕ, List, None, ◌∙◌, ap, sym, subst}
use Rattle.std.specs.List.{AllByRecursion}
use Rattle.std.proofs.lemmas.Result.{IfOk-from_err}
use Rattle.slate_mem.specs.declared.WriteOp.{WriteOp}
use Rattle.slate_mem.specs.BatchModel.{BatchModel, holds_merge}
use Rattle.slate_mem.specs.Batch.{kept_ops}
use Rattle.slate_mem.specs.Refusals.{op_refusal}
use Rattle.slate_mem.proofs.KeptLaws.{kept_whole, fine_listed, plain_listed}
use Rattle.slate_mem.specs.KeyedOps.{entries_in}
use Rattle.slate_mem.proofs.batch.WriteBatch.ops.Goals as goal

pub returns-clause-ops : goal.returns-clause-ops
returns-clause-ops c =
    c.in_ok-list.ensures.ops ∙ ap (λ (b : BatchModel). b.ops) c.self.view_is

pub returns-clause-kept : goal.returns-clause-kept
returns-clause-kept c =
    subst (λ (b : BatchModel). kept_ops b.ops ≡ b.ops) c.self.view_is (kept_whole (entries_in c.self.inside.ops) c.self.invariant.rising c.self.invariant.kept)

pub returns-clause-fine : goal.returns-clause-fine
returns-clause-fine c =
    subst (λ (b : BatchModel). AllByRecursion (λ (o : List ℕ × WriteOp). op_refusal o.0 o.1 ≡ None) b.ops) c.self.view_is (fine_listed (entries_in c.self.inside.ops) c.self.invariant.fine)

pub returns-clause-plain : goal.returns-clause-plain
returns-clause-plain c h =
    ap (λ (b : BatchModel). holds_merge b.ops) (sym c.self.view_is)
    ∙ plain_listed (entries_in c.self.inside.ops) (c.self.invariant.told (ap (λ (b : BatchModel). b.held_merge) c.self.view_is ∙ h))

-- where memory is wanting
pub returns-in_err-list-clause-kept : goal.returns-in_err-list-clause-kept
returns-in_err-list-clause-kept c =
    subst (λ (b : BatchModel). kept_ops b.ops ≡ b.ops) c.self.view_is (kept_whole (entries_in c.self.inside.ops) c.self.invariant.rising c.self.invariant.kept)

pub returns-in_err-list-clause-fine : goal.returns-in_err-list-clause-fine
returns-in_err-list-clause-fine c =
    subst (λ (b : BatchModel). AllByRecursion (λ (o : List ℕ × WriteOp). op_refusal o.0 o.1 ≡ None) b.ops) c.self.view_is (fine_listed (entries_in c.self.inside.ops) c.self.invariant.fine)

pub returns-in_err-list-clause-plain : goal.returns-in_err-list-clause-plain
returns-in_err-list-clause-plain c h =
    ap (λ (b : BatchModel). holds_merge b.ops) (sym c.self.view_is)
    ∙ plain_listed (entries_in c.self.inside.ops) (c.self.invariant.told (ap (λ (b : BatchModel). b.held_merge) c.self.view_is ∙ h))

pub returns-in_err-list-clause-ops : goal.returns-in_err-list-clause-ops
returns-in_err-list-clause-ops c = IfOk-from_err c.from_residual.result _ c.from_residual.ensures.0
