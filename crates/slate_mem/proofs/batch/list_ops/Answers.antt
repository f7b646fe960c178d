use Rattle.std.proofs.Common.{◌∙◌, ◌++◌, ap, sym, append_assoc}
use Rattle.std.proofs.lemmas.Result.{IfOk-from_err}
use Rattle.slate_mem.specs.Kept.{tagged, listed}
use Rattle.slate_mem.proofs.batch.list_ops.Goals as goal

pub loop-key-preserved : goal.loop-key-preserved
loop-key-preserved c =
    let before = c.loop-key.all.items in
    let left = listed c.next.new.self in
    ap (λ os. os ++ left) c.in_ok-add_ops.ensures.ops
    ∙ append_assoc before (tagged c.in-Some.key.now c.as_slice.result.now) left
    ∙ ap (λ os. before ++ (tagged c.in-Some.key.now os ++ left)) c.as_slice.ensures
    ∙ ap (λ es. before ++ listed es) (sym c.in-Some.ensures.steps)
    ∙ c.loop-key.invariant

pub returns-in_err-all : goal.returns-in_err-all
returns-in_err-all c =
    record {
      ops = IfOk-from_err c.from_residual.result _ c.from_residual.ensures.0;
    }

pub returns-in_err-add_ops : goal.returns-in_err-add_ops
returns-in_err-add_ops c =
    record {
      ops = IfOk-from_err c.from_residual-in_err-add_ops.result _ c.from_residual-in_err-add_ops.ensures.0;
    }
