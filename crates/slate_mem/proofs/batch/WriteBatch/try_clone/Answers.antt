use Rattle.std.proofs.Common.{◌∙◌, ap, rules, refl}
use Rattle.std.proofs.lemmas.Result.{IfOk-from_err}
use Rattle.slate_mem.specs.contracts.WriteOpClone.TheImpl.{ghosts}
use Rattle.slate_mem.specs.BatchModel.{BatchModel}
use Rattle.slate_mem.proofs.KeptLaws.{AreSame, copied_listed, copied_whole}
use Rattle.slate_types.proofs.Exits.{err_exit}
use Rattle.slate_mem.proofs.batch.WriteBatch.try_clone.Goals as goal

same_op : AreSame ghosts.is_clone
same_op a b h = search rules

pub invariant_of-result : goal.invariant_of-result
invariant_of-result c = copied_whole ghosts.is_clone same_op _ _ _ c.in_ok-try_clone.ensures.copy c.self.invariant

pub returns-clause-copy : goal.returns-clause-copy
returns-clause-copy c =
    let ops = copied_listed ghosts.is_clone same_op _ _ c.in_ok-try_clone.ensures.copy in
    ap (λ o. let b : BatchModel = record { ops = o; held_merge = c.self.inside.has_merge_ops } in b) ops ∙ c.self.view_is

pub returns-in_err-try_clone : goal.returns-in_err-try_clone
returns-in_err-try_clone c =
    record {
      copy = IfOk-from_err c.from_residual.result _ c.from_residual.ensures.0;
      cause = err_exit c.from_residual.result _ c.from_residual.ensures.1 _ refl;
    }
