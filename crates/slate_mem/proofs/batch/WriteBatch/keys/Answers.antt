use Rattle.std.proofs.Common.{◌∙◌, ap, sym, refl}
use Rattle.std.proofs.lemmas.Result.{IfOk-from_err}
use Rattle.slate_mem.specs.BatchModel.{BatchModel}
use Rattle.slate_mem.specs.Batch.{batch_keys}
use Rattle.slate_mem.proofs.KeptLaws.{keys_listed}
use Rattle.slate_types.proofs.Exits.{err_exit}
use Rattle.slate_mem.specs.KeyedOps.{entries_in}
use Rattle.slate_mem.proofs.batch.WriteBatch.keys.Goals as goal

pub returns-clause-keys : goal.returns-clause-keys
returns-clause-keys c =
    let w = c.self.invariant in
    let keys = sym (keys_listed (entries_in c.self.inside.ops) w.rising w.kept) ∙ ap (λ (b : BatchModel). batch_keys b.ops) c.self.view_is in
    c.in_ok-keys.ensures.keys ∙ keys

pub returns-in_err-keys : goal.returns-in_err-keys
returns-in_err-keys c =
    record {
      keys = IfOk-from_err c.from_residual.result _ c.from_residual.ensures.0;
      cause = err_exit c.from_residual.result _ c.from_residual.ensures.1 _ refl;
    }
