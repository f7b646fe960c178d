use Rattle.std.specs.Prelude.{OnOk}
use Rattle.slate_mem.specs.BatchModel.{plain_put}
use Rattle.slate_mem.specs.declared.WriteOp.TheVariants.{Delete}
use Rattle.slate_steps.proofs.Reading.{on_ok_map}
use Rattle.slate_steps.proofs.Taking.{within_operated}
use Rattle.slate_steps.proofs.transaction.delete.Goals as goal

pub returns-clause-within : goal.returns-clause-within
returns-clause-within c = λ d level ts h.
    on_ok_map c.delete.result _ _ (λ is. within_operated d c.args.core.now c.delete.new.self c.args.id.now level ts c.args.key.now Delete is c.delete.ensures.kept h) c.delete.ensures.taken

pub returns-clause-open : goal.returns-clause-open
returns-clause-open c = (c.delete.ensures.stay c.args.id.now).transaction c.requires
