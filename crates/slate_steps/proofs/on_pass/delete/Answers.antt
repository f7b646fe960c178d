use Rattle.std.proofs.Common.{refl}
use Rattle.slate_mem.specs.declared.WriteOp.TheVariants.{Delete}
use Rattle.slate_steps.proofs.OnPass.{own_attempt, own_same, own_vouched}
use Rattle.slate_steps.proofs.on_pass.delete.Goals as goal

pub returns-clause-within : goal.returns-clause-within
returns-clause-within g c = λ from level ts h. own_attempt c.args.txn.now c.delete.new.self c.args.key.now Delete c.delete.result c.delete.ensures.taken g.P.Parts.options from level ts refl h

pub returns-clause-sees : goal.returns-clause-sees
returns-clause-sees g c = λ v. own_vouched c.args.txn.now c.delete.new.self c.args.key.now Delete c.delete.result c.delete.ensures.taken g.P.Parts.options g.P.Parts.meaning c.delete.ensures.same v

pub returns-clause-more : goal.returns-clause-more
returns-clause-more g c = own_same c.args.txn.now c.delete.new.self c.args.key.now Delete c.delete.result c.delete.ensures.taken c.delete.ensures.same
