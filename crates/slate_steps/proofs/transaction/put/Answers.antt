use Rattle.std.proofs.Common.{rules, ◌≡◌, ◌∙◌, ap}
use Rattle.slate_types.specs.declared.config.PutOptions.{PutOptions}
use Rattle.slate_types.specs.declared.config.Ttl.TheVariants.{Default}
use Rattle.slate_mem.specs.BatchModel.{plain_put}
use Rattle.slate_mem.specs.declared.WriteOp.TheVariants.{Put}
use Rattle.slate_txn.specs.Step.{with_op}
use Rattle.slate_db.specs.Operated.{operated}
use Rattle.slate_steps.proofs.Reading.{on_ok_map}
use Rattle.slate_steps.proofs.Taking.{within_operated}
use Rattle.slate_steps.proofs.transaction.put.Goals as goal

pub returns-clause-within : goal.returns-clause-within
returns-clause-within c = λ d level ts h.
    let plain : ◌≡◌ {A = PutOptions} c.default.result (record { ttl = Default }) = search rules in
    on_ok_map c.put.result _ _
    (λ is. within_operated d c.args.core.now c.put.new.self c.args.id.now level ts c.args.key.now (plain_put c.args.value.now)
    (is ∙ ap (λ (o : PutOptions). operated c.args.core.now c.args.id.now (with_op c.args.key.now (Put c.args.value.now o))) plain) c.put.ensures.kept h) c.put.ensures.taken

pub returns-clause-open : goal.returns-clause-open
returns-clause-open c = (c.put.ensures.stay c.args.id.now).transaction c.requires
