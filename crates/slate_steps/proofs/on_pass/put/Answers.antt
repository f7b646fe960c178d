use Rattle.std.proofs.Common.{rules, ◌≡◌, refl}
use Rattle.slate_types.specs.declared.config.PutOptions.{PutOptions}
use Rattle.slate_types.specs.declared.config.Ttl.TheVariants.{Default}
use Rattle.slate_mem.specs.BatchModel.{plain_put}
use Rattle.slate_steps.proofs.OnPass.{own_attempt, own_same, own_vouched, put_plainly}
use Rattle.slate_steps.proofs.on_pass.put.Goals as goal

pub returns-clause-within : goal.returns-clause-within
returns-clause-within g c = λ from level ts h.
    let plain : ◌≡◌ {A = PutOptions} c.default.result (record { ttl = Default }) = search rules in
    let taken = put_plainly c.args.txn.now c.put_with_options.new.self c.args.key.now c.args.value.now c.default.result c.put_with_options.result plain c.put_with_options.ensures.taken in
    own_attempt c.args.txn.now c.put_with_options.new.self c.args.key.now (plain_put c.args.value.now) c.put_with_options.result taken g.P.Parts.options from level ts refl h

pub returns-clause-sees : goal.returns-clause-sees
returns-clause-sees g c = λ v.
    let plain : ◌≡◌ {A = PutOptions} c.default.result (record { ttl = Default }) = search rules in
    let taken = put_plainly c.args.txn.now c.put_with_options.new.self c.args.key.now c.args.value.now c.default.result c.put_with_options.result plain c.put_with_options.ensures.taken in
    own_vouched c.args.txn.now c.put_with_options.new.self c.args.key.now (plain_put c.args.value.now) c.put_with_options.result taken g.P.Parts.options g.P.Parts.meaning c.put_with_options.ensures.same v

pub returns-clause-more : goal.returns-clause-more
returns-clause-more g c =
    let plain : ◌≡◌ {A = PutOptions} c.default.result (record { ttl = Default }) = search rules in
    let taken = put_plainly c.args.txn.now c.put_with_options.new.self c.args.key.now c.args.value.now c.default.result c.put_with_options.result plain c.put_with_options.ensures.taken in
    own_same c.args.txn.now c.put_with_options.new.self c.args.key.now (plain_put c.args.value.now) c.put_with_options.result taken c.put_with_options.ensures.same
