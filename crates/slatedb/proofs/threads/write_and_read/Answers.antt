use Rattle.std.proofs.Common.{◌∙◌, ap}
use Rattle.slate_mem.specs.BatchModel.{BatchModel, plain_put, with_op}
use Rattle.slatedb.specs.ReadBack.{IsAllOwn}
use Rattle.slatedb.proofs.threads.write_and_read.Goals as goal

pub returns : goal.returns
returns g c =
    let new = c.in_ok-db.ensures.ok in
    let batch = c.in_ok-put.ensures.taken ∙ ap (λ (b : BatchModel). with_op b c.args.key.now (plain_put c.args.value.now)) c.new-batch.ensures in
    let all : IsAllOwn c.store_and_read-found.new.pass c.close-core.result.events = record { begins = c.close-core.ensures.seen; owns = c.close-core.ensures.whole (c.store_and_read-found.ensures.same.1 ∙ new.1) } in
    record {
      found = λ os told. c.store_and_read-found.ensures.found c.args.value.now c.close-core.result.events os batch all told;
      stored = λ os told. c.store_and_read-found.ensures.stored c.args.value.now c.close-core.result.events os batch all told;
      still = c.store_and_read-found.ensures.still;
    }
