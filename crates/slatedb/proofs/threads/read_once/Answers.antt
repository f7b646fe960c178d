use Rattle.std.proofs.Common.{refl}
use Rattle.slate_shared.proofs.Gets.{get_still}
use Rattle.slatedb.proofs.ReadBack.{read_by}
use Rattle.slatedb.proofs.threads.read_once.Goals as goal

pub returns-clause-read : goal.returns-clause-read
returns-clause-read g c =
    let begun = c.in_ok-txn.ensures.begun in
    let ended = c.rollback.ensures.seen in
    read_by _ c.args.key.now c.args.pass.now c.rollback.new.pass c.in_ok-txn.txn c.get_key_value-found.new.self _ _ begun.2.0 ended.0 _ _ c.get_key_value-found.result
    refl c.get_key_value-found.ensures.read begun.1 begun.2.3 begun.2.1 begun.2.2 ended.2 ended.3

pub returns-clause-still : goal.returns-clause-still
returns-clause-still g c = get_still _ _ _ _ _ _ _ _ c.get_key_value-found.result c.get_key_value-found.ensures.read
