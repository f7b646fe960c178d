use Rattle.slate_pass_tests.proofs.Scanning.{same_next}
use Rattle.slate_pass_tests.proofs.operations.is_next.Goals as goal

pub next-requires : goal.next-requires
next-requires c = (c.requires.id, c.requires.number)

pub returns : goal.returns
returns c =
    let e = c.next.ensures in
    let it = c.args.it.now in
    record { same = same_next c.args.txn.now c.next.new.self it c.next.result e.noted e.same }
