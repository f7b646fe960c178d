use Rattle.slate_shared_tests.proofs.Scanning.{of_next, of_seek, same_next, same_seek}
use Rattle.slate_shared_tests.proofs.scans.is_step.Goals as goal

pub next-requires : goal.next-requires
next-requires c = (c.requires.id, c.requires.number)

pub seek-requires : goal.seek-requires
seek-requires c = (c.requires.id, c.requires.number)

pub returns-in-Next : goal.returns-in-Next
returns-in-Next c =
    let e = c.next.ensures in
    record {
      same = same_next c.args.txn.now c.next.new.self c.args.it.now c.next.result e.noted e.same;
      within = of_next c.args.txn.now c.next.new.self c.args.it.now c.next.new.it _ _ c.next.result e.noted e.same e.step.names c.requires;
    }

pub returns-in-Seek : goal.returns-in-Seek
returns-in-Seek c =
    let e = c.seek.ensures in
    record {
      same = same_seek c.args.txn.now c.seek.new.self c.args.it.now c.in-Seek.key.now c.seek.result e.noted e.same;
      within = of_seek c.args.txn.now c.seek.new.self c.args.it.now c.seek.new.it _ _ c.in-Seek.key.now c.seek.result e.noted e.same e.step.names c.requires;
    }
