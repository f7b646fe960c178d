use Rattle.slate_shared.proofs.Lists.{prefix_trans}
use Rattle.slate_threads.proofs.CopyLaws.{copy_vouched, copy_whole, copy_worked}
use Rattle.slate_threads.proofs.copies.close.Goals as goal

pub returns-clause-copy : goal.returns-clause-copy
returns-clause-copy g c =
    let copied = c.journal-copied.ensures in
    copy_whole g.P.Parts.options c.args.pass c.journal-copied.new.self c.close-core.result.events
    copied.seen.0 copied.seen.1 copied.same.2 copied.same.1 copied.own c.close-core.ensures.seen
    c.close-core.ensures.whole c.journal-copied.result copied.copy

pub returns-clause-vouched : goal.returns-clause-vouched
returns-clause-vouched g c = λ all v.
    copy_vouched g.P.Parts.options g.P.Parts.meaning c.args.pass c.close-core.result.events all
    c.journal-copied.result (returns-clause-copy g c) v

pub returns-clause-workers : goal.returns-clause-workers
returns-clause-workers g c = λ all w.
    copy_worked g.P.Parts.options g.P.Parts.meaning c.args.pass c.close-core.result.events all
    c.journal-copied.result (returns-clause-copy g c) w

pub returns-clause-seen : goal.returns-clause-seen
returns-clause-seen g c =
    prefix_trans c.args.pass.seen c.journal-copied.new.self.seen c.close-core.result.events
    c.journal-copied.ensures.seen.0 c.close-core.ensures.seen
