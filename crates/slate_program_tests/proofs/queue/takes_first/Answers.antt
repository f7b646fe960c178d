use Rattle.std.proofs.Common.{[]}
use Rattle.slate_types.specs.Config.{defaults}
use Rattle.slate_types.specs.Outside.{no_parts}
use Rattle.slate_types.specs.declared.config.IsolationLevel.TheVariants.{SerializableSnapshot}
use Rattle.slate_queue.proofs.PassFinding.{opened_walks}
use Rattle.slate_queue.proofs.PassWalkLaws.{may_go}
use Rattle.slate_program_tests.proofs.queue.takes_first.Goals as goal

pub next-requires : goal.next-requires
next-requires g c =
    let from = c.requires.begun.0 in
    let begun = c.requires.begun.1 in
    let walks = opened_walks defaults from c.args.txn.now c.scan_prefix.new.txn c.in-Ok.scan begun c.in-Ok.ensures.named c.scan_prefix.ensures.more.1 (c.in-Ok.ensures.within from SerializableSnapshot [] begun) in
    may_go defaults no_parts c.scan_prefix.new.txn c.in-Ok.scan walks
