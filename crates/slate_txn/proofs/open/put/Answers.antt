use Rattle.slate_mem.specs.declared.WriteOp.TheVariants as ops
use Rattle.slate_txn.specs.Step.{with_op}
use Rattle.slate_txn.proofs.Changed.{changed_ok, changed_err, not_open}
use Rattle.slate_txn.proofs.open.put.Goals as goal

pub unreachable-requires : goal.unreachable-requires
unreachable-requires c = not_open c.args.id.now c.args.items.now.entries c.requires c.in-None.ensures.value

pub returns-clause-taken : goal.returns-clause-taken
returns-clause-taken c = changed_ok c.put.result c.args.id.now (with_op c.args.key.now (ops.Put c.args.value.now c.args.options.now)) c.in-Some.«open».now c.put.new.self c.args.items.now.entries _ (c.get_mut.follows.holds _).0 c.in-Some.ensures.value c.put.ensures.taken

pub returns-clause-same : goal.returns-clause-same
returns-clause-same c = changed_err c.put.result c.args.id.now c.in-Some.«open».now c.put.new.self c.args.items.now.entries _ (c.get_mut.follows.holds _).0 c.in-Some.ensures.value c.put.ensures.same
