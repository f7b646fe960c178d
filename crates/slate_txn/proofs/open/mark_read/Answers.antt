use Rattle.std.proofs.Common.{ℕ, List, ap}
use Rattle.std.specs.BTreeMap.{BTreeMap}
use Rattle.slate_txn.specs.State.{Tx}
use Rattle.slate_txn.specs.Step.{with_marks}
use Rattle.slate_txn.proofs.Changed.{changed_ok, changed_err, unchanged}
use Rattle.slate_txn.proofs.open.mark_read.Goals as goal

pub returns-in-Some-clause-marked : goal.returns-in-Some-clause-marked
returns-in-Some-clause-marked c = changed_ok c.mark_read.result c.args.id.now (with_marks c.args.keys.now) c.in-Some.«open».now c.mark_read.new.self c.args.items.now.entries _ (c.get_mut.follows.holds _).0 c.in-Some.ensures.value c.mark_read.ensures.marked

pub returns-in-Some-clause-same : goal.returns-in-Some-clause-same
returns-in-Some-clause-same c = changed_err c.mark_read.result c.args.id.now c.in-Some.«open».now c.mark_read.new.self c.args.items.now.entries _ (c.get_mut.follows.holds _).0 c.in-Some.ensures.value c.mark_read.ensures.same

pub returns-in-None-clause-marked : goal.returns-in-None-clause-marked
returns-in-None-clause-marked c = unchanged c.args.id.now (with_marks c.args.keys.now) c.args.items.now.entries _ (ap (λ (m : BTreeMap (List ℕ) Tx). m.entries) c.get_mut.follows.holds-at-none) c.in-None.ensures.value
