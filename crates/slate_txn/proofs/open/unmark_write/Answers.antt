use Rattle.std.proofs.Common.{ℕ, List, ap}
use Rattle.std.specs.BTreeMap.{BTreeMap}
use Rattle.slate_txn.specs.State.{Tx}
use Rattle.slate_txn.specs.Step.{with_unmarks}
use Rattle.slate_txn.proofs.Changed.{changed_ok, changed_err, unchanged}
use Rattle.slate_txn.proofs.open.unmark_write.Goals as goal

pub returns-in-Some-clause-unmarked : goal.returns-in-Some-clause-unmarked
returns-in-Some-clause-unmarked c = changed_ok c.unmark_write.result c.args.id.now (with_unmarks c.args.keys.now) c.in-Some.«open».now c.unmark_write.new.self c.args.items.now.entries _ (c.get_mut.follows.holds _).0 c.in-Some.ensures.value c.unmark_write.ensures.unmarked

pub returns-in-Some-clause-same : goal.returns-in-Some-clause-same
returns-in-Some-clause-same c = changed_err c.unmark_write.result c.args.id.now c.in-Some.«open».now c.unmark_write.new.self c.args.items.now.entries _ (c.get_mut.follows.holds _).0 c.in-Some.ensures.value c.unmark_write.ensures.same

pub returns-in-None-clause-unmarked : goal.returns-in-None-clause-unmarked
returns-in-None-clause-unmarked c = unchanged c.args.id.now (with_unmarks c.args.keys.now) c.args.items.now.entries _ (ap (λ (m : BTreeMap (List ℕ) Tx). m.entries) c.get_mut.follows.holds-at-none) c.in-None.ensures.value
