use Rattle.std.proofs.Common.{ap, w64}
use Rattle.std.proofs.lemmas.Int.{to_z-of_z}
use Rattle.slate_types.specs.declared.config.IsolationLevel.TheVariants.{SerializableSnapshot}
use Rattle.slate_types.specs.Outside.{unblamed}
use Rattle.slate_store.specs.Reach.{reach_of}
use Rattle.slate_stock.proofs.AttemptLaws.{committed_then, never_none, ordered_on, stepped_by}
use Rattle.slate_stock.proofs.on_pass.end_order.Goals as goal

pub unreachable-requires : goal.unreachable-requires
unreachable-requires g c =
    let t = c.requires.taken in
    never_none g.P.Parts.options t.0 _ c.args.pass.now c.commit.new.pass c.args.txn t.1 (rw c.in-Ok-None.field-0-is at (c.in-Ok-None.ensures.committed _ SerializableSnapshot t.1.taken t.1.within))

pub returns-in-Ok-Some-clause-ordered : goal.returns-in-Ok-Some-clause-ordered
returns-in-Ok-Some-clause-ordered g c = λ order h.
    ordered_on g.P.Parts.options order c.args.now _ c.args.pass.now c.commit.new.pass c.args.txn h
    (committed_then g.P.Parts.options c.args.txn _ _ c.args.now c.args.pass.now c.commit.new.pass (to_z-of_z w64 c.args.now c.ranges.now)
    (rw c.in-Ok-Some.field-0-is at (c.in-Ok-Some.ensures.committed _ SerializableSnapshot h.taken h.within))) c.commit.ensures.legal

pub returns-in-Ok-Some-clause-stepped : goal.returns-in-Ok-Some-clause-stepped
returns-in-Ok-Some-clause-stepped g c = λ order h v.
    stepped_by g.P.Parts.options g.P.Parts.meaning order c.args.now _ c.args.pass.now c.commit.new.pass c.args.txn h
    (committed_then g.P.Parts.options c.args.txn _ _ c.args.now c.args.pass.now c.commit.new.pass (to_z-of_z w64 c.args.now c.ranges.now)
    (rw c.in-Ok-Some.field-0-is at (c.in-Ok-Some.ensures.committed _ SerializableSnapshot h.taken h.within))) c.commit.ensures.legal v (c.commit.ensures.vouched v)

pub returns-in-Err-clause-cause : goal.returns-in-Err-clause-cause
returns-in-Err-clause-cause g c = let t = c.requires.taken in c.in-Err.ensures.cause _ SerializableSnapshot t.1.taken t.1.within c.requires.segments

pub returns-in-Ok-Some-clause-counts : goal.returns-in-Ok-Some-clause-counts
returns-in-Ok-Some-clause-counts g c = let t = c.requires.taken in ap (λ e. (reach_of g.S.Store g.M.MergeOperator g.T.BlockTransformer e).faults) (c.commit.ensures.still _ SerializableSnapshot t.1.taken t.1.within)

pub returns-in-Err-clause-counts : goal.returns-in-Err-clause-counts
returns-in-Err-clause-counts g c = let t = c.requires.taken in ap (λ e. unblamed c.in-Err.error (reach_of g.S.Store g.M.MergeOperator g.T.BlockTransformer e).faults) (c.commit.ensures.still _ SerializableSnapshot t.1.taken t.1.within)
