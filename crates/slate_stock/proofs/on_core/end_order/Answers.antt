use Rattle.std.proofs.Common.{ap, w64}
use Rattle.std.proofs.lemmas.Int.{to_z-of_z}
use Rattle.slate_types.specs.declared.config.IsolationLevel.TheVariants.{SerializableSnapshot}
use Rattle.slate_types.specs.Outside.{unblamed}
use Rattle.slate_store.specs.Reach.{reach_of}
use Rattle.slate_stock.proofs.CoreLaws.{taken_plain, taken_some}
use Rattle.slate_stock.proofs.EndLaws.{committed_at, has_ordered, never_full, some_committed}
use Rattle.slate_stock.proofs.on_core.end_order.Goals as goal

pub unreachable-requires : goal.unreachable-requires
unreachable-requires g c =
    let t = c.requires.taken in
    some_committed t.policies t.before t.after t.core c.args.core.now c.commit.new.core c.args.id.now t.order _ t.is
    (rw c.in-Ok-None.field-0-is at (c.in-Ok-None.ensures.committed t.core SerializableSnapshot t.is.taken t.is.within))

pub returns-in-Ok-Some-clause-ordered : goal.returns-in-Ok-Some-clause-ordered
returns-in-Ok-Some-clause-ordered g c = λ policies before after d order h.
    has_ordered policies before after d c.args.core.now c.commit.new.core c.args.id.now order c.args.now _ h
    (committed_at d c.commit.new.core c.args.id.now h.taken _ c.args.now _ (to_z-of_z w64 c.args.now c.ranges.now) (rw c.in-Ok-Some.field-0-is at (c.in-Ok-Some.ensures.committed d SerializableSnapshot h.taken h.within)))

pub returns-in-Ok-Some-clause-exhausted : goal.returns-in-Ok-Some-clause-exhausted
returns-in-Ok-Some-clause-exhausted g c = λ policies before after d order h full.
    never_full c.commit.result _ c.in-Ok-Some.is (c.commit.ensures.exhausted d SerializableSnapshot h.taken h.within (taken_some policies before after d c.args.id.now order c.args.core.now h) full)

pub returns-in-Ok-Some-clause-kept : goal.returns-in-Ok-Some-clause-kept
returns-in-Ok-Some-clause-kept g c = λ d ts h kept. c.in-Ok-Some.ensures.kept d SerializableSnapshot ts h kept

pub returns-in-Ok-Some-clause-segmented : goal.returns-in-Ok-Some-clause-segmented
returns-in-Ok-Some-clause-segmented g c = λ d ts h segmented. c.in-Ok-Some.ensures.segmented d SerializableSnapshot ts h segmented

pub returns-in-Err-clause-ended : goal.returns-in-Err-clause-ended
returns-in-Err-clause-ended g c = λ d ts h. c.in-Err.ensures.ended d SerializableSnapshot ts h

pub returns-in-Err-clause-cause : goal.returns-in-Err-clause-cause
returns-in-Err-clause-cause g c = λ policies before after d order h. c.in-Err.ensures.cause d SerializableSnapshot h.taken h.within c.requires.segments (taken_plain policies before after d c.args.id.now order c.args.core.now h)

pub returns-in-Err-clause-kept : goal.returns-in-Err-clause-kept
returns-in-Err-clause-kept g c = λ d ts h kept. c.in-Err.ensures.kept d SerializableSnapshot ts h kept

pub returns-in-Err-clause-segmented : goal.returns-in-Err-clause-segmented
returns-in-Err-clause-segmented g c = λ d ts h segmented. c.in-Err.ensures.segmented d SerializableSnapshot ts h segmented

pub returns-in-Ok-Some-clause-counts : goal.returns-in-Ok-Some-clause-counts
returns-in-Ok-Some-clause-counts g c =
    let t = c.requires.taken in
    ap (λ e. (reach_of g.S.Store g.M.MergeOperator g.T.BlockTransformer e).faults)
    (c.commit.ensures.still t.core SerializableSnapshot t.is.taken t.is.within (taken_plain t.policies t.before t.after t.core c.args.id.now t.order c.args.core.now t.is))

pub returns-in-Err-clause-counts : goal.returns-in-Err-clause-counts
returns-in-Err-clause-counts g c =
    let t = c.requires.taken in
    ap (λ e. unblamed c.in-Err.error (reach_of g.S.Store g.M.MergeOperator g.T.BlockTransformer e).faults)
    (c.commit.ensures.still t.core SerializableSnapshot t.is.taken t.is.within (taken_plain t.policies t.before t.after t.core c.args.id.now t.order c.args.core.now t.is))
