use Rattle.std.proofs.Common.{◌∙◌, None, ℤ, inr, of_z, subst, to_z, w64}
use Rattle.std.proofs.lemmas.Int.{to_z-of_z}
use Rattle.slate_db.specs.Committed.{IsCommitted}
use Rattle.slate_store.specs.Reach.{reach_of}
use Rattle.slate_db.proofs.CommitFacts.{causes_of, exhausted_by, of_transaction}
use Rattle.slate_steps.specs.Steps.{newest, taking}
use Rattle.slate_steps.proofs.Ending.{commit_cause, has_committed, no_conflict, refused_commit, same_newest, within_segmented}
use Rattle.slate_steps.proofs.Reading.{both_err, if_ok_map, on_err_map}
use Rattle.slate_steps.proofs.Taking.{within_found}
use Rattle.slate_steps.proofs.transaction.commit.Goals as goal

pub returns-clause-committed : goal.returns-clause-committed
returns-clause-committed g c = λ d level ts h.
    if_ok_map c.commit-seq.result _ _
    (λ n is. has_committed d c.args.core.now c.args.id.now level ts h c.commit-seq.new.self n c.args.now
    (subst (λ (z : ℤ). IsCommitted c.args.core.now c.commit-seq.new.self c.args.id.now n z (taking (newest d) level ts)) (to_z-of_z w64 c.args.now c.ranges.now) is) c.journal.ensures.legal (λ t named. (c.commit-seq.ensures.commits t named).grows) (c.commit-seq.ensures.commits _ (within_found d c.args.core.now c.args.id.now level ts h)).others)
    (c.commit-seq.ensures.commits _ (within_found d c.args.core.now c.args.id.now level ts h)).event

pub returns-clause-ended : goal.returns-clause-ended
returns-clause-ended g c = λ d level ts h.
    let made = c.commit-seq.ensures.commits _ (within_found d c.args.core.now c.args.id.now level ts h) in
    on_err_map c.commit-seq.result _ _ (λ is. refused_commit d c.args.core.now c.args.id.now level ts h c.commit-seq.new.self is.0 is.1) (both_err c.commit-seq.result _ _ made.ended (on_err_map c.commit-seq.result _ _ (λ keeps m. (keeps m None).rows) made.keeps.refused))

pub returns-clause-kept : goal.returns-clause-kept
returns-clause-kept g c = λ d level ts h kept. (c.commit-seq.ensures.commits _ (within_found d c.args.core.now c.args.id.now level ts h)).keeps.own.rows (h.kept _ kept)

pub returns-clause-segmented : goal.returns-clause-segmented
returns-clause-segmented g c = λ d level ts h segmented. (c.commit-seq.ensures.commits _ (within_found d c.args.core.now c.args.id.now level ts h)).keeps.own.segments (within_segmented d c.args.core.now c.args.id.now level ts h _ segmented)

pub returns-clause-cause : goal.returns-clause-cause
returns-clause-cause g c = λ d level ts h none plain.
    let before = reach_of g.S.Store g.M.MergeOperator g.T.BlockTransformer c.args.env.now in
    let after = reach_of g.S.Store g.M.MergeOperator g.T.BlockTransformer c.commit-seq.new.env in
    commit_cause d c.args.core.now c.args.id.now level ts h c.commit-seq.result c.conflicts.ensures.conflicts_need_a_commit g.X.PrefixExtractor.lengths c.args.laws.now.segments before.meaning.combine before after (to_z w64 (of_z w64 c.args.now)) none plain
    (causes_of (c.commit-seq.ensures.commits _ (within_found d c.args.core.now c.args.id.now level ts h)))

pub returns-clause-exhausted : goal.returns-clause-exhausted
returns-clause-exhausted g c = λ d level ts h some full.
    exhausted_by (c.commit-seq.ensures.commits _ (within_found d c.args.core.now c.args.id.now level ts h)) (no_conflict d c.args.core.now c.args.id.now level ts h c.conflicts.ensures.conflicts_need_a_commit) some
    (same_newest d c.args.core.now c.args.id.now level ts h ∙ full)

pub returns-clause-still : goal.returns-clause-still
returns-clause-still g c = λ d level ts h plain. c.commit-seq.ensures.unasked _ (within_found d c.args.core.now c.args.id.now level ts h) (inr plain)

pub returns-clause-reads : goal.returns-clause-reads
returns-clause-reads g c = of_transaction c.args.core.now c.args.id.now c.requires (λ t named. (c.commit-seq.ensures.commits t named).asks.reads)
