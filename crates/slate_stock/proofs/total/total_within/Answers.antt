use Rattle.std.proofs.Common.{[], ◌∙◌, ap, map, refl}
use Rattle.slate_types.proofs.Reaching.{reads_then}
use Rattle.slate_store.specs.Reach.{reach_of}
use Rattle.slate_steps.specs.Reads.{unblamed_if}
use Rattle.slate_stock.specs.Running.{db_error}
use Rattle.slate_stock.proofs.CauseLaws.{settled_as}
use Rattle.slate_stock.proofs.TotalLaws.{got_there, sum_is_there, total_cause_since, total_truth_since}
use Rattle.slate_stock.proofs.total.total_within.Goals as goal

pub returns-in-Ok-sum_within-clause-still : goal.returns-in-Ok-sum_within-clause-still
returns-in-Ok-sum_within-clause-still g c = λ d h. c.sum_within.ensures.still d _ (c.in-Ok.ensures.read d h).within

pub returns-in-Ok-sum_within-clause-total : goal.returns-in-Ok-sum_within-clause-total
returns-in-Ok-sum_within-clause-total g c = λ d seg h settled.
    let before = reach_of g.S.Store g.M.MergeOperator g.T.BlockTransformer c.args.env.now in
    let now = reach_of g.S.Store g.M.MergeOperator g.T.BlockTransformer c.issued_within.new.env in
    let policies = map (λ p. (goal.FilterPolicy-dyn g (p.vtable, p.value)).meaning p.value) c.args.laws.now.policies.items in
    let got = c.in-Ok.ensures.read d h in
    let only = c.issued_within.ensures.reads in (
      sum_is_there before now d c.args.asset.now c.in-Ok-sum_within.sum only (c.in-Ok-sum_within.ensures.sum d _ seg got.within refl (settled_as policies seg before now d only settled)),
      got_there policies seg before now d c.issued_within.new.core c.args.id.now _ c.in-Ok.issued got settled,
    )

pub returns-in-Ok-sum_within-clause-reads : goal.returns-in-Ok-sum_within-clause-reads
returns-in-Ok-sum_within-clause-reads g c = reads_then _ _ _ c.issued_within.ensures.reads c.sum_within.ensures.reads

pub returns-in-Err-sum_within-clause-still : goal.returns-in-Err-sum_within-clause-still
returns-in-Err-sum_within-clause-still g c = λ d h. c.sum_within.ensures.still d _ (c.in-Ok.ensures.read d h).within

pub returns-in-Err-sum_within-clause-refused : goal.returns-in-Err-sum_within-clause-refused
returns-in-Err-sum_within-clause-refused g c = λ d seg h settled.
    let before = reach_of g.S.Store g.M.MergeOperator g.T.BlockTransformer c.args.env.now in
    let now = reach_of g.S.Store g.M.MergeOperator g.T.BlockTransformer c.issued_within.new.env in
    let after = reach_of g.S.Store g.M.MergeOperator g.T.BlockTransformer c.sum_within.new.env in
    let policies = map (λ p. (goal.FilterPolicy-dyn g (p.vtable, p.value)).meaning p.value) c.args.laws.now.policies.items in
    let got = c.in-Ok.ensures.read d h in
    let only = c.issued_within.ensures.reads in
    total_truth_since policies before now after d c.args.asset.now only c.in-Err-sum_within.error (c.in-Err-sum_within.ensures.refused d _ seg got.within refl (settled_as policies seg before now d only settled))

pub returns-in-Err-sum_within-clause-cause : goal.returns-in-Err-sum_within-clause-cause
returns-in-Err-sum_within-clause-cause g c = λ d h.
    let before = reach_of g.S.Store g.M.MergeOperator g.T.BlockTransformer c.args.env.now in
    let now = reach_of g.S.Store g.M.MergeOperator g.T.BlockTransformer c.issued_within.new.env in
    let after = reach_of g.S.Store g.M.MergeOperator g.T.BlockTransformer c.sum_within.new.env in
    let policies = map (λ p. (goal.FilterPolicy-dyn g (p.vtable, p.value)).meaning p.value) c.args.laws.now.policies.items in
    total_cause_since policies before now after d c.args.asset.now c.issued_within.ensures.reads c.in-Err-sum_within.error (c.in-Err-sum_within.ensures.cause d _ (c.in-Ok.ensures.read d h).within)

pub returns-in-Err-sum_within-clause-reads : goal.returns-in-Err-sum_within-clause-reads
returns-in-Err-sum_within-clause-reads g c = reads_then _ _ _ c.issued_within.ensures.reads c.sum_within.ensures.reads

pub returns-in-Err-clause-still : goal.returns-in-Err-clause-still
returns-in-Err-clause-still g c = λ d h. c.in-Err.ensures.left d h

pub returns-in-Err-clause-refused : goal.returns-in-Err-clause-refused
returns-in-Err-clause-refused g c = λ d seg h settled. c.in-Err.ensures.refused d seg h settled

pub returns-in-Err-clause-cause : goal.returns-in-Err-clause-cause
returns-in-Err-clause-cause g c = λ d h. c.in-Err.ensures.cause d h

pub returns-in-Ok-sum_within-clause-counts : goal.returns-in-Ok-sum_within-clause-counts
returns-in-Ok-sum_within-clause-counts g c = c.in-Ok-sum_within.ensures.counts ∙ c.in-Ok.ensures.counts

pub returns-in-Err-sum_within-clause-counts : goal.returns-in-Err-sum_within-clause-counts
returns-in-Err-sum_within-clause-counts g c = c.in-Err-sum_within.ensures.counts ∙ ap (unblamed_if (db_error c.in-Err-sum_within.error)) c.in-Ok.ensures.counts

pub returns-in-Err-clause-counts : goal.returns-in-Err-clause-counts
returns-in-Err-clause-counts g c = c.in-Err.ensures.counts
