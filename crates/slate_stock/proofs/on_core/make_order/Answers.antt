use Rattle.std.proofs.Common.{inl, inr, map, refl, subst, sym, w64}
use Rattle.std.proofs.lemmas.Int.{to_z-of_z}
use Rattle.slate_types.proofs.Exits.{on_err_weaker}
use Rattle.slate_store.specs.Reach.{reach_of}
use Rattle.slate_db.specs.Meaning.{segments_by}
use Rattle.slate_db.specs.Model.{CoreModel}
use Rattle.slate_db.specs.Segmented.{IsSegmented}
use Rattle.slate_db.specs.Sound.{IsKept}
use Rattle.slate_steps.specs.Reads.{IsFaultSettled}
use Rattle.slate_stock.proofs.EndLaws.{begin_cause, begin_truth, ordered_at}
use Rattle.slate_stock.proofs.on_core.make_order.Goals as goal

pub order_within-requires-clause-begun : goal.order_within-requires-clause-begun
order_within-requires-clause-begun g c κs lives = (c.args.core.now, c.in-Ok.ensures.within)

pub returns-in-Ok-clause-committed : goal.returns-in-Ok-clause-committed
returns-in-Ok-clause-committed g c =
    ordered_at _ _ _ c.args.core.now c.order_within.new.core c.args.order.now _ c.args.now c.order_within.result (to_z-of_z w64 c.args.now c.ranges.now) (c.order_within.ensures.committed c.args.core.now c.in-Ok.ensures.within)

pub returns-in-Ok-clause-left : goal.returns-in-Ok-clause-left
returns-in-Ok-clause-left g c = on_err_weaker c.order_within.result (λ e. inr (c.in-Ok.id, e)) (c.order_within.ensures.ended c.args.core.now c.in-Ok.ensures.within)

pub returns-in-Ok-clause-cause : goal.returns-in-Ok-clause-cause
returns-in-Ok-clause-cause g c = c.order_within.ensures.cause c.args.core.now c.in-Ok.ensures.within

pub returns-in-Ok-clause-refused : goal.returns-in-Ok-clause-refused
returns-in-Ok-clause-refused g c = λ seg store. c.order_within.ensures.refused c.args.core.now seg c.in-Ok.ensures.within store

pub returns-in-Ok-clause-exhausted : goal.returns-in-Ok-clause-exhausted
returns-in-Ok-clause-exhausted g c = λ full. c.order_within.ensures.exhausted c.args.core.now c.in-Ok.ensures.within full

pub returns-in-Ok-clause-kept : goal.returns-in-Ok-clause-kept
returns-in-Ok-clause-kept g c = λ kept. c.order_within.ensures.kept c.args.core.now c.in-Ok.ensures.within kept

pub returns-in-Ok-clause-segmented : goal.returns-in-Ok-clause-segmented
returns-in-Ok-clause-segmented g c = λ segmented. c.order_within.ensures.segmented c.args.core.now c.in-Ok.ensures.within segmented

pub returns-in-Err-clause-left : goal.returns-in-Err-clause-left
returns-in-Err-clause-left g c = inl c.in-Err.ensures.same

pub returns-in-Err-clause-cause : goal.returns-in-Err-clause-cause
returns-in-Err-clause-cause g c = begin_cause _ _ _ c.args.core.now c.args.order.now c.in-Err.error c.in-Err.ensures.cause

pub returns-in-Err-clause-refused : goal.returns-in-Err-clause-refused
returns-in-Err-clause-refused g c = λ seg store.
    let before = reach_of g.S.Store g.M.MergeOperator g.T.BlockTransformer c.args.env.now in
    let policies = map (λ p. (goal.FilterPolicy-dyn g (p.vtable, p.value)).meaning p.value) c.args.laws.now.policies.items in
    begin_truth (IsFaultSettled policies before before c.args.core.now) before.meaning c.args.core.now c.args.order.now c.in-Err.error (λ s h. tt) c.in-Err.ensures.cause

pub returns-in-Err-clause-kept : goal.returns-in-Err-clause-kept
returns-in-Err-clause-kept g c = λ kept.
    let before = reach_of g.S.Store g.M.MergeOperator g.T.BlockTransformer c.args.env.now in
    subst (λ (v : CoreModel). IsKept before.meaning v) (sym c.in-Err.ensures.same) kept

pub returns-in-Err-clause-segmented : goal.returns-in-Err-clause-segmented
returns-in-Err-clause-segmented g c = λ segmented. subst (λ (v : CoreModel). IsSegmented (segments_by g.X.PrefixExtractor.lengths c.args.laws.now.segments) v) (sym c.in-Err.ensures.same) segmented

pub returns-in-Ok-clause-counts : goal.returns-in-Ok-clause-counts
returns-in-Ok-clause-counts g c = c.order_within.ensures.counts

pub returns-in-Err-clause-counts : goal.returns-in-Err-clause-counts
returns-in-Err-clause-counts g c = refl
