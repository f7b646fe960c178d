use Rattle.std.proofs.Common.{◌≡◌, ◌+◌, [], ◌∷◌, ◌++◌, ◌∙◌, ap, arith, length, length-append, map, refl, subst, sym}
use Rattle.slate_types.specs.Outside.{unblamed}
use Rattle.slate_types.proofs.Reaching.{reads_none, reads_then}
use Rattle.slate_store.specs.Reach.{reach_of}
use Rattle.slate_steps.specs.Reads.{IsFaultSettled, unblamed_if}
use Rattle.slate_steps.specs.Steps.{Sees}
use Rattle.slate_steps.proofs.StoreTruth.{checked_before, checked_behind}
use Rattle.slate_stock.specs.Running.{db_error}
use Rattle.slate_stock.proofs.CauseLaws.{cause_more, truth_more, wanting_truth}
use Rattle.slate_stock.proofs.CoreLaws.{all_read, read_first, read_more}
use Rattle.slate_stock.proofs.StepLaws.{gets_own}
use Rattle.slate_stock.proofs.on_core.read_amounts.Goals as goal

pub loop-key-init : goal.loop-key-init
loop-key-init g c = record {
  open_there = c.requires.open;
  counts = refl;
  reads = reads_none _;
  read = λ d h. read_first _ _ _ d c.args.core.now c.args.id.now c.new-amounts.result.items c.new-amounts.ensures.items h;
  long = ap length c.new-amounts.ensures.items;
}

pub loop-key-preserved : goal.loop-key-preserved
loop-key-preserved g c =
    let i = c.loop-key.invariant in
    let grown : length (c.loop-key.amounts.items ++ (c.in-Ok.amount ∷ [])) ≡ length c.loop-key.amounts.items + 1 = length-append c.loop-key.amounts.items (c.in-Ok.amount ∷ []) in
    record {
      open_there = c.read_amount.ensures.open;
      counts = c.in-Ok.ensures.counts ∙ i.counts;
      reads = reads_then _ _ _ i.reads c.read_amount.ensures.reads;
      read = λ d h.
          let old = i.read d h in
          read_more _ _ _ _ d c.loop-key.core c.read_amount.new.core c.args.id.now c.args.keys.now c.loop-key.key-index _ _ c.loop-key.amounts.items c.in-Ok.amount _ i.reads c.read_amount.ensures.reads (omega arith) c.key-item.is c.in-Ok-push.ensures.items old (c.in-Ok.ensures.read d old.taken old.within);
      long = omega (arith, i.long, grown, ap length c.in-Ok-push.ensures.items);
    }

pub returns-in-Err-push-clause-reads : goal.returns-in-Err-push-clause-reads
returns-in-Err-push-clause-reads g c = reads_then _ _ _ c.loop-key.invariant.reads c.read_amount.ensures.reads

pub returns-in-Err-push-clause-truth : goal.returns-in-Err-push-clause-truth
returns-in-Err-push-clause-truth g c = λ d seg h store.
    let before = reach_of g.S.Store g.M.MergeOperator g.T.BlockTransformer c.args.env.now in
    let after = reach_of g.S.Store g.M.MergeOperator g.T.BlockTransformer c.read_amount.new.env in
    let policies = map (λ p. (goal.FilterPolicy-dyn g (p.vtable, p.value)).meaning p.value) c.args.laws.now.policies.items in
    wanting_truth (IsFaultSettled policies before after d) before.meaning d c.args.keys.now c.from.result (λ s k. tt) c.from.ensures

pub returns-in-Err-clause-left : goal.returns-in-Err-clause-left
returns-in-Err-clause-left g c = λ d h. let old = c.loop-key.invariant.read d h in c.in-Err.ensures.left d old.taken old.within

pub returns-in-Err-clause-cause : goal.returns-in-Err-clause-cause
returns-in-Err-clause-cause g c = λ d h.
    let i = c.loop-key.invariant in
    let old = i.read d h in
    cause_more _ _ _ _ d c.args.id.now c.args.keys.now c.loop-key.key-index _ _ c.in-Err.error i.reads (omega arith) c.key-item.is (c.in-Err.ensures.cause d old.taken old.within)

pub returns-in-Err-clause-truth : goal.returns-in-Err-clause-truth
returns-in-Err-clause-truth g c = λ d seg h store.
    let i = c.loop-key.invariant in
    let old = i.read d h in
    let before = reach_of g.S.Store g.M.MergeOperator g.T.BlockTransformer c.args.env.now in
    let now = reach_of g.S.Store g.M.MergeOperator g.T.BlockTransformer c.loop-key.env in
    let after = reach_of g.S.Store g.M.MergeOperator g.T.BlockTransformer c.read_amount.new.env in
    let policies = map (λ p. (goal.FilterPolicy-dyn g (p.vtable, p.value)).meaning p.value) c.args.laws.now.policies.items in
    let later = c.read_amount.ensures.reads in
    truth_more policies before now after d c.args.keys.now c.loop-key.key-index _ _ c.in-Err.error i.reads (omega arith) c.key-item.is
    (c.in-Err.ensures.truth d old.taken seg old.within (gets_own _ _ _ old.read) (checked_behind policies seg before now after d i.reads later store)
    (subst (λ m. Sees m d old.taken) (sym i.reads.meaning) (old.seen seg (checked_before policies seg before now after d i.reads later store))))

pub returns-in-Err-clause-reads : goal.returns-in-Err-clause-reads
returns-in-Err-clause-reads g c = reads_then _ _ _ c.loop-key.invariant.reads c.read_amount.ensures.reads

pub returns-clause-read : goal.returns-clause-read
returns-clause-read g c = λ d h. all_read _ _ _ d c.loop-key.core c.args.id.now c.args.keys.now c.loop-key.key-index c.loop-key.amounts.items (omega arith) (c.loop-key.invariant.read d h)

pub returns-in-Err-push-clause-counts : goal.returns-in-Err-push-clause-counts
returns-in-Err-push-clause-counts g c = ap (unblamed c.from.result) (c.in-Ok.ensures.counts ∙ c.loop-key.invariant.counts)

pub returns-in-Err-clause-counts : goal.returns-in-Err-clause-counts
returns-in-Err-clause-counts g c = c.in-Err.ensures.counts ∙ ap (unblamed_if (db_error c.in-Err.error)) c.loop-key.invariant.counts

pub returns-clause-counts : goal.returns-clause-counts
returns-clause-counts g c = c.loop-key.invariant.counts
