use Rattle.std.proofs.Common.{◌≡◌, ◌∙◌, ◌+◌, [], ◌∷◌, ◌++◌, ap, arith, length, length-append, refl}
use Rattle.slate_types.specs.Outside.{unblamed}
use Rattle.slate_types.proofs.Reaching.{reads_none, reads_then}
use Rattle.slate_store.specs.Reach.{reach_of}
use Rattle.slate_shared.proofs.Lists.{prefix_self, prefix_trans}
use Rattle.slate_steps.proofs.StoreTruth.{checked_earlier, checked_later}
use Rattle.slate_steps.specs.Attempts.{IsFaultOn}
use Rattle.slate_steps.specs.Reads.{unblamed_if}
use Rattle.slate_stock.specs.Running.{db_error}
use Rattle.slate_stock.proofs.AttemptCauses.{reads_cause_on, reads_truth_on, wanting_cause_on, wanting_truth_on}
use Rattle.slate_stock.proofs.AttemptLaws.{first_read, more_read, whole_read}
use Rattle.slate_stock.proofs.StepLaws.{gets_own}
use Rattle.slate_stock.proofs.on_pass.read_amounts.Goals as goal

pub loop-key-init : goal.loop-key-init
loop-key-init g c = record {
  table = refl;
  begins = prefix_self c.args.txn.now.seen;
  counts = refl;
  reads = reads_none _;
  read = λ from h. first_read g.P.Parts.options from c.new-amounts.result.items c.args.txn.now c.new-amounts.ensures.items h;
  long = ap length c.new-amounts.ensures.items;
  sees = λ from h holds v. v;
}

pub read_amount-requires-clause-table : goal.read_amount-requires-clause-table
read_amount-requires-clause-table g c κs lives = c.loop-key.invariant.table ∙ c.requires.table

pub read_amount-requires-clause-meaning : goal.read_amount-requires-clause-meaning
read_amount-requires-clause-meaning g c κs lives = c.loop-key.invariant.reads.meaning ∙ c.requires.meaning

pub loop-key-preserved : goal.loop-key-preserved
loop-key-preserved g c =
    let o = g.P.Parts.options in
    let m = g.P.Parts.meaning in
    let i = c.loop-key.invariant in
    let before = reach_of g.S.Store g.M.MergeOperator g.T.BlockTransformer c.args.env.now in
    let now = reach_of g.S.Store g.M.MergeOperator g.T.BlockTransformer c.loop-key.env in
    let after = reach_of g.S.Store g.M.MergeOperator g.T.BlockTransformer c.read_amount.new.env in
    let later = c.read_amount.ensures.more.1 in
    let grown : length (c.loop-key.amounts.items ++ (c.in-Ok.amount ∷ [])) ≡ length c.loop-key.amounts.items + 1 = length-append c.loop-key.amounts.items (c.in-Ok.amount ∷ []) in
    record {
      table = c.read_amount.ensures.more.0 ∙ i.table;
      begins = prefix_trans _ _ _ i.begins later;
      counts = c.in-Ok.ensures.counts ∙ i.counts;
      reads = reads_then _ _ _ i.reads c.read_amount.ensures.reads;
      read = λ from h.
          let old = i.read from h in
          more_read o from c.args.keys.now c.loop-key.key-index _ _ c.loop-key.amounts.items c.in-Ok.amount _ c.loop-key.txn c.read_amount.new.txn (omega arith) c.key-item.is c.in-Ok-push.ensures.items old (c.in-Ok.ensures.read from old.taken old.within);
      long = omega (arith, i.long, grown, ap length c.in-Ok-push.ensures.items);
      sees = λ from h holds v.
          let old = i.read from h in
          c.in-Ok.ensures.sees from old.taken old.within (checked_later g.P.Parts.policies m _ before now after i.reads c.read_amount.ensures.reads holds)
          (i.sees from h (checked_earlier g.P.Parts.policies m c.loop-key.txn.seen c.read_amount.new.txn.seen before now after later i.reads c.read_amount.ensures.reads holds) v);
    }

pub returns-in-Err-push-clause-left : goal.returns-in-Err-push-clause-left
returns-in-Err-push-clause-left g c = λ from h. let old = c.loop-key.invariant.read from h in (_, (c.in-Ok.ensures.read from old.taken old.within).within)

pub returns-in-Err-push-clause-cause : goal.returns-in-Err-push-clause-cause
returns-in-Err-push-clause-cause g c = λ from h. wanting_cause_on g.P.Parts.options _ _ _ from c.args.keys.now c.read_amount.new.txn c.from.result c.from.ensures

pub returns-in-Err-push-clause-truth : goal.returns-in-Err-push-clause-truth
returns-in-Err-push-clause-truth g c = λ from es h holds v later legal.
    let before = reach_of g.S.Store g.M.MergeOperator g.T.BlockTransformer c.args.env.now in
    let after = reach_of g.S.Store g.M.MergeOperator g.T.BlockTransformer c.read_amount.new.env in
    wanting_truth_on (IsFaultOn g.P.Parts.policies g.P.Parts.meaning c.read_amount.new.txn.seen before after) g.P.Parts.options g.P.Parts.meaning es c.read_amount.new.txn.tx.begin c.args.keys.now c.from.result (λ s. tt) c.from.ensures

pub returns-in-Err-push-clause-more : goal.returns-in-Err-push-clause-more
returns-in-Err-push-clause-more g c = (c.read_amount.ensures.more.0 ∙ c.loop-key.invariant.table, prefix_trans _ _ _ c.loop-key.invariant.begins c.read_amount.ensures.more.1)

pub returns-in-Err-push-clause-reads : goal.returns-in-Err-push-clause-reads
returns-in-Err-push-clause-reads g c = reads_then _ _ _ c.loop-key.invariant.reads c.read_amount.ensures.reads

pub returns-in-Err-clause-left : goal.returns-in-Err-clause-left
returns-in-Err-clause-left g c = λ from h. let old = c.loop-key.invariant.read from h in c.in-Err.ensures.left from old.taken old.within

pub returns-in-Err-clause-cause : goal.returns-in-Err-clause-cause
returns-in-Err-clause-cause g c = λ from h.
    let i = c.loop-key.invariant in
    let old = i.read from h in
    reads_cause_on g.P.Parts.options _ _ _ _ from c.args.keys.now c.loop-key.key-index _ _ c.read_amount.new.txn c.in-Err.error i.reads (omega arith) c.key-item.is (c.in-Err.ensures.cause from old.taken old.within)

pub returns-in-Err-clause-truth : goal.returns-in-Err-clause-truth
returns-in-Err-clause-truth g c = λ from es h holds v later legal.
    let o = g.P.Parts.options in
    let m = g.P.Parts.meaning in
    let i = c.loop-key.invariant in
    let old = i.read from h in
    let before = reach_of g.S.Store g.M.MergeOperator g.T.BlockTransformer c.args.env.now in
    let now = reach_of g.S.Store g.M.MergeOperator g.T.BlockTransformer c.loop-key.env in
    let after = reach_of g.S.Store g.M.MergeOperator g.T.BlockTransformer c.read_amount.new.env in
    let more = c.read_amount.ensures.more.1 in
    reads_truth_on o m g.P.Parts.policies before now after c.read_amount.new.txn.seen es c.read_amount.new.txn.tx.begin c.args.keys.now c.loop-key.key-index _ _ c.in-Err.error i.reads c.read_amount.ensures.reads (omega arith) c.key-item.is
    (c.in-Err.ensures.truth from es old.taken old.within (gets_own _ _ _ old.read) (checked_later g.P.Parts.policies m _ before now after i.reads c.read_amount.ensures.reads holds)
    (i.sees from h (checked_earlier g.P.Parts.policies m c.loop-key.txn.seen c.read_amount.new.txn.seen before now after more i.reads c.read_amount.ensures.reads holds) v) later legal)

pub returns-in-Err-clause-more : goal.returns-in-Err-clause-more
returns-in-Err-clause-more g c = (c.read_amount.ensures.more.0 ∙ c.loop-key.invariant.table, prefix_trans _ _ _ c.loop-key.invariant.begins c.read_amount.ensures.more.1)

pub returns-in-Err-clause-reads : goal.returns-in-Err-clause-reads
returns-in-Err-clause-reads g c = reads_then _ _ _ c.loop-key.invariant.reads c.read_amount.ensures.reads

pub returns-clause-read : goal.returns-clause-read
returns-clause-read g c = λ from h. whole_read g.P.Parts.options from c.args.keys.now c.loop-key.key-index c.loop-key.amounts.items c.loop-key.txn (omega arith) (c.loop-key.invariant.read from h)

pub returns-clause-sees : goal.returns-clause-sees
returns-clause-sees g c = λ from h holds v. c.loop-key.invariant.sees from h holds v

pub returns-clause-more : goal.returns-clause-more
returns-clause-more g c = (c.loop-key.invariant.table, c.loop-key.invariant.begins)

pub returns-in-Err-push-clause-counts : goal.returns-in-Err-push-clause-counts
returns-in-Err-push-clause-counts g c = ap (unblamed c.from.result) (c.in-Ok.ensures.counts ∙ c.loop-key.invariant.counts)

pub returns-in-Err-clause-counts : goal.returns-in-Err-clause-counts
returns-in-Err-clause-counts g c = c.in-Err.ensures.counts ∙ ap (unblamed_if (db_error c.in-Err.error)) c.loop-key.invariant.counts

pub returns-clause-counts : goal.returns-clause-counts
returns-clause-counts g c = c.loop-key.invariant.counts
