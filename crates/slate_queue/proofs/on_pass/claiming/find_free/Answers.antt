use Rattle.std.proofs.Common.{[], ◌∙◌, ap, w64}
use Rattle.std.proofs.lemmas.Int.{to_z-of_z}
use Rattle.slate_types.specs.declared.config.IsolationLevel.TheVariants.{SerializableSnapshot}
use Rattle.slate_types.specs.declared.iter.IterationOrder.TheVariants.{Ascending}
use Rattle.slate_types.specs.Keys.{prefix_range}
use Rattle.slate_store.specs.Reach.{reach_of}
use Rattle.slate_types.proofs.Reaching.{reads_then}
use Rattle.slate_shared.specs.Scans.{rows_of_range}
use Rattle.slate_steps.specs.Reads.{told_in, unblamed_if}
use Rattle.slate_queue.specs.Calls.{db_error}
use Rattle.slate_queue.specs.Stored.{jobs_prefix}
use Rattle.slate_queue.specs.Walks.{FindStops, MayFind}
use Rattle.slate_queue.proofs.PassFinding.{found_on, opened_walks}
use Rattle.slate_queue.proofs.PassSteps.{refused_on}
use Rattle.slate_queue.proofs.PassTruths.{begun_vouched}
use Rattle.slate_queue.proofs.PassWalkLaws.{halts_on_at, walks_on_at}
use Rattle.slate_queue.proofs.on_pass.claiming.find_free.Goals as goal

pub walk-found-requires : goal.walk-found-requires
walk-found-requires g c = record {
  walking = opened_walks g.P.Parts.options c.requires.begun.0 c.args.txn.now c.scan_prefix.new.txn c.in-Ok.scan c.requires.begun.1 c.in-Ok.ensures.named c.scan_prefix.ensures.more.1 (c.in-Ok.ensures.within c.requires.begun.0 SerializableSnapshot [] c.requires.begun.1);
}

pub returns-in-Err : goal.returns-in-Err
returns-in-Err g c =
    let before = reach_of g.S.Store g.M.MergeOperator g.T.BlockTransformer c.args.env.now in
    let after = reach_of g.S.Store g.M.MergeOperator g.T.BlockTransformer c.scan_prefix.new.env in
    record {
      attempt = λ from h. refused_on g.P.Parts.options g.P.Parts.meaning g.P.Parts.policies from before after (MayFind c.args.now) (FindStops c.args.now) c.scan_prefix.new.txn c.in-Err.error
          (c.in-Err.ensures.refused from SerializableSnapshot [] h) (λ s. c.in-Err.ensures.undamaged from SerializableSnapshot [] h s) (c.in-Err.ensures.cause from SerializableSnapshot [] h);
      table = c.scan_prefix.ensures.more.0;
      counts = c.in-Err.ensures.counts;
      reads = c.scan_prefix.ensures.reads;
    }

pub returns : goal.returns
returns g c =
    let before = reach_of g.S.Store g.M.MergeOperator g.T.BlockTransformer c.args.env.now in
    let middle = reach_of g.S.Store g.M.MergeOperator g.T.BlockTransformer c.scan_prefix.new.env in
    let after = reach_of g.S.Store g.M.MergeOperator g.T.BlockTransformer c.walk-found.new.env in
    let o = g.P.Parts.options in
    let m = g.P.Parts.meaning in
    record {
      attempt = λ from h. found_on c.args.now o m g.P.Parts.policies from before middle after c.scan_prefix.new.txn c.walk-found.new.txn c.in-Ok.scan
          (record {
            attempt = c.in-Ok.ensures.within from SerializableSnapshot [] h;
            rows = rows_of_range o m c.scan_prefix.new.txn.seen c.args.txn.now.tx Ascending (prefix_range jobs_prefix);
            reading = λ s. c.in-Ok.ensures.checked from SerializableSnapshot [] h s;
            vouched = c.scan_prefix.ensures.sees from SerializableSnapshot [] h (begun_vouched o m from SerializableSnapshot c.args.txn.now h);
            since = c.in-Ok.ensures.since from SerializableSnapshot [] h;
            meaning = c.requires.meaning;
            reads = c.scan_prefix.ensures.reads;
          })
          c.walk-found.ensures.reads
          c.walk-found.result
          (walks_on_at o m _ c.args.now middle after c.scan_prefix.new.txn c.walk-found.new.txn c.in-Ok.scan c.walk-found.result (to_z-of_z w64 c.args.now c.ranges.now) c.walk-found.ensures.to)
          (halts_on_at o m _ c.args.now middle after c.scan_prefix.new.txn c.walk-found.new.txn c.in-Ok.scan c.walk-found.result (to_z-of_z w64 c.args.now c.ranges.now) c.walk-found.ensures.halts);
      table = c.walk-found.ensures.table ∙ c.scan_prefix.ensures.more.0;
      counts = c.walk-found.ensures.counts ∙ ap (unblamed_if (told_in db_error c.walk-found.result)) c.in-Ok.ensures.counts;
      reads = reads_then before middle after c.scan_prefix.ensures.reads c.walk-found.ensures.reads;
    }
