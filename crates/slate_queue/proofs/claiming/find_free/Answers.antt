use Rattle.std.proofs.Common.{[], ◌∙◌, ap, map, subst, sym, w64}
use Rattle.std.proofs.lemmas.Int.{to_z-of_z}
use Rattle.slate_types.specs.declared.config.IsolationLevel.TheVariants.{SerializableSnapshot}
use Rattle.slate_types.specs.declared.iter.IterationOrder.TheVariants.{Ascending}
use Rattle.slate_types.specs.Keys.{prefix_range}
use Rattle.slate_store.specs.Reach.{reach_of}
use Rattle.slate_txn.specs.Reads.{rows_seen}
use Rattle.slate_types.proofs.Reaching.{reads_then}
use Rattle.slate_db.specs.Meaning.{rules_of}
use Rattle.slate_db.specs.Opened.{HasTransaction}
use Rattle.slate_steps.specs.Reads.{told_in, unblamed_if}
use Rattle.slate_steps.specs.Steps.{newest}
use Rattle.slate_queue.specs.Calls.{db_error}
use Rattle.slate_queue.specs.Stored.{jobs_prefix}
use Rattle.slate_queue.specs.Walks.{FindStops, MayFind}
use Rattle.slate_queue.proofs.Attempting.{read_refused}
use Rattle.slate_queue.proofs.Finding.{found_by}
use Rattle.slate_queue.proofs.WalkSteps.{halts_at, walks_at}
use Rattle.slate_queue.proofs.claiming.find_free.Goals as goal

pub walk-found-requires-clause-first : goal.walk-found-requires-clause-first
walk-found-requires-clause-first g c = (c.in-Ok.ensures.named c.requires.within.0 SerializableSnapshot [] c.requires.within.1).number

pub walk-found-requires-clause-open : goal.walk-found-requires-clause-open
walk-found-requires-clause-open g c = subst (HasTransaction c.scan_prefix.new.core) (sym (c.in-Ok.ensures.named c.requires.within.0 SerializableSnapshot [] c.requires.within.1).named) c.scan_prefix.ensures.«open»

pub returns-in-Err : goal.returns-in-Err
returns-in-Err g c =
    let policies = map (λ p. (goal.FilterPolicy-dyn g (p.vtable, p.value)).meaning p.value) c.args.laws.now.policies.items in
    let before = reach_of g.S.Store g.M.MergeOperator g.T.BlockTransformer c.args.env.now in
    let after = reach_of g.S.Store g.M.MergeOperator g.T.BlockTransformer c.scan_prefix.new.env in
    record {
      «open» = c.scan_prefix.ensures.«open»;
      attempt = λ k within. read_refused policies before after k c.args.id.now (MayFind c.args.now) (FindStops c.args.now) c.args.core.now c.scan_prefix.new.core c.in-Err.error within c.in-Err.ensures.same
          (λ s settled. c.in-Err.ensures.undamaged k SerializableSnapshot [] s within settled) c.in-Err.ensures.cause;
      counts = c.in-Err.ensures.counts;
      reads = c.scan_prefix.ensures.reads;
    }

pub returns : goal.returns
returns g c =
    let policies = map (λ p. (goal.FilterPolicy-dyn g (p.vtable, p.value)).meaning p.value) c.args.laws.now.policies.items in
    let before = reach_of g.S.Store g.M.MergeOperator g.T.BlockTransformer c.args.env.now in
    let middle = reach_of g.S.Store g.M.MergeOperator g.T.BlockTransformer c.scan_prefix.new.env in
    let after = reach_of g.S.Store g.M.MergeOperator g.T.BlockTransformer c.walk-found.new.env in
    let named = c.in-Ok.ensures.named c.requires.within.0 SerializableSnapshot [] c.requires.within.1 in
    record {
      «open» = subst (HasTransaction c.walk-found.new.core) named.named c.walk-found.ensures.«open»;
      attempt = λ k within. found_by c.args.now policies before middle after k c.args.core.now c.scan_prefix.new.core c.walk-found.new.core c.args.id.now c.in-Ok.scan
          (record {
            within_before = within;
            within = c.in-Ok.ensures.within k SerializableSnapshot [] within;
            named = named.named;
            rows = rows_seen (rules_of k.settings before.meaning) k.state.commits (newest k) [] Ascending (prefix_range jobs_prefix);
            reading = λ s store. c.in-Ok.ensures.checked k SerializableSnapshot [] s within store;
            since = c.in-Ok.ensures.since;
            reads = c.scan_prefix.ensures.reads;
          })
          c.walk-found.ensures.reads
          c.walk-found.result
          (walks_at _ c.args.now middle after c.scan_prefix.new.core c.walk-found.new.core c.in-Ok.scan c.walk-found.result (to_z-of_z w64 c.args.now c.ranges.now) c.walk-found.ensures.to)
          (halts_at _ c.args.now middle after c.scan_prefix.new.core c.walk-found.new.core c.in-Ok.scan c.walk-found.result (to_z-of_z w64 c.args.now c.ranges.now) c.walk-found.ensures.stops);
      counts = c.walk-found.ensures.counts ∙ ap (unblamed_if (told_in db_error c.walk-found.result)) c.in-Ok.ensures.counts;
      reads = reads_then before middle after c.scan_prefix.ensures.reads c.walk-found.ensures.reads;
    }
