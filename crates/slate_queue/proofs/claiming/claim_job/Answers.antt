use Rattle.std.proofs.Common.{ap, map, w64}
use Rattle.std.proofs.lemmas.Int.{to_z-of_z}
use Rattle.slate_store.specs.Reach.{reach_of}
use Rattle.slate_steps.specs.Reads.{unblamed_if}
use Rattle.slate_queue.specs.Calls.{db_error}
use Rattle.slate_queue.proofs.Finding.{claimed, finds_at, none_claimed, not_found, not_raised, raises_at}
use Rattle.slate_queue.proofs.claiming.claim_job.Goals as goal

pub returns-in-Ok : goal.returns-in-Ok
returns-in-Ok g c =
    let policies = map (λ p. (goal.FilterPolicy-dyn g (p.vtable, p.value)).meaning p.value) c.args.laws.now.policies.items in
    let before = reach_of g.S.Store g.M.MergeOperator g.T.BlockTransformer c.args.env.now in
    let after = reach_of g.S.Store g.M.MergeOperator g.T.BlockTransformer c.find_free.new.env in
    record {
      «open» = c.raise.ensures.«open»;
      attempt = λ k within. claimed c.args.now c.args.ms policies before after k c.find_free.new.core c.args.id.now c.raise.new.core c.in-Ok-Some.found c.in-Ok.claim (finds_at policies before after k c.find_free.new.core c.args.id.now _ c.args.now _ (to_z-of_z w64 c.args.now c.ranges.now) ((rw c.in-Ok-Some.field-0-is at c.in-Ok-Some.ensures.attempt) k within)) (raises_at _ c.args.now c.args.ms c.in-Ok-Some.found c.find_free.new.core c.raise.new.core c.args.id.now c.in-Ok.claim (to_z-of_z w64 c.args.now c.ranges.now) c.in-Ok.ensures.raises);
      counts = c.in-Ok-Some.ensures.counts;
      reads = c.find_free.ensures.reads;
    }

pub returns-in-Err-raise : goal.returns-in-Err-raise
returns-in-Err-raise g c =
    let policies = map (λ p. (goal.FilterPolicy-dyn g (p.vtable, p.value)).meaning p.value) c.args.laws.now.policies.items in
    let before = reach_of g.S.Store g.M.MergeOperator g.T.BlockTransformer c.args.env.now in
    let after = reach_of g.S.Store g.M.MergeOperator g.T.BlockTransformer c.find_free.new.env in
    record {
      «open» = c.raise.ensures.«open»;
      attempt = λ k within. not_raised c.args.now c.args.ms policies before after k c.find_free.new.core c.args.id.now c.raise.new.core c.in-Ok-Some.found c.in-Err-raise.error (finds_at policies before after k c.find_free.new.core c.args.id.now _ c.args.now _ (to_z-of_z w64 c.args.now c.ranges.now) ((rw c.in-Ok-Some.field-0-is at c.in-Ok-Some.ensures.attempt) k within)) c.in-Err-raise.ensures.same c.in-Err-raise.ensures.stops;
      counts = ap (unblamed_if (db_error c.in-Err-raise.error)) c.in-Ok-Some.ensures.counts;
      reads = c.find_free.ensures.reads;
    }

pub returns-in-Ok-None : goal.returns-in-Ok-None
returns-in-Ok-None g c =
    let policies = map (λ p. (goal.FilterPolicy-dyn g (p.vtable, p.value)).meaning p.value) c.args.laws.now.policies.items in
    let before = reach_of g.S.Store g.M.MergeOperator g.T.BlockTransformer c.args.env.now in
    let after = reach_of g.S.Store g.M.MergeOperator g.T.BlockTransformer c.find_free.new.env in
    record {
      «open» = c.find_free.ensures.«open»;
      attempt = λ k within. none_claimed c.args.now c.args.ms policies before after k c.find_free.new.core c.args.id.now (finds_at policies before after k c.find_free.new.core c.args.id.now _ c.args.now _ (to_z-of_z w64 c.args.now c.ranges.now) ((rw c.in-Ok-None.field-0-is at c.in-Ok-None.ensures.attempt) k within));
      counts = c.in-Ok-None.ensures.counts;
      reads = c.find_free.ensures.reads;
    }

pub returns-in-Err : goal.returns-in-Err
returns-in-Err g c =
    let policies = map (λ p. (goal.FilterPolicy-dyn g (p.vtable, p.value)).meaning p.value) c.args.laws.now.policies.items in
    let before = reach_of g.S.Store g.M.MergeOperator g.T.BlockTransformer c.args.env.now in
    let after = reach_of g.S.Store g.M.MergeOperator g.T.BlockTransformer c.find_free.new.env in
    record {
      «open» = c.find_free.ensures.«open»;
      attempt = λ k within. not_found c.args.now c.args.ms policies before after k c.find_free.new.core c.args.id.now c.in-Err.error (finds_at policies before after k c.find_free.new.core c.args.id.now _ c.args.now _ (to_z-of_z w64 c.args.now c.ranges.now) (c.in-Err.ensures.attempt k within));
      counts = c.in-Err.ensures.counts;
      reads = c.find_free.ensures.reads;
    }
