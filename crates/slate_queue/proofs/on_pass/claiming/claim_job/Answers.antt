use Rattle.std.proofs.Common.{◌∙◌, ap, w64}
use Rattle.std.proofs.lemmas.Int.{to_z-of_z}
use Rattle.slate_store.specs.Reach.{reach_of}
use Rattle.slate_steps.specs.Reads.{unblamed_if}
use Rattle.slate_queue.specs.Calls.{db_error}
use Rattle.slate_queue.proofs.PassFinding.{claimed_on, finds_on_at, none_claimed_on, not_found_on, not_raised_on, raises_on_at}
use Rattle.slate_queue.proofs.on_pass.claiming.claim_job.Goals as goal

pub returns-in-Ok : goal.returns-in-Ok
returns-in-Ok g c =
    let before = reach_of g.S.Store g.M.MergeOperator g.T.BlockTransformer c.args.env.now in
    let after = reach_of g.S.Store g.M.MergeOperator g.T.BlockTransformer c.find_free.new.env in
    let o = g.P.Parts.options in
    let m = g.P.Parts.meaning in
    let policies = g.P.Parts.policies in
    record {
      attempt = λ from h. claimed_on c.args.now c.args.ms o m policies from before after c.find_free.new.txn c.raise.new.txn c.in-Ok-Some.found c.in-Ok.claim
          (finds_on_at o m policies from before after c.find_free.new.txn _ c.args.now _ (to_z-of_z w64 c.args.now c.ranges.now) ((rw c.in-Ok-Some.field-0-is at c.in-Ok-Some.ensures.attempt) from h))
          (raises_on_at _ c.args.now c.args.ms o m c.in-Ok-Some.found c.find_free.new.txn c.raise.new.txn c.in-Ok.claim (to_z-of_z w64 c.args.now c.ranges.now) c.in-Ok.ensures.raises);
      table = c.raise.ensures.table ∙ c.find_free.ensures.table;
      counts = c.in-Ok-Some.ensures.counts;
      reads = c.find_free.ensures.reads;
    }

pub returns-in-Err-raise : goal.returns-in-Err-raise
returns-in-Err-raise g c =
    let before = reach_of g.S.Store g.M.MergeOperator g.T.BlockTransformer c.args.env.now in
    let after = reach_of g.S.Store g.M.MergeOperator g.T.BlockTransformer c.find_free.new.env in
    let o = g.P.Parts.options in
    let m = g.P.Parts.meaning in
    let policies = g.P.Parts.policies in
    record {
      attempt = λ from h. not_raised_on c.args.now c.args.ms o m policies from before after c.find_free.new.txn c.raise.new.txn c.in-Ok-Some.found c.in-Err-raise.error
          (finds_on_at o m policies from before after c.find_free.new.txn _ c.args.now _ (to_z-of_z w64 c.args.now c.ranges.now) ((rw c.in-Ok-Some.field-0-is at c.in-Ok-Some.ensures.attempt) from h)) c.in-Err-raise.ensures.same c.in-Err-raise.ensures.stops;
      table = c.raise.ensures.table ∙ c.find_free.ensures.table;
      counts = ap (unblamed_if (db_error c.in-Err-raise.error)) c.in-Ok-Some.ensures.counts;
      reads = c.find_free.ensures.reads;
    }

pub returns-in-Ok-None : goal.returns-in-Ok-None
returns-in-Ok-None g c =
    let before = reach_of g.S.Store g.M.MergeOperator g.T.BlockTransformer c.args.env.now in
    let after = reach_of g.S.Store g.M.MergeOperator g.T.BlockTransformer c.find_free.new.env in
    let o = g.P.Parts.options in
    let m = g.P.Parts.meaning in
    let policies = g.P.Parts.policies in
    record {
      attempt = λ from h. none_claimed_on c.args.now c.args.ms o m policies from before after c.find_free.new.txn (finds_on_at o m policies from before after c.find_free.new.txn _ c.args.now _ (to_z-of_z w64 c.args.now c.ranges.now) ((rw c.in-Ok-None.field-0-is at c.in-Ok-None.ensures.attempt) from h));
      table = c.find_free.ensures.table;
      counts = c.in-Ok-None.ensures.counts;
      reads = c.find_free.ensures.reads;
    }

pub returns-in-Err : goal.returns-in-Err
returns-in-Err g c =
    let before = reach_of g.S.Store g.M.MergeOperator g.T.BlockTransformer c.args.env.now in
    let after = reach_of g.S.Store g.M.MergeOperator g.T.BlockTransformer c.find_free.new.env in
    let o = g.P.Parts.options in
    let m = g.P.Parts.meaning in
    let policies = g.P.Parts.policies in
    record {
      attempt = λ from h. not_found_on c.args.now c.args.ms o m policies from before after c.find_free.new.txn c.in-Err.error (finds_on_at o m policies from before after c.find_free.new.txn _ c.args.now _ (to_z-of_z w64 c.args.now c.ranges.now) (c.in-Err.ensures.attempt from h));
      table = c.find_free.ensures.table;
      counts = c.in-Err.ensures.counts;
      reads = c.find_free.ensures.reads;
    }

pub raise-requires : goal.raise-requires
raise-requires g c =
    let attempt = rw c.in-Ok-Some.field-0-is at c.in-Ok-Some.ensures.attempt in
    record { found = (attempt c.requires.begun.0 c.requires.begun.1).done.is.0 }
