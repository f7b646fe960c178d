use Rattle.std.proofs.Common.{◌∙◌, Some, None, ap, refl, w64}
use Rattle.std.proofs.lemmas.Int.{to_z-of_z}
use Rattle.slate_types.specs.declared.config.IsolationLevel.TheVariants.{SerializableSnapshot}
use Rattle.slate_types.specs.Outside.{IsFault}
use Rattle.slate_store.specs.Reach.{reach_of}
use Rattle.slate_shared.specs.Passes.{PassModel}
use Rattle.slate_queue.proofs.CallLaws.{still_behind}
use Rattle.slate_queue.proofs.PassCalls.{committed_from, ended_from, finish_answered_on, finish_not_begun_on, finish_stopped_on, finish_uncommitted_on, leaves_from, pass_committed, pass_ended, pass_left, pass_unbegun, refused_from}
use Rattle.slate_queue.proofs.on_pass.finish_shared.Goals as goal

pub commit-requires-clause-table : goal.commit-requires-clause-table
commit-requires-clause-table g c κs lives = (c.finish_job.ensures.table ∙ c.in-Ok.ensures.begun.0, ap (λ (p : PassModel). p.table) c.in-Ok.ensures.same ∙ c.requires.table)

pub commit-requires-clause-meaning : goal.commit-requires-clause-meaning
commit-requires-clause-meaning g c κs lives = c.finish_job.ensures.reads.meaning ∙ c.requires.meaning

pub returns-in-Err : goal.returns-in-Err
returns-in-Err g c =
    let before = reach_of g.S.Store g.M.MergeOperator g.T.BlockTransformer c.args.env.now in
    let o = g.P.Parts.options in
    let m = g.P.Parts.meaning in
    let old = c.args.pass.now in
    record { called = finish_not_begun_on c.args.id c.args.lease c.args.now o m g.P.Parts.policies old c.begin.new.pass before c.in-Err.error c.in-Err.ensures.unbegun; counts = refl; same = pass_unbegun old c.begin.new.pass c.in-Err.error c.in-Err.ensures.unbegun }

pub returns-in-Err-finish_job : goal.returns-in-Err-finish_job
returns-in-Err-finish_job g c =
    let before = reach_of g.S.Store g.M.MergeOperator g.T.BlockTransformer c.args.env.now in
    let middle = reach_of g.S.Store g.M.MergeOperator g.T.BlockTransformer c.finish_job.new.env in
    let o = g.P.Parts.options in
    let m = g.P.Parts.meaning in
    let old = c.args.pass.now in
    let h = c.in-Err-finish_job.ensures.attempt old.seen c.in-Ok.ensures.begun.1 in
    let ended = ended_from c.finish_job.new.txn old c.begin.new.pass c.rollback.new.pass c.in-Ok.ensures.same c.rollback.ensures.ended in
    record {
      called = finish_stopped_on c.args.id c.args.lease c.args.now o m g.P.Parts.policies old c.rollback.new.pass before middle c.finish_job.new.txn c.in-Err-finish_job.error c.ranges.id.fits c.finish_job.ensures.reads h ended c.rollback.ensures.known c.rollback.ensures.legal c.rollback.ensures.vouched;
      counts = c.in-Err-finish_job.ensures.counts;
      same = pass_ended c.finish_job.new.txn old c.rollback.new.pass ended;
    }

pub returns-in-Err-commit : goal.returns-in-Err-commit
returns-in-Err-commit g c =
    let before = reach_of g.S.Store g.M.MergeOperator g.T.BlockTransformer c.args.env.now in
    let middle = reach_of g.S.Store g.M.MergeOperator g.T.BlockTransformer c.finish_job.new.env in
    let after = reach_of g.S.Store g.M.MergeOperator g.T.BlockTransformer c.commit.new.env in
    let o = g.P.Parts.options in
    let m = g.P.Parts.meaning in
    let old = c.args.pass.now in
    let h = c.in-Ok-finish_job.ensures.attempt old.seen c.in-Ok.ensures.begun.1 in
    let left = leaves_from o c.finish_job.new.txn h.done.steps old c.begin.new.pass c.commit.new.pass h.done.attempt c.in-Ok.ensures.same c.in-Err-commit.ensures.ended in
    record {
      called = finish_uncommitted_on c.args.id c.args.lease c.args.now o m g.P.Parts.policies old c.commit.new.pass before middle after c.finish_job.new.txn tt c.in-Err-commit.error c.ranges.id.fits c.finish_job.ensures.reads c.commit.ensures.reads h left c.commit.ensures.known c.commit.ensures.legal c.commit.ensures.vouched
          (refused_from o c.finish_job.new.txn (IsFault middle after c.in-Err-commit.error) c.in-Err-commit.error old c.begin.new.pass c.commit.new.pass c.in-Ok.ensures.same (c.in-Err-commit.ensures.cause old.seen SerializableSnapshot h.done.steps h.done.attempt c.requires.plain));
      counts = still_behind (Some c.in-Err-commit.error) before middle after (ap (λ e. reach_of g.S.Store g.M.MergeOperator g.T.BlockTransformer e) (c.commit.ensures.still old.seen SerializableSnapshot h.done.steps h.done.attempt)) c.in-Ok-finish_job.ensures.counts;
      same = pass_left o old c.commit.new.pass left;
    }

pub returns-in-Ok-commit : goal.returns-in-Ok-commit
returns-in-Ok-commit g c =
    let before = reach_of g.S.Store g.M.MergeOperator g.T.BlockTransformer c.args.env.now in
    let middle = reach_of g.S.Store g.M.MergeOperator g.T.BlockTransformer c.finish_job.new.env in
    let after = reach_of g.S.Store g.M.MergeOperator g.T.BlockTransformer c.commit.new.env in
    let o = g.P.Parts.options in
    let m = g.P.Parts.meaning in
    let old = c.args.pass.now in
    let h = c.in-Ok-finish_job.ensures.attempt old.seen c.in-Ok.ensures.begun.1 in
    let committed = committed_from o c.finish_job.new.txn c.in-Ok-commit.field-0 _ old c.begin.new.pass c.commit.new.pass c.in-Ok.ensures.same (c.in-Ok-commit.ensures.committed old.seen SerializableSnapshot h.done.steps h.done.attempt) in
    record {
      called = finish_answered_on c.args.id c.args.lease c.args.now o m g.P.Parts.policies old c.commit.new.pass before middle after c.finish_job.new.txn tt c.in-Ok-commit.field-0 _ (to_z-of_z w64 c.args.now c.ranges.now) c.ranges.id.fits c.finish_job.ensures.reads c.commit.ensures.reads h
          committed c.commit.ensures.known c.commit.ensures.legal c.commit.ensures.vouched;
      counts = still_behind None before middle after (ap (λ e. reach_of g.S.Store g.M.MergeOperator g.T.BlockTransformer e) (c.commit.ensures.still old.seen SerializableSnapshot h.done.steps h.done.attempt)) c.in-Ok-finish_job.ensures.counts;
      same = pass_committed o c.finish_job.new.txn c.in-Ok-commit.field-0 _ old c.commit.new.pass committed;
    }
