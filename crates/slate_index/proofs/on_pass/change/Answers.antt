use Rattle.std.proofs.Common.{◌∙◌, ap, Some, option_copied, refl, sym, w64}
use Rattle.std.proofs.lemmas.Int.{to_z-of_z}
use Rattle.slate_types.specs.declared.config.IsolationLevel.TheVariants.{SerializableSnapshot}
use Rattle.slate_types.specs.Outside.{unblamed}
use Rattle.slate_store.specs.Reach.{reach_of}
use Rattle.slate_txn.specs.State.{Tx}
use Rattle.slate_steps.specs.Attempts.{HasCommittedBehind}
use Rattle.slate_index.specs.Calls.{change_steps}
use Rattle.slate_index.proofs.Attempted.{changed_there, committed_over, ended_over, left_there, none_there, refused_over, turned_there}
use Rattle.slate_index.proofs.Operating.{puts_some}
use Rattle.slate_index.proofs.on_pass.change.Goals as goal

pub returns-in-Err : goal.returns-in-Err
returns-in-Err g c =
    let before = reach_of g.S.Store g.M.MergeOperator g.T.BlockTransformer c.args.env.now in
    record {
      change = none_there g.P.Parts.options g.P.Parts.meaning g.P.Parts.policies (g.F.Fields.model c.args.fields.now) c.args.id.now (option_copied c.args.new) c.args.now before c.args.pass.now c.begin.new.pass c.in-Err.error c.in-Err.ensures.unbegun;
      counts = refl;
    }

pub unreachable-requires : goal.unreachable-requires
unreachable-requires g c =
    let fs = g.F.Fields.model c.args.fields.now in
    let new = option_copied c.args.new in
    let taken = c.in-Ok-take_steps.ensures.taken c.args.pass.now.seen c.in-Ok.ensures.begun.1 in
    let committed = rw c.in-Ok-None.field-0-is at (c.in-Ok-None.ensures.committed c.args.pass.now.seen SerializableSnapshot (change_steps fs c.args.id.now taken.answer new) taken.attempt) in
    puts_some fs c.args.id.now taken.answer new (sym (ap (λ (x : Tx). x.ops) taken.attempt.is) ∙ committed.next)

pub returns-in-Ok-Some : goal.returns-in-Ok-Some
returns-in-Ok-Some g c =
    let o = g.P.Parts.options in
    let before = reach_of g.S.Store g.M.MergeOperator g.T.BlockTransformer c.args.env.now in
    let mid = reach_of g.S.Store g.M.MergeOperator g.T.BlockTransformer c.take_steps.new.env in
    let after = reach_of g.S.Store g.M.MergeOperator g.T.BlockTransformer c.commit.new.env in
    let fs = g.F.Fields.model c.args.fields.now in
    let id = c.args.id.now in
    let new = option_copied c.args.new in
    let from = c.args.pass.now.seen in
    let t = c.take_steps.new.txn in
    let taken = c.in-Ok-take_steps.ensures.taken from c.in-Ok.ensures.begun.1 in
    let ts = change_steps fs id taken.answer new in
    let committed : HasCommittedBehind o t (Some c.in-Ok-Some.seq) c.args.now c.args.pass.now c.commit.new.pass = committed_over o t (Some c.in-Ok-Some.seq) _ c.args.now c.begin.new.pass c.args.pass.now c.commit.new.pass (to_z-of_z w64 c.args.now c.ranges.now) c.in-Ok.ensures.same
    (rw c.in-Ok-Some.field-0-is at (c.in-Ok-Some.ensures.committed from SerializableSnapshot ts taken.attempt)) in
    let still = c.commit.ensures.still from SerializableSnapshot ts taken.attempt in
    record {
      change = changed_there o g.P.Parts.meaning g.P.Parts.policies fs id new c.args.now before after c.args.pass.now c.commit.new.pass t mid taken
          (ap (λ e. reach_of g.S.Store g.M.MergeOperator g.T.BlockTransformer e) still) c.take_steps.ensures.reads
          c.in-Ok-Some.seq c.is_named.ensures committed c.commit.ensures.known c.commit.ensures.legal c.commit.ensures.vouched;
      counts = ap (λ e. (reach_of g.S.Store g.M.MergeOperator g.T.BlockTransformer e).faults) still ∙ c.in-Ok-take_steps.ensures.counts;
    }

pub returns-in-Err-commit : goal.returns-in-Err-commit
returns-in-Err-commit g c =
    let o = g.P.Parts.options in
    let before = reach_of g.S.Store g.M.MergeOperator g.T.BlockTransformer c.args.env.now in
    let mid = reach_of g.S.Store g.M.MergeOperator g.T.BlockTransformer c.take_steps.new.env in
    let after = reach_of g.S.Store g.M.MergeOperator g.T.BlockTransformer c.commit.new.env in
    let fs = g.F.Fields.model c.args.fields.now in
    let id = c.args.id.now in
    let new = option_copied c.args.new in
    let from = c.args.pass.now.seen in
    let t = c.take_steps.new.txn in
    let taken = c.in-Ok-take_steps.ensures.taken from c.in-Ok.ensures.begun.1 in
    let ts = change_steps fs id taken.answer new in
    let still = c.commit.ensures.still from SerializableSnapshot ts taken.attempt in
    record {
      change = turned_there o g.P.Parts.meaning g.P.Parts.policies fs id new c.args.now before after c.args.pass.now c.commit.new.pass t mid taken
          (ap (λ e. reach_of g.S.Store g.M.MergeOperator g.T.BlockTransformer e) still) c.take_steps.ensures.reads
          c.in-Err-commit.error (ended_over t c.begin.new.pass c.args.pass.now c.commit.new.pass c.in-Ok.ensures.same c.in-Err-commit.ensures.ended)
          (refused_over o t c.begin.new.pass c.args.pass.now c.commit.new.pass mid after c.in-Err-commit.error c.in-Ok.ensures.same (c.in-Err-commit.ensures.cause from SerializableSnapshot ts taken.attempt c.requires.whole));
      counts = ap (unblamed c.in-Err-commit.error) (ap (λ e. (reach_of g.S.Store g.M.MergeOperator g.T.BlockTransformer e).faults) still ∙ c.in-Ok-take_steps.ensures.counts);
    }

pub returns-in-Err-take_steps : goal.returns-in-Err-take_steps
returns-in-Err-take_steps g c =
    let before = reach_of g.S.Store g.M.MergeOperator g.T.BlockTransformer c.args.env.now in
    let mid = reach_of g.S.Store g.M.MergeOperator g.T.BlockTransformer c.take_steps.new.env in
    record {
      change = left_there g.P.Parts.options g.P.Parts.meaning g.P.Parts.policies (g.F.Fields.model c.args.fields.now) c.args.id.now (option_copied c.args.new) c.args.now before mid c.args.pass.now c.rollback.new.pass c.take_steps.new.txn
          c.in-Err-take_steps.error (c.in-Err-take_steps.ensures.stopped c.args.pass.now.seen c.in-Ok.ensures.begun.1) (ended_over c.take_steps.new.txn c.begin.new.pass c.args.pass.now c.rollback.new.pass c.in-Ok.ensures.same c.rollback.ensures.ended) c.rollback.ensures.known c.rollback.ensures.legal c.take_steps.ensures.reads;
      counts = c.in-Err-take_steps.ensures.counts;
    }

pub commit-requires-clause-meaning : goal.commit-requires-clause-meaning
commit-requires-clause-meaning g c κs within = c.take_steps.ensures.reads.meaning ∙ c.requires.meaning
