use Rattle.std.proofs.Common.{map}
use Rattle.std.proofs.lemmas.Result.{IfOk-from_err}
use Rattle.slate_types.specs.declared.config.IsolationLevel.TheVariants.{SerializableSnapshot}
use Rattle.slate_db.proofs.CommitFacts.{of_transaction}
use Rattle.slatedb.proofs.Turning.{begin_stands, commit_alone}
use Rattle.slatedb.proofs.Undone.{on_err, undone_back, undone_ended, undone_none}
use Rattle.slatedb.proofs.turns.read_by_turns.Goals as goal

pub open_up-read-requires-clause-begun : goal.open_up-read-requires-clause-begun
open_up-read-requires-clause-begun g c κs lives = c.in_ok-id.ensures.open

pub rollback-requires : goal.rollback-requires
rollback-requires g c = (c.open_up-read.ensures.stay c.in_ok-id.id).transaction c.in_ok-id.ensures.open

pub commit-requires-after_bounds : goal.commit-requires-after_bounds
commit-requires-after_bounds g c κs lives = (c.open_up-read.ensures.stay c.in_ok-id.id).transaction c.in_ok-id.ensures.open

pub returns-in_err-id : goal.returns-in_err-id
returns-in_err-id g c = record {
  at_their_places = λ stands. IfOk-from_err c.from_residual.result _ c.from_residual.ensures.0;
  undone = on_err _ c.from_residual.result (undone_none _ _ c.in_err-id.ensures.same);
}

pub returns-in_err-seq : goal.returns-in_err-seq
returns-in_err-seq g c = record {
  at_their_places = λ stands. IfOk-from_err c.from_residual-in_err-seq.result _ c.from_residual-in_err-seq.ensures.0;
  undone = on_err _ c.from_residual-in_err-seq.result
      (undone_ended c.args.core.now c.begin.new.self c.open_up-read.new.core c.commit.new.self c.in_ok-id.id SerializableSnapshot c.in_ok-id._begin c.in_ok-id.ensures.fresh c.in_ok-id.ensures.step
      c.open_up-read.ensures.alone
      (of_transaction c.open_up-read.new.core c.in_ok-id.id ((c.open_up-read.ensures.stay c.in_ok-id.id).transaction c.in_ok-id.ensures.open) (λ t is. (c.in_err-seq.ensures.commits t is).ended)));
}

pub returns-in-Err-clause-undone : goal.returns-in-Err-clause-undone
returns-in-Err-clause-undone g c = undone_back c.args.core.now c.begin.new.self c.open_up-read.new.core c.rollback.new.self c.in_ok-id.id SerializableSnapshot c.in_ok-id._begin c.in_ok-id.ensures.fresh c.in_ok-id.ensures.step
    c.open_up-read.ensures.alone c.rollback.ensures.step

pub returns : goal.returns
returns g c = record {
  undone = tt;
  at_their_places = λ stands.
      let policies = map (λ p. (goal.FilterPolicy-dyn g (p.vtable, p.value)).meaning p.value) c.args.laws.now.policies.items in
      let begun = begin_stands policies _ _ c.args.core.now c.begin.new.self c.in_ok-id.id SerializableSnapshot c.in_ok-id._begin c.transactions.ensures.other_events c.in_ok-id.ensures.event c.in_ok-id.ensures.others c.in_ok-id.ensures.kept stands in
      commit_alone _ c.open_up-read.new.core c.commit.new.self c.in_ok-id.id c.in_ok-seq.seq _ c.transactions.ensures.commits c.transactions.ensures.at_their_places
      ((c.open_up-read.ensures.stay c.in_ok-id.id).transaction c.in_ok-id.ensures.open) c.journal.ensures.replays
      (λ t is. (c.in_ok-seq.ensures.commits t is).event) c.journal-2.ensures.legal (c.in_default.ensures.vouched begun);
}
