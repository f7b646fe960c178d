use Rattle.std.proofs.Common.{◌≤◌, ◌++◌, ◌∙◌, arith, length, subst, sym, take}
use Rattle.std.proofs.lemmas.List.{take_all}
use Rattle.slate_mem.specs.Batch.{Ops}
use Rattle.slate_steps.specs.Attempts.{IsAttempt}
use Rattle.slate_index.specs.Shown.{steps_of}
use Rattle.slate_index.proofs.Attempted.{attempt_more}
use Rattle.slate_index.proofs.on_pass.take_ops.Goals as goal

pub loop-key-preserved : goal.loop-key-preserved
loop-key-preserved g c = record {
  taken = λ from level ts h. attempt_more g.P.Parts.options from level ts c.args.ops.now c.loop-key.key-index _ _ c.take_op.new.txn c.loop-key-test.true c.loop-key-item.is
      (c.in-Ok.ensures.taken from level (ts ++ steps_of (take c.loop-key.key-index c.args.ops.now)) (c.loop-key.invariant.taken from level ts h));
  sees = λ v. c.take_op.ensures.sees (c.loop-key.invariant.sees v);
  table = c.take_op.ensures.more.0 ∙ c.loop-key.invariant.table;
  seen = c.take_op.ensures.more.1 ∙ c.loop-key.invariant.seen;
}

pub returns-in-Err-clause-still : goal.returns-in-Err-clause-still
returns-in-Err-clause-still g c = λ from level ts h. (steps_of (take c.loop-key.key-index c.args.ops.now), subst (IsAttempt g.P.Parts.options from level (ts ++ steps_of (take c.loop-key.key-index c.args.ops.now))) (sym c.in-Err.ensures.same) (c.loop-key.invariant.taken from level ts h))

pub returns-clause-taken : goal.returns-clause-taken
returns-clause-taken g c = λ from level ts h.
    let all : length c.args.ops.now ≤ c.loop-key.key-index = omega arith in
    subst (λ (os : Ops). IsAttempt g.P.Parts.options from level (ts ++ steps_of os) c.loop-key.txn) (take_all c.loop-key.key-index c.args.ops.now all) (c.loop-key.invariant.taken from level ts h)

pub returns-clause-still : goal.returns-clause-still
returns-clause-still g c = λ from level ts h. (steps_of (take c.loop-key.key-index c.args.ops.now), c.loop-key.invariant.taken from level ts h)
