use Rattle.std.proofs.Common.{◌∙◌, ◌++◌, ℕ, List, ap, subst, refl, arith, Some}
use Rattle.std.proofs.lemmas.List.{take_all}
use Rattle.slate_types.specs.Faults.{Rose}
use Rattle.slate_store.proofs.Pieces.{taken_further, taken_within}
use Rattle.slate_store.proofs.sink.write_all.Goals as goal

pub loop-taken-preserved : goal.loop-taken-preserved
loop-taken-preserved g c = record {
  bound = taken_within c.args.piece.now c.loop-taken.taken c.in-Ok.count (omega arith) c.in-Ok.ensures.bound;
  content = λ before told.
      c.in-Ok.ensures.appended _ (c.loop-taken.invariant.content before told) ∙ ap Some (taken_further before c.args.piece.now c.loop-taken.taken c.in-Ok.count);
  still = c.in-Ok.ensures.still ∙ c.loop-taken.invariant.still;
}

pub returns-in-Err : goal.returns-in-Err
returns-in-Err g c =
    record {
      ok = λ before told. tt;
      part = λ before told. (c.loop-taken.taken, c.loop-taken-test.true, c.in-Err.ensures.failed ∙ c.loop-taken.invariant.content before told);
      cause = (refl, subst (λ (n : ℕ). Rose n (g.W.Sink.faults c.write.new.self)) c.loop-taken.invariant.still c.in-Err.ensures.cause);
      still = tt;
      later = omega (arith, c.loop-taken.invariant.still, c.write.ensures.later);
    }

pub returns : goal.returns
returns g c =
    record {
      ok = λ before told. c.loop-taken.invariant.content before told ∙ ap (λ (xs : List ℕ). Some (before ++ xs)) (take_all c.loop-taken.taken c.args.piece.now c.loop-taken-test.false);
      part = λ before told. tt;
      cause = tt;
      still = c.loop-taken.invariant.still;
      later = omega (arith, c.loop-taken.invariant.still);
    }
