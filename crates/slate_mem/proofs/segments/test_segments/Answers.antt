use Rattle.std.proofs.Common.{inl, inr}
use Rattle.slate_types.proofs.Exits.{err_exit}
use Rattle.slate_mem.proofs.NestLaws.{refused_next, refused_none}
use Rattle.slate_mem.proofs.segments.test_segments.Goals as goal

pub returns-in_err-test_both-clause-cause : goal.returns-in_err-test_both-clause-cause
returns-in_err-test_both-clause-cause c =
    let rising = c.into_iter-prefix-iterator.ensures.into_iter_gives.4 in
    err_exit c.from_residual.result _ c.from_residual.ensures.1 _
    (elim c.in_err-test_both.ensures.cause [ inl m ↦ inl m | inr f ↦ inr (refused_next c.args.recorded.now.keys c.args.own.now.keys _ _ c.in-Some.prefix.now _ rising c.in-Some.ensures.steps c.loop-prefix.invariant f) ])

pub returns-clause-fine : goal.returns-clause-fine
returns-clause-fine c =
    refused_none c.args.recorded.now.keys c.args.own.now.keys _ c.into_iter-prefix-iterator.ensures.into_iter_gives.4 c.in-None.ensures.steps.0 c.loop-prefix.invariant
