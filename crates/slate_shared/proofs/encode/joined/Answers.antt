use Rattle.std.proofs.Common.{inr, rules, ◌≡◌, [], arith}
use Rattle.std.proofs.lemmas.List.{nil_from_length}
use Rattle.std.proofs.lemmas.Result.{err_from_is_err_and}
use Rattle.std.specs.Vec.Iter.{into_iter_items}
use Rattle.slate_shared.proofs.Encoding.{joined_begin, joined_end, joined_err, joined_one, made_as}
use Rattle.slate_shared.proofs.encode.joined.Goals as goal

pub loop-bench-init : goal.loop-bench-init
loop-bench-init g c =
    let gives : into_iter_items c.into_iter-bench-iterator.result ≡ c.args.benches.items = search rules in
    joined_begin _ _ _ _ c.new-all.ensures.items gives

pub loop-bench-preserved : goal.loop-bench-preserved
loop-bench-preserved g c = joined_one _ _ _ _ _ _ _ _ c.loop-bench.invariant c.in-Some.ensures.steps.0 (made_as _ _ _ c.in_ok-made.was) c.in_ok-append.ensures.items

pub returns-clause-all : goal.returns-clause-all
returns-clause-all g c =
    let none : into_iter_items c.loop-bench.bench-iterator ≡ [] = nil_from_length _ (omega (arith, c.in-None.ensures.steps.0)) in
    joined_end _ _ _ _ c.loop-bench.invariant none

pub returns-in_err-made-clause-cause : goal.returns-in_err-made-clause-cause
returns-in_err-made-clause-cause g c =
    let p = err_from_is_err_and c.from_residual.result c.from_residual.ensures.1 in
    rw (p.1, p.2) (inr (joined_err _ _ _ _ _ _ _ c.loop-bench.invariant c.in-Some.ensures.steps.0 (made_as _ _ _ c.in_err-made.was)))
