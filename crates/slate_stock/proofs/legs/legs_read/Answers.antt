use Rattle.std.proofs.Common.{◌≡◌, ◌+◌, [], ◌∷◌, ◌++◌, drop, sym, ap, subst, ◌∙◌, arith}
use Rattle.std.proofs.lemmas.List.{drop_all}
use Rattle.slate_stock.specs.Legs.{IsRead}
use Rattle.slate_stock.proofs.LegLaws.{IsLegWalk, walk_begins, walk_goes, walk_stops, walk_ends}
use Rattle.slate_stock.proofs.legs.legs_read.Goals as goal

pub loop-step-init : goal.loop-step-init
loop-step-init c =
    subst (λ xs. IsLegWalk IsRead xs c.new-amounts.result.items c.args.steps.now c.args.steps.now) (sym c.new-keys.ensures.items)
    (subst (λ xs. IsLegWalk IsRead [] xs c.args.steps.now c.args.steps.now) (sym c.new-amounts.ensures.items) (walk_begins IsRead c.args.steps.now))

pub loop-step-preserved : goal.loop-step-preserved
loop-step-preserved c =
    let keys : c.push.new.self.items ≡ c.loop-step.keys.items ++ (c.in-Some.key.now ∷ []) = c.in_ok-push.ensures.items ∙ ap (λ k. c.loop-step.keys.items ++ (k ∷ [])) c.in_ok-clone.ensures.cases in
    subst (λ xs. IsLegWalk IsRead xs c.push-in-loop-step.new.self.items c.args.steps.now (drop (c.loop-step.step-index + 1) c.args.steps.now)) (sym keys)
    (subst (λ xs. IsLegWalk IsRead (c.loop-step.keys.items ++ (c.in-Some.key.now ∷ [])) xs c.args.steps.now (drop (c.loop-step.step-index + 1) c.args.steps.now)) (sym c.in_ok-push-2.ensures.items)
    (walk_goes IsRead c.loop-step.keys.items c.loop-step.amounts.items c.args.steps.now c.loop-step.step-index _ c.step-item.result c.in-Some.key.now c.in-Some.amount (omega arith) c.step-item.is c.in-Some.ensures.some c.loop-step.invariant))

pub returns-in_default-clause-none : goal.returns-in_default-clause-none
returns-in_default-clause-none c = λ e ks ns h.
    walk_stops IsRead c.loop-step.keys.items c.loop-step.amounts.items c.args.steps.now c.loop-step.step-index _ c.step-item.result (omega arith) c.step-item.is (λ k n x. c.read_by.ensures.none c.in_default.is k n x) c.loop-step.invariant ks ns h

pub returns-clause-some : goal.returns-clause-some
returns-clause-some c =
    walk_ends IsRead c.loop-step.keys.items c.loop-step.amounts.items c.args.steps.now (drop c.loop-step.step-index c.args.steps.now) (drop_all c.loop-step.step-index c.args.steps.now (omega arith)) c.loop-step.invariant
