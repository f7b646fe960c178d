use Rattle.std.proofs.Common.{◌≡◌, ◌∷◌, ◌++◌, [], ◌∙◌, ℕ, List, rules, reverse, arith}
use Rattle.std.proofs.lemmas.Result.{IfOk-from_err}
use Rattle.slate_types.specs.Fold.{IsLawful, KeepsShort}
use Rattle.slate_types.specs.Join.{AreOf}
use Rattle.slate_mem.proofs.FoldingLaws.{Joined, joined, last_first}
use Rattle.slate_mem.proofs.fold.join_all.Goals as goal

pub loop-newer-preserved : goal.loop-newer-preserved
loop-newer-preserved g c =
    let combine = g.M.MergeOperator.combine in
    let popped : c.loop-newer.rows.items ≡ c.pop-in-loop-newer.new.self.items ++ (c.in-Some-pop.newer ∷ []) = search rules in
    let one : (k : List ℕ) → IsLawful (combine c.args.operator.now k) → KeepsShort (combine c.args.operator.now k) → AreOf k (c.in-Some.row ∷ reverse c.pop.new.self.items) →
    Joined (combine c.args.operator.now) k c.in_ok-row.row (reverse c.pop-in-loop-newer.new.self.items) (c.loop-newer.row ∷ reverse c.loop-newer.rows.items) =
    λ k law keeps h. joined (combine c.args.operator.now) (combine c.loop-newer.operator) k c.loop-newer.row c.in-Some-pop.newer c.in_ok-row.row c.loop-newer.rows.items c.pop-in-loop-newer.new.self.items law keeps c.loop-newer.invariant.same
    (last_first c.loop-newer.rows.items c.pop-in-loop-newer.new.self.items c.in-Some-pop.newer popped) c.in_ok-row.ensures.row (c.loop-newer.invariant.are k law keeps h) in
    record {
      same = c.join.ensures.same ∙ c.loop-newer.invariant.same;
      later = omega (arith, c.loop-newer.invariant.later, c.join.ensures.later);
      still = c.in_ok-row.ensures.still ∙ c.loop-newer.invariant.still;
      are = λ k law keeps h. (one k law keeps h).are;
      fold = λ k law keeps h. (one k law keeps h).fold ∙ c.loop-newer.invariant.fold k law keeps h;
    }

pub returns-in_err-row-clause-row : goal.returns-in_err-row-clause-row
returns-in_err-row-clause-row g c = λ k law keeps of. IfOk-from_err c.from_residual.result _ c.from_residual.ensures.0

pub returns-in_err-row-clause-same : goal.returns-in_err-row-clause-same
returns-in_err-row-clause-same g c = c.join.ensures.same ∙ c.loop-newer.invariant.same

pub returns-in_err-row-clause-later : goal.returns-in_err-row-clause-later
returns-in_err-row-clause-later g c = omega (arith, c.loop-newer.invariant.later, c.join.ensures.later)
