use Rattle.std.proofs.Common.{◌≡◌, ◌++◌, ◌∷◌, [], ◌∙◌, ap, rules}
use Rattle.slate_mem.proofs.FoldingLaws.{last_first}
use Rattle.slate_mem.proofs.FoldSteps.{fold_of_group}
use Rattle.slate_mem.proofs.key_fold.add_folded.Goals as goal

pub returns-clause-row : goal.returns-clause-row
returns-clause-row g c = λ k keys based.
    let rows = c.args.rows.now.items in
    let popped : rows ≡ c.pop.new.self.items ++ (c.in-Some.oldest ∷ []) = search rules in
    c.in_ok-push.ensures.items
    ∙ ap (λ xs. c.args.folded.now.items ++ xs) (fold_of_group (g.M.MergeOperator.combine c.args.operator.now) k c.in-Some.oldest c.in_ok-row.row rows c.pop.new.self.items c.deref.result.now keys based
    (last_first rows c.pop.new.self.items c.in-Some.oldest popped) (c.deref.ensures.value ∙ c.reverse.ensures.items) c.in_ok-row.ensures.row)
