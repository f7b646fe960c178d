use Rattle.std.proofs.Common.{◌≡◌, ◌∙◌, ◌++◌, ◌∷◌, [], ap, sym, subst, refl}
use Rattle.std.proofs.lemmas.Result.{IfOk-from_err}
use Rattle.slate_mem.specs.BatchModel.{with_op, IsBatchOf}
use Rattle.slate_mem.specs.contracts.batch.WriteBatch.{the_view}
use Rattle.slate_mem.proofs.KeptLaws.{whole_set, view_set, batch_of_more}
use Rattle.slate_types.proofs.Exits.{err_exit}
use Rattle.slate_mem.specs.KeyedOps.{one_op}
use Rattle.slate_mem.proofs.batch.WriteBatch.replace.Goals as goal
use Rattle.slate_mem.proofs.batch.WriteBatch.replace.Goals.{In_ok-replace}

pub invariant_of-self-2 : goal.invariant_of-self-2
invariant_of-self-2 c =
    let e = c.in_ok-replace.ensures in
    whole_set _ _ _ c.args.key c.args.op (one_op c.args.op) c.requires.fine c.requires.replaces refl e.entries e.rising c.self.invariant

becomes : (c : In_ok-replace) → the_view (record { alloc = c.self.inside.alloc; ops = c.replace.new.self; has_merge_ops = c.self.inside.has_merge_ops }) ≡ with_op c.args.self.now c.args.key c.args.op
becomes c =
    let e = c.in_ok-replace.ensures in
    view_set _ _ _ c.args.key c.args.op (one_op c.args.op) c.requires.fine c.requires.replaces refl e.entries e.rising c.self.invariant ∙ ap (λ b. with_op b c.args.key c.args.op) c.self.view_is

pub returns-clause-taken : goal.returns-clause-taken
returns-clause-taken c = becomes (goal.at.returns-clause-taken c).In_ok-replace

pub returns-clause-means : goal.returns-clause-means
returns-clause-means c = λ ops h. subst (IsBatchOf (ops ++ ((c.args.key, c.args.op) ∷ []))) (sym (becomes (goal.at.returns-clause-means c).In_ok-replace)) (batch_of_more c.args.self.now ops c.args.key c.args.op h)

pub returns-in_err-replace-clause-taken : goal.returns-in_err-replace-clause-taken
returns-in_err-replace-clause-taken c = IfOk-from_err c.from_residual.result _ c.from_residual.ensures.0

pub returns-in_err-replace-clause-means : goal.returns-in_err-replace-clause-means
returns-in_err-replace-clause-means c = λ ops is. IfOk-from_err c.from_residual.result _ c.from_residual.ensures.0

pub returns-in_err-replace-clause-cause : goal.returns-in_err-replace-clause-cause
returns-in_err-replace-clause-cause c = err_exit c.from_residual.result _ c.from_residual.ensures.1 _ refl
