use Rattle.std.proofs.Common.{◌≡◌, ◌∙◌, ◌++◌, ◌∷◌, [], true, ap, sym, subst, refl}
use Rattle.std.proofs.lemmas.Result.{IfOk-from_err}
use Rattle.slate_mem.specs.declared.WriteOp.TheVariants.{Merge}
use Rattle.slate_mem.specs.BatchModel.{with_op, IsBatchOf}
use Rattle.slate_mem.specs.contracts.batch.WriteBatch.{the_view}
use Rattle.slate_mem.proofs.AppendLaws.{whole_append, view_append}
use Rattle.slate_mem.proofs.KeptLaws.{batch_of_more}
use Rattle.slate_types.proofs.Exits.{err_exit}
use Rattle.slate_mem.proofs.batch.WriteBatch.append.Goals as goal
use Rattle.slate_mem.proofs.batch.WriteBatch.append.Goals.{In_ok-add}

pub invariant_of-self-2 : goal.invariant_of-self-2
invariant_of-self-2 c =
    let m = c.in_ok-add.ensures.more in
    whole_append _ _ _ c.args.key (Merge c.args.value c.args.options) m.list c.requires refl m.items m.is m.rising c.self.invariant

becomes : (c : In_ok-add) → the_view (record { alloc = c.self.inside.alloc; ops = c.add.new.self; has_merge_ops = true }) ≡ with_op c.args.self.now c.args.key (Merge c.args.value c.args.options)
becomes c =
    let m = c.in_ok-add.ensures.more in
    view_append _ _ _ c.args.key c.args.value c.args.options m.list c.requires m.items m.is m.rising c.self.invariant ∙ ap (λ b. with_op b c.args.key (Merge c.args.value c.args.options)) c.self.view_is

pub returns-clause-taken : goal.returns-clause-taken
returns-clause-taken c = becomes (goal.at.returns-clause-taken c).In_ok-add

pub returns-clause-means : goal.returns-clause-means
returns-clause-means c = λ ops h. subst (IsBatchOf (ops ++ ((c.args.key, Merge c.args.value c.args.options) ∷ []))) (sym (becomes (goal.at.returns-clause-means c).In_ok-add)) (batch_of_more c.args.self.now ops c.args.key (Merge c.args.value c.args.options) h)

pub returns-in_err-add-clause-taken : goal.returns-in_err-add-clause-taken
returns-in_err-add-clause-taken c = IfOk-from_err c.from_residual.result _ c.from_residual.ensures.0

pub returns-in_err-add-clause-means : goal.returns-in_err-add-clause-means
returns-in_err-add-clause-means c = λ ops is. IfOk-from_err c.from_residual.result _ c.from_residual.ensures.0

pub returns-in_err-add-clause-cause : goal.returns-in_err-add-clause-cause
returns-in_err-add-clause-cause c = err_exit c.from_residual.result _ c.from_residual.ensures.1 _ refl
