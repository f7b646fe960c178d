use Rattle.std.proofs.Common.{ℤ, ◌≡◌, ◌∙◌, None, Option, Some, refl, subst, sym, w64}
use Rattle.std.proofs.lemmas.Int.{to_z-of_z}
use Rattle.slate_store.specs.Reach.{reach_of}
use Rattle.slate_index.specs.declared.error.IndexError.{IndexError}
use Rattle.slate_index.specs.Attempting.{IsChangeAttempt}
use Rattle.slate_index.proofs.Attempted.{first_there, untried_there}
use Rattle.slate_index.proofs.on_pass.put_record_shared.Goals as goal

pub returns-in-Err-clause-change : goal.returns-in-Err-clause-change
returns-in-Err-clause-change g c =
    let before = reach_of g.S.Store g.M.MergeOperator g.T.BlockTransformer c.args.env.now in
    untried_there g.P.Parts.options g.P.Parts.meaning g.P.Parts.policies (g.F.Fields.model c.args.fields.now) c.args.id.now c.args.value.now c.args.now before c.args.pass.now c.in-Err.error c.in-Err.ensures.cause

pub returns-in-Ok-clause-change : goal.returns-in-Ok-clause-change
returns-in-Ok-clause-change g c =
    let before = reach_of g.S.Store g.M.MergeOperator g.T.BlockTransformer c.args.env.now in
    let after = reach_of g.S.Store g.M.MergeOperator g.T.BlockTransformer c.change.new.env in
    let fs = g.F.Fields.model c.args.fields.now in
    subst (λ (now : ℤ). IsChangeAttempt g.P.Parts.options g.P.Parts.meaning g.P.Parts.policies fs c.args.id.now (Some c.args.value.now) now before after c.args.pass.now c.change.new.pass c.change.result)
    (to_z-of_z w64 c.args.now c.ranges.now) c.change.ensures.change

pub returns-in-Err-clause-first : goal.returns-in-Err-clause-first
returns-in-Err-clause-first g c = λ e is. (first_there c.in-Err.error e _ (c.in-Err.ensures.first e is), refl, refl)

pub returns-in-Ok-clause-first : goal.returns-in-Ok-clause-first
returns-in-Ok-clause-first g c = λ e is. (let clash : ◌≡◌ {A = Option IndexError} None (Some e) = sym c.in-Ok.ensures.passes ∙ is in cc)
