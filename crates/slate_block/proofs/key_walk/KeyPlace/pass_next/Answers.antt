use Rattle.std.proofs.Common.{◌≡◌, ◌-◌, ℕ, Option, refl, subst, inr, arith}
use Rattle.std.proofs.lemmas.Result.{err_from_is_err_and}
use Rattle.slate_types.specs.declared.error.SlateDBError.TheVariants.{OutOfMemory}
use Rattle.slate_block.specs.declared.row_groups.RowGroup.{RowGroup}
use Rattle.slate_block.specs.GroupWalks.{as_place, PassesRow}
use Rattle.slate_block.proofs.GroupSteps.{full_left, refused_or}
use Rattle.slate_block.proofs.KeySteps.{group_goes, group_stays, none_of}
use Rattle.slate_block.proofs.key_walk.KeyPlace.pass_next.Goals as goal

pub returns-then-self-eq0-clause-cause : goal.returns-then-self-eq0-clause-cause
returns-then-self-eq0-clause-cause c = rw c.corrupt.ensures (inr (full_left c.args.body.now (as_place c.args.self.now).group c.requires c.if-self-eq0.true))

pub returns-in_err-end-clause-cause : goal.returns-in_err-end-clause-cause
returns-in_err-end-clause-cause c =
    let p = err_from_is_err_and c.from_residual.result c.from_residual.ensures.1 in
    rw (p.1, p.2) (refused_or c.args.body.now (as_place c.args.self.now).group c.in_err-end.field-0.0 OutOfMemory c.requires (omega (arith, c.if-self-eq0.false)) c.in_err-end.ensures.cause)

pub returns-in_default-clause-goes : goal.returns-in_default-clause-goes
returns-in_default-clause-goes c =
    let a = c.args in
    let group = (as_place a.self.now).group in
    let rest : RowGroup = record { at = group.at; end = group.end; room = group.room; is_last = group.is_last; previous = c.pass_row.new.previous.items } in
    let goes = subst (λ (o : Option ℕ). PassesRow a.body.now group.previous group.at group.end a.key.now rest.previous o) (none_of c.in_ok-end.field-0 c.in_default.not-Some) c.in_ok-end.ensures.goes in
    group_stays a.body.now a.key.now group rest c.requires (omega (arith, c.if-self-eq0.false)) refl refl refl refl goes

pub returns-clause-goes : goal.returns-clause-goes
returns-clause-goes c =
    let a = c.args in
    let group = (as_place a.self.now).group in
    let rest : RowGroup = record { at = c.in-Some.end; end = group.end; room = group.room - 1; is_last = group.is_last; previous = c.pass_row.new.previous.items } in
    let goes = subst (λ (o : Option ℕ). PassesRow a.body.now group.previous group.at group.end a.key.now rest.previous o) c.in-Some.is c.in_ok-end.ensures.goes in
    group_goes a.body.now a.key.now group rest c.requires (omega (arith, c.if-self-eq0.false)) refl refl goes
