use Rattle.std.proofs.Common.{◌≡◌, ◌+◌, ℕ, Option, Some, None, Err, length, get_or, nat_eq, refl, subst}
use Rattle.std.proofs.lemmas.Result.{err_from_is_err_and}
use Rattle.slate_types.specs.declared.error.SlateDBError.TheVariants.{OutOfMemory}
use Rattle.slate_block.specs.declared.walk_v2.BlockPlace.{BlockPlace}
use Rattle.slate_block.specs.GroupWalks.{as_place, PassesRow}
use Rattle.slate_block.proofs.GroupSteps.{behind_refused, first_refused}
use Rattle.slate_block.proofs.KeySteps.{first_goes, first_stays, none_of}
use Rattle.slate_block.proofs.key_walk.KeyPlace.pass_first.Goals as goal

pub returns-in_err-end-clause-cause : goal.returns-in_err-end-clause-cause
returns-in_err-end-clause-cause c =
    let a = c.args in
    let p = err_from_is_err_and c.from_residual.result c.from_residual.ensures.1 in
    let e = c.in_err-end.field-0.0 in
    let restart = first_refused a.body.now a.offsets.now a.self.now.next (get_or a.offsets.now a.self.now.next 0) c.place_behind-upto.result c.clear.new.self.items (Err e) OutOfMemory refl c.place_behind-upto.ensures c.clear.ensures.items c.in_err-end.ensures.cause in
    rw (p.1, p.2) (behind_refused a.body.now a.offsets.now (as_place a.self.now) e OutOfMemory c.requires.over c.requires.more restart)

pub returns-in_default-clause-goes : goal.returns-in_default-clause-goes
returns-in_default-clause-goes c =
    let a = c.args in
    let now = as_place a.self.now in
    let from = get_or a.offsets.now now.next 0 in
    let upto = c.place_behind-upto.result in
    let after : BlockPlace = record { group = record { at = now.group.at; end = now.group.end; room = now.group.room; is_last = now.group.is_last; previous = c.pass_row.new.previous.items }; next = now.next } in
    let goes = subst (λ (o : Option ℕ). PassesRow a.body.now c.clear.new.self.items from upto a.key.now after.group.previous o) (none_of c.in_ok-end.field-0 c.in_default.not-Some) c.in_ok-end.ensures.goes in
    first_stays a.body.now a.offsets.now a.key.now now after from upto c.clear.new.self.items c.requires.over c.requires.over refl c.requires.more refl c.place_behind-upto.ensures c.clear.ensures.items goes

pub returns-clause-goes : goal.returns-clause-goes
returns-clause-goes c =
    let a = c.args in
    let now = as_place a.self.now in
    let from = get_or a.offsets.now now.next 0 in
    let upto = c.place_behind-upto.result in
    let after : BlockPlace = record { group = record { at = c.in-Some.end; end = upto; room = 15; is_last = nat_eq (now.next + 1) (length a.offsets.now); previous = c.pass_row.new.previous.items }; next = now.next + 1 } in
    let goes = subst (λ (o : Option ℕ). PassesRow a.body.now c.clear.new.self.items from upto a.key.now after.group.previous o) c.in-Some.is c.in_ok-end.ensures.goes in
    first_goes a.body.now a.offsets.now a.key.now now after from c.clear.new.self.items c.requires.over c.requires.more refl c.place_behind-upto.ensures c.clear.ensures.items refl refl refl goes
