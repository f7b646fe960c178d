use Rattle.std.proofs.Common.{◌≡◌, ◌+◌, ◌≤◌, ◌<◌, refl, sym, subst, arith}
use Rattle.slate_db.specs.Log.{LogModel, LIMIT, held_by}
use Rattle.slate_db.specs.LogView.{log_view}
use Rattle.slate_db.proofs.log.Log.place.Goals as goal

pub returns-clause-place : goal.returns-clause-place
returns-clause-place c =
    let place : held_by (log_view c.self.inside) + c.args.more ≤ LIMIT = omega (arith, c.if-len-self.false, c.len.ensures) in
    subst (λ (l : LogModel). held_by l + c.args.more ≤ LIMIT) c.self.view_is place

pub returns-then-len-self-clause-limit : goal.returns-then-len-self-clause-limit
returns-then-len-self-clause-limit c =
    let past : LIMIT < held_by (log_view c.self.inside) + c.args.more = omega (arith, c.if-len-self.true, c.len.ensures) in
    (refl, subst (λ (l : LogModel). LIMIT < held_by l + c.args.more) c.self.view_is past)
