use Rattle.std.proofs.Common.{rules, ◌∷◌, Some, ap, ◌∙◌}
use Rattle.atomic_table.specs.Table.{rest}
use Rattle.slate_shared.proofs.Lists.{twice_more}
use Rattle.slate_shared.proofs.Moves.{adds_at, after_add}
use Rattle.slate_shared.proofs.lock.add.Goals as goal

pub store-requires : goal.store-requires
store-requires g c =
    let h = c.exchange.ensures in
    let held = c.requires.held in
    let event = c.requires.event in
    let v = c.args.place.now.me.0 in (
      search rules,
      search rules,
      adds_at _ _ _ v c.args.locked _ (h.3 ∙ ap (λ cs. (v, (0, Some c.args.locked) ∷ rest cs)) held.0) event held.1 (twice_more v.base c.args.locked.events event.0 _ c.len-events.ensures.count event.1) c.requires.flight,
    )

pub returns-clause-view : goal.returns-clause-view
returns-clause-view g c =
    let h = c.exchange.ensures in
    let v = c.args.place.now.me.0 in
    after_add _ _ v c.args.locked (h.3 ∙ ap (λ cs. (v, (0, Some c.args.locked) ∷ rest cs)) c.requires.held.0) c.store.ensures.2
