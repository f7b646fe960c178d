use Rattle.std.proofs.Common.{rules, ◌*◌, ◌∷◌, length, Some, ap, ◌∙◌}
use Rattle.atomic_table.specs.Table.{rest}
use Rattle.slate_shared.proofs.Moves.{keeps_at}
use Rattle.slate_shared.proofs.lock.keep.Goals as goal

pub store-requires : goal.store-requires
store-requires g c =
    let h = c.exchange.ensures in
    let held = c.requires.held in
    let v = c.args.place.now.me.0 in (
      search rules,
      search rules,
      keeps_at _ _ _ v c.args.locked _ (h.3 ∙ ap (λ cs. (v, (0, Some c.args.locked) ∷ rest cs)) held.0) held.2 held.1 (ap (λ n. 2 * n) (c.len-events.ensures.count ∙ ap length held.2)) c.requires.flight,
    )
