use Rattle.std.proofs.Common.{◌≡◌, [], ◌∷◌, ◌++◌, not, length, if◌then◌else◌, List, Option, Some, None, sym, ap, ◌∙◌, subst}
use Rattle.atomic_table.specs.Table.{opening}
use Rattle.slate_shared.specs.LockedModel.{LockedModel, holds_at}
use Rattle.slate_shared.specs.Shared.{all_parts, newcomer, KeepsRule}
use Rattle.slate_shared.proofs.Moves.{opens}
use Rattle.slate_shared.proofs.database.open_board.Goals as goal

pub new-requires-2 : goal.new-requires-2
new-requires-2 g c =
    let ok = c.is_err.ensures.negation ∙ ap not c.if-is_err.false in
    let one : c.push.new.self.items ≡ Some (holds_at [] None) ∷ [] =
    c.push.ensures.items ∙ (λ i. if ok i then (c.new-slots.ensures.items i ++ Some (c.new.ensures i) ∷ []) else c.new-slots.result.items) in
    subst (λ (l : List (Option LockedModel)). KeepsRule (opening (0 ∷ []) l (newcomer all_parts []))) (sym one) opens

pub returns-clause-ok : goal.returns-clause-ok
returns-clause-ok g c =
    let ok = c.is_err.ensures.negation ∙ ap not c.if-is_err.false in
    let one : c.push.new.self.items ≡ Some (holds_at [] None) ∷ [] =
    c.push.ensures.items ∙ (λ i. if ok i then (c.new-slots.ensures.items i ++ Some (c.new.ensures i) ∷ []) else c.new-slots.result.items) in
    let t = c.in-Ok.ensures.ok in
    ((t.0, t.1 ∙ ap length one), t.2, t.4)
