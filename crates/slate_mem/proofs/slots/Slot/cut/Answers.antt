use Rattle.std.proofs.Common.{◌≤◌, ◌&&◌, ◌∙◌, List, nat_le, length, Some, ap, subst}
use Rattle.slate_types.specs.declared.types.RowEntry.{RowEntry}
use Rattle.slate_types.specs.Keys.{in_range}
use Rattle.slate_mem.specs.Slots.{AreMarked, kept_from, slot_rows}
use Rattle.slate_mem.proofs.MarkLaws.{marked_in}
use Rattle.slate_mem.proofs.slots.Slot.cut.Goals as goal

pub returns-clause-rows : goal.returns-clause-rows
returns-clause-rows c = λ filled.
    let rows = slot_rows c.args.self.now in
    let was = c.unwrap_or-gone.result in
    let now = c.mark_outside.new.gone in
    let keeps = λ (r : RowEntry). in_range c.args.range.now r.key && nat_le r.seq c.args.seq in
    let marked = subst (λ (rs : List RowEntry). length rs ≤ 32 → AreMarked keeps rs (Some was) (Some now)) c.stored.ensures c.mark_outside.ensures in
    ap (kept_from (Some now) 0) c.in_ok-slot.ensures.stored ∙ marked_in keeps rows c.args.self.now.gone was now c.unwrap_or-gone.ensures (marked filled.few)
