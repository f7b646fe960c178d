use Rattle.std.proofs.Common.{◌≡◌, ◌≤◌, ◌==◌, ◌∙◌, List, false, not, length, Some, ap, sym, subst}
use Rattle.std.specs.List.{list_any}
use Rattle.slate_types.specs.declared.types.RowEntry.{RowEntry}
use Rattle.slate_mem.specs.Slots.{AreMarked, slot_rows}
use Rattle.slate_mem.proofs.MarkLaws.{marked_in, none_taken}
use Rattle.slate_mem.proofs.SlotLaws.{others}
use Rattle.slate_mem.proofs.slots.Slot.take_back.Goals as goal

pub returns-then-not-has_seq-clause-rows : goal.returns-then-not-has_seq-clause-rows
returns-then-not-has_seq-clause-rows c = λ filled.
    let rows = slot_rows c.args.self.now in
    let none : list_any (λ (r : RowEntry). r.seq == c.args.seq) rows ≡ false = ap (list_any (λ (r : RowEntry). r.seq == c.args.seq)) (sym c.stored.ensures) ∙ sym c.has_seq.ensures ∙ c.if-not-has_seq.true in
    sym (none_taken c.args.self.now.gone 0 c.args.seq rows none)

pub returns-clause-rows : goal.returns-clause-rows
returns-clause-rows c = λ filled.
    let rows = slot_rows c.args.self.now in
    let was = c.unwrap_or-gone.result in
    let now = c.mark_seq.new.gone in
    let marked = subst (λ (rs : List RowEntry). length rs ≤ 32 → AreMarked (others c.args.seq) rs (Some was) (Some now)) c.stored-2.ensures c.mark_seq.ensures in
    marked_in (others c.args.seq) rows c.args.self.now.gone was now c.unwrap_or-gone.ensures (marked filled.few)
