use Rattle.std.proofs.Common.{◌-◌, ◌^◌, filter, ap, refl, sym, subst, ◌∙◌}
use Rattle.std.proofs.lemmas.Result.{IfOk-from_err, IfOk-weaker}
use Rattle.slate_types.specs.Rows.{of_key}
use Rattle.slate_types.proofs.Exits.{err_exit, if_ok_both}
use Rattle.slate_mem.specs.Slots.{IsSlots, NoneLater, standing}
use Rattle.slate_mem.specs.Table.{MemTableModel, ranged}
use Rattle.slate_mem.proofs.SlotRanges.{all_ranged, range_turns}
use Rattle.slate_mem.proofs.SlotReads.{seen_in}
use Rattle.slate_mem.proofs.mem_table.MemTable.range.Goals as goal

pub share_range-requires : goal.share_range-requires
share_range-requires c =
    let here = sym c.deref.ensures.value in
    record { slots = subst IsSlots here c.self.invariant.slots; low = subst (λ ss. NoneLater c.self.inside.last (standing ss)) here c.self.invariant.low }

pub walk-requires : goal.walk-requires
walk-requires c = c.in_ok-slots.ensures.slots

pub returns-in_err-slots : goal.returns-in_err-slots
returns-in_err-slots c =
    record {
      rows = IfOk-from_err c.from_residual.result _ c.from_residual.ensures.0;
      in_order = IfOk-from_err c.from_residual.result _ c.from_residual.ensures.0;
      turn = IfOk-from_err c.from_residual.result _ c.from_residual.ensures.0;
      order = IfOk-from_err c.from_residual.result _ c.from_residual.ensures.0;
      cause = err_exit c.from_residual.result _ c.from_residual.ensures.1 _ refl;
    }

pub returns-clause-rows : goal.returns-clause-rows
returns-clause-rows c =
    let range = c.args.range.now in
    let shown =
    c.in_ok-slots.ensures.rows ∙ ap (λ ss. filter (seen_in range (2 ^ 64 - 1)) (standing ss)) c.deref.ensures.value ∙ all_ranged range c.self.inside.slots.items c.self.invariant.slots
    ∙ ap (λ (t : MemTableModel). ranged range t.rows) c.self.view_is
    in
    IfOk-weaker c.walk.result _ _ (λ it same k. same k ∙ ap (of_key k) shown) c.walk.ensures.rows

pub returns-clause-turn : goal.returns-clause-turn
returns-clause-turn c =
    let range = c.args.range.now in
    let slots = c.self.inside.slots.items in
    let shown = c.in_ok-slots.ensures.rows ∙ ap (λ ss. filter (seen_in range (2 ^ 64 - 1)) (standing ss)) c.deref.ensures.value ∙ all_ranged range slots c.self.invariant.slots in
    if_ok_both c.walk.result _ _ _ (λ it order same. range_turns range slots c.args.order it.rows c.self.invariant.slots order (λ k. same k ∙ ap (of_key k) shown)) c.walk.ensures.in_order c.walk.ensures.rows
