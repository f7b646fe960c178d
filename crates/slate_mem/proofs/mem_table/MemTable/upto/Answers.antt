use Rattle.std.proofs.Common.{nat_le, filter, ap, refl, sym, subst, ◌∙◌}
use Rattle.std.proofs.lemmas.Result.{IfOk-from_err}
use Rattle.slate_types.specs.declared.types.RowEntry.{RowEntry}
use Rattle.slate_types.proofs.Exits.{err_exit}
use Rattle.slate_mem.specs.Slots.{IsSlots, NoneLater, standing}
use Rattle.slate_mem.specs.Table.{MemTableModel, ranged}
use Rattle.slate_mem.proofs.SlotRanges.{part_table, seen_upto}
use Rattle.slate_mem.proofs.SlotReads.{seen_in}
use Rattle.slate_mem.proofs.mem_table.MemTable.upto.Goals as goal

pub share_range-requires : goal.share_range-requires
share_range-requires c =
    let here = sym c.deref.ensures.value in
    record { slots = subst IsSlots here c.self.invariant.slots; low = subst (λ ss. NoneLater c.self.inside.last (standing ss)) here c.self.invariant.low }

pub invariant_of-result : goal.invariant_of-result
invariant_of-result c =
    let range = c.args.range.now in
    let rows = c.in_ok-slots.ensures.rows ∙ ap (λ ss. filter (seen_in range c.args.seq) (standing ss)) c.deref.ensures.value in
    part_table range c.args.seq c.self.inside.last c.self.inside.most c.self.inside.slots.items _ _ _ c.self.invariant rows c.in_ok-slots.ensures.slots c.new.ensures.ordered

pub returns-clause-rows : goal.returns-clause-rows
returns-clause-rows c =
    let range = c.args.range.now in
    let seq = c.args.seq in
    c.in_ok-slots.ensures.rows ∙ ap (λ ss. filter (seen_in range seq) (standing ss)) c.deref.ensures.value ∙ seen_upto range seq _
    ∙ ap (λ (t : MemTableModel). filter (λ (r : RowEntry). nat_le r.seq seq) (ranged range t.rows)) c.self.view_is

pub returns-in_err-slots : goal.returns-in_err-slots
returns-in_err-slots c =
    record {
      rows = IfOk-from_err c.from_residual.result _ c.from_residual.ensures.0;
      segments = IfOk-from_err c.from_residual.result _ c.from_residual.ensures.0;
      cause = err_exit c.from_residual.result _ c.from_residual.ensures.1 _ refl;
    }
