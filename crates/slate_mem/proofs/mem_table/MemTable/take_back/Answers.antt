use Rattle.std.proofs.Common.{◌==◌, ◌≤◌, ◌∙◌, not, length, filter, ap, sym, subst, arith}
use Rattle.slate_types.specs.declared.types.RowEntry.{RowEntry}
use Rattle.slate_types.proofs.Lists.{AllByRecursion_filter}
use Rattle.slate_mem.specs.Slots.{NoneLater, standing}
use Rattle.slate_mem.specs.Table.{MemTableModel}
use Rattle.slate_mem.proofs.SlotLaws.{few_kept, others}
use Rattle.slate_mem.proofs.mem_table.MemTable.take_back.Goals as goal

pub take_back-requires : goal.take_back-requires
take_back-requires c = c.self.invariant.slots

pub invariant_of-self : goal.invariant_of-self
invariant_of-self c =
    let e = c.take_back.ensures in
    let was = c.self.invariant in
    let rows = standing c.self.inside.slots.items in
    record {
      slots = e.slots;
      low = subst (NoneLater c.self.inside.last) (sym e.rows) (AllByRecursion_filter (λ r. r.seq ≤ c.self.inside.last) (others c.args.seq) rows was.low);
      fits = was.fits;
      few = omega (arith, was.few, few_kept (others c.args.seq) rows, ap length e.rows);
      counted = was.counted;
      rising = c.drop_prefixes.ensures.rising;
    }

pub returns-clause-rows : goal.returns-clause-rows
returns-clause-rows c = c.take_back.ensures.rows ∙ ap (λ (t : MemTableModel). filter (λ (r : RowEntry). not (r.seq == c.args.seq)) t.rows) c.self.view_is
