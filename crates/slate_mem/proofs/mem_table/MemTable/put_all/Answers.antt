use Rattle.std.proofs.Common.{◌≡◌, ◌+◌, length, ap, ◌∙◌, arith}
use Rattle.slate_types.specs.Fold.{greatest_seq}
use Rattle.slate_mem.proofs.SlotTables.{table_puts}
use Rattle.slate_mem.proofs.mem_table.MemTable.put_all.Goals as goal

pub invariant_of-self : goal.invariant_of-self
invariant_of-self c =
    let rows = c.args.rows.items in
    let last = c.self.inside.last in
    let later_is = c.greatest-last.ensures ∙ ap (greatest_seq last) c.deref.ensures.value in
    let more_is : c.in-Some.most ≡ c.self.inside.most + length rows = omega (arith, c.in-Some.ensures.1, c.len.ensures, c.args.rows.ok.0) in
    let few = c.in-Some.ensures in
    table_puts c.self.inside.slots.items c.put_each.new.slots.items last c.greatest-last.result c.self.inside.most c.in-Some.most _ c.in_ok-segments.segments.keys rows
    c.self.invariant c.in-Ok.ensures.put later_is (omega arith) more_is (omega (arith, few.0, few.1)) c.in_ok-segments.ensures.rising
