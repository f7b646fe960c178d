use Rattle.std.proofs.Common.{◌≤◌, ◌-◌, ◌^◌, arith}
use Rattle.slate_mem.proofs.SlotLaws.{with_alone}
use Rattle.slate_mem.proofs.slots.put_alone.Goals as goal

pub returns-clause-put : goal.returns-clause-put
returns-clause-put c =
    let fits : c.args.row.seq ≤ 2 ^ 64 - 1 = omega arith in
    with_alone c.args.slots.now.items c.args.at c.in_ok-slot.slot c.args.row c.insert.new.self.items c.requires.slots c.requires.place c.in_ok-slot.ensures.stored c.in_ok-slot.ensures.whole fits c.in_ok-insert.ensures.items
