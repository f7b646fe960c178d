use Rattle.std.proofs.Common.{sym, subst, List, ℕ}
use Rattle.slate_mem.specs.Slots.{AreBefore, slot_rows}
use Rattle.slate_mem.proofs.SlotLaws.{gap_behind, rises_at}
use Rattle.slate_mem.proofs.slots.put_apart.Goals as goal

pub is_passed-requires : goal.is_passed-requires
is_passed-requires c = rises_at c.args.slots.now.items c.args.at c.index.result.now c.requires.slots c.requires.within c.index.ensures

pub put_alone-requires : goal.put_alone-requires
put_alone-requires c =
    let passed = subst (λ (k : List ℕ). AreBefore (record { user_key = k; seq = c.args.row.seq }) (slot_rows c.index.result.now)) c.as_slice.ensures (c.is_passed.ensures c.if-is_passed.true) in
    record { slots = c.requires.slots; place = gap_behind _ c.args.slots.now.items c.args.at c.index.result.now c.requires.within c.index.ensures c.requires.place passed }
