use Rattle.std.proofs.Common.{◌+◌, ◌-◌, ◌^◌, None, negsuc, drop, ap, ◌∙◌, arith, rules}
use Rattle.std.specs.Prelude.{unwrap_or}
use Rattle.std.proofs.lemmas.List.{drop_all}
use Rattle.slate_mem.specs.Slots.{joined, rows_in}
use Rattle.slate_mem.proofs.CountLaws.{Counts, all_counted, counted_as, counted_on, none_counted}
use Rattle.slate_mem.proofs.SlotLaws.{joined_drop}
use Rattle.slate_mem.proofs.metadata.count_rows.Goals as goal

pub loop-slot-init : goal.loop-slot-init
loop-slot-init c = none_counted (record { rows = 0; bytes = 0; tick = None; last = 0; first = None }) (joined rows_in c.args.slots.now) (omega arith) (omega arith)

pub count_in_slot-requires : goal.count_in_slot-requires
count_in_slot-requires c = record { rows = c.loop-slot.invariant.few; bytes = c.loop-slot.invariant.fits }

pub loop-slot-preserved : goal.loop-slot-preserved
loop-slot-preserved c =
    let slots = c.args.slots.now in
    let i = c.loop-slot.slot-index in
    let s = c.slot-item.result in
    let e = c.count_in_slot.ensures in
    counted_on _ c.loop-slot.count _ (joined rows_in slots) (rows_in s) (joined rows_in (drop (i + 1) slots)) (record { rows = e.rows; bytes = e.bytes; tick = e.tick; last = e.last; first = e.first })
    (counted_as _ _ _ (joined rows_in (drop i slots)) _ (joined_drop rows_in slots i s (omega arith) c.slot-item.is) c.loop-slot.invariant)

counts : (c : goal.After-unwrap_or-2) → Counts (record { rows = 0; bytes = 0; tick = None; last = 0; first = None }) c.loop-slot.count (joined rows_in c.args.slots.now)
counts c =
    let slots = c.args.slots.now in
    all_counted _ c.loop-slot.count (joined rows_in slots) (counted_as _ _ _ (joined rows_in (drop c.loop-slot.slot-index slots)) _ (ap (joined rows_in) (drop_all c.loop-slot.slot-index slots (omega arith))) c.loop-slot.invariant)

pub returns-clause-entries : goal.returns-clause-entries
returns-clause-entries c = omega (arith, (counts c).rows)

pub returns-clause-bytes : goal.returns-clause-bytes
returns-clause-bytes c = omega (arith, (counts c).bytes)

pub returns-clause-tick : goal.returns-clause-tick
returns-clause-tick c = let is = c.unwrap_or.ensures ∙ ap (λ t. unwrap_or t (negsuc (2 ^ 63 - 1))) (counts c).tick in search (rules, is)

pub returns-clause-last : goal.returns-clause-last
returns-clause-last c = (counts c).last

pub returns-clause-first : goal.returns-clause-first
returns-clause-first c = c.unwrap_or-2.ensures ∙ ap (λ n. unwrap_or n 0) (counts c).first
