use Rattle.std.proofs.Common.{◌≡◌, ◌<◌, ◌++◌, [], drop, length, refl, ap, sym, ◌∙◌, arith}
use Rattle.slate_mem.specs.Slots.{rows_in, standing}
use Rattle.slate_mem.proofs.PageLaws.{first_slot, no_items, none_is, shorter, some_is}
use Rattle.slate_mem.proofs.mem_iterator.page.Goals as goal

pub loop-slot-init : goal.loop-slot-init
loop-slot-init c = record { none = c.new-page.ensures.items; rows = refl }

pub loop-slot-smaller : goal.loop-slot-smaller
loop-slot-smaller c = omega (arith, shorter c.loop-slot.slots.items c.in-Some.ensures.item.3.0, ap length c.pop_front.ensures.rest)

pub loop-slot-preserved : goal.loop-slot-preserved
loop-slot-preserved c =
    let was = c.loop-slot.invariant in
    let slots = c.loop-slot.slots.items in
    let slot = c.in-Some.slot.now in
    let split = first_slot slots slot c.in-Some.ensures.item.3.0 c.in-Some.ensures.lookup in
    let empty = sym c.as_slice.ensures.value ∙ none_is c.as_slice.result.now c.is_empty.result c.is_empty.ensures c.if-not-is_empty.false in
    let none : rows_in slot ≡ [] = sym (c.in_ok-copy_to.ensures ∙ ap (λ xs. xs ++ rows_in slot) was.none) ∙ empty in
    record { none = empty; rows = ap standing c.pop_front.ensures.rest ∙ ap (λ xs. xs ++ standing (drop 1 slots)) (sym none) ∙ sym split ∙ was.rows }

pub returns-then-not-is_empty-clause-rows : goal.returns-then-not-is_empty-clause-rows
returns-then-not-is_empty-clause-rows c =
    let was = c.loop-slot.invariant in
    let slots = c.loop-slot.slots.items in
    let slot = c.in-Some.slot.now in
    let split = first_slot slots slot c.in-Some.ensures.item.3.0 c.in-Some.ensures.lookup in
    let copied = c.in_ok-copy_to.ensures ∙ ap (λ xs. xs ++ rows_in slot) was.none in
    (λ i. copied i ++ standing (c.pop_front.ensures.rest i)) ∙ sym split ∙ was.rows

pub returns-then-not-is_empty-clause-ends : goal.returns-then-not-is_empty-clause-ends
returns-then-not-is_empty-clause-ends c none = absurd (some_is c.as_slice.result.now c.is_empty.result c.is_empty.ensures c.if-not-is_empty.true (c.as_slice.ensures.value ∙ none))

pub returns-clause-rows : goal.returns-clause-rows
returns-clause-rows c = ap (λ xs. xs ++ standing c.loop-slot.slots.items) c.loop-slot.invariant.none ∙ c.loop-slot.invariant.rows

pub returns-clause-ends : goal.returns-clause-ends
returns-clause-ends c none = ap standing (no_items c.loop-slot.slots.items c.in_default.ensures.item.3)
