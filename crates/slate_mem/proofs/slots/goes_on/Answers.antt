use Rattle.std.proofs.Common.{◌≡◌, length, subst}
use Rattle.slate_types.specs.Keys.{in_range}
use Rattle.slate_mem.specs.Slots.{IsFirst, slot_rows}
use Rattle.slate_mem.proofs.SlotParts.{some_found}
use Rattle.slate_mem.proofs.slots.goes_on.Goals as goal

pub returns-else-is_empty : goal.returns-else-is_empty
returns-else-is_empty c e = (
  some_found (length c.args.found.now) c.is_empty.result c.is_empty.ensures c.if-is_empty.false,
  subst (λ b. IsFirst (slot_rows c.args.slot.now) (λ r. in_range c.args.range.now r.key ≡ b)) e c.begins_within.ensures,
)
