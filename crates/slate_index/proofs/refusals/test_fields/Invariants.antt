use Rattle.std.proofs.Common.{◌≡◌, None}
use Rattle.slate_index.specs.Refusals.{too_long_below}
use Rattle.slate_index.proofs.refusals.test_fields.Given as goal

abbrev pub invariant-loop-number : goal.invariant-loop-number
invariant-loop-number g l = too_long_below (g.F.Fields.model l.fields) l.number l.value ≡ None
