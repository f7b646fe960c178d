use Rattle.std.proofs.Common.{arith}
use Rattle.slate_filter.proofs.NameLaws.{names_valid}
use Rattle.slate_filter.proofs.names.have_valid_names.Goals as goal

pub returns-then-policies-le-MAX : goal.returns-then-policies-le-MAX
returns-then-policies-le-MAX g c = names_valid c.args.policies.now (λ p. ((goal.FilterPolicy-dyn g (p.vtable, p.value)).meaning p.value).name) c.are_apart.result c.are_apart.ensures (omega (arith, c.if-policies-le-MAX.true))
