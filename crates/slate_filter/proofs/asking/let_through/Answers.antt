use Rattle.std.proofs.Common.{map}
use Rattle.slate_types.specs.declared.error.SlateDBError.{SlateDBError}
use Rattle.slate_types.specs.declared.error.SlateDBError.TheVariants.{InvalidFilterBlock}
use Rattle.slate_filter.specs.Named.{named_pair}
use Rattle.slate_filter.proofs.AskingLaws.{ok_or_denied}
use Rattle.slate_filter.proofs.asking.let_through.Goals as goal

pub returns-clause-denied : goal.returns-clause-denied
returns-clause-denied g c = rw (c.ok_or.ensures.value, c.asked.ensures)
    (ok_or_denied {E = SlateDBError} (InvalidFilterBlock c.args.part_len) (map (λ p. (goal.FilterPolicy-dyn g (p.vtable, p.value)).meaning p.value) c.args.policies.now) (map named_pair c.args.filters.now) c.args.query.now)
