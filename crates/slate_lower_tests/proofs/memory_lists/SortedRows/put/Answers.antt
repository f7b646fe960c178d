use Rattle.std.proofs.Common.{sym, subst}
use Rattle.slate_lower_tests.specs.SortedRows.{Rises}
use Rattle.slate_lower_tests.proofs.SortedRowsLaws.{put_rises}
use Rattle.slate_lower_tests.proofs.memory_lists.SortedRows.put.Goals as goal

pub invariant_of-self-2 : goal.invariant_of-self-2
invariant_of-self-2 c = subst Rises (sym c.in_ok-put_in_place.ensures.put) (put_rises c.args.row c.self.inside.rows.items c.self.invariant)
