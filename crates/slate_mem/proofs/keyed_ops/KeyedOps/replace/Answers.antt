use Rattle.std.proofs.Common.{sym, subst}
use Rattle.std.specs.List.Sorted.{IsStrictlySortedBy}
use Rattle.std.specs.Map.{keys_of}
use Rattle.slate_types.specs.Keys.{key_cmp}
use Rattle.slate_mem.specs.KeyedOps.{entries_in}
use Rattle.slate_mem.proofs.KeyedLaws.{one_rises}
use Rattle.slate_mem.proofs.keyed_ops.KeyedOps.replace.Goals as goal

pub returns-then-is_empty-clause-rising : goal.returns-then-is_empty-clause-rising
returns-then-is_empty-clause-rising c = subst (λ o. IsStrictlySortedBy key_cmp (keys_of (entries_in o))) (sym c.replace.ensures.after) (one_rises c.args.key)
