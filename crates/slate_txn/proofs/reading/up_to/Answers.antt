use Rattle.std.proofs.Common.{ℕ, List, ap, sym, ◌∙◌, not}
use Rattle.slate_types.specs.declared.iter.IterationOrder.{IterationOrder}
use Rattle.slate_types.specs.Keys.{key_le, key_lt}
use Rattle.slate_types.specs.Iteration.{comes_before}
use Rattle.std.proofs.Math.Bool.{and-true}
use Rattle.slate_txn.proofs.HandOver.{le_not_lt}
use Rattle.slate_txn.proofs.reading.up_to.Goals as goal

pub returns-in-Ascending : goal.returns-in-Ascending
returns-in-Ascending c k =
    le_not_lt k c.in_ok-key.key ∙ ap (λ (j : List ℕ). not (key_lt j k)) c.in_ok-key.ensures.cases
    ∙ ap (λ (o : IterationOrder). not (comes_before o c.args.key.now k)) (sym c.in-Ascending.is)

pub returns-in-Descending : goal.returns-in-Descending
returns-in-Descending c k =
    and-true (key_le c.in_ok-key.key k) ∙ le_not_lt c.in_ok-key.key k ∙ ap (λ (j : List ℕ). not (key_lt k j)) c.in_ok-key.ensures.cases
    ∙ ap (λ (o : IterationOrder). not (comes_before o c.args.key.now k)) (sym c.in-Descending.is)
