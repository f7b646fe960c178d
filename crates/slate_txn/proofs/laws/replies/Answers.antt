use Rattle.std.proofs.Common.{◌≡◌, List, [], ◌∷◌, ◌++◌, refl, ap}
use Rattle.slate_txn.specs.declared.line.Line.{Line}
use Rattle.slate_txn.specs.State.{Rules, State}
use Rattle.slate_txn.specs.Step.{step, answers, after}
use Rattle.slate_txn.proofs.StorageLaws.{storage_is_silent}
use Rattle.slate_txn.proofs.WriteLaws.{writes_what_is_kept}
use Rattle.slate_txn.proofs.laws.replies.Goals as goal

on : (r : Rules) (s : State) (ls more : List Line) → answers r s (ls ++ more) ≡ answers r s ls ++ answers r (after r s ls) more
on r s [] more = refl
on r s (l ∷ ls) more = ap (λ rest. (step r s l).1 ∷ rest) (on r (step r s l).0 ls more)

pub returns-clause-goes_on : goal.returns-clause-goes_on
returns-clause-goes_on c = on

pub returns-clause-storage_is_silent : goal.returns-clause-storage_is_silent
returns-clause-storage_is_silent c = storage_is_silent

pub returns-clause-writes_what_is_kept : goal.returns-clause-writes_what_is_kept
returns-clause-writes_what_is_kept c = writes_what_is_kept
