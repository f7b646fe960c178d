use Rattle.std.proofs.Common.{◌≡◌, ℕ, ◌++◌, Option, Some, inr, refl, sym, subst, ◌∙◌}
use Rattle.slate_types.specs.declared.error.SlateDBError.TheVariants.{TransactionConflict}
use Rattle.slate_txn.specs.Conflict.{conflict_of}
use Rattle.slate_txn.specs.HandedOver.{IsConflict}
use Rattle.slate_txn.specs.Named.{find_named}
use Rattle.slate_txn.proofs.HandOver.{conflict_handed}
use Rattle.slate_txn.proofs.hand_over.test_conflict.Goals as goal

pub returns-in-Some-clause-met : goal.returns-in-Some-clause-met
returns-in-Some-clause-met c cs n h e =
    let found = find_named c.args.id.now c.hand_over.new.manager.active in
    let is : conflict_of cs n (c.args.writes.items ++ c.args.marked.items) c.args.reading ≡ Some c.in-Some.seq =
    sym (conflict_handed cs n c.args.writes.items c.args.marked.items c.args.reading found (c.in_ok-hand_over.ensures.handed n e))
    ∙ sym (c.check_has_conflict.ensures.whole cs (c.hand_over.ensures.grown.stands cs h)) ∙ c.in-Some.is in
    inr (subst (λ (o : Option ℕ). IsConflict o (TransactionConflict c.in-Some.seq)) (sym is) refl)

pub returns-in-None-clause-free : goal.returns-in-None-clause-free
returns-in-None-clause-free c cs n h e =
    let found = find_named c.args.id.now c.hand_over.new.manager.active in
    sym (conflict_handed cs n c.args.writes.items c.args.marked.items c.args.reading found (c.in_ok-hand_over.ensures.handed n e))
    ∙ sym (c.check_has_conflict.ensures.whole cs (c.hand_over.ensures.grown.stands cs h)) ∙ c.in-None.is
