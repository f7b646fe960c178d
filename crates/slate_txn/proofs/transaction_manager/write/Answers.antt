use Rattle.std.proofs.Common.{ℕ, List, ap, sym, ◌∙◌}
use Rattle.std.specs.BTreeMap.{BTreeMap}
use Rattle.slate_txn.specs.Named.{find_named}
use Rattle.slate_txn.proofs.NamedLaws.{find_is}
use Rattle.slate_txn.proofs.Placing.{find_set, find_unset}
use Rattle.slate_txn.proofs.transaction_manager.write.Goals as goal

pub returns-in-Some-clause-found : goal.returns-in-Some-clause-found
returns-in-Some-clause-found c k = ap (find_named k) (c.get_mut.follows.holds _).0 ∙ find_set c.args.seq c.args.key.now c.args.kept.now.entries k

pub returns-in_default-clause-found : goal.returns-in_default-clause-found
returns-in_default-clause-found c k =
    ap (λ (m : BTreeMap (List ℕ) ℕ). find_named k m.entries) c.get_mut.follows.holds-at-none
    ∙ find_unset c.args.seq c.args.key.now c.args.kept.now.entries (sym (find_is c.args.key.now c.args.kept.now.entries) ∙ sym c.in_default.ensures.value) k
