use Rattle.std.proofs.Common.{is_some, cond, Some, refl, ap, sym, ◌∙◌}
use Rattle.std.proofs.lemmas.Result.{IfOk-from_err}
use Rattle.std.specs.Map.{lookup}
use Rattle.std.specs.BTreeMap.{insert_entry, is_at}
use Rattle.slate_types.specs.Keys.{key_cmp}
use Rattle.slate_txn.specs.ManagersView.{real}
use Rattle.slate_txn.proofs.NamedLaws.{find_is}
use Rattle.slate_txn.proofs.Placing.{placed_there, placed_new, real_new}
use Rattle.slate_txn.proofs.transaction_manager.place.Goals as goal

pub returns-then-contains_key-clause-found : goal.returns-then-contains_key-clause-found
returns-then-contains_key-clause-found c =
    placed_there c.args.key.now c.args.kept.now.entries (sym (ap is_some (find_is c.args.key.now c.args.kept.now.entries)) ∙ sym c.contains_key.ensures ∙ c.if-contains_key.true)

pub returns-clause-found : goal.returns-clause-found
returns-clause-found c =
    placed_new c.args.key.now c.args.kept.now.entries c.insert.new.self.entries
    (sym (ap is_some (find_is c.args.key.now c.args.kept.now.entries)) ∙ sym c.contains_key.ensures ∙ c.if-contains_key.false)
    (λ k. c.in_ok-none.ensures.updates.0 k ∙ (λ i. cond (is_at (key_cmp (c.in_ok-clone.ensures.cases i)) k) (Some 0) (lookup (is_at (key_cmp k)) c.args.kept.now.entries)))

pub returns-clause-real : goal.returns-clause-real
returns-clause-real c =
    ap real (c.in_ok-none.ensures.entries ∙ ap (λ k. insert_entry key_cmp c.args.kept.now.entries k 0) c.in_ok-clone.ensures.cases)
    ∙ real_new c.args.key.now c.args.kept.now.entries
    (sym (ap is_some (find_is c.args.key.now c.args.kept.now.entries)) ∙ sym c.contains_key.ensures ∙ c.if-contains_key.false)

pub returns-in_err-clone : goal.returns-in_err-clone
returns-in_err-clone c = record {
  found = IfOk-from_err c.from_residual.result _ c.from_residual.ensures.0;
  real = refl;
  rising = c.requires;
}

pub returns-in_err-none : goal.returns-in_err-none
returns-in_err-none c = record {
  found = IfOk-from_err c.from_residual-in_err-none.result _ c.from_residual-in_err-none.ensures.0;
  real = ap real c.in_err-none.ensures.err;
  rising = c.in_err-none.ensures.ordered;
}

pub returns-clause-rising : goal.returns-clause-rising
returns-clause-rising c = c.in_ok-none.ensures.ordered
