use Rattle.std.proofs.Common.{◌≡◌, ◌+◌, ◌++◌, ◌∷◌, [], ap, sym, subst, ◌∙◌, arith}
use Rattle.std.specs.BTreeMap.{insert_entry}
use Rattle.slate_types.specs.Keys.{key_cmp}
use Rattle.slate_txn.specs.Ids.{id_of}
use Rattle.slate_txn.specs.Named.{find_named}
use Rattle.slate_txn.specs.Managers.{Manager, untracked, StandsFor}
use Rattle.slate_txn.specs.ManagersView.{view_of, IsTidy}
use Rattle.slate_txn.proofs.IdLaws.{fresh_named}
use Rattle.slate_txn.proofs.Standing.{after_new, put_new, tidy_new, stands_new}
use Rattle.slate_txn.proofs.transaction_manager.TransactionManager.new_transaction.Goals as goal

pub returns-clause-fresh : goal.returns-clause-fresh
returns-clause-fresh c =
    ap (λ (m : Manager). find_named c.from_u128-id.result m.active) (sym c.self.view_is)
    ∙ ap (λ id. find_named id c.self.inside.active_txns.entries) c.from_u128-id.ensures
    ∙ fresh_named c.self.inside.ids (c.self.inside.ids + 1) c.self.inside.active_txns.entries (omega arith) (omega arith) c.self.invariant.counted

-- what the fields are after the call
becomes : (c : goal.After-self-1) → after_new (view_of c.self.inside) ≡ view_of (record c.self.inside { ids = c.self.inside.ids + 1; active_txns = c.insert.new.self })
becomes c =
    let put : c.insert.new.self.entries ≡ c.self.inside.active_txns.entries ++ ((id_of (c.self.inside.ids + 1), untracked c.self.inside.last_seq) ∷ []) =
    c.in_ok-none.ensures.entries
    ∙ (let id = c.from_u128-id.ensures in let state = c.new-state.ensures in λ i. insert_entry key_cmp c.self.inside.active_txns.entries (id i) (state i))
    ∙ put_new (view_of c.self.inside) c.self.invariant (omega arith) in
    let back = sym put in
    λ i. record (view_of c.self.inside) { ids = c.self.inside.ids + 1; active = back i }

pub invariant_of-self-2 : goal.invariant_of-self-2
invariant_of-self-2 c = subst IsTidy (becomes c) (tidy_new (view_of c.self.inside) c.self.invariant)

pub returns-clause-opened : goal.returns-clause-opened
returns-clause-opened c = (
  ap (λ (m : Manager). m.last) c.self.view_is,
  sym (becomes c)
      ∙ (let id = sym c.from_u128-id.ensures in λ i. record (view_of c.self.inside) { ids = c.self.inside.ids + 1; active = c.self.inside.active_txns.entries ++ ((id i, untracked c.self.inside.last_seq) ∷ []) })
      ∙ ap (λ (m : Manager). record m { ids = m.ids + 1; active = m.active ++ ((c.from_u128-id.result, untracked c.self.inside.last_seq) ∷ []) }) c.self.view_is,
)

pub returns-clause-stands : goal.returns-clause-stands
returns-clause-stands c cs h =
    subst (λ (m : Manager). StandsFor m cs) (becomes c) (stands_new (view_of c.self.inside) c.self.invariant cs (subst (λ (m : Manager). StandsFor m cs) (sym c.self.view_is) h))
