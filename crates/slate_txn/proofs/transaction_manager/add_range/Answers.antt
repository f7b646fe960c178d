use Rattle.std.proofs.Common.{ℕ, ◌++◌, ◌∷◌, [], List, Some, ap, sym, ◌∙◌}
use Rattle.std.specs.Map.{set_value}
use Rattle.std.specs.BTreeMap.{BTreeMap, is_at}
use Rattle.slate_types.specs.Keys.{key_cmp}
use Rattle.slate_txn.specs.Managers.{Active}
use Rattle.slate_txn.proofs.NamedLaws.{find_is, update_is, update_none}
use Rattle.std.proofs.lemmas.Map.Steps.{set_value_same}
use Rattle.slate_txn.proofs.transaction_manager.add_range.Goals as goal
use Rattle.slate_types.proofs.Exits.{on_ok_weaker, on_err_weaker}

pub returns-in-Some-clause-ok : goal.returns-in-Some-clause-ok
returns-in-Some-clause-ok c =
    let x : Active = record { start = c.state.inside.started_seq; writes = c.state.inside.write_keys.items; reads = c.state.inside.read_keys.items; ranges = c.state.inside.read_ranges.items } in
    on_ok_weaker c.append_one.result (λ e. (c.get_mut.follows.holds _).0
    ∙ (λ i. set_value (is_at (key_cmp c.args.id.now)) c.args.active.now.entries (record x { ranges = e i }))
    ∙ update_is c.args.id.now (λ (t : Active). record t { ranges = t.ranges ++ (c.args.range ∷ []) }) x c.args.active.now.entries
    (sym (find_is c.args.id.now c.args.active.now.entries) ∙ sym c.in-Some.ensures.value ∙ ap Some (sym c.state.view_is))) c.append_one.ensures.ok

pub returns-in-Some-clause-err : goal.returns-in-Some-clause-err
returns-in-Some-clause-err c =
    let x : Active = record { start = c.state.inside.started_seq; writes = c.state.inside.write_keys.items; reads = c.state.inside.read_keys.items; ranges = c.state.inside.read_ranges.items } in
    on_err_weaker c.append_one.result (λ e. (c.get_mut.follows.holds _).0
    ∙ (λ i. set_value (is_at (key_cmp c.args.id.now)) c.args.active.now.entries (record x { ranges = e i }))
    ∙ set_value_same (is_at (key_cmp c.args.id.now)) c.args.active.now.entries x (sym c.in-Some.ensures.value ∙ ap Some (sym c.state.view_is))) c.append_one.ensures.err

pub returns-in-None-clause-ok : goal.returns-in-None-clause-ok
returns-in-None-clause-ok c =
    ap (λ (m : BTreeMap (List ℕ) Active). m.entries) c.get_mut.follows.holds-at-none
    ∙ sym (update_none c.args.id.now (λ (t : Active). record t { ranges = t.ranges ++ (c.args.range ∷ []) }) c.args.active.now.entries (sym (find_is c.args.id.now c.args.active.now.entries) ∙ sym c.in-None.ensures.value))
