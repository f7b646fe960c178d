use Rattle.std.proofs.Common.{ℕ, List, ap, sym, ◌∙◌}
use Rattle.std.specs.BTreeMap.{BTreeMap, is_at}
use Rattle.std.specs.Map.{set_value}
use Rattle.slate_types.specs.Keys.{key_cmp}
use Rattle.slate_txn.specs.State.{Tx}
use Rattle.slate_txn.proofs.Changed.{unchanged}
use Rattle.slate_txn.proofs.NamedLaws.{find_is, update_is}
use Rattle.slate_txn.proofs.open.put_over.Goals as goal

pub returns-in-Some : goal.returns-in-Some
returns-in-Some c =
    let id = c.args.id.now in
    let es = c.args.items.now.entries in
    (c.get_mut.follows.holds _).0
    ∙ ap (λ (t : Tx). set_value (is_at (key_cmp id)) es t) c.replace.ensures.after
    ∙ update_is id (λ (_ : Tx). c.args.own) c.in-Some.place.now es (sym (find_is id es) ∙ sym c.in-Some.ensures.value)

pub returns-in-None : goal.returns-in-None
returns-in-None c = unchanged c.args.id.now (λ (_ : Tx). c.args.own) c.args.items.now.entries _ (ap (λ (m : BTreeMap (List ℕ) Tx). m.entries) c.get_mut.follows.holds-at-none) c.in-None.ensures.value
