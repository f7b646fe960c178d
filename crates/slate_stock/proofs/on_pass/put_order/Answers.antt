use Rattle.std.proofs.Common.{◌≡◌, ◌∙◌, ap, length, map, subst, sym}
use Rattle.std.specs.List.{AllByRecursion}
use Rattle.slate_types.proofs.Exits.{on_ok_weaker}
use Rattle.slate_stock.specs.Orders.{order_keys}
use Rattle.slate_stock.specs.Running.{IsKey}
use Rattle.slate_stock.proofs.AttemptLaws.{whole_put}
use Rattle.slate_stock.proofs.CauseLaws.{keys_fit}
use Rattle.slate_stock.proofs.CoreLaws.{long_new}
use Rattle.slate_stock.proofs.MapLaws.{known, known_is}
use Rattle.slate_stock.proofs.on_pass.put_order.Goals as goal

pub put_amounts-done-requires-clause-keys : goal.put_amounts-done-requires-clause-keys
put_amounts-done-requires-clause-keys g c = subst (AllByRecursion IsKey) (sym c.requires.keys) (keys_fit c.args.order.now c.requires.names)

pub put_amounts-done-requires-clause-long : goal.put_amounts-done-requires-clause-long
put_amounts-done-requires-clause-long g c =
    let o = c.args.order.now in
    let m = known (order_keys o) c.args.amounts.now in
    let are : c.args.amounts.now ≡ map m (order_keys o) = known_is o c.args.keys.now c.args.amounts.now c.requires.names c.requires.form c.requires.keys c.requires.known in
    let new = c.in-Ok.ensures.ok m are in
    ap length c.as_slice.ensures.value ∙ long_new m o c.in-Ok.new.items c.args.keys.now new.1 c.requires.keys

pub returns-in-Ok-clause-put : goal.returns-in-Ok-clause-put
returns-in-Ok-clause-put g c = λ from ts m h are.
    let new = c.in-Ok.ensures.ok m are in
    on_ok_weaker c.put_amounts-done.result
    (λ w. (new.0, whole_put g.P.Parts.options from c.put_amounts-done.new.txn ts m c.args.order.now c.as_slice.result.now c.args.keys.now (c.as_slice.ensures.value ∙ new.1) c.requires.keys w)) (c.put_amounts-done.ensures.put from ts h)
