use Rattle.std.proofs.Common.{◌∙◌, ap, sym, drop, ◌+◌, bytes_eq}
use Rattle.slate_txn.specs.Managers.{later, above}
use Rattle.slate_txn.proofs.Keeps.{newest_of_key, key_test}
use Rattle.slate_txn.proofs.NamedLaws.{find_is}
use Rattle.slate_txn.proofs.Walks.{turn, ended, of_all}
use Rattle.slate_txn.proofs.transaction_manager.newest_of_keys.Goals as goal

pub loop-key-preserved : goal.loop-key-preserved
loop-key-preserved c =
    let b = c.args.start in
    let es = c.args.kept.now.entries in
    let xs = c.args.keys.now in
    let key = c.key-item.result in
    ap (λ o. later o (of_all (λ y k. bytes_eq y k) b es (drop (c.loop-key.key-index + 1) xs))) c.later-newest.ensures
    ∙ turn (λ y k. bytes_eq y k) b es xs c.loop-key.key-index key c.loop-key.newest c.after.result _ c.loop-key-test.true c.key-item.is
    (c.after.ensures ∙ ap (above b) (c.copied.ensures ∙ c.get.ensures.value ∙ find_is key es) ∙ sym (newest_of_key key b es c.requires) ∙ key_test key b es)
    c.loop-key.invariant

pub returns : goal.returns
returns c = ended (λ y k. bytes_eq y k) c.args.start c.args.kept.now.entries c.args.keys.now c.loop-key.key-index c.loop-key.newest _ c.loop-key-test.false c.loop-key.invariant
