use Rattle.std.proofs.Common.{◌+◌, ◌++◌, drop, map, ap, sym, ◌∙◌}
use Rattle.std.proofs.lemmas.List.{drop_all}
use Rattle.slate_types.specs.Keys.{keys_set}
use Rattle.slate_mem.specs.Batch.{Ops}
use Rattle.slate_mem.proofs.TableLaws.{set_moved, set_of_set}
use Rattle.slate_txn.proofs.OpKeys.{keys_first}
use Rattle.slate_txn.proofs.list.keys_of.Goals as goal

pub loop-key-preserved : goal.loop-key-preserved
loop-key-preserved c =
    let was = c.loop-key.invariant in
    let keys = rw c.in_ok-clone.ensures.cases at c.in_ok-insert.ensures.keys in
    let left = map (λ o. o.0) (drop (c.loop-key.key-index + 1) c.args.ops.now) in
    record {
      keys =
          ap (λ ks. keys_set (left ++ ks)) keys ∙ set_moved c.loop-key-item.result.0 left c.loop-key.keys.keys was.rising
          ∙ ap (λ ps. keys_set (ps ++ c.loop-key.keys.keys)) (sym (keys_first c.args.ops.now c.loop-key.key-index c.loop-key-item.result c.loop-key-test.true c.loop-key-item.is)) ∙ was.keys;
      rising = c.in_ok-insert.ensures.ordered;
    }

pub returns : goal.returns
returns c =
    let was = c.loop-key.invariant in
    record {
      keys =
          c.from_vec.ensures ∙ c.in_ok-listed.ensures.keys
          ∙ sym (set_of_set c.loop-key.keys.keys was.rising)
          ∙ ap (λ (os : Ops). keys_set (map (λ o. o.0) os ++ c.loop-key.keys.keys)) (sym (drop_all c.loop-key.key-index c.args.ops.now c.loop-key-test.false)) ∙ was.keys;
    }
