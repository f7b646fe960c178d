use Rattle.std.proofs.Common.{◌∙◌, ◌++◌, [], arith, sym}
use Rattle.std.specs.List.{cons_option}
use Rattle.slate_index.proofs.Finding.{names_more}
use Rattle.slate_index.proofs.keys.push_names.Goals as goal

pub loop-key-preserved : goal.loop-key-preserved
loop-key-preserved c =
    c.in_ok-push_name.ensures
    ∙ (λ i. c.loop-key.invariant i ++ cons_option (c.in_ok-id.ensures.name i) [])
    ∙ sym (names_more c.args.prefix.now c.args.keys.now c.loop-key.key-index c.key-item.result (omega arith) c.key-item.is)
