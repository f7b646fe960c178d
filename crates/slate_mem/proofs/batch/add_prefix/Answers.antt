use Rattle.std.proofs.Common.{◌++◌, ◌∙◌, ap, sym}
use Rattle.std.specs.List.{cons_option}
use Rattle.slate_types.specs.Keys.{keys_set}
use Rattle.slate_mem.proofs.TableLaws.{set_moved}
use Rattle.slate_mem.proofs.batch.add_prefix.Goals as goal

pub returns-in_ok-insert-in-Some-clause-keys : goal.returns-in_ok-insert-in-Some-clause-keys
returns-in_ok-insert-in-Some-clause-keys c = λ ps rising.
    let before = c.args.prefixes.now.keys in
    ap (λ ks. keys_set (ps ++ ks)) c.in_ok-insert-in-Some.ensures.keys
    ∙ set_moved c.in-Some.prefix ps before rising
    ∙ ap (λ o. keys_set (cons_option o (ps ++ before))) (sym c.in-Some.is)
