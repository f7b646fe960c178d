use Rattle.std.proofs.Common.{Some, ap, option_map, ◌∙◌}
use Rattle.slate_txn.specs.State.{Tx}
use Rattle.slate_txn.proofs.NamedLaws.{find_is}
use Rattle.slate_txn.proofs.open.begin_of.Goals as goal

pub returns-in-Some : goal.returns-in-Some
returns-in-Some c = ap Some c.begin.ensures ∙ ap (option_map (λ (t : Tx). t.begin)) (c.in-Some.ensures.value ∙ find_is c.args.id.now c.args.items.now.entries)

pub returns-in-None : goal.returns-in-None
returns-in-None c = ap (option_map (λ (t : Tx). t.begin)) (c.in-None.ensures.value ∙ find_is c.args.id.now c.args.items.now.entries)
