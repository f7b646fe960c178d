use Rattle.std.proofs.Common.{◌∙◌, List, ℕ, not, filter, rules}
use Rattle.std.specs.List.{list_any}
use Rattle.std.specs.BTreeMap.{is_at}
use Rattle.std.proofs.lemmas.Fn.{filter_same}
use Rattle.slate_types.specs.Keys.{key_cmp}
use Rattle.slate_mem.proofs.TableLaws.{among_is}
use Rattle.slate_mem.proofs.mem_table.drop_prefixes.Goals as goal

pub returns-clause-prefixes : goal.returns-clause-prefixes
returns-clause-prefixes c =
    let others = c.args.others.now.keys in
    filter_same _ (λ (p : List ℕ). not (list_any (is_at (key_cmp p)) others)) (record { 0 = c.args.others }) (λ x b f t. search rules) _ _ c.retain.ensures.filtered
    ∙ (λ i. filter (λ p. not (among_is p others i)) c.args.prefixes.now.keys)
