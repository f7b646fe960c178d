use Rattle.std.proofs.Common.{◌∙◌, ap, map, rules}
use Rattle.std.proofs.lemmas.Fn.{filter_same}
use Rattle.std.specs.String.{string_bytes}
use Rattle.slate_filter.specs.Policy.{Policy}
use Rattle.slate_language.specs.Words.{filter_names, is_used}
use Rattle.slate_language.proofs.FilterLaws.{map_filter}
use Rattle.slate_language.proofs.words.keep_used.Goals as goal

pub returns : goal.returns
returns g c =
    let names = filter_names (map string_bytes c.args.words.now) in
    ap (λ ps. map (λ p. (goal.FilterPolicy-dyn g (p.vtable, p.value)).meaning p.value) ps)
    (filter_same _ (λ p. is_used names ((goal.FilterPolicy-dyn g (p.vtable, p.value)).meaning p.value).name) _ (λ x b f h. search rules) _ _ c.retain.ensures.filtered)
    ∙ map_filter (λ p. (goal.FilterPolicy-dyn g (p.vtable, p.value)).meaning p.value) (λ (q : Policy). is_used names q.name) c.args.policies.items
