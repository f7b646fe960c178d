use Rattle.std.proofs.Common.{◌≡◌, List, ℕ, Some, false, codes, ap, ◌∙◌}
use Rattle.std.specs.Prelude.{IfOk, string_bytes}
use Rattle.std.specs.Fmt.{digits}
use Rattle.std.proofs.lemmas.Result.{IfOk-weaker}
use Rattle.slate_filter.specs.BloomPolicies.{bloom_name, named_by}
use Rattle.slate_command.proofs.filters.fixed.Goals as goal

pub returns-clause-name : goal.returns-clause-name
unfolding digits
returns-clause-name c =
    IfOk-weaker c.prefixes.result (λ made. named_by made ≡ bloom_name (Some (string_bytes c.in_ok-extractor.extractor.name)) false) (λ made. named_by made ≡ bloom_name (Some (codes "fixed4")) false)
    (λ made h. h ∙ ap (λ (label : List ℕ). bloom_name (Some label) false) c.in_ok-extractor.ensures.name) c.prefixes.ensures.name
