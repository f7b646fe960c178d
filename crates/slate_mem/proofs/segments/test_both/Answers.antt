use Rattle.std.proofs.Common.{◌≡◌, ◌++◌, ◌∙◌, ap, sym, inl, inr}
use Rattle.std.specs.Prelude.{find, option_copied, option_map}
use Rattle.slate_types.specs.declared.error.SlateDBError.TheVariants as errors
use Rattle.slate_types.specs.Keys.{keys_set}
use Rattle.slate_mem.specs.KeyTests.{nest}
use Rattle.slate_mem.specs.Segments.{lesser}
use Rattle.slate_mem.proofs.NestLaws.{find_both}
use Rattle.slate_mem.proofs.segments.test_both.Goals as goal
use Rattle.slate_types.proofs.Exits.{on_ok_weaker}
use Rattle.std.proofs.lemmas.Result.{IfErr-weaker}

pub returns-clause-fine : goal.returns-clause-fine
returns-clause-fine c =
    let p = c.args.prefix.now in
    let recorded = c.args.recorded.now.keys in
    let own = c.args.own.now.keys in
    let found : option_copied c.lesser.result ≡ find (nest p) (keys_set (recorded ++ own)) =
    c.lesser.ensures ∙ (λ i. lesser (c.in_ok-recorded.ensures.least i) (c.in_ok-own.ensures.least i)) ∙ sym (find_both p recorded own c.in_ok-recorded.ensures.rising c.in_ok-own.ensures.rising) in
    on_ok_weaker c.test_other.result (λ none. ap (option_map (λ q. errors.InvalidSegmentPrefix p q)) (sym found ∙ none)) c.test_other.ensures.fine

pub returns-clause-cause : goal.returns-clause-cause
returns-clause-cause c =
    let p = c.args.prefix.now in
    let recorded = c.args.recorded.now.keys in
    let own = c.args.own.now.keys in
    let found : option_copied c.lesser.result ≡ find (nest p) (keys_set (recorded ++ own)) =
    c.lesser.ensures ∙ (λ i. lesser (c.in_ok-recorded.ensures.least i) (c.in_ok-own.ensures.least i)) ∙ sym (find_both p recorded own c.in_ok-recorded.ensures.rising c.in_ok-own.ensures.rising) in
    IfErr-weaker c.test_other.result _ _ (λ e h. elim h [ inl m ↦ inl m | inr f ↦ inr (ap (option_map (λ q. errors.InvalidSegmentPrefix p q)) (sym found) ∙ f) ]) c.test_other.ensures.cause
