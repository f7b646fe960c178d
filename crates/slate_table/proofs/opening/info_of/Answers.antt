use Rattle.std.proofs.Common.{◌∙◌, Some, ap, refl, inr}
use Rattle.std.proofs.lemmas.Result.{IfErr-weaker}
use Rattle.slate_table.proofs.Results.{either}
use Rattle.slate_table.proofs.opening.info_of.Goals as goal
use Rattle.slate_types.proofs.Exits.{if_ok_both}

pub returns-in_ok-part-in-Some : goal.returns-in_ok-part-in-Some
returns-in_ok-part-in-Some c =
    record {
      found = (if_ok_both c.decode.result _ _ _
          (λ info is before. (c.in_ok-part-in-Some.field-0, c.in-Some.is ∙ ap Some c.in_ok-part-in-Some.ensures.found, is, before)) c.decode.ensures.found c.decode.ensures.before);
      cause = (IfErr-weaker c.decode.result _ _
          (λ e h. either (λ r. inr (c.in_ok-part-in-Some.field-0, (c.in_ok-part-in-Some.field-0, c.in-Some.is ∙ ap Some c.in_ok-part-in-Some.ensures.found, refl), r)) h) c.decode.ensures.cause);
    }
