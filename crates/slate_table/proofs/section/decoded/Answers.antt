use Rattle.std.proofs.Common.{◌∙◌, arith, inr, refl}
use Rattle.slate_types.specs.Refusals.{of_transformer}
use Rattle.slate_table.proofs.Results.{mapped, mapped_err, transform_fault, transform_still}
use Rattle.slate_table.proofs.section.decoded.Goals as goal

pub returns-in-None : goal.returns-in-None
returns-in-None g c = record {
  bytes = rw c.in-None.is refl;
  cause = tt;
  same_encoded = refl;
  same_decoded = refl;
  later = omega arith;
  still = inr refl;
}

pub returns-in-Some : goal.returns-in-Some
returns-in-Some g c = record {
  bytes = rw c.in-Some.is (mapped c.decode.result c.map_err.result _ _ _ c.map_err.ensures.cases (λ made h. h) c.decode.ensures.bytes);
  cause = rw c.in-Some.is (mapped_err c.decode.result c.map_err.result of_transformer _ c.map_err.ensures.cases (λ e is. transform_fault e _ _ (λ failed. c.decode.ensures.cause (is ∙ failed))));
  same_encoded = rw c.in-Some.is c.decode.ensures.same_encoded;
  same_decoded = rw c.in-Some.is c.decode.ensures.same_decoded;
  later = rw c.in-Some.is c.decode.ensures.later;
  still = rw c.in-Some.is (transform_still c.decode.result c.map_err.result c.map_err.ensures.cases c.decode.ensures.still);
}
