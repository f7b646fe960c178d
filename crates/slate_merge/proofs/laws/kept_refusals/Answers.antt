use Rattle.std.proofs.Common.{ap}
use Rattle.slate_merge.proofs.Operators.{kept_some, stays_again, stays_keeps}
use Rattle.slate_merge.proofs.laws.kept_refusals.Goals as goal

pub returns : goal.returns
returns g c = record {
  kept = λ x y m reads at e ready room h. stays_keeps x.refusal x.begun at e _ _ y.refusal ready room (λ s. ap (λ it. it.refusal) s.1) (λ k. k.0) h;
  again = λ x y m reads at e d kept h. stays_again x.refusal x.begun at e d _ _ y.refusal kept (λ s. ap (λ it. it.refusal) s.1) h;
  no_begin = λ x y m reads e kept b. kept_some e x.refusal kept b.0;
  no_row = λ x y m reads answer e kept t. kept_some e x.refusal kept t.0.1;
  no_seek = λ x y m reads key e kept s. kept_some e x.refusal kept s.0.1;
}
