use Rattle.std.proofs.Common.{◌≡◌, ◌∙◌}
use Rattle.slate_services.proofs.FlushingLaws.{are_served, if_ok, sums}
use Rattle.slate_services.proofs.flushing.serve.Goals as goal

pub returns-clause-served : goal.returns-clause-served
returns-clause-served g c =
    let one = c.split-other.ensures in
    let two = c.split-third.ensures in
    let all = c.pay_and_flush-one.ensures in
    if_ok _ _ c.left_by-left.result c.left_by-left.ensures.left
    (λ left h.
    are_served _ _ _ _ _ _ _ _ _ _ _ _ _ _ _
    (record {
      first = all.first;
      second = all.second;
      third = all.third;
      left = h.0;
      first_new = two.same.3 ∙ (one.same.3 ∙ c.requires.fresh.0);
      second_new = one.new.3;
      third_new = two.new.3;
    })
    _ (sums _ _ _ _ h.1 h.2))
