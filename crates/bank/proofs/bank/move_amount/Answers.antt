use Rattle.std.proofs.Common.{rules}
use Rattle.bank.proofs.bank.move_amount.Goals as goal

pub returns-clause-took : goal.returns-clause-took
returns-clause-took g c = λ none.
    let first = c.in_ok-get.ensures.noted in
    let second = c.in_ok-get-2.ensures.noted in
    record {
      source = first.0;
      target = second.0;
      left = c.in-Some-Some.left;
      more = c.in-Some-Some.more;
      is = search rules;
      less = search rules;
      sum = search rules;
    }
