use Rattle.slate_stock.proofs.JournalLaws.{balances_add_up, none_is_above, each_is_a_step}
use Rattle.slate_stock.proofs.laws.audited.Goals as goal

pub returns : goal.returns
returns c =
    record {
      balances = balances_add_up;
      none_is_above = none_is_above;
      steps = each_is_a_step;
    }
