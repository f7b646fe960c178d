use Rattle.slate_txn.proofs.PlaceLaws.{at_its_place, each_at_its_place}
use Rattle.slate_txn.proofs.laws.commits.Goals as goal

pub returns-clause-stands_at_its_place : goal.returns-clause-stands_at_its_place
returns-clause-stands_at_its_place c = at_its_place

pub returns-clause-each_stands_at_its_place : goal.returns-clause-each_stands_at_its_place
returns-clause-each_stands_at_its_place c = each_at_its_place
