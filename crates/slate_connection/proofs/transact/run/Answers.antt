use Rattle.std.proofs.Common.{rules, refl}
use Rattle.slate_connection.proofs.Going.{stays_at}
use Rattle.slate_connection.proofs.transact.run.Goals as goal

pub returns-clause-ran : goal.returns-clause-ran
returns-clause-ran g c = (_, _, c.work.ensures, refl, search rules)

pub returns-clause-stays : goal.returns-clause-stays
returns-clause-stays g c =
    let p = returns-clause-ran g c in
    stays_at g.D.Transact.terms g.D.Transact.seen p.0.now.db.now p.1.now.db.now _ _ p.3 p.4 (c.requires.stays _ _ _ _ _ p.2).1
