use Rattle.std.proofs.Common.{subst}
use Rattle.std.specs.Prelude.{IfSome}
use Rattle.slate_txn.specs.Audited.{IsFirstForeign}
use Rattle.slate_stock.proofs.ForeignLaws.{is_foreign}
use Rattle.slate_stock.specs.Journals.{order_kind}
use Rattle.slate_stock.proofs.audit.audit.Goals as goal

pub returns-in-Some-clause-no : goal.returns-in-Some-clause-no
returns-in-Some-clause-no c = λ n0 legal are. absurd (is_foreign order_kind c.args.journal.now.events c.in-Some.seq (subst (λ o. IfSome o (IsFirstForeign order_kind c.args.journal.now.events)) c.in-Some.is (c.in_ok-first_foreign.ensures.some n0 legal)) are)
