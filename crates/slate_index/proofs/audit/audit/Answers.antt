use Rattle.std.proofs.Common.{subst, inr, refl}
use Rattle.std.specs.Prelude.{IfSome}
use Rattle.slate_txn.specs.Audited.{IsFirstForeign}
use Rattle.slate_index.specs.Journals.{change_kind}
use Rattle.slate_index.proofs.ForeignLaws.{is_foreign}
use Rattle.slate_index.proofs.audit.audit.Goals as goal

pub returns-in-Some-clause-no : goal.returns-in-Some-clause-no
returns-in-Some-clause-no g c = λ n0 legal are.
    let kind = change_kind (g.F.Fields.model c.args.fields.now) in
    absurd (is_foreign kind c.args.journal.now.events c.in-Some.seq (subst (λ o. IfSome o (IsFirstForeign kind c.args.journal.now.events)) c.in-Some.is (c.in_ok-found.ensures.some n0 legal)) are)

pub returns-in-Some-clause-cause : goal.returns-in-Some-clause-cause
returns-in-Some-clause-cause g c = λ n0 legal.
    let kind = change_kind (g.F.Fields.model c.args.fields.now) in
    inr (record { seq = c.in-Some.seq; is = refl; first = subst (λ o. IfSome o (IsFirstForeign kind c.args.journal.now.events)) c.in-Some.is (c.in_ok-found.ensures.some n0 legal) })
