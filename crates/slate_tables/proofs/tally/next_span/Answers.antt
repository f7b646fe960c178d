use Rattle.std.proofs.Common.{◌≡◌, List, [], ◌∷◌, ◌++◌, sym, ap, ◌∙◌, subst}
use Rattle.std.specs.Prelude.{Option}
use Rattle.std.proofs.lemmas.Result.{IfOk-weaker}
use Rattle.slate_types.specs.declared.types.RowEntry.{RowEntry}
use Rattle.slate_tables.specs.Tallies.{IsSpan, IsSpanOf}
use Rattle.slate_tables.specs.declared.tally.Span.{Span}
use Rattle.slate_tables.proofs.TallyLaws.{match_weaker, span_follows, span_more, span_stops}
use Rattle.slate_tables.proofs.tally.next_span.Goals as goal

pub returns-then-stands_behind-clause-span : goal.returns-then-stands_behind-clause-span
returns-then-stands_behind-clause-span c = λ before order is.
    (let row = c.args.row.now in
    let s = c.in-Some.span in
    let P : Option Span → Type 0 = λ o. IsSpan before o in
    let h : IsSpanOf before s = subst P c.in-Some.is is in
    let follows = sym c.stands_behind.ensures ∙ c.if-stands_behind.true in
    IfOk-weaker c.lengthened.result _ _
    (λ next m. match_weaker next (λ none. absurd none)
    (λ more same. (let Q : Span → Type 0 = λ x. IsSpanOf (before ++ (row ∷ [])) x in
    (span_follows before row s h order follows, subst Q (sym same) (span_more before row s h)))) m) c.lengthened.ensures.span)

pub returns-else-stands_behind-clause-span : goal.returns-else-stands_behind-clause-span
returns-else-stands_behind-clause-span c = λ before order is more.
    (let s = c.in-Some.span in
    let P : Option Span → Type 0 = λ o. IsSpan before o in
    let h : IsSpanOf before s = subst P c.in-Some.is is in
    span_stops before c.args.row.now s h order (sym c.stands_behind.ensures ∙ c.if-stands_behind.false) more)
