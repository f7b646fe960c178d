use Rattle.std.proofs.Common.{◌≡◌, ℕ, ◌+◌, ◌<◌, List, [], ◌∷◌, ◌++◌, length, take, drop, get_or, sym, ap, ◌∙◌, subst, append_assoc, arith}
use Rattle.std.specs.Prelude.{MatchOption, Option}
use Rattle.slate_types.specs.declared.types.RowEntry.{RowEntry}
use Rattle.slate_table.specs.Table.{AreInOrder}
use Rattle.slate_tables.specs.Tallies.{IsSpanOf}
use Rattle.slate_tables.specs.declared.tally.Span.{Span}
use Rattle.slate_tables.proofs.TallyLaws.{order_stops}
use Rattle.slate_tables.proofs.tally.longer_span.Goals as goal

pub returns-in-None-clause-span : goal.returns-in-None-clause-span
returns-in-None-clause-span c = λ before order is.
    (let so_far = c.loop-row.invariant before order is in
    let front = before ++ take c.loop-row.row-index c.args.rows.now in
    let P : Option Span → Type 0 = λ o. MatchOption o (AreInOrder (front ++ (c.row-item.result ∷ [])) → ⊥) (λ s. AreInOrder (front ++ (c.row-item.result ∷ [])) × IsSpanOf (front ++ (c.row-item.result ∷ [])) s) in
    order_stops before c.args.rows.now c.loop-row.row-index c.row-item.result (omega arith) c.row-item.is (subst P c.in-None.is (c.in_ok-next.ensures.span front so_far.0 so_far.1)))
