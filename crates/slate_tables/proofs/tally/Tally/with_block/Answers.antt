use Rattle.std.proofs.Common.{◌≡◌, ◌⊎◌, inl, inr, ℕ, ◌+◌, ◌<◌, ◌^◌, List, [], ◌∷◌, ◌++◌, length, take, map, refl, sym, ap, ◌∙◌, subst, arith}
use Rattle.std.specs.Prelude.{IfOk, MatchOption, None, Option, Some}
use Rattle.std.proofs.lemmas.Result.{IfOk-weaker}
use Rattle.slate_types.specs.declared.types.RowEntry.{RowEntry}
use Rattle.slate_table.specs.Table.{AreInOrder}
use Rattle.slate_tables.specs.Good.{rows_of}
use Rattle.slate_tables.specs.Tallies.{IsSpan, IsTally}
use Rattle.slate_tables.specs.declared.tally.Span.{Span}
use Rattle.slate_tables.proofs.TallyLaws.{match_weaker, not_fitting, out_of_order, tally_more}
use Rattle.slate_tables.proofs.tally.Tally.with_block.Goals as goal

pub returns-in-Some : goal.returns-in-Some
returns-in-Some c =
    let rows = c.args.rows.now in
    record {
      tally = λ blocks h.
          (let P : Option (Option Span) → Type 0 = λ o. MatchOption o (AreInOrder (rows_of blocks ++ rows) → ⊥) (λ s. AreInOrder (rows_of blocks ++ rows) × IsSpan (rows_of blocks ++ rows) s) in
          let span = subst P c.in-Some.is (c.in-Ok.ensures.span (rows_of blocks) h.good.order h.span) in
          IfOk-weaker c.with_stats.result _ _
          (λ next m. match_weaker next (λ none. not_fitting (blocks ++ (rows ∷ [])) none) (λ t found. tally_more blocks rows c.in-Some.span t span.0 span.1 found) m)
          (c.with_stats.ensures.stats blocks h.good.fit h.stats));
      cause = c.with_stats.ensures.cause;
    }

pub returns-in-None : goal.returns-in-None
returns-in-None c =
    let rows = c.args.rows.now in
    record {
      tally = λ blocks h.
          (let P : Option (Option Span) → Type 0 = λ o. MatchOption o (AreInOrder (rows_of blocks ++ rows) → ⊥) (λ s. AreInOrder (rows_of blocks ++ rows) × IsSpan (rows_of blocks ++ rows) s) in
          out_of_order blocks rows (subst P c.in-None.is (c.in-Ok.ensures.span (rows_of blocks) h.good.order h.span)));
      cause = tt;
    }

pub returns-in-Err : goal.returns-in-Err
returns-in-Err c = record { tally = λ blocks h. tt; cause = c.in-Err.ensures.cause }
