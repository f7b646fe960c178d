use Rattle.std.proofs.Common.{◌≡◌, ◌⊎◌, inl, inr, ℕ, ◌+◌, ◌<◌, ◌^◌, List, [], ◌∷◌, ◌++◌, length, take, map, refl, sym, ap, ◌∙◌, subst, arith}
use Rattle.std.specs.Prelude.{IfOk, MatchOption, None, Option, Some}
use Rattle.std.proofs.lemmas.Result.{IfOk-weaker}
use Rattle.slate_types.specs.declared.types.RowEntry.{RowEntry}
use Rattle.slate_table.specs.declared.sst_stats.SstStats.{SstStats}
use Rattle.slate_table.specs.FileLaws.{table_stats}
use Rattle.slate_table.specs.StatsReading.{stats_of}
use Rattle.slate_tables.specs.Good.{FitsStats}
use Rattle.slate_tables.proofs.tally.with_stats.Goals as goal

abbrev Found : List (List RowEntry) → Option SstStats → Type 0
Found all o = MatchOption o (FitsStats (table_stats all) → ⊥) (λ x. (stats_of x ≡ table_stats all) × FitsStats (table_stats all))

pub returns-in-Some : goal.returns-in-Some
returns-in-Some c = record {
  stats = λ blocks fit is.
      (let all = blocks ++ (c.args.rows.now ∷ []) in
      let P : Option SstStats → Type 0 = λ o. Found all o in
      let found = subst P c.in-Some.is (c.in-Ok.ensures.stats blocks fit is) in
      (refl, found.0, found.1));
  cause = tt;
}

pub returns-in-None : goal.returns-in-None
returns-in-None c = record {
  stats = λ blocks fit is.
      (let P : Option SstStats → Type 0 = λ o. Found (blocks ++ (c.args.rows.now ∷ [])) o in
      subst P c.in-None.is (c.in-Ok.ensures.stats blocks fit is));
  cause = tt;
}

pub returns-in-Err : goal.returns-in-Err
returns-in-Err c = record { stats = λ blocks fit is. tt; cause = c.in-Err.ensures.cause }
