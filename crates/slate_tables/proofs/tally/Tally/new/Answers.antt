use Rattle.std.proofs.Common.{◌≡◌, ◌⊎◌, inl, inr, ℕ, ◌+◌, ◌<◌, ◌^◌, List, [], ◌∷◌, ◌++◌, length, take, map, refl, sym, ap, ◌∙◌, subst, arith}
use Rattle.std.specs.Prelude.{IfOk, MatchOption, None, Option, Some}
use Rattle.std.proofs.lemmas.Result.{IfOk-weaker}
use Rattle.slate_types.specs.declared.types.RowEntry.{RowEntry}
use Rattle.slate_table.specs.StatsReading.{counts_of}
use Rattle.slate_tables.proofs.TallyLaws.{none_good}
use Rattle.slate_tables.proofs.tally.Tally.new.Goals as goal

pub returns : goal.returns
returns c = record {
  good = none_good;
  stats = λ i. record { all = record { puts = 0; deletes = 0; merges = 0 }; key_bytes = 0; value_bytes = 0; blocks = map counts_of (c.new.ensures.items i) };
  span = refl;
}
