use Rattle.std.proofs.Common.{ℕ, List, ap, subst, ◌∙◌, sym}
use Rattle.std.proofs.lemmas.Result.{IfErr-weaker}
use Rattle.slate_types.specs.declared.error.SlateDBError.TheVariants.{OutOfMemory}
use Rattle.slate_block.specs.RowReading.{refusal}
use Rattle.slate_table.specs.Decoded.{IsStats}
use Rattle.slate_table.specs.StatsReading.{stats_of, stats_in}
use Rattle.slate_table.proofs.StatsReads.{stats_reads, refused_stats}
use Rattle.slate_table.proofs.Results.{either}
use Rattle.slate_table.proofs.sst_stats.SstStats.decode.Goals as goal
use Rattle.slate_types.proofs.Exits.{if_ok_both}

pub returns : goal.returns
returns c =
    record {
      found = (if_ok_both c.read_stats-stats.result _ _ _
          (λ stats found bytes. subst (λ (b : List ℕ). IsStats b (stats_of stats)) c.as_slice.ensures (stats_reads c.as_slice.result.now (stats_of stats) bytes found))
          c.read_stats-stats.ensures.found c.read_stats-stats.ensures.bytes);
      only = (λ stats is. IfErr-weaker c.read_stats-stats.result _ _
          (λ e h. refused_stats stats c.args.bytes c.as_slice.result.now e OutOfMemory c.as_slice.ensures h is) c.read_stats-stats.ensures.cause);
      cause = (IfErr-weaker c.read_stats-stats.result _ _
          (λ e h. either (λ fails. ap (λ (b : List ℕ). refusal (stats_in b)) (sym c.as_slice.ensures) ∙ ap refusal fails) h) c.read_stats-stats.ensures.cause);
    }
