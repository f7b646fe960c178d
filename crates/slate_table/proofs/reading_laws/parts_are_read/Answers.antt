use Rattle.std.proofs.Common.{ℕ, List}
use Rattle.slate_table.specs.Decoded.{Info, IsInfo, SectionsLieBefore}
use Rattle.slate_table.proofs.StatsReads.{stats_reads, stats_again}
use Rattle.slate_table.proofs.InfoReads.{InfoTakes, info_reads, info_again}
use Rattle.slate_table.proofs.IndexReads.{index_reads, index_again}
use Rattle.slate_table.proofs.FiltersReads.{filters_reads, filters_again}
use Rattle.slate_table.proofs.reading_laws.parts_are_read.Goals as goal

both : (version end : ℕ) (bytes : List ℕ) (info : Info) → InfoTakes version end bytes info → IsInfo version bytes info × SectionsLieBefore end info
both version end bytes info t = (t.is, t.before)

pub returns : goal.returns
returns c =
    record {
      stats = λ bytes stats fits. (stats_reads bytes stats fits, stats_again bytes stats);
      infos = (λ version end bytes info fits. (
        λ read. both version end bytes info (info_reads version end bytes info fits read),
        λ t. info_again version end bytes info (record { is = t.0; before = t.1 }),
      ));
      indexes = λ end bytes entries fits. (index_reads end bytes entries fits, index_again end bytes entries);
      filters = λ bytes filters fits. (filters_reads bytes filters fits, filters_again bytes filters);
    }
