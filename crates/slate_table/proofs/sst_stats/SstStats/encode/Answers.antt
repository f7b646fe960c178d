use Rattle.std.proofs.Common.{ℕ, ◌<◌, ◌^◌, List, ◌++◌, length, map, ap, subst, ◌∙◌, arith}
use Rattle.std.specs.List.{flat_map, AllByRecursion}
use Rattle.std.proofs.lemmas.List.{length-map}
use Rattle.slate_block.specs.declared.block.BlockStats.{BlockStats}
use Rattle.slate_block.specs.RowSpelling.{be16}
use Rattle.slate_table.specs.Decoded.{FitCounts, counts_bytes}
use Rattle.slate_table.specs.StatsReading.{counts_of, stats_of, totals_bytes}
use Rattle.slate_table.proofs.Results.{mapped}
use Rattle.slate_table.proofs.StatsReads.{spelled_map}
use Rattle.std.proofs.lemmas.Result.{IfOk-from_err}
use Rattle.slate_types.specs.declared.error.SlateDBError.TheVariants.{OutOfMemory}
use Rattle.slate_table.proofs.Asking.{memory_exit}
use Rattle.slate_table.proofs.sst_stats.SstStats.encode.Goals as goal

pub returns-clause-spelling : goal.returns-clause-spelling
returns-clause-spelling c =
    let blocks = c.args.self.now.block_stats.items in
    let totals = totals_bytes (stats_of c.args.self.now) in
    let spelled : List BlockStats → List ℕ = λ bs. flat_map (λ b. counts_bytes be16 (counts_of b)) bs in
    let appended = c.in_ok-append_block_stats.ensures.appended
    ∙ ap (λ (l : List ℕ). l ++ spelled c.deref.result.now) (c.in_ok-append_totals.ensures.appended ∙ ap (λ (l : List ℕ). l ++ totals) c.new-out.ensures.items)
    ∙ ap (λ (l : List ℕ). totals ++ l) (ap spelled c.deref.ensures.value ∙ spelled_map blocks) in
    let each = subst (λ (bs : List BlockStats). AllByRecursion (FitCounts 16) (map counts_of bs)) c.deref.ensures.value c.in_ok-append_block_stats.ensures.fit in
    let few : length (map counts_of blocks) < 2 ^ 32 = omega (arith, length-map blocks counts_of) in
    mapped c.from_vec.result c.map_err.result _ _ _ c.map_err.ensures.cases
    (λ bytes is. record {
      all = c.in_ok-append_totals.ensures.fit.0;
      keys = c.in_ok-append_totals.ensures.fit.1;
      values = c.in_ok-append_totals.ensures.fit.2;
      each = each;
      few = few;
      is = is ∙ appended;
    })
    c.from_vec.ensures.ok

pub returns-in_err-append_totals : goal.returns-in_err-append_totals
returns-in_err-append_totals c =
    record {
      spelling = IfOk-from_err c.from_residual.result _ c.from_residual.ensures.0;
      cause = memory_exit c.from_residual.result _ c.from_residual.ensures.1 OutOfMemory c.in_err-append_totals.ensures.cause;
    }

pub returns-in_err-append_block_stats : goal.returns-in_err-append_block_stats
returns-in_err-append_block_stats c =
    record {
      spelling = IfOk-from_err c.from_residual-in_err-append_block_stats.result _ c.from_residual-in_err-append_block_stats.ensures.0;
      cause = memory_exit c.from_residual-in_err-append_block_stats.result _ c.from_residual-in_err-append_block_stats.ensures.1 OutOfMemory c.in_err-append_block_stats.ensures.cause;
    }
