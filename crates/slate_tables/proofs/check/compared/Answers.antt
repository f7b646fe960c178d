use Rattle.std.proofs.Common.{◌≡◌, ◌⊎◌, inl, inr, List, refl, sym, ap, ◌∙◌, subst}
use Rattle.std.specs.Prelude.{Some}
use Rattle.std.proofs.lemmas.Bool.{false≢true}
use Rattle.slate_types.specs.declared.types.RowEntry.{RowEntry}
use Rattle.slate_table.specs.Decoded.{Stats}
use Rattle.slate_table.specs.FileLaws.{table_stats}
use Rattle.slate_table.specs.StatsReading.{stats_of}
use Rattle.slate_tables.specs.Checks.{IsRead}
use Rattle.slate_tables.proofs.CheckLaws.{rows_counted, same_stats, stats_same}
use Rattle.slate_tables.proofs.check.compared.Goals as goal

pub returns-then-same : goal.returns-then-same
returns-then-same c = λ w blocks opened read tally.
    (let h = c.args.file.now.handle in
    let stats = c.args.stats.now in
    let same = stats_same c.args.tally.stats stats (c.equal_sst_stats-same.ensures.0 c.if-same.true) ∙ tally.stats in
    let P : Stats → Type 0 = λ x. IsRead w h x blocks in
    c.summed_up.ensures w blocks opened (subst P same read) tally.good tally.span (rows_counted blocks stats c.num_rows.result same c.num_rows.ensures))

pub returns : goal.returns
returns c = λ w blocks opened read tally.
    (let h = c.args.file.now.handle in
    let stats = c.args.stats.now in
    let other = λ (is : stats_of stats ≡ table_stats blocks). (let same = c.equal_sst_stats-same.ensures.1 (same_stats c.args.tally.stats stats (is ∙ sym tally.stats)) in false≢true (sym c.if-same.false ∙ same)) in
    rw c.torn.ensures (inr (h, refl, opened, (refl, inr (inr (stats_of stats, blocks, read, other))))))
