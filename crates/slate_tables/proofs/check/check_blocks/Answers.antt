use Rattle.std.proofs.Common.{◌≡◌, ◌⊎◌, inl, inr, ℕ, zero, ◌+◌, ◌<◌, List, [], ◌∷◌, ◌++◌, length, refl, sym, ap, ◌∙◌, subst, arith}
use Rattle.std.specs.Prelude.{IfErr, IfOk, IsSome, None, Ok, Err, Option, Result, Some, slice_get, string_bytes}
use Rattle.slate_types.specs.declared.error.SlateDBError.TheVariants.{BlockTransformError, StoreFault}
use Rattle.slate_types.specs.declared.types.RowEntry.{RowEntry}
use Rattle.slate_types.specs.Outside.{IsFault, OnlyReads, Reach}
use Rattle.slate_types.proofs.Reaching.{reads_none, reads_then}
use Rattle.slate_types.proofs.StillLaws.{still_same, still_then, unasked_still}
use Rattle.slate_table.specs.IndexValue.{entries_of}
use Rattle.slate_table.specs.StatsReading.{stats_of}
use Rattle.slate_tables.specs.declared.check.Flaw.{Flaw}
use Rattle.slate_tables.specs.declared.check.Part.TheVariants as parts
use Rattle.slate_tables.specs.declared.check.Tallied.{Tallied}
use Rattle.slate_tables.specs.declared.check.Tallied.TheVariants as tallies
use Rattle.slate_tables.specs.Checks.{HasBlocks, IsChecked, IsTallied}
use Rattle.slate_tables.specs.Finds.{FindsRowsOf, asked_of, reader_reach}
use Rattle.slate_tables.specs.Tallies.{IsTally}
use Rattle.slate_tables.proofs.PartLaws.{parts_later}
use Rattle.slate_tables.proofs.check.check_blocks.Goals as goal

pub returns-in-Ok : goal.returns-in-Ok
returns-in-Ok g c =
    let s = g.S.Store in
    let t = g.T.BlockTransformer in
    let old = c.args.reader.now in
    let new = c.tally_blocks.new.reader in
    let a = reader_reach s t old in
    let b = reader_reach s t new in
    let h = c.args.file.now.handle in
    let entries = entries_of c.args.index.now in
    record {
      said = λ begun root is r parts. c.outcome.ensures (asked_of begun root b.acts) entries
          (parts_later begun root a.acts b.acts h (stats_of c.args.stats.now) entries c.tally_blocks.ensures.reads.acts parts) (c.in-Ok.ensures.said begun root is r);
      root = c.tally_blocks.ensures.root;
      cause = tt;
      reads = c.tally_blocks.ensures.reads;
      counts = still_same a.faults b.faults c.in-Ok.tallied c.in-Ok.ensures.counts;
    }

pub returns-in-Err : goal.returns-in-Err
returns-in-Err g c = record {
  said = λ begun root is r parts. tt;
  root = c.tally_blocks.ensures.root;
  cause = c.in-Err.ensures.cause;
  reads = c.tally_blocks.ensures.reads;
  counts = c.in-Err.ensures.counts;
}
