use Rattle.std.proofs.Common.{◌≡◌, ◌⊎◌, inl, inr, ℕ, ◌≤◌, List, refl, sym, ap, ◌∙◌, subst, arith}
use Rattle.std.specs.Prelude.{IfSome, None, Ok, Option, Some, string_bytes}
use Rattle.slate_types.specs.declared.error.SlateDBError.TheVariants.{BlockTransformError, StoreFault}
use Rattle.slate_types.specs.Faults.{faults_of}
use Rattle.slate_types.specs.Outside.{Act, AddsReads}
use Rattle.slate_types.proofs.Reaching.{adds_none, reads_then}
use Rattle.slate_types.proofs.StillLaws.{still_same, still_then}
use Rattle.slate_store.specs.Env.{changed_by}
use Rattle.slate_table.specs.declared.info.ObjectMetadata.{ObjectMetadata}
use Rattle.slate_table.specs.declared.sst_file.SstFile.{SstFile}
use Rattle.slate_table.specs.declared.sst_stats.SstStats.{SstStats}
use Rattle.slate_table.specs.Reading.{IsStatsRead, ReadsStats, of_stats}
use Rattle.slate_table.specs.StatsReading.{stats_of}
use Rattle.slate_tables.specs.declared.check.Flaw.{Flaw}
use Rattle.slate_tables.specs.declared.check.Part.TheVariants as parts
use Rattle.slate_tables.specs.declared.describe.Described.TheVariants as descriptions
use Rattle.slate_tables.specs.Finds.{reader_reach}
use Rattle.slate_tables.proofs.CheckLaws.{told_still}
use Rattle.slate_tables.proofs.FindLaws.{may_open_adds, measured_adds, once_adds, opened_adds, reader_reads, reader_still, reads_add, same_faults, still_ok, store_still}
use Rattle.slate_tables.proofs.PartLaws.{filters_add}
use Rattle.slate_tables.proofs.describe.describe_table.Goals as goal

pub returns-in-Ok : goal.returns-in-Ok
returns-in-Ok g c =
    let s = g.S.Store in
    let t = g.T.BlockTransformer in
    let old = c.args.reader.now in
    let mid = c.open.new.self in
    let a = reader_reach s t old in
    let b = reader_reach s t mid in
    let faults = ap (faults_of t.faults) c.open.ensures.transformer in
    let new = c.describe_stats-described.new.reader in
    let d = reader_reach s t new in
    let reads = reader_reads s t old mid c.open.ensures.objects (ap (changed_by t.encoded) c.open.ensures.transformer) (ap (changed_by t.decoded) c.open.ensures.transformer)
    (opened_adds _ _ _ _ _ _ _ c.in-Ok.ensures.found) c.open.ensures.later (omega (arith, faults)) in
    let still = same_faults s t old mid (store_still c.in-Ok.file c.in-Ok.ensures.still) faults in
    record {
      reads = reads_then a b d reads c.describe_stats-described.ensures.reads;
      counts = still_then a.faults b.faults d.faults c.describe_stats-described.result (still_same a.faults b.faults c.in-Ok.file still) c.describe_stats-described.ensures.counts;
    }

pub returns-in-Err : goal.returns-in-Err
returns-in-Err g c =
    let s = g.S.Store in
    let t = g.T.BlockTransformer in
    let old = c.args.reader.now in
    let mid = c.open.new.self in
    let a = reader_reach s t old in
    let b = reader_reach s t mid in
    let faults = ap (faults_of t.faults) c.open.ensures.transformer in
    let flaw : Flaw = record { part = parts.Info; offset = None; error = c.in-Err.error } in
    record {
      reads = reader_reads s t old mid c.open.ensures.objects (ap (changed_by t.encoded) c.open.ensures.transformer) (ap (changed_by t.decoded) c.open.ensures.transformer)
          (may_open_adds _ _ _ _ c.in-Err.ensures.calls) c.open.ensures.later (omega (arith, faults));
      counts = reader_still s t old mid c.refused.result (told_still {T = SstFile} (λ f. descriptions.Damaged f) flaw StoreFault c.refused.result (inr (inl refl)) c.refused.ensures c.in-Err.ensures.still) (inr faults);
    }
