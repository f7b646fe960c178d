use Rattle.std.proofs.Common.{◌≡◌, ◌⊎◌, inl, inr, ℕ, ◌≤◌, List, refl, sym, ap, ◌∙◌, subst, arith}
use Rattle.std.specs.Prelude.{IfSome, None, Ok, Option, Some, string_bytes}
use Rattle.slate_types.specs.declared.error.SlateDBError.TheVariants.{BlockTransformError, StoreFault}
use Rattle.slate_types.specs.Faults.{faults_of}
use Rattle.slate_types.specs.Outside.{Act, AddsReads}
use Rattle.slate_types.proofs.Reaching.{adds_none, reads_then}
use Rattle.slate_types.proofs.StillLaws.{still_same, still_then}
use Rattle.slate_store.specs.Env.{changed_by}
use Rattle.slate_table.specs.declared.info.ObjectMetadata.{ObjectMetadata}
use Rattle.slate_table.specs.declared.sst_file.SstFile.{SstFile}
use Rattle.slate_table.specs.declared.sst_stats.SstStats.{SstStats}
use Rattle.slate_table.specs.Reading.{IsStatsRead, ReadsStats, of_stats}
use Rattle.slate_table.specs.StatsReading.{stats_of}
use Rattle.slate_tables.specs.declared.check.Flaw.{Flaw}
use Rattle.slate_tables.specs.declared.check.Part.TheVariants as parts
use Rattle.slate_tables.specs.declared.describe.Described.TheVariants as descriptions
use Rattle.slate_tables.specs.Finds.{reader_reach}
use Rattle.slate_tables.proofs.CheckLaws.{told_still}
use Rattle.slate_tables.proofs.FindLaws.{may_open_adds, measured_adds, once_adds, opened_adds, reader_reads, reader_still, reads_add, same_faults, still_ok, store_still}
use Rattle.slate_tables.proofs.PartLaws.{filters_add}
use Rattle.slate_tables.proofs.describe.describe_filters.Goals as goal

pub returns-in-Ok : goal.returns-in-Ok
returns-in-Ok g c =
    let s = g.S.Store in
    let t = g.T.BlockTransformer in
    let old = c.args.reader.now in
    let mid = record old { store = c.read_filters.new.store; transformer = c.read_filters.new.transformer } in
    let a = reader_reach s t old in
    let b = reader_reach s t mid in
    let call = c.read_filters.ensures in
    let h = c.args.file.now.handle in
    let found = c.in-Ok.filters in
    let seen = rw c.as_str-root.ensures.value at c.in-Ok.ensures.found in
    let adds = filters_add (s.acts old.store) (s.acts mid.store) h.info.filter_len _ _ _ _ (λ none. ap s.acts (call.none none).0) c.in-Ok.ensures.found in
    let new = c.describe_size.new.reader in
    let d = reader_reach s t new in
    let reads = reader_reads s t old mid call.objects call.same_encoded call.same_decoded adds call.later call.later_transformer in
    let still = same_faults s t old mid (store_still found c.in-Ok.ensures.still) (still_ok found c.in-Ok.ensures.still_transformer) in
    record {
      reads = reads_then a b d reads c.describe_size.ensures.reads;
      counts = still_then a.faults b.faults d.faults c.describe_size.result (still_same a.faults b.faults found still) c.describe_size.ensures.counts;
    }

pub returns-in-Err : goal.returns-in-Err
returns-in-Err g c =
    let s = g.S.Store in
    let t = g.T.BlockTransformer in
    let old = c.args.reader.now in
    let mid = record old { store = c.read_filters.new.store; transformer = c.read_filters.new.transformer } in
    let a = reader_reach s t old in
    let b = reader_reach s t mid in
    let call = c.read_filters.ensures in
    let flaw : Flaw = record { part = parts.Filters; offset = Some c.args.file.now.handle.info.filter_offset; error = c.in-Err.error } in
    let told = c.refused.ensures in
    record {
      reads = reader_reads s t old mid call.objects call.same_encoded call.same_decoded (once_adds _ _ _ _ _ _ _ c.in-Err.ensures.once) call.later call.later_transformer;
      counts = reader_still s t old mid c.refused.result (told_still {T = _} (λ f. descriptions.Damaged f) flaw StoreFault c.refused.result (inr (inl refl)) told c.in-Err.ensures.still)
          (told_still {T = _} (λ f. descriptions.Damaged f) flaw BlockTransformError c.refused.result (inr (inr refl)) told c.in-Err.ensures.still_transformer);
    }
