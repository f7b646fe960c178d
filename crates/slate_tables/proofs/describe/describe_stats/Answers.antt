use Rattle.std.proofs.Common.{◌≡◌, ◌⊎◌, inl, inr, ℕ, ◌≤◌, List, refl, sym, ap, ◌∙◌, subst, arith}
use Rattle.std.specs.Prelude.{IfSome, None, Ok, Option, Some, string_bytes}
use Rattle.slate_types.specs.declared.error.SlateDBError.TheVariants.{BlockTransformError, StoreFault}
use Rattle.slate_types.specs.Faults.{faults_of}
use Rattle.slate_types.specs.Outside.{Act, AddsReads}
use Rattle.slate_types.proofs.Reaching.{adds_none, reads_then}
use Rattle.slate_types.proofs.StillLaws.{still_same, still_then}
use Rattle.slate_store.specs.Env.{changed_by}
use Rattle.slate_table.specs.declared.info.ObjectMetadata.{ObjectMetadata}
use Rattle.slate_table.specs.declared.sst_file.SstFile.{SstFile}
use Rattle.slate_table.specs.declared.sst_stats.SstStats.{SstStats}
use Rattle.slate_table.specs.Reading.{IsStatsRead, ReadsStats, of_stats}
use Rattle.slate_table.specs.StatsReading.{stats_of}
use Rattle.slate_tables.specs.declared.check.Flaw.{Flaw}
use Rattle.slate_tables.specs.declared.check.Part.TheVariants as parts
use Rattle.slate_tables.specs.declared.describe.Described.TheVariants as descriptions
use Rattle.slate_tables.specs.Finds.{reader_reach}
use Rattle.slate_tables.proofs.CheckLaws.{told_still}
use Rattle.slate_tables.proofs.FindLaws.{may_open_adds, measured_adds, once_adds, opened_adds, reader_reads, reader_still, reads_add, same_faults, still_ok, store_still}
use Rattle.slate_tables.proofs.PartLaws.{filters_add}
use Rattle.slate_tables.proofs.describe.describe_stats.Goals as goal

pub returns-in-Some : goal.returns-in-Some
returns-in-Some g c =
    let s = g.S.Store in
    let t = g.T.BlockTransformer in
    let old = c.args.reader.now in
    let mid = c.stats.new.reader in
    let a = reader_reach s t old in
    let b = reader_reach s t mid in
    let call = c.stats.ensures in
    let h = c.args.file.now.handle in
    let P : Option SstStats → Type 0 = λ o. IfSome o (λ x. ReadsStats (s.objects old.store) (s.acts old.store) (s.acts mid.store) (string_bytes old.root_path) h (λ answer. IsStatsRead (changed_by t.decoded old.transformer) (of_stats h answer) (stats_of x))) in
    let found = subst P c.in-Some.is c.in-Ok.ensures.found in
    let new = c.describe_filters-described.new.reader in
    let d = reader_reach s t new in
    let reads = reader_reads s t old mid call.objects call.same_encoded call.same_decoded (reads_add _ _ _ _ _ _ _ found) call.later call.later_transformer in
    let still = same_faults s t old mid (store_still c.in-Ok.found c.in-Ok.ensures.still) (still_ok c.in-Ok.found c.in-Ok.ensures.still_transformer) in
    record {
      reads = reads_then a b d reads c.describe_filters-described.ensures.reads;
      counts = still_then a.faults b.faults d.faults c.describe_filters-described.result (still_same a.faults b.faults c.in-Ok.found still) c.describe_filters-described.ensures.counts;
    }

pub returns-in-None : goal.returns-in-None
returns-in-None g c =
    let s = g.S.Store in
    let t = g.T.BlockTransformer in
    let old = c.args.reader.now in
    let mid = c.stats.new.reader in
    let a = reader_reach s t old in
    let b = reader_reach s t mid in
    let call = c.stats.ensures in
    let none = c.in-Ok.ensures.none.0 (ap (λ (o : Option SstStats). Ok o) c.in-None.is) in
    let P : Option (List Act) → Type 0 = λ x. AddsReads (s.acts old.store) x in
    let adds = subst P (sym (c.in-Ok.ensures.unread none)) (adds_none (s.acts old.store)) in
    record {
      reads = reader_reads s t old mid call.objects call.same_encoded call.same_decoded adds call.later call.later_transformer;
      counts = same_faults s t old mid (store_still c.in-Ok.found c.in-Ok.ensures.still) (still_ok c.in-Ok.found c.in-Ok.ensures.still_transformer);
    }

pub returns-in-Err : goal.returns-in-Err
returns-in-Err g c =
    let s = g.S.Store in
    let t = g.T.BlockTransformer in
    let old = c.args.reader.now in
    let mid = c.stats.new.reader in
    let a = reader_reach s t old in
    let b = reader_reach s t mid in
    let call = c.stats.ensures in
    let flaw : Flaw = record { part = parts.Stats; offset = Some c.args.file.now.handle.info.stats_offset; error = c.in-Err.error } in
    let told = c.refused.ensures in
    record {
      reads = reader_reads s t old mid call.objects call.same_encoded call.same_decoded (once_adds _ _ _ _ _ _ _ c.in-Err.ensures.once) call.later call.later_transformer;
      counts = reader_still s t old mid c.refused.result (told_still {T = Option SstStats} (λ f. descriptions.Damaged f) flaw StoreFault c.refused.result (inr (inl refl)) told c.in-Err.ensures.still)
          (told_still {T = Option SstStats} (λ f. descriptions.Damaged f) flaw BlockTransformError c.refused.result (inr (inr refl)) told c.in-Err.ensures.still_transformer);
    }
