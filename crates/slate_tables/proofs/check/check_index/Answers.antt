use Rattle.std.proofs.Common.{◌≡◌, ◌⊎◌, inl, inr, ℕ, ◌≤◌, List, refl, sym, ap, ◌∙◌, subst, arith}
use Rattle.std.specs.Prelude.{IfOk, IfSome, None, Some, string_bytes}
use Rattle.slate_types.specs.declared.error.SlateDBError.TheVariants.{BlockTransformError, StoreFault}
use Rattle.slate_types.specs.declared.types.Ulid.{Ulid}
use Rattle.slate_types.specs.Faults.{faults_of}
use Rattle.slate_types.proofs.Reaching.{reads_then}
use Rattle.slate_store.specs.Env.{changed_by}
use Rattle.slate_table.specs.declared.sst_file.SstFile.{SstFile}
use Rattle.slate_table.specs.declared.sst_index.SstIndex.{SstIndex}
use Rattle.slate_table.specs.IndexValue.{entries_of}
use Rattle.slate_table.specs.StatsReading.{stats_of}
use Rattle.slate_tables.specs.declared.check.Checked.TheVariants as checks
use Rattle.slate_tables.specs.declared.check.Flaw.{Flaw}
use Rattle.slate_tables.specs.declared.check.Part.TheVariants as parts
use Rattle.slate_tables.specs.Checks.{IsChecked}
use Rattle.slate_tables.specs.Finds.{asked_of, reader_reach}
use Rattle.slate_tables.proofs.CheckLaws.{Leaves, leaves_then, outer_store, outer_transformer, told_cause, told_said, told_still}
use Rattle.slate_tables.proofs.FindLaws.{may_open_adds, once_adds, opened_adds, reader_reads, reader_still, reads_add, same_faults, still_ok, store_still}
use Rattle.slate_tables.proofs.PartLaws.{entries_later, entries_now, filters_now, filters_refused, index_refused, opens_later, opens_now, stats_later, stats_now, stats_refused, table_refused}
use Rattle.slate_tables.proofs.RealLaws.{filters_real, index_real, open_real, stats_real}
use Rattle.slate_tables.proofs.check.check_index.Goals as goal

pub returns-in-Ok : goal.returns-in-Ok
returns-in-Ok g c =
    let s = g.S.Store in
    let t = g.T.BlockTransformer in
    let old = c.args.reader.now in
    let mid = c.index.new.reader in
    let new = c.check_filters-checked.new.reader in
    let inner = c.check_filters-checked.ensures in
    let h = c.args.file.now.handle in
    let index = c.in-Ok.index in
    let found = c.in-Ok.ensures.found in
    let adds = reads_add _ _ _ _ _ _ _ found in
    let reads = reader_reads s t old mid c.index.ensures.objects c.index.ensures.same_encoded c.index.ensures.same_decoded adds c.index.ensures.later c.index.ensures.later_transformer in
    let still = same_faults s t old mid (store_still index c.in-Ok.ensures.still) (still_ok index c.in-Ok.ensures.still_transformer) in
    let leaves = leaves_then (reader_reach s t old) (reader_reach s t mid) (reader_reach s t new) index c.check_filters-checked.result reads still (record { cause = inner.cause; reads = inner.reads; counts = inner.counts }) in
    record {
      said = λ begun root is r opened stats. inner.said begun root (is ∙ sym (ap string_bytes c.index.ensures.root)) (reads_then begun (reader_reach s t old) (reader_reach s t mid) r reads)
          (opens_later begun root (s.acts old.store) (s.acts mid.store) h adds opened)
          (stats_later begun root (s.acts old.store) (s.acts mid.store) h (stats_of c.args.stats.now) adds stats)
          (entries_now begun (reader_reach s t old) root (string_bytes old.root_path) (s.acts mid.store) h (entries_of index) is r found);
      root = inner.root ∙ c.index.ensures.root;
      cause = leaves.cause;
      reads = leaves.reads;
      counts = leaves.counts;
    }

pub returns-in-Err : goal.returns-in-Err
returns-in-Err g c =
    let s = g.S.Store in
    let t = g.T.BlockTransformer in
    let old = c.args.reader.now in
    let new = c.index.new.reader in
    let h = c.args.file.now.handle in
    let e = c.in-Err.error in
    let a = reader_reach s t old in
    let b = reader_reach s t new in
    let flaw : Flaw = record { part = parts.Index; offset = Some h.info.index_offset; error = e } in
    let told = c.refused.ensures in
    let adds = once_adds _ _ _ _ _ _ _ c.in-Err.ensures.once in
    record {
      said = λ begun root is r opened stats. told_said (λ f. checks.Damaged f) a.faults b.faults flaw (IsChecked (asked_of begun root b.acts) h.id.0) c.refused.result told
          (elim c.in-Err.ensures.cause [
            | inl fault ↦ inl (outer_store a.faults b.faults e fault)
            | inr (inl fails) ↦ inl (outer_transformer a.faults b.faults e fails.2.0 fails.2.1)
            | inr (inr refused) ↦ inr (inr (h, refl, opens_later begun root a.acts b.acts h adds opened, (refl, index_refused begun a root (string_bytes old.root_path) b.acts h e is r refused)))
          ]);
      root = c.index.ensures.root;
      cause = told_cause (λ f. checks.Damaged f) a b flaw c.refused.result told
          (elim c.in-Err.ensures.cause [
            | inl fault ↦ inl (outer_store a.faults b.faults e fault)
            | inr (inl fails) ↦ inl (outer_transformer a.faults b.faults e fails.2.0 fails.2.1)
            | inr (inr refused) ↦ inr (index_real _ _ _ e refused.2)
          ]);
      reads = reader_reads s t old new c.index.ensures.objects c.index.ensures.same_encoded c.index.ensures.same_decoded adds c.index.ensures.later c.index.ensures.later_transformer;
      counts = reader_still s t old new c.refused.result (told_still {T = SstIndex} (λ f. checks.Damaged f) flaw StoreFault c.refused.result (inr (inl refl)) told c.in-Err.ensures.still)
          (told_still {T = SstIndex} (λ f. checks.Damaged f) flaw BlockTransformError c.refused.result (inr (inr refl)) told c.in-Err.ensures.still_transformer);
    }
