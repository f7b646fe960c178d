use Rattle.std.proofs.Common.{◌≡◌, ◌⊎◌, inl, inr, ℕ, ◌≤◌, List, refl, sym, ap, ◌∙◌, subst, arith}
use Rattle.std.specs.Prelude.{IfOk, IfSome, None, Some, string_bytes}
use Rattle.slate_types.specs.declared.error.SlateDBError.TheVariants.{BlockTransformError, StoreFault}
use Rattle.slate_types.specs.declared.types.Ulid.{Ulid}
use Rattle.slate_types.specs.Faults.{faults_of}
use Rattle.slate_types.proofs.Reaching.{reads_then}
use Rattle.slate_store.specs.Env.{changed_by}
use Rattle.slate_table.specs.declared.sst_file.SstFile.{SstFile}
use Rattle.slate_table.specs.declared.sst_index.SstIndex.{SstIndex}
use Rattle.slate_table.specs.IndexValue.{entries_of}
use Rattle.slate_table.specs.StatsReading.{stats_of}
use Rattle.slate_tables.specs.declared.check.Checked.TheVariants as checks
use Rattle.slate_tables.specs.declared.check.Flaw.{Flaw}
use Rattle.slate_tables.specs.declared.check.Part.TheVariants as parts
use Rattle.slate_tables.specs.Checks.{IsChecked}
use Rattle.slate_tables.specs.Finds.{asked_of, reader_reach}
use Rattle.slate_tables.proofs.CheckLaws.{Leaves, leaves_then, outer_store, outer_transformer, told_cause, told_said, told_still}
use Rattle.slate_tables.proofs.FindLaws.{may_open_adds, once_adds, opened_adds, reader_reads, reader_still, reads_add, same_faults, still_ok, store_still}
use Rattle.slate_tables.proofs.PartLaws.{entries_later, entries_now, filters_now, filters_refused, index_refused, opens_later, opens_now, stats_later, stats_now, stats_refused, table_refused}
use Rattle.slate_tables.proofs.RealLaws.{filters_real, index_real, open_real, stats_real}
use Rattle.slate_tables.proofs.check.check_table.Goals as goal

pub returns-in-Ok : goal.returns-in-Ok
returns-in-Ok g c =
    let s = g.S.Store in
    let t = g.T.BlockTransformer in
    let old = c.args.reader.now in
    let mid = c.open.new.self in
    let new = c.check_stats-checked.new.reader in
    let inner = c.check_stats-checked.ensures in
    let file = c.in-Ok.file in
    let found = c.in-Ok.ensures.found in
    let faults = ap (faults_of t.faults) c.open.ensures.transformer in
    let reads = reader_reads s t old mid c.open.ensures.objects (ap (changed_by t.encoded) c.open.ensures.transformer) (ap (changed_by t.decoded) c.open.ensures.transformer)
    (opened_adds _ _ _ _ _ _ _ found) c.open.ensures.later (omega (arith, faults)) in
    let still = same_faults s t old mid (store_still file c.in-Ok.ensures.still) faults in
    let leaves = leaves_then (reader_reach s t old) (reader_reach s t mid) (reader_reach s t new) file c.check_stats-checked.result reads still (record { cause = inner.cause; reads = inner.reads; counts = inner.counts }) in
    record {
      said = λ begun root is r.
          (let P : Ulid → Type 0 = λ i. IfOk c.check_stats-checked.result (IsChecked (asked_of begun root (s.acts new.store)) i.0) in
          subst P c.in-Ok.ensures.id (inner.said begun root (is ∙ sym (ap string_bytes c.open.ensures.root)) (reads_then begun (reader_reach s t old) (reader_reach s t mid) r reads)
          (opens_now begun (reader_reach s t old) root (string_bytes old.root_path) (s.acts mid.store) file.handle c.args.id is c.in-Ok.ensures.id r found)));
      root = inner.root ∙ c.open.ensures.root;
      cause = leaves.cause;
      reads = leaves.reads;
      counts = leaves.counts;
    }

pub returns-in-Err : goal.returns-in-Err
returns-in-Err g c =
    let s = g.S.Store in
    let t = g.T.BlockTransformer in
    let old = c.args.reader.now in
    let new = c.open.new.self in
    let e = c.in-Err.error in
    let a = reader_reach s t old in
    let b = reader_reach s t new in
    let flaw : Flaw = record { part = parts.Info; offset = None; error = e } in
    let told = c.refused.ensures in
    let faults = ap (faults_of t.faults) c.open.ensures.transformer in
    record {
      said = λ begun root is r. told_said (λ f. checks.Damaged f) a.faults b.faults flaw (IsChecked (asked_of begun root b.acts) c.args.id.0) c.refused.result told
          (elim c.in-Err.ensures.cause [
            | inl fault ↦ inl (outer_store a.faults b.faults e fault)
            | inr refused ↦ inr (inl (refl, refl, table_refused begun a root (string_bytes old.root_path) b.acts c.args.id.0 e is r refused))
          ]);
      root = c.open.ensures.root;
      cause = told_cause (λ f. checks.Damaged f) a b flaw c.refused.result told
          (elim c.in-Err.ensures.cause [
            | inl fault ↦ inl (outer_store a.faults b.faults e fault)
            | inr refused ↦ inr (open_real _ _ _ _ _ e refused)
          ]);
      reads = reader_reads s t old new c.open.ensures.objects (ap (changed_by t.encoded) c.open.ensures.transformer) (ap (changed_by t.decoded) c.open.ensures.transformer)
          (may_open_adds _ _ _ _ c.in-Err.ensures.calls) c.open.ensures.later (omega (arith, faults));
      counts = reader_still s t old new c.refused.result (told_still {T = SstFile} (λ f. checks.Damaged f) flaw StoreFault c.refused.result (inr (inl refl)) told c.in-Err.ensures.still) (inr faults);
    }
