use Rattle.std.proofs.Common.{◌≡◌, ◌⊎◌, inl, inr, ℕ, zero, ◌+◌, ◌<◌, List, [], ◌∷◌, ◌++◌, length, refl, sym, ap, ◌∙◌, subst, arith}
use Rattle.std.specs.Prelude.{IfErr, IfOk, IsSome, None, Ok, Err, Option, Result, Some, slice_get, string_bytes}
use Rattle.slate_types.specs.declared.error.SlateDBError.TheVariants.{BlockTransformError, StoreFault}
use Rattle.slate_types.specs.declared.types.RowEntry.{RowEntry}
use Rattle.slate_types.specs.Outside.{IsFault, OnlyReads, Reach}
use Rattle.slate_types.proofs.Reaching.{reads_none, reads_then}
use Rattle.slate_types.proofs.StillLaws.{still_same, still_then, unasked_still}
use Rattle.slate_table.specs.IndexValue.{entries_of}
use Rattle.slate_table.specs.StatsReading.{stats_of}
use Rattle.slate_tables.specs.declared.check.Flaw.{Flaw}
use Rattle.slate_tables.specs.declared.check.Part.TheVariants as parts
use Rattle.slate_tables.specs.declared.check.Tallied.{Tallied}
use Rattle.slate_tables.specs.declared.check.Tallied.TheVariants as tallies
use Rattle.slate_tables.specs.Checks.{HasBlocks, IsChecked, IsTallied}
use Rattle.slate_tables.specs.Finds.{FindsRowsOf, RefusesRowsOf, asked_of, reader_reach}
use Rattle.slate_tables.specs.Tallies.{IsTally}
use Rattle.slate_tables.proofs.CheckLaws.{block_cause, block_said, counted_outer, told_cause, told_counts, told_said}
use Rattle.slate_tables.proofs.PartLaws.{blocks_later}
use Rattle.slate_tables.proofs.RealLaws.{damage_real}
use Rattle.slate_tables.proofs.check.tally_block.Goals as goal

pub returns-in-Ok : goal.returns-in-Ok
returns-in-Ok g c =
    let s = g.S.Store in
    let t = g.T.BlockTransformer in
    let old = c.args.reader.now in
    let new = c.block_rows.new.reader in
    let a = reader_reach s t old in
    let b = reader_reach s t new in
    let h = c.args.file.now.handle in
    let entries = entries_of c.args.index.now in
    let rows = c.in-Ok.rows in
    record {
      said = λ begun root blocks is r has count tally.
          (let P : List ℕ → Type 0 = λ x. FindsRowsOf (asked_of begun x b.acts) h entries c.args.block rows.items in
          block_said (asked_of begun root b.acts) h entries blocks rows.items c.args.block _ c.with_block-added.result c.outcome_of.result
          (blocks_later begun root a.acts b.acts h entries blocks c.block_rows.ensures.reads.acts has) count (subst P (sym is) (c.in-Ok.ensures.found begun r)) (ap (λ (n : ℕ). Some n) c.offset_of.ensures)
          (rw c.as_slice.ensures.value at (c.with_block-added.ensures.tally blocks tally)) c.outcome_of.ensures.good);
      root = c.block_rows.ensures.root;
      cause = block_cause a b c.with_block-added.result c.outcome_of.result c.with_block-added.ensures.cause c.outcome_of.ensures.cause;
      reads = c.block_rows.ensures.reads;
      counts = still_then a.faults b.faults b.faults c.outcome_of.result (still_same a.faults b.faults rows c.in-Ok.ensures.counts) (unasked_still b.faults c.outcome_of.result);
    }

pub returns-in-Err : goal.returns-in-Err
returns-in-Err g c =
    let s = g.S.Store in
    let t = g.T.BlockTransformer in
    let old = c.args.reader.now in
    let new = c.block_rows.new.reader in
    let a = reader_reach s t old in
    let b = reader_reach s t new in
    let h = c.args.file.now.handle in
    let entries = entries_of c.args.index.now in
    let e = c.in-Err.error in
    let flaw : Flaw = record { part = parts.Block c.args.block; offset = Some c.offset_of.result; error = e } in
    let told = c.flawed.ensures in
    record {
      said = λ begun root blocks is r has count tally.
          (let P : List ℕ → Type 0 = λ x. RefusesRowsOf (asked_of begun x b.acts) h entries c.args.block e in
          told_said (λ f. tallies.Flawed f) a.faults b.faults flaw (IsTallied (asked_of begun root b.acts) h entries (c.args.block + 1)) c.flawed.result told
          (elim (c.in-Err.ensures.cause begun r) [
            | inl fault ↦ inl (counted_outer a.faults b.faults e refl refl fault)
            | inr refused ↦ inr (c.args.block, omega arith, refl, ap (λ (n : ℕ). Some n) c.offset_of.ensures, inl (subst P (sym is) refused.1))
          ]));
      root = c.block_rows.ensures.root;
      cause = told_cause (λ f. tallies.Flawed f) a b flaw c.flawed.result told
          (elim (c.in-Err.ensures.cause a (reads_none a)) [
            | inl fault ↦ inl (counted_outer a.faults b.faults e refl refl fault)
            | inr refused ↦ inr (damage_real e refused.0)
          ]);
      reads = c.block_rows.ensures.reads;
      counts = told_counts (λ f. tallies.Flawed f) a.faults b.faults flaw c.flawed.result refl refl told c.in-Err.ensures.counts;
    }
