use Rattle.std.proofs.Common.{◌≡◌, ◌⊎◌, inl, inr, ℕ, zero, ◌+◌, ◌<◌, List, [], ◌∷◌, ◌++◌, length, refl, sym, ap, ◌∙◌, subst, arith}
use Rattle.std.specs.Prelude.{IfErr, IfOk, IsSome, None, Ok, Err, Option, Result, Some, slice_get, string_bytes}
use Rattle.slate_types.specs.declared.error.SlateDBError.TheVariants.{BlockTransformError, StoreFault}
use Rattle.slate_types.specs.declared.types.RowEntry.{RowEntry}
use Rattle.slate_types.specs.Outside.{IsFault, OnlyReads, Reach}
use Rattle.slate_types.proofs.Reaching.{reads_none, reads_then}
use Rattle.slate_types.proofs.StillLaws.{still_same, still_then, unasked_still}
use Rattle.slate_table.specs.IndexValue.{entries_of}
use Rattle.slate_table.specs.StatsReading.{stats_of}
use Rattle.slate_tables.specs.declared.check.Flaw.{Flaw}
use Rattle.slate_tables.specs.declared.check.Part.TheVariants as parts
use Rattle.slate_tables.specs.declared.check.Tallied.{Tallied}
use Rattle.slate_tables.specs.declared.check.Tallied.TheVariants as tallies
use Rattle.slate_tables.specs.Checks.{HasBlocks, IsChecked, IsTallied}
use Rattle.slate_tables.specs.Finds.{FindsRowsOf, asked_of, reader_reach}
use Rattle.slate_tables.specs.Tallies.{IsTally}
use Rattle.std.proofs.lemmas.Result.{IfOk-from_err, err_from_is_err_and}
use Rattle.slate_types.proofs.Reaching.{fault_earlier}
use Rattle.slate_tables.proofs.check.tally_blocks.Goals as goal

pub loop-block-init : goal.loop-block-init
loop-block-init g c = record {
  reads = reads_none (reader_reach g.S.Store g.T.BlockTransformer c.args.reader.now);
  root = refl;
  counts = refl;
  tallied = λ begun root is r. ([], refl, (λ i rows at. absurd cc), c.new-tally.ensures);
}

pub loop-block-preserved : goal.loop-block-preserved
loop-block-preserved g c =
    let s = g.S.Store in
    let t = g.T.BlockTransformer in
    let old = c.args.reader.now in
    let mid = c.loop-block.reader in
    let new = c.tally_block.new.reader in
    let a = reader_reach s t old in
    let b = reader_reach s t mid in
    let d = reader_reach s t new in
    let inv = c.loop-block.invariant in
    let h = c.args.file.now.handle in
    let entries = entries_of c.args.index.now in
    let P : Tallied → Type 0 = λ x. (begun : Reach) (root : List ℕ) (blocks : List (List RowEntry)) → root ≡ string_bytes mid.root_path → OnlyReads begun b → HasBlocks (asked_of begun root b.acts) h entries blocks → length blocks ≡ c.loop-block.block → IsTally blocks c.loop-block.tally →
    IsTallied (asked_of begun root d.acts) h entries (c.loop-block.block + 1) x in
    let said = subst P c.in-Good.is c.in_ok-next.ensures.said in
    record {
      reads = reads_then a b d inv.reads c.tally_block.ensures.reads;
      root = c.tally_block.ensures.root ∙ inv.root;
      counts = c.in_ok-next.ensures.counts ∙ inv.counts;
      tallied = λ begun root is r.
          (let f = inv.tallied begun root is r in
          said begun root f.0 (is ∙ sym (ap string_bytes inv.root)) (reads_then begun a b r inv.reads) f.2 f.1 f.3);
    }

pub returns-in_err-next-clause-reads : goal.returns-in_err-next-clause-reads
returns-in_err-next-clause-reads g c =
    let reach = reader_reach g.S.Store g.T.BlockTransformer in
    reads_then (reach c.args.reader.now) (reach c.loop-block.reader) (reach c.tally_block.new.reader) c.loop-block.invariant.reads c.tally_block.ensures.reads

pub returns-in-Flawed-clause-reads : goal.returns-in-Flawed-clause-reads
returns-in-Flawed-clause-reads g c =
    let reach = reader_reach g.S.Store g.T.BlockTransformer in
    reads_then (reach c.args.reader.now) (reach c.loop-block.reader) (reach c.tally_block.new.reader) c.loop-block.invariant.reads c.tally_block.ensures.reads

pub returns-in-Flawed-clause-said : goal.returns-in-Flawed-clause-said
returns-in-Flawed-clause-said g c = λ begun root is r.
    (let s = g.S.Store in
    let t = g.T.BlockTransformer in
    let mid = c.loop-block.reader in
    let a = reader_reach s t c.args.reader.now in
    let b = reader_reach s t mid in
    let d = reader_reach s t c.tally_block.new.reader in
    let inv = c.loop-block.invariant in
    let h = c.args.file.now.handle in
    let entries = entries_of c.args.index.now in
    let f = inv.tallied begun root is r in
    let P : Tallied → Type 0 = λ x. IsTallied (asked_of begun root d.acts) h entries (c.loop-block.block + 1) x in
    let found = subst P c.in-Flawed.is (c.in_ok-next.ensures.said begun root f.0 (is ∙ sym (ap string_bytes inv.root)) (reads_then begun a b r inv.reads) f.2 f.1 f.3) in
    (found.0, omega (arith, found.1, c.len-block-end.ensures), found.2, found.3, found.4))

pub returns-clause-said : goal.returns-clause-said
returns-clause-said g c = λ begun root is r.
    (let f = c.loop-block.invariant.tallied begun root is r in
    (f.0, omega (arith, f.1, c.len-block-end.ensures), f.2, f.3))
