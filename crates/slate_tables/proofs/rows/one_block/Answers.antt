use Rattle.std.proofs.Common.{◌≡◌, ◌⊎◌, inl, inr, ℕ, ◌+◌, ◌<◌, List, refl, ap, arith, length}
use Rattle.std.specs.Prelude.{string_bytes, Err}
use Rattle.slate_types.specs.Outside.{IsFault, OnlyReads, Reach}
use Rattle.slate_types.specs.Refusing.{IsDamage}
use Rattle.slate_block.specs.declared.block.Block.{Block}
use Rattle.slate_table.specs.IndexValue.{entries_of}
use Rattle.slate_table.specs.Reading.{IsBlockRead, ReadsBlocks, RefusesBlock, of_block}
use Rattle.slate_tables.specs.Finds.{RefusesBlockAt, asked_of, reader_reach}
use Rattle.slate_tables.proofs.BlockLaws.{block_fails, block_found, only_one}
use Rattle.slate_tables.proofs.FindLaws.{finds_now, once_adds, reader_reads, reader_still, reads_add, same_faults, still_err, still_ok, store_err, store_still}
use Rattle.slate_tables.proofs.rows.one_block.Goals as goal

pub returns-in-Ok : goal.returns-in-Ok
returns-in-Ok g c =
    let s = g.S.Store in
    let t = g.T.BlockTransformer in
    let old = c.args.reader.now in
    let new = record old { store = c.read_blocks.new.store; transformer = c.read_blocks.new.transformer } in
    let h = c.args.table.now in
    let entries = entries_of c.args.index.now in
    let block = c.args.block in
    let some : block < block + 1 = omega arith in
    let read = rw c.as_str-root.ensures.value at (c.in-Ok.ensures.found some) in
    record {
      found = λ begun r. finds_now (λ objects decode a b. ReadsBlocks objects a b (string_bytes old.root_path) h entries block (block + 1) (λ answer. IsBlockRead decode (of_block h entries block answer) c.unwrap-only.result)) begun (reader_reach s t old) (string_bytes old.root_path) (s.acts new.store) r
          (block_found (reader_reach s t old).meaning.decode (s.objects old.store) (s.acts old.store) (s.acts new.store) (string_bytes old.root_path) h entries block c.in-Ok.found.items c.unwrap-only.result
          (only_one c.in-Ok.found.items c.pop.new.self.items c.pop.result c.unwrap-only.result (omega (arith, c.in-Ok.ensures.count)) c.pop.ensures.items c.unwrap-only.ensures) read);
      cause = λ begun r. tt;
      root = refl;
      reads = reader_reads s t old new c.read_blocks.ensures.objects c.read_blocks.ensures.same_encoded c.read_blocks.ensures.same_decoded
          (reads_add _ _ _ _ _ _ _ read) c.read_blocks.ensures.later c.read_blocks.ensures.later_transformer;
      counts = same_faults s t old new (store_still c.in-Ok.found c.in-Ok.ensures.still) (still_ok c.in-Ok.found c.in-Ok.ensures.still_transformer);
    }

pub returns-in-Err : goal.returns-in-Err
returns-in-Err g c =
    let s = g.S.Store in
    let t = g.T.BlockTransformer in
    let old = c.args.reader.now in
    let new = record old { store = c.read_blocks.new.store; transformer = c.read_blocks.new.transformer } in
    let h = c.args.table.now in
    let entries = entries_of c.args.index.now in
    let block = c.args.block in
    let e = c.in-Err.error in
    record {
      found = λ begun r. tt;
      cause = λ begun r. (elim (block_fails (reader_reach s t old).meaning.decode (s.objects old.store) (s.acts old.store) (s.acts new.store) (string_bytes old.root_path) h entries block (reader_reach s t old).faults (reader_reach s t new).faults e (rw c.as_str-root.ensures.value at c.in-Err.ensures.cause))
          as (λ _. IsFault (reader_reach s t old) (reader_reach s t new) e ⊎ (IsDamage e × RefusesBlockAt (asked_of begun (string_bytes old.root_path) (s.acts new.store)) h entries block e)) [
            | inl fault ↦ inl fault
            | inr refused ↦ inr (refused.0, finds_now (λ objects decode a b. ReadsBlocks objects a b (string_bytes old.root_path) h entries block (block + 1) (λ answer. RefusesBlock decode (of_block h entries block answer) e)) begun (reader_reach s t old) (string_bytes old.root_path) (s.acts new.store) r refused.1)
          ]);
      root = refl;
      reads = reader_reads s t old new c.read_blocks.ensures.objects c.read_blocks.ensures.same_encoded c.read_blocks.ensures.same_decoded
          (once_adds _ _ _ _ _ _ _ c.in-Err.ensures.once) c.read_blocks.ensures.later c.read_blocks.ensures.later_transformer;
      counts = reader_still {A = Block} s t old new (Err e) (store_err e c.in-Err.ensures.still) (still_err e c.in-Err.ensures.still_transformer);
    }
