use Rattle.std.proofs.Common.{◌≡◌, ℕ, List, length}
use Rattle.std.specs.Prelude.{string_bytes}
use Rattle.slate_types.specs.declared.types.RowEntry.{RowEntry}
use Rattle.slate_types.specs.Outside.{OnlyReads, Reach}
use Rattle.slate_table.specs.IndexValue.{entries_of}
use Rattle.slate_tables.specs.Checks.{HasBlocks}
use Rattle.slate_tables.specs.Finds.{asked_of, reader_reach}
use Rattle.slate_tables.specs.Tallies.{IsTally}
use Rattle.slate_tables.proofs.check.tally_blocks.Given as goal

abbrev pub invariant-loop-block : goal.invariant-loop-block
invariant-loop-block g l =
    let reach = reader_reach g.S.Store g.T.BlockTransformer in
    record {
      reads : OnlyReads (reach l.initial.reader) (reach l.reader);
      root : l.reader.root_path ≡ l.initial.reader.root_path;
      counts : (reach l.reader).faults ≡ (reach l.initial.reader).faults;
      tallied : (begun : Reach) (root : List ℕ) → root ≡ string_bytes l.initial.reader.root_path → OnlyReads begun (reach l.initial.reader) →
          (blocks : List (List RowEntry)) × (length blocks ≡ l.block) × HasBlocks (asked_of begun root (reach l.reader).acts) l.file.handle (entries_of l.index) blocks × IsTally blocks l.tally;
    }
