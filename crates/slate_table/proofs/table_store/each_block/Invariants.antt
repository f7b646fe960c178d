use Rattle.std.proofs.Common.{◌≡◌, ◌⊎◌, ◌-◌, ◌≤◌, length}
use Rattle.slate_types.specs.Faults.{faults_of}
use Rattle.slate_table.specs.IndexValue.{entries_of}
use Rattle.slate_table.specs.SectionReading.{changed_by}
use Rattle.slate_table.specs.Reading.{Fits, of_blocks, AreBlocksRead}
use Rattle.slate_table.proofs.table_store.each_block.Given as goal

abbrev pub invariant-loop-at : goal.invariant-loop-at
invariant-loop-at g l =
    let decoded = g.T.BlockTransformer.decoded in
    let encoded = g.T.BlockTransformer.encoded in
    let faults = g.T.BlockTransformer.faults in
    record {
      from : l.first ≤ l.at;
      count : length l.found.items ≡ l.at - l.first;
      read : AreBlocksRead (changed_by decoded l.initial.transformer) (of_blocks l.table (entries_of l.index) l.first l.answer) l.first l.found.items;
      same_encoded : changed_by encoded l.transformer ≡ changed_by encoded l.initial.transformer;
      same_decoded : changed_by decoded l.transformer ≡ changed_by decoded l.initial.transformer;
      still : faults_of faults l.transformer ≡ faults_of faults l.initial.transformer;
      asked : (l.transformer ≡ l.initial.transformer) ⊎ Fits (of_blocks l.table (entries_of l.index) l.first l.answer l.first);
    }
