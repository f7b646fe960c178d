use Rattle.std.proofs.Common.{◌≡◌, ◌≤◌, ◌++◌}
use Rattle.std.specs.Vec.Iter.{into_iter_items}
use Rattle.slate_types.specs.Faults.{faults_of}
use Rattle.slate_table.specs.SectionReading.{changed_by}
use Rattle.slate_table.specs.TableBuilding.{AreEncoded}
use Rattle.slate_table.specs.TableParts.{version_of}
use Rattle.slate_db.proofs.flush.built.Given as goal

abbrev pub invariant-loop-row : goal.invariant-loop-row
invariant-loop-row g l = record {
  rows : l.builder.rows ++ into_iter_items l.row-iterator ≡ l.fn.rows.items;
  version : l.builder.version ≡ version_of l.laws.options.block_format;
  id : l.builder.id ≡ l.fn.id.0;
  size : l.builder.size ≡ l.laws.options.block_size;
  min : l.builder.min ≡ l.laws.options.min_filter_keys;
  encoded : AreEncoded (changed_by g.T.BlockTransformer.encoded l.initial.transformer) l.builder;
  same_encoded : changed_by g.T.BlockTransformer.encoded l.transformer ≡ changed_by g.T.BlockTransformer.encoded l.initial.transformer;
  same_decoded : changed_by g.T.BlockTransformer.decoded l.transformer ≡ changed_by g.T.BlockTransformer.decoded l.initial.transformer;
  later : faults_of g.T.BlockTransformer.faults l.initial.transformer ≤ faults_of g.T.BlockTransformer.faults l.transformer;
  still : faults_of g.T.BlockTransformer.faults l.transformer ≡ faults_of g.T.BlockTransformer.faults l.initial.transformer;
}
