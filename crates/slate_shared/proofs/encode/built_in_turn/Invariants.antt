use Rattle.std.proofs.Common.{◌≡◌, ◌+◌, ◌≤◌, map, length}
use Rattle.std.specs.Prelude.{vec_capacity}
use Rattle.std.specs.Vec.Iter.{into_iter_items}
use Rattle.slate_types.specs.Faults.{faults_of}
use Rattle.slate_table.specs.SectionReading.{changed_by}
use Rattle.slate_db.specs.Flushed.{layout_of}
use Rattle.slate_db.specs.Meaning.{segments_by}
use Rattle.slate_shared.proofs.Encoding.{IsDoneSoFar}
use Rattle.slate_shared.proofs.encode.built_in_turn.Given as goal

abbrev pub invariant-loop-job : goal.invariant-loop-job
invariant-loop-job g l = record {
  far : IsDoneSoFar (changed_by g.T.BlockTransformer.encoded l.initial.transformer) (layout_of l.laws.options (map (λ p. (goal.FilterPolicy-dyn g (p.vtable, p.value)).meaning p.value) l.laws.policies.items) (segments_by g.X.PrefixExtractor.lengths l.laws.segments)) l.fn.jobs.items (into_iter_items l.job-iterator) l.tables.items;
  room : length l.tables.items + length (into_iter_items l.job-iterator) ≤ vec_capacity l.tables;
  same_encoded : changed_by g.T.BlockTransformer.encoded l.transformer ≡ changed_by g.T.BlockTransformer.encoded l.initial.transformer;
  same_decoded : changed_by g.T.BlockTransformer.decoded l.transformer ≡ changed_by g.T.BlockTransformer.decoded l.initial.transformer;
  later : faults_of g.T.BlockTransformer.faults l.initial.transformer ≤ faults_of g.T.BlockTransformer.faults l.transformer;
}
