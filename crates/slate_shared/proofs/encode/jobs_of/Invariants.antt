use Rattle.std.proofs.Common.{◌+◌, ◌≤◌, map, length}
use Rattle.std.specs.Prelude.{vec_capacity}
use Rattle.std.specs.Vec.Iter.{into_iter_items}
use Rattle.slate_shared.proofs.Encoding.{AreJobsSoFar}
use Rattle.slate_shared.proofs.encode.jobs_of.Given as goal

abbrev pub invariant-loop-part : goal.invariant-loop-part
invariant-loop-part l = record {
  far : AreJobsSoFar l.number (map (λ t. t.rows.items) l.fn.parts.items) (map (λ t. t.rows.items) (into_iter_items l.part-iterator)) l.jobs.items;
  room : length l.jobs.items + length (into_iter_items l.part-iterator) ≤ vec_capacity l.jobs;
}
