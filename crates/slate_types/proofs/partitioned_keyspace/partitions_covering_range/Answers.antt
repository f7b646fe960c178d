use Rattle.std.proofs.Common.{◌≡◌, ap, ◌∙◌, arith}
use Rattle.slate_types.specs.Keys.{bound_now}
use Rattle.slate_types.specs.Partitions.{covering_start, covering_end}
use Rattle.slate_types.proofs.PartitionLaws.{ordered, covers}
use Rattle.slate_types.proofs.partitioned_keyspace.partitions_covering_range.Goals as goal

pub returns-clause-ordered : goal.returns-clause-ordered
returns-clause-ordered g c =
    let keys = g.K.RangePartitionedKeySpace.first_keys c.args.space.now in
    let rises = g.met.K.RangePartitionedKeySpace.rising c.args.space.now in
    let up = ordered keys rises (bound_now c.args.start) (bound_now c.args.end) c.requires in
    let start : c.first_covering-first.result ≡ covering_start keys (bound_now c.args.start) = c.first_covering-first.ensures in
    let end : c.end_covering.result ≡ covering_end keys c.first_covering-first.result (bound_now c.args.end) = c.end_covering.ensures in
    omega (arith, up, start, end ∙ ap (λ s. covering_end keys s (bound_now c.args.end)) start)

pub returns-clause-each : goal.returns-clause-each
returns-clause-each g c = λ i k hold inside.
    let keys = g.K.RangePartitionedKeySpace.first_keys c.args.space.now in
    let rises = g.met.K.RangePartitionedKeySpace.rising c.args.space.now in
    let both = covers keys rises (bound_now c.args.start) (bound_now c.args.end) i k hold inside in
    let start : c.first_covering-first.result ≡ covering_start keys (bound_now c.args.start) = c.first_covering-first.ensures in
    let end : c.end_covering.result ≡ covering_end keys c.first_covering-first.result (bound_now c.args.end) = c.end_covering.ensures in
    (omega (arith, both.0, start), omega (arith, both.1, end ∙ ap (λ s. covering_end keys s (bound_now c.args.end)) start))

pub returns-clause-start : goal.returns-clause-start
returns-clause-start g c = c.first_covering-first.ensures

pub returns-clause-end : goal.returns-clause-end
returns-clause-end g c = c.end_covering.ensures
