use Rattle.std.proofs.Common.{sym, refl, ◌∙◌}
use Rattle.slate_types.specs.Partitions.{counts}
use Rattle.slate_types.proofs.PartitionLaws.{counts_front, count_is}
use Rattle.slate_types.proofs.partitioned_keyspace.count_to.Goals as goal

pub partition_point-requires-clause-front : goal.partition_point-requires-clause-front
partition_point-requires-clause-front g c = λ i j k l passes h at_i at_j later now.
    now ∙ counts_front c.args.upto _ (g.met.K.RangePartitionedKeySpace.rising c.args.space.now) c.args.key.now i j k.now l.now h at_i at_j (sym later)

pub returns : goal.returns
returns g c =
    let point = c.partition_point.ensures in
    count_is (λ first. counts c.args.upto first c.args.key.now) _ _ point.within
    (λ i a h at_i. point.before i (record { ref_ptr = (0, 0); now = a }) (counts c.args.upto a c.args.key.now) h at_i refl)
    (λ i a h at_i. point.behind i (record { ref_ptr = (0, 0); now = a }) (counts c.args.upto a c.args.key.now) h at_i refl)
