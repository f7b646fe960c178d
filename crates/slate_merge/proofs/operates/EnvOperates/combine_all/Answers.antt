use Rattle.slate_types.specs.Faults.{faults_of}
use Rattle.slate_merge.proofs.OperatorCounts.{refused_counts}
use Rattle.slate_merge.proofs.operates.EnvOperates.combine_all.Goals as goal

pub returns-in-Err-clause-counts : goal.returns-in-Err-clause-counts
returns-in-Err-clause-counts g c =
    rw (c.from.ensures, c.in-Some.is) (refused_counts
    (record { store = g.S.Store.faults c.args.self.now.store.now; operator = g.M.MergeOperator.faults c.in-Some.operator; transformer = faults_of g.T.BlockTransformer.faults c.args.self.now.transformer })
    (g.M.MergeOperator.faults c.merge_batch.new.self) c.in-Err.error c.in-Err.ensures.still)
