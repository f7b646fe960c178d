use Rattle.std.proofs.Common.{map}
use Rattle.slate_store.specs.Reach.{reach_of}
use Rattle.slate_db.specs.Meaning.{segments_by}
use Rattle.slate_index.proofs.Changing.{not_tried}
use Rattle.slate_index.proofs.change.put_record.Goals as goal

pub returns-in-Err-clause-change : goal.returns-in-Err-clause-change
returns-in-Err-clause-change g c =
    let before = reach_of g.S.Store g.M.MergeOperator g.T.BlockTransformer c.args.env.now in
    let policies = map (λ p. (goal.FilterPolicy-dyn g (p.vtable, p.value)).meaning p.value) c.args.laws.now.policies.items in
    not_tried policies (segments_by g.X.PrefixExtractor.lengths c.args.laws.now.segments) (g.F.Fields.model c.args.fields.now) c.args.id.now c.args.value.now c.args.now before c.args.core.now c.in-Err.error c.in-Err.ensures.cause
