use Rattle.std.proofs.Common.{None, Some, ap, map, subst}
use Rattle.slate_store.specs.Reach.{reach_of}
use Rattle.slate_db.specs.Meaning.{segments_by}
use Rattle.slate_index.specs.Calls.{IsChangeCall}
use Rattle.slate_index.specs.Looking.{IsLookup}
use Rattle.slate_index.specs.Script.{IsOwn, stepped}
use Rattle.slate_index.proofs.Going.{change_answers, search_answers}
use Rattle.slate_index.proofs.run.answer_line.Goals as goal

pub lookup-ids-requires-clause-short : goal.lookup-ids-requires-clause-short
lookup-ids-requires-clause-short g c κs lives = (subst (IsOwn (g.F.Fields.model c.args.fields.now)) c.in-Find.is c.requires.own).1

pub returns-in-Put : goal.returns-in-Put
returns-in-Put g c =
    let before = reach_of g.S.Store g.M.MergeOperator g.T.BlockTransformer c.args.env.now in
    let after = reach_of g.S.Store g.M.MergeOperator g.T.BlockTransformer c.put_record-put.new.env in
    let policies = map (λ p. (goal.FilterPolicy-dyn g (p.vtable, p.value)).meaning p.value) c.args.laws.now.policies.items in
    let fs = g.F.Fields.model c.args.fields.now in
    let core = c.args.core.now in
    change_answers policies fs before after core c.put_record-put.new.core c.args.line c.changed.result c.in-Put.id (Some c.in-Put.value) _ c.put_record-put.result (λ r. ap (stepped fs r) c.in-Put.is)
    (subst (λ s. IsChangeCall policies (segments_by g.X.PrefixExtractor.lengths s) fs c.in-Put.id (Some c.in-Put.value) _ before after core c.put_record-put.new.core c.put_record-put.result) c.requires.whole c.put_record-put.ensures.change)
    c.changed.ensures.done c.changed.ensures.refused c.changed.ensures.cause c.put_record-put.ensures.counts

pub returns-in-Delete : goal.returns-in-Delete
returns-in-Delete g c =
    let before = reach_of g.S.Store g.M.MergeOperator g.T.BlockTransformer c.args.env.now in
    let after = reach_of g.S.Store g.M.MergeOperator g.T.BlockTransformer c.delete_record-deleted.new.env in
    let policies = map (λ p. (goal.FilterPolicy-dyn g (p.vtable, p.value)).meaning p.value) c.args.laws.now.policies.items in
    let fs = g.F.Fields.model c.args.fields.now in
    let core = c.args.core.now in
    change_answers policies fs before after core c.delete_record-deleted.new.core c.args.line c.changed-in-Delete.result c.in-Delete.id None _ c.delete_record-deleted.result (λ r. ap (stepped fs r) c.in-Delete.is)
    (subst (λ s. IsChangeCall policies (segments_by g.X.PrefixExtractor.lengths s) fs c.in-Delete.id None _ before after core c.delete_record-deleted.new.core c.delete_record-deleted.result) c.requires.whole c.delete_record-deleted.ensures.change)
    c.changed-in-Delete.ensures.done c.changed-in-Delete.ensures.refused c.changed-in-Delete.ensures.cause c.delete_record-deleted.ensures.counts

pub returns-in-Find : goal.returns-in-Find
returns-in-Find g c =
    let before = reach_of g.S.Store g.M.MergeOperator g.T.BlockTransformer c.args.env.now in
    let after = reach_of g.S.Store g.M.MergeOperator g.T.BlockTransformer c.lookup-ids.new.env in
    let policies = map (λ p. (goal.FilterPolicy-dyn g (p.vtable, p.value)).meaning p.value) c.args.laws.now.policies.items in
    let fs = g.F.Fields.model c.args.fields.now in
    let core = c.args.core.now in
    search_answers policies fs before after core c.lookup-ids.new.core c.args.line c.searched.result c.in-Find.number c.in-Find.field c.lookup-ids.result (λ r. ap (stepped fs r) c.in-Find.is) c.journal.ensures.legal
    (subst (IsOwn fs) c.in-Find.is c.requires.own).0
    (subst (λ s. IsLookup policies (segments_by g.X.PrefixExtractor.lengths s) c.in-Find.number c.in-Find.field before after core c.lookup-ids.new.core c.lookup-ids.result) c.requires.whole c.lookup-ids.ensures.lookup)
    c.searched.ensures.found c.searched.ensures.refused c.searched.ensures.cause c.lookup-ids.ensures.counts
