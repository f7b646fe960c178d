use Rattle.std.proofs.Common.{[], arith, map, refl, subst}
use Rattle.slate_types.specs.declared.config.IsolationLevel.TheVariants.{Snapshot}
use Rattle.slate_types.specs.Keys.{AreBytes}
use Rattle.slate_store.specs.Reach.{reach_of}
use Rattle.slate_db.specs.Meaning.{segments_by}
use Rattle.slate_steps.proofs.Taking.{within_open}
use Rattle.slate_index.proofs.Searching.{not_looked, search_done, search_refused}
use Rattle.slate_index.proofs.lookups.lookup.Goals as goal

pub rollback-requires : goal.rollback-requires
rollback-requires g c =
    let s = c.ids_in-ids.ensures.still c.args.core.now Snapshot [] c.in-Ok.ensures.within in
    within_open c.args.core.now c.ids_in-ids.new.core c.in-Ok.tx Snapshot s.0 s.1

pub returns-in-Err : goal.returns-in-Err
returns-in-Err g c =
    let before = reach_of g.S.Store g.M.MergeOperator g.T.BlockTransformer c.args.env.now in
    let policies = map (λ p. (goal.FilterPolicy-dyn g (p.vtable, p.value)).meaning p.value) c.args.laws.now.policies.items in
    record {
      lookup = not_looked policies (segments_by g.X.PrefixExtractor.lengths c.args.laws.now.segments) c.args.number c.args.field.now before c.args.core.now c.begin.new.core c.in-Err.error c.in-Err.ensures.same c.in-Err.ensures.cause;
      counts = refl;
    }

pub returns-in-Ok-ids : goal.returns-in-Ok-ids
returns-in-Ok-ids g c =
    let before = reach_of g.S.Store g.M.MergeOperator g.T.BlockTransformer c.args.env.now in
    let after = reach_of g.S.Store g.M.MergeOperator g.T.BlockTransformer c.ids_in-ids.new.env in
    let policies = map (λ p. (goal.FilterPolicy-dyn g (p.vtable, p.value)).meaning p.value) c.args.laws.now.policies.items in
    let core = c.args.core.now in
    let s = c.ids_in-ids.ensures.still core Snapshot [] c.in-Ok.ensures.within in
    record {
      lookup = search_done policies (segments_by g.X.PrefixExtractor.lengths c.args.laws.now.segments) c.args.number c.args.field.now before after core c.begin.new.core c.rollback.new.core c.in-Ok.tx c.in-Ok.ensures.within (c.rollback.ensures.ended core Snapshot s.0 s.1) c.ids_in-ids.ensures.reads c.in-Ok-ids.ids
          (omega arith) c.requires.short (subst AreBytes c.as_slice.ensures c.are_bytes.ensures) (λ seg store. c.in-Ok-ids.ensures.found core Snapshot [] seg c.in-Ok.ensures.within store);
      counts = c.in-Ok-ids.ensures.counts;
    }

pub returns-in-Err-ids : goal.returns-in-Err-ids
returns-in-Err-ids g c =
    let before = reach_of g.S.Store g.M.MergeOperator g.T.BlockTransformer c.args.env.now in
    let after = reach_of g.S.Store g.M.MergeOperator g.T.BlockTransformer c.ids_in-ids.new.env in
    let policies = map (λ p. (goal.FilterPolicy-dyn g (p.vtable, p.value)).meaning p.value) c.args.laws.now.policies.items in
    let core = c.args.core.now in
    let s = c.ids_in-ids.ensures.still core Snapshot [] c.in-Ok.ensures.within in
    record {
      lookup = search_refused policies (segments_by g.X.PrefixExtractor.lengths c.args.laws.now.segments) c.args.number c.args.field.now before after core c.begin.new.core c.rollback.new.core c.in-Ok.tx c.in-Ok.ensures.within (c.rollback.ensures.ended core Snapshot s.0 s.1) c.ids_in-ids.ensures.reads c.in-Err-ids.error
          c.in-Err-ids.ensures.cause (λ seg settled. c.in-Err-ids.ensures.undamaged core Snapshot [] seg c.in-Ok.ensures.within settled);
      counts = c.in-Err-ids.ensures.counts;
    }
