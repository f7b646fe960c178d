use Rattle.std.proofs.Common.{map, subst, refl, inl, ◌⊎◌}
use Rattle.std.specs.Prelude.{IfOk, IfErr}
use Rattle.std.proofs.lemmas.Result.{err_from_is_err_and, IfErr-weaker}
use Rattle.slate_table.specs.Filtered.{IsAsked, RefusesQuery}
use Rattle.slate_table.specs.Parts.{Encode}
use Rattle.slate_table.specs.Paths.{path_of}
use Rattle.slate_table.specs.SectionReading.{changed_by}
use Rattle.slate_table.specs.Reading.{of_filters, IsStoreFault, ReadsFilters}
use Rattle.slate_table.proofs.FiltersCalls.{section_refused, query_refused, asked_refuses}
use Rattle.slate_table.proofs.SectionAsks.{untransformed, no_transformer}
use Rattle.slate_table.proofs.table_store.TableStore.might_match.Goals as goal

pub returns-then-is_none-clause-asked : goal.returns-then-is_none-clause-asked
returns-then-is_none-clause-asked g c =
    let policies = map (λ p. (goal.FilterPolicy-dyn g (p.vtable, p.value)).meaning p.value) c.args.policies.now in
    let objects = g.S.Store.objects c.args.store.now in
    let before = g.S.Store.acts c.args.store.now in
    let after = g.S.Store.acts c.ask_stored.new.store in
    let same = untransformed g.T.BlockTransformer.decoded c.args.transformer.now c.is_none.result c.is_none.ensures c.if-is_none.true in
    λ _. subst (λ (d : Encode). IfOk c.ask_stored.result (λ passes. ReadsFilters objects before after c.args.root.now c.args.table.now (λ answer. IsAsked d policies c.args.query.now (of_filters c.args.table.now answer) passes)))
    same c.ask_stored.ensures.asked

pub returns-then-is_none-clause-cause : goal.returns-then-is_none-clause-cause
returns-then-is_none-clause-cause g c =
    let policies = map (λ p. (goal.FilterPolicy-dyn g (p.vtable, p.value)).meaning p.value) c.args.policies.now in
    let objects = g.S.Store.objects c.args.store.now in
    let before = g.S.Store.acts c.args.store.now in
    let after = g.S.Store.acts c.ask_stored.new.store in
    let old = g.S.Store.faults c.args.store.now in
    let new = g.S.Store.faults c.ask_stored.new.store in
    let same = untransformed g.T.BlockTransformer.decoded c.args.transformer.now c.is_none.result c.is_none.ensures c.if-is_none.true in
    let told = subst (λ (d : Encode). IfErr c.ask_stored.result (λ e. IsStoreFault old new e ⊎ ReadsFilters objects before after c.args.root.now c.args.table.now (λ answer. RefusesQuery d policies c.args.query.now (of_filters c.args.table.now answer) e)))
    same c.ask_stored.ensures.cause in
    IfErr-weaker c.ask_stored.result _ _ (λ e h. no_transformer h) told

pub returns-then-is_none-clause-unasked : goal.returns-then-is_none-clause-unasked
returns-then-is_none-clause-unasked g c = inl refl

pub returns-then-is_none-clause-unanswered : goal.returns-then-is_none-clause-unanswered
returns-then-is_none-clause-unanswered g c = λ _. refl

pub returns-in_err-part-clause-cause : goal.returns-in_err-part-clause-cause
returns-in_err-part-clause-cause g c =
    let p = err_from_is_err_and c.from_residual.result c.from_residual.ensures.1 in
    let info = c.args.table.now.info in
    let objects = g.S.Store.objects c.args.store.now in
    let before = g.S.Store.acts c.args.store.now in
    let after = g.S.Store.acts c.read_part.new.store in
    let path = path_of c.args.root.now c.args.table.now.id.0 in
    let decode = changed_by g.T.BlockTransformer.decoded c.args.transformer.now in
    let of = of_filters c.args.table.now in
    rw (p.1, p.2)
    (query_refused objects before after path info.filter_offset info.filter_len decode of
    (map (λ p. (goal.FilterPolicy-dyn g (p.vtable, p.value)).meaning p.value) c.args.policies.now) c.args.query.now c.in_err-part.field-0.0
    (section_refused objects before after path info.filter_offset info.filter_len decode of c.in_err-part.field-0.0 c.in_err-part.ensures.cause))

pub returns-clause-cause : goal.returns-clause-cause
returns-clause-cause g c =
    let info = c.args.table.now.info in
    asked_refuses _ _ (g.S.Store.objects c.args.store.now) (g.S.Store.acts c.args.store.now) (g.S.Store.acts c.read_part.new.store) (path_of c.args.root.now c.args.table.now.id.0) info.filter_offset info.filter_len
    (changed_by g.T.BlockTransformer.decoded c.args.transformer.now) (of_filters c.args.table.now)
    (map (λ p. (goal.FilterPolicy-dyn g (p.vtable, p.value)).meaning p.value) c.args.policies.now) c.args.query.now c.in_ok-part.part c.as_slice.result.now c.ask_filters-passes.result
    c.as_slice.ensures c.in_ok-part.ensures.found c.ask_filters-passes.ensures.cause
