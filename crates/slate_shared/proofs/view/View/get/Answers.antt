use Rattle.std.proofs.Common.{◌≡◌, ℕ, List, [], map, Option, true, refl, sym, ap, subst, ◌∙◌}
use Rattle.std.specs.Prelude.{Err, Ok, Result}
use Rattle.std.proofs.lemmas.Result.{err_from_is_err_and}
use Rattle.slate_types.specs.declared.error.SlateDBError.{SlateDBError}
use Rattle.slate_types.specs.declared.filter_policy.FilterQuery.{FilterQuery}
use Rattle.slate_types.specs.declared.types.RowEntry.{RowEntry}
use Rattle.slate_types.specs.Keys.{in_range}
use Rattle.slate_store.specs.Reach.{reach_of}
use Rattle.slate_table.specs.Filtered.{point_query}
use Rattle.slate_db.specs.RangeShares.{IsRangeShare}
use Rattle.slate_shared.specs.Viewed.{ViewModel}
use Rattle.slate_shared.proofs.Views.{get_memory, seen_as, view_err, view_ok}
use Rattle.slate_shared.proofs.view.View.get.Goals as goal

pub seen-requires : goal.seen-requires
seen-requires g c = ap (λ (q : FilterQuery). q.target) c.in_ok-query.ensures.query

pub returns-in_err-key : goal.returns-in_err-key
returns-in_err-key g c = λ t seen v is.
    let p = err_from_is_err_and c.from_residual.result c.from_residual.ensures.1 in
    get_memory g.P.Parts.options g.P.Parts.meaning t seen (reach_of g.S.Store g.M.MergeOperator g.T.BlockTransformer c.args.env.now) c.requires.meaning v c.args.self.now is c.args.key.now (record { policies = g.P.Parts.policies; query = point_query c.args.key.now c.args.options.now.filter_context })
    c.from_residual.result (p.1 ∙ ap (λ e. Err e) p.2)

pub returns-in_err-query : goal.returns-in_err-query
returns-in_err-query g c = λ t seen v is.
    let p = err_from_is_err_and c.from_residual-in_err-query.result c.from_residual-in_err-query.ensures.1 in
    get_memory g.P.Parts.options g.P.Parts.meaning t seen (reach_of g.S.Store g.M.MergeOperator g.T.BlockTransformer c.args.env.now) c.requires.meaning v c.args.self.now is c.args.key.now (record { policies = g.P.Parts.policies; query = point_query c.args.key.now c.args.options.now.filter_context })
    c.from_residual-in_err-query.result (p.1 ∙ ap (λ e. Err e) (p.2 ∙ c.in_err-query.ensures.cause))

pub returns-in_err-row : goal.returns-in_err-row
returns-in_err-row g c = λ t seen v is.
    let p = err_from_is_err_and c.from_residual-in_err-row.result c.from_residual-in_err-row.ensures.1 in
    let taken = subst (λ (x : ViewModel). IsRangeShare v x.range x.begin x.share) (sym c.self.view_is) is.taken in
    let inside = ap (λ (x : ViewModel). in_range x.range c.in_ok-key.key) c.self.view_is ∙ ap (in_range c.args.self.now.range) c.in_ok-key.ensures ∙ c.requires.within in
    let was = seen_as (λ p. (goal.FilterPolicy-dyn g (p.vtable, p.value)).meaning p.value) c.as_slice-policies.result.now c.args.laws.now.policies.items g.P.Parts.policies c.in_ok-query.query (λ k. point_query k c.args.options.now.filter_context)
    (reach_of g.S.Store g.M.MergeOperator g.T.BlockTransformer c.args.env.now) (reach_of g.S.Store g.M.MergeOperator g.T.BlockTransformer c.seen.new.env) v c.in_ok-key.key c.args.key.now c.self.inside.begin c.args.self.now.begin (Err c.in_err-row.field-0.0)
    c.as_slice-policies.ensures.value c.requires.laws.policies c.in_ok-query.ensures.query c.in_ok-key.ensures (ap (λ (x : ViewModel). x.begin) c.self.view_is) (c.in_err-row.ensures v c.self.inside.range taken inside) in
    view_err g.P.Parts.options g.P.Parts.meaning t seen (reach_of g.S.Store g.M.MergeOperator g.T.BlockTransformer c.args.env.now) (reach_of g.S.Store g.M.MergeOperator g.T.BlockTransformer c.seen.new.env) c.requires.meaning v c.args.self.now is c.args.key.now (record { policies = g.P.Parts.policies; query = point_query c.args.key.now c.args.options.now.filter_context }) c.in_err-row.field-0.0 c.from_residual-in_err-row.result (p.1 ∙ ap (λ e. Err e) p.2) was

pub returns : goal.returns
returns g c = λ t seen v is.
    let taken = subst (λ (x : ViewModel). IsRangeShare v x.range x.begin x.share) (sym c.self.view_is) is.taken in
    let inside = ap (λ (x : ViewModel). in_range x.range c.in_ok-key.key) c.self.view_is ∙ ap (in_range c.args.self.now.range) c.in_ok-key.ensures ∙ c.requires.within in
    let was = seen_as (λ p. (goal.FilterPolicy-dyn g (p.vtable, p.value)).meaning p.value) c.as_slice-policies.result.now c.args.laws.now.policies.items g.P.Parts.policies c.in_ok-query.query (λ k. point_query k c.args.options.now.filter_context)
    (reach_of g.S.Store g.M.MergeOperator g.T.BlockTransformer c.args.env.now) (reach_of g.S.Store g.M.MergeOperator g.T.BlockTransformer c.seen.new.env) v c.in_ok-key.key c.args.key.now c.self.inside.begin c.args.self.now.begin (Ok c.in_ok-row.row)
    c.as_slice-policies.ensures.value c.requires.laws.policies c.in_ok-query.ensures.query c.in_ok-key.ensures (ap (λ (x : ViewModel). x.begin) c.self.view_is) (c.in_ok-row.ensures v c.self.inside.range taken inside) in
    view_ok g.P.Parts.options g.P.Parts.meaning t seen (reach_of g.S.Store g.M.MergeOperator g.T.BlockTransformer c.args.env.now) (reach_of g.S.Store g.M.MergeOperator g.T.BlockTransformer c.seen.new.env) c.requires.meaning v c.args.self.now is c.args.key.now (record { policies = g.P.Parts.policies; query = point_query c.args.key.now c.args.options.now.filter_context }) c.in_ok-row.row c.answer.result c.answer.ensures was
