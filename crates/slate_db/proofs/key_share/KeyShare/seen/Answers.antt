use Rattle.std.proofs.Common.{◌≡◌, ◌++◌, List, map, sym, ap, subst, ◌∙◌}
use Rattle.std.specs.Prelude.{Err}
use Rattle.std.proofs.lemmas.Result.{err_from_is_err_and}
use Rattle.slate_types.specs.declared.error.SlateDBError.TheVariants.{OutOfMemory}
use Rattle.slate_store.specs.Reach.{reach_of}
use Rattle.slate_read.specs.declared.sorted_run.SortedRun.{SortedRun}
use Rattle.slate_db.specs.KeyShares.{IsKeyShare, Stands}
use Rattle.slate_db.specs.Shown.{Asking}
use Rattle.slate_db.proofs.UnderKeys.{seen_refused}
use Rattle.slate_db.proofs.key_share.KeyShare.seen.Goals as goal

pub returns-in_err-append : goal.returns-in_err-append
returns-in_err-append g c = λ v st un.
    let p = err_from_is_err_and c.from_residual.result c.from_residual.ensures.1 in
    seen_refused (record { policies = map (λ p. (goal.FilterPolicy-dyn g (p.vtable, p.value)).meaning p.value) c.args.policies.now; query = c.args.query.now }) (reach_of g.S.Store g.M.MergeOperator g.T.BlockTransformer c.args.env.now) v c.args.key.now c.args.at c.args.own.items
    c.from_residual.result (p.1 ∙ ap (λ e. Err e) p.2)

pub returns : goal.returns
returns g c = λ v st un.
    c.seen_behind.ensures v c.args.own.items c.self.inside.rows.items c.in_ok-append.ensures.items
    (subst (λ (runs : List SortedRun). Stands v c.args.key.now c.args.at c.self.inside.rows.items runs) (sym c.as_slice.ensures) (subst (IsKeyShare v c.args.key.now c.args.at) (sym c.self.view_is) st)) un
