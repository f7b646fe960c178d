use Rattle.std.proofs.Common.{◌∙◌, ◌++◌, [], ap, inl, map, refl, subst, sym}
use Rattle.slate_types.specs.declared.config.IsolationLevel.TheVariants.{SerializableSnapshot}
use Rattle.slate_types.specs.Outside.{IsFault}
use Rattle.slate_store.specs.Reach.{reach_of}
use Rattle.slate_txn.specs.Alone.{own_of}
use Rattle.slate_steps.specs.Reads.{of_scan}
use Rattle.slate_steps.proofs.Reading.{if_ok_map}
use Rattle.slate_stock.specs.Amounts.{head}
use Rattle.slate_stock.proofs.TotalLaws.{balances_are}
use Rattle.slate_stock.proofs.total.balances_within.Goals as goal

pub returns-in-Ok-clause-still : goal.returns-in-Ok-clause-still
returns-in-Ok-clause-still g c = λ d ts h. let more = c.rows_with_prefix-rows.ensures.still d SerializableSnapshot ts h in (ts ++ more.0, more.1)

pub returns-in-Ok-clause-found : goal.returns-in-Ok-clause-found
returns-in-Ok-clause-found g c = λ d ts seg h none settled.
    let before = reach_of g.S.Store g.M.MergeOperator g.T.BlockTransformer c.args.env.now in
    if_ok_map c.rows_with_prefix-rows.result _ _ (λ rows is. balances_are before.meaning d c.args.asset.now _ (own_of ts) rows.items (c.as_slice-in-Ok.ensures ∙ c.in-Ok.ensures ∙ ap head c.as_slice.ensures) none is) (c.rows_with_prefix-rows.ensures.found d SerializableSnapshot ts seg h settled)

pub returns-in-Ok-clause-undamaged : goal.returns-in-Ok-clause-undamaged
returns-in-Ok-clause-undamaged g c = λ d ts seg h settled. c.rows_with_prefix-rows.ensures.undamaged d SerializableSnapshot ts seg h settled

pub returns-in-Err-clause-still : goal.returns-in-Err-clause-still
returns-in-Err-clause-still g c = λ d ts h. (ts, h)

pub returns-in-Err-clause-undamaged : goal.returns-in-Err-clause-undamaged
returns-in-Err-clause-undamaged g c = λ d ts seg h settled.
    let before = reach_of g.S.Store g.M.MergeOperator g.T.BlockTransformer c.args.env.now in
    subst (IsFault before before) (sym c.from.ensures) tt

pub returns-in-Err-clause-cause : goal.returns-in-Err-clause-cause
returns-in-Err-clause-cause g c =
    let before = reach_of g.S.Store g.M.MergeOperator g.T.BlockTransformer c.args.env.now in
    of_scan (inl (subst (IsFault before before) (sym c.from.ensures) tt))

pub returns-in-Ok-clause-counts : goal.returns-in-Ok-clause-counts
returns-in-Ok-clause-counts g c = c.rows_with_prefix-rows.ensures.counts

pub returns-in-Err-clause-counts : goal.returns-in-Err-clause-counts
returns-in-Err-clause-counts g c = refl
