use Rattle.std.proofs.Common.{◌≡◌, ◌∙◌, ◌∷◌, [], List, ℕ, ap, map, option_copied, subst}
use Rattle.slate_types.specs.declared.config.IsolationLevel.TheVariants.{SerializableSnapshot}
use Rattle.slate_types.proofs.Exits.{on_ok_both}
use Rattle.slate_store.specs.Reach.{reach_of}
use Rattle.slate_txn.specs.declared.event.TranscriptStep.TheVariants as steps
use Rattle.slate_steps.specs.Reads.{told_in, unblamed_if}
use Rattle.slate_steps.specs.Steps.{IsWithin, Sees}
use Rattle.slate_steps.proofs.Reading.{if_err_map}
use Rattle.slate_index.specs.Calls.{db_error}
use Rattle.slate_index.specs.Entries.{record_key}
use Rattle.slate_index.proofs.Operating.{values_pass}
use Rattle.slate_index.proofs.Stepping.{all_taken, change_stopped, key_stopped, read_stopped}
use Rattle.slate_index.proofs.change.take_steps.Goals as goal

pub take_change-requires-clause-accepted : goal.take_change-requires-clause-accepted
take_change-requires-clause-accepted g c = values_pass (g.F.Fields.model c.args.fields.now) (option_copied c.args.new) c.requires.accepted

pub returns-in-Err-clause-stopped : goal.returns-in-Err-clause-stopped
returns-in-Err-clause-stopped g c = λ d h.
    let before = reach_of g.S.Store g.M.MergeOperator g.T.BlockTransformer c.args.env.now in
    let policies = map (λ p. (goal.FilterPolicy-dyn g (p.vtable, p.value)).meaning p.value) c.args.laws.now.policies.items in
    key_stopped policies before before (g.F.Fields.model c.args.fields.now) c.args.id.now (option_copied c.args.new) d c.args.tx.now c.args.core.now c.from.result h c.from.ensures

pub returns-in-Ok-found-clause-taken : goal.returns-in-Ok-found-clause-taken
returns-in-Ok-found-clause-taken g c = λ d h.
    let before = reach_of g.S.Store g.M.MergeOperator g.T.BlockTransformer c.args.env.now in
    let after = reach_of g.S.Store g.M.MergeOperator g.T.BlockTransformer c.get-found.new.env in
    let policies = map (λ p. (goal.FilterPolicy-dyn g (p.vtable, p.value)).meaning p.value) c.args.laws.now.policies.items in
    let fs = g.F.Fields.model c.args.fields.now in
    let id = c.args.id.now in
    let row = c.in-Ok-found.row in
    let key : c.as_slice.result.now ≡ record_key id = c.as_slice.ensures ∙ c.in-Ok.ensures in
    let within : IsWithin d c.args.tx.now SerializableSnapshot (steps.Get (record_key id) row ∷ []) c.get-found.new.core =
    subst (λ (k : List ℕ). IsWithin d c.args.tx.now SerializableSnapshot (steps.Get k row ∷ []) c.get-found.new.core) key (c.in-Ok-found.ensures.within d SerializableSnapshot [] h) in
    on_ok_both c.take_change.result (λ passes taken. all_taken policies before after fs id (option_copied c.args.new) d c.args.tx.now c.take_change.new.core row c.requires.accepted passes
    (λ seg store. subst (λ (k : List ℕ). Sees before.meaning d (steps.Get k row ∷ [])) key (c.in-Ok-found.ensures.checked d SerializableSnapshot [] seg h store tt)) taken)
    c.take_change.ensures.passes (c.take_change.ensures.taken d SerializableSnapshot (steps.Get (record_key id) row ∷ []) within)

pub returns-in-Ok-found-clause-stopped : goal.returns-in-Ok-found-clause-stopped
returns-in-Ok-found-clause-stopped g c = λ d h.
    let before = reach_of g.S.Store g.M.MergeOperator g.T.BlockTransformer c.args.env.now in
    let after = reach_of g.S.Store g.M.MergeOperator g.T.BlockTransformer c.get-found.new.env in
    let policies = map (λ p. (goal.FilterPolicy-dyn g (p.vtable, p.value)).meaning p.value) c.args.laws.now.policies.items in
    let fs = g.F.Fields.model c.args.fields.now in
    let id = c.args.id.now in
    let row = c.in-Ok-found.row in
    let key : c.as_slice.result.now ≡ record_key id = c.as_slice.ensures ∙ c.in-Ok.ensures in
    let within : IsWithin d c.args.tx.now SerializableSnapshot (steps.Get (record_key id) row ∷ []) c.get-found.new.core =
    subst (λ (k : List ℕ). IsWithin d c.args.tx.now SerializableSnapshot (steps.Get k row ∷ []) c.get-found.new.core) key (c.in-Ok-found.ensures.within d SerializableSnapshot [] h) in
    if_err_map c.take_change.result _ _ (λ e x. change_stopped policies before after fs id (option_copied c.args.new) d c.args.tx.now c.take_change.new.core c.get-found.new.core row e within
    (λ seg store. subst (λ (k : List ℕ). Sees before.meaning d (steps.Get k row ∷ [])) key (c.in-Ok-found.ensures.checked d SerializableSnapshot [] seg h store tt))
    (c.take_change.ensures.still d SerializableSnapshot (steps.Get (record_key id) row ∷ []) within) x) c.take_change.ensures.cause

pub returns-in-Err-found-clause-stopped : goal.returns-in-Err-found-clause-stopped
returns-in-Err-found-clause-stopped g c = λ d h.
    let before = reach_of g.S.Store g.M.MergeOperator g.T.BlockTransformer c.args.env.now in
    let after = reach_of g.S.Store g.M.MergeOperator g.T.BlockTransformer c.get-found.new.env in
    let policies = map (λ p. (goal.FilterPolicy-dyn g (p.vtable, p.value)).meaning p.value) c.args.laws.now.policies.items in
    read_stopped policies before after (g.F.Fields.model c.args.fields.now) c.args.id.now (option_copied c.args.new) d c.args.tx.now c.get-found.new.core c.args.core.now c.in-Err-found.error h c.in-Err-found.ensures.same c.in-Err-found.ensures.cause
    (λ seg settled. c.in-Err-found.ensures.undamaged d SerializableSnapshot [] seg h settled)

pub returns-in-Ok-found-clause-counts : goal.returns-in-Ok-found-clause-counts
returns-in-Ok-found-clause-counts g c = ap (unblamed_if (told_in db_error c.take_change.result)) c.in-Ok-found.ensures.counts

pub returns-in-Err-found-clause-counts : goal.returns-in-Err-found-clause-counts
returns-in-Err-found-clause-counts g c = c.in-Err-found.ensures.counts
