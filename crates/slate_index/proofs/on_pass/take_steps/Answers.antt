use Rattle.std.proofs.Common.{◌≡◌, ◌∙◌, ◌∷◌, [], List, ℕ, ap, option_copied, subst}
use Rattle.slate_types.specs.declared.config.IsolationLevel.TheVariants.{SerializableSnapshot}
use Rattle.slate_types.proofs.Exits.{on_ok_both}
use Rattle.slate_store.specs.Reach.{reach_of}
use Rattle.slate_txn.specs.declared.event.TranscriptStep.TheVariants as steps
use Rattle.slate_steps.specs.Attempts.{IsAttempt, IsStoreChecked}
use Rattle.slate_steps.specs.Reads.{told_in, unblamed_if}
use Rattle.slate_steps.proofs.Reading.{if_err_map}
use Rattle.slate_index.specs.Calls.{db_error}
use Rattle.slate_index.specs.Entries.{record_key}
use Rattle.slate_index.proofs.Attempted.{all_there, change_there, key_there, read_there, vouched_none}
use Rattle.slate_index.proofs.Operating.{values_pass}
use Rattle.slate_index.proofs.on_pass.take_steps.Goals as goal

pub take_change-requires : goal.take_change-requires
take_change-requires g c = record { accepted = values_pass (g.F.Fields.model c.args.fields.now) (option_copied c.args.new) c.requires.accepted }

pub returns-in-Err-clause-stopped : goal.returns-in-Err-clause-stopped
returns-in-Err-clause-stopped g c = λ from h.
    let before = reach_of g.S.Store g.M.MergeOperator g.T.BlockTransformer c.args.env.now in
    key_there g.P.Parts.options g.P.Parts.meaning g.P.Parts.policies (g.F.Fields.model c.args.fields.now) c.args.id.now (option_copied c.args.new) from before before c.args.txn.now c.from.result h c.from.ensures

pub returns-in-Ok-found-clause-taken : goal.returns-in-Ok-found-clause-taken
returns-in-Ok-found-clause-taken g c = λ from h.
    let o = g.P.Parts.options in
    let m = g.P.Parts.meaning in
    let policies = g.P.Parts.policies in
    let before = reach_of g.S.Store g.M.MergeOperator g.T.BlockTransformer c.args.env.now in
    let after = reach_of g.S.Store g.M.MergeOperator g.T.BlockTransformer c.get-found.new.env in
    let fs = g.F.Fields.model c.args.fields.now in
    let id = c.args.id.now in
    let row = c.in-Ok-found.row in
    let key : c.as_slice.result.now ≡ record_key id = c.as_slice.ensures ∙ c.in-Ok.ensures in
    let attempt : IsAttempt o from SerializableSnapshot (steps.Get (record_key id) row ∷ []) c.get-found.new.txn =
    subst (λ (k : List ℕ). IsAttempt o from SerializableSnapshot (steps.Get k row ∷ []) c.get-found.new.txn) key (c.in-Ok-found.ensures.within from SerializableSnapshot [] h) in
    on_ok_both c.take_change.result (λ passes taken. all_there o m policies fs id (option_copied c.args.new) from before after c.take_change.new.txn row c.requires.accepted passes
    (λ store. c.take_change.ensures.sees (c.in-Ok-found.ensures.checked from SerializableSnapshot [] h (subst (λ es. IsStoreChecked policies m es before after) c.take_change.ensures.more.1 store) (vouched_none o m from c.args.txn.now h))) taken)
    c.take_change.ensures.passes (c.take_change.ensures.taken from SerializableSnapshot (steps.Get (record_key id) row ∷ []) attempt)

pub returns-in-Ok-found-clause-stopped : goal.returns-in-Ok-found-clause-stopped
returns-in-Ok-found-clause-stopped g c = λ from h.
    let o = g.P.Parts.options in
    let m = g.P.Parts.meaning in
    let policies = g.P.Parts.policies in
    let before = reach_of g.S.Store g.M.MergeOperator g.T.BlockTransformer c.args.env.now in
    let after = reach_of g.S.Store g.M.MergeOperator g.T.BlockTransformer c.get-found.new.env in
    let fs = g.F.Fields.model c.args.fields.now in
    let id = c.args.id.now in
    let row = c.in-Ok-found.row in
    let key : c.as_slice.result.now ≡ record_key id = c.as_slice.ensures ∙ c.in-Ok.ensures in
    let attempt : IsAttempt o from SerializableSnapshot (steps.Get (record_key id) row ∷ []) c.get-found.new.txn =
    subst (λ (k : List ℕ). IsAttempt o from SerializableSnapshot (steps.Get k row ∷ []) c.get-found.new.txn) key (c.in-Ok-found.ensures.within from SerializableSnapshot [] h) in
    if_err_map c.take_change.result _ _ (λ e x. change_there o m policies fs id (option_copied c.args.new) from before after c.take_change.new.txn row e
    (λ store. c.take_change.ensures.sees (c.in-Ok-found.ensures.checked from SerializableSnapshot [] h (subst (λ es. IsStoreChecked policies m es before after) c.take_change.ensures.more.1 store) (vouched_none o m from c.args.txn.now h)))
    (c.take_change.ensures.still from SerializableSnapshot (steps.Get (record_key id) row ∷ []) attempt) x) c.take_change.ensures.cause

pub returns-in-Err-found-clause-stopped : goal.returns-in-Err-found-clause-stopped
returns-in-Err-found-clause-stopped g c = λ from h.
    let before = reach_of g.S.Store g.M.MergeOperator g.T.BlockTransformer c.args.env.now in
    let after = reach_of g.S.Store g.M.MergeOperator g.T.BlockTransformer c.get-found.new.env in
    read_there g.P.Parts.options g.P.Parts.meaning g.P.Parts.policies (g.F.Fields.model c.args.fields.now) c.args.id.now (option_copied c.args.new) from before after c.get-found.new.txn c.in-Err-found.error
    (c.in-Err-found.ensures.refused from SerializableSnapshot [] h) (c.in-Err-found.ensures.cause from SerializableSnapshot [] h) (c.in-Err-found.ensures.undamaged from SerializableSnapshot [] h)

pub returns-in-Ok-found-clause-counts : goal.returns-in-Ok-found-clause-counts
returns-in-Ok-found-clause-counts g c = ap (unblamed_if (told_in db_error c.take_change.result)) c.in-Ok-found.ensures.counts

pub returns-in-Err-found-clause-counts : goal.returns-in-Err-found-clause-counts
returns-in-Err-found-clause-counts g c = c.in-Err-found.ensures.counts
