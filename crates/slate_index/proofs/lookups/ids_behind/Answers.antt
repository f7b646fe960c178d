use Rattle.std.proofs.Common.{◌∙◌, ap}
use Rattle.slate_types.specs.Outside.{unblamed_by}
use Rattle.slate_store.specs.Reach.{reach_of}
use Rattle.slate_steps.proofs.Reading.{if_ok_map}
use Rattle.slate_index.specs.Finds.{names_behind}
use Rattle.slate_index.proofs.Searching.{unless_fault, unless_read}
use Rattle.slate_index.proofs.lookups.ids_behind.Goals as goal

pub returns-in-Ok-clause-found : goal.returns-in-Ok-clause-found
returns-in-Ok-clause-found g c = λ d level ts seg h store.
    if_ok_map c.names_behind.result _ _ (λ ids is. is ∙ ap (names_behind c.args.prefix.now) (c.in-Ok.ensures.found d level ts seg h store)) c.names_behind.ensures.names

pub returns-in-Ok-clause-undamaged : goal.returns-in-Ok-clause-undamaged
returns-in-Ok-clause-undamaged g c = λ d level ts seg h settled.
    let before = reach_of g.S.Store g.M.MergeOperator g.T.BlockTransformer c.args.env.now in
    let after = reach_of g.S.Store g.M.MergeOperator g.T.BlockTransformer c.keys_behind.new.env in
    unless_fault c.names_behind.result before after c.names_behind.ensures.memory

pub returns-in-Ok-clause-cause : goal.returns-in-Ok-clause-cause
returns-in-Ok-clause-cause g c = unless_read c.names_behind.result _ _ _ _ c.names_behind.ensures.memory

pub returns-in-Err-clause-undamaged : goal.returns-in-Err-clause-undamaged
returns-in-Err-clause-undamaged g c = λ d level ts seg h settled. c.in-Err.ensures.undamaged d level ts seg h settled

pub returns-in-Ok-clause-counts : goal.returns-in-Ok-clause-counts
returns-in-Ok-clause-counts g c = ap (unblamed_by c.names_behind.result) c.in-Ok.ensures.counts
