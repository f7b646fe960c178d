use Rattle.std.proofs.Common.{◌≡◌, ◌∙◌, IfOk, List, ap, map, refl, subst, ℕ}
use Rattle.slate_types.specs.declared.iter.IterationOrder.TheVariants.{Ascending}
use Rattle.slate_types.specs.Keys.{prefix_range}
use Rattle.slate_store.specs.Reach.{reach_of}
use Rattle.slate_txn.specs.Alone.{own_of}
use Rattle.slate_txn.specs.Reads.{rows_seen}
use Rattle.slate_db.specs.Meaning.{rules_of}
use Rattle.slate_steps.specs.Steps.{newest}
use Rattle.slate_index.specs.Entries.{entry_prefix}
use Rattle.slate_index.specs.Finds.{names_behind}
use Rattle.slate_index.proofs.Looked.{still_none}
use Rattle.slate_index.proofs.Searching.{memory_fault, memory_read}
use Rattle.slate_index.proofs.lookups.ids_in.Goals as goal

pub returns-in-Err-clause-still : goal.returns-in-Err-clause-still
returns-in-Err-clause-still g c = λ d level ts h. still_none d level ts c.args.tx.now c.args.core.now c.args.core.now refl h

pub returns-in-Err-clause-undamaged : goal.returns-in-Err-clause-undamaged
returns-in-Err-clause-undamaged g c = λ d level ts seg h settled.
    let before = reach_of g.S.Store g.M.MergeOperator g.T.BlockTransformer c.args.env.now in
    memory_fault before before c.from.result c.from.ensures

pub returns-in-Err-clause-cause : goal.returns-in-Err-clause-cause
returns-in-Err-clause-cause g c = memory_read _ _ _ _ c.from.result c.from.ensures

pub returns-clause-found : goal.returns-clause-found
returns-clause-found g c = λ d level ts seg h store.
    let before = reach_of g.S.Store g.M.MergeOperator g.T.BlockTransformer c.args.env.now in
    let whole : c.as_slice-2.result.now ≡ entry_prefix c.args.number c.args.field.now = c.as_slice-2.ensures ∙ c.in-Ok.ensures ∙ ap (entry_prefix c.args.number) c.as_slice.ensures in
    subst (λ (p : List ℕ). IfOk c.ids_behind-ids.result (λ ids. ids.items ≡ names_behind p (map (λ r. r.key) (rows_seen (rules_of d.settings before.meaning) d.state.commits (newest d) (own_of ts) Ascending (prefix_range p))))) whole (c.ids_behind-ids.ensures.found d level ts seg h store)
