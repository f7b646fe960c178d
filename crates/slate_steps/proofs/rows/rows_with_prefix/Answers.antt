use Rattle.std.proofs.Common.{◌∙◌, ◌∷◌, ◌++◌, [], ap, map}
use Rattle.slate_types.specs.declared.iter.IterationOrder.TheVariants.{Ascending}
use Rattle.slate_types.specs.Keys.{prefix_range}
use Rattle.slate_types.specs.Outside.{unblamed_by}
use Rattle.slate_types.proofs.Reaching.{fault_earlier, reads_then}
use Rattle.slate_store.specs.Reach.{reach_of}
use Rattle.slate_txn.specs.declared.event.TranscriptStep.TheVariants as steps
use Rattle.slate_txn.specs.Alone.{own_of}
use Rattle.slate_txn.specs.Reads.{rows_seen}
use Rattle.slate_db.specs.Meaning.{rules_of}
use Rattle.slate_steps.specs.Steps.{newest}
use Rattle.slate_steps.proofs.Reading.{if_err_map, if_ok_map}
use Rattle.slate_steps.proofs.Walking.{at_objects, handed_rows, reading_mid, still_behind, still_none, told_mid}
use Rattle.slate_steps.proofs.rows.rows_with_prefix.Goals as goal

pub returns-in-Err-clause-still : goal.returns-in-Err-clause-still
returns-in-Err-clause-still g c = λ d level ts h. still_none d level ts c.args.id.now c.args.core.now c.scan_prefix.new.core c.in-Err.ensures.same h

pub returns-in-Err-clause-undamaged : goal.returns-in-Err-clause-undamaged
returns-in-Err-clause-undamaged g c = λ d level ts seg h settled. c.in-Err.ensures.undamaged d level ts seg h settled

pub returns-clause-still : goal.returns-clause-still
returns-clause-still g c = λ d level ts h.
    still_behind d level ts (steps.Scan Ascending (prefix_range c.args.prefix.now)) c.args.id.now _ c.scan_prefix.new.core c.rows_left-rows.new.core (c.in-Ok.ensures.named d level ts h).named (c.in-Ok.ensures.within d level ts h) c.rows_left-rows.ensures.still

pub returns-clause-found : goal.returns-clause-found
returns-clause-found g c = λ d level ts seg h settled.
    let before = reach_of g.S.Store g.M.MergeOperator g.T.BlockTransformer c.args.env.now in
    let mid = reach_of g.S.Store g.M.MergeOperator g.T.BlockTransformer c.scan_prefix.new.env in
    let policies = map (λ p. (goal.FilterPolicy-dyn g (p.vtable, p.value)).meaning p.value) c.args.laws.now.policies.items in
    let range = prefix_range c.args.prefix.now in
    at_objects policies seg before d settled (λ os told. if_ok_map c.rows_left-rows.result _ _
    (λ rows w. handed_rows before mid c.scan_prefix.ensures.reads c.in-Ok.scan os told d (ts ++ (steps.Scan Ascending range ∷ [])) (rows_seen (rules_of d.settings before.meaning) d.state.commits (newest d) (own_of ts) Ascending range) rows.items (c.in-Ok.ensures.reading d level ts seg os h told settled) w) c.rows_left-rows.ensures.found)

pub returns-clause-undamaged : goal.returns-clause-undamaged
returns-clause-undamaged g c = λ d level ts seg h settled.
    let before = reach_of g.S.Store g.M.MergeOperator g.T.BlockTransformer c.args.env.now in
    let mid = reach_of g.S.Store g.M.MergeOperator g.T.BlockTransformer c.scan_prefix.new.env in
    let after = reach_of g.S.Store g.M.MergeOperator g.T.BlockTransformer c.rows_left-rows.new.env in
    let policies = map (λ p. (goal.FilterPolicy-dyn g (p.vtable, p.value)).meaning p.value) c.args.laws.now.policies.items in
    let range = prefix_range c.args.prefix.now in
    let rows = rows_seen (rules_of d.settings before.meaning) d.state.commits (newest d) (own_of ts) Ascending range in
    let only = c.scan_prefix.ensures.reads in
    at_objects policies seg before d settled (λ os told. if_err_map c.rows_left-rows.result _ _ (λ e f. fault_earlier before mid after e only.later f)
    (c.rows_left-rows.ensures.undamaged d (ts ++ (steps.Scan Ascending range ∷ [])) os rows (told_mid before mid only c.in-Ok.scan os told) (reading_mid before mid only c.in-Ok.scan os told d (ts ++ (steps.Scan Ascending range ∷ [])) rows (c.in-Ok.ensures.reading d level ts seg os h told settled))))

pub returns-clause-cause : goal.returns-clause-cause
returns-clause-cause g c =
    let before = reach_of g.S.Store g.M.MergeOperator g.T.BlockTransformer c.args.env.now in
    let policies = map (λ p. (goal.FilterPolicy-dyn g (p.vtable, p.value)).meaning p.value) c.args.laws.now.policies.items in
    c.rows_left-rows.ensures.cause c.args.core.now before policies c.scan_prefix.ensures.reads c.in-Ok.ensures.since

pub returns-clause-reads : goal.returns-clause-reads
returns-clause-reads g c = reads_then _ _ _ c.scan_prefix.ensures.reads c.rows_left-rows.ensures.reads

pub returns-clause-counts : goal.returns-clause-counts
returns-clause-counts g c = c.rows_left-rows.ensures.counts ∙ ap (unblamed_by c.rows_left-rows.result) c.in-Ok.ensures.counts
