use Rattle.std.proofs.Common.{◌≡◌, ◌∙◌, ◌+◌, ◌<◌, ◌≤◌, ◌∷◌, ◌++◌, [], Some, None, Ok, List, ap, arith, length, length-append, subst, sym, ℕ}
use Rattle.slate_types.specs.declared.types.KeyValue.{KeyValue}
use Rattle.slate_types.specs.Config.{defaults}
use Rattle.slate_types.proofs.Reaching.{reads_then}
use Rattle.slate_store.specs.Reach.{reach_of}
use Rattle.slate_db.specs.Scans.{number_of}
use Rattle.slate_steps.proofs.OnPass.{next_cause_on}
use Rattle.slate_connection.specs.Connected.{plain_terms}
use Rattle.slate_connection.specs.Scanned.{WalksOn, next_steps}
use Rattle.slate_connection.proofs.Going.{if_err}
use Rattle.slate_connection.proofs.Scanning.{hands_all, hands_limit, next_ready, next_walks_at, walked_of, walked_still, walks_end, walks_none, walks_row}
use Rattle.slate_connection.proofs.scan.rows_of.Goals as goal

pub loop-init : goal.loop-init
loop-init g c =
    let before = reach_of g.S.Store g.M.MergeOperator g.T.BlockTransformer c.args.env.now in
    record {
      walking = subst (λ (rows : List KeyValue). WalksOn plain_terms before before c.args.txn.now c.args.txn.now c.args.scan.now c.args.scan.now (next_steps (number_of c.args.scan.now) rows)) (sym c.new-rows.ensures.items) (walks_none plain_terms before c.args.txn.now c.args.scan.now);
      ready = c.requires;
      counted = ap length c.new-rows.ensures.items;
    }

pub next-requires : goal.next-requires
next-requires g c = c.loop.invariant.ready

pub loop-preserved : goal.loop-preserved
loop-preserved g c =
    let before = reach_of g.S.Store g.M.MergeOperator g.T.BlockTransformer c.args.env.now in
    let now = reach_of g.S.Store g.M.MergeOperator g.T.BlockTransformer c.loop.env in
    let after = reach_of g.S.Store g.M.MergeOperator g.T.BlockTransformer c.next.new.env in
    let rows = c.loop.rows.items in
    let row = c.in-Ok-Some.row in
    let n = next_walks_at plain_terms now after c.loop.txn c.next.new.self c.loop.scan c.next.new.it _ c.next.result (Some row) (c.in-Ok-Some.is ∙ ap Ok c.in-Ok-Some.field-0-is) c.next.ensures.noted c.next.ensures.step in
    let longer : length (rows ++ (row ∷ [])) ≡ length rows + 1 = length-append rows (row ∷ []) in
    let grown : length c.push.new.self.items ≡ length rows + 1 = ap length c.in-Ok.ensures.items ∙ longer in
    record {
      walking = subst (λ (rs : List KeyValue). WalksOn plain_terms before after c.args.txn.now c.next.new.self c.args.scan.now c.next.new.it (next_steps (number_of c.args.scan.now) rs)) (sym c.in-Ok.ensures.items)
          (walks_row plain_terms before now after c.args.txn.now c.loop.txn c.next.new.self c.args.scan.now c.loop.scan c.next.new.it rows c.loop.invariant.walking row n);
      ready = next_ready plain_terms now after c.loop.txn c.next.new.self c.loop.scan c.next.new.it (number_of c.loop.scan) (Some row) n c.loop.invariant.ready;
      counted = omega (arith, c.loop.invariant.counted, grown);
    }

pub returns-in-Err-push-clause-walked : goal.returns-in-Err-push-clause-walked
returns-in-Err-push-clause-walked g c =
    let before = reach_of g.S.Store g.M.MergeOperator g.T.BlockTransformer c.args.env.now in
    let now = reach_of g.S.Store g.M.MergeOperator g.T.BlockTransformer c.loop.env in
    let after = reach_of g.S.Store g.M.MergeOperator g.T.BlockTransformer c.next.new.env in
    let n = next_walks_at plain_terms now after c.loop.txn c.next.new.self c.loop.scan c.next.new.it _ c.next.result (Some c.in-Ok-Some.row) (c.in-Ok-Some.is ∙ ap Ok c.in-Ok-Some.field-0-is) c.next.ensures.noted c.next.ensures.step in
    walked_of plain_terms before after c.args.txn.now c.next.new.self c.args.scan.now c.next.new.it _
    (walks_row plain_terms before now after c.args.txn.now c.loop.txn c.next.new.self c.args.scan.now c.loop.scan c.next.new.it c.loop.rows.items c.loop.invariant.walking c.in-Ok-Some.row n)

pub returns-in-Ok-None-clause-walked : goal.returns-in-Ok-None-clause-walked
returns-in-Ok-None-clause-walked g c =
    let before = reach_of g.S.Store g.M.MergeOperator g.T.BlockTransformer c.args.env.now in
    let now = reach_of g.S.Store g.M.MergeOperator g.T.BlockTransformer c.loop.env in
    let after = reach_of g.S.Store g.M.MergeOperator g.T.BlockTransformer c.next.new.env in
    let n = next_walks_at plain_terms now after c.loop.txn c.next.new.self c.loop.scan c.next.new.it _ c.next.result None (c.in-Ok-None.is ∙ ap Ok c.in-Ok-None.field-0-is) c.next.ensures.noted c.next.ensures.step in
    walked_of plain_terms before after c.args.txn.now c.next.new.self c.args.scan.now c.next.new.it _
    (walks_end plain_terms before now after c.args.txn.now c.loop.txn c.next.new.self c.args.scan.now c.loop.scan c.next.new.it c.loop.rows.items c.loop.invariant.walking n)

pub returns-in-Ok-None-clause-handed : goal.returns-in-Ok-None-clause-handed
returns-in-Ok-None-clause-handed g c =
    let before = reach_of g.S.Store g.M.MergeOperator g.T.BlockTransformer c.args.env.now in
    let now = reach_of g.S.Store g.M.MergeOperator g.T.BlockTransformer c.loop.env in
    let after = reach_of g.S.Store g.M.MergeOperator g.T.BlockTransformer c.next.new.env in
    let n = next_walks_at plain_terms now after c.loop.txn c.next.new.self c.loop.scan c.next.new.it _ c.next.result None (c.in-Ok-None.is ∙ ap Ok c.in-Ok-None.field-0-is) c.next.ensures.noted c.next.ensures.step in
    let fewer : length c.loop.rows.items < c.args.limit = omega (arith, c.loop.invariant.counted, c.loop-test.true) in
    hands_all plain_terms before now after c.args.txn.now c.loop.txn c.next.new.self c.args.scan.now c.loop.scan c.next.new.it c.loop.rows.items c.loop.invariant.walking c.args.limit fewer n

pub returns-in-Err-clause-walked : goal.returns-in-Err-clause-walked
returns-in-Err-clause-walked g c =
    let before = reach_of g.S.Store g.M.MergeOperator g.T.BlockTransformer c.args.env.now in
    let now = reach_of g.S.Store g.M.MergeOperator g.T.BlockTransformer c.loop.env in
    let after = reach_of g.S.Store g.M.MergeOperator g.T.BlockTransformer c.next.new.env in
    walked_still plain_terms before now after c.args.txn.now c.loop.txn c.next.new.self c.args.scan.now c.loop.scan _ c.loop.invariant.walking c.in-Err.ensures.same c.next.ensures.step.reads

pub returns-in-Err-clause-cause : goal.returns-in-Err-clause-cause
returns-in-Err-clause-cause g c = λ from only since.
    let now = reach_of g.S.Store g.M.MergeOperator g.T.BlockTransformer c.loop.env in
    let after = reach_of g.S.Store g.M.MergeOperator g.T.BlockTransformer c.next.new.env in
    let w = c.loop.invariant.walking in
    if_err _ c.next.result c.in-Err.error c.in-Err.is
    (next_cause_on c.next.result defaults [] from now after c.args.txn.now.seen c.loop.scan (reads_then _ _ _ only w.reads) (w.since from since) c.next.ensures.step.cause)

pub returns-clause-walked : goal.returns-clause-walked
returns-clause-walked g c =
    let before = reach_of g.S.Store g.M.MergeOperator g.T.BlockTransformer c.args.env.now in
    let now = reach_of g.S.Store g.M.MergeOperator g.T.BlockTransformer c.loop.env in
    walked_of plain_terms before now c.args.txn.now c.loop.txn c.args.scan.now c.loop.scan _ c.loop.invariant.walking

pub returns-clause-handed : goal.returns-clause-handed
returns-clause-handed g c =
    let before = reach_of g.S.Store g.M.MergeOperator g.T.BlockTransformer c.args.env.now in
    let now = reach_of g.S.Store g.M.MergeOperator g.T.BlockTransformer c.loop.env in
    let end : c.loop.counter ≤ c.args.limit = c.loop.auto.counter-end in
    let full : length c.loop.rows.items ≡ c.args.limit = omega (arith, c.loop.invariant.counted, c.loop-test.false, end) in
    hands_limit plain_terms before now now c.args.txn.now c.loop.txn c.loop.txn c.args.scan.now c.loop.scan c.loop.scan c.loop.rows.items c.loop.invariant.walking c.args.limit full
