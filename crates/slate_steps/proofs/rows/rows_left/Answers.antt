use Rattle.std.proofs.Common.{◌≡◌, ◌∙◌, ◌+◌, ◌∷◌, ◌++◌, [], List, Some, ap, arith, length, length-append, refl, subst, sym, ℕ}
use Rattle.slate_types.specs.Outside.{unblamed}
use Rattle.slate_types.proofs.Reaching.{fault_earlier, reads_then}
use Rattle.slate_store.specs.Reach.{reach_of}
use Rattle.slate_steps.specs.Walks.{IsRowWalk}
use Rattle.slate_steps.proofs.Walking.{HasNext, reading_mid, told_mid, walked, walking_none, walking_on}
use Rattle.slate_steps.proofs.rows.rows_left.Goals as goal

pub loop-init : goal.loop-init
loop-init g c =
    let before = reach_of g.S.Store g.M.MergeOperator g.T.BlockTransformer c.args.env.now in
    record {
      walking = subst (IsRowWalk before before c.args.core.now c.args.core.now c.args.scan.now c.args.scan.now) (sym c.new-rows.ensures.items) (walking_none before c.args.core.now c.args.scan.now c.requires);
      counted = ap length c.new-rows.ensures.items;
      counts = refl;
    }

pub loop-preserved : goal.loop-preserved
loop-preserved g c =
    let before = reach_of g.S.Store g.M.MergeOperator g.T.BlockTransformer c.args.env.now in
    let now = reach_of g.S.Store g.M.MergeOperator g.T.BlockTransformer c.loop.env in
    let after = reach_of g.S.Store g.M.MergeOperator g.T.BlockTransformer c.next.new.env in
    let rows = c.loop.rows.items in
    let n : HasNext now after c.loop.core c.next.new.core c.loop.scan c.next.new.it c.in-Ok-Some.field-0 = record {
      names = c.next.ensures.named;
      opened = c.next.ensures.opened;
      within = λ b level ts h. c.in-Ok-Some.ensures.within b level ts h;
      reading = λ b ts os rows told h. c.in-Ok-Some.ensures.reading b ts os rows told h;
      since = λ b from h. c.in-Ok-Some.ensures.since b from h;
      reads = c.next.ensures.reads;
    } in
    let row : HasNext now after c.loop.core c.next.new.core c.loop.scan c.next.new.it (Some c.in-Ok-Some.row) = subst (HasNext now after c.loop.core c.next.new.core c.loop.scan c.next.new.it) c.in-Ok-Some.field-0-is n in
    let longer : length (rows ++ (c.in-Ok-Some.row ∷ [])) ≡ length rows + 1 = length-append rows (c.in-Ok-Some.row ∷ []) in
    let grown : length c.push.new.self.items ≡ length rows + 1 = ap length c.in-Ok.ensures.items ∙ longer in
    record {
      walking = subst (IsRowWalk before after c.args.core.now c.next.new.core c.args.scan.now c.next.new.it) (sym c.in-Ok.ensures.items)
          (walking_on before now after c.args.core.now c.loop.core c.next.new.core c.args.scan.now c.loop.scan c.next.new.it rows c.loop.invariant.walking c.in-Ok-Some.row row);
      counted = omega (arith, c.loop.invariant.counted, grown);
      counts = c.in-Ok-Some.ensures.counts ∙ c.loop.invariant.counts;
    }

pub returns-in-Err-push-clause-reads : goal.returns-in-Err-push-clause-reads
returns-in-Err-push-clause-reads g c = reads_then _ _ _ c.loop.invariant.walking.reads c.next.ensures.reads

pub returns-in-Ok-None-clause-found : goal.returns-in-Ok-None-clause-found
returns-in-Ok-None-clause-found g c =
    let before = reach_of g.S.Store g.M.MergeOperator g.T.BlockTransformer c.args.env.now in
    let now = reach_of g.S.Store g.M.MergeOperator g.T.BlockTransformer c.loop.env in
    let after = reach_of g.S.Store g.M.MergeOperator g.T.BlockTransformer c.next.new.env in
    let n : HasNext now after c.loop.core c.next.new.core c.loop.scan c.next.new.it c.in-Ok-None.field-0 = record {
      names = c.next.ensures.named;
      opened = c.next.ensures.opened;
      within = λ b level ts h. c.in-Ok-None.ensures.within b level ts h;
      reading = λ b ts os rows told h. c.in-Ok-None.ensures.reading b ts os rows told h;
      since = λ b from h. c.in-Ok-None.ensures.since b from h;
      reads = c.next.ensures.reads;
    } in
    walked before now after c.args.core.now c.loop.core c.next.new.core c.args.scan.now c.loop.scan c.next.new.it c.loop.rows.items c.loop.invariant.walking
    (subst (HasNext now after c.loop.core c.next.new.core c.loop.scan c.next.new.it) c.in-Ok-None.field-0-is n)

pub returns-in-Ok-None-clause-reads : goal.returns-in-Ok-None-clause-reads
returns-in-Ok-None-clause-reads g c = reads_then _ _ _ c.loop.invariant.walking.reads c.next.ensures.reads

pub returns-in-Err-clause-undamaged : goal.returns-in-Err-clause-undamaged
returns-in-Err-clause-undamaged g c = λ d ts os rows told h.
    let before = reach_of g.S.Store g.M.MergeOperator g.T.BlockTransformer c.args.env.now in
    let now = reach_of g.S.Store g.M.MergeOperator g.T.BlockTransformer c.loop.env in
    let after = reach_of g.S.Store g.M.MergeOperator g.T.BlockTransformer c.next.new.env in
    let w = c.loop.invariant.walking in
    let k = w.hands os d ts rows told h in
    fault_earlier before now after c.in-Err.error w.reads.later
    (c.in-Err.ensures.undamaged d (ts ++ w.steps) os k.rest (told_mid before now w.reads c.loop.scan os told) (reading_mid before now w.reads c.loop.scan os told d (ts ++ w.steps) k.rest k.left))

pub returns-in-Err-clause-cause : goal.returns-in-Err-clause-cause
returns-in-Err-clause-cause g c = λ d from policies only since.
    let w = c.loop.invariant.walking in
    c.in-Err.ensures.cause d from policies (reads_then _ _ _ only w.reads) (w.since d from since)

pub returns-in-Err-clause-reads : goal.returns-in-Err-clause-reads
returns-in-Err-clause-reads g c = reads_then _ _ _ c.loop.invariant.walking.reads c.next.ensures.reads

pub returns-in-Ok-None-clause-counts : goal.returns-in-Ok-None-clause-counts
returns-in-Ok-None-clause-counts g c = c.in-Ok-None.ensures.counts ∙ c.loop.invariant.counts

pub returns-in-Err-clause-counts : goal.returns-in-Err-clause-counts
returns-in-Err-clause-counts g c = c.in-Err.ensures.counts ∙ ap (unblamed c.in-Err.error) c.loop.invariant.counts

pub returns-in-Err-push-clause-counts : goal.returns-in-Err-push-clause-counts
returns-in-Err-push-clause-counts g c = ap (unblamed _) (c.in-Ok-Some.ensures.counts ∙ c.loop.invariant.counts)
