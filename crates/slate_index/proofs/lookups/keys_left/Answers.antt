use Rattle.std.proofs.Common.{◌≡◌, ◌∙◌, ◌+◌, ◌∷◌, ◌++◌, [], inl, List, Some, ap, arith, length, length-append, refl, subst, sym, ℕ}
use Rattle.slate_types.specs.Outside.{unblamed}
use Rattle.slate_types.proofs.Reaching.{fault_earlier, reads_then}
use Rattle.slate_store.specs.Reach.{reach_of}
use Rattle.slate_index.specs.Looking.{IsWalking}
use Rattle.slate_index.proofs.Looked.{HasNext, reading_mid, told_mid, walked, walking_none, walking_on}
use Rattle.slate_index.proofs.lookups.keys_left.Goals as goal

pub loop-init : goal.loop-init
loop-init g c =
    let before = reach_of g.S.Store g.M.MergeOperator g.T.BlockTransformer c.args.env.now in
    record {
      walking = subst (IsWalking before before c.args.core.now c.args.core.now c.args.scan.now c.args.scan.now) (sym c.new-keys.ensures.items) (walking_none before c.args.core.now c.args.scan.now c.requires);
      counted = ap length c.new-keys.ensures.items;
      counts = refl;
    }

pub loop-preserved : goal.loop-preserved
loop-preserved g c =
    let before = reach_of g.S.Store g.M.MergeOperator g.T.BlockTransformer c.args.env.now in
    let now = reach_of g.S.Store g.M.MergeOperator g.T.BlockTransformer c.loop.env in
    let after = reach_of g.S.Store g.M.MergeOperator g.T.BlockTransformer c.next.new.env in
    let keys = c.loop.keys.items in
    let n : HasNext now after c.loop.core c.next.new.core c.loop.scan c.next.new.it c.in-Ok-Some.field-0 = record {
      names = c.next.ensures.named;
      opened = c.next.ensures.opened;
      within = λ b level ts h. c.in-Ok-Some.ensures.within b level ts h;
      reading = λ b ts os rows met h. c.in-Ok-Some.ensures.checked b ts os rows met h;
      since = λ b from h. c.in-Ok-Some.ensures.since b from h;
      reads = c.next.ensures.reads;
    } in
    let row : HasNext now after c.loop.core c.next.new.core c.loop.scan c.next.new.it (Some c.in-Ok-Some.row) = subst (HasNext now after c.loop.core c.next.new.core c.loop.scan c.next.new.it) c.in-Ok-Some.field-0-is n in
    let pushed : c.push.new.self.items ≡ keys ++ (c.in-Ok-Some.row.key ∷ []) = c.in-Ok.ensures.items ∙ ap (λ (k : List ℕ). keys ++ (k ∷ [])) c.key_of.ensures in
    let longer : length (keys ++ (c.in-Ok-Some.row.key ∷ [])) ≡ length keys + 1 = length-append keys (c.in-Ok-Some.row.key ∷ []) in
    let grown : length c.push.new.self.items ≡ length keys + 1 = ap length pushed ∙ longer in
    record {
      walking = subst (IsWalking before after c.args.core.now c.next.new.core c.args.scan.now c.next.new.it) (sym pushed)
          (walking_on before now after c.args.core.now c.loop.core c.next.new.core c.args.scan.now c.loop.scan c.next.new.it keys c.loop.invariant.walking c.in-Ok-Some.row row);
      counted = omega (arith, c.loop.invariant.counted, grown);
      counts = c.in-Ok-Some.ensures.counts ∙ c.loop.invariant.counts;
    }

pub returns-in-Err-push-clause-reads : goal.returns-in-Err-push-clause-reads
returns-in-Err-push-clause-reads g c = reads_then _ _ _ c.loop.invariant.walking.reads c.next.ensures.reads

pub returns-in-Err-push-clause-counts : goal.returns-in-Err-push-clause-counts
returns-in-Err-push-clause-counts g c = ap (unblamed _) (c.in-Ok-Some.ensures.counts ∙ c.loop.invariant.counts)

pub returns-in-Ok-None-clause-found : goal.returns-in-Ok-None-clause-found
returns-in-Ok-None-clause-found g c =
    let before = reach_of g.S.Store g.M.MergeOperator g.T.BlockTransformer c.args.env.now in
    let now = reach_of g.S.Store g.M.MergeOperator g.T.BlockTransformer c.loop.env in
    let after = reach_of g.S.Store g.M.MergeOperator g.T.BlockTransformer c.next.new.env in
    let n : HasNext now after c.loop.core c.next.new.core c.loop.scan c.next.new.it c.in-Ok-None.field-0 = record {
      names = c.next.ensures.named;
      opened = c.next.ensures.opened;
      within = λ b level ts h. c.in-Ok-None.ensures.within b level ts h;
      reading = λ b ts os rows met h. c.in-Ok-None.ensures.checked b ts os rows met h;
      since = λ b from h. c.in-Ok-None.ensures.since b from h;
      reads = c.next.ensures.reads;
    } in
    walked before now after c.args.core.now c.loop.core c.next.new.core c.args.scan.now c.loop.scan c.next.new.it c.loop.keys.items c.loop.invariant.walking
    (subst (HasNext now after c.loop.core c.next.new.core c.loop.scan c.next.new.it) c.in-Ok-None.field-0-is n)

pub returns-in-Ok-None-clause-reads : goal.returns-in-Ok-None-clause-reads
returns-in-Ok-None-clause-reads g c = reads_then _ _ _ c.loop.invariant.walking.reads c.next.ensures.reads

pub returns-in-Ok-None-clause-counts : goal.returns-in-Ok-None-clause-counts
returns-in-Ok-None-clause-counts g c = c.in-Ok-None.ensures.counts ∙ c.loop.invariant.counts

pub returns-in-Err-clause-undamaged : goal.returns-in-Err-clause-undamaged
returns-in-Err-clause-undamaged g c = λ d ts os rows told h.
    let before = reach_of g.S.Store g.M.MergeOperator g.T.BlockTransformer c.args.env.now in
    let now = reach_of g.S.Store g.M.MergeOperator g.T.BlockTransformer c.loop.env in
    let after = reach_of g.S.Store g.M.MergeOperator g.T.BlockTransformer c.next.new.env in
    let w = c.loop.invariant.walking in
    let k = w.hands os d ts rows (inl (inl told)) h in
    fault_earlier before now after c.in-Err.error w.reads.later
    (c.in-Err.ensures.undamaged d (ts ++ w.steps) os k.rest (told_mid before now w.reads c.loop.scan os told) (reading_mid before now w.reads c.loop.scan os told d (ts ++ w.steps) k.rest k.left))

pub returns-in-Err-clause-cause : goal.returns-in-Err-clause-cause
returns-in-Err-clause-cause g c = λ d from policies only since.
    let w = c.loop.invariant.walking in
    c.in-Err.ensures.cause d from policies (reads_then _ _ _ only w.reads) (w.since d from since)

pub returns-in-Err-clause-reads : goal.returns-in-Err-clause-reads
returns-in-Err-clause-reads g c = reads_then _ _ _ c.loop.invariant.walking.reads c.next.ensures.reads

pub returns-in-Err-clause-counts : goal.returns-in-Err-clause-counts
returns-in-Err-clause-counts g c = c.in-Err.ensures.counts ∙ ap (unblamed c.in-Err.error) c.loop.invariant.counts
