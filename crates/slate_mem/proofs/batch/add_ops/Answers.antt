use Rattle.std.proofs.Common.{◌≡◌, ◌+◌, ◌<◌, ◌++◌, ◌∷◌, [], ◌∙◌, ℕ, List, length, take, get_or, ap, sym, append_assoc, arith}
use Rattle.std.proofs.lemmas.List.{take_more, take_all, map-append}
use Rattle.slate_mem.specs.declared.WriteOp.{WriteOp}
use Rattle.slate_mem.specs.Kept.{tagged}
use Rattle.std.proofs.lemmas.Result.{IfOk-from_err}
use Rattle.slate_mem.proofs.batch.add_ops.Goals as goal

pub returns-in_err-key : goal.returns-in_err-key
returns-in_err-key c =
    record {
      ops = IfOk-from_err c.from_residual.result _ c.from_residual.ensures.0;
    }

pub returns-in-Err : goal.returns-in-Err
returns-in-Err c =
    record {
      ops = tt;
    }

pub returns-in_err-push-in-Ok : goal.returns-in_err-push-in-Ok
returns-in_err-push-in-Ok c =
    record {
      ops = IfOk-from_err c.from_residual-in_err-push-in-Ok.result _ c.from_residual-in_err-push-in-Ok.ensures.0;
    }

one_more : (k : List ℕ) (ops : List WriteOp) (i : ℕ) (op d : WriteOp) → i < length ops → get_or ops i d ≡ op → tagged k (take (i + 1) ops) ≡ tagged k (take i ops) ++ ((k, op) ∷ [])
one_more k ops i op d low is = ap (tagged k) (take_more ops i d low) ∙ map-append _ (take i ops) (get_or ops i d ∷ []) ∙ ap (λ (o : WriteOp). tagged k (take i ops) ++ ((k, o) ∷ [])) is

pub bounds-ops-op-index : goal.bounds-ops-op-index
bounds-ops-op-index c = omega arith

pub offset_bounds-ops-op-index : goal.offset_bounds-ops-op-index
offset_bounds-ops-op-index c = omega arith

pub loop-op-smaller : goal.loop-op-smaller
loop-op-smaller c = omega arith

pub loop-op-preserved : goal.loop-op-preserved
loop-op-preserved c =
    let before = c.loop-op.all.items in
    let k = c.args.key.now in
    let op = c.op-item.result in
    c.in_ok-push-in-Ok.ensures.items
    ∙ ap (λ l. before ++ ((l, c.in-Ok.op) ∷ [])) c.in_ok-key.ensures.cases
    ∙ ap (λ o. before ++ ((k, o) ∷ [])) c.in-Ok.ensures.cases
    ∙ ap (λ l. l ++ ((k, op) ∷ [])) c.loop-op.invariant
    ∙ append_assoc c.args.all.now.items (tagged k (take c.loop-op.op-index c.args.ops.now)) ((k, op) ∷ [])
    ∙ ap (λ l. c.args.all.now.items ++ l) (sym (one_more k c.args.ops.now c.loop-op.op-index op op c.loop-op-test.true (sym c.op-item.is)))

pub returns : goal.returns
returns c = record { ops = c.loop-op.invariant ∙ (λ i. c.args.all.now.items ++ tagged c.args.key.now (take_all c.loop-op.op-index c.args.ops.now c.loop-op-test.false i)) }
