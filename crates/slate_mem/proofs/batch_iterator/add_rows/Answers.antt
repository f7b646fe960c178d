use Rattle.std.proofs.Common.{◌∙◌, ◌++◌, ◌∷◌, [], ap, sym, reverse, map, append_assoc, refl}
use Rattle.std.proofs.lemmas.List.{append-nil, nil_from_length, reverse-append}
use Rattle.std.proofs.lemmas.Result.{IfOk-from_err}
use Rattle.slate_mem.specs.BatchRows.{stamped}
use Rattle.slate_types.proofs.Exits.{err_exit}
use Rattle.slate_mem.proofs.batch_iterator.add_rows.Goals as goal

pub loop-op-preserved : goal.loop-op-preserved
loop-op-preserved c =
    let row = stamped c.args.stamps.now c.args.key.now in
    let before = c.loop-op.rows.items in
    let left = c.next.new.self.iter.rest.now in
    let op = c.in-Some.op.now in
    ap (λ rs. rs ++ map row (reverse left)) (c.in_ok-push.ensures.items ∙ ap (λ r. before ++ (r ∷ [])) c.in_ok-row.ensures.row)
    ∙ append_assoc before (row op ∷ []) (map row (reverse left))
    ∙ ap (λ os. before ++ map row os) (sym (ap reverse c.in-Some.ensures.steps ∙ reverse-append left (op ∷ [])))
    ∙ c.loop-op.invariant

pub returns-in_err-row : goal.returns-in_err-row
returns-in_err-row c =
    record {
      rows = IfOk-from_err c.from_residual.result _ c.from_residual.ensures.0;
      cause = err_exit c.from_residual.result _ c.from_residual.ensures.1 _ c.in_err-row.ensures.cause;
    }

pub returns-in_err-push : goal.returns-in_err-push
returns-in_err-push c =
    record {
      rows = IfOk-from_err c.from_residual-in_err-push.result _ c.from_residual-in_err-push.ensures.0;
      cause = err_exit c.from_residual-in_err-push.result _ c.from_residual-in_err-push.ensures.1 _ refl;
    }

pub returns : goal.returns
returns c =
    let row = stamped c.args.stamps.now c.args.key.now in
    let rows = c.loop-op.rows.items in
    let none = nil_from_length _ c.in-None.ensures.steps.0 in
    record {
      rows = sym (append-nil rows) ∙ ap (λ os. rows ++ map row (reverse os)) (sym none) ∙ c.loop-op.invariant;
      cause = tt;
    }
