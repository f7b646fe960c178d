use Rattle.std.proofs.Common.{◌∙◌, ◌++◌, ◌∷◌, [], ℕ, List, ap, sym, append_assoc}
use Rattle.std.proofs.lemmas.Result.{IfOk-from_err}
use Rattle.slate_mem.proofs.batch.list_keys.Goals as goal

pub loop-key-preserved : goal.loop-key-preserved
loop-key-preserved c =
    let before = c.loop-key.keys.items in
    let left = c.next.new.self in
    ap (λ ks. ks ++ left) (c.in_ok-push.ensures.items ∙ ap (λ k. before ++ (k ∷ [])) c.in_ok-clone.ensures.cases)
    ∙ append_assoc before (c.in-Some.key.now ∷ []) left
    ∙ ap (λ (ks : List (List ℕ)). before ++ ks) (sym c.in-Some.ensures.steps)
    ∙ c.loop-key.invariant

pub returns-in_err-clone : goal.returns-in_err-clone
returns-in_err-clone c =
    record {
      keys = IfOk-from_err c.from_residual.result _ c.from_residual.ensures.0;
    }

pub returns-in_err-push : goal.returns-in_err-push
returns-in_err-push c =
    record {
      keys = IfOk-from_err c.from_residual-in_err-push.result _ c.from_residual-in_err-push.ensures.0;
    }
