use Rattle.std.proofs.Common.{◌≡◌, List, [], ◌∷◌, ◌++◌, Option, Some, None, IfErr, refl, sym, subst, ◌∙◌}
use Rattle.std.specs.Prelude.{OnOk}
use Rattle.slate_types.specs.declared.error.SlateDBError.{SlateDBError}
use Rattle.slate_mem.specs.BatchModel.{plain_put}
use Rattle.slate_mem.specs.Refusals.{first_refusal, key_refusals, value_refusal, op_refusal}
use Rattle.slate_mem.proofs.batch.test_put.Goals as goal

-- after refusals that are none comes the last
last : (es : List (Option SlateDBError)) (o : Option SlateDBError) → first_refusal es ≡ None → first_refusal (es ++ (o ∷ [])) ≡ o
last [] None h = refl
last [] (Some e) h = refl
last (None ∷ es) o h = last es o h
last (Some e ∷ es) o h = cc

pub returns-in-Ok : goal.returns-in-Ok
returns-in-Ok c =
    let k = c.args.key.now in
    let v = c.args.value.now in
    let same : op_refusal k (plain_put v) ≡ value_refusal v = last (key_refusals k) (value_refusal v) c.in-Ok.ensures.fine in
    record {
      refused = λ e h. c.test_value.ensures.refused e (sym same ∙ h);
      cause = subst (λ o. IfErr c.test_value.result (λ e. o ≡ Some e)) (sym same) c.test_value.ensures.cause;
      fine = subst (λ o. OnOk c.test_value.result (o ≡ None)) (sym same) c.test_value.ensures.fine;
    }

-- and the first refusal stays the first
earlier : (es : List (Option SlateDBError)) (o : Option SlateDBError) (e : SlateDBError) → first_refusal es ≡ Some e → first_refusal (es ++ (o ∷ [])) ≡ Some e
earlier [] o e h = cc
earlier (None ∷ es) o e h = earlier es o e h
earlier (Some x ∷ es) o e h = h

pub returns-in-Err : goal.returns-in-Err
returns-in-Err c =
    let refusal = c.in-Err.refusal in
    let same = earlier (key_refusals c.args.key.now) (value_refusal c.args.value.now) refusal c.in-Err.ensures.cause in
    record {
      refused = λ e h. let is : Some refusal ≡ Some e = sym same ∙ h in cc;
      cause = same;
      fine = tt;
    }
