use Rattle.slate_store.specs.declared.store.StoreError.TheVariants.{Failed}
use Rattle.std.proofs.Common.{◌≡◌, ◌∙◌, ℕ, List, Option, Some, Ok, Err, inl, subst, refl}
use Rattle.std.specs.Prelude.{Result, IfOk}
use Rattle.slate_types.specs.Outside.{Objects}
use Rattle.slate_store.specs.Store.{Act, AddsAct, AnswersLen, of_store}
use Rattle.slate_table.specs.Opening.{IsMeasured}
use Rattle.slate_table.proofs.Results.{mapped, on_err, mapped_err, mapped_still, store_fault}
use Rattle.std.proofs.lemmas.Result.{err_from_is_err_and, IfOk-from_err, IfErr-at_err}
use Rattle.slate_table.proofs.Asking.{untouched}
use Rattle.slate_table.proofs.opening.object_len.Goals as goal

answered : {E : Type 0} (r : Result (Option ℕ) E) (objects : Option Objects) (before after : Option (List Act)) (path : List ℕ) → ((os : Objects) → objects ≡ Some os → IfOk r (λ size. AnswersLen os path size)) →
    IfOk r (λ size. AddsAct before (Act.len path size) after) → IfOk r (λ size. IsMeasured objects before after path size)
unfolding IsMeasured
answered (Ok size) objects before after path answer act = (answer, act)
answered (Err e) objects before after path answer act = tt

pub returns : goal.returns
returns g c =
    record {
      measured = (let objects = g.S.Store.objects c.args.store.now in
          let before = g.S.Store.acts c.args.store.now in
          let after = g.S.Store.acts c.len.new.self in
          let text = c.as_str.ensures.value ∙ c.in_ok-path.ensures.path in
          mapped c.len.result c.map_err.result _ _ _ c.map_err.ensures.cases (λ size is. subst (λ (path : List ℕ). IsMeasured objects before after path size) text is)
          (answered c.len.result objects before after c.as_str.result.now c.len.ensures.answer c.len.ensures.act));
      cause = mapped_err c.len.result c.map_err.result of_store _ c.map_err.ensures.cases (λ e is. store_fault e _ _ (λ failed. c.len.ensures.cause (is ∙ failed)));
      none = mapped_err c.len.result c.map_err.result of_store _ c.map_err.ensures.cases (λ e is. IfErr-at_err _ is c.len.ensures.refused_act);
      reaches = (record {
        same_objects = c.len.ensures.objects;
        later = c.len.ensures.later;
        still = mapped_still c.len.result c.map_err.result of_store Failed c.map_err.ensures.cases c.len.ensures.still;
      });
    }

pub returns-in_err-path : goal.returns-in_err-path
returns-in_err-path g c =
    let p = err_from_is_err_and c.from_residual.result c.from_residual.ensures.1 in
    record {
      measured = IfOk-from_err c.from_residual.result _ c.from_residual.ensures.0;
      cause = rw (p.1, p.2) (inl c.in_err-path.ensures.cause);
      none = on_err _ refl;
      reaches = untouched;
    }
