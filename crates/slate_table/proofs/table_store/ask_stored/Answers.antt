use Rattle.std.proofs.Common.{◌≡◌, ℕ, List, Option, ap, subst, map, inl, inr}
use Rattle.std.proofs.lemmas.Result.{IfOk-weaker, IfErr-weaker, err_from_is_err_and, IfOk-from_err}
use Rattle.slate_table.specs.declared.section.SectionPlace.{SectionPlace}
use Rattle.slate_table.specs.Filtered.{IsAsked, RefusesQuery}
use Rattle.slate_table.specs.Reading.{SectionRead, read_at, of_filters, unchanged}
use Rattle.slate_table.proofs.Results.{on_err}
use Rattle.slate_table.proofs.Asking.{reaches_err, reaches_ok}
use Rattle.slate_table.proofs.table_store.ask_stored.Goals as goal

pub returns : goal.returns
returns g c =
    let policies = map (λ p. (goal.FilterPolicy-dyn g (p.vtable, p.value)).meaning p.value) c.args.policies.now in
    let query = c.args.query.now in
    let answer = c.in_ok-answer.answer in
    let placed : read_at c.place_in.result answer ≡ of_filters c.args.table.now answer = ap (λ (p : SectionPlace). read_at p answer) c.place_in.ensures in
    record {
      asked = (IfOk-weaker c.ask_answer.result _ _
          (λ passes h. (answer, c.in_ok-answer.ensures.read, subst (λ (s : SectionRead). IsAsked unchanged policies query s passes) placed h)) c.ask_answer.ensures.asked);
      cause = (IfErr-weaker c.ask_answer.result _ _
          (λ e h. inr (answer, c.in_ok-answer.ensures.read, subst (λ (s : SectionRead). RefusesQuery unchanged policies query s e) placed h)) c.ask_answer.ensures.cause);
      once = on_err c.ask_answer.result (inr (answer, c.in_ok-answer.ensures.read, tt));
      reaches = reaches_ok c.in_ok-answer.ensures.reaches;
    }

pub returns-in_err-answer : goal.returns-in_err-answer
returns-in_err-answer g c =
    let p = err_from_is_err_and c.from_residual.result c.from_residual.ensures.1 in
    record {
      asked = IfOk-from_err c.from_residual.result _ c.from_residual.ensures.0;
      cause = rw (p.1, p.2) (inl c.in_err-answer.ensures.cause);
      once = rw p.1 (inl c.in_err-answer.ensures.none);
      reaches = reaches_err c.in_err-answer.ensures.reaches c.from_residual.ensures.1;
    }
