use Rattle.std.proofs.Common.{◌≡◌, ◌∙◌, ap, rules, refl}
use Rattle.std.specs.Ordering.{is_lt}
use Rattle.std.proofs.lemmas.List.Sorted.{answers_always}
use Rattle.std.proofs.lemmas.Result.{IfOk-from_err}
use Rattle.slate_types.specs.Rows.{of_key}
use Rattle.slate_mem.proofs.SortingLaws.{rises, rises_weakly, stable_keys, sorted_rises}
use Rattle.slate_types.proofs.Exits.{err_exit}
use Rattle.slate_mem.proofs.gather.gathered.Goals as goal

pub returns-clause-rows : goal.returns-clause-rows
returns-clause-rows c =
    let weak = answers_always _ (λ a r. is_lt r ≡ rises a.0.now a.1.0.now) _ (λ f a r q k. search rules) in
    record {
      order = sorted_rises _ (c.in_ok-sort_by.ensures.sorted rises rises_weakly weak);
      same = λ k. stable_keys _ _ (c.in_ok-sort_by.ensures.stable rises rises_weakly weak) k ∙ ap (of_key k) c.in_ok-rows.ensures.rows;
    }

pub returns-in_err-rows : goal.returns-in_err-rows
returns-in_err-rows c =
    record {
      rows = IfOk-from_err c.from_residual.result _ c.from_residual.ensures.0;
      cause = err_exit c.from_residual.result _ c.from_residual.ensures.1 _ c.in_err-rows.ensures.cause;
    }

pub returns-in_err-sort_by : goal.returns-in_err-sort_by
returns-in_err-sort_by c =
    record {
      rows = IfOk-from_err c.from_residual-in_err-sort_by.result _ c.from_residual-in_err-sort_by.ensures.0;
      cause = err_exit c.from_residual-in_err-sort_by.result _ c.from_residual-in_err-sort_by.ensures.1 _ refl;
    }
