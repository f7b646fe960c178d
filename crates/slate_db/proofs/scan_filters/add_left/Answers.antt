use Rattle.std.proofs.Common.{◌≡◌, false, map, refl, rules, true}
use Rattle.std.proofs.lemmas.Result.{err_from_is_err_and}
use Rattle.slate_db.proofs.ScanFilters.{fails_memory}
use Rattle.slate_db.proofs.scan_filters.add_left.Goals as goal

pub returns-then-not-passes-clause-added : goal.returns-then-not-passes-clause-added
returns-then-not-passes-clause-added g c =
    let no : c.in_ok-passes.passes ≡ false = search rules in
    let asked = c.in_ok-passes.ensures.asks.let_in in
    record { kept = false; are = refl; let_in = (asked.0, asked.1, (asked.2.0, λ yes. cc)); denied = λ rows os stored filtered answers is. c.in_ok-passes.ensures.asks.denied rows os stored filtered answers no; checked = c.in_ok-passes.ensures.asks.checked }

pub returns-clause-added : goal.returns-clause-added
returns-clause-added g c =
    let yes : c.in_ok-passes.passes ≡ true = search rules in
    let asked = c.in_ok-passes.ensures.asks.let_in in
    record { kept = true; are = c.in_ok-push_copy.ensures; let_in = (asked.0, asked.1, (asked.2.0, λ is. asked.2.1 yes)); denied = λ rows os stored filtered answers is. cc; checked = c.in_ok-passes.ensures.asks.checked }

pub returns-in_err-push_copy-clause-refused : goal.returns-in_err-push_copy-clause-refused
returns-in_err-push_copy-clause-refused g c =
    let p = err_from_is_err_and c.from_residual-in_err-push_copy.result c.from_residual-in_err-push_copy.ensures.1 in
    let asked = c.in_ok-passes.ensures.asks.let_in in
    rw (p.1, p.2) (fails_memory (map (λ p. (goal.FilterPolicy-dyn g (p.vtable, p.value)).meaning p.value) c.args.policies.now) _ _ _ _ _ (asked.0, asked.1, asked.2.0) refl)
