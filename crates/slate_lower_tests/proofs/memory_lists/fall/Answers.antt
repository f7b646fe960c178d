use Rattle.std.proofs.Common.{◌≡◌, rules}
use Rattle.std.specs.Ordering.{is_lt}
use Rattle.std.proofs.lemmas.List.Sorted.{answers_always}
use Rattle.slate_mem.proofs.OrderLaws.{falls, falls_weakly, stable_keys, sorted_falls}
use Rattle.slate_lower_tests.proofs.memory_lists.fall.Goals as goal

pub returns-clause-keys : goal.returns-clause-keys
returns-clause-keys c =
    let stable = c.in_ok-sort_by.ensures.stable falls falls_weakly (answers_always _ (λ a r. is_lt r ≡ falls a.0.now a.1.0.now) _ (λ f a r q k. search rules)) in
    stable_keys _ _ stable

pub returns-clause-in_order : goal.returns-clause-in_order
returns-clause-in_order c =
    sorted_falls _ (c.in_ok-sort_by.ensures.sorted falls falls_weakly (answers_always _ (λ a r. is_lt r ≡ falls a.0.now a.1.0.now) _ (λ f a r q k. search rules)))
