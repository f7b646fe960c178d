use Rattle.std.proofs.Common.{[], ◌∷◌}
use Rattle.slate_shared_tests.proofs.Scanning.{view_same, view_within}
use Rattle.slate_shared_tests.proofs.views.view.Goals as goal

pub returns : goal.returns
returns g c = record {
  same = view_same _ _ _ c.args.txn.now c.view.new.self c.view.result c.view.ensures;
  within = view_within _ _ c.unbounded-range.result c.args.txn.now c.view.new.self (97 ∷ []) c.view.result c.ok-view.result c.ok-view.ensures.value c.unbounded-range.ensures c.view.ensures;
}
