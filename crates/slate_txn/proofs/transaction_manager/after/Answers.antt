use Rattle.std.proofs.Common.{◌≡◌, ℕ, ◌<◌, true, cond, ltb, Some, None, sym, ap, ◌∙◌, arith}
use Rattle.std.proofs.lemmas.Bool.Decides.{nat_tests}
use Rattle.slate_txn.specs.Managers.{above}
use Rattle.slate_txn.proofs.transaction_manager.after.Goals as goal

passes : (s n : ℕ) → s < n → above s (Some n) ≡ Some n
passes s n h = let past : ltb s n ≡ true = grind (arith, nat_tests) in ap (λ t. cond t (Some n) None) past

pub returns-in-Some : goal.returns-in-Some
returns-in-Some c = sym (ap (above c.args.start) c.in-Some.is ∙ passes c.args.start c.in-Some.n c.if-start-n.true)
