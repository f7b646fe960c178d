use Rattle.std.proofs.Common.{◌≡◌, refl, rules}
use Rattle.std.specs.Prelude.{nat_lt}
use Rattle.std.proofs.lemmas.Map.Entries.{filter_from_retain_pairs}
use Rattle.slate_txn.proofs.transaction_manager.drop_up_to.Goals as goal

pub returns : goal.returns
returns c =
    filter_from_retain_pairs _ (λ g. g ≡ record { 0 = c.args.start }) (λ e. nat_lt c.args.start e.1) (λ g k v b w g' i t. search rules) (record { 0 = c.args.start }) _ _ refl c.retain.ensures.filtered
