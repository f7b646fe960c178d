use Rattle.std.proofs.Common.{◌≡◌, List, sym, subst}
use Rattle.slate_txn.specs.declared.event.Event.{Event}
use Rattle.slate_shared.specs.Passes.{PassModel}
use Rattle.slate_shared.specs.Shared.{OwnsAll, all_parts}
use Rattle.slate_shared.proofs.database.Database.close.Goals as goal

pub returns-clause-whole : goal.returns-clause-whole
returns-clause-whole g c =
    subst (λ (x : PassModel × List Event). x.0.parts ≡ all_parts → OwnsAll x.0.own x.1) (λ i. (c.pass.view_is i, sym c.into_core.ensures.events i)) c.take-locked.ensures.whole
