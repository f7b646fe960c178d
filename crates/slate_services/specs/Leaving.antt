-- What passes leave that were joined of all parts.
--     LeftByThree a b c es      the journal is legal, begins with what each had seen, and has just
--             their commits, writes and installs
--     AreServed es paid a x b y c z      what payers leave beside a flusher, who made so many
--             orders; a, x, b, y: what each payer's store told before and after; c, z: the flusher's
use Rattle.std.specs.Prelude.{ℕ, List, ◌++◌}
use mathlib.Core.List.{IsPrefix}
use Rattle.slate_types.specs.Config.{defaults}
use Rattle.slate_types.specs.Outside.{Reach}
use Rattle.slate_txn.specs.declared.event.Event.{Event}
use Rattle.slate_txn.specs.Replay.{IsLegal}
use Rattle.slate_shared.specs.Passes.{PassModel}
use Rattle.slate_shared.specs.Shared.{IsOwner, OwnsAll}
use Rattle.slate_stock.specs.Journals.{IsOrders}
use Rattle.slate_services.specs.Payments.{AreBooks}
use Rattle.slate_services.specs.Plain.{plain_rules}
use Rattle.slate_services.specs.Stores.{HoldsTablesOf, IsCountBeside, ReadsTablesOf}

pub record LeftByThree (a b c : PassModel) (es : List Event) : Type 0 where
  pub legal : IsLegal defaults.start_seq es
  pub first : IsPrefix a.seen es
  pub second : IsPrefix b.seen es
  pub third : IsPrefix c.seen es
  pub own : IsOwner ((a.own ++ b.own) ++ c.own) es
  pub whole : OwnsAll ((a.own ++ b.own) ++ c.own) es

pub record AreServed (es : List Event) (paid : ℕ) (a x b y c z : Reach) : Type 0 where
  pub orders : IsOrders es
  pub counted : IsCountBeside es paid
  pub books : ReadsTablesOf es a x → ReadsTablesOf es b y → AreBooks plain_rules es
  pub stored : HoldsTablesOf es c z
