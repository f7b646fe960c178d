use Rattle.std.proofs.Common.{refl, inl}
use Rattle.slate_txn.specs.State.{opening}
use Rattle.slate_txn.proofs.EventLaws.{agrees_step, agrees_after}
use Rattle.slate_txn.proofs.LegalLaws.{events_are_legal}
use Rattle.slate_txn.proofs.EventVouched.{events_are_vouched}
use Rattle.slate_txn.proofs.laws.events.Goals as goal

pub returns-clause-events_replay : goal.returns-clause-events_replay
returns-clause-events_replay c r tables = ((λ s l h. agrees_step r tables s h l), (λ ls. agrees_after r tables ls opening (tt, tt, λ k. inl refl)))

pub returns-clause-events_are_legal : goal.returns-clause-events_are_legal
returns-clause-events_are_legal c = events_are_legal

pub returns-clause-events_are_vouched : goal.returns-clause-events_are_vouched
returns-clause-events_are_vouched c = events_are_vouched
