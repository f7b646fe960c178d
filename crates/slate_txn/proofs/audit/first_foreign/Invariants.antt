use Rattle.std.proofs.Common.{ℕ, drop}
use Rattle.slate_txn.specs.Replay.{IsLegal}
use Rattle.slate_txn.proofs.AuditLaws.{IsWalked}
use Rattle.slate_txn.proofs.audit.first_foreign.Given as goal

abbrev pub invariant-loop-event : goal.invariant-loop-event
invariant-loop-event g l = (n0 : ℕ) → IsLegal n0 l.event-items → IsWalked (g.F.CommitForm.is l.form) n0 l.event-items l.levels.entries (drop l.event-index l.event-items)
