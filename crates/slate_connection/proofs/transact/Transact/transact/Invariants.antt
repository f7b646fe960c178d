use Rattle.std.proofs.Common.{◌≡◌, ◌<◌, ℕ, suc, max}
use Rattle.slate_types.specs.Outside.{OnlyReads}
use Rattle.slate_steps.specs.Attempts.{SeesOnly}
use Rattle.slate_connection.specs.Transacted.{AfterConflicts}
use Rattle.slate_connection.proofs.transact.Transact.transact.Given as goal

abbrev pub invariant-loop-tried : goal.invariant-loop-tried
invariant-loop-tried g l =
    let d = g.Self.Transact in
    SeesOnly (d.seen l.fn.self).pass (d.seen l.self).pass
    × OnlyReads (d.seen l.fn.self).reach (d.seen l.self).reach
    × ((n : ℕ) × (suc n ≡ l._tried) × (n < max 1 l.options.attempts) × AfterConflicts (λ t. d.seen t.now.db.now) (goal.F-step g) d.terms l.options.level n (d.seen l.fn.self) l.fn.work (d.seen l.self) l.work)
