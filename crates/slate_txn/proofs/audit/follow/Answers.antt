use Rattle.std.proofs.Common.{sym, subst}
use Rattle.slate_txn.specs.declared.event.Event.TheVariants as events
use Rattle.slate_txn.specs.Replay.{apply}
use Rattle.slate_txn.specs.Audited.{KnowsLevels, OpensNew}
use Rattle.slate_txn.proofs.NamedLaws.{without_is}
use Rattle.slate_txn.proofs.AuditLaws.{knows_begun, knows_ended, knows_committed}
use Rattle.slate_txn.proofs.audit.follow.Goals as goal

pub returns-in_ok-insert-in-Begin : goal.returns-in_ok-insert-in-Begin
returns-in_ok-insert-in-Begin c = λ s once new knows.
    subst (λ e. KnowsLevels (apply s e) c.insert.new.self.entries) (sym c.in-Begin.is)
    (subst (KnowsLevels (apply s (events.Begin c.in-Begin.id c.in-Begin.level c.in-Begin.start))) (sym c.in_ok-insert-in-Begin.ensures.entries)
    (knows_begun s c.args.levels.now.entries c.in-Begin.id c.in-Begin.level c.in-Begin.start (subst (OpensNew s) c.in-Begin.is new) knows))

pub returns-in-End : goal.returns-in-End
returns-in-End c = λ s once new knows.
    subst (λ e. KnowsLevels (apply s e) c.remove.new.self.entries) (sym c.in-End.is)
    (rw c.remove.ensures.entries (rw (without_is c.in-End.id c.args.levels.now.entries) (knows_ended s c.args.levels.now.entries c.in-End.id once knows)))

pub returns-in-Commit : goal.returns-in-Commit
returns-in-Commit c = λ s once new knows.
    subst (λ e. KnowsLevels (apply s e) c.remove-in-Commit.new.self.entries) (sym c.in-Commit.is)
    (rw c.remove-in-Commit.ensures.entries (rw (without_is c.in-Commit.id c.args.levels.now.entries)
    (knows_committed s c.args.levels.now.entries c.in-Commit.id c.in-Commit.seq c.in-Commit.now c.in-Commit.ops c.in-Commit.tracked c.in-Commit.transcript once knows)))
