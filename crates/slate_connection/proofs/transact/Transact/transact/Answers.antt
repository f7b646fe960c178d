use Rattle.std.proofs.Common.{◌≡◌, ◌∙◌, suc, ℤ, w64, ap, rules, subst}
use native.Mathlib.Numerals.{unary_clauses}
use Rattle.std.proofs.lemmas.Int.{to_z-of_z}
use Rattle.std.proofs.lemmas.Result.{IfOk-weaker}
use Rattle.slate_types.proofs.Reaching.{reads_then}
use Rattle.slate_steps.proofs.OnPass.{sees_more_then, sees_only_then}
use Rattle.slate_connection.specs.Transacted.{HasTransacted}
use Rattle.slate_connection.proofs.Going.{if_err, last_of_attempt, on_err, transacted_later, transacted_more}
use Rattle.slate_connection.proofs.transact.Transact.transact.Given as given
use Rattle.slate_connection.proofs.transact.Transact.transact.Goals as goal

pub returns-then-is_settled-clause-committed : goal.returns-then-is_settled-clause-committed
returns-then-is_settled-clause-committed g c =
    let d = g.Self.Transact in
    let first = d.seen c.args.self.now in
    let old = d.seen c.loop-tried.self in
    let new = d.seen c.attempt-ended.new.db in
    let (n, index, within, after) = c.loop-tried.invariant.2 in
    IfOk-weaker c.attempt-ended.result _ _
    (λ a h. subst (λ (z : ℤ). HasTransacted (λ t. d.seen t.now.db.now) (given.F-step g) d.terms c.args.options.now.level z first new c.args.work a) (to_z-of_z w64 c.args.options.now.now (search rules))
    (transacted_later (λ t. d.seen t.now.db.now) (given.F-step g) d.terms _ _ n first old new c.args.work c.loop-tried.work a c.loop-tried.invariant.0 c.loop-tried.invariant.1 c.attempt-ended.ensures.reads after h))
    c.attempt-ended.ensures.committed

pub returns-clause-committed : goal.returns-clause-committed
returns-clause-committed g c =
    let d = g.Self.Transact in
    let first = d.seen c.args.self.now in
    let old = d.seen c.loop-tried.self in
    let new = d.seen c.attempt.new.db in
    let (n, index, within, after) = c.loop-tried.invariant.2 in
    IfOk-weaker c.attempt.result _ _
    (λ a h. subst (λ (z : ℤ). HasTransacted (λ t. d.seen t.now.db.now) (given.F-step g) d.terms c.args.options.now.level z first new c.args.work a) (to_z-of_z w64 c.args.options.now.now (search rules))
    (transacted_later (λ t. d.seen t.now.db.now) (given.F-step g) d.terms _ _ n first old new c.args.work c.loop-tried.work a c.loop-tried.invariant.0 c.loop-tried.invariant.1 c.attempt.ensures.reads after h))
    c.attempt.ensures.committed

pub loop-tried-preserved : goal.loop-tried-preserved
loop-tried-preserved g c =
    let d = g.Self.Transact in
    let ended = c.attempt-ended in
    let e = c.is_settled.ensures c.if-is_settled.false in
    let (n, index, within, after) = c.loop-tried.invariant.2 in (
      sees_only_then _ _ _ c.loop-tried.invariant.0 (on_err _ ended.result _ e.1 ended.ensures.refused),
      reads_then _ _ _ c.loop-tried.invariant.1 ended.ensures.reads,
      (suc n, simp unary_clauses (ap suc index), search rules, (d.seen c.loop-tried.self, c.loop-tried.work, after, (e.0, if_err _ ended.result _ e.1 ended.ensures.cause))),
    )

pub returns-then-is_settled-clause-tried : goal.returns-then-is_settled-clause-tried
returns-then-is_settled-clause-tried g c =
    let d = g.Self.Transact in
    let (n, index, within, after) = c.loop-tried.invariant.2 in
    (n, within, d.seen c.loop-tried.self, c.loop-tried.work, after, last_of_attempt (λ t. d.seen t.now.db.now) (given.F-step g) d.terms c.args.options.now.level (d.seen c.loop-tried.self) (d.seen c.attempt-ended.new.db) c.loop-tried.work c.attempt-ended.new.work c.attempt-ended.result c.attempt-ended.ensures.ran c.attempt-ended.ensures.cause)

pub returns-clause-tried : goal.returns-clause-tried
returns-clause-tried g c =
    let d = g.Self.Transact in
    let (n, index, within, after) = c.loop-tried.invariant.2 in
    (n, within, d.seen c.loop-tried.self, c.loop-tried.work, after, last_of_attempt (λ t. d.seen t.now.db.now) (given.F-step g) d.terms c.args.options.now.level (d.seen c.loop-tried.self) (d.seen c.attempt.new.db) c.loop-tried.work c.attempt.new.work c.attempt.result c.attempt.ensures.ran c.attempt.ensures.cause)

pub returns-then-is_settled-clause-more : goal.returns-then-is_settled-clause-more
returns-then-is_settled-clause-more g c =
    let d = g.Self.Transact in
    sees_more_then _ _ _ c.loop-tried.invariant.0.more
    (transacted_more (λ t. d.seen t.now.db.now) (given.F-step g) d.terms _ _ (d.seen c.loop-tried.self) (d.seen c.attempt-ended.new.db) c.loop-tried.work c.attempt-ended.result c.attempt-ended.ensures.committed c.attempt-ended.ensures.refused)

pub returns-clause-more : goal.returns-clause-more
returns-clause-more g c =
    let d = g.Self.Transact in
    sees_more_then _ _ _ c.loop-tried.invariant.0.more
    (transacted_more (λ t. d.seen t.now.db.now) (given.F-step g) d.terms _ _ (d.seen c.loop-tried.self) (d.seen c.attempt.new.db) c.loop-tried.work c.attempt.result c.attempt.ensures.committed c.attempt.ensures.refused)
