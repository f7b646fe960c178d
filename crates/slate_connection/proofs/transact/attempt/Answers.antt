use Rattle.std.proofs.Common.{◌≡◌, ◌∙◌, inl, inr, ℤ, w64, Ok, Result, ap, refl, sym, subst}
use Rattle.std.proofs.lemmas.Int.{to_z-of_z}
use Rattle.slate_types.proofs.Exits.{err_exit}
use Rattle.slate_steps.specs.Attempts.{HasCommittedBehind, SeesOnly}
use Rattle.slate_txn.specs.Replay.{IsLegal}
use Rattle.slate_connection.specs.Connected.{taken}
use Rattle.slate_connection.specs.Transacted.{CommitsSteps}
use Rattle.slate_connection.proofs.Going.{attempt_nothing, committed_through, if_err, if_ok, kept_open, on_err, on_err_always, on_ok, ran_to, reads_same, reads_through, sees_through}
use Rattle.slate_connection.proofs.transact.attempt.Given as given
use Rattle.slate_connection.proofs.transact.attempt.Goals as goal

pub returns-in_ok-commit-in-Ok-clause-committed : goal.returns-in_ok-commit-in-Ok-clause-committed
returns-in_ok-commit-in-Ok-clause-committed g c =
    let d = g.D.Transact in
    let p = c.run.ensures.ran in
    let b = c.in_ok-begin.ensures.begun in
    let old = d.seen c.args.db.now in
    let mid = d.seen c.begin.new.self in
    let next = d.seen c.run.new.db in
    let new = d.seen c.commit.new.self in
    let n = c.in_ok-commit-in-Ok.field-0 in
    record {
      number = 0;
      mid = old;
      before = c.args.work.now;
      earlier = (refl, refl);
      after = c.run.new.work;
      found = p.0;
      left = p.1;
      ran = ran_to (given.F-step g) c.args.work.now p.0 _ _ p.1 c.run.new.work c.in-Ok.is p.2;
      bare = ap (λ x. taken (d.seen x)) p.3 ∙ attempt_nothing d.terms old.pass.seen c.args.level mid b.0 b.1 b.2;
      committed = subst (λ x. CommitsSteps d.terms c.args.level c.args.now old new (taken (d.seen x))) (sym p.4)
          (committed_through d.terms old mid next new c.begin.ensures.only c.begin.ensures.still c.run.ensures.stays c.args.level c.args.now b.0 b.1 b.2 c.commit.ensures.reads n
          (λ u on h.
          subst (λ (z : ℤ). HasCommittedBehind d.terms.options u n z next.pass new.pass) (to_z-of_z w64 c.args.now c.ranges.now)
          (if_ok _ c.commit.result n c.in_ok-commit-in-Ok.was (c.commit.ensures.committed u old.pass.seen c.args.level on h)))
          (on_ok (IsLegal d.terms.options.start_seq new.pass.seen) c.commit.result n c.in_ok-commit-in-Ok.was c.commit.ensures.legal));
    }

pub returns-in_ok-commit-in-Ok-clause-reads : goal.returns-in_ok-commit-in-Ok-clause-reads
returns-in_ok-commit-in-Ok-clause-reads g c =
    let d = g.D.Transact in
    reads_through d.terms (d.seen c.args.db.now) (d.seen c.begin.new.self) (d.seen c.run.new.db) (d.seen c.commit.new.self) c.begin.ensures.only c.begin.ensures.still c.run.ensures.stays c.commit.ensures.reads

pub returns-in_err-commit-in-Ok-clause-refused : goal.returns-in_err-commit-in-Ok-clause-refused
returns-in_err-commit-in-Ok-clause-refused g c =
    let d = g.D.Transact in
    let next = d.seen c.run.new.db in
    let new = d.seen c.commit.new.self in
    on_err_always _
    (sees_through d.terms (d.seen c.args.db.now) (d.seen c.begin.new.self) next new c.begin.ensures.only c.begin.ensures.still c.run.ensures.stays
    (on_err (SeesOnly next.pass new.pass) c.commit.result _ c.in_err-commit-in-Ok.was c.commit.ensures.refused))

pub returns-in_err-commit-in-Ok-clause-reads : goal.returns-in_err-commit-in-Ok-clause-reads
returns-in_err-commit-in-Ok-clause-reads g c =
    let d = g.D.Transact in
    reads_through d.terms (d.seen c.args.db.now) (d.seen c.begin.new.self) (d.seen c.run.new.db) (d.seen c.commit.new.self) c.begin.ensures.only c.begin.ensures.still c.run.ensures.stays c.commit.ensures.reads

pub returns-in-Err-clause-refused : goal.returns-in-Err-clause-refused
returns-in-Err-clause-refused g c =
    let d = g.D.Transact in
    sees_through d.terms (d.seen c.args.db.now) (d.seen c.begin.new.self) (d.seen c.run.new.db) (d.seen c.end.new.self) c.begin.ensures.only c.begin.ensures.still c.run.ensures.stays c.end.ensures.only

pub returns-in-Err-clause-reads : goal.returns-in-Err-clause-reads
returns-in-Err-clause-reads g c =
    let d = g.D.Transact in
    reads_through d.terms (d.seen c.args.db.now) (d.seen c.begin.new.self) (d.seen c.run.new.db) (d.seen c.end.new.self) c.begin.ensures.only c.begin.ensures.still c.run.ensures.stays
    (reads_same _ _ c.end.ensures.still)

pub returns-in_ok-commit-in-Ok-clause-ran : goal.returns-in_ok-commit-in-Ok-clause-ran
returns-in_ok-commit-in-Ok-clause-ran g c =
    let p = c.run.ensures.ran in
    (p.0, p.1, ran_to (given.F-step g) c.args.work.now p.0 _ _ p.1 c.run.new.work c.in-Ok.is p.2)

pub returns-in-Err-clause-cause : goal.returns-in-Err-clause-cause
returns-in-Err-clause-cause g c =
    let d = g.D.Transact in
    let p = c.run.ensures.ran in
    let b = c.in_ok-begin.ensures.begun in
    let old = d.seen c.args.db.now in
    let mid = d.seen c.begin.new.self in
    let next = d.seen c.run.new.db in
    let k = kept_open d.terms old mid next (d.seen c.end.new.self) c.begin.ensures.only c.begin.ensures.still c.run.ensures.stays old.pass.seen c.args.level b.0 b.1 b.2 in
    inr (inl (
      k.0,
      record {
        found = p.0;
        left = p.1;
        ran = ran_to (given.F-step g) c.args.work.now p.0 _ _ p.1 c.run.new.work c.in-Err.is p.2;
        bare = ap (λ x. taken (d.seen x)) p.3 ∙ attempt_nothing d.terms old.pass.seen c.args.level mid b.0 b.1 b.2;
        there = ap (λ x. (d.seen x).txn) p.4 ∙ k.1;
        attempt = k.2;
      },
    ))

pub returns-in_err-commit-in-Ok-clause-cause : goal.returns-in_err-commit-in-Ok-clause-cause
returns-in_err-commit-in-Ok-clause-cause g c =
    let d = g.D.Transact in
    let p = c.run.ensures.ran in
    let b = c.in_ok-begin.ensures.begun in
    let old = d.seen c.args.db.now in
    let mid = d.seen c.begin.new.self in
    let next = d.seen c.run.new.db in
    let new = d.seen c.commit.new.self in
    let k = kept_open d.terms old mid next new c.begin.ensures.only c.begin.ensures.still c.run.ensures.stays old.pass.seen c.args.level b.0 b.1 b.2 in
    err_exit c.from_residual-in_err-commit-in-Ok.result _ c.from_residual-in_err-commit-in-Ok.ensures.1 _
    (inr (inr (
      k.0,
      c.in-Ok.answer,
      next,
      record {
        found = p.0;
        left = p.1;
        ran = ran_to (given.F-step g) c.args.work.now p.0 _ _ p.1 c.run.new.work c.in-Ok.is p.2;
        bare = ap (λ x. taken (d.seen x)) p.3 ∙ attempt_nothing d.terms old.pass.seen c.args.level mid b.0 b.1 b.2;
        there = ap (λ x. (d.seen x).txn) p.4 ∙ k.1;
        attempt = k.2;
      },
      if_err _ c.commit.result _ c.in_err-commit-in-Ok.was (c.commit.ensures.cause k.0 old.pass.seen c.args.level k.1 k.2),
    )))
