use Rattle.slate_queue.specs.Commits.{IsQueueCommit}
use Rattle.slate_services.proofs.JobLaws.{are_jobs}
use Rattle.slate_services.proofs.PlainLaws.{copy_counted, two_worked, vouched_if, whole_if}
use Rattle.slate_services.proofs.jobs.claim_by_two.Goals as goal

pub returns-clause-jobs : goal.returns-clause-jobs
returns-clause-jobs g c =
    let two = c.work_beside-pass.ensures in
    let all = two_worked IsQueueCommit _ c.add-added.new.pass c.split-other.new.self
    c.split-other.result _ _ c.join.new.self _ _ _
    c.in_ok-db.ensures.ok.3 c.in_ok-db.ensures.ok.1 c.add-added.ensures
    c.split-other.ensures.same.2 c.split-other.ensures.same.3 c.split-other.ensures.same.1
    c.split-other.ensures.new.3 c.split-other.ensures.new.1 two.first two.second
    (record {
      seen = c.join.ensures.seen.1;
      other_seen = c.join.ensures.seen.2;
      own = c.join.ensures.own.0;
    })
    c.join.ensures.own.1 in
    let copy = whole_if c.join.new.self c.close-core.result.0.events c.close-core.result.1
    c.in_ok-copied.field-0 c.in_ok-copied.was c.close-core.ensures.copy in
    are_jobs c.join.new.self c.in_ok-copied.field-0.events c.close-core.result.0.events _ all copy
    (vouched_if c.close-core.result.1 c.in_ok-copied.field-0 c.in_ok-copied.was
    (c.close-core.ensures.workers all.parts all.worker))

pub returns-clause-counted : goal.returns-clause-counted
returns-clause-counted g c =
    let two = c.work_beside-pass.ensures in
    let all = two_worked IsQueueCommit _ c.add-added.new.pass c.split-other.new.self
    c.split-other.result _ _ c.join.new.self _ _ _
    c.in_ok-db.ensures.ok.3 c.in_ok-db.ensures.ok.1 c.add-added.ensures
    c.split-other.ensures.same.2 c.split-other.ensures.same.3 c.split-other.ensures.same.1
    c.split-other.ensures.new.3 c.split-other.ensures.new.1 two.first two.second
    (record {
      seen = c.join.ensures.seen.1;
      other_seen = c.join.ensures.seen.2;
      own = c.join.ensures.own.0;
    })
    c.join.ensures.own.1 in
    let copy = whole_if c.join.new.self c.close-core.result.0.events c.close-core.result.1
    c.in_ok-copied.field-0 c.in_ok-copied.was c.close-core.ensures.copy in
    copy_counted IsQueueCommit c.join.new.self c.in_ok-copied.field-0.events
    c.close-core.result.0.events _ all copy
