use Rattle.std.proofs.Common.{◌≡◌, ℕ, ◌+◌, subst}
use Rattle.slate_index.specs.Journals.{change_kind}
use Rattle.slate_services.specs.Plain.{IsCount}
use Rattle.slate_services.proofs.RecordLaws.{are_indexed}
use Rattle.slate_services.proofs.PlainLaws.{copy_counted, nothing_plain, two_worked, vouched_if}
use Rattle.slate_services.proofs.PlainLaws.{whole_if, zero_first}
use Rattle.slate_services.proofs.records.put_by_two.Goals as goal

pub returns-clause-indexed : goal.returns-clause-indexed
returns-clause-indexed g c =
    let two = c.put_beside-pass.ensures in
    let all = two_worked (change_kind (g.F.Fields.model c.args.fields.now)) _ c.in_ok-db.pass c.split-other.new.self
    c.split-other.result _ _ c.join.new.self _ _ _
    c.in_ok-db.ensures.ok.3 c.in_ok-db.ensures.ok.1 (nothing_plain (change_kind (g.F.Fields.model c.args.fields.now)) c.in_ok-db.pass)
    c.split-other.ensures.same.2 c.split-other.ensures.same.3 c.split-other.ensures.same.1
    c.split-other.ensures.new.3 c.split-other.ensures.new.1 two.first two.second
    (record {
      seen = c.join.ensures.seen.1;
      other_seen = c.join.ensures.seen.2;
      own = c.join.ensures.own.0;
    })
    c.join.ensures.own.1 in
    let copy = whole_if c.join.new.self c.close-core.result.0.events c.close-core.result.1
    c.in_ok-copied.field-0 c.in_ok-copied.was c.close-core.ensures.copy in
    are_indexed (g.F.Fields.model c.args.fields.now) c.join.new.self c.in_ok-copied.field-0.events
    c.close-core.result.0.events _ all copy
    (vouched_if c.close-core.result.1 c.in_ok-copied.field-0 c.in_ok-copied.was
    (c.close-core.ensures.workers all.parts all.worker))

pub returns-clause-counted : goal.returns-clause-counted
returns-clause-counted g c =
    let two = c.put_beside-pass.ensures in
    let all = two_worked (change_kind (g.F.Fields.model c.args.fields.now)) _ c.in_ok-db.pass c.split-other.new.self
    c.split-other.result _ _ c.join.new.self _ _ _
    c.in_ok-db.ensures.ok.3 c.in_ok-db.ensures.ok.1 (nothing_plain (change_kind (g.F.Fields.model c.args.fields.now)) c.in_ok-db.pass)
    c.split-other.ensures.same.2 c.split-other.ensures.same.3 c.split-other.ensures.same.1
    c.split-other.ensures.new.3 c.split-other.ensures.new.1 two.first two.second
    (record {
      seen = c.join.ensures.seen.1;
      other_seen = c.join.ensures.seen.2;
      own = c.join.ensures.own.0;
    })
    c.join.ensures.own.1 in
    let copy = whole_if c.join.new.self c.close-core.result.0.events c.close-core.result.1
    c.in_ok-copied.field-0 c.in_ok-copied.was c.close-core.ensures.copy in
    zero_first c.in_ok-copied.field-0.events _ _
    (copy_counted (change_kind (g.F.Fields.model c.args.fields.now)) c.join.new.self c.in_ok-copied.field-0.events
    c.close-core.result.0.events _ all copy)
