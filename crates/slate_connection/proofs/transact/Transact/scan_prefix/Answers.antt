use Rattle.std.proofs.lemmas.Result.{IfOk-weaker}
use Rattle.slate_connection.proofs.Going.{reads_same, reads_through, sees_through}
use Rattle.slate_connection.proofs.Scanning.{scanned_through}
use Rattle.slate_connection.proofs.transact.Transact.scan_prefix.Goals as goal

pub returns-clause-read : goal.returns-clause-read
returns-clause-read g c =
    let d = g.Self.Transact in
    let b = c.in_ok-begin.ensures.begun in
    let scan = c.scan_within-rows in
    IfOk-weaker scan.result _ _
    (λ rows is. scanned_through d.terms (d.seen c.args.self.now) (d.seen c.begin.new.self) (d.seen scan.new.self) (d.seen c.end.new.self) b.0 _ _ _ rows.items c.begin.ensures.still scan.ensures.stays c.end.ensures.still b.1 b.2 (λ u on. c.end.ensures.known u on) is)
    scan.ensures.noted

pub returns-clause-only : goal.returns-clause-only
returns-clause-only g c =
    let d = g.Self.Transact in
    sees_through d.terms (d.seen c.args.self.now) (d.seen c.begin.new.self) (d.seen c.scan_within-rows.new.self) (d.seen c.end.new.self) c.begin.ensures.only c.begin.ensures.still c.scan_within-rows.ensures.stays c.end.ensures.only

pub returns-clause-reads : goal.returns-clause-reads
returns-clause-reads g c =
    let d = g.Self.Transact in
    reads_through d.terms (d.seen c.args.self.now) (d.seen c.begin.new.self) (d.seen c.scan_within-rows.new.self) (d.seen c.end.new.self) c.begin.ensures.only c.begin.ensures.still c.scan_within-rows.ensures.stays (reads_same _ _ c.end.ensures.still)
