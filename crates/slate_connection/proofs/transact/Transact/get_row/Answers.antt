use Rattle.std.proofs.Common.{◌≡◌, ◌∷◌, []}
use Rattle.std.proofs.lemmas.Result.{IfOk-weaker}
use Rattle.slate_txn.specs.declared.event.TranscriptStep.TheVariants as steps
use Rattle.slate_connection.proofs.Going.{read_through, reads_same, reads_through, sees_through}
use Rattle.slate_connection.proofs.transact.Transact.get_row.Goals as goal

pub returns-clause-read : goal.returns-clause-read
returns-clause-read g c =
    let d = g.Self.Transact in
    let b = c.in_ok-begin.ensures.begun in
    let read = c.get_within-found in
    IfOk-weaker read.result _ _
    (λ a is. read_through d.terms (d.seen c.args.self.now) (d.seen c.begin.new.self) (d.seen read.new.self) (d.seen c.end.new.self) b.0 (steps.Get c.args.key.now a ∷ []) c.begin.ensures.still read.ensures.stays c.end.ensures.still b.1 b.2 (λ u on. c.end.ensures.known u on) is)
    read.ensures.noted

pub returns-clause-only : goal.returns-clause-only
returns-clause-only g c =
    let d = g.Self.Transact in
    sees_through d.terms (d.seen c.args.self.now) (d.seen c.begin.new.self) (d.seen c.get_within-found.new.self) (d.seen c.end.new.self) c.begin.ensures.only c.begin.ensures.still c.get_within-found.ensures.stays c.end.ensures.only

pub returns-clause-reads : goal.returns-clause-reads
returns-clause-reads g c =
    let d = g.Self.Transact in
    reads_through d.terms (d.seen c.args.self.now) (d.seen c.begin.new.self) (d.seen c.get_within-found.new.self) (d.seen c.end.new.self) c.begin.ensures.only c.begin.ensures.still c.get_within-found.ensures.stays (reads_same _ _ c.end.ensures.still)
