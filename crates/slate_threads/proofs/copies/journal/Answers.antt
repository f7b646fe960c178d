use Rattle.std.proofs.Common.{◌≡◌, ℕ, List, sym, subst}
use Rattle.slate_shared.specs.Shared.{OwnsAll, all_parts}
use Rattle.slate_threads.proofs.PassLaws.{longer_stays, stands_alone, vouched_copy}
use Rattle.slate_threads.proofs.WorkerLaws.{worker_copy}
use Rattle.slate_threads.proofs.copies.journal.Goals as goal
use Rattle.slate_threads.proofs.copies.journal.Given as given

pub returns-clause-vouched : goal.returns-clause-vouched
returns-clause-vouched g c =
    longer_stays g.P.Parts.options g.P.Parts.meaning c.args.pass.now c.journal.new.self
    c.journal.ensures.seen.0 c.journal.ensures.same.2

pub returns-clause-alone : goal.returns-clause-alone
returns-clause-alone g c = λ v.
    stands_alone g.P.Parts.options g.P.Parts.meaning c.journal.new.self c.journal.ensures.seen.1
    (returns-clause-vouched g c v)

-- the places that the pass had before are all
owns : (g : given.Over) (c : goal.After-journal g) → c.args.pass.now.parts ≡ all_parts →
    OwnsAll c.args.pass.now.own c.journal.new.self.seen
owns g c all = subst (λ (l : List ℕ). OwnsAll l c.journal.new.self.seen)
    c.journal.ensures.same.2 (c.journal.ensures.whole all)

pub returns-clause-all : goal.returns-clause-all
returns-clause-all g c = λ all v.
    vouched_copy g.P.Parts.options g.P.Parts.meaning c.args.pass.now c.journal.new.self.seen
    c.journal.ensures.seen.0 (owns g c all) c.journal.ensures.seen.1 v

pub returns-clause-workers : goal.returns-clause-workers
returns-clause-workers g c = λ all w.
    worker_copy g.P.Parts.options g.P.Parts.meaning c.args.pass.now c.journal.new.self.seen
    c.journal.ensures.seen.0 (owns g c all) c.journal.ensures.seen.1 w
