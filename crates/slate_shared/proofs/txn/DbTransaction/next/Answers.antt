use Rattle.std.proofs.Common.{◌≡◌, ◌<◌, Some, refl, sym, ap, subst, ◌∙◌}
use Rattle.std.specs.Prelude.{IfOk, OnErr, count_by}
use Rattle.std.proofs.lemmas.Result.{IfOk-weaker}
use Rattle.slate_txn.specs.State.{Tx, begun}
use Rattle.slate_txn.specs.Step.{is_scan}
use Rattle.slate_db.specs.Scans.{number_of}
use Rattle.slate_shared.specs.Passes.{Opened}
use Rattle.slate_shared.specs.Scans.{noted_next}
use Rattle.slate_shared.proofs.ScanReads.{err_so, next_leaves, next_vouched, noted_begun}
use Rattle.slate_shared.proofs.txn.DbTransaction.next.Goals as goal
use Rattle.slate_shared.proofs.txn.DbTransaction.next.Given as given

abbrev was : (g : given.Over) → goal.After-next_noted g → Opened
was g c = record { table = c.self.inside.seat.table_id; seen = c.self.inside.seat.me.0.seen; id = c.self.inside.id; tx = c.self.inside.own }

abbrev now : (g : given.Over) → goal.After-next_noted g → Opened
now g c = record (was g c) { tx = c.next_noted.new.own }

noted : (g : given.Over) (c : goal.After-next_noted g) → IfOk c.next_noted.result (λ a. now g c ≡ record (was g c) { tx = noted_next (number_of c.args.it.now) a c.self.inside.own })
noted g c = IfOk-weaker c.next_noted.result _ _ (λ a h. ap (λ (x : Tx). record (was g c) { tx = x }) h) c.next_noted.ensures.noted

same : (g : given.Over) (c : goal.After-next_noted g) → OnErr c.next_noted.result (now g c ≡ was g c)
same g c = err_so c.next_noted.result (λ h. ap (λ (x : Tx). record (was g c) { tx = x }) h) c.next_noted.ensures.same

opened : (g : given.Over) (c : goal.After-next_noted g) → number_of c.args.it.now < count_by is_scan c.self.inside.own.transcript
opened g c = subst (λ (x : Opened). number_of c.args.it.now < count_by is_scan x.tx.transcript) (sym c.self.view_is) c.requires.1

pub next_noted-requires : goal.next_noted-requires
next_noted-requires g c = subst (λ (x : Opened). number_of c.args.it.now < count_by is_scan x.tx.transcript) (sym c.self.view_is) c.requires.1

pub invariant_of-self : goal.invariant_of-self
invariant_of-self g c =
    let i = c.self.invariant in
    let begins = noted_begun c.next_noted.result (noted_next (number_of c.args.it.now)) (λ a t. refl) c.self.inside.own c.next_noted.new.own c.next_noted.ensures.noted c.next_noted.ensures.same in
    (i.0, i.1, i.2, i.3 ∙ ap (λ (b : Tx). Some (c.self.inside.id, b)) (sym begins), i.4)

pub returns : goal.returns
returns g c =
    let o = g.P.Parts.options in
    let m = g.P.Parts.meaning in
    let it = c.args.it.now in
    let x = c.next_noted.new.self in
    let step = c.next_noted.ensures.step in
    rw (← c.self.view_is) (record {
      noted = noted g c;
      step = step;
      left = λ rows left. next_leaves o m (was g c) (now g c) it x step.names.number step.names.ordered c.next_noted.result (noted g c) rows left;
      vouched = λ w rows leaves sees left h. next_vouched o m (was g c) (now g c) it x step.names.number step.names.ordered c.next_noted.result (noted g c) (same g c) rows left (IfOk-weaker c.next_noted.result _ _ (λ a k. k.0) (step.rows w rows leaves sees)) h;
      same = same g c;
    })
