use Rattle.std.proofs.Common.{◌≡◌, ◌<◌, Some, refl, sym, ap, subst, ◌∙◌}
use Rattle.std.specs.Prelude.{OnOk, OnErr, count_by}
use Rattle.slate_txn.specs.State.{Tx, begun}
use Rattle.slate_txn.specs.Step.{is_scan}
use Rattle.slate_db.specs.Scans.{number_of}
use Rattle.slate_shared.specs.Passes.{Opened}
use Rattle.slate_shared.specs.Scans.{sought_to}
use Rattle.slate_shared.proofs.ScanReads.{err_so, ok_so, seek_leaves, seek_vouched, sought_begun}
use Rattle.slate_shared.proofs.txn.DbTransaction.seek.Goals as goal
use Rattle.slate_shared.proofs.txn.DbTransaction.seek.Given as given

abbrev was : (g : given.Over) → goal.After-seek_noted g → Opened
was g c = record { table = c.self.inside.seat.table_id; seen = c.self.inside.seat.me.0.seen; id = c.self.inside.id; tx = c.self.inside.own }

abbrev now : (g : given.Over) → goal.After-seek_noted g → Opened
now g c = record (was g c) { tx = c.seek_noted.new.own }

noted : (g : given.Over) (c : goal.After-seek_noted g) → OnOk c.seek_noted.result (now g c ≡ record (was g c) { tx = sought_to (number_of c.args.it.now) c.args.key.now c.self.inside.own })
noted g c = ok_so c.seek_noted.result (λ h. ap (λ (x : Tx). record (was g c) { tx = x }) h) c.seek_noted.ensures.noted

same : (g : given.Over) (c : goal.After-seek_noted g) → OnErr c.seek_noted.result (now g c ≡ was g c)
same g c = err_so c.seek_noted.result (λ h. ap (λ (x : Tx). record (was g c) { tx = x }) h) c.seek_noted.ensures.same

opened : (g : given.Over) (c : goal.After-seek_noted g) → number_of c.args.it.now < count_by is_scan c.self.inside.own.transcript
opened g c = subst (λ (x : Opened). number_of c.args.it.now < count_by is_scan x.tx.transcript) (sym c.self.view_is) c.requires.1

pub seek_noted-requires : goal.seek_noted-requires
seek_noted-requires g c = subst (λ (x : Opened). number_of c.args.it.now < count_by is_scan x.tx.transcript) (sym c.self.view_is) c.requires.1

pub invariant_of-self : goal.invariant_of-self
invariant_of-self g c =
    let i = c.self.invariant in
    let begins = sought_begun c.seek_noted.result (sought_to (number_of c.args.it.now) c.args.key.now) (λ t. refl) c.self.inside.own c.seek_noted.new.own c.seek_noted.ensures.noted c.seek_noted.ensures.same in
    (i.0, i.1, i.2, i.3 ∙ ap (λ (b : Tx). Some (c.self.inside.id, b)) (sym begins), i.4)

pub returns : goal.returns
returns g c =
    let o = g.P.Parts.options in
    let m = g.P.Parts.meaning in
    let it = c.args.it.now in
    let x = c.seek_noted.new.self in
    let step = c.seek_noted.ensures.step in
    rw (← c.self.view_is) (record {
      noted = noted g c;
      step = step;
      left = λ rows left. seek_leaves o m (was g c) (now g c) it x step.names.number step.names.ordered c.args.key.now c.seek_noted.result (noted g c) rows left;
      vouched = λ h. seek_vouched o m (was g c) (now g c) it x step.names.number step.names.ordered c.args.key.now c.seek_noted.result (noted g c) (same g c) (opened g c) h;
      same = same g c;
    })
