use Rattle.std.proofs.Common.{Some, sym, ap, ◌∙◌}
use Rattle.slate_txn.specs.State.{Tx}
use Rattle.slate_shared.proofs.ScanReads.{kept_begun}
use Rattle.slate_shared.proofs.txn.DbTransaction.note_scan.Goals as goal

pub invariant_of-self : goal.invariant_of-self
invariant_of-self g c =
    let i = c.self.invariant in
    let begins = kept_begun c.note_scan.result c.self.inside.own c.note_scan.new.self _ c.note_scan.ensures.noted c.note_scan.ensures.same in
    (i.0, i.1, i.2, i.3 ∙ ap (λ (b : Tx). Some (c.self.inside.id, b)) (sym begins), i.4)
