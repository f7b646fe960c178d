use Rattle.std.proofs.Common.{w64, refl, ◌∙◌}
use Rattle.std.proofs.lemmas.Int.{to_z-of_z}
use Rattle.slate_connection.proofs.Behind.{written_in}
use Rattle.slate_connection.proofs.Slot.{reach_is}
use Rattle.slate_connection.proofs.connection.Connection.write.Goals as goal

pub returns-clause-written : goal.returns-clause-written
returns-clause-written g c =
    let e = c.write.ensures in
    let meant = c.self.invariant.2 in
    rw (← c.self.view_is)
    (written_in _ _ _ c.args.batch _ _ _ _ _ _ c.args.now _ c.write.result
    (reach_is g.S.Store _ _ c.self.inside.env (λ o. refl) (λ o. refl) meant) (reach_is g.S.Store _ _ c.write.new.env (λ o. refl) (λ o. refl) (e.reads.meaning ∙ meant)) (to_z-of_z w64 c.args.now c.ranges.now) e.written)
