use Rattle.std.proofs.Common.{refl, sym, ap}
use Rattle.slate_txn.specs.declared.event.Event.TheVariants.{End}
use Rattle.slate_txn.specs.Settings.{settings_of}
use Rattle.slate_db.specs.Model.{CoreModel}
use Rattle.slate_shared.proofs.Held.{ended_held}
use Rattle.slate_shared.proofs.LockedLaws.{open_there}
use Rattle.slate_shared.proofs.TablesNamed.{names_more}
use Rattle.slate_shared.proofs.locked.Locked.end.Goals as goal

pub rollback-requires : goal.rollback-requires
rollback-requires g c = open_there (settings_of g.P.Parts.options) g.P.Parts.meaning g.P.Parts.segments c.self.inside.core c.args.self.now.events c.args.id.now c.requires.0 c.self.invariant.0.locked c.journal.ensures.replays (sym (ap (λ h. h.events) c.self.view_is)) c.requires.1

pub invariant_of-self : goal.invariant_of-self
invariant_of-self g c =
    let e = c.rollback.ensures in
    (ended_held (settings_of g.P.Parts.options) g.P.Parts.meaning g.P.Parts.segments c.self.inside.flight c.self.inside.installed c.self.inside.core c.rollback.new.self c.args.id.now c.self.invariant.0 e.step e.event e.segmented e.kept, names_more g.P.Parts.meaning g.P.Parts.policies c.self.inside.core.events c.rollback.new.self.events (End c.args.id.now) (ap (λ (x : CoreModel). x.events) e.event) refl refl c.self.invariant.1)
