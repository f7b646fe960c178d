use Rattle.std.proofs.Common.{length, sym, ap, subst, ◌∙◌}
use Rattle.slate_txn.specs.Settings.{settings_of}
use Rattle.slate_db.specs.Model.{CoreModel}
use Rattle.slate_shared.specs.Locked.{IsHeld}
use Rattle.slate_shared.proofs.Held.{frozen_held}
use Rattle.slate_shared.proofs.LockedLaws.{frozen_grows, frozen_at}
use Rattle.slate_shared.proofs.TablesNamed.{names_frozen, names_same}
use Rattle.slate_shared.proofs.locked.Locked.freeze.Goals as goal

pub invariant_of-self : goal.invariant_of-self
invariant_of-self g c =
    let same = c.in_err-last.ensures.same in (
      subst (IsHeld (settings_of g.P.Parts.options) g.P.Parts.meaning g.P.Parts.segments c.self.inside.flight c.self.inside.installed) (sym same) c.self.invariant.0,
      names_same g.P.Parts.meaning g.P.Parts.policies c.self.inside.core.events c.freeze.new.self.events (ap (λ (x : CoreModel). x.events) same) c.self.invariant.1,
    )

pub invariant_of-self-2 : goal.invariant_of-self-2
invariant_of-self-2 g c =
    let e = c.in_ok-last.ensures in
    (frozen_held (settings_of g.P.Parts.options) g.P.Parts.meaning g.P.Parts.segments c.self.inside.flight c.self.inside.installed c.self.inside.core c.freeze.new.self c.self.invariant.0 e.event (e.kept g.P.Parts.meaning), names_frozen g.P.Parts.meaning g.P.Parts.policies c.self.inside.core c.freeze.new.self e.event c.self.invariant.1)

pub returns-clause-ok : goal.returns-clause-ok
returns-clause-ok g c =
    let e = c.in_ok-last.ensures in
    let before = c.self.inside.core in
    let after = c.freeze.new.self in
    rw (← c.self.view_is) (
      frozen_grows before after c.self.inside.flight c.len-before.result c.len-after.result e.event (c.len-before.ensures ∙ ap length c.journal.ensures.events) (c.len-after.ensures ∙ ap length c.journal-2.ensures.events),
      frozen_at (settings_of g.P.Parts.options) g.P.Parts.meaning g.P.Parts.segments before after.state c.in_ok-last.last c.self.invariant.0.locked c.journal.ensures.replays (e.step g.P.Parts.meaning g.P.Parts.segments),
    )
