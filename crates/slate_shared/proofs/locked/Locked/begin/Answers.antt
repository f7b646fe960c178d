use Rattle.slate_txn.specs.Settings.{settings_of}
use Rattle.slate_shared.proofs.Held.{begun_held}
use Rattle.slate_shared.proofs.LockedLaws.{begun_grows, begun_fresh, same_held, refused_full}
use Rattle.slate_shared.proofs.TablesNamed.{names_begun}
use Rattle.slate_shared.proofs.locked.Locked.begin.Goals as goal

pub invariant_of-self : goal.invariant_of-self
invariant_of-self g c =
    let e = c.begin.ensures in
    (begun_held (settings_of g.P.Parts.options) g.P.Parts.meaning g.P.Parts.segments c.self.inside.flight c.self.inside.installed c.self.inside.core c.begin.new.self c.args.level c.begin.result c.self.invariant.0 e.step e.event e.segmented e.kept e.same, names_begun g.P.Parts.meaning g.P.Parts.policies c.self.inside.core c.begin.new.self c.args.level c.begin.result e.event e.same c.self.invariant.1)

pub returns : goal.returns
returns g c =
    let e = c.begin.ensures in
    let o = (settings_of g.P.Parts.options) in
    let m = g.P.Parts.meaning in
    let s = g.P.Parts.segments in
    rw (← c.self.view_is) (record {
      ok = begun_grows o m s c.self.inside.core c.begin.new.self c.args.level c.self.inside.flight c.begin.result c.self.invariant.0.locked c.journal.ensures.replays e.step e.event;
      fresh = begun_fresh o m s c.self.inside.core c.begin.new.self c.args.level c.begin.result c.self.invariant.0.locked c.journal.ensures.replays e.step;
      err = same_held c.self.inside.core c.begin.new.self c.self.inside.flight c.begin.result e.same;
      cause = refused_full o m s c.self.inside.core 2 c.begin.result c.self.invariant.0.locked c.journal.ensures.replays e.cause;
    })
