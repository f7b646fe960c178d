use Rattle.std.proofs.Common.{◌≡◌, map, refl, sym, ap, ◌∙◌, subst}
use Rattle.slate_txn.specs.Places.{last_install}
use Rattle.slate_txn.specs.Settings.{settings_of}
use Rattle.slate_txn.specs.State.{State}
use Rattle.slate_db.specs.Installs.{as_begun}
use Rattle.slate_shared.proofs.TablesNamed.{names_none}
use Rattle.slate_shared.proofs.locked.Locked.new.Goals as goal

pub invariant_of-result : goal.invariant_of-result
invariant_of-result g c =
    let e = c.new.ensures in (
      record {
        locked = record {
          settings = e.settings ∙ ap settings_of c.requires.options;
          kept = e.kept g.P.Parts.meaning;
          segmented = e.segmented g.P.Parts.segments;
          bare = subst (λ (s : State). map as_begun s.txns ≡ s.txns) (sym e.state) refl;
          unshown = ap (λ s. s.snapshots) e.state;
        };
        aloft = tt;
        newest = sym (ap last_install e.journal);
      },
      names_none g.P.Parts.meaning g.P.Parts.policies c.new.result.events e.journal,
    )
