use Rattle.std.proofs.Common.{◌≡◌, ◌+◌, ◌≤◌, refl, sym, ap, subst, ◌∙◌, arith}
use Rattle.slate_txn.specs.declared.event.Event.TheVariants as events
use Rattle.slate_db.specs.Installs.{ArePlaced, installed}
use Rattle.slate_db.specs.Log.{LogModel, IsLog, HasPlace, with_install_through}
use Rattle.slate_db.specs.LogView.{log_view}
use Rattle.slate_db.proofs.Flights.{log_installed_through}
use Rattle.slate_db.proofs.LogViews.{journal_more}
use Rattle.slate_db.proofs.log.Log.push_install_through.Goals as goal

pub push_reserved-requires : goal.push_reserved-requires
push_reserved-requires c = let place : HasPlace 1 (log_view c.self.inside) = subst (HasPlace 1) (sym c.self.view_is) c.requires.place in omega (arith, place.room)

becomes : (c : goal.After-push_reserved) → with_install_through (log_view c.self.inside) c.args.through c.args.tables c.push_reserved.new.self.spare ≡ log_view (record c.self.inside { installs = c.self.inside.installs + 1; flushed = c.args.through; journal = c.push_reserved.new.self })
becomes c = journal_more (record c.self.inside { installs = c.self.inside.installs + 1; flushed = c.args.through }) c.push_reserved.new.self (events.Install c.args.through c.args.tables) _ c.push_reserved.ensures.events refl

stays : (c : goal.After-push_reserved) → IsLog (log_view (record c.self.inside { installs = c.self.inside.installs + 1; flushed = c.args.through; journal = c.push_reserved.new.self }))
stays c = subst IsLog (becomes c) (log_installed_through (log_view c.self.inside) c.args.through c.args.tables c.push_reserved.new.self.spare (subst (HasPlace 1) (sym c.self.view_is) c.requires.place) c.push_reserved.ensures.spare
    (subst (λ (l : LogModel). ArePlaced (l.installs + 1) 0 c.args.tables) (sym c.self.view_is) c.requires.tables)
    (subst (λ (l : LogModel). installed l.events ≤ c.args.through) (sym c.self.view_is) c.requires.behind)
    (subst (λ (l : LogModel). c.args.through ≤ l.last) (sym c.self.view_is) c.requires.within) c.self.invariant)

pub invariant_of-self : goal.invariant_of-self
invariant_of-self c = stays c

pub returns : goal.returns
returns c = record {
  value = sym (becomes c) ∙ ap (λ (l : LogModel). with_install_through l c.args.through c.args.tables c.push_reserved.new.self.spare) c.self.view_is;
  whole = stays c;
}
