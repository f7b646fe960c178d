use Rattle.std.proofs.Common.{◌≡◌, ◌+◌, ◌-◌, ◌++◌, ◌∷◌, [], refl, sym, ap, subst, ◌∙◌, arith}
use Rattle.std.specs.Prelude.{IsSome}
use Rattle.slate_txn.specs.declared.event.Event.TheVariants as events
use Rattle.slate_txn.specs.Named.{find_named}
use Rattle.slate_txn.specs.Replay.{replay}
use Rattle.slate_txn.proofs.NamedLaws.{length_without}
use Rattle.slate_db.specs.Log.{LogModel, IsLog, with_end}
use Rattle.slate_db.specs.LogView.{log_view}
use Rattle.slate_db.proofs.LogViews.{journal_more}
use Rattle.slate_db.proofs.Logs.{log_ended, some_ends}
use Rattle.slate_db.proofs.log.Log.push_end.Goals as goal

pub push_reserved-requires : goal.push_reserved-requires
push_reserved-requires c = omega (arith, some_ends (log_view c.self.inside) c.args.id (subst (λ (l : LogModel). IsSome (find_named c.args.id (replay l.events).txns)) (sym c.self.view_is) c.requires) c.self.invariant, c.self.invariant.room)

is_open : (c : goal.After-push_reserved) → IsSome (find_named c.args.id (replay c.self.inside.journal.events).txns)
is_open c = subst (λ (l : LogModel). IsSome (find_named c.args.id (replay l.events).txns)) (sym c.self.view_is) c.requires

becomes : (c : goal.After-push_reserved) → with_end (log_view c.self.inside) c.args.id c.push_reserved.new.self.spare ≡ log_view (record c.self.inside { ends = c.self.inside.ends - 1; journal = c.push_reserved.new.self })
becomes c = journal_more (record c.self.inside { ends = c.self.inside.ends - 1 }) c.push_reserved.new.self (events.End c.args.id) _ c.push_reserved.ensures.events refl

stays : (c : goal.After-push_reserved) → IsLog (log_view (record c.self.inside { ends = c.self.inside.ends - 1; journal = c.push_reserved.new.self }))
stays c = subst IsLog (becomes c) (log_ended (log_view c.self.inside) c.args.id c.push_reserved.new.self.spare (is_open c) c.push_reserved.ensures.spare c.self.invariant)

pub invariant_of-self : goal.invariant_of-self
invariant_of-self c = stays c

pub returns : goal.returns
returns c = record {
  value = sym (becomes c) ∙ ap (λ (l : LogModel). with_end l c.args.id c.push_reserved.new.self.spare) c.self.view_is;
  whole = stays c;
}
