use Rattle.std.proofs.Common.{◌≡◌, ◌+◌, ◌<◌, ◌^◌, ◌-◌, ◌++◌, ◌∷◌, [], refl, sym, ap, subst, ◌∙◌, arith, w64}
use Rattle.std.proofs.lemmas.Int.{to_z-of_z}
use Rattle.slate_mem.specs.Batch.{batch_keys}
use Rattle.slate_txn.specs.declared.event.Event.TheVariants as events
use Rattle.slate_db.specs.Log.{LogModel, IsLog, HasPlace, with_write}
use Rattle.slate_db.specs.LogView.{log_view}
use Rattle.slate_db.proofs.LogViews.{journal_more}
use Rattle.slate_db.proofs.Logs.{log_written}
use Rattle.slate_db.proofs.log.Log.push_write.Goals as goal

pub push_reserved-requires : goal.push_reserved-requires
push_reserved-requires c = let place : HasPlace 1 (log_view c.self.inside) = subst (HasPlace 1) (sym c.self.view_is) c.requires.place in omega (arith, place.room)

becomes : (c : goal.After-push_reserved) → with_write (log_view c.self.inside) c.args.now c.args.ops c.push_reserved.new.self.spare ≡ log_view (record c.self.inside { last = c.self.inside.last + 1; journal = c.push_reserved.new.self })
becomes c = journal_more (record c.self.inside { last = c.self.inside.last + 1 }) c.push_reserved.new.self (events.Write (c.self.inside.last + 1) c.args.now c.args.ops) _
    (c.push_reserved.ensures.events ∙ (λ i. c.self.inside.journal.events ++ (events.Write (c.self.inside.last + 1) (to_z-of_z w64 c.args.now c.ranges.now i) c.args.ops ∷ []))) refl

stays : (c : goal.After-push_reserved) → IsLog (log_view (record c.self.inside { last = c.self.inside.last + 1; journal = c.push_reserved.new.self }))
stays c = subst IsLog (becomes c) (log_written (log_view c.self.inside) c.args.now c.args.ops c.push_reserved.new.self.spare (subst (HasPlace 1) (sym c.self.view_is) c.requires.place) c.push_reserved.ensures.spare
    (subst (λ (l : LogModel). l.last < 2 ^ 64 - 2) (sym c.self.view_is) c.requires.next) c.requires.kept c.self.invariant)

pub invariant_of-self : goal.invariant_of-self
invariant_of-self c = stays c

pub returns : goal.returns
returns c = record {
  value = sym (becomes c) ∙ ap (λ (l : LogModel). with_write l c.args.now c.args.ops c.push_reserved.new.self.spare) c.self.view_is;
  whole = stays c;
}
