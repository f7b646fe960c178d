use Rattle.std.proofs.Common.{◌≡◌, ◌-◌, ◌++◌, ◌∷◌, [], refl, sym, ap, subst, ◌∙◌, arith, w64}
use Rattle.std.specs.Prelude.{IsSome}
use Rattle.std.proofs.lemmas.Int.{to_z-of_z}
use Rattle.slate_txn.specs.declared.event.Event.TheVariants as events
use Rattle.slate_txn.specs.Named.{find_named}
use Rattle.slate_txn.specs.Replay.{replay}
use Rattle.slate_db.specs.Log.{LogModel, IsLog, MayCommit, with_commit}
use Rattle.slate_db.specs.LogView.{log_view}
use Rattle.slate_db.proofs.LogViews.{journal_more}
use Rattle.slate_db.proofs.Logs.{log_committed, some_ends}
use Rattle.slate_db.proofs.log.Log.push_commit.Goals as goal

pub push_reserved-requires : goal.push_reserved-requires
push_reserved-requires c = omega (arith, some_ends (log_view c.self.inside) c.args.id (subst (λ (l : LogModel). IsSome (find_named c.args.id (replay l.events).txns)) (sym c.self.view_is) c.requires.held) c.self.invariant, c.self.invariant.room)

becomes : (c : goal.After-push_reserved) → with_commit (log_view c.self.inside) c.args.id c.args.seq c.args.now c.args.ops c.args.tracked c.args.transcript c.push_reserved.new.self.spare ≡ log_view (record c.self.inside { last = c.unwrap_or-self-inside.result; ends = c.self.inside.ends - 1; journal = c.push_reserved.new.self })
becomes c = (let last = sym c.unwrap_or-self-inside.ensures in λ i. record (with_commit (log_view c.self.inside) c.args.id c.args.seq c.args.now c.args.ops c.args.tracked c.args.transcript c.push_reserved.new.self.spare) { last = last i })
    ∙ journal_more (record c.self.inside { last = c.unwrap_or-self-inside.result; ends = c.self.inside.ends - 1 }) c.push_reserved.new.self (events.Commit c.args.id c.args.seq c.args.now c.args.ops c.args.tracked c.args.transcript) _
    (c.push_reserved.ensures.events ∙ (λ i. c.self.inside.journal.events ++ (events.Commit c.args.id c.args.seq (to_z-of_z w64 c.args.now c.ranges.now i) c.args.ops c.args.tracked c.args.transcript ∷ []))) refl

stays : (c : goal.After-push_reserved) → IsLog (log_view (record c.self.inside { last = c.unwrap_or-self-inside.result; ends = c.self.inside.ends - 1; journal = c.push_reserved.new.self }))
stays c = subst IsLog (becomes c) (log_committed (log_view c.self.inside) c.args.id c.args.seq c.args.now c.args.ops c.args.tracked c.args.transcript c.push_reserved.new.self.spare
    (subst (λ (l : LogModel). MayCommit l c.args.id c.args.seq c.args.ops c.args.tracked c.args.transcript) (sym c.self.view_is) c.requires) c.push_reserved.ensures.spare c.self.invariant)

pub invariant_of-self : goal.invariant_of-self
invariant_of-self c = stays c

pub returns : goal.returns
returns c = record {
  value = sym (becomes c) ∙ ap (λ (l : LogModel). with_commit l c.args.id c.args.seq c.args.now c.args.ops c.args.tracked c.args.transcript c.push_reserved.new.self.spare) c.self.view_is;
  whole = stays c;
}
