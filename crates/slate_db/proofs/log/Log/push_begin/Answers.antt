use Rattle.std.proofs.Common.{◌≡◌, ◌+◌, ◌++◌, ◌∷◌, [], ◌≤◌, refl, sym, ap, subst, ◌∙◌, arith}
use Rattle.std.proofs.lemmas.Result.{IfOk-from_err, err_from_is_err_and}
use Rattle.slate_txn.specs.JournalModel.{JournalModel}
use Rattle.slate_txn.specs.declared.event.Event.TheVariants as events
use Rattle.slate_txn.specs.Ids.{id_of}
use Rattle.slate_db.specs.declared.log.Log.TheInside.{Inside}
use Rattle.slate_db.specs.Log.{LogModel, IsLog, LIMIT, held_by, with_begin}
use Rattle.slate_db.specs.LogView.{log_view}
use Rattle.slate_db.proofs.LogViews.{journal_more}
use Rattle.slate_db.proofs.Logs.{log_begun}
use Rattle.slate_db.proofs.log.Log.push_begin.Goals as goal

id_is : (c : goal.After-push_reserved) → c.args.id ≡ id_of (c.self.inside.ids + 1)
id_is c = c.requires.next ∙ ap (λ (l : LogModel). id_of (l.ids + 1)) (sym c.self.view_is)

becomes : (c : goal.After-push_reserved) → with_begin (log_view c.self.inside) c.args.level c.push_reserved.new.self.spare ≡ log_view (record c.self.inside { ids = c.self.inside.ids + 1; ends = c.self.inside.ends + 1; journal = c.push_reserved.new.self })
becomes c = journal_more (record c.self.inside { ids = c.self.inside.ids + 1; ends = c.self.inside.ends + 1 }) c.push_reserved.new.self (events.Begin (id_of (c.self.inside.ids + 1)) c.args.level c.self.inside.last) _
    (c.push_reserved.ensures.events ∙ (let id = id_is c in λ i. c.reserve.ensures.events i ++ (events.Begin (id i) c.args.level c.self.inside.last ∷ []))) refl

stays : (c : goal.After-push_reserved) → IsLog (log_view (record c.self.inside { ids = c.self.inside.ids + 1; ends = c.self.inside.ends + 1; journal = c.push_reserved.new.self }))
stays c =
    let place = subst (λ (l : LogModel). held_by l + 2 ≤ LIMIT) (sym c.self.view_is) c.requires.place in
    subst IsLog (becomes c) (log_begun (log_view c.self.inside) c.args.level c.push_reserved.new.self.spare (omega (arith, c.in_ok-reserve.ensures.ok, c.push_reserved.ensures.spare)) place c.self.invariant)

pub invariant_of-self-2 : goal.invariant_of-self-2
invariant_of-self-2 c = stays c

pub returns : goal.returns
returns c = record {
  value = sym (becomes c) ∙ ap (λ (l : LogModel). with_begin l c.args.level c.push_reserved.new.self.spare) c.self.view_is;
  same = tt;
  whole = stays c;
}

-- where memory is wanting
same : (s : Inside) (j : JournalModel) → j ≡ s.journal → log_view (record s { journal = j }) ≡ log_view s
same s j is = ap (λ (x : JournalModel). log_view (record s { journal = x })) is

pub invariant_of-self : goal.invariant_of-self
invariant_of-self c = subst IsLog (sym (same c.self.inside c.reserve.new.self c.in_err-reserve.ensures.err)) c.self.invariant

pub returns-in_err-reserve : goal.returns-in_err-reserve
returns-in_err-reserve c =
    let p = err_from_is_err_and c.from_residual.result c.from_residual.ensures.1 in
    record {
      value = IfOk-from_err c.from_residual.result _ c.from_residual.ensures.0;
      same = rw p.1 (same c.self.inside c.reserve.new.self c.in_err-reserve.ensures.err ∙ c.self.view_is);
      whole = subst IsLog (sym (same c.self.inside c.reserve.new.self c.in_err-reserve.ensures.err)) c.self.invariant;
    }
