use Rattle.std.proofs.Common.{◌≡◌, ◌+◌, ◌≤◌, sym, ap, subst, ◌∙◌, arith}
use Rattle.std.specs.Prelude.{OnOk}
use Rattle.slate_txn.specs.JournalModel.{JournalModel}
use Rattle.slate_db.specs.Log.{LogModel, IsLog}
use Rattle.slate_db.specs.LogView.{log_view}
use Rattle.slate_db.proofs.LogViews.{journal_room}
use Rattle.slate_db.proofs.Logs.{log_room}
use Rattle.slate_db.proofs.log.Log.reserve.Goals as goal
use Rattle.slate_types.proofs.Exits.{on_ok_weaker, on_err_weaker}

becomes : (c : goal.After-reserve) → record (log_view c.self.inside) { spare = c.reserve.new.self.spare } ≡ log_view (record c.self.inside { journal = c.reserve.new.self })
becomes c = journal_room c.self.inside c.reserve.new.self c.reserve.ensures.events

stays : (c : goal.After-reserve) → IsLog (log_view (record c.self.inside { journal = c.reserve.new.self }))
stays c = subst IsLog (becomes c) (log_room (log_view c.self.inside) c.reserve.new.self.spare (omega (arith, c.self.invariant.room, c.reserve.ensures.room)) c.self.invariant)

pub invariant_of-self : goal.invariant_of-self
invariant_of-self c = stays c

pub returns-clause-value : goal.returns-clause-value
returns-clause-value c = sym (becomes c) ∙ ap (λ (l : LogModel). record l { spare = c.reserve.new.self.spare }) c.self.view_is

pub returns-clause-room : goal.returns-clause-room
returns-clause-room c = subst (λ (l : LogModel). OnOk c.reserve.result (l.ends + 1 ≤ c.reserve.new.self.spare)) c.self.view_is c.reserve.ensures.ok

pub returns-clause-same : goal.returns-clause-same
returns-clause-same c = on_err_weaker c.reserve.result (λ is. ap (λ (j : JournalModel). log_view (record c.self.inside { journal = j })) is ∙ c.self.view_is) c.reserve.ensures.err

pub returns-clause-whole : goal.returns-clause-whole
returns-clause-whole c = stays c
