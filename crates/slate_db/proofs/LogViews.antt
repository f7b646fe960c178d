-- How contracts see a log whose journal went on.
use Rattle.std.proofs.Common.{◌≡◌, ℕ, List, [], ◌∷◌, ◌++◌, sym, ap, ◌∙◌}
use Rattle.slate_txn.specs.declared.event.Event.{Event}
use Rattle.slate_txn.specs.JournalModel.{JournalModel}
use Rattle.slate_txn.specs.Replay.{replay, apply}
use Rattle.slate_txn.specs.State.{Commit, opening}
use Rattle.slate_db.specs.declared.log.Log.TheInside.{Inside}
use Rattle.slate_db.specs.LogView.{log_view}
use Rattle.slate_db.proofs.Journals.{apply_more}

-- room was made
pub journal_room : (s : Inside) (j : JournalModel) → j.events ≡ s.journal.events → record (log_view s) { spare = j.spare } ≡ log_view (record s { journal = j })
journal_room s j is = let back = sym is in λ i. record (log_view s) { commits = (replay (back i)).commits; events = back i; spare = j.spare }

-- one event more
pub journal_more : (s : Inside) (j : JournalModel) (e : Event) (cs : List Commit) → j.events ≡ s.journal.events ++ (e ∷ []) → (apply (replay s.journal.events) e).commits ≡ cs →
    record (log_view s) { commits = cs; events = s.journal.events ++ (e ∷ []); spare = j.spare } ≡ log_view (record s { journal = j })
journal_more s j e cs is now =
    let back : s.journal.events ++ (e ∷ []) ≡ j.events = sym is in
    let commits : cs ≡ (replay j.events).commits = sym now ∙ sym (ap (λ x. x.commits) (apply_more opening s.journal.events e)) ∙ ap (λ es. (replay es).commits) back in
    λ i. record (log_view s) { commits = commits i; events = back i; spare = j.spare }
