-- What a journal's line shows is the commits that its events make.
use Rattle.std.proofs.Common.{◌≡◌, List, [], ◌∷◌, ◌++◌, Some, None, refl, sym, ap, ◌∙◌, append_assoc}
use Rattle.std.specs.List.{flat_map}
use Rattle.std.proofs.lemmas.List.{append-nil}
use Rattle.slate_txn.specs.declared.event.Event.{Event}
use Rattle.slate_txn.specs.declared.event.Event.TheVariants as events
use Rattle.slate_txn.specs.Replay.{apply, apply_all, replay}
use Rattle.slate_txn.specs.State.{Commit, State, opening}
use Rattle.slate_language.specs.Answers.{shown_commits}
use Rattle.slate_script.specs.Shown.{shown_in}

shown_both : (cs ds : List Commit) → shown_commits (cs ++ ds) ≡ shown_commits cs ++ shown_commits ds
shown_both [] ds = refl
shown_both (c ∷ cs) ds = ap (λ rest. record c { ops = [] } ∷ rest) (shown_both cs ds)

shown_one : (s : State) (e : Event) → shown_commits (apply s e).commits ≡ shown_commits s.commits ++ shown_in e
shown_one s (events.Begin id level start) = sym (append-nil (shown_commits s.commits))
shown_one s (events.End id) = sym (append-nil (shown_commits s.commits))
shown_one s (events.Commit id None now ops tracked ts) = shown_both s.commits []
shown_one s (events.Commit id (Some n) now ops tracked ts) = shown_both s.commits _
shown_one s (events.Write n now ops) = shown_both s.commits _
shown_one s events.Freeze = sym (append-nil (shown_commits s.commits))
shown_one s (events.Install through tables) = sym (append-nil (shown_commits s.commits))
shown_one s (events.Snapshot id n) = sym (append-nil (shown_commits s.commits))
shown_one s (events.Release id) = sym (append-nil (shown_commits s.commits))

-- what all events show
abbrev pub shown_all : List Event → List Commit
shown_all es = flat_map shown_in es

shown_after : (s : State) (es : List Event) → shown_commits (apply_all s es).commits ≡ shown_commits s.commits ++ shown_all es
shown_after s [] = sym (append-nil (shown_commits s.commits))
shown_after s (e ∷ es) =
    shown_after (apply s e) es ∙ ap (λ cs. cs ++ shown_all es) (shown_one s e) ∙ append_assoc (shown_commits s.commits) (shown_in e) (shown_all es)

pub shown_replay : (es : List Event) → shown_all es ≡ shown_commits (replay es).commits
shown_replay es = sym (shown_after opening es)
