-- Where the commits of a journal stand.
--     last_install es      through which sequence its last install went, where there is one
--     above_install es      its commits above that; all of them where nothing was installed
--     IsAboveInstall es e      the event is a commit or a write above the last install
--     after_freeze es      the events after its last freeze; all of them where there is none
--     IsQuiet es      no commit and no write with a sequence stands after the last freeze
use Rattle.std.specs.Prelude.{ℕ, Bool, true, false, nat_lt, if◌then◌else◌, List, [], ◌∷◌, filter, Option, Some, None, IsFalse, IsTrue}
use Rattle.std.specs.List.{list_any}
use Rattle.slate_txn.specs.declared.event.Event.{Event}
use Rattle.slate_txn.specs.declared.event.Event.TheVariants as events
use Rattle.slate_txn.specs.State.{Commit}
use Rattle.slate_txn.specs.Replay.{replay}

abbrev pub install_of : Event → Option ℕ
install_of (events.Install through tables) = Some through
install_of _ = None

-- the newer where there is one, and else the older
abbrev pub newer_or : Option ℕ → Option ℕ → Option ℕ
newer_or None older = older
newer_or (Some n) older = Some n

abbrev pub last_install : List Event → Option ℕ
last_install [] = None
last_install (e ∷ es) = newer_or (last_install es) (install_of e)

abbrev pub is_above : Option ℕ → ℕ → Bool
is_above None n = true
is_above (Some through) n = nat_lt through n

abbrev pub above_install : List Event → List Commit
above_install es = filter (λ c. is_above (last_install es) c.seq) (replay es).commits

-- the sequence of a commit or a write
abbrev pub seq_of : Event → Option ℕ
seq_of (events.Commit id n now ops tracked ts) = n
seq_of (events.Write n now ops) = Some n
seq_of _ = None

abbrev pub has_seq : Option ℕ → (ℕ → Bool) → Bool
has_seq None test = false
has_seq (Some n) test = test n

abbrev pub IsAboveInstall : List Event → Event → Type 0
IsAboveInstall es e = IsTrue (has_seq (seq_of e) (is_above (last_install es)))

abbrev pub is_freeze : Event → Bool
is_freeze events.Freeze = true
is_freeze _ = false

abbrev pub after_freeze : List Event → List Event
after_freeze [] = []
after_freeze (e ∷ es) = if list_any is_freeze es then after_freeze es else (if is_freeze e then es else e ∷ es)

abbrev pub is_numbered : Event → Bool
is_numbered e = has_seq (seq_of e) (λ n. true)

abbrev pub IsQuiet : List Event → Type 0
IsQuiet es = IsFalse (list_any is_numbered (after_freeze es))
