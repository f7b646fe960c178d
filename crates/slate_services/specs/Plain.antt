-- Threads on a database by the default options, without parts.
--     plain_rules      what enters its replies
--     PlainWorked kind old new made      what several calls of a worker do, which commit so often,
--             each time a commit of the kind
--     IsCount es n      a journal has so many commits, writes and installs
use Rattle.std.specs.Prelude.{◌≡◌, ℕ, List, count_by}
use Rattle.slate_types.specs.Config.{defaults}
use Rattle.slate_types.specs.Outside.{no_parts}
use Rattle.slate_txn.specs.declared.event.Event.{Event}
use Rattle.slate_txn.specs.Audited.{Kind}
use Rattle.slate_txn.specs.Settings.{settings_of}
use Rattle.slate_txn.specs.State.{Rules}
use Rattle.slate_db.specs.Meaning.{rules_of}
use Rattle.slate_shared.specs.Passes.{PassModel}
use Rattle.slate_shared.specs.Shared.{is_own}
use Rattle.slate_threads.specs.Passes.{PassIsOfKind}
use Rattle.slate_threads.specs.Workers.{HasWorked}

abbrev pub plain_rules : Rules
plain_rules = rules_of (settings_of defaults) no_parts

pub record PlainWorked (kind : Kind) (old new : PassModel) (made : ℕ) : Type 0 where
  pub worked : HasWorked defaults no_parts old new made
  pub of_kind : PassIsOfKind kind old → PassIsOfKind kind new

abbrev pub IsCount : List Event → ℕ → Type 0
IsCount es n = count_by is_own es ≡ n
