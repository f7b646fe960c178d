-- The model's step of each call.
use Rattle.std.proofs.Common.{◌≡◌, ℕ, ◌+◌, true, List, Option, Some, None, refl}
use Rattle.std.specs.Prelude.{is_some, IsSome}
use Rattle.slate_types.specs.declared.config.IsolationLevel.{IsolationLevel}
use Rattle.slate_txn.specs.declared.line.Line.TheVariants as lines
use Rattle.slate_txn.specs.Named.{find_named}
use Rattle.slate_txn.specs.Reply.{Begun, Done, SnapshotAt}
use Rattle.slate_txn.specs.Step.{step}
use Rattle.slate_db.specs.Meaning.{Meaning, rules_of}
use Rattle.slate_db.specs.Model.{CoreModel}
use Rattle.slate_txn.specs.Ids.{id_of, snapshot_id}
use Rattle.slate_db.specs.Whole.{IsWhole, Unseen}
use Rattle.slate_db.proofs.Wholes.{after_begin, after_end, after_release, after_snapshot, fresh_begun, fresh_shown, no_transaction, same_snapshots, same_transactions, unbegun_shown, unshown_begun}

pub step_begin : (m : Meaning) (c : CoreModel) (u : Unseen) (level : IsolationLevel) (spare : ℕ) → IsWhole c u →
    step (rules_of c.settings m) c.state (lines.Begin (id_of (u.ids + 1)) level) ≡ ((after_begin c level u.last (id_of (u.ids + 1)) spare).state, Begun (id_of (u.ids + 1)) u.last)
step_begin m c u level spare w =
    rw (fresh_begun c u w, unshown_begun c u w) (rw (← w.log.last) refl)

open_some : {X : Type 0} (o : Option X) → IsSome o → is_some o ≡ true
open_some None h = cc
open_some (Some x) h = refl

pub step_end : (m : Meaning) (c : CoreModel) (u : Unseen) (id : List ℕ) (spare : ℕ) → IsSome (find_named id c.state.txns) → IsWhole c u →
    step (rules_of c.settings m) c.state (lines.Rollback id) ≡ ((after_end c id spare).state, Done)
step_end m c u id spare h w = rw (open_some (find_named id c.state.txns) h, same_snapshots c u id w h) refl

pub step_snapshot : (m : Meaning) (c : CoreModel) (u : Unseen) (spare : ℕ) → IsWhole c u →
    step (rules_of c.settings m) c.state (lines.Snapshot (snapshot_id (u.snapshot_ids + 1))) ≡ ((after_snapshot c u.last (snapshot_id (u.snapshot_ids + 1)) spare).state, SnapshotAt (snapshot_id (u.snapshot_ids + 1)) u.last)
step_snapshot m c u spare w =
    rw (unbegun_shown c u w, fresh_shown c u w) (rw (← w.log.last) refl)

pub step_release : (m : Meaning) (c : CoreModel) (u : Unseen) (id : List ℕ) (spare : ℕ) → IsSome (find_named id c.state.snapshots) → IsWhole c u →
    step (rules_of c.settings m) c.state (lines.Rollback id) ≡ ((after_release c id spare).state, Done)
step_release m c u id spare h w = rw (no_transaction c u id w h, open_some (find_named id c.state.snapshots) h, same_transactions c u id w h) refl
