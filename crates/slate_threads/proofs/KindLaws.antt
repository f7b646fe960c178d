-- How it goes on that all commits of a pass's own are of one kind.
use Rattle.std.proofs.Common.{◌≡◌, ℕ, ℤ, List, [], ◌∷◌, ◌++◌, length, Option, Some, None}
use Rattle.std.proofs.Common.{refl, sym, subst}
use mathlib.Core.List.{IsPrefix}
use Rattle.slate_types.specs.declared.config.IsolationLevel.{IsolationLevel}
use Rattle.slate_types.specs.declared.config.Options.{Options}
use Rattle.slate_mem.specs.Batch.{Ops, batch_keys, kept_ops}
use Rattle.slate_txn.specs.declared.event.Event.{Event}
use Rattle.slate_txn.specs.declared.event.Event.TheVariants as events
use Rattle.slate_txn.specs.declared.event.TranscriptStep.{TranscriptStep}
use Rattle.slate_txn.specs.Audited.{AreOfKind, IsOfKindAt, IsOfKindBy, Kind}
use Rattle.slate_txn.specs.Named.{find_named}
use Rattle.slate_txn.specs.Replay.{replay}
use Rattle.slate_txn.specs.Settings.{Settings}
use Rattle.slate_txn.specs.State.{Tx, begun}
use Rattle.slate_types.specs.Outside.{Objects}
use Rattle.slate_db.specs.Flushed.{Layout}
use Rattle.slate_db.specs.Meaning.{Meaning}
use Rattle.slate_shared.specs.Errands.{HasLanded}
use Rattle.slate_shared.specs.Passes.{PassModel}
use Rattle.slate_shared.specs.Shared.{OwnsAll}
use Rattle.slate_steps.proofs.OpenThere.{committed_open}
use Rattle.slate_threads.specs.Own.{OwnAreOfKind}
use Rattle.slate_threads.specs.Passes.{Commits, Joins, PassIsOfKind}
use Rattle.slate_threads.proofs.OwnPlaces.{all_are_of_kind, are_joined, are_longer, are_none}
use Rattle.slate_threads.proofs.OwnPlaces.{are_one_more}
use Rattle.slate_threads.proofs.PassLaws.{commit_of}

module _ (kind : Kind) where
  abbrev OfKind : List Event → Event → Type 0
  OfKind before e = IsOfKindAt kind (replay before) e

  -- places and a journal that are these
  as_these : (own own' : List ℕ) (es es' : List Event) → own' ≡ own → es' ≡ es →
      OwnAreOfKind kind own es → OwnAreOfKind kind own' es'
  as_these own own' es es' f g h =
      subst (λ (l : List Event). OwnAreOfKind kind own' l) (sym g)
      (subst (λ (l : List ℕ). OwnAreOfKind kind l es) (sym f) h)

  pub new_of_kind : (p : PassModel) → p.own ≡ [] → PassIsOfKind kind p
  new_of_kind p none = as_these [] p.own p.seen p.seen none refl (are_none OfKind p.seen)

  pub longer_of_kind : (old new : PassModel) → IsPrefix old.seen new.seen → new.own ≡ old.own →
      PassIsOfKind kind old → PassIsOfKind kind new
  longer_of_kind old new p same h =
      as_these old.own new.own new.seen new.seen same refl
      (are_longer OfKind old.own old.seen new.seen p h)

  pub join_of_kind : (old other new : PassModel) → Joins old other new → PassIsOfKind kind old →
      PassIsOfKind kind other → PassIsOfKind kind new
  join_of_kind old other new j h k =
      as_these (old.own ++ other.own) new.own new.seen new.seen j.own refl
      (are_joined OfKind old.own other.own old.seen other.seen new.seen j.seen j.other_seen h k)

  by_begin : (t : Option Tx) (level : IsolationLevel) (b : ℕ) (n : Option ℕ) (now : ℤ) (ops : Ops)
      (tracked : List (List ℕ)) (ts : List TranscriptStep) → t ≡ Some (begun level b) →
      kind level now ops tracked ts → IsOfKindBy kind t n now ops tracked ts
  by_begin t level b None now ops tracked ts is h = tt
  by_begin t level b (Some n) now ops tracked ts is h =
      subst (λ (x : Option Tx). IsOfKindBy kind x (Some n) now ops tracked ts) (sym is) h

  pub commit_of_kind : (o : Options) (old new : PassModel) (c : Commits o old new) →
      kind c.level c.now (kept_ops c.txn.tx.ops) (batch_keys c.txn.tx.ops) c.txn.tx.transcript →
      PassIsOfKind kind old → PassIsOfKind kind new
  commit_of_kind o old new c is h =
      as_these (old.own ++ (length c.committed.before ∷ [])) new.own
      (c.committed.before ++ (commit_of o old new c ∷ [])) new.seen c.committed.own
      c.committed.after
      (are_one_more OfKind old.own c.committed.before (commit_of o old new c)
      (are_longer OfKind old.own old.seen c.committed.before c.committed.seen h)
      (by_begin (find_named c.txn.id (replay c.committed.before).txns) c.level c.txn.tx.begin
      c.seq c.now (kept_ops c.txn.tx.ops) (batch_keys c.txn.tx.ops) c.txn.tx.transcript
      (committed_open o c.from c.level c.steps c.txn c.attempt c.seq c.now old new
      c.committed c.legal)
      is))

  -- an install is no commit
  pub flush_of_kind : (o : Settings) (m : Meaning) (layout : Layout) (n : ℕ)
      (before after : Option Objects) (old new : PassModel) →
      HasLanded o m layout n before after old.seen old.own new.seen new.own →
      PassIsOfKind kind old → PassIsOfKind kind new
  flush_of_kind o m layout n before after old new f h =
      as_these (old.own ++ (length f.journal ∷ [])) new.own
      (f.journal ++ (events.Install n f.tables ∷ [])) new.seen f.place f.event
      (are_one_more OfKind old.own f.journal (events.Install n f.tables)
      (are_longer OfKind old.own old.seen f.journal f.seen h) tt)

  -- if all are its own
  pub whole_of_kind : (p : PassModel) (es : List Event) → IsPrefix p.seen es → OwnsAll p.own es →
      PassIsOfKind kind p → AreOfKind kind es
  whole_of_kind p es begins whole h =
      all_are_of_kind kind p.own es whole (are_longer OfKind p.own p.seen es begins h)
