use Rattle.std.proofs.Common.{◌≡◌, ◌≤◌, [], arith, sym, subst, ap, ◌∙◌}
use Rattle.std.specs.List.{AllByRecursion}
use Rattle.slate_txn.specs.Alone.{own_of}
use Rattle.slate_txn.specs.Places.{IsQuiet}
use Rattle.slate_txn.specs.Reads.{up_to}
use Rattle.slate_txn.specs.State.{last_of}
use Rattle.slate_txn.specs.Replay.{IsLegal}
use Rattle.slate_db.specs.Installs.{Replays, installed}
use Rattle.slate_db.specs.Log.{ends_of}
use Rattle.slate_db.specs.Model.{CoreModel}
use Rattle.slate_db.specs.View.{view_of, unseen_of}
use Rattle.slate_db.specs.Sound.{IsKept, FoldsToState}
use Rattle.slate_db.specs.StoredState.{StoresState}
use Rattle.slate_db.proofs.Seen.{folds_to_state, stores_state}
use Rattle.slate_db.proofs.Wholes.{ends_are, replays_of}
use Rattle.slate_db.proofs.engine.Core.journal.Goals as goal
use Rattle.slate_types.proofs.Lists.{AllByRecursion_weaken}

pub returns : goal.returns
returns c = record {
  events = c.journal.ensures.0 ∙ ap (λ (v : CoreModel). v.events) c.self.view_is;
  legal = subst (λ (v : CoreModel). IsLegal v.settings.start_seq v.events) c.self.view_is c.self.invariant.log.legal;
  replays = subst (λ (v : CoreModel). Replays v.events v.state) c.self.view_is (replays_of (view_of c.self.inside) (unseen_of c.self.inside) c.self.invariant);
  room = let room : ends_of (view_of c.self.inside).state ≤ (view_of c.self.inside).spare = omega (arith, ends_are (view_of c.self.inside) (unseen_of c.self.inside) c.self.invariant, c.self.invariant.log.room) in
      subst (λ (v : CoreModel). ends_of v.state ≤ v.spare) c.self.view_is room;
  flushed = subst (λ (v : CoreModel). up_to v.state.flushed v.state.commits ≡ up_to (installed v.events) v.state.commits) c.self.view_is c.self.invariant.log.flushed_through;
  floor = let last : c.self.inside.layers.floor ≤ last_of c.self.inside.log.start c.self.inside.log.commits = subst (λ n. c.self.inside.layers.floor ≤ n) c.self.invariant.log.last c.self.invariant.tied.floor_within in
      subst (λ (v : CoreModel). v.floor ≤ last_of v.settings.start_seq v.state.commits) c.self.view_is last;
  begins = subst (λ (v : CoreModel). AllByRecursion (λ p. v.floor ≤ p.1.begin) v.state.txns) c.self.view_is (AllByRecursion_weaken _ _ (λ p h. h.0) c.self.inside.transactions c.self.invariant.tied.begins);
  shows = subst (λ (v : CoreModel). AllByRecursion (λ p. v.floor ≤ p.1) v.state.snapshots) c.self.view_is (AllByRecursion_weaken _ _ (λ p h. h.0) c.self.inside.snapshots.active c.self.invariant.tied.shows);
  own = subst (λ (v : CoreModel). AllByRecursion (λ p. p.1.ops ≡ own_of p.1.transcript) v.state.txns) c.self.view_is c.self.invariant.tied.own;
  quiet = subst (λ (v : CoreModel). v.active ≡ [] → IsQuiet v.events) c.self.view_is c.self.invariant.tied.quiet;
  folds = λ m law kept. subst (λ (v : CoreModel). FoldsToState m v) c.self.view_is
      (folds_to_state m (view_of c.self.inside) (unseen_of c.self.inside) c.self.invariant law (subst (λ (v : CoreModel). IsKept m v) (sym c.self.view_is) kept));
  stored = λ m law kept. subst (λ (v : CoreModel). StoresState m v) c.self.view_is
      (stores_state m (view_of c.self.inside) (unseen_of c.self.inside) c.self.invariant law (subst (λ (v : CoreModel). IsKept m v) (sym c.self.view_is) kept));
}
