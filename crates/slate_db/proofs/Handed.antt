-- A core in which an open transaction did more than the core knows: reads speak of it, since the transaction owns what it did. Its last
-- flush is that of the journal.
use Rattle.std.proofs.Common.{◌≡◌, ◌⊎◌, ℕ, ◌≤◌, List, map, Some, None, false, option_map, refl, sym, ap, subst, ◌∙◌}
use Rattle.slate_mem.specs.BatchModel.{holds_merge}
use Rattle.slate_read.specs.declared.sorted_run.SortedRun.{SortedRun}
use Rattle.slate_txn.specs.Alone.{own_of}
use Rattle.slate_txn.specs.Named.{find_named}
use Rattle.slate_txn.specs.State.{Tx, begun}
use Rattle.slate_txn.proofs.NamedLaws.{find_updated, update_all, update_map}
use Rattle.slate_db.specs.Installs.{Replays, as_begun, installed}
use Rattle.slate_db.specs.KeyShares.{Stands}
use Rattle.slate_db.specs.Meaning.{IsLawfulMeaning, Meaning}
use Rattle.slate_db.specs.Model.{CoreModel, Rows}
use Rattle.slate_db.specs.Operated.{operated}
use Rattle.slate_db.specs.Sound.{IsOperable, IsSound, IsTied}
use Rattle.slate_db.specs.Whole.{IsWhole, Unseen}
use Rattle.slate_db.proofs.Seen.{found_all}
use Rattle.slate_db.proofs.Wholes.{whole_changed}

-- the last flush is that of the journal
abbrev pub as_installed : CoreModel → CoreModel
as_installed c = record c { state = record c.state { flushed = installed c.events } }

pub whole_installed : (c : CoreModel) (u : Unseen) → IsWhole c u → IsWhole (as_installed c) u
whole_installed c u w = record {
  log = record {
    legal = w.log.legal;
    replays = w.log.replays;
    last = w.log.last;
    last_fits = w.log.last_fits;
    rising = w.log.rising;
    fine = w.log.fine;
    used = w.log.used;
    counted = w.log.counted;
    snapshots_counted = w.log.snapshots_counted;
    installed_within = w.log.installed_within;
    flushed_within = w.log.installed_within;
    flushed_through = refl;
    numbered = w.log.numbered;
    installs = w.log.installs;
    installs_within = w.log.installs_within;
    ends = w.log.ends;
    room = w.log.room;
    bound = w.log.bound;
  };
  layers = w.layers;
  tied = record {
    txns = w.tied.txns;
    snapshots = w.tied.snapshots;
    shown = w.tied.shown;
    named = w.tied.named;
    floor_within = w.tied.floor_within;
    begins = w.tied.begins;
    shows = w.tied.shows;
    own = w.tied.own;
    all_installed = w.tied.all_installed;
    runs = w.tied.runs;
    quiet = w.tied.quiet;
    manager = w.tied.manager;
    rows_within = w.tied.rows_within;
  };
}

-- with all that the transaction did
abbrev pub done_by : Tx → Tx → Tx
done_by t x = record t { level = x.level; begin = x.begin }

abbrev pub handed : CoreModel → List ℕ → Tx → CoreModel
handed c id t = operated (as_installed c) id (done_by t)

module _ (c : CoreModel) (id : List ℕ) (t : Tx) where
  pub whole_handed : (u : Unseen) → t.ops ≡ own_of t.transcript → IsWhole c u → IsWhole (handed c id t) u
  whole_handed u own w = whole_changed (as_installed c) u id (done_by t) (λ x. refl) (λ x h. own) (whole_installed c u w)

  pub found_handed : find_named id c.state.txns ≡ Some (begun t.level t.begin) → find_named id (handed c id t).state.txns ≡ Some t
  found_handed there = find_updated id (done_by t) c.state.txns ∙ ap (option_map (done_by t)) there

  pub tied_handed : (m : Meaning) → IsTied m c → IsTied m (handed c id t)
  tied_handed m tied = tied

  pub sound_handed : (m : Meaning) → (IsLawfulMeaning m → IsSound m c) → IsLawfulMeaning m → IsSound m (handed c id t)
  sound_handed m sound law =
      let s = sound law in record { layers = s.layers; tables = s.tables; short = s.short; bases = s.bases; within = s.within; rise = s.rise; folds = s.folds }

  pub operable_handed : (m : Meaning) → (m.combine ≡ None → holds_merge t.ops ≡ false) → IsOperable m c → IsOperable m (handed c id t)
  operable_handed m none operable lacks =
      let h = operable lacks in record { own = update_all (λ (p : List ℕ × Tx). holds_merge p.1.ops ≡ false) id (done_by t) c.state.txns (λ p h. none lacks) h.own; commits = h.commits }

  pub replays_handed : Replays c.events c.state → Replays (handed c id t).events (handed c id t).state
  replays_handed is = record { commits = is.commits; txns = is.txns ∙ sym (update_map as_begun id (done_by t) c.state.txns (λ p. refl)); snapshots = is.snapshots }

  pub stands_handed : (k : List ℕ) (n : ℕ) (rows : Rows) (runs : List SortedRun) → t.ops ≡ own_of t.transcript → Stands c k n rows runs → Stands (handed c id t) k n rows runs
  stands_handed k n rows runs own s = record { unseen = s.unseen; whole = whole_handed s.unseen own s.whole; tables = s.tables; rows = s.rows }

-- what is open began above the floor
pub begins_above : (c : CoreModel) (u : Unseen) (id : List ℕ) (t : Tx) → IsWhole c u → find_named id c.state.txns ≡ Some t → c.floor ≤ t.begin
begins_above c u id t w there = (found_all (λ (x : Tx). (c.floor ≤ x.begin) × (x.begin ≤ u.last)) id c.state.txns t w.tied.begins there).0
