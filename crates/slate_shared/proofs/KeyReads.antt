-- The core that a read of a key was taken of, with what the transaction did.
use Rattle.std.proofs.Common.{◌≡◌, ℕ, List, Some, refl, sym, ap, ◌∙◌}
use Rattle.slate_types.specs.declared.config.Options.{Options}
use Rattle.slate_mem.specs.KeyTests.{Segments}
use Rattle.slate_txn.specs.declared.event.Event.{Event}
use Rattle.slate_txn.specs.Alone.{own_of}
use Rattle.slate_txn.specs.Named.{find_named}
use Rattle.slate_txn.specs.Replay.{replay}
use Rattle.slate_txn.specs.Settings.{settings_of}
use Rattle.slate_txn.specs.State.{begun}
use Rattle.slate_db.specs.KeyShares.{IsKeyShare, KeyShareModel}
use Rattle.slate_db.specs.Meaning.{Meaning}
use Rattle.slate_db.specs.Model.{CoreModel}
use Rattle.slate_db.proofs.Handed.{begins_above, found_handed, handed, operable_handed, replays_handed, sound_handed, stands_handed, whole_handed}
use Rattle.slate_shared.specs.KeyReads.{IsCoreOf, IsTaken}
use Rattle.slate_shared.specs.Passes.{Opened}
use Rattle.slate_shared.specs.Shared.{IsOpen}

-- the core that was taken, with what the transaction did
pub core_of : (o : Options) (m : Meaning) (g : Segments) (t : Opened) (seen : List Event) (c : CoreModel) (k : List ℕ) (s : KeyShareModel) → t.tx.ops ≡ own_of t.tx.transcript → IsTaken (settings_of o) m g seen c → IsOpen seen (t.id, begun t.tx.level t.tx.begin) → IsKeyShare c k t.tx.begin s →
    (d : CoreModel) × IsCoreOf o m t seen d × IsKeyShare d k t.tx.begin s
core_of o m g t seen c k s own taken there stands =
    let open_there : find_named t.id c.state.txns ≡ Some (begun t.tx.level t.tx.begin) =
    ap (find_named t.id) (sym (taken.replays.txns ∙ taken.locked.bare)) ∙ ap (λ (es : List Event). find_named t.id (replay es).txns) taken.events ∙ there in (
      handed c t.id t.tx,
      record {
        settings = taken.locked.settings;
        events = taken.events;
        legal = taken.legal;
        replays = replays_handed c t.id t.tx taken.replays;
        flushed = refl;
        open_there = found_handed c t.id t.tx open_there;
        above_floor = begins_above (handed c t.id t.tx) stands.unseen t.id t.tx (whole_handed c t.id t.tx stands.unseen own stands.whole) (found_handed c t.id t.tx open_there);
        tied = taken.locked.kept.0;
        sound = sound_handed c t.id t.tx m taken.locked.kept.1;
        operable = λ none. operable_handed c t.id t.tx m none taken.locked.kept.2;
      },
      stands_handed c t.id t.tx k t.tx.begin s.rows s.runs own stands,
    )
