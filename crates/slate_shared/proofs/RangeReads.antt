-- The core that reads of the keys in a range were taken of, with what the transaction did.
use Rattle.std.proofs.Common.{◌≡◌, ℕ, List, Some, refl, sym, ap, ◌∙◌}
use Rattle.slate_types.specs.declared.bytes_range.BytesRange.{BytesRange}
use Rattle.slate_types.specs.declared.config.Options.{Options}
use Rattle.slate_mem.specs.KeyTests.{Segments}
use Rattle.slate_txn.specs.declared.event.Event.{Event}
use Rattle.slate_txn.specs.Alone.{own_of}
use Rattle.slate_txn.specs.Named.{find_named}
use Rattle.slate_txn.specs.Replay.{replay}
use Rattle.slate_txn.specs.Settings.{settings_of}
use Rattle.slate_txn.specs.State.{Tx, begun}
use Rattle.slate_db.specs.Meaning.{Meaning}
use Rattle.slate_db.specs.Model.{CoreModel}
use Rattle.slate_db.specs.RangeShares.{IsRangeShare, RangeShareModel}
use Rattle.slate_db.proofs.Handed.{begins_above, found_handed, handed, operable_handed, replays_handed, sound_handed, whole_handed}
use Rattle.slate_shared.specs.KeyReads.{IsCoreOf, IsTaken}
use Rattle.slate_shared.specs.Passes.{Opened}
use Rattle.slate_shared.specs.Shared.{IsOpen}

range_handed : (c : CoreModel) (id : List ℕ) (t : Tx) (range : BytesRange) (n : ℕ) (s : RangeShareModel) → t.ops ≡ own_of t.transcript → IsRangeShare c range n s → IsRangeShare (handed c id t) range n s
range_handed c id t range n s own st = record { unseen = st.unseen; whole = whole_handed c id t st.unseen own st.whole; tables = st.tables; frozen_are = st.frozen_are; active_has = st.active_has }

-- the core that was taken, with what the transaction did
pub range_core : (o : Options) (m : Meaning) (g : Segments) (t : Opened) (seen : List Event) (c : CoreModel) (range : BytesRange) (s : RangeShareModel) → t.tx.ops ≡ own_of t.tx.transcript → IsTaken (settings_of o) m g seen c → IsOpen seen (t.id, begun t.tx.level t.tx.begin) → IsRangeShare c range t.tx.begin s →
    (d : CoreModel) × IsCoreOf o m t seen d × IsRangeShare d range t.tx.begin s
range_core o m g t seen c range s own taken there st =
    let open_there : find_named t.id c.state.txns ≡ Some (begun t.tx.level t.tx.begin) =
    ap (find_named t.id) (sym (taken.replays.txns ∙ taken.locked.bare)) ∙ ap (λ (es : List Event). find_named t.id (replay es).txns) taken.events ∙ there in (
      handed c t.id t.tx,
      record {
        settings = taken.locked.settings;
        events = taken.events;
        legal = taken.legal;
        replays = replays_handed c t.id t.tx taken.replays;
        flushed = refl;
        open_there = found_handed c t.id t.tx open_there;
        above_floor = begins_above (handed c t.id t.tx) st.unseen t.id t.tx (whole_handed c t.id t.tx st.unseen own st.whole) (found_handed c t.id t.tx open_there);
        tied = taken.locked.kept.0;
        sound = sound_handed c t.id t.tx m taken.locked.kept.1;
        operable = λ none. operable_handed c t.id t.tx m none taken.locked.kept.2;
      },
      range_handed c t.id t.tx range t.tx.begin s own st,
    )
