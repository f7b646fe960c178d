-- What a write leaves of what lies behind the lock.
use Rattle.std.proofs.Common.{◌≡◌, ◌⊎◌, ℕ, ℤ, List, [], ◌∷◌, ◌++◌, map, Option, Some, None, refl, sym, ap, ◌∙◌, subst, inl, inr}
use Rattle.std.specs.Prelude.{Result, Ok, Err, IfOk, IfErr, OnOk, OnErr}
use mathlib.Core.List.{IsPrefix}
use Rattle.slate_types.specs.declared.error.SlateDBError.{SlateDBError}
use Rattle.slate_mem.specs.Batch.{Ops}
use Rattle.slate_mem.specs.BatchModel.{BatchModel}
use Rattle.slate_mem.specs.KeyTests.{Segments}
use Rattle.slate_txn.specs.declared.event.Event.{Event}
use Rattle.slate_txn.specs.declared.event.Event.TheVariants as events
use Rattle.slate_txn.specs.Named.{find_named}
use Rattle.slate_txn.specs.Places.{IsQuiet, last_install}
use Rattle.slate_txn.specs.Replay.{IsLegal, replay}
use Rattle.slate_txn.specs.Settings.{Settings}
use Rattle.slate_txn.specs.State.{Commit, Tx}
use Rattle.slate_db.specs.declared.flight.Flight.{Flight}
use Rattle.slate_db.specs.Flushed.{NoPlace}
use Rattle.slate_db.specs.Flying.{IsAloft}
use Rattle.slate_db.specs.Installs.{as_begun, Replays}
use Rattle.slate_db.specs.Meaning.{Meaning}
use Rattle.slate_db.specs.Model.{CoreModel, IsSame}
use Rattle.slate_db.specs.Prepared.{IsAccepted}
use Rattle.slate_db.specs.Segmented.{IsSegmented, recorded_by}
use Rattle.slate_db.specs.Sound.{IsKept}
use Rattle.slate_db.specs.Written.{IsWritten}
use Rattle.slate_db.proofs.Aloft.{AreFrom, aloft_state, aloft_written}
use Rattle.slate_db.proofs.Keeps.{kept_same}
use Rattle.slate_db.proofs.Segmenting.{segmented_same}
use Rattle.slate_shared.specs.Ended.{behind_write, own_behind, HasWritten, IsWriting}
use Rattle.slate_shared.specs.Locked.{IsHeld, IsLocked}
use Rattle.slate_shared.specs.LockedModel.{LockedModel, holds_at, IsFull}
use Rattle.slate_shared.specs.Passes.{PassModel}
use Rattle.slate_shared.proofs.Held.{install_same}
use Rattle.slate_shared.proofs.LockedLaws.{full}

-- what is told of the core after
record Leaves (c d : CoreModel) (es : List Event) : Type 0 where
  pub settings : d.settings ≡ c.settings
  pub txns : d.state.txns ≡ c.state.txns
  pub snapshots : d.state.snapshots ≡ c.state.snapshots
  pub events : d.events ≡ es

left_written : (c d : CoreModel) (n : Option ℕ) (now : ℤ) (ops : Ops) → IsWritten c d n now ops → Leaves c d (behind_write c.events now ops (Ok n))
left_written c d None now ops h = record { settings = ap (λ (v : CoreModel). v.settings) h.1; txns = ap (λ (v : CoreModel). v.state.txns) h.1; snapshots = ap (λ (v : CoreModel). v.state.snapshots) h.1; events = ap (λ (v : CoreModel). v.events) h.1 }
left_written c d (Some n) now ops h = record { settings = ap (λ (v : CoreModel). v.settings) h; txns = ap (λ (v : CoreModel). v.state.txns) h; snapshots = ap (λ (v : CoreModel). v.state.snapshots) h; events = ap (λ (v : CoreModel). v.events) h }

left_either : (c d : CoreModel) (now : ℤ) (ops : Ops) (r : Result (Option ℕ) SlateDBError) → IfOk r (λ n. IsWritten c d n now ops) → OnErr r (IsSame c d) → Leaves c d (behind_write c.events now ops r)
left_either c d now ops (Ok n) made same = left_written c d n now ops made
left_either c d now ops (Err x) made same = record { settings = ap (λ (v : CoreModel). v.settings) same; txns = ap (λ (v : CoreModel). v.state.txns) same; snapshots = ap (λ (v : CoreModel). v.state.snapshots) same; events = ap (λ (v : CoreModel). v.events) same }

same_install : (es : List Event) (now : ℤ) (ops : Ops) (r : Result (Option ℕ) SlateDBError) → last_install (behind_write es now ops r) ≡ last_install es
same_install es now ops (Ok (Some n)) = install_same es (events.Write n now ops) refl
same_install es now ops (Ok None) = refl
same_install es now ops (Err e) = refl

module _ (o : Settings) (m : Meaning) (g : Segments) (c d : CoreModel) (now : ℤ) (ops : Ops) (r : Result (Option ℕ) SlateDBError) (made : IfOk r (λ n. IsWritten c d n now ops)) (same : OnErr r (IsSame c d)) where
  left : Leaves c d (behind_write c.events now ops r)
  left = left_either c d now ops r made same

  pub write_held : (f : Option Flight) (k : Option ℕ) → IsHeld o m g f k c → OnOk r (IsKept m c → IsKept m d) → OnOk r (IsSegmented g c → IsSegmented g d)
      → Replays c.events c.state → IsLegal d.settings.start_seq d.events → (d.active ≡ [] → IsQuiet d.events) → IsHeld o m g f k d
  write_held f k h keeps segments is legal quiet = record {
    locked = record {
      settings = left.settings ∙ h.locked.settings;
      kept = kept_by r same keeps;
      segmented = segmented_by r same segments;
      bare = subst (λ (ts : List (List ℕ × Tx)). map as_begun ts ≡ ts) (sym left.txns) h.locked.bare;
      unshown = left.snapshots ∙ h.locked.unshown;
    };
    aloft = aloft_by r made same;
    newest = h.newest ∙ sym (ap last_install left.events ∙ same_install c.events now ops r);
  }
    where
      kept_by : (s : Result (Option ℕ) SlateDBError) → OnErr s (IsSame c d) → OnOk s (IsKept m c → IsKept m d) → IsKept m d
      kept_by (Ok n) room keeps = keeps h.locked.kept
      kept_by (Err x) room keeps = kept_same m c d room h.locked.kept

      segmented_by : (s : Result (Option ℕ) SlateDBError) → OnErr s (IsSame c d) → OnOk s (IsSegmented g c → IsSegmented g d) → IsSegmented g d
      segmented_by (Ok n) room segments = segments h.locked.segmented
      segmented_by (Err x) room segments = segmented_same g c d room h.locked.segmented

      aloft_by : (s : Result (Option ℕ) SlateDBError) → IfOk s (λ n. IsWritten c d n now ops) → OnErr s (IsSame c d) → IsAloft m f d
      aloft_by (Ok n) written room = aloft_written m f c d n now ops written (record { replays = is; legal = legal; quiet = quiet }) h.aloft
      aloft_by (Err x) written room = aloft_state m f c d (room ∙ (λ i. record c { state = (sym (ap (λ (v : CoreModel). v.state) room)) i; spare = d.spare })) (ap (λ (v : CoreModel). v.state.commits) room) (λ n within from. subst (λ (v : CoreModel). AreFrom n v.state) (sym room) from) h.aloft

  pub write_grows : (f : Option Flight) → holds_at d.events f ≡ holds_at (behind_write c.events now ops r) f
  write_grows f = ap (λ (es : List Event). holds_at es f) left.events

-- ---- what a write says

more_full : {P Q : Type 0} (fault : SlateDBError → Type 0) (m : Meaning) (g : Segments) (o : Settings) (now : ℤ) (ps : List (List ℕ)) (cs : List Commit) (b : BatchModel) (r : Result (Option ℕ) SlateDBError) → (P → Q) → IsAccepted fault m.combine g o now ps cs P b r → IsAccepted fault m.combine g o now ps cs Q b r
more_full fault m g o now ps cs b (Ok n) more is = record { next = is.next; tested = is.tested; cause = tt }
more_full {P} {Q} fault m g o now ps cs b (Err e) more is = record { next = tt; tested = tt; cause = by is.cause }
  where
    by : {A B C S T U V : Type 0} → A ⊎ B ⊎ C ⊎ (S × T × U × V × P) → A ⊎ B ⊎ C ⊎ (S × T × U × V × Q)
    by (inl x) = inl x
    by (inr (inl x)) = inr (inl x)
    by (inr (inr (inl x))) = inr (inr (inl x))
    by (inr (inr (inr x))) = inr (inr (inr (x.0, x.1, x.2, x.3, more x.4)))

pub write_says : (o : Settings) (m : Meaning) (g : Segments) (c : CoreModel) (now : ℤ) (b : BatchModel) (r : Result (Option ℕ) SlateDBError) (fault : SlateDBError → Type 0) → IsLocked o m g c → Replays c.events c.state
    → IsAccepted fault m.combine g c.settings now c.segments c.state.commits (NoPlace 1 c) b r → IsWriting fault m g o now c.events b r
write_says o m g c now b r fault l is accepted =
    more_full fault m g o now (recorded_by g (replay c.events).commits) (replay c.events).commits b r (λ none. full o m g c 1 l is none)
    (subst (λ (cs : List Commit). IsAccepted fault m.combine g o now (recorded_by g (replay c.events).commits) cs (NoPlace 1 c) b r) (sym is.commits)
    (subst (λ (ps : List (List ℕ)). IsAccepted fault m.combine g o now ps c.state.commits (NoPlace 1 c) b r) (l.segmented.recorded ∙ ap (recorded_by g) (sym is.commits))
    (subst (λ (s : Settings). IsAccepted fault m.combine g s now c.segments c.state.commits (NoPlace 1 c) b r) l.settings accepted)))

-- a fault in place of want of memory
pub weaker_writing : (f h : SlateDBError → Type 0) (m : Meaning) (g : Segments) (o : Settings) (now : ℤ) (es : List Event) (b : BatchModel) (r : Result (Option ℕ) SlateDBError) → ((e : SlateDBError) → f e → h e) → IsWriting f m g o now es b r → IsWriting h m g o now es b r
weaker_writing f h m g o now es b (Ok n) more is = record { next = is.next; tested = is.tested; cause = tt }
weaker_writing f h m g o now es b (Err e) more is = record { next = tt; tested = tt; cause = by is.cause }
  where
    by : {P : Type 0} → f e ⊎ P → h e ⊎ P
    by (inl x) = inl (more e x)
    by (inr x) = inr x

pub written_weaker : (f h : SlateDBError → Type 0) (m : Meaning) (g : Segments) (o : Settings) (now : ℤ) (b : BatchModel) (p q : PassModel) (r : Result (Option ℕ) SlateDBError) → ((e : SlateDBError) → f e → h e) → HasWritten f m g o now b p q r → HasWritten h m g o now b p q r
written_weaker f h m g o now b p q r more is = record { before = is.before; seen = is.seen; after = is.after; own = is.own; is = weaker_writing f h m g o now is.before b r more is.is }

-- ---- what a pass knows after it

pub write_event : (h y : LockedModel) (z : ℤ) (ops : Ops) (r : Result (Option ℕ) SlateDBError) (n : ℕ) → h ≡ holds_at (behind_write y.events z ops r) y.flight → r ≡ Ok (Some n) → h.events ≡ y.events ++ events.Write n z ops ∷ []
write_event h y z ops r n grows is = ap (λ (x : LockedModel). x.events) grows ∙ ap (behind_write y.events z ops) is

module _ (fault : SlateDBError → Type 0) (m : Meaning) (g : Segments) (o : Settings) (now z : ℤ) (b : BatchModel) (ops : Ops) (r s : Result (Option ℕ) SlateDBError) (p q : PassModel) (es : List Event) (moments : z ≡ now) (same : ops ≡ b.ops) (is : r ≡ s) where
  pub has_written : IsPrefix p.seen es → q.seen ≡ behind_write es z ops s → q.own ≡ own_behind p.own es s → IsWriting fault m g o z es b r → HasWritten fault m g o now b p q s
  has_written seen after own says = record {
    before = es;
    seen = seen;
    after = after ∙ (λ i. behind_write es (moments i) (same i) s);
    own = own;
    is = subst (λ (x : Result (Option ℕ) SlateDBError). IsWriting fault m g o now es b x) is (subst (λ (x : ℤ). IsWriting fault m g o x es b r) moments says);
  }
