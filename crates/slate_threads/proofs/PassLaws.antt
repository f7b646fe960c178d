-- How each call of a pass keeps that what stands at its own places is vouched.
use Rattle.std.proofs.Common.{◌≡◌, ℕ, List, [], ◌∷◌, ◌++◌, length}
use Rattle.std.proofs.Common.{Option, Some, None, Result, Ok, Err}
use Rattle.std.proofs.Common.{refl, sym, subst}
use mathlib.Core.List.{IsPrefix}
use Rattle.slate_types.specs.declared.config.Options.{Options}
use Rattle.slate_types.specs.declared.error.SlateDBError.{SlateDBError}
use Rattle.slate_mem.specs.Batch.{batch_keys, kept_ops}
use Rattle.slate_txn.specs.declared.event.Event.{Event}
use Rattle.slate_txn.specs.declared.event.Event.TheVariants as events
use Rattle.slate_txn.specs.Replay.{IsLegal, replay}
use Rattle.slate_txn.specs.Settings.{settings_of}
use Rattle.slate_txn.specs.State.{Rules, Tx}
use Rattle.slate_txn.specs.Vouched.{VouchedAt, VouchedBy}
use Rattle.slate_txn.proofs.PlaceLaws.{each_at_its_place}
use Rattle.slate_db.specs.Meaning.{Meaning, rules_of}
use Rattle.slate_shared.specs.Ended.{behind_write, own_behind}
use Rattle.slate_shared.specs.Passes.{PassModel}
use Rattle.slate_shared.specs.Shared.{OwnsAll}
use Rattle.slate_shared.proofs.Lists.{prefix_self}
use Rattle.slate_steps.specs.Attempts.{IsVouchedThere}
use Rattle.slate_steps.proofs.Attempts.{attempt_alone_before}
use Rattle.slate_steps.proofs.OpenThere.{committed_open}
use Rattle.slate_threads.specs.Own.{OwnAreVouched}
use Rattle.slate_threads.specs.Passes.{Commits, IsVouchedCopy, PassIsVouched}
use Rattle.slate_threads.specs.Laws.{CommitStaysVouched, FlushStaysVouched, JoinStaysVouched}
use Rattle.slate_threads.specs.Laws.{LongerStaysVouched, NewIsVouched, PassStandsAlone}
use Rattle.slate_threads.specs.Laws.{WholeIsVouched, WholeStandsAlone, WriteStaysVouched}
use Rattle.slate_threads.proofs.OwnPlaces.{all_are_vouched, install_more, joined, longer, nothing}
use Rattle.slate_threads.proofs.OwnPlaces.{one_more, own_stand_alone, write_more}

abbrev rules_by : Options → Meaning → Rules
rules_by o m = rules_of (settings_of o) m

-- places and a journal that are these
as_these : (r : Rules) (own own' : List ℕ) (es es' : List Event) → own' ≡ own → es' ≡ es →
    OwnAreVouched r own es → OwnAreVouched r own' es'
as_these r own own' es es' f g h =
    subst (λ (l : List Event). OwnAreVouched r own' l) (sym g)
    (subst (λ (l : List ℕ). OwnAreVouched r l es) (sym f) h)

pub new_is_vouched : NewIsVouched
new_is_vouched o m p none =
    as_these (rules_by o m) [] p.own p.seen p.seen none refl (nothing (rules_by o m) p.seen)

pub longer_stays : LongerStaysVouched
longer_stays o m old new p same h =
    as_these (rules_by o m) old.own new.own new.seen new.seen same refl
    (longer (rules_by o m) old.own old.seen new.seen p h)

pub join_stays : JoinStaysVouched
join_stays o m old other new j h k =
    as_these (rules_by o m) (old.own ++ other.own) new.own new.seen new.seen j.own refl
    (joined (rules_by o m) old.own other.own old.seen other.seen new.seen j.seen j.other_seen h k)

-- ---- a commit

module _ (o : Options) (old new : PassModel) (c : Commits o old new) where
  abbrev pub commit_of : Event
  commit_of =
      events.Commit c.txn.id c.seq c.now (kept_ops c.txn.tx.ops) (batch_keys c.txn.tx.ops)
      c.txn.tx.transcript

  -- the journal after it vouches for its answers, and so does that just before it
  pub vouched_before : (m : Meaning) → IsVouchedThere o m (record c.txn { seen = new.seen }) →
      VouchedAt (rules_by o m) (replay c.committed.before) commit_of
  vouched_before m v =
      subst
      (λ (x : Option Tx).
      VouchedBy (rules_by o m) (replay c.committed.before) x c.txn.tx.transcript)
      (sym (committed_open o c.from c.level c.steps c.txn c.attempt c.seq c.now old new c.committed
      c.legal))
      (attempt_alone_before o c.from c.level c.steps c.txn c.attempt c.committed.before new.seen
      c.committed.known behind c.legal (rules_by o m) c.txn.tx.transcript
      (v.by_each new.seen (prefix_self new.seen) c.legal))
    where
      behind : IsPrefix c.committed.before new.seen
      behind = (commit_of ∷ [], sym c.committed.after)

at_commit : (o : Options) (m : Meaning) (old new : PassModel) (c : Commits o old new) →
    OwnAreVouched (rules_by o m) (old.own ++ (length c.committed.before ∷ []))
    (c.committed.before ++ (commit_of o old new c ∷ [])) →
    PassIsVouched o m new
at_commit o m old new c h =
    as_these (rules_by o m) (old.own ++ (length c.committed.before ∷ [])) new.own
    (c.committed.before ++ (commit_of o old new c ∷ [])) new.seen c.committed.own c.committed.after h

pub commit_stays : CommitStaysVouched
commit_stays o m old new v h =
    at_commit o m old new v.commit
    (one_more (rules_by o m) old.own v.commit.committed.before (commit_of o old new v.commit)
    (longer (rules_by o m) old.own old.seen v.commit.committed.before v.commit.committed.seen h)
    (vouched_before o old new v.commit m v.answers))

-- ---- a write and an install

pub write_stays : WriteStaysVouched
write_stays o m old new r w h =
    as_these (rules_by o m) (own_behind old.own w.before r) new.own
    (behind_write w.before w.now w.ops r) new.seen w.own w.after (by r)
  where
    there : OwnAreVouched (rules_by o m) old.own w.before
    there = longer (rules_by o m) old.own old.seen w.before w.seen h

    by : (q : Result (Option ℕ) SlateDBError) →
        OwnAreVouched (rules_by o m) (own_behind old.own w.before q)
        (behind_write w.before w.now w.ops q)
    by (Ok (Some n)) = write_more (rules_by o m) old.own w.before n w.now w.ops there
    by (Ok None) = there
    by (Err e) = there

pub flush_stays : FlushStaysVouched
flush_stays o m layout n before after old new f h =
    as_these (rules_by o m) (old.own ++ (length f.journal ∷ [])) new.own
    (f.journal ++ (events.Install n f.tables ∷ [])) new.seen f.place f.event
    (install_more (rules_by o m) old.own f.journal n f.tables
    (longer (rules_by o m) old.own old.seen f.journal f.seen h))

-- ---- the whole journal

pub stands_alone : PassStandsAlone
stands_alone o m p legal h = own_stand_alone (rules_by o m) p.own p.seen legal h

pub whole_is_vouched : WholeIsVouched
whole_is_vouched o m p es begins whole h =
    all_are_vouched (rules_by o m) p.own es whole (longer (rules_by o m) p.own p.seen es begins h)

pub whole_stands_alone : WholeStandsAlone
whole_stands_alone o m p es begins whole legal h =
    each_at_its_place (rules_by o m) es legal (whole_is_vouched o m p es begins whole h)

-- of a copy
pub vouched_copy : (o : Options) (m : Meaning) (p : PassModel) (es : List Event) →
    IsPrefix p.seen es → OwnsAll p.own es → IsLegal o.start_seq es → PassIsVouched o m p →
    IsVouchedCopy o m es
vouched_copy o m p es begins whole legal h = record {
  vouched = whole_is_vouched o m p es begins whole h;
  alone = whole_stands_alone o m p es begins whole legal h;
}
