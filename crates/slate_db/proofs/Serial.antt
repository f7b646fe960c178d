-- The commits of a core's journal stay vouched for, and so stand at their places.
use Rattle.std.proofs.Common.{◌≡◌, ℕ, Bool, true, false, List, [], ◌∷◌, ◌++◌, Option, Some, None, ℤ, bytes_eq, refl, inl, inr, sym, ap, subst, ◌∙◌}
use Rattle.std.proofs.lemmas.Slice.Eq.{bytes_eq-Decides}
use Rattle.slate_types.specs.Outside.{Reach}
use Rattle.slate_mem.specs.Batch.{Ops, kept_ops}
use Rattle.slate_txn.specs.declared.event.Event.{Event}
use Rattle.slate_txn.specs.declared.event.Event.TheVariants as events
use Rattle.slate_txn.specs.Alone.{IsAlone, IsVouched}
use Rattle.slate_txn.specs.Conflict.{tracked_writes}
use Rattle.slate_txn.specs.Named.{find_named, without}
use Rattle.slate_txn.specs.Replay.{IsLegal, apply, apply_all, replay}
use Rattle.slate_txn.specs.Settings.{Settings}
use Rattle.slate_txn.specs.State.{Rules, Commit, State, Tx, opening}
use Rattle.slate_txn.specs.Vouched.{AreVouched, AreVouchedFrom, VouchedAt, VouchedBy}
use Rattle.slate_txn.proofs.LegalLaws.{found_bare}
use Rattle.slate_txn.proofs.NameLaws.{gone_without, legal_once}
use Rattle.slate_txn.proofs.PlaceLaws.{each_at_its_place}
use Rattle.slate_db.specs.Committed.{IsCommitted}
use Rattle.slate_db.specs.Flushed.{Flushes, Layout, idle, stored}
use Rattle.slate_db.specs.Frozen.{IsFrozen}
use Rattle.slate_db.specs.Installs.{Replays}
use Rattle.slate_db.specs.Meaning.{Meaning, rules_of}
use Rattle.slate_db.specs.Model.{CoreModel}
use Rattle.slate_db.specs.SerialLaws.{JournalIsVouched, IsVouchedCore, IsNoCommit, OthersStayVouched, StayVouched, silent, added, ended, committed, NewCoreIsVouched, CommitsKeepItVouched, OtherEventsKeepItVouched, CallsKeepCoresVouched, WritesKeepCoresVouched, CommitsStandAtTheirPlaces}
use Rattle.slate_db.specs.Vouched.{IsVouchedFor}
use Rattle.slate_db.specs.Written.{IsWritten}
use Rattle.slate_db.proofs.Journals.{apply_more}

-- ---- one event more

vouched_more : (r : Rules) (s : State) (es : List Event) (e : Event) → AreVouchedFrom r s es → VouchedAt r (apply_all s es) e → AreVouchedFrom r s (es ++ (e ∷ []))
vouched_more r s [] e h one = (one, tt)
vouched_more r s (x ∷ es) e h one = (h.0, vouched_more r (apply s x) es e h.1 one)

no_commit : (r : Rules) (s : State) (e : Event) → IsNoCommit e → VouchedAt r s e
no_commit r s (events.Commit id n now ops tracked ts) h = absurd h
no_commit r s (events.Begin id level start) h = tt
no_commit r s (events.End id) h = tt
no_commit r s (events.Write n now ops) h = tt
no_commit r s events.Freeze h = tt
no_commit r s (events.Install through tables) h = tt
no_commit r s (events.Snapshot id n) h = tt
no_commit r s (events.Release id) h = tt

-- the transaction stands in the journal's state with its begin, above the same commits
open_alone : (r : Rules) (es : List Event) (s : State) (id : List ℕ) (t : Tx) → Replays es s → find_named id s.txns ≡ Some t → IsVouched r s.commits t → VouchedBy r (replay es) (find_named id (replay es).txns) t.transcript
open_alone r es s id t replays found h =
    subst (λ o. VouchedBy r (replay es) o t.transcript) (sym (ap (find_named id) replays.txns ∙ found_bare id s t found))
    (subst (λ (cs : List Commit). IsAlone r cs t.begin t.transcript) (sym replays.commits) h)

-- ---- a journal

pub commits_vouched : CommitsKeepItVouched
commits_vouched m old new id n now t replays found alone is h = by n is
  where
    event : Option ℕ → Event
    event o = events.Commit id o now (kept_ops t.ops) (tracked_writes t) t.transcript

    more : (o : Option ℕ) → AreVouched (rules_of old.settings m) (old.events ++ (event o ∷ []))
    more o = vouched_more (rules_of old.settings m) opening old.events (event o) h (open_alone (rules_of old.settings m) old.events old.state id t replays found (alone t found))

    by : (o : Option ℕ) → IsCommitted old new id o now t → JournalIsVouched m new
    by None is = subst (JournalIsVouched m) (sym is.1) (more None)
    by (Some k) is = subst (JournalIsVouched m) (sym is) (more (Some k))

same_journal : (m : Meaning) (old new : CoreModel) (es : List Event) → new.settings ≡ old.settings → new.events ≡ es → AreVouched (rules_of old.settings m) es → JournalIsVouched m new
same_journal m old new es settings is h = subst (λ (o : Settings). AreVouched (rules_of o m) new.events) (sym settings) (subst (AreVouched (rules_of old.settings m)) (sym is) h)

pub others_vouched : OtherEventsKeepItVouched
others_vouched m old new e none settings is h =
    same_journal m old new (old.events ++ (e ∷ [])) settings is (vouched_more (rules_of old.settings m) opening old.events e h (no_commit (rules_of old.settings m) (replay old.events) e none))

-- ---- a core

pub new_vouched : NewCoreIsVouched
new_vouched m c first none = record {
  journal = subst (AreVouched (rules_of c.settings m)) (sym none) tt;
  transactions = λ id. subst (λ (s : State). (t : Tx) → find_named id s.txns ≡ Some t → IsVouched (rules_of c.settings m) s.commits t) (sym first) (λ t e. cc);
}

-- who is open in a state is so in the state that its journal replays to
closed : (es : List Event) (s : State) (id : List ℕ) → Replays es s → find_named id (replay es).txns ≡ None → (t : Tx) → find_named id s.txns ≡ Some t → ⊥
closed es s id replays none t found = let clash : None ≡ Some _ = sym none ∙ ap (find_named id) replays.txns ∙ found_bare id s t found in cc

-- a name that goes from a legal journal's state is gone
gone : (n0 : ℕ) (es more : List Event) (id : List ℕ) → IsLegal n0 es → (replay more).txns ≡ without id (replay es).txns → find_named id (replay more).txns ≡ None
gone n0 es more id legal is = ap (find_named id) is ∙ gone_without id (replay es).txns (legal_once n0 es legal).0

all_but : (m : Meaning) (old new : CoreModel) (id : List ℕ) → OthersStayVouched m id old new → ((t : Tx) → find_named id new.state.txns ≡ Some t → ⊥) → ((other : List ℕ) → IsVouchedFor m old other) → (other : List ℕ) → IsVouchedFor m new other
all_but m old new id others shut h other = by (bytes_eq other id) refl
  where
    by : (b : Bool) → bytes_eq other id ≡ b → IsVouchedFor m new other
    by true e = λ t found. absurd (shut t (ap (λ k. find_named k new.state.txns) (sym ((bytes_eq-Decides other id).0 e)) ∙ found))
    by false e = others other (λ same. let clash : true ≡ false = sym ((bytes_eq-Decides other id).1 same) ∙ e in cc) (h other)

silent_vouched : (m : Meaning) (old new : CoreModel) → new.settings ≡ old.settings → new.events ≡ old.events → StayVouched m old new → IsVouchedCore m old → IsVouchedCore m new
silent_vouched m old new settings is stay h = record { journal = same_journal m old new old.events settings is h.journal; transactions = λ id. stay id (h.transactions id) }

added_vouched : (m : Meaning) (old new : CoreModel) (e : Event) → IsNoCommit e → new.settings ≡ old.settings → new.events ≡ old.events ++ (e ∷ []) → StayVouched m old new → IsVouchedCore m old → IsVouchedCore m new
added_vouched m old new e none settings is stay h = record { journal = others_vouched m old new e none settings is h.journal; transactions = λ id. stay id (h.transactions id) }

pub calls_vouched : CallsKeepCoresVouched
calls_vouched m old new legal before after (silent settings is stay) h = silent_vouched m old new settings is stay h
calls_vouched m old new legal before after (added e none settings is stay) h = added_vouched m old new e none settings is stay h
calls_vouched m old new legal before after (ended id settings is others) h = record {
  journal = others_vouched m old new (events.End id) tt settings is h.journal;
  transactions = all_but m old new id others (closed new.events new.state id after (gone old.settings.start_seq old.events new.events id legal txns)) h.transactions;
}
  where
    txns : (replay new.events).txns ≡ without id (replay old.events).txns
    txns = ap (λ es. (replay es).txns) is ∙ ap (λ (s : State). s.txns) (apply_more opening old.events (events.End id))
calls_vouched m old new legal before after (committed id n now t found is others) h = record {
  journal = commits_vouched m old new id n now t before found (h.transactions id) is h.journal;
  transactions = all_but m old new id others (closed new.events new.state id after (gone old.settings.start_seq old.events new.events id legal (txns n is))) h.transactions;
}
  where
    event : Option ℕ → Event
    event o = events.Commit id o now (kept_ops t.ops) (tracked_writes t) t.transcript

    applied : (o : Option ℕ) → new.events ≡ old.events ++ (event o ∷ []) → (replay new.events).txns ≡ without id (replay old.events).txns
    applied o e = ap (λ es. (replay es).txns) e ∙ ap (λ (s : State). s.txns) (apply_more opening old.events (event o))

    txns : (o : Option ℕ) → IsCommitted old new id o now t → (replay new.events).txns ≡ without id (replay old.events).txns
    txns None is = applied None (ap (λ (c : CoreModel). c.events) is.1)
    txns (Some k) is = applied (Some k) (ap (λ (c : CoreModel). c.events) is)

pub writes_vouched : WritesKeepCoresVouched
writes_vouched m old new h = (written, frozen, flushed)
  where
    same : new ≡ old → IsVouchedCore m new
    same is = subst (IsVouchedCore m) (sym is) h

    -- by an event
    more : (c : CoreModel) (e : Event) → IsNoCommit e → c.settings ≡ old.settings → c.events ≡ old.events ++ (e ∷ []) → StayVouched m old c → new ≡ c → IsVouchedCore m new
    more c e none settings is stay same = subst (IsVouchedCore m) (sym same) (added_vouched m old c e none settings is stay h)

    written : (n : Option ℕ) (now : ℤ) (ops : Ops) → IsWritten old new n now ops → StayVouched m old new → IsVouchedCore m new
    written None now ops is stay = same is.1
    written (Some n) now ops is stay = added_vouched m old new (events.Write n now ops) tt (ap (λ (c : CoreModel). c.settings) is) (ap (λ (c : CoreModel). c.events) is) stay h

    frozen : IsFrozen old new → IsVouchedCore m new
    frozen (inl is) = same is.1
    frozen (inr is) = more _ events.Freeze tt refl refl (λ id v. v) is.1

    flushed : (layout : Layout) (before after : Reach) (n : ℕ) → Flushes layout before after old new n → IsVouchedCore m new
    flushed layout before after n (idle none is same) = subst (IsVouchedCore m) (sym is) (record { journal = h.journal; transactions = h.transactions })
    flushed layout before after n (stored tables is made taken) = more _ (events.Install n tables) tt refl refl (λ id v. v) is

pub at_their_places : CommitsStandAtTheirPlaces
at_their_places m c legal h = each_at_its_place (rules_of c.settings m) c.events legal h
