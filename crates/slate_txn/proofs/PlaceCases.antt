-- What the law of places asks, each shown by one journal: the law isn't true where others need not track what they write, nor at the snapshot level; and a scan
-- that was read in part meets all that the law asks, though a key past that part was written since.
use Rattle.std.proofs.Common.{◌≡◌, ℕ, false, true, List, [], ◌∷◌, ◌++◌, Option, Some, None, is_some, refl, ap, arith}
use Rattle.std.specs.Prelude.{ℤ, pos}
use Rattle.slate_types.specs.declared.iter.IterationOrder.TheVariants.{Ascending}
use Rattle.slate_types.specs.Keys.{whole}
use Rattle.slate_types.specs.declared.config.IsolationLevel.TheVariants.{Snapshot, SerializableSnapshot}
use Rattle.slate_mem.specs.declared.WriteOp.TheVariants.{Put}
use Rattle.slate_types.specs.declared.config.Ttl.TheVariants.{NoExpiry}
use Rattle.slate_mem.specs.Batch.{Ops}
use Rattle.slate_txn.specs.declared.event.Event.{Event}
use Rattle.slate_txn.specs.declared.event.Event.TheVariants as events
use Rattle.slate_txn.specs.declared.event.TranscriptStep.{TranscriptStep}
use Rattle.slate_txn.specs.declared.event.TranscriptStep.TheVariants.{Get, Next, Scan}
use Rattle.slate_txn.specs.Named.{find_named}
use Rattle.slate_txn.specs.State.{Rules, Tx, last}
use Rattle.slate_txn.specs.Tracking.{reads_of}
use Rattle.slate_txn.specs.Replay.{replay, IsLegal}
use Rattle.slate_txn.specs.Alone.{IsAlone}
use Rattle.slate_txn.specs.Vouched.{VouchedAt, TracksReads}
use Rattle.slate_txn.proofs.PlaceLaws.{at_its_place}

abbrev rules : Rules
rules = record { default_millis = None; start_seq = 0; combine = None; segment = None }

abbrev key : List ℕ
key = 97 ∷ []

abbrev first : List ℕ
first = 1 ∷ []

abbrev second : List ℕ
second = 2 ∷ []

abbrev puts : Ops
puts = (key, Put (98 ∷ []) (record { ttl = NoExpiry })) ∷ []

-- it read the key, and found nothing
abbrev saw_none : List TranscriptStep
saw_none = Get key None ∷ []

-- the law without what others track
abbrev Untracked : Type 0
Untracked = (r : Rules) (before later : List Event) (id : List ℕ) (n : Option ℕ) (now : ℤ) (ops : Ops) (tracked : List (List ℕ)) (ts : List TranscriptStep) (t : Tx) →
    IsLegal r.start_seq (before ++ (events.Commit id n now ops tracked ts ∷ later)) → VouchedAt r (replay before) (events.Commit id n now ops tracked ts) →
    find_named id (replay before).txns ≡ Some t → t.level ≡ SerializableSnapshot → IsAlone r (replay before).commits (last r (replay before)) ts

-- the other one wrote the key, and does not track it
abbrev unmarked : List Event
unmarked = events.Begin first SerializableSnapshot 0 ∷ events.Begin second SerializableSnapshot 0 ∷ events.Commit second (Some 1) (pos 0) puts [] [] ∷ []

pub untracked_refuted : Untracked → ⊥
untracked_refuted law = different (law rules unmarked [] first None (pos 0) [] [] saw_none _ legal (refl, tt) refl refl)
  where
    legal : IsLegal 0 (unmarked ++ (events.Commit first None (pos 0) [] [] saw_none ∷ []))
    legal = ((refl, refl), ((refl, refl), ((refl, (refl, omega arith), refl, ((λ k. false), refl), refl), ((refl, refl, refl, ((λ k. false), refl), refl), tt))))

    different : IsAlone rules (replay unmarked).commits 1 saw_none → ⊥
    different h = let clash : false ≡ true = ap is_some h.0 in cc

-- the law at every level
abbrev AtAnyLevel : Type 0
AtAnyLevel = (r : Rules) (before later : List Event) (id : List ℕ) (n : Option ℕ) (now : ℤ) (ops : Ops) (tracked : List (List ℕ)) (ts : List TranscriptStep) (t : Tx) →
    IsLegal r.start_seq (before ++ (events.Commit id n now ops tracked ts ∷ later)) → VouchedAt r (replay before) (events.Commit id n now ops tracked ts) →
    find_named id (replay before).txns ≡ Some t → TracksReads (replay before).commits t.begin (reads_of ts) → IsAlone r (replay before).commits (last r (replay before)) ts

-- it begins at the snapshot level, and a plain batch writes the key
abbrev written : List Event
written = events.Begin first Snapshot 0 ∷ events.Write 1 (pos 0) puts ∷ []

pub any_level_refuted : AtAnyLevel → ⊥
any_level_refuted law = different (law rules written [] first None (pos 0) [] [] saw_none _ legal (refl, tt) refl ((λ later k wrote read. wrote), tt))
  where
    legal : IsLegal 0 (written ++ (events.Commit first None (pos 0) [] [] saw_none ∷ []))
    legal = ((refl, refl), (((refl, omega arith), refl), ((refl, refl, refl, ((λ k. false), refl), refl), tt)))

    different : IsAlone rules (replay written).commits 1 saw_none → ⊥
    different h = let clash : false ≡ true = ap is_some h.0 in cc

-- ---- a scan that was read in part

abbrev past : Ops
past = ((122 ∷ []), Put (98 ∷ []) (record { ttl = NoExpiry })) ∷ []

-- the first row of all, and no more
abbrev saw_one : List TranscriptStep
saw_one = Scan Ascending whole ∷ Next 0 (Some (record { key = key; value = 98 ∷ []; seq = 1; create_ts = pos 0; expire_ts = None })) ∷ []

-- the key 97 stands before it begins, and the key 122 is written after that
abbrev scanned : List Event
scanned = events.Write 1 (pos 0) puts ∷ events.Begin first SerializableSnapshot 1 ∷ events.Write 2 (pos 0) past ∷ []

pub a_part_stands : IsAlone rules (replay scanned).commits 2 saw_one
a_part_stands = at_its_place rules scanned [] first None (pos 0) [] [] saw_one _ legal (refl, tt) refl refl ((λ later k wrote read. wrote), ((λ later k wrote read. wrote), tt))
  where
    legal : IsLegal 0 (scanned ++ (events.Commit first None (pos 0) [] [] saw_one ∷ []))
    legal = (((refl, omega arith), refl), ((refl, refl), (((refl, omega arith), refl), ((refl, refl, refl, ((λ k. false), refl), refl), tt))))
