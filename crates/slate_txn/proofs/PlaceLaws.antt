-- A serializable commit of a legal journal stands at its place: its transcript is answered alike at its begin and just before it.
use Rattle.std.proofs.Common.{◌≡◌, ℕ, ◌+◌, ◌≤◌, ◌<◌, Bool, true, false, cond, not, ◌&&◌, ◌||◌, leb, ltb, nat_lt, List, [], ◌∷◌, ◌++◌, map, filter, flat_map, bytes_eq, Option, Some, None, IsNone, is_some, refl, sym, ap, subst, ◌∙◌, arith}
use Rattle.std.specs.List.{list_any, AllByRecursion, cons_option}
use Rattle.std.specs.Option.{option_and_then}
use Rattle.std.proofs.lemmas.Bool.Decides.{nat_tests}
use Rattle.std.proofs.lemmas.List.Folds.{list_any-append}
use Rattle.std.proofs.lemmas.Slice.Eq.{bytes_eq-Decides}
use Rattle.slate_types.specs.declared.config.IsolationLevel.{IsolationLevel}
use Rattle.slate_types.specs.declared.config.IsolationLevel.TheVariants.{Snapshot, SerializableSnapshot}
use Rattle.slate_types.specs.declared.types.ValueDeletable.{ValueDeletable}
use Rattle.slate_types.specs.declared.types.ValueDeletable.TheVariants.{Value, Merge, Tombstone}
use Rattle.slate_types.specs.declared.types.RowEntry.{RowEntry}
use Rattle.slate_types.specs.declared.bytes_range.BytesRange.{BytesRange}
use Rattle.slate_types.specs.declared.iter.IterationOrder.{IterationOrder}
use Rattle.slate_types.specs.Keys.{among}
use Rattle.slate_types.specs.Rows.{is_base, hide_tombstone}
use Rattle.slate_types.specs.Fold.{Combine, taken, fold_taken, shown}
use Rattle.slate_types.proofs.KeySetLaws.{set_rises, set_keeps}
use Rattle.slate_mem.specs.declared.WriteOp.{WriteOp}
use Rattle.slate_mem.specs.Batch.{Ops, kept, batch_keys}
use Rattle.slate_mem.specs.RowOf.{own_row, row_of}
use Rattle.slate_mem.proofs.BatchLaws.{has_one_row}
use Rattle.slate_mem.proofs.RowOfLaws.{row_has}
use Rattle.slate_txn.specs.declared.event.Event.{Event}
use Rattle.slate_txn.specs.declared.event.Event.TheVariants as events
use Rattle.slate_txn.specs.declared.event.TranscriptStep.{TranscriptStep}
use Rattle.slate_txn.specs.Named.{find_named}
use Rattle.slate_txn.specs.State.{Rules, Commit, Tx, State, opening, last, last_of, combine_at}
use Rattle.slate_txn.specs.Reads.{up_to, key_rows, seen, keys_seen, rows_seen}
use Rattle.slate_txn.specs.Tracking.{Reading, reads_of, nothing_read, is_read}
use Rattle.slate_txn.specs.Conflict.{meets, with_greatest, greatest, conflict_of, reads_at}
use Rattle.slate_txn.specs.Replay.{apply, apply_all, replay, Allowed, LegalFrom, ids_of, HasNoConflict}
use Rattle.slate_txn.specs.Alone.{IsAlone}
use Rattle.slate_txn.specs.Vouched.{VouchedBy, VouchedAt, AreVouchedFrom, TracksReads, AloneWhere, AloneBy, AloneAt, AreAloneFrom}
use Rattle.slate_txn.specs.Laws.{Counts, StandsAtItsPlace, EachStandsAtItsPlace}
use Rattle.slate_txn.proofs.SequenceLaws.{apply_counts}
use Rattle.slate_txn.proofs.PartLaws.{Agree, IsOfKeys, agree_opened}
use Rattle.slate_txn.proofs.TrackedLaws.{IsQuiet, alone_there}
use Rattle.std.proofs.Math.Nat.{le_refl}
use Rattle.std.proofs.lemmas.Bool.{or_right}
use Rattle.slate_types.proofs.Plain.{none_by_test, and_first}

-- ---- what a reader finds under a key has the key

abbrev IsOf : List ℕ → List RowEntry → Type 0
IsOf k rows = AllByRecursion (λ x. x.key ≡ k) rows

of_commits : (r : Rules) (k : List ℕ) (cs : List Commit) → IsOf k (key_rows r k cs)
of_commits r k [] = tt
of_commits r k (c ∷ cs) = by (row_of (combine_at r k) r.default_millis c.seq c.now c.ops k) refl (of_commits r k cs)
  where
    by : (o : Option RowEntry) → row_of (combine_at r k) r.default_millis c.seq c.now c.ops k ≡ o → IsOf k (key_rows r k cs) → IsOf k (cons_option o (key_rows r k cs))
    by None e later = later
    by (Some x) e later = ((row_has (combine_at r k) r.default_millis c.seq c.now c.ops k x e).0, later)

of_own : (k : List ℕ) (ops : List WriteOp) → IsOf k (map (own_row k) ops)
of_own k [] = tt
of_own k (o ∷ os) = (refl, of_own k os)

of_both : (k : List ℕ) (xs ys : List RowEntry) → IsOf k xs → IsOf k ys → IsOf k (xs ++ ys)
of_both k [] ys h g = g
of_both k (x ∷ xs) ys h g = (h.0, of_both k xs ys h.1 g)

of_last : (k : List ℕ) (xs : List RowEntry) → IsOf k xs → IsOf k (taken xs)
of_last k [] h = tt
of_last k (x ∷ xs) h = by (list_any is_base xs) (of_last k xs h.1)
  where
    by : (b : Bool) → IsOf k (taken xs) → IsOf k (cond b (taken xs) (x ∷ xs))
    by true later = later
    by false later = h

some_same : (x y z : RowEntry) → Some x ≡ Some z → y ≡ x → y ≡ z
some_same x y z e f = f ∙ ap (λ o. value o) e
  where
    value : Option RowEntry → RowEntry
    value None = x
    value (Some w) = w

hidden_key : (v : ValueDeletable) (x y : RowEntry) → hide_tombstone v x ≡ Some y → x.key ≡ y.key
hidden_key (Value v) x y e = ap (λ z. z.key) (some_same x x y e refl)
hidden_key (Merge v) x y e = ap (λ z. z.key) (some_same x x y e refl)
hidden_key Tombstone x y e = cc

folded_key : (c : Combine) (k : List ℕ) (xs : List RowEntry) (y : RowEntry) → IsOf k xs → option_and_then (λ x. hide_tombstone x.value x) (fold_taken c xs) ≡ Some y → y.key ≡ k
folded_key c k [] y h e = cc
folded_key c k (x ∷ xs) y h e = sym (hidden_key _ _ y e) ∙ h.0

pub own_seen : (r : Rules) (cs : List Commit) (n : ℕ) (ops : Ops) → IsOfKeys (seen r cs n ops)
own_seen r cs n ops k x e = folded_key (combine_at r k) k (taken rows) x (of_last k rows (of_both k _ _ (of_commits r k (up_to n cs)) (of_own k (kept ops k)))) e
  where
    rows : List RowEntry
    rows = key_rows r k (up_to n cs) ++ map (own_row k) (kept ops k)

-- ---- keys that no commit since the begin writes

abbrev writes_since : ℕ → List ℕ → Commit → Bool
writes_since b k c = ltb b c.seq && among k (batch_keys c.ops)

abbrev still : ℕ → List Commit → List ℕ → Bool
still b cs k = not (list_any (writes_since b k) cs)

-- all sequences are at or below n
abbrev AreUpTo : ℕ → List Commit → Type 0
AreUpTo n cs = AllByRecursion (λ c. c.seq ≤ n) cs

le_test : (m p : ℕ) → m ≤ p → leb m p ≡ true
le_test m p h = grind (arith, nat_tests)

past_test : (m p : ℕ) → leb m p ≡ false → ltb p m ≡ true
past_test m p h = grind (arith, nat_tests)

neither : (a b : Bool) → not (a || b) ≡ true → (a ≡ false) × (not b ≡ true)
neither true b h = cc
neither false b h = (refl, h)

module _ (r : Rules) (b n : ℕ) where
  rows_still : (k : List ℕ) (cs : List Commit) → AreUpTo n cs → still b cs k ≡ true → key_rows r k (up_to b cs) ≡ key_rows r k (up_to n cs)
  rows_still k [] low h = refl
  rows_still k (c ∷ cs) low h =
      by (leb c.seq b) refl (rows_still k cs low.1 (neither (writes_since b k c) (list_any (writes_since b k) cs) h).1)
      ∙ sym (ap (λ t. key_rows r k (cond t (c ∷ up_to n cs) (up_to n cs))) (le_test c.seq n low.0))
    where
      row : Option RowEntry
      row = row_of (combine_at r k) r.default_millis c.seq c.now c.ops k

      by : (t : Bool) → leb c.seq b ≡ t → key_rows r k (up_to b cs) ≡ key_rows r k (up_to n cs) → key_rows r k (cond t (c ∷ up_to b cs) (up_to b cs)) ≡ cons_option row (key_rows r k (up_to n cs))
      by true e later = ap (cons_option row) later
      by false e later =
          let none : row ≡ None = none_by_test row (has_one_row (combine_at r k) r.default_millis c.seq c.now c.ops k ∙ and_first (ltb b c.seq) (among k (batch_keys c.ops)) (past_test c.seq b e) (neither (writes_since b k c) (list_any (writes_since b k) cs) h).0) in
          later ∙ sym (ap (λ z. cons_option z (key_rows r k (up_to n cs))) none)

  abbrev keys_in : ℕ → List Commit → List (List ℕ)
  keys_in m cs = flat_map (λ c. batch_keys c.ops) (up_to m cs)

  keys_still : (k : List ℕ) (cs : List Commit) → AreUpTo n cs → still b cs k ≡ true → among k (keys_in b cs) ≡ among k (keys_in n cs)
  keys_still k [] low h = refl
  keys_still k (c ∷ cs) low h =
      by (leb c.seq b) refl (keys_still k cs low.1 (neither (writes_since b k c) (list_any (writes_since b k) cs) h).1)
      ∙ sym (list_any-append (λ x. bytes_eq x k) (batch_keys c.ops) (keys_in n cs))
      ∙ sym (ap (λ t. among k (flat_map (λ d. batch_keys d.ops) (cond t (c ∷ up_to n cs) (up_to n cs)))) (le_test c.seq n low.0))
    where
      by : (t : Bool) → leb c.seq b ≡ t → among k (keys_in b cs) ≡ among k (keys_in n cs) → among k (flat_map (λ d. batch_keys d.ops) (cond t (c ∷ up_to b cs) (up_to b cs))) ≡ (among k (batch_keys c.ops) || among k (keys_in n cs))
      by true e later = list_any-append (λ x. bytes_eq x k) (batch_keys c.ops) (keys_in b cs) ∙ ap (λ t. among k (batch_keys c.ops) || t) later
      by false e later =
          later ∙ sym (ap (λ t. t || among k (keys_in n cs)) (and_first (ltb b c.seq) (among k (batch_keys c.ops)) (past_test c.seq b e) (neither (writes_since b k c) (list_any (writes_since b k) cs) h).0))

  seen_still : (cs : List Commit) → AreUpTo n cs → (ops : Ops) (k : List ℕ) → still b cs k ≡ true → seen r cs b ops k ≡ seen r cs n ops k
  seen_still cs low ops k h = ap (λ rows. shown (combine_at r k) (rows ++ map (own_row k) (kept ops k))) (rows_still k cs low h)

  among_seen : (cs : List Commit) → AreUpTo n cs → (ops : Ops) (k : List ℕ) → still b cs k ≡ true → among k (keys_seen cs b ops) ≡ among k (keys_seen cs n ops)
  among_seen cs low ops k h =
      set_keeps (keys_in b cs ++ batch_keys ops) k
      ∙ list_any-append (λ x. bytes_eq x k) (keys_in b cs) (batch_keys ops)
      ∙ ap (λ t. t || among k (batch_keys ops)) (keys_still k cs low h)
      ∙ sym (list_any-append (λ x. bytes_eq x k) (keys_in n cs) (batch_keys ops))
      ∙ sym (set_keeps (keys_in n cs ++ batch_keys ops) k)

  opened_still : (cs : List Commit) → AreUpTo n cs → (ops : Ops) (o : IterationOrder) (range : BytesRange) → Agree (still b cs) o range (o, rows_seen r cs b ops o range) (o, rows_seen r cs n ops o range)
  opened_still cs low ops o range =
      agree_opened (still b cs) (seen r cs b ops) (seen r cs n ops) (keys_seen cs b ops) (keys_seen cs n ops) o range (own_seen r cs b ops) (own_seen r cs n ops)
      (set_rises (keys_in b cs ++ batch_keys ops)) (set_rises (keys_in n cs ++ batch_keys ops)) (seen_still cs low ops) (among_seen cs low ops)

  -- a transcript of which no commit since the begin writes a key that was read
  alone_still : (cs : List Commit) (ts : List TranscriptStep) → AreUpTo n cs → IsQuiet (still b cs) (reads_of ts) → IsAlone r cs b ts → IsAlone r cs n ts
  alone_still cs ts low quiet h = alone_there r cs b n (still b cs) (seen_still cs low) (opened_still cs low) [] nothing_read [] [] ts tt quiet h

-- ---- without a conflict no key that was read was written

some_greatest : {A : Type 0} (m : ℕ) (o : Option ℕ) → is_some (with_greatest m o) ≡ false → A
some_greatest m None e = cc
some_greatest m (Some x) e = cc

lt_test : (m p : ℕ) → ltb m p ≡ true → m < p
lt_test m p h = grind (arith, nat_tests)

any_false : {X : Type 0} (t : X → Bool) (x : X) (xs : List X) → list_any t (x ∷ xs) ≡ false → (t x ≡ false) × (list_any t xs ≡ false)
any_false t x xs h = by (t x) (list_any t xs) h
  where
    by : (a b : Bool) → (a || b) ≡ false → (a ≡ false) × (b ≡ false)
    by true b e = cc
    by false b e = (refl, e)

-- a test that no key passes is passed by none among them
among_fails : (t : List ℕ → Bool) (k : List ℕ) (ks : List (List ℕ)) → list_any t ks ≡ false → t k ≡ true → among k ks ≡ false
among_fails t k [] h e = refl
among_fails t k (j ∷ js) h e = by (bytes_eq j k) refl (among_fails t k js both.1 e)
  where
    both : (t j ≡ false) × (list_any t js ≡ false)
    both = any_false t j js h

    by : (b : Bool) → bytes_eq j k ≡ b → among k js ≡ false → (b || among k js) ≡ false
    by true is later = let clash : true ≡ false = sym e ∙ ap t (sym ((bytes_eq-Decides j k).0 is)) ∙ both.0 in cc
    by false is later = later

read_still : (b : ℕ) (keys : List (List ℕ)) (rs : Reading) (cs : List Commit) → IsNone (conflict_of cs b keys rs) → TracksReads cs b rs → IsQuiet (still b cs) rs
read_still b keys rs [] none tracks k e = refl
read_still b keys rs (c ∷ cs) none tracks k e = by (ltb b c.seq) (meets keys rs c) refl refl none (λ free. read_still b keys rs cs free tracks.1 k e)
  where
    rest : List Commit
    rest = filter (λ d. nat_lt b d.seq && meets keys rs d) cs

    wrote : (a : Bool) → among k (batch_keys c.ops) ≡ a → ltb b c.seq ≡ true → meets keys rs c ≡ false → a ≡ false
    wrote true w later m =
        let tracked : among k c.tracked ≡ true = tracks.0 (lt_test b c.seq later) k w e in
        let fails : among k c.tracked ≡ false = among_fails (λ j. among j keys || is_read rs j) k c.tracked m (or_right (among k keys) (is_read rs k) e) in
        let clash : true ≡ false = sym tracked ∙ fails in cc
    wrote false w later m = refl

    by : (t m : Bool) → ltb b c.seq ≡ t → meets keys rs c ≡ m → is_some (greatest (map (λ d. d.seq) (cond (t && m) (c ∷ rest) rest))) ≡ false → (IsNone (conflict_of cs b keys rs) → still b cs k ≡ true) → not ((ltb b c.seq && among k (batch_keys c.ops)) || list_any (writes_since b k) cs) ≡ true
    by true true later m none more = some_greatest c.seq (greatest (map (λ d. d.seq) rest)) none
    by true false later m none more =
        ap (λ t. not ((t && among k (batch_keys c.ops)) || list_any (writes_since b k) cs)) later
        ∙ ap (λ t. not (t || list_any (writes_since b k) cs)) (wrote (among k (batch_keys c.ops)) refl later m)
        ∙ more none
    by false m later is none more =
        ap (λ t. not ((t && among k (batch_keys c.ops)) || list_any (writes_since b k) cs)) later
        ∙ more none

-- ---- journals

le_next : (a b c : ℕ) → a ≡ b + 1 → a ≤ c → b ≤ c
le_next a b c e h = omega (arith, e, h)

pub counts_last : (n : ℕ) (cs : List Commit) → Counts n cs → (n ≤ last_of n cs) × AreUpTo (last_of n cs) cs
counts_last n [] h = (le_refl n, tt)
counts_last n (c ∷ cs) h = let later = counts_last c.seq cs h.1 in (le_next c.seq n (last_of c.seq cs) h.0 later.0, (later.0, later.1))

abbrev Counted : Rules → State → Type 0
Counted r s = Counts r.start_seq s.commits

-- at a serializable level
alone_at : (r : Rules) (s : State) (t : Tx) (tracked : List (List ℕ)) (ts : List TranscriptStep) → Counted r s → (level : IsolationLevel) → IsNone (conflict_of s.commits t.begin tracked (reads_at level ts)) →
    IsAlone r s.commits t.begin ts → AloneWhere r s level t.begin ts
alone_at r s t tracked ts counts Snapshot none h = tt
alone_at r s t tracked ts counts SerializableSnapshot none h = λ tracks.
    alone_still r t.begin (last r s) s.commits ts (counts_last r.start_seq s.commits counts).1 (read_still t.begin tracked (reads_of ts) s.commits none tracks) h

alone_by : (r : Rules) (s : State) (o : Option Tx) (tracked : List (List ℕ)) (ts : List TranscriptStep) → Counted r s → HasNoConflict s o tracked ts → VouchedBy r s o ts → AloneBy r s o ts
alone_by r s None tracked ts counts none h = absurd h
alone_by r s (Some t) tracked ts counts none h = alone_at r s t tracked ts counts t.level none h

alone_event : (r : Rules) (s : State) (used : List (List ℕ)) (e : Event) → Counted r s → Allowed r.start_seq s used e → VouchedAt r s e → AloneAt r s e
alone_event r s used (events.Commit id n now os tracked ts) counts a h = alone_by r s (find_named id s.txns) tracked ts counts a.4 h
alone_event r s used (events.Begin id level start) counts a h = tt
alone_event r s used (events.End id) counts a h = tt
alone_event r s used (events.Write n now os) counts a h = tt
alone_event r s used events.Freeze counts a h = tt
alone_event r s used (events.Install through tables) counts a h = tt
alone_event r s used (events.Snapshot id n) counts a h = tt
alone_event r s used (events.Release id) counts a h = tt

alone_from : (r : Rules) (es : List Event) (s : State) (used : List (List ℕ)) → Counted r s → LegalFrom r.start_seq s used es → AreVouchedFrom r s es → AreAloneFrom r s es
alone_from r [] s used counts legal h = tt
alone_from r (e ∷ es) s used counts legal h =
    (alone_event r s used e counts legal.0 h.0, alone_from r es (apply s e) (ids_of e ++ used) (apply_counts r.start_seq s used e counts legal.0) legal.1 h.1)

pub each_at_its_place : EachStandsAtItsPlace
each_at_its_place r es legal h = alone_from r es opening [] tt legal h

-- the conditions of the event behind others
event_legal : (r : Rules) (before : List Event) (e : Event) (later : List Event) (s : State) (used : List (List ℕ)) → Counted r s → LegalFrom r.start_seq s used (before ++ (e ∷ later)) → VouchedAt r (apply_all s before) e → AloneAt r (apply_all s before) e
event_legal r [] e later s used counts legal h = alone_event r s used e counts legal.0 h
event_legal r (x ∷ before) e later s used counts legal h = event_legal r before e later (apply s x) (ids_of x ++ used) (apply_counts r.start_seq s used x counts legal.0) legal.1 h

pub at_its_place : StandsAtItsPlace
at_its_place r before later id n now os tracked ts t legal h found level tracks = serial t.level level (subst (λ o. AloneBy r (replay before) o ts) found alone) tracks
  where
    alone : AloneBy r (replay before) (find_named id (replay before).txns) ts
    alone = event_legal r before (events.Commit id n now os tracked ts) later opening [] tt legal h

    serial : (l : IsolationLevel) → l ≡ SerializableSnapshot → AloneWhere r (replay before) l t.begin ts → TracksReads (replay before).commits t.begin (reads_of ts) → IsAlone r (replay before).commits (last r (replay before)) ts
    serial Snapshot e a tracks = cc
    serial SerializableSnapshot e a tracks = a tracks
