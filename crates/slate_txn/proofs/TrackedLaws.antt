-- What a transcript reads only grows, so a transcript whose reads are all quiet is answered alike to two readers who see the same at quiet keys.
use Rattle.std.proofs.Common.{◌≡◌, ℕ, zero, suc, Bool, true, false, cond, not, ◌&&◌, ◌||◌, List, [], ◌∷◌, ◌++◌, bytes_eq, Option, Some, None, option_map, slice_get, IsSome, refl, sym, ap, ◌∙◌}
use Rattle.std.specs.List.{list_any}
use Rattle.std.proofs.lemmas.List.Folds.{list_any-append}
use Rattle.std.proofs.lemmas.Slice.Eq.{bytes_eq-Decides}
use Rattle.slate_types.specs.declared.types.KeyValue.{KeyValue}
use Rattle.slate_types.specs.declared.bytes_range.BytesRange.{BytesRange}
use Rattle.slate_types.specs.declared.iter.IterationOrder.{IterationOrder}
use Rattle.slate_types.specs.Keys.{in_range, among}
use Rattle.slate_types.specs.Rows.{key_value}
use Rattle.slate_mem.specs.Batch.{Ops}
use Rattle.slate_txn.specs.declared.reading.Part.{Part}
use Rattle.slate_txn.specs.declared.reading.Part.TheVariants.{Nothing, UpTo, ToEnd}
use Rattle.slate_txn.specs.declared.reading.Scanned.{Scanned}
use Rattle.slate_txn.specs.declared.event.TranscriptStep.{TranscriptStep}
use Rattle.slate_txn.specs.declared.event.TranscriptStep.TheVariants.{Get, Scan, Next, Seek, View, Own}
use Rattle.slate_txn.specs.State.{Rules, Commit}
use Rattle.slate_types.specs.Iteration.{comes_before}
use Rattle.slate_txn.specs.Reads.{seen, rows_seen}
use Rattle.slate_txn.specs.Tracking.{Reading, farther, after_answer, update_at, with_step, with_steps, is_within, tracks, is_read}
use Rattle.slate_txn.specs.Alone.{Left, AloneFrom, IsNextOf, advanced, sought}
use Rattle.slate_txn.proofs.PartLaws.{Agree, ReadsKeys, before_trans, not_before_trans, agree_next, agree_sought}
use Rattle.std.proofs.lemmas.Bool.{or_right, or_left}
use Rattle.slate_types.proofs.Plain.{and_both}
use Rattle.slate_mem.proofs.KeptLaws.{any_front}

-- ---- tests

or_more : (a b c d : Bool) → (a ≡ true → c ≡ true) → (b ≡ true → d ≡ true) → (a || b) ≡ true → (c || d) ≡ true
or_more true b c d f g h = or_left c d (f refl)
or_more false b c d f g h = or_right c d (g h)

and_more : (a b c : Bool) → (b ≡ true → c ≡ true) → (a && b) ≡ true → (a && c) ≡ true
and_more true b c f h = f h
and_more false b c f h = h

stays : (a : Bool) → a ≡ true → a ≡ true
stays a h = h

any_update : {X : Type 0} (t : X → Bool) (f : X → X) → ((x : X) → t x ≡ true → t (f x) ≡ true) → (i : ℕ) (xs : List X) → list_any t xs ≡ true → list_any t (update_at i f xs) ≡ true
any_update t f more i [] h = h
any_update t f more zero (x ∷ xs) h = or_more (t x) (list_any t xs) (t (f x)) (list_any t xs) (more x) (stays (list_any t xs)) h
any_update t f more (suc i) (x ∷ xs) h = or_more (t x) (list_any t xs) (t x) (list_any t (update_at i f xs)) (stays (t x)) (any_update t f more i xs) h

-- ---- a part grows

within_farther : (o : IterationOrder) (p : Part) (j k : List ℕ) → is_within o p k ≡ true → is_within o (farther o p j) k ≡ true
within_farther o Nothing j k h = cc
within_farther o ToEnd j k h = refl
within_farther o (UpTo i) j k h = by (comes_before o i j) refl
  where
    past : comes_before o i j ≡ true → (t : Bool) → comes_before o j k ≡ t → not t ≡ true
    past e true f = sym (ap not (before_trans o i j k e f)) ∙ h
    past e false f = refl

    by : (t : Bool) → comes_before o i j ≡ t → is_within o (cond t (UpTo j) (UpTo i)) k ≡ true
    by true e = past e (comes_before o j k) refl
    by false e = h

-- what the order doesn't put after the key that is taken in
within_taken : (o : IterationOrder) (p : Part) (j k : List ℕ) → comes_before o j k ≡ false → is_within o (farther o p j) k ≡ true
within_taken o Nothing j k h = ap not h
within_taken o ToEnd j k h = refl
within_taken o (UpTo i) j k h = by (comes_before o i j) refl
  where
    by : (t : Bool) → comes_before o i j ≡ t → is_within o (cond t (UpTo j) (UpTo i)) k ≡ true
    by true e = ap not h
    by false e = ap not (not_before_trans o i j k e h)

tracks_farther : (j k : List ℕ) (s : Scanned) → tracks s k ≡ true → tracks (record s { part = farther s.order s.part j }) k ≡ true
tracks_farther j k s h = and_more (in_range s.range k) (is_within s.order s.part k) (is_within s.order (farther s.order s.part j) k) (within_farther s.order s.part j k) h

tracks_answer : (a : Option KeyValue) (k : List ℕ) (s : Scanned) → tracks s k ≡ true → tracks (after_answer s a) k ≡ true
tracks_answer None k s h = and_more (in_range s.range k) (is_within s.order s.part k) true (λ e. refl) h
tracks_answer (Some kv) k s h = tracks_farther kv.key k s h

-- an answer's keys are within the part that it leaves
answer_tracked : (u : List ℕ → Bool) (a : Option KeyValue) (s : Scanned) → ((k : List ℕ) → tracks (after_answer s a) k ≡ true → u k ≡ true) → ReadsKeys u s.order s.range a
answer_tracked u None s clear = λ k e. clear k (and_both (in_range s.range k) true e refl)
answer_tracked u (Some kv) s clear = λ k e f. clear k (and_both (in_range s.range k) (is_within s.order (farther s.order s.part kv.key) k) e (within_taken s.order s.part kv.key k f))

-- ---- what is read grows

read_more : (a b c d e f : Bool) → (a ≡ true → d ≡ true) → (b ≡ true → e ≡ true) → (c ≡ true → f ≡ true) → (a || b || c) ≡ true → (d || e || f) ≡ true
read_more true b c d e f g h i p = sure_left d e f (g refl)
  where
    sure_left : (d e f : Bool) → d ≡ true → (d || e || f) ≡ true
    sure_left true e f q = refl
    sure_left false e f q = cc
read_more false true c d e f g h i p = sure_mid d e f (h refl)
  where
    sure_mid : (d e f : Bool) → e ≡ true → (d || e || f) ≡ true
    sure_mid true e f q = refl
    sure_mid false true f q = refl
    sure_mid false false f q = cc
read_more false false c d e f g h i p = sure_last d e f (i p)
  where
    sure_last : (d e f : Bool) → f ≡ true → (d || e || f) ≡ true
    sure_last true e f q = refl
    sure_last false true f q = refl
    sure_last false false f q = q

step_reads : (rs : Reading) (t : TranscriptStep) (k : List ℕ) → is_read rs k ≡ true → is_read (with_step rs t) k ≡ true
step_reads rs (Get j a) k h =
    read_more (among k rs.keys) (list_any (λ s. tracks s k) rs.scans) (list_any (λ range. in_range range k) rs.views) _ _ _ (any_front (λ x. bytes_eq x k) rs.keys (j ∷ [])) (stays _) (stays _) h
step_reads rs (Scan order range) k h =
    read_more (among k rs.keys) (list_any (λ s. tracks s k) rs.scans) (list_any (λ range. in_range range k) rs.views) _ _ _ (stays _) (any_front (λ s. tracks s k) rs.scans (record { order = order; range = range; part = Nothing } ∷ [])) (stays _) h
step_reads rs (Next i a) k h =
    read_more (among k rs.keys) (list_any (λ s. tracks s k) rs.scans) (list_any (λ range. in_range range k) rs.views) _ _ _ (stays _) (any_update (λ s. tracks s k) (λ s. after_answer s a) (tracks_answer a k) i rs.scans) (stays _) h
step_reads rs (Seek i j) k h =
    read_more (among k rs.keys) (list_any (λ s. tracks s k) rs.scans) (list_any (λ range. in_range range k) rs.views) _ _ _ (stays _) (any_update (λ s. tracks s k) (λ s. record s { part = farther s.order s.part j }) (tracks_farther j k) i rs.scans) (stays _) h
step_reads rs (View range) k h =
    read_more (among k rs.keys) (list_any (λ s. tracks s k) rs.scans) (list_any (λ range. in_range range k) rs.views) _ _ _ (stays _) (stays _) (any_front (λ range. in_range range k) rs.views (range ∷ [])) h
step_reads rs (Own j op) k h = h

steps_read : (rs : Reading) (ts : List TranscriptStep) (k : List ℕ) → is_read rs k ≡ true → is_read (with_steps rs ts) k ≡ true
steps_read rs [] k h = h
steps_read rs (t ∷ ts) k h = steps_read (with_step rs t) ts k (step_reads rs t k h)

-- all that is read is quiet
abbrev pub IsQuiet : (List ℕ → Bool) → Reading → Type 0
IsQuiet u rs = (k : List ℕ) → is_read rs k ≡ true → u k ≡ true

quiet_first : (u : List ℕ → Bool) (rs : Reading) (ts : List TranscriptStep) → IsQuiet u (with_steps rs ts) → IsQuiet u rs
quiet_first u rs ts h k e = h k (steps_read rs ts k e)

quiet_got : (u : List ℕ → Bool) (rs : Reading) (j : List ℕ) (a : Option KeyValue) → IsQuiet u (with_step rs (Get j a)) → u j ≡ true
quiet_got u rs j a h = h j (first (among j (rs.keys ++ (j ∷ []))) _ _ (list_any-append (λ x. bytes_eq x j) rs.keys (j ∷ []) ∙ or_right (among j rs.keys) (among j (j ∷ [])) (or_left (bytes_eq j j) false ((bytes_eq-Decides j j).1 refl))))
  where
    first : (a b c : Bool) → a ≡ true → (a || b || c) ≡ true
    first true b c e = refl
    first false b c e = cc

quiet_scans : (u : List ℕ → Bool) (rs : Reading) → IsQuiet u rs → (k : List ℕ) → list_any (λ s. tracks s k) rs.scans ≡ true → u k ≡ true
quiet_scans u rs h k e = h k (mid (among k rs.keys) (list_any (λ s. tracks s k) rs.scans) (list_any (λ range. in_range range k) rs.views) e)
  where
    mid : (a b c : Bool) → b ≡ true → (a || b || c) ≡ true
    mid true b c e = refl
    mid false true c e = refl
    mid false false c e = cc

-- ---- all open scans

abbrev pub AreAgreed : (List ℕ → Bool) → List Scanned → List Left → List Left → Type 0
AreAgreed u [] [] [] = Unit {0}
AreAgreed u (s ∷ ss) (l ∷ ls) (m ∷ ms) = Agree u s.order s.range l m × AreAgreed u ss ls ms
AreAgreed u _ _ _ = ⊥

agreed_more : (u : List ℕ → Bool) (ss : List Scanned) (ls ms : List Left) (s : Scanned) (l m : Left) → AreAgreed u ss ls ms → Agree u s.order s.range l m → AreAgreed u (ss ++ (s ∷ [])) (ls ++ (l ∷ [])) (ms ++ (m ∷ []))
agreed_more u [] [] [] s l m h a = (a, tt)
agreed_more u (x ∷ ss) (y ∷ ls) (z ∷ ms) s l m h a = (h.0, agreed_more u ss ls ms s l m h.1 a)
agreed_more u ss ls ms s l m h a = absurd h

agreed_next : (u : List ℕ → Bool) (i : ℕ) (a : Option KeyValue) (ss : List Scanned) (ls ms : List Left) → AreAgreed u ss ls ms →
    ((k : List ℕ) → list_any (λ s. tracks s k) (update_at i (λ s. after_answer s a) ss) ≡ true → u k ≡ true) → IsNextOf (slice_get ls i) a →
    IsNextOf (slice_get ms i) a × AreAgreed u (update_at i (λ s. after_answer s a) ss) (update_at i advanced ls) (update_at i advanced ms)
agreed_next u i a [] [] [] h clear is = absurd is
agreed_next u zero a (s ∷ ss) (l ∷ ls) (m ∷ ms) h clear is =
    let next = agree_next u s.order s.range a l m h.0 (answer_tracked u a s (λ k e. clear k (or_left (tracks (after_answer s a) k) (list_any (λ s. tracks s k) ss) e))) is in
    (next.0, (answered a s next.1, h.1))
  where
    answered : (b : Option KeyValue) (s : Scanned) → Agree u s.order s.range (advanced l) (advanced m) → Agree u (after_answer s b).order (after_answer s b).range (advanced l) (advanced m)
    answered None s g = g
    answered (Some kv) s g = g
agreed_next u (suc i) a (s ∷ ss) (l ∷ ls) (m ∷ ms) h clear is =
    let next = agreed_next u i a ss ls ms h.1 (λ k e. clear k (or_right (tracks s k) (list_any (λ s. tracks s k) (update_at i (λ s. after_answer s a) ss)) e)) is in
    (next.0, (h.0, next.1))
agreed_next u i a ss ls ms h clear is = absurd h

agreed_sought : (u : List ℕ → Bool) (i : ℕ) (j : List ℕ) (ss : List Scanned) (ls ms : List Left) → AreAgreed u ss ls ms → IsSome (slice_get ls i) →
    IsSome (slice_get ms i) × AreAgreed u (update_at i (λ s. record s { part = farther s.order s.part j }) ss) (update_at i (sought j) ls) (update_at i (sought j) ms)
agreed_sought u i j [] [] [] h is = (is, tt)
agreed_sought u zero j (s ∷ ss) (l ∷ ls) (m ∷ ms) h is = (refl, (agree_sought u s.order s.range j l m h.0, h.1))
agreed_sought u (suc i) j (s ∷ ss) (l ∷ ls) (m ∷ ms) h is = let next = agreed_sought u i j ss ls ms h.1 is in (next.0, (h.0, next.1))
agreed_sought u i j ss ls ms h is = absurd h

-- ---- a transcript

module _ (r : Rules) (cs : List Commit) (b n : ℕ) (u : List ℕ → Bool)
    (same : (ops : Ops) (k : List ℕ) → u k ≡ true → seen r cs b ops k ≡ seen r cs n ops k)
    (opened : (ops : Ops) (o : IterationOrder) (range : BytesRange) → Agree u o range (o, rows_seen r cs b ops o range) (o, rows_seen r cs n ops o range)) where
  pub alone_there : (ops : Ops) (rs : Reading) (ls ms : List Left) (ts : List TranscriptStep) → AreAgreed u rs.scans ls ms → IsQuiet u (with_steps rs ts) → AloneFrom r cs b ops ls ts → AloneFrom r cs n ops ms ts
  alone_there ops rs ls ms [] h q a = tt
  alone_there ops rs ls ms (Get j x ∷ ts) h q a =
      (a.0 ∙ ap (option_map key_value) (same ops j (quiet_got u rs j x (quiet_first u (with_step rs (Get j x)) ts q))), alone_there ops (with_step rs (Get j x)) ls ms ts h q a.1)
  alone_there ops rs ls ms (Scan o range ∷ ts) h q a =
      alone_there ops (with_step rs (Scan o range)) _ _ ts
      (agreed_more u rs.scans ls ms (record { order = o; range = range; part = Nothing }) (o, rows_seen r cs b ops o range) (o, rows_seen r cs n ops o range) h (opened ops o range)) q a
  alone_there ops rs ls ms (Next i x ∷ ts) h q a =
      let next = agreed_next u i x rs.scans ls ms h (quiet_scans u (with_step rs (Next i x)) (quiet_first u (with_step rs (Next i x)) ts q)) a.0 in
      (next.0, alone_there ops (with_step rs (Next i x)) _ _ ts next.1 q a.1)
  alone_there ops rs ls ms (Seek i j ∷ ts) h q a =
      let next = agreed_sought u i j rs.scans ls ms h a.0 in
      (next.0, alone_there ops (with_step rs (Seek i j)) _ _ ts next.1 q a.1)
  alone_there ops rs ls ms (View range ∷ ts) h q a = alone_there ops (with_step rs (View range)) ls ms ts h q a
  alone_there ops rs ls ms (Own j op ∷ ts) h q a = alone_there (ops ++ ((j, op) ∷ [])) rs ls ms ts h q a
