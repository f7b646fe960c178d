-- How a search goes on, row by row, and what it has found at its end.
use Rattle.std.proofs.Common.{◌≡◌, ℕ, List, [], ◌∷◌, ◌++◌, map, take, drop, take-append-drop, append_assoc, append-nil, Option, Some, None, refl, sym, ap, subst, ◌∙◌}
use Rattle.slate_types.specs.declared.config.IsolationLevel.{IsolationLevel}
use Rattle.slate_types.specs.declared.types.KeyValue.{KeyValue}
use Rattle.slate_types.specs.declared.types.RowEntry.{RowEntry}
use Rattle.slate_types.specs.Outside.{Meaning, Objects, OnlyReads, Reach}
use Rattle.slate_types.specs.Rows.{key_value}
use Rattle.slate_types.proofs.Reaching.{reads_none, reads_then}
use Rattle.slate_txn.specs.declared.event.TranscriptStep.{TranscriptStep}
use Rattle.slate_txn.specs.declared.event.TranscriptStep.TheVariants as steps
use Rattle.slate_txn.specs.Alone.{first_left}
use Rattle.slate_db.specs.declared.scan.TxnIterator.{TxnIterator}
use Rattle.slate_db.specs.Model.{CoreModel}
use Rattle.slate_db.specs.Scans.{IsOpenScan, IsScanOf, id_of, number_of, scan_of}
use Rattle.slate_steps.specs.Reads.{IsMetBy, IsReading, IsScanSince}
use Rattle.slate_steps.specs.Steps.{IsWithin, Sees}
use Rattle.slate_steps.proofs.StoreTruth.{met_first, met_next}
use Rattle.slate_index.specs.Looking.{HandsKeys, HasWalked, IsWalking}

pub walking_none : (before : Reach) (c : CoreModel) (x : TxnIterator) → IsOpenScan c x → IsWalking before before c c x x []
walking_none before c x opened = record {
  steps = [];
  names = record { named = refl; number = refl; ordered = refl; ranged = refl };
  opened = opened;
  within = λ b level ts h. subst (λ (us : List TranscriptStep). IsWithin b (id_of x) level us c) (sym (append-nil ts)) h;
  hands = λ os b ts rows met h. record { first = []; rest = rows; whole = refl; handed = refl; left = subst (λ (us : List TranscriptStep). IsReading os before.meaning b us x rows) (sym (append-nil ts)) h };
  since = λ b from h. h;
  reads = reads_none before;
}

-- what one call more says, by its answer
pub record HasNext (before after : Reach) (c d : CoreModel) (x y : TxnIterator) (a : Option KeyValue) : Type 0 where
  pub names : IsScanOf (id_of x) (number_of x) (scan_of x).order (scan_of x).range y
  pub opened : IsOpenScan d y
  pub within : (b : CoreModel) (level : IsolationLevel) (ts : List TranscriptStep) → IsWithin b (id_of x) level ts c → IsWithin b (id_of x) level (ts ++ (steps.Next (number_of x) a ∷ [])) d
  pub reading : (b : CoreModel) (ts : List TranscriptStep) (os : Objects) (rows : List RowEntry) → IsMetBy before.meaning os before after → IsReading os before.meaning b ts x rows →
      (a ≡ first_left rows) × IsReading os before.meaning b (ts ++ (steps.Next (number_of x) a ∷ [])) y (drop 1 rows) × (Sees before.meaning b ts → Sees before.meaning b (ts ++ (steps.Next (number_of x) a ∷ [])))
  pub since : (b : CoreModel) (from : Reach) → IsScanSince from before b x → IsScanSince from after b y
  pub reads : OnlyReads before after

named_then : (x y z : TxnIterator) → IsScanOf (id_of x) (number_of x) (scan_of x).order (scan_of x).range y → IsScanOf (id_of y) (number_of y) (scan_of y).order (scan_of y).range z → IsScanOf (id_of x) (number_of x) (scan_of x).order (scan_of x).range z
named_then x y z a b = record { named = b.named ∙ a.named; number = b.number ∙ a.number; ordered = b.ordered ∙ a.ordered; ranged = b.ranged ∙ a.ranged }

-- the steps of a call more, on the core as the walk left it
within_then : (b : CoreModel) (level : IsolationLevel) (ts us : List TranscriptStep) (t : TranscriptStep) (id other : List ℕ) (d e : CoreModel) → other ≡ id → IsWithin b id level (ts ++ us) d →
    ((b : CoreModel) (level : IsolationLevel) (ts : List TranscriptStep) → IsWithin b other level ts d → IsWithin b other level (ts ++ (t ∷ [])) e) → IsWithin b id level (ts ++ (us ++ (t ∷ []))) e
within_then b level ts us t id other d e same h more =
    subst (λ (vs : List TranscriptStep). IsWithin b id level vs e) (append_assoc ts us (t ∷ []))
    (subst (λ (i : List ℕ). IsWithin b i level ((ts ++ us) ++ (t ∷ [])) e) same (more b level (ts ++ us) (subst (λ (i : List ℕ). IsWithin b i level (ts ++ us) d) (sym same) h)))

-- ---- one row more

same_row : (row : KeyValue) (r : RowEntry) → Some row ≡ Some (key_value r) → row ≡ key_value r
same_row row r s = cc

map_last : (xs : List RowEntry) (r : RowEntry) → map (λ s. s.key) xs ++ (r.key ∷ []) ≡ map (λ s. s.key) (xs ++ (r ∷ []))
map_last [] r = refl
map_last (s ∷ xs) r = ap (λ ks. s.key ∷ ks) (map_last xs r)

more_rows : (first rest rows : List RowEntry) → rows ≡ first ++ rest → rows ≡ (first ++ take 1 rest) ++ drop 1 rest
more_rows first rest rows whole = whole ∙ ap (λ xs. first ++ xs) (sym (take-append-drop 1 rest)) ∙ sym (append_assoc first (take 1 rest) (drop 1 rest))

more_keys : (first rest : List RowEntry) (row : KeyValue) → Some row ≡ first_left rest → map (λ s. s.key) first ++ (row.key ∷ []) ≡ map (λ s. s.key) (first ++ take 1 rest)
more_keys first [] row is = let clash : Some row ≡ None = is in cc
more_keys first (r ∷ rest) row is = (λ i. map (λ s. s.key) first ++ ((same_row row r is i).key ∷ [])) ∙ map_last first r

module _ (before now after : Reach) (c d e : CoreModel) (x y z : TxnIterator) (keys : List (List ℕ)) (w : IsWalking before now c d x y keys) where
  pub still_within : (a : Option KeyValue) → HasNext now after d e y z a → (b : CoreModel) (level : IsolationLevel) (ts : List TranscriptStep) → IsWithin b (id_of x) level ts c →
      IsWithin b (id_of x) level (ts ++ (w.steps ++ (steps.Next (number_of y) a ∷ []))) e
  still_within a n b level ts h = within_then b level ts w.steps (steps.Next (number_of y) a) (id_of x) (id_of y) d e w.names.named (w.within b level ts h) n.within

  read_on : (os : Objects) (b : CoreModel) (ts : List TranscriptStep) (rest : List RowEntry) → IsReading os before.meaning b ts y rest → IsReading os now.meaning b ts y rest
  read_on os b ts rest h = subst (λ (m : Meaning). IsReading os m b ts y rest) (sym w.reads.meaning) h

  read_back : (os : Objects) (b : CoreModel) (ts : List TranscriptStep) (rest : List RowEntry) → IsReading os now.meaning b ts z rest → IsReading os before.meaning b ts z rest
  read_back os b ts rest h = subst (λ (m : Meaning). IsReading os m b ts z rest) w.reads.meaning h

  pub walking_on : (row : KeyValue) → HasNext now after d e y z (Some row) → IsWalking before after c e x z (keys ++ (row.key ∷ []))
  walking_on row n = record {
    steps = w.steps ++ (steps.Next (number_of y) (Some row) ∷ []);
    names = named_then x y z w.names n.names;
    opened = n.opened;
    within = still_within (Some row) n;
    hands = λ os b ts rows met h.
        let k = w.hands os b ts rows (met_first before.meaning os before now after w.reads n.reads met) h in
        let q = n.reading b (ts ++ w.steps) os k.rest (met_next os before now after w.reads n.reads met) (read_on os b (ts ++ w.steps) k.rest k.left) in
        record {
          first = k.first ++ take 1 k.rest;
          rest = drop 1 k.rest;
          whole = more_rows k.first k.rest rows k.whole;
          handed = ap (λ (ks : List (List ℕ)). ks ++ (row.key ∷ [])) k.handed ∙ more_keys k.first k.rest row q.0;
          left = subst (λ (us : List TranscriptStep). IsReading os before.meaning b us z (drop 1 k.rest)) (append_assoc ts w.steps (steps.Next (number_of y) (Some row) ∷ []))
              (read_back os b ((ts ++ w.steps) ++ (steps.Next (number_of y) (Some row) ∷ [])) (drop 1 k.rest) q.1);
        };
    since = λ b from h. n.since b from (w.since b from h);
    reads = reads_then before now after w.reads n.reads;
  }

  -- at the end none is left
  pub walked : HasNext now after d e y z None → HasWalked before after x keys
  walked n = record { all = λ os b ts rows met h. by os b ts rows met (w.hands os b ts rows (met_first before.meaning os before now after w.reads n.reads met) h) }
    where
      by : (os : Objects) (b : CoreModel) (ts : List TranscriptStep) (rows : List RowEntry) → IsMetBy before.meaning os before after → HandsKeys os before.meaning b (ts ++ w.steps) y keys rows → keys ≡ map (λ r. r.key) rows
      by os b ts rows met h = none h.rest h.whole (n.reading b (ts ++ w.steps) os h.rest (met_next os before now after w.reads n.reads met) (read_on os b (ts ++ w.steps) h.rest h.left)).0
        where
          none : (rest : List RowEntry) → rows ≡ h.first ++ rest → None ≡ first_left rest → keys ≡ map (λ r. r.key) rows
          none [] whole q = h.handed ∙ ap (map (λ r. r.key)) (sym (whole ∙ append-nil h.first))
          none (r ∷ rest) whole q = let clash : None ≡ Some (key_value r) = q in cc

-- ---- round a walk

pub still_none : (b : CoreModel) (level : IsolationLevel) (ts : List TranscriptStep) (id : List ℕ) (c d : CoreModel) → d ≡ c → IsWithin b id level ts c → (us : List TranscriptStep) × IsWithin b id level (ts ++ us) d
still_none b level ts id c d same h = ([], subst (λ (v : CoreModel). IsWithin b id level (ts ++ []) v) (sym same) (subst (λ (us : List TranscriptStep). IsWithin b id level us c) (sym (append-nil ts)) h))

-- behind the scan's opening
pub still_behind : (b : CoreModel) (level : IsolationLevel) (ts : List TranscriptStep) (t : TranscriptStep) (id other : List ℕ) (d e : CoreModel) → other ≡ id → IsWithin b id level (ts ++ (t ∷ [])) d →
    ((b : CoreModel) (level : IsolationLevel) (ts : List TranscriptStep) → IsWithin b other level ts d → (us : List TranscriptStep) × IsWithin b other level (ts ++ us) e) → (us : List TranscriptStep) × IsWithin b id level (ts ++ us) e
still_behind b level ts t id other d e same h more =
    let s = more b level (ts ++ (t ∷ [])) (subst (λ (i : List ℕ). IsWithin b i level (ts ++ (t ∷ [])) d) (sym same) h) in
    ((t ∷ []) ++ s.0, subst (λ (vs : List TranscriptStep). IsWithin b id level vs e) (append_assoc ts (t ∷ []) s.0) (subst (λ (i : List ℕ). IsWithin b i level ((ts ++ (t ∷ [])) ++ s.0) e) same s.1))

module _ (before mid : Reach) (only : OnlyReads before mid) (x : TxnIterator) (os : Objects) (told : before.objects ≡ Some os) where
  pub told_mid : mid.objects ≡ Some os
  told_mid = only.objects ∙ told

  pub reading_mid : (b : CoreModel) (ts : List TranscriptStep) (rows : List RowEntry) → IsReading os before.meaning b ts x rows → IsReading os mid.meaning b ts x rows
  reading_mid b ts rows h = subst (λ (m : Meaning). IsReading os m b ts x rows) (sym only.meaning) h

-- the same by what was met from here on
pub walked_rows : (before mid after : Reach) (x : TxnIterator) (os : Objects) (b : CoreModel) (ts : List TranscriptStep) (rows : List RowEntry) (keys : List (List ℕ)) → OnlyReads before mid → OnlyReads mid after →
    IsMetBy before.meaning os before after → IsReading os before.meaning b ts x rows → HasWalked mid after x keys → keys ≡ map (λ r. r.key) rows
walked_rows before mid after x os b ts rows keys only later met h w =
    w.all os b ts rows (met_next os before mid after only later met) (subst (λ (m : Meaning). IsReading os m b ts x rows) (sym only.meaning) h)
