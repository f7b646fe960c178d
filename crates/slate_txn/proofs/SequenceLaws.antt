-- Sequences count by one.
use Rattle.std.proofs.Common.{◌≡◌, ℕ, ◌+◌, List, [], ◌∷◌, ◌++◌, Some, None, refl}
use Rattle.slate_txn.specs.declared.event.Event.{Event}
use Rattle.slate_txn.specs.declared.event.Event.TheVariants as events
use Rattle.slate_txn.specs.declared.line.Line.{Line}
use Rattle.slate_txn.specs.State.{Rules, Commit, State, last_of}
use Rattle.slate_txn.specs.Step.{after}
use Rattle.slate_txn.specs.Replay.{apply, apply_all, Allowed, LegalFrom, ids_of}
use Rattle.slate_txn.specs.Laws.{Counts}
use Rattle.slate_txn.proofs.StepLaws.{Keeps, after_keeps}

pub counts_more : (n : ℕ) (cs : List Commit) (c : Commit) → Counts n cs → c.seq ≡ last_of n cs + 1 → Counts n (cs ++ (c ∷ []))
counts_more n [] c h e = (e, tt)
counts_more n (x ∷ xs) c h e = (h.0, counts_more x.seq xs c h.1 e)

counts_same : (n : ℕ) (cs : List Commit) → Counts n cs → Counts n (cs ++ [])
counts_same n [] h = tt
counts_same n (x ∷ xs) h = (h.0, counts_same x.seq xs h.1)

pub apply_counts : (n0 : ℕ) (s : State) (used : List (List ℕ)) (e : Event) → Counts n0 s.commits → Allowed n0 s used e → Counts n0 (apply s e).commits
apply_counts n0 s used (events.Begin id level start) h a = h
apply_counts n0 s used (events.End id) h a = h
apply_counts n0 s used (events.Commit id None now os tracked ts) h a = counts_same n0 s.commits h
apply_counts n0 s used (events.Commit id (Some n) now os tracked ts) h a = counts_more n0 s.commits _ h a.1.0
apply_counts n0 s used (events.Write n now os) h a = counts_more n0 s.commits _ h a.0.0
apply_counts n0 s used events.Freeze h a = h
apply_counts n0 s used (events.Install through tables) h a = h
apply_counts n0 s used (events.Snapshot id n) h a = h
apply_counts n0 s used (events.Release id) h a = h

pub legal_counts : (n0 : ℕ) (es : List Event) (s : State) (used : List (List ℕ)) → Counts n0 s.commits → LegalFrom n0 s used es → Counts n0 (apply_all s es).commits
legal_counts n0 [] s used h legal = h
legal_counts n0 (e ∷ es) s used h legal = legal_counts n0 es (apply s e) (ids_of e ++ used) (apply_counts n0 s used e h legal.0) legal.1

-- ---- lines

sequences : (r : Rules) → Keeps r (λ s. Counts r.start_seq s.commits)
sequences r = record {
  moment = λ s m h. h;
  flush = λ s h. h;
  begin = λ s name level e h. h;
  snapshot = λ s name e h. h;
  changed = λ s name f g h. h;
  closes = λ s name h. h;
  commits = λ s o os tracked keys h. counts_more r.start_seq s.commits _ h refl;
}

pub lines_count : (r : Rules) (ls : List Line) (s : State) → Counts r.start_seq s.commits → Counts r.start_seq (after r s ls).commits
lines_count r ls s h = after_keeps r (λ t. Counts r.start_seq t.commits) (sequences r) ls s h
