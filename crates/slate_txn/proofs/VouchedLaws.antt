-- After any lines each open transaction's transcript is vouched.
use Rattle.std.proofs.Common.{◌≡◌, ℕ, ◌+◌, ◌<◌, ◌≤◌, Bool, true, false, cond, List, [], ◌∷◌, ◌++◌, bytes_eq, Some, refl, sym, ap, subst, ◌∙◌, append-nil, arith}
use Rattle.std.specs.List.{AllByRecursion}
use Rattle.slate_txn.specs.declared.event.TranscriptStep.{TranscriptStep}
use Rattle.slate_txn.specs.declared.event.TranscriptStep.TheVariants as steps
use Rattle.slate_mem.specs.Batch.{Ops}
use Rattle.slate_txn.specs.Named.{find_named, without, set_named, update_named}
use Rattle.slate_txn.specs.declared.line.Line.{Line}
use Rattle.slate_txn.specs.State.{Rules, Commit, Tx, State, begun, last, last_of}
use Rattle.slate_txn.specs.Step.{after}
use Rattle.slate_txn.specs.Alone.{AloneFrom, IsVouched, own_of, scans_left}
use Rattle.slate_txn.proofs.ReadLaws.{same_commits, alone_same, alone_more}
use Rattle.slate_txn.proofs.StepLaws.{Keeps, Grows, marks, reads, own, after_keeps, own_append}
use Rattle.std.proofs.Math.Nat.{le_refl}

-- ---- values under names

all_set : {X : Type 0} (P : X → Type 0) (k : List ℕ) (x : X) (ps : List (List ℕ × X)) → P x → AllByRecursion (λ p. P p.1) ps → AllByRecursion (λ p. P p.1) (set_named k x ps)
all_set P k x [] h hs = (h, tt)
all_set P k x (p ∷ ps) h hs = (hs.0, all_set P k x ps h hs.1)

all_without : {X : Type 0} (P : X → Type 0) (k : List ℕ) (ps : List (List ℕ × X)) → AllByRecursion (λ p. P p.1) ps → AllByRecursion (λ p. P p.1) (without k ps)
all_without P k [] hs = tt
all_without P k (p ∷ ps) hs = by (bytes_eq p.0 k) (all_without P k ps hs.1)
  where
    by : (b : Bool) → AllByRecursion (λ p. P p.1) (without k ps) → AllByRecursion (λ p. P p.1) (cond b ps (p ∷ without k ps))
    by true later = hs.1
    by false later = (hs.0, later)

-- f is asked of the one that is found alone
all_update : {X : Type 0} (P : X → Type 0) (k : List ℕ) (f : X → X) (ps : List (List ℕ × X)) → ((x : X) → find_named k ps ≡ Some x → P x → P (f x)) → AllByRecursion (λ p. P p.1) ps → AllByRecursion (λ p. P p.1) (update_named k f ps)
all_update P k f [] g hs = tt
all_update P k f (p ∷ ps) g hs = by (bytes_eq p.0 k) g (λ d. all_update P k f ps d hs.1)
  where
    by : (b : Bool) → ((x : _) → cond b (Some p.1) (find_named k ps) ≡ Some x → P x → P (f x)) →
        (((x : _) → find_named k ps ≡ Some x → P x → P (f x)) → AllByRecursion (λ p. P p.1) (update_named k f ps)) → AllByRecursion (λ p. P p.1) (cond b ((p.0, f p.1) ∷ ps) (p ∷ update_named k f ps))
    by true d later = (d p.1 refl hs.0, hs.1)
    by false d later = (hs.0, later d)

all_map : {X : Type 0} (P : X → Type 0) (Q : X → Type 0) (ps : List (List ℕ × X)) → ((x : X) → P x → Q x) → AllByRecursion (λ p. P p.1) ps → AllByRecursion (λ p. Q p.1) ps
all_map P Q [] g hs = tt
all_map P Q (p ∷ ps) g hs = (g p.1 hs.0, all_map P Q ps g hs.1)

-- ---- one transaction

pub record IsFine (r : Rules) (cs : List Commit) (t : Tx) : Type 0 where
  pub begins : t.begin ≤ last_of r.start_seq cs
  pub same : t.ops ≡ own_of t.transcript
  pub vouched : IsVouched r cs t

more_alone : (r : Rules) (cs : List Commit) (t : Tx) (more : List TranscriptStep) → IsFine r cs t → AloneFrom r cs t.begin t.ops (scans_left r cs t.begin t.transcript) more → AloneFrom r cs t.begin [] [] (t.transcript ++ more)
more_alone r cs t more h a = alone_more r cs t.begin [] [] t.transcript more h.vouched (subst (λ (os : Ops). AloneFrom r cs t.begin os (scans_left r cs t.begin t.transcript) more) h.same a)

fine_grows : (r : Rules) (cs : List Commit) (t u : Tx) → Grows r cs t u → IsFine r cs t → IsFine r cs u
fine_grows r cs t _ (marks ms us) h = record { begins = h.begins; same = h.same; vouched = h.vouched }
fine_grows r cs t _ (reads more a none) h = record {
  begins = h.begins;
  same = h.same ∙ sym (append-nil (own_of t.transcript)) ∙ ap (λ os. own_of t.transcript ++ os) (sym none) ∙ sym (own_append t.transcript more);
  vouched = more_alone r cs t more h a;
}
fine_grows r cs t _ (own k op) h = record {
  begins = h.begins;
  same = ap (λ os. os ++ ((k, op) ∷ [])) h.same ∙ sym (own_append t.transcript (steps.Own k op ∷ []));
  vouched = more_alone r cs t (steps.Own k op ∷ []) h tt;
}

last_more : (n : ℕ) (cs : List Commit) (c : Commit) → last_of n (cs ++ (c ∷ [])) ≡ c.seq
last_more n [] c = refl
last_more n (x ∷ xs) c = last_more x.seq xs c

le_more : (a b c : ℕ) → a ≤ b → c ≡ b + 1 → a ≤ c
le_more a b c h e = omega (arith, h, e)

lt_more : (a b : ℕ) → a ≤ b → a < b + 1
lt_more a b h = omega (arith, h)

fine_commit : (r : Rules) (cs : List Commit) (c : Commit) (t : Tx) → c.seq ≡ last_of r.start_seq cs + 1 → IsFine r cs t → IsFine r (cs ++ (c ∷ [])) t
fine_commit r cs c t e h = record {
  begins = le_more t.begin (last_of r.start_seq cs) (last_of r.start_seq (cs ++ (c ∷ []))) h.begins (last_more r.start_seq cs c ∙ e);
  same = h.same;
  vouched = alone_same r cs (cs ++ (c ∷ [])) t.begin [] [] t.transcript
      (sym (same_commits t.begin cs (c ∷ []) (subst (λ n. t.begin < n) (sym e) (lt_more t.begin (last_of r.start_seq cs) h.begins), tt))) h.vouched;
}

-- ---- all of a state

abbrev pub AreFine : Rules → State → Type 0
AreFine r s = AllByRecursion (λ p. IsFine r s.commits p.1) s.txns

pub fine : (r : Rules) → Keeps r (AreFine r)
fine r = record {
  moment = λ s m h. h;
  flush = λ s h. h;
  begin = λ s name level e h. all_set (IsFine r s.commits) name (begun level (last r s)) s.txns (record { begins = le_refl (last r s); same = refl; vouched = tt }) h;
  snapshot = λ s name e h. h;
  changed = λ s name f g h. all_update (IsFine r s.commits) name f s.txns (λ t e k. fine_grows r s.commits t (f t) (g t e) k) h;
  closes = λ s name h. all_without (IsFine r s.commits) name s.txns h;
  commits = λ s o os tracked keys h. all_map (IsFine r s.commits) (IsFine r _) s.txns (λ t k. fine_commit r s.commits _ t refl k) h;
}

pub lines_vouched : (r : Rules) (ls : List Line) (s : State) → s.txns ≡ [] → AllByRecursion (λ p. IsVouched r (after r s ls).commits p.1) (after r s ls).txns
lines_vouched r ls s none =
    all_map (IsFine r (after r s ls).commits) (IsVouched r (after r s ls).commits) (after r s ls).txns (λ t h. h.vouched)
    (after_keeps r (AreFine r) (fine r) ls s (subst (λ ps. AllByRecursion (λ p. IsFine r s.commits p.1) ps) (sym none) tt))
