-- What calls in a transaction leave of the others, and what its end leaves.
use Rattle.std.proofs.Common.{◌≡◌, ℕ, Bool, Result, Ok, Err, inl, inr, is_some, ◌||◌, true, false, cond, List, [], ◌∷◌, ◌++◌, Option, Some, None, bytes_eq, refl, sym, ap, ◌∙◌}
use Rattle.std.specs.Prelude.{◌⊎◌, OnErr}
use Rattle.slate_types.specs.declared.config.IsolationLevel.{IsolationLevel}
use Rattle.slate_types.specs.declared.error.SlateDBError.{SlateDBError}
use Rattle.slate_types.specs.Outside.{no_parts}
use Rattle.slate_mem.specs.KeyTests.{Segments}
use Rattle.slate_txn.specs.declared.event.TranscriptStep.{TranscriptStep}
use Rattle.slate_txn.specs.declared.line.Line.TheVariants as lines
use Rattle.slate_txn.specs.Named.{find_named, update_named, without}
use Rattle.slate_txn.specs.Reply as replies
use Rattle.slate_txn.specs.Reply.{Reply}
use Rattle.slate_txn.specs.State.{Rules, State, Tx, begun, is_open, last}
use Rattle.slate_txn.specs.Step.{closed, noted, step}
use Rattle.slate_txn.proofs.NamedLaws.{without_last}
use Rattle.slate_db.specs.Committed.{IsEnded}
use Rattle.slate_db.specs.Frozen.{IsFrozen}
use Rattle.slate_db.specs.Meaning.{Meaning, rules_in}
use Rattle.slate_db.specs.Model.{CoreModel, IsSame}
use Rattle.slate_db.specs.Operated.{operated}
use Rattle.slatedb.specs.Turns.{ChangesAlone, IsUndone}

update_others : {X : Type 0} (k : List ℕ) (f : X → X) (ps : List (List ℕ × X)) → without k (update_named k f ps) ≡ without k ps
update_others k f [] = refl
update_others {X} k f (p ∷ ps) = by (bytes_eq p.0 k) refl (update_others k f ps)
  where
    by : (b : Bool) → bytes_eq p.0 k ≡ b → without k (update_named k f ps) ≡ without k ps → without k (cond b ((p.0, f p.1) ∷ ps) (p ∷ update_named k f ps)) ≡ cond b ps (p ∷ without k ps)
    by true e h = ap (λ (t : Bool). cond t ps ((p.0, f p.1) ∷ without k ps)) e
    by false e h = ap (λ (t : Bool). cond t (update_named k f ps) (p ∷ without k (update_named k f ps))) e ∙ ap (λ (qs : List (List ℕ × X)). p ∷ qs) h

pub on_err : {T E : Type 0} (P : Type 0) (r : Result T E) → P → OnErr r P
on_err P (Ok x) p = tt
on_err P (Err e) p = p

-- ---- calls in the transaction

pub changes_none : (id : List ℕ) (c d : CoreModel) → d ≡ c → ChangesAlone id c d
changes_none id c d is = record { commits = ap (λ (v : CoreModel). v.state.commits) is; others = ap (λ (v : CoreModel). without id v.state.txns) is }

pub changes_then : (id : List ℕ) (c d e : CoreModel) → ChangesAlone id c d → ChangesAlone id d e → ChangesAlone id c e
changes_then id c d e first second = record { commits = second.commits ∙ first.commits; others = second.others ∙ first.others }

pub changes_noted : (id : List ℕ) (c d : CoreModel) (ts : List TranscriptStep) → d ≡ record c { state = noted c.state id ts } → ChangesAlone id c d
changes_noted id c d ts is = record {
  commits = ap (λ (v : CoreModel). v.state.commits) is;
  others = ap (λ (v : CoreModel). without id v.state.txns) is ∙ update_others id (λ (t : Tx). record t { transcript = t.transcript ++ ts }) c.state.txns;
}

pub changes_operated : (id : List ℕ) (c d : CoreModel) (f : Tx → Tx) → d ≡ operated c id f → ChangesAlone id c d
changes_operated id c d f is = record { commits = ap (λ (v : CoreModel). v.state.commits) is; others = ap (λ (v : CoreModel). without id v.state.txns) is ∙ update_others id f c.state.txns }

pub changes_flushed : (id : List ℕ) (c d : CoreModel) (n : ℕ) → ((m : Meaning) (g : Segments) → step (rules_in c.settings m g) c.state lines.Flush ≡ (d.state, replies.Flushed n)) → ChangesAlone id c d
changes_flushed id c d n is = record {
  commits = sym (ap (λ (p : State × Reply). p.0.commits) (is no_parts None));
  others = sym (ap (λ (p : State × Reply). without id p.0.txns) (is no_parts None));
}

pub changes_unflushed : (id : List ℕ) (c between d : CoreModel) → IsSame c between ⊎ IsFrozen c between → IsSame between d → ChangesAlone id c d
changes_unflushed id c between d frozen same = changes_then id c between d (by frozen) (record { commits = ap (λ (v : CoreModel). v.state.commits) same; others = ap (λ (v : CoreModel). without id v.state.txns) same })
  where
    by : IsSame c between ⊎ IsFrozen c between → ChangesAlone id c between
    by (inl is) = record { commits = ap (λ (v : CoreModel). v.state.commits) is; others = ap (λ (v : CoreModel). without id v.state.txns) is }
    by (inr (inl is)) = changes_none id c between is.1
    by (inr (inr is)) = record { commits = ap (λ (v : CoreModel). v.state.commits) is.1; others = ap (λ (v : CoreModel). without id v.state.txns) is.1 }

-- ---- its begin and its end

record IsBegun (id : List ℕ) (s t : State) : Type 0 where
  pub commits : t.commits ≡ s.commits
  pub others : without id t.txns ≡ s.txns

begun_by : (r : Rules) (s t : State) (id : List ℕ) (level : IsolationLevel) (n : ℕ) → find_named id s.txns ≡ None → step r s (lines.Begin id level) ≡ (t, replies.Begun id n) → IsBegun id s t
begun_by r s t id level n fresh is = by (is_open s id) is
  where
    refused : (e : SlateDBError) → replies.Refused e ≡ replies.Begun id n → ⊥
    refused e h = cc

    by : (b : Bool) → ◌≡◌ {A = State × Reply} (cond b (s, replies.Refused (SlateDBError.DuplicateTransaction id)) (record s { txns = s.txns ++ ((id, begun level (last r s)) ∷ []) }, replies.Begun id (last r s))) (t, replies.Begun id n) → IsBegun id s t
    by true h = absurd (refused _ (ap (λ (p : State × Reply). p.1) h))
    by false h = record {
      commits = sym (ap (λ (p : State × Reply). p.0.commits) h);
      others = sym (ap (λ (p : State × Reply). without id p.0.txns) h) ∙ without_last id (begun level (last r s)) s.txns fresh;
    }

rolled_back : (r : Rules) (s t : State) (id : List ℕ) → step r s (lines.Rollback id) ≡ (t, replies.Done) → (t.commits ≡ s.commits) × (t.txns ≡ without id s.txns)
rolled_back r s t id is = by (is_open s id) is
  where
    refused : (e : SlateDBError) → replies.Refused e ≡ replies.Done → ⊥
    refused e h = cc

    by : (b : Bool) → ◌≡◌ {A = State × Reply} (cond b (closed s id, replies.Done) (s, replies.Refused (SlateDBError.UnknownTransaction id))) (t, replies.Done) → (t.commits ≡ s.commits) × (t.txns ≡ without id s.txns)
    by true h = (sym (ap (λ (p : State × Reply). p.0.commits) h), sym (ap (λ (p : State × Reply). p.0.txns) h))
    by false h = absurd (refused _ (ap (λ (p : State × Reply). p.1) h))

not_found : (s : State) (id : List ℕ) → is_open s id ≡ false → find_named id s.txns ≡ None
not_found s id fresh = by (find_named id s.txns) fresh
  where
    by : (o : Option Tx) → (is_some o || is_some (find_named id s.snapshots)) ≡ false → o ≡ None
    by None h = refl
    by (Some t) h = cc

pub undone_none : (c d : CoreModel) → d ≡ c → IsUndone c d
undone_none c d is = record { commits = ap (λ (v : CoreModel). v.state.commits) is; transactions = ap (λ (v : CoreModel). v.state.txns) is }

-- c, a, b, d: before the begin, behind it, before the end and behind it
module _ (c a b d : CoreModel) (id : List ℕ) (level : IsolationLevel) (n : ℕ) (fresh : is_open c.state id ≡ false)
    (begins : (m : Meaning) (g : Segments) → step (rules_in c.settings m g) c.state (lines.Begin id level) ≡ (a.state, replies.Begun id n)) (between : ChangesAlone id a b) where
  opening : IsBegun id c.state a.state
  opening = begun_by (rules_in c.settings no_parts None) c.state a.state id level n (not_found c.state id fresh) (begins no_parts None)

  pub undone_back : ((m : Meaning) (g : Segments) → step (rules_in b.settings m g) b.state (lines.Rollback id) ≡ (d.state, replies.Done)) → IsUndone c d
  undone_back ends =
      let back = rolled_back (rules_in b.settings no_parts None) b.state d.state id (ends no_parts None) in
      record { commits = back.0 ∙ between.commits ∙ opening.commits; transactions = back.1 ∙ between.others ∙ opening.others }

  pub undone_ended : IsEnded b d id → IsUndone c d
  undone_ended is = record {
    commits = ap (λ (v : CoreModel). v.state.commits) is ∙ between.commits ∙ opening.commits;
    transactions = ap (λ (v : CoreModel). v.state.txns) is ∙ between.others ∙ opening.others;
  }
