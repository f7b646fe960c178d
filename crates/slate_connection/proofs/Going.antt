-- How connections go on from call to call.
use Rattle.std.proofs.Common.{◌≡◌, ℕ, ℤ, List, [], ◌++◌, Option, Some, Result, Ok, Err, zero, suc, inl, inr, ap, refl, sym, subst, ◌∙◌}
use Rattle.std.specs.Prelude.{IfErr, IfOk, OnErr, OnOk}
use mathlib.Core.List.{IsPrefix}
use Rattle.slate_types.specs.declared.config.IsolationLevel.{IsolationLevel}
use Rattle.slate_types.specs.declared.config.IsolationLevel.TheVariants.{Snapshot}
use Rattle.slate_types.specs.declared.config.Options.{Options}
use Rattle.slate_types.specs.declared.error.SlateDBError.{SlateDBError}
use Rattle.slate_types.specs.Outside.{OnlyReads, Reach}
use Rattle.slate_types.proofs.Reaching.{reads_none, reads_then}
use Rattle.slate_txn.specs.declared.event.Event.{Event}
use Rattle.slate_txn.specs.declared.event.TranscriptStep.{TranscriptStep}
use Rattle.slate_txn.specs.Replay.{IsLegal}
use Rattle.slate_shared.specs.Passes.{Opened, PassModel}
use Rattle.slate_shared.proofs.Lists.{prefix_more, prefix_self, prefix_trans}
use Rattle.slate_steps.specs.Attempts.{HasCommittedBehind, IsAttempt, IsStoreChecked, IsVouchedThere, SeesMore, SeesOnly}
use Rattle.slate_steps.proofs.Attempts.{attempt_steps, vouched_begun}
use Rattle.slate_steps.proofs.OnPass.{committed_then, sees_only_then}
use Rattle.slate_steps.proofs.StoreTruth.{checked_earlier, checked_later}
use Rattle.slate_connection.specs.Connected.{ConnectionModel, GoesOn, HasStayed, HasStayedBy, IsOpenAttempt, Stays, Terms, taken, taken_by}
use Rattle.slate_connection.specs.Transacted.{AfterConflicts, CommitsSteps, HasRead, HasTransacted, IsLast, EndsByRefusal}

-- ---- a transaction

pub goes_none : (p : Terms) (a : Reach) (t : Opened) → GoesOn p a a t t
goes_none p a t = record { table = refl; id = refl; seen = prefix_self t.seen; opens = λ from level h. h; vouched = λ from level h s v. v }

pub goes_then : (p : Terms) (a b c : Reach) (x y z : Opened) → OnlyReads a b → OnlyReads b c → GoesOn p a b x y → GoesOn p b c y z → GoesOn p a c x z
goes_then p a b c x y z first later g h = record {
  table = h.table ∙ g.table;
  id = h.id ∙ g.id;
  seen = prefix_trans x.seen y.seen z.seen g.seen h.seen;
  opens = λ from level o. h.opens from level (g.opens from level o);
  vouched = λ from level o s v.
      h.vouched from level (g.opens from level o) (checked_later p.policies p.meaning z.seen a b c first later s)
      (g.vouched from level o (checked_earlier p.policies p.meaning y.seen z.seen a b c h.seen first later s) v);
}

-- ---- a connection

pub stayed_of : (p : Terms) (s t : ConnectionModel) → HasStayedBy p s t → HasStayed p s t
unfolding HasStayed
stayed_of p s t h = h

pub stayed_as : (p : Terms) (s t : ConnectionModel) → HasStayed p s t → HasStayedBy p s t
unfolding HasStayed
stayed_as p s t h = h

by_none : (p : Terms) (c : ConnectionModel) → HasStayedBy p c c
by_none p c = record { pass = refl; txn = λ x there. (x, there, goes_none p c.reach x); reads = reads_none c.reach }

by_then : (p : Terms) (s t u : ConnectionModel) → HasStayedBy p s t → HasStayedBy p t u → HasStayedBy p s u
by_then p s t u f l = record {
  pass = l.pass ∙ f.pass;
  txn = λ x there.
      let (y, on, g) = f.txn x there in
      let (z, at, h) = l.txn y on in
      (z, at, goes_then p s.reach t.reach u.reach x y z f.reads l.reads g h);
  reads = reads_then s.reach t.reach u.reach f.reads l.reads;
}

pub stays : (p : Terms) (s t : ConnectionModel) → HasStayedBy p s t → Stays p s t
stays p s t h = λ first f. stayed_of p first t (by_then p first s t (stayed_as p first s f) h)

pub stayed : (p : Terms) (s t : ConnectionModel) → Stays p s t → HasStayedBy p s t
stayed p s t h = stayed_as p s t (h s (stayed_of p s s (by_none p s)))

pub reads_same : (a b : Reach) → b ≡ a → OnlyReads a b
reads_same a b is = subst (λ (x : Reach). OnlyReads a x) (sym is) (reads_none a)

-- ---- an attempt

-- its steps are its transcript's
pub open_as : (p : Terms) (from : List Event) (level : IsolationLevel) (ts : List TranscriptStep) (t : Opened) → IsAttempt p.options from level ts t → IsOpenAttempt p from level t
open_as p from level ts t a = subst (λ us. IsAttempt p.options from level us t) (sym (attempt_steps p.options from level ts t a)) a

pub attempt_later : (o : Options) (first from : List Event) (level : IsolationLevel) (ts : List TranscriptStep) (t : Opened) → IsPrefix first from → IsAttempt o from level ts t → IsAttempt o first level ts t
attempt_later o first from level ts t p a = record { start = a.start; known = prefix_trans first from a.start p a.known; begun = a.begun; newest = a.newest; is = a.is; plain = a.plain }

-- old, mid, next, new: the connection at first, with the transaction open, after its calls, and at last
module _ (p : Terms) (old mid next new : ConnectionModel) (only : SeesOnly old.pass mid.pass) (still : mid.reach ≡ old.reach) (ran : Stays p mid next) where
  kept : HasStayedBy p mid next
  kept = stayed p mid next ran

  first_reads : OnlyReads old.reach next.reach
  first_reads = subst (λ (x : Reach). OnlyReads x next.reach) still kept.reads

  pub reads_through : OnlyReads next.reach new.reach → OnlyReads old.reach new.reach
  reads_through last = reads_then old.reach next.reach new.reach first_reads last

  pub sees_through : SeesOnly next.pass new.pass → SeesOnly old.pass new.pass
  sees_through last = sees_only_then old.pass mid.pass new.pass only (subst (λ (q : PassModel). SeesOnly q new.pass) kept.pass last)

  -- what the transaction is then, and that it is open still
  pub kept_open : (from : List Event) (level : IsolationLevel) (t : Opened) → mid.txn ≡ Some t → IsAttempt p.options from level [] t → (u : Opened) × (next.txn ≡ Some u) × IsOpenAttempt p from level u
  kept_open from level t there begins =
      let (u, on, g) = kept.txn t there in
      (u, on, g.opens from level (open_as p from level [] t begins))

  pub committed_through : (level : IsolationLevel) (now : ℤ) (t : Opened) → mid.txn ≡ Some t → IsAttempt p.options old.pass.seen level [] t → OnlyReads next.reach new.reach → (n : Option ℕ) →
      ((u : Opened) → next.txn ≡ Some u → IsOpenAttempt p old.pass.seen level u → HasCommittedBehind p.options u n now next.pass new.pass) → IsLegal p.options.start_seq new.pass.seen → CommitsSteps p level now old new (taken next)
  committed_through level now t there begins last n commits legal =
      let (u, on, g) = kept.txn t there in
      let still_open : IsOpenAttempt p old.pass.seen level u = g.opens old.pass.seen level (open_as p old.pass.seen level [] t begins) in
      let behind : HasCommittedBehind p.options u n now mid.pass new.pass = subst (λ (q : PassModel). HasCommittedBehind p.options u n now q new.pass) kept.pass (commits u on still_open) in
      let before : HasCommittedBehind p.options u n now old.pass new.pass = committed_then p.options u n now old.pass mid.pass new.pass only behind in
      record {
        done = u;
        attempt = subst (λ us. IsAttempt p.options old.pass.seen level us u) (sym (ap taken_by on)) still_open;
        n = n;
        committed = before;
        legal = legal;
        vouched = λ s.
            g.vouched old.pass.seen level (open_as p old.pass.seen level [] t begins)
            (checked_there u before s)
            (vouched_begun p.options p.meaning t level t.tx.begin begins.is);
      }
    where
      checked_there : (u : Opened) → HasCommittedBehind p.options u n now old.pass new.pass → IsStoreChecked p.policies p.meaning new.pass.seen old.reach new.reach → IsStoreChecked p.policies p.meaning u.seen mid.reach next.reach
      checked_there u h s =
          subst (λ (x : Reach). IsStoreChecked p.policies p.meaning u.seen x next.reach) (sym still)
          (checked_earlier p.policies p.meaning u.seen new.pass.seen old.reach next.reach new.reach (subst (λ (es : List Event). IsPrefix u.seen es) (sym h.after) (prefix_more u.seen h.before _ h.known)) first_reads last s)

-- by a connection of which the transaction that is open took no step yet, which is ended without a commit
pub read_through : (p : Terms) (old mid next new : ConnectionModel) (t : Opened) (ts : List TranscriptStep) → mid.reach ≡ old.reach → Stays p mid next → new.reach ≡ next.reach →
    mid.txn ≡ Some t → IsAttempt p.options old.pass.seen Snapshot [] t → ((u : Opened) → next.txn ≡ Some u → IsPrefix u.seen new.pass.seen) → taken next ≡ taken mid ++ ts → HasRead p old new ts
read_through p old mid next new t ts still ran ends there begins known steps_are =
    let then = stayed p mid next ran in
    let (u, on, g) = then.txn t there in
    let as_open : IsOpenAttempt p old.pass.seen Snapshot u = g.opens old.pass.seen Snapshot (open_as p old.pass.seen Snapshot [] t begins) in
    let steps_of : u.tx.transcript ≡ ts = sym (ap taken_by on) ∙ steps_are ∙ ap (λ (us : List TranscriptStep). us ++ ts) (ap taken_by there ∙ attempt_steps p.options old.pass.seen Snapshot [] t begins) in
    record {
      done = u;
      attempt = subst (λ us. IsAttempt p.options old.pass.seen Snapshot us u) steps_of as_open;
      known = known u on;
      vouched = λ s.
          g.vouched old.pass.seen Snapshot (open_as p old.pass.seen Snapshot [] t begins)
          (checked_mid u (known u on) s then.reads)
          (vouched_begun p.options p.meaning t Snapshot t.tx.begin begins.is);
    }
  where
    checked_mid : (u : Opened) → IsPrefix u.seen new.pass.seen → IsStoreChecked p.policies p.meaning new.pass.seen old.reach new.reach → OnlyReads mid.reach next.reach → IsStoreChecked p.policies p.meaning u.seen mid.reach next.reach
    checked_mid u at s reads =
        subst (λ (x : Reach). IsStoreChecked p.policies p.meaning u.seen x next.reach) (sym still)
        (checked_earlier p.policies p.meaning u.seen new.pass.seen old.reach next.reach new.reach at (subst (λ (x : Reach). OnlyReads x next.reach) still reads) (reads_same next.reach new.reach ends) s)

-- what an attempt after others left, by a connection that only saw more in these
pub committed_later : (p : Terms) (level : IsolationLevel) (now : ℤ) (first old new : ConnectionModel) (ts : List TranscriptStep) → SeesOnly first.pass old.pass → OnlyReads first.reach old.reach → OnlyReads old.reach new.reach →
    CommitsSteps p level now old new ts → CommitsSteps p level now first new ts
committed_later p level now first old new ts only reads last h = record {
  done = h.done;
  attempt = attempt_later p.options first.pass.seen old.pass.seen level ts h.done only.more.seen h.attempt;
  n = h.n;
  committed = committed_then p.options h.done h.n now first.pass old.pass new.pass only h.committed;
  legal = h.legal;
  vouched = λ s. h.vouched (checked_later p.policies p.meaning new.pass.seen first.reach old.reach new.reach reads last s);
}

-- attempts, and more behind them
pub conflicts_then : {F V A : Type 0} (seen : V → ConnectionModel) (step : F → V → Result A SlateDBError → V → F → Type 0) (p : Terms) (level : IsolationLevel) (n m : ℕ) (old mid new : ConnectionModel) (f g h : F) →
    AfterConflicts {F = F} {V = V} {A = A} seen step p level n old f mid g → AfterConflicts {F = F} {V = V} {A = A} seen step p level m mid g new h → (k : ℕ) × AfterConflicts {F = F} {V = V} {A = A} seen step p level k old f new h
conflicts_then {F} {V} {A} seen step p level n zero old mid new f g h first last =
    (n, subst (λ (x : ConnectionModel × F). AfterConflicts {F = F} {V = V} {A = A} seen step p level n old f x.0 x.1) (λ i. (sym last.0 i, sym last.1 i)) first)
conflicts_then seen step p level n (suc m) old mid new f g h first (c, e, rest, ends) =
    let (k, all) = conflicts_then seen step p level n m old mid c f g e first rest in
    (suc k, (c, e, all, ends))

-- n, before: the attempts in front, which left the closure so
pub transacted_later : {F V A : Type 0} (seen : V → ConnectionModel) (step : F → V → Result A SlateDBError → V → F → Type 0) (p : Terms) (level : IsolationLevel) (now : ℤ) (n : ℕ) (first old new : ConnectionModel) (given before : F) (a : A) →
    SeesOnly first.pass old.pass → OnlyReads first.reach old.reach → OnlyReads old.reach new.reach → AfterConflicts {F = F} {V = V} {A = A} seen step p level n first given old before →
    HasTransacted seen step p level now old new before a → HasTransacted seen step p level now first new given a
transacted_later seen step p level now n first old new given before a only reads last behind h =
    let (k, all) = conflicts_then seen step p level n h.number first old h.mid given before h.before behind h.earlier in
    record {
      number = k;
      mid = h.mid;
      before = h.before;
      earlier = all;
      after = h.after;
      found = h.found;
      left = h.left;
      ran = h.ran;
      bare = h.bare;
      committed = committed_later p level now first old new (taken (seen h.left)) only reads last h.committed;
    }

-- by the connections behind the handles
pub stays_at : {D : Type 0} (p : Terms) (seen : D → ConnectionModel) (shown last old new : D) → shown ≡ old → last ≡ new → Stays p (seen shown) (seen last) → Stays p (seen old) (seen new)
stays_at {D} p seen shown last old new from to k = λ first h. subst (λ (d : D). HasStayed p first (seen d)) to (k first (subst (λ (d : D). HasStayed p first (seen d)) (sym from) h))

-- a call, by its answer
pub ran_to : {F V R : Type 0} (step : F → V → R → V → F → Type 0) (f : F) (s : V) (r q : R) (t : V) (g : F) → r ≡ q → step f s r t g → step f s q t g
ran_to {F} {V} {R} step f s r q t g is h = subst (λ (x : R). step f s x t g) is h

pub if_ok : {A E : Type 0} (P : A → Type 0) (r : Result A E) (a : A) → r ≡ Ok a → IfOk r P → P a
if_ok {A} {E} P r a is h = subst (λ (x : Result A E). IfOk x P) is h

pub on_ok : {A E : Type 0} (P : Type 0) (r : Result A E) (a : A) → r ≡ Ok a → OnOk r P → P
on_ok {A} {E} P r a is h = subst (λ (x : Result A E). OnOk x P) is h

pub on_err_always : {A E P : Type 0} (r : Result A E) → P → OnErr r P
on_err_always (Ok a) h = tt
on_err_always (Err e) h = h

pub on_err : {A E : Type 0} (P : Type 0) (r : Result A E) (e : E) → r ≡ Err e → OnErr r P → P
on_err {A} {E} P r e is h = subst (λ (x : Result A E). OnErr x P) is h

-- what is open at its begin took no step
pub attempt_nothing : (p : Terms) (from : List Event) (level : IsolationLevel) (c : ConnectionModel) (t : Opened) → c.txn ≡ Some t → IsAttempt p.options from level [] t → taken c ≡ []
attempt_nothing p from level c t there a = ap taken_by there ∙ attempt_steps p.options from level [] t a

-- ---- attempts

pub if_err : {A E : Type 0} (P : E → Type 0) (r : Result A E) (e : E) → r ≡ Err e → IfErr r P → P e
if_err {A} {E} P r e is h = subst (λ (x : Result A E). IfErr x P) is h

pub last_of_attempt : {F V A : Type 0} (seen : V → ConnectionModel) (step : F → V → Result A SlateDBError → V → F → Type 0) (p : Terms) (level : IsolationLevel) (old new : ConnectionModel) (f g : F) (r : Result A SlateDBError) →
    IfOk r (λ a. (s : V) × (t : V) × step f s (Ok a) t g) → IfErr r (EndsByRefusal seen step p level old new f g) → IsLast seen step p level old new f r
last_of_attempt seen step p level old new f g (Ok a) ran cause = (g, ran.0, ran.1, ran.2)
last_of_attempt seen step p level old new f g (Err e) ran cause = (g, cause)

-- ---- for callers

pub committed_at : (p : Terms) (level by : IsolationLevel) (now z : ℤ) (old new : ConnectionModel) (ts : List TranscriptStep) → by ≡ level → z ≡ now → CommitsSteps p by z old new ts → CommitsSteps p level now old new ts
committed_at p level by now z old new ts same moment h = subst (λ (x : IsolationLevel × ℤ). CommitsSteps p x.0 x.1 old new ts) (λ i. (same i, moment i)) h

-- what each run of a closure keeps holds of the closure that ran
pub kept_by_attempts : {F V A : Type 0} (seen : V → ConnectionModel) (step : F → V → Result A SlateDBError → V → F → Type 0) (p : Terms) (level : IsolationLevel) (K : F → Type 0) →
    ((f g : F) (s t : V) (r : Result A SlateDBError) → step f s r t g → K f → K g) → (n : ℕ) (old new : ConnectionModel) (f g : F) → AfterConflicts {F = F} {V = V} {A = A} seen step p level n old f new g → K f → K g
kept_by_attempts seen step p level K keeps zero old new f g h k = subst K (sym h.1) k
kept_by_attempts seen step p level K keeps (suc n) old new f g (c, e, rest, (seq, inl same)) k = subst K (sym same.0) (kept_by_attempts seen step p level K keeps n old c f e rest k)
kept_by_attempts seen step p level K keeps (suc n) old new f g (c, e, rest, (seq, inr (inl (t, run)))) k = keeps e g run.found run.left _ run.ran (kept_by_attempts seen step p level K keeps n old c f e rest k)
kept_by_attempts seen step p level K keeps (suc n) old new f g (c, e, rest, (seq, inr (inr (t, a, at, run, cause)))) k = keeps e g run.found run.left _ run.ran (kept_by_attempts seen step p level K keeps n old c f e rest k)

pub kept_by_runs : {F V A : Type 0} (seen : V → ConnectionModel) (step : F → V → Result A SlateDBError → V → F → Type 0) (p : Terms) (level : IsolationLevel) (now : ℤ) (old new : ConnectionModel) (f : F) (a : A) (K : F → Type 0) →
    ((f g : F) (s t : V) (r : Result A SlateDBError) → step f s r t g → K f → K g) → K f → (h : HasTransacted seen step p level now old new f a) → K h.before
kept_by_runs seen step p level now old new f a K keeps k h = kept_by_attempts seen step p level K keeps h.number old h.mid f h.before h.earlier k

-- so a closure that no run changes is the one that was given
pub same_by_runs : {F V A : Type 0} (seen : V → ConnectionModel) (step : F → V → Result A SlateDBError → V → F → Type 0) (p : Terms) (level : IsolationLevel) (now : ℤ) (old new : ConnectionModel) (f : F) (a : A) →
    ((f g : F) (s t : V) (r : Result A SlateDBError) → step f s r t g → g ≡ f) → (h : HasTransacted seen step p level now old new f a) → h.before ≡ f
same_by_runs {F} seen step p level now old new f a keeps h = kept_by_runs seen step p level now old new f a (λ (x : F). x ≡ f) (λ x y s t r ran is. keeps x y s t r ran ∙ is) refl h

pub transacted_more : {F V A : Type 0} (seen : V → ConnectionModel) (step : F → V → Result A SlateDBError → V → F → Type 0) (p : Terms) (level : IsolationLevel) (now : ℤ) (old new : ConnectionModel) (f : F) (r : Result A SlateDBError) →
    IfOk r (HasTransacted seen step p level now old new f) → OnErr r (SeesOnly old.pass new.pass) → SeesMore old.pass new.pass
transacted_more seen step p level now old new f (Ok a) h only = h.committed.committed.more
transacted_more seen step p level now old new f (Err e) h only = only.more
