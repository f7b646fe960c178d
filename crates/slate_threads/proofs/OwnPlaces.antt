-- How a fact of own places goes on, and what follows if all places are one's own.
use Rattle.std.proofs.Common.{◌≡◌, ◌⊎◌, inl, inr, ⊎_elim, ℕ, zero, suc, ◌+◌, ◌<◌, ◌≤◌, ◌==◌}
use Rattle.std.proofs.Common.{Bool, true, false, if◌then◌else◌, Option, Some, None}
use Rattle.std.proofs.Common.{List, [], ◌∷◌, ◌++◌, length, take, slice_get}
use Rattle.std.proofs.Common.{refl, sym, ap, subst, ◌∙◌, arith, length-append}
use Rattle.std.proofs.lemmas.Bool.{eqb-true}
use Rattle.std.proofs.lemmas.List.{take-append-le}
use Rattle.std.proofs.Math.Seq.{take-append_seam}
use Rattle.std.specs.Prelude.{ℤ}
use mathlib.Core.List.{IsPrefix}
use Rattle.slate_types.specs.declared.config.IsolationLevel.{IsolationLevel}
use Rattle.slate_types.specs.declared.config.IsolationLevel.TheVariants.{SerializableSnapshot}
use Rattle.slate_types.specs.declared.config.IsolationLevel.TheVariants.{Snapshot}
use Rattle.slate_types.specs.declared.types.Ulid.{Ulid}
use Rattle.slate_mem.specs.Batch.{Ops}
use Rattle.slate_txn.specs.declared.event.Event.{Event}
use Rattle.slate_txn.specs.declared.event.Event.TheVariants as events
use Rattle.slate_txn.specs.Audited.{AreOfKind, AreOfKindFrom, IsOfKindAt, Kind}
use Rattle.slate_txn.specs.declared.event.TranscriptStep.{TranscriptStep}
use Rattle.slate_txn.specs.Named.{find_named}
use Rattle.slate_txn.specs.Replay.{IsLegal, apply, apply_all, replay}
use Rattle.slate_txn.specs.State.{Rules, State, Tx, opening}
use Rattle.slate_txn.specs.Vouched.{AloneAt, AloneBy, AloneWhere, AreVouchedFrom}
use Rattle.slate_txn.specs.Vouched.{VouchedAt, VouchedBy}
use Rattle.slate_txn.proofs.PlaceLaws.{at_its_place, each_at_its_place}
use Rattle.slate_db.specs.Installs.{tables_in, tables_of}
use Rattle.slate_shared.specs.Shared.{OwnsAll, is_own, own_after, same, times}
use Rattle.slate_shared.proofs.Lists.{get_below, get_snoc, times-append}
use Rattle.slate_threads.specs.Own.{IsNoInstall, OwnAre, OwnAreOfKind, OwnAreVouched}
use Rattle.slate_threads.specs.Laws.{AllAreAlone, AllAreVouched, JoinedAreVouched, LongerIsVouched}
use Rattle.slate_threads.specs.Laws.{NothingIsStored, NothingIsVouched, OneEventMore, OneMore}
use Rattle.slate_threads.specs.Laws.{OneInstallMore, OneWriteMore, OwnStandAlone}

-- ---- places and events

get_front : (xs ys : List Event) (p : ℕ) → p < length xs → slice_get (xs ++ ys) p ≡ slice_get xs p
get_front [] ys p l = absurd (omega arith)
get_front (x ∷ xs) ys zero l = refl
get_front (x ∷ xs) ys (suc p) l = get_front xs ys p (omega arith)

lower : (p n : ℕ) → p < n → p ≤ n
lower p n h = omega (arith, h)

within_front : (es rest : List Event) (p : ℕ) → p < length es → p < length (es ++ rest)
within_front es rest p l = let n = length-append es rest in omega (arith, l, n)

apart : (p n : ℕ) → p ≡ n → p < n → ⊥
apart p n e l = omega (arith, e, l)

at_last : (n p : ℕ) → p ≡ n → p < n + 1
at_last n p e = omega (arith, e)

pub is_there : (p n : ℕ) (own : List ℕ) → 0 < times p (own ++ (n ∷ [])) →
    (p ≡ n) ⊎ (0 < times p own)
is_there p n own h = by (p == n) refl
  where
    by : (b : Bool) → (p == n) ≡ b → (p ≡ n) ⊎ (0 < times p own)
    by true e = inl (eqb-true p n e)
    by false e =
        let one : same p n ≡ 0 = ap (λ (c : Bool). if c then 1 else 0) e in
        let sum = times-append p own (n ∷ []) in
        inr (omega (arith, one, sum, h))

either_of : (a b : ℕ) → 0 < a + b → (0 < a) ⊎ (0 < b)
either_of zero b h = inr (omega (arith, h))
either_of (suc a) b h = inl (omega arith)

pub either_own : (p : ℕ) (own others : List ℕ) → 0 < times p (own ++ others) →
    (0 < times p own) ⊎ (0 < times p others)
either_own p own others h =
    either_of (times p own) (times p others)
    (subst (λ (n : ℕ). 0 < n) (times-append p own others) h)

some_time : (n : ℕ) → n ≡ 1 → 0 < n
some_time n e = omega (arith, e)

-- ---- of any fact

module _ (P : List Event → Event → Type 0) where
  -- what is known at a place of the first part
  each_front : (es rest : List Event) (p : ℕ) (e : Event) → p < length es →
      (slice_get es p ≡ Some e → P (take p es) e) →
      slice_get (es ++ rest) p ≡ Some e → P (take p (es ++ rest)) e
  each_front es rest p e l known is =
      subst (λ (l : List Event). P l e) (sym (take-append-le p es rest (lower p (length es) l)))
      (known (sym (get_front es rest p l) ∙ is))

  pub are_none : (es : List Event) → OwnAre P [] es
  are_none es = record {
    within = λ p mine. absurd (omega (arith, mine));
    each = λ p e mine is. absurd (omega (arith, mine));
  }

  pub are_behind : (own : List ℕ) (es rest : List Event) → OwnAre P own es →
      OwnAre P own (es ++ rest)
  are_behind own es rest h = record {
    within = λ p mine. within_front es rest p (h.within p mine);
    each = λ p e mine is. each_front es rest p e (h.within p mine) (h.each p e mine) is;
  }

  pub are_longer : (own : List ℕ) (es later : List Event) → IsPrefix es later → OwnAre P own es →
      OwnAre P own later
  are_longer own es later p h = subst (OwnAre P own) p.1 (are_behind own es p.0 h)

  pub are_one_more : (own : List ℕ) (es : List Event) (e : Event) → OwnAre P own es → P es e →
      OwnAre P (own ++ (length es ∷ [])) (es ++ (e ∷ []))
  are_one_more own es e h here = record {
    within = λ p mine. ⊎_elim
        (λ (last : p ≡ length es).
        subst (λ (n : ℕ). p < n) (sym (length-append es (e ∷ []))) (at_last (length es) p last))
        (λ (old : 0 < times p own). within_front es (e ∷ []) p (h.within p old))
        (is_there p (length es) own mine);
    each = λ p x mine is. by p x mine is (get_snoc es e x p is);
  }
    where
      by : (p : ℕ) (x : Event) → 0 < times p (own ++ (length es ∷ [])) →
          slice_get (es ++ (e ∷ [])) p ≡ Some x →
          (slice_get es p ≡ Some x) ⊎ ((p ≡ length es) × (e ≡ x)) →
          P (take p (es ++ (e ∷ []))) x
      by p x mine is (inl old) =
          ⊎_elim
          (λ (last : p ≡ length es). absurd (apart p (length es) last (get_below es x p old)))
          (λ (one : 0 < times p own).
          each_front es (e ∷ []) p x (get_below es x p old) (h.each p x one) is)
          (is_there p (length es) own mine)
      by p x mine is (inr (last, same_one)) =
          subst (λ (y : Event). P (take p (es ++ (e ∷ []))) y) same_one
          (subst (λ (q : ℕ). P (take q (es ++ (e ∷ []))) e) (sym last)
          (subst (λ (l : List Event). P l e) (sym (take-append_seam es (e ∷ []))) here))

  -- an event of any kind
  pub are_event_more : (own : List ℕ) (es : List Event) (e : Event) → OwnAre P own es →
      (is_own e ≡ true → P es e) → OwnAre P (own_after own (length es) e) (es ++ (e ∷ []))
  are_event_more own es e h here = by (is_own e) refl
    where
      by : (b : Bool) → is_own e ≡ b →
          OwnAre P (if b then own ++ (length es ∷ []) else own) (es ++ (e ∷ []))
      by true is = are_one_more own es e h (here is)
      by false is = are_behind own es (e ∷ []) h

  pub are_joined : (own others : List ℕ) (es fs later : List Event) →
      IsPrefix es later → IsPrefix fs later → OwnAre P own es → OwnAre P others fs →
      OwnAre P (own ++ others) later
  are_joined own others es fs later p q h k = record {
    within = λ i mine. ⊎_elim
        (λ (one : 0 < times i own). first.within i one)
        (λ (two : 0 < times i others). second.within i two)
        (either_own i own others mine);
    each = λ i e mine is. ⊎_elim
        (λ (one : 0 < times i own). first.each i e one is)
        (λ (two : 0 < times i others). second.each i e two is)
        (either_own i own others mine);
  }
    where
      first : OwnAre P own later
      first = are_longer own es later p h

      second : OwnAre P others later
      second = are_longer others fs later q k

  -- if all are one's own
  pub at_each : (own : List ℕ) (es : List Event) → OwnsAll own es → OwnAre P own es →
      (p : ℕ) (e : Event) → slice_get es p ≡ Some e → is_own e ≡ true → P (take p es) e
  at_each own es whole h p e is mine = h.each p e (some_time (times p own) (whole p e is mine)) is

-- from one fact to another, at each place
pub are_so : (P Q : List Event → Event → Type 0) (own : List ℕ) (es : List Event) →
    ((p : ℕ) (e : Event) → slice_get es p ≡ Some e → P (take p es) e → Q (take p es) e) →
    OwnAre P own es → OwnAre Q own es
are_so P Q own es f h = record {
  within = h.within;
  each = λ p e mine is. f p e is (h.each p e mine is);
}

pub get_behind : (xs ys : List Event) (p : ℕ) (e : Event) → slice_get xs p ≡ Some e →
    slice_get (xs ++ ys) p ≡ Some e
get_behind [] ys p e h = absurd (cc h)
get_behind (x ∷ xs) ys zero e h = h
get_behind (x ∷ xs) ys (suc p) e h = get_behind xs ys p e h

-- who has all places of a journal has those of each beginning
pub owns_front : (own : List ℕ) (es later : List Event) → IsPrefix es later → OwnsAll own later →
    OwnsAll own es
owns_front own es later p whole i e is mine =
    whole i e
    (subst (λ (l : List Event). slice_get l i ≡ Some e) p.1 (get_behind es p.0 i e is)) mine

-- ---- what stands at own places is vouched

module _ (r : Rules) where
  abbrev Vouched : List Event → Event → Type 0
  Vouched before e = VouchedAt r (replay before) e

  pub own_nothing : (es : List Event) → OwnAreVouched r [] es
  own_nothing es = are_none Vouched es

  pub own_longer : (own : List ℕ) (es later : List Event) → IsPrefix es later →
      OwnAreVouched r own es → OwnAreVouched r own later
  own_longer own es later p h = are_longer Vouched own es later p h

  pub own_more : (own : List ℕ) (es : List Event) (e : Event) → OwnAreVouched r own es →
      VouchedAt r (replay es) e → OwnAreVouched r (own ++ (length es ∷ [])) (es ++ (e ∷ []))
  own_more own es e h vouched = are_one_more Vouched own es e h vouched

  pub own_joined : (own others : List ℕ) (es fs later : List Event) →
      IsPrefix es later → IsPrefix fs later → OwnAreVouched r own es →
      OwnAreVouched r others fs → OwnAreVouched r (own ++ others) later
  own_joined own others es fs later p q h k = are_joined Vouched own others es fs later p q h k

pub nothing : NothingIsVouched
nothing r es = own_nothing r es

pub longer : LongerIsVouched
longer r own es later p h = own_longer r own es later p h

pub one_more : OneMore
one_more r own es e h vouched = own_more r own es e h vouched

pub event_more : OneEventMore
event_more r own es e h vouched =
    are_event_more (λ before e. VouchedAt r (replay before) e) own es e h (λ mine. vouched)

pub write_more : OneWriteMore
write_more r own es n now ops h = own_more r own es (events.Write n now ops) h tt

pub install_more : OneInstallMore
install_more r own es through tables h = own_more r own es (events.Install through tables) h tt

pub joined : JoinedAreVouched
joined r own others es fs later p q h k = own_joined r own others es fs later p q h k

-- ---- if all are one's own

vouched_of : (r : Rules) (s : State) (e : Event) → (is_own e ≡ true → VouchedAt r s e) →
    VouchedAt r s e
vouched_of r s (events.Begin id level start) h = tt
vouched_of r s (events.End id) h = tt
vouched_of r s (events.Commit id n now ops tracked ts) h = h refl
vouched_of r s (events.Write n now ops) h = tt
vouched_of r s events.Freeze h = tt
vouched_of r s (events.Install through tables) h = tt
vouched_of r s (events.Snapshot id n) h = tt
vouched_of r s (events.Release id) h = tt

all_from : (r : Rules) (s : State) (es : List Event) →
    ((p : ℕ) (e : Event) → slice_get es p ≡ Some e → VouchedAt r (apply_all s (take p es)) e) →
    AreVouchedFrom r s es
all_from r s [] h = tt
all_from r s (e ∷ es) h = (h 0 e refl, all_from r (apply s e) es (λ p x is. h (suc p) x is))

pub all_are_vouched : AllAreVouched
all_are_vouched r own es whole h =
    all_from r opening es
    (λ p e is. vouched_of r (replay (take p es)) e
    (at_each (λ before e. VouchedAt r (replay before) e) own es whole h p e is))

pub all_are_alone : AllAreAlone
all_are_alone r own es legal whole h =
    each_at_its_place r es legal (all_are_vouched r own es whole h)

-- ---- one's own stand alone

-- a journal, split at a place
split : (es : List Event) (p : ℕ) (e : Event) → slice_get es p ≡ Some e →
    (later : List Event) × (es ≡ take p es ++ (e ∷ later))
split [] p e is = absurd (cc is)
split (x ∷ es) zero e is = (es, cc is)
split (x ∷ es) (suc p) e is =
    let rest = split es p e is in (rest.0, ap (λ (l : List Event). x ∷ l) rest.1)

module _ (r : Rules) (before later : List Event) where
  alone_by : (id : List ℕ) (n : Option ℕ) (now : ℤ) (ops : Ops) (tracked : List (List ℕ))
      (ts : List TranscriptStep) →
      IsLegal r.start_seq (before ++ (events.Commit id n now ops tracked ts ∷ later)) →
      VouchedAt r (replay before) (events.Commit id n now ops tracked ts) →
      AloneBy r (replay before) (find_named id (replay before).txns) ts
  alone_by id n now ops tracked ts legal vouched =
      by (find_named id (replay before).txns) refl vouched
    where
      by : (t : Option Tx) → find_named id (replay before).txns ≡ t →
          VouchedBy r (replay before) t ts → AloneBy r (replay before) t ts
      by None is v = v
      by (Some t) is v = at_level t.level refl
        where
          at_level : (level : IsolationLevel) → t.level ≡ level →
              AloneWhere r (replay before) level t.begin ts
          at_level Snapshot e = tt
          at_level SerializableSnapshot e =
              λ tracks.
              at_its_place r before later id n now ops tracked ts t legal vouched is e tracks

  alone_at : (e : Event) → IsLegal r.start_seq (before ++ (e ∷ later)) →
      VouchedAt r (replay before) e → AloneAt r (replay before) e
  alone_at (events.Commit id n now ops tracked ts) legal vouched =
      alone_by id n now ops tracked ts legal vouched
  alone_at (events.Begin id level start) legal vouched = tt
  alone_at (events.End id) legal vouched = tt
  alone_at (events.Write n now ops) legal vouched = tt
  alone_at events.Freeze legal vouched = tt
  alone_at (events.Install through tables) legal vouched = tt
  alone_at (events.Snapshot id n) legal vouched = tt
  alone_at (events.Release id) legal vouched = tt

pub own_stand_alone : OwnStandAlone
own_stand_alone r own es legal h =
    are_so (λ before e. VouchedAt r (replay before) e) (λ before e. AloneAt r (replay before) e)
    own es
    (λ p e is vouched.
    let rest = split es p e is in
    alone_at r (take p es) rest.0 e
    (subst (λ (l : List Event). IsLegal r.start_seq l) rest.1 legal) vouched)
    h

-- ---- of a kind, and without installs

kind_of : (kind : Kind) (s : State) (e : Event) → (is_own e ≡ true → IsOfKindAt kind s e) →
    IsOfKindAt kind s e
kind_of kind s (events.Begin id level start) h = tt
kind_of kind s (events.End id) h = tt
kind_of kind s (events.Commit id n now ops tracked ts) h = h refl
kind_of kind s (events.Write n now ops) h = h refl
kind_of kind s events.Freeze h = tt
kind_of kind s (events.Install through tables) h = tt
kind_of kind s (events.Snapshot id n) h = tt
kind_of kind s (events.Release id) h = tt

kinds_from : (kind : Kind) (s : State) (es : List Event) →
    ((p : ℕ) (e : Event) → slice_get es p ≡ Some e → IsOfKindAt kind (apply_all s (take p es)) e) →
    AreOfKindFrom kind s es
kinds_from kind s [] h = tt
kinds_from kind s (e ∷ es) h =
    (h 0 e refl, kinds_from kind (apply s e) es (λ p x is. h (suc p) x is))

-- so no audit is needed
pub all_are_of_kind : (kind : Kind) (own : List ℕ) (es : List Event) → OwnsAll own es →
    OwnAreOfKind kind own es → AreOfKind kind es
all_are_of_kind kind own es whole h =
    kinds_from kind opening es
    (λ p e is. kind_of kind (replay (take p es)) e
    (at_each (λ before e. IsOfKindAt kind (replay before) e) own es whole h p e is))

installs_of : (e : Event) → (is_own e ≡ true → IsNoInstall e) → tables_in e ≡ []
installs_of (events.Begin id level start) h = refl
installs_of (events.End id) h = refl
installs_of (events.Commit id n now ops tracked ts) h = refl
installs_of (events.Write n now ops) h = refl
installs_of events.Freeze h = refl
installs_of (events.Install through tables) h = absurd (h refl)
installs_of (events.Snapshot id n) h = refl
installs_of (events.Release id) h = refl

no_tables : (es : List Event) →
    ((p : ℕ) (e : Event) → slice_get es p ≡ Some e → tables_in e ≡ []) → tables_of es ≡ []
no_tables [] h = refl
no_tables (e ∷ es) h =
    ap (λ (ts : List (Ulid × List ℕ)). ts ++ tables_of es) (h 0 e refl)
    ∙ no_tables es (λ p x is. h (suc p) x is)

pub nothing_is_stored : NothingIsStored
nothing_is_stored own es whole h =
    no_tables es
    (λ p e is. installs_of e (at_each (λ before e. IsNoInstall e) own es whole h p e is))
