-- The audit: the levels of open transactions behind an event, and the walk over a legal journal.
use Rattle.std.proofs.Common.{◌≡◌, ℕ, ◌+◌, ◌<◌, Bool, true, false, cond, List, [], ◌∷◌, ◌++◌, length, drop, get_or, bytes_eq, Option, Some, None, option_map, refl, sym, ap, subst, ◌∙◌, inl, append_assoc, add-one, Ordering, Less, Equal, Greater}
use Rattle.std.specs.Ordering.{is_eq, match_ordering}
use Rattle.std.specs.BTreeMap.{insert_entry}
use Rattle.std.proofs.lemmas.List.{append-nil}
use Rattle.std.proofs.lemmas.Map.Text.{is_eq-slice_cmp}
use Rattle.std.proofs.lemmas.Slice.Eq.{bytes_eq-Decides}
use Rattle.std.proofs.Math.Seq.{drop-cons}
use Rattle.slate_types.specs.declared.config.IsolationLevel.{IsolationLevel}
use Rattle.slate_types.specs.Keys.{key_cmp}
use Rattle.slate_types.proofs.KeyOrder.{equal_keys}
use Rattle.std.specs.Prelude.{IfSome, ℤ}
use Rattle.slate_mem.specs.Batch.{Ops}
use Rattle.slate_txn.specs.declared.event.TranscriptStep.{TranscriptStep}
use Rattle.slate_txn.specs.declared.event.Event.{Event}
use Rattle.slate_txn.specs.declared.event.Event.TheVariants as events
use Rattle.slate_txn.specs.Named.{find_named, without, set_named, StandOnce}
use Rattle.slate_txn.specs.State.{Tx, State, opening, begun}
use Rattle.slate_txn.specs.Replay.{apply, apply_all, replay, Allowed, LegalFrom, IsLegal, ids_of}
use Rattle.slate_txn.specs.Audited.{Kind, IsOfKindBy, IsOfKindAt, AreOfKindFrom, AreOfKind, IsForeignAt, IsFirstForeign, Levels, KnowsLevels, OpensNew}
use Rattle.slate_txn.proofs.NameLaws.{AreUsed, none_head, none_tail, other_way, once_without, used_apply}

-- ---- what is found after a change

other_keys : (j k : List ℕ) → key_cmp j k ≡ Greater → bytes_eq j k ≡ false
other_keys j k e = sym (is_eq-slice_cmp j k) ∙ ap is_eq e

find_insert : {X : Type 0} (k : List ℕ) (x : X) (ps : List (List ℕ × X)) (j : List ℕ) → find_named j (insert_entry key_cmp ps k x) ≡ cond (bytes_eq k j) (Some x) (find_named j ps)
find_insert k x [] j = refl
find_insert {X} k x (p ∷ ps) j = by (key_cmp k p.0) refl (find_insert k x ps j)
  where
    by : (o : Ordering) → key_cmp k p.0 ≡ o → find_named j (insert_entry key_cmp ps k x) ≡ cond (bytes_eq k j) (Some x) (find_named j ps) →
        find_named j (match_ordering o ((k, x) ∷ p ∷ ps) ((p.0, x) ∷ ps) (p ∷ insert_entry key_cmp ps k x)) ≡ cond (bytes_eq k j) (Some x) (cond (bytes_eq p.0 j) (Some p.1) (find_named j ps))
    by Less is later = refl
    by Equal is later =
        let same : k ≡ p.0 = equal_keys k p.0 is in
        ap (λ h. cond (bytes_eq h j) (Some x) (find_named j ps)) (sym same) ∙ two (bytes_eq k j) (bytes_eq p.0 j) (ap (λ h. bytes_eq h j) same)
      where
        two : (b c : Bool) → b ≡ c → cond b (Some x) (find_named j ps) ≡ cond b (Some x) (cond c (Some p.1) (find_named j ps))
        two true c h = refl
        two false true h = cc
        two false false h = refl
    by Greater is later = two (bytes_eq p.0 j) refl
      where
        two : (b : Bool) → bytes_eq p.0 j ≡ b → cond b (Some p.1) (find_named j (insert_entry key_cmp ps k x)) ≡ cond (bytes_eq k j) (Some x) (cond b (Some p.1) (find_named j ps))
        two true h = sym (ap (λ b. cond b (Some x) (Some p.1)) (ap (bytes_eq k) (sym ((bytes_eq-Decides p.0 j).0 h)) ∙ other_keys k p.0 is))
        two false h = later

find_set : {X : Type 0} (k : List ℕ) (x : X) (ps : List (List ℕ × X)) (j : List ℕ) → find_named k ps ≡ None → find_named j (set_named k x ps) ≡ cond (bytes_eq k j) (Some x) (find_named j ps)
find_set k x [] j none = refl
find_set {X} k x (p ∷ ps) j none = by (bytes_eq p.0 j) refl (find_set k x ps j (none_tail k p ps none))
  where
    by : (b : Bool) → bytes_eq p.0 j ≡ b → find_named j (set_named k x ps) ≡ cond (bytes_eq k j) (Some x) (find_named j ps) →
        cond b (Some p.1) (find_named j (set_named k x ps)) ≡ cond (bytes_eq k j) (Some x) (cond b (Some p.1) (find_named j ps))
    by true e later = sym (ap (λ b. cond b (Some x) (Some p.1)) (ap (bytes_eq k) (sym ((bytes_eq-Decides p.0 j).0 e)) ∙ other_way p.0 k (none_head k p ps none)))
    by false e later = later

find_without : {X : Type 0} (k : List ℕ) (ps : List (List ℕ × X)) (j : List ℕ) → StandOnce ps → find_named j (without k ps) ≡ cond (bytes_eq k j) None (find_named j ps)
find_without {X} k [] j once = by (bytes_eq k j)
  where
    none : Option X
    none = None

    by : (b : Bool) → none ≡ cond b none none
    by true = refl
    by false = refl
find_without {X} k (p ∷ ps) j once = by (bytes_eq p.0 k) refl (find_without k ps j once.1)
  where
    gone : (c : Bool) → bytes_eq k j ≡ c → p.0 ≡ k → find_named j ps ≡ cond c None (cond c (Some p.1) (find_named j ps))
    gone true e same = sym (ap (λ i. find_named i ps) (same ∙ (bytes_eq-Decides k j).0 e)) ∙ once.0
    gone false e same = refl

    by : (b : Bool) → bytes_eq p.0 k ≡ b → find_named j (without k ps) ≡ cond (bytes_eq k j) None (find_named j ps) →
        find_named j (cond b ps (p ∷ without k ps)) ≡ cond (bytes_eq k j) None (cond (bytes_eq p.0 j) (Some p.1) (find_named j ps))
    by true e later =
        let same : p.0 ≡ k = (bytes_eq-Decides p.0 k).0 e in
        gone (bytes_eq k j) refl same ∙ ap (λ b. cond (bytes_eq k j) None (cond b (Some p.1) (find_named j ps))) (sym (ap (λ i. bytes_eq i j) same))
    by false e later = two (bytes_eq p.0 j) refl
      where
        two : (b : Bool) → bytes_eq p.0 j ≡ b → cond b (Some p.1) (find_named j (without k ps)) ≡ cond (bytes_eq k j) None (cond b (Some p.1) (find_named j ps))
        two true h = sym (ap (λ b. cond b None (Some p.1)) (other_way j k (ap (λ i. bytes_eq i k) (sym ((bytes_eq-Decides p.0 j).0 h)) ∙ e)))
        two false h = later

once_insert : {X : Type 0} (k : List ℕ) (x : X) (ps : List (List ℕ × X)) → find_named k ps ≡ None → StandOnce ps → StandOnce (insert_entry key_cmp ps k x)
once_insert k x [] none once = (refl, tt)
once_insert {X} k x (p ∷ ps) none once = by (key_cmp k p.0) (once_insert k x ps (none_tail k p ps none) once.1)
  where
    by : (o : Ordering) → StandOnce (insert_entry key_cmp ps k x) → StandOnce (match_ordering o ((k, x) ∷ p ∷ ps) ((p.0, x) ∷ ps) (p ∷ insert_entry key_cmp ps k x))
    by Less later = (none, once)
    by Equal later = (once.0, once.1)
    by Greater later = (find_insert k x ps p.0 ∙ ap (λ b. cond b (Some x) (find_named p.0 ps)) (other_way p.0 k (none_head k p ps none)) ∙ once.0, later)

-- ---- levels behind an event

abbrev level_of : Option Tx → Option IsolationLevel
level_of o = option_map (λ t. t.level) o

none_known : (s : State) (levels : Levels) (id : List ℕ) → KnowsLevels s levels → find_named id s.txns ≡ None → find_named id levels ≡ None
none_known s levels id knows none = knows.each id ∙ ap level_of none

pub knows_begun : (s : State) (levels : Levels) (id : List ℕ) (level : IsolationLevel) (start : ℕ) → find_named id s.txns ≡ None → KnowsLevels s levels →
    KnowsLevels (apply s (events.Begin id level start)) (insert_entry key_cmp levels id level)
knows_begun s levels id level start none knows = record {
  once = once_insert id level levels (none_known s levels id knows none) knows.once;
  each = λ j.
      find_insert id level levels j ∙ ap (cond (bytes_eq id j) (Some level)) (knows.each j) ∙ by (bytes_eq id j) j
      ∙ sym (ap level_of (find_set id (begun level start) s.txns j none));
}
  where
    by : (b : Bool) (j : List ℕ) → cond b (Some level) (level_of (find_named j s.txns)) ≡ level_of (cond b (Some (begun level start)) (find_named j s.txns))
    by true j = refl
    by false j = refl

pub knows_ended : (s : State) (levels : Levels) (id : List ℕ) → StandOnce s.txns → KnowsLevels s levels → KnowsLevels (record s { txns = without id s.txns }) (without id levels)
knows_ended s levels id once knows = record {
  once = once_without id levels knows.once;
  each = λ j. find_without id levels j knows.once ∙ ap (cond (bytes_eq id j) None) (knows.each j) ∙ by (bytes_eq id j) j ∙ sym (ap level_of (find_without id s.txns j once));
}
  where
    by : (b : Bool) (j : List ℕ) → cond b None (level_of (find_named j s.txns)) ≡ level_of (cond b None (find_named j s.txns))
    by true j = refl
    by false j = refl

pub knows_committed : (s : State) (levels : Levels) (id : List ℕ) (n : Option ℕ) (now : ℤ) (ops : Ops) (tracked : List (List ℕ)) (ts : List TranscriptStep) → StandOnce s.txns → KnowsLevels s levels →
    KnowsLevels (apply s (events.Commit id n now ops tracked ts)) (without id levels)
knows_committed s levels id n now ops tracked ts once knows = record { once = (knows_ended s levels id once knows).once; each = (knows_ended s levels id once knows).each }

-- the same transactions are open
pub knows_same : (s t : State) (levels : Levels) → t.txns ≡ s.txns → KnowsLevels s levels → KnowsLevels t levels
knows_same s t levels same knows = record { once = knows.once; each = λ j. knows.each j ∙ ap (λ ps. level_of (find_named j ps)) (sym same) }

-- ---- a commit of a transaction whose level is known

none_some : {X : Type 0} {P : Type 0} (x : X) → Some x ≡ None → P
none_some x e = cc

some_is : {X : Type 0} (x y : X) → Some x ≡ Some y → y ≡ x
some_is x y e = cc

pub own_yes : (kind : Kind) (s : State) (levels : Levels) (id : List ℕ) (level : IsolationLevel) (n : ℕ) (now : ℤ) (ops : Ops) (tracked : List (List ℕ)) (ts : List TranscriptStep) → KnowsLevels s levels → Some level ≡ find_named id levels →
    kind level now ops tracked ts → IsOfKindBy kind (find_named id s.txns) (Some n) now ops tracked ts
own_yes kind s levels id level n now ops tracked ts knows is own = by (find_named id s.txns) (is ∙ knows.each id)
  where
    by : (o : Option Tx) → Some level ≡ level_of o → IsOfKindBy kind o (Some n) now ops tracked ts
    by None e = none_some level e
    by (Some t) e = subst (λ l. kind l now ops tracked ts) (sym (some_is level t.level e)) own

pub own_no : (kind : Kind) (s : State) (levels : Levels) (id : List ℕ) (level : IsolationLevel) (n : ℕ) (now : ℤ) (ops : Ops) (tracked : List (List ℕ)) (ts : List TranscriptStep) → KnowsLevels s levels → Some level ≡ find_named id levels →
    (kind level now ops tracked ts → ⊥) → IsOfKindBy kind (find_named id s.txns) (Some n) now ops tracked ts → ⊥
own_no kind s levels id level n now ops tracked ts knows is other = by (find_named id s.txns) (is ∙ knows.each id)
  where
    by : (o : Option Tx) → Some level ≡ level_of o → IsOfKindBy kind o (Some n) now ops tracked ts → ⊥
    by None e h = h
    by (Some t) e h = other (subst (λ l. kind l now ops tracked ts) (some_is level t.level e) h)

pub own_none : (kind : Kind) (s : State) (levels : Levels) (id : List ℕ) (n : ℕ) (now : ℤ) (ops : Ops) (tracked : List (List ℕ)) (ts : List TranscriptStep) → KnowsLevels s levels → None ≡ find_named id levels →
    IsOfKindBy kind (find_named id s.txns) (Some n) now ops tracked ts → ⊥
own_none kind s levels id n now ops tracked ts knows is = by (find_named id s.txns) (is ∙ knows.each id)
  where
    by : (o : Option Tx) → None ≡ level_of o → IsOfKindBy kind o (Some n) now ops tracked ts → ⊥
    by None e h = h
    by (Some t) e h = none_some t.level (sym e)

-- ---- the walk

-- where the audit stands: all events before are of the kind
pub record IsWalked (kind : Kind) (n0 : ℕ) (es : List Event) (levels : Levels) (rest : List Event) : Type 0 where
  pub before : List Event
  pub split : es ≡ before ++ rest
  pub knows : KnowsLevels (replay before) levels
  pub used : List (List ℕ)
  pub are_used : AreUsed (replay before) used
  pub legal : LegalFrom n0 (replay before) used rest
  pub fine : AreOfKind kind before

pub walk_begins : (kind : Kind) (n0 : ℕ) (es : List Event) → IsLegal n0 es → IsWalked kind n0 es [] es
walk_begins kind n0 es legal = record {
  before = [];
  split = refl;
  knows = record { once = tt; each = λ id. refl };
  used = [];
  are_used = record { once = (tt, tt, λ k. inl refl); txns = λ k e. refl; snapshots = λ k e. refl };
  legal = legal;
  fine = tt;
}

apply_last : (s : State) (before : List Event) (e : Event) → apply_all s (before ++ (e ∷ [])) ≡ apply (apply_all s before) e
apply_last s [] e = refl
apply_last s (x ∷ before) e = apply_last (apply s x) before e

fine_last : (kind : Kind) (s : State) (before : List Event) (e : Event) → AreOfKindFrom kind s before → IsOfKindAt kind (apply_all s before) e → AreOfKindFrom kind s (before ++ (e ∷ []))
fine_last kind s [] e fine is = (is, tt)
fine_last kind s (x ∷ before) e fine is = (fine.0, fine_last kind (apply s x) before e fine.1 is)

pub opens_new : (n0 : ℕ) (s : State) (used : List (List ℕ)) (e : Event) → AreUsed s used → Allowed n0 s used e → OpensNew s e
opens_new n0 s used (events.Begin id level start) h a = h.txns id a.0
opens_new n0 s used (events.End id) h a = tt
opens_new n0 s used (events.Commit id n now ops tracked ts) h a = tt
opens_new n0 s used (events.Write n now ops) h a = tt
opens_new n0 s used events.Freeze h a = tt
opens_new n0 s used (events.Install through tables) h a = tt
opens_new n0 s used (events.Snapshot id n) h a = tt
opens_new n0 s used (events.Release id) h a = tt

pub walks_on : (kind : Kind) (n0 : ℕ) (es : List Event) (old new : Levels) (e : Event) (rest : List Event) → (w : IsWalked kind n0 es old (e ∷ rest)) → IsOfKindAt kind (replay w.before) e →
    (StandOnce (replay w.before).txns → OpensNew (replay w.before) e → KnowsLevels (replay w.before) old → KnowsLevels (apply (replay w.before) e) new) → IsWalked kind n0 es new rest
walks_on kind n0 es old new e rest w is follows = record {
  before = w.before ++ (e ∷ []);
  split = w.split ∙ sym (append_assoc w.before (e ∷ []) rest);
  knows = subst (λ s. KnowsLevels s new) (sym there) (follows w.are_used.once.0 (opens_new n0 (replay w.before) w.used e w.are_used w.legal.0) w.knows);
  used = ids_of e ++ w.used;
  are_used = subst (λ s. AreUsed s (ids_of e ++ w.used)) (sym there) (used_apply n0 (replay w.before) w.used e w.are_used w.legal.0);
  legal = subst (λ s. LegalFrom n0 s (ids_of e ++ w.used) rest) (sym there) w.legal.1;
  fine = fine_last kind opening w.before e w.fine is;
}
  where
    there : replay (w.before ++ (e ∷ [])) ≡ apply (replay w.before) e
    there = apply_last opening w.before e

pub walk_ends : (kind : Kind) (n0 : ℕ) (es : List Event) (levels : Levels) → IsWalked kind n0 es levels [] → AreOfKind kind es
walk_ends kind n0 es levels w = subst (AreOfKind kind) (sym (w.split ∙ append-nil w.before)) w.fine

pub walk_stops : (kind : Kind) (n0 : ℕ) (es : List Event) (levels : Levels) (e : Event) (rest : List Event) (n : ℕ) → (w : IsWalked kind n0 es levels (e ∷ rest)) → IsForeignAt kind (replay w.before) e n → IsFirstForeign kind es n
walk_stops kind n0 es levels e rest n w is = record { before = w.before; event = e; later = rest; whole = w.split; none = w.fine; foreign = is }

-- ---- at an event of a slice

drop_here : {A : Type 0} (xs : List A) (i : ℕ) (d x : A) → x ≡ get_or xs i d → i < length xs → drop i xs ≡ x ∷ drop (i + 1) xs
drop_here xs i d x is h = rw is (rw (add-one, drop-cons xs i d))

pub goes_there : (kind : Kind) (n0 : ℕ) (es : List Event) (old new : Levels) (i : ℕ) (d e : Event) → i < length es → e ≡ get_or es i d → IsWalked kind n0 es old (drop i es) → ((s : State) → KnowsLevels s old → IsOfKindAt kind s e) →
    ((s : State) → StandOnce s.txns → OpensNew s e → KnowsLevels s old → KnowsLevels (apply s e) new) → IsWalked kind n0 es new (drop (i + 1) es)
goes_there kind n0 es old new i d e within is walked fine follows =
    let w : IsWalked kind n0 es old (e ∷ drop (i + 1) es) = subst (IsWalked kind n0 es old) (drop_here es i d e is within) walked in
    walks_on kind n0 es old new e (drop (i + 1) es) w (fine (replay w.before) w.knows) (follows (replay w.before))

-- all: the events of the journal, which the slice has
pub stops_there : (kind : Kind) (n0 : ℕ) (all es : List Event) (levels : Levels) (i : ℕ) (d e : Event) (o : Option ℕ) (n : ℕ) → es ≡ all → i < length es → e ≡ get_or es i d → IsLegal n0 all → (IsLegal n0 es → IsWalked kind n0 es levels (drop i es)) →
    ((s : State) → KnowsLevels s levels → IfSome o (IsForeignAt kind s e)) → o ≡ Some n → IsFirstForeign kind all n
stops_there kind n0 all es levels i d e o n same within is legal walked foreign some =
    let w : IsWalked kind n0 es levels (e ∷ drop (i + 1) es) = subst (IsWalked kind n0 es levels) (drop_here es i d e is within) (walked (subst (IsLegal n0) (sym same) legal)) in
    subst (λ xs. IsFirstForeign kind xs n) same (walk_stops kind n0 es levels e (drop (i + 1) es) n w (subst (λ x. IfSome x (IsForeignAt kind (replay w.before) e)) some (foreign (replay w.before) w.knows)))
