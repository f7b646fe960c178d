-- A flush is its freeze and an install.
use Rattle.std.proofs.Common.{◌≡◌, ℕ, Bool, true, false, map, flat_map, ◌+◌, ◌<◌, ◌≤◌, ◌⊎◌, List, [], ◌∷◌, ◌++◌, length, Option, option_to_list, refl, sym, ap, subst, ◌∙◌, inl, inr, arith, length-append}
use Rattle.std.proofs.lemmas.Bool.Decides.{nat_tests}
use Rattle.std.proofs.lemmas.List.{length-map, reverse-append}
use Rattle.std.specs.Prelude.{◌==◌, Result, Ok, Err, IfOk, IfErr, OnOk, OnErr}
use Rattle.slate_types.specs.declared.error.SlateDBError.{SlateDBError}
use Rattle.slate_types.specs.declared.error.SlateDBError.TheVariants.{OutOfMemory, LimitReached, StoreFault, BlockTransformError, Callback, MergeOperatorMissing}
use Rattle.slate_types.specs.Fold.{fold_rows}
use Rattle.slate_types.specs.Outside.{Counts, IsCounted, Objects, Reach}
use Rattle.slate_mem.specs.Lookup.{is_merge_among, newest_first}
use Rattle.slate_mem.specs.Table.{MemTableModel}
use Rattle.slate_table.specs.TableBuilding.{max_blocks}
use Rattle.slate_mem.specs.KeyTests.{Segments}
use Rattle.slate_txn.specs.declared.event.Event.TheVariants as events
use Rattle.slate_txn.specs.declared.line.Line.TheVariants as lines
use Rattle.slate_txn.specs.Places.{IsQuiet}
use Rattle.slate_txn.specs.Reply.{Flushed}
use Rattle.slate_txn.specs.State.{last_of}
use Rattle.slate_txn.specs.Step.{step}
use Rattle.slate_txn.specs.Open.{least_start}
use Rattle.slate_db.specs.Flushed.{Layout, IsFlushed, IsFlushError, IsFolded, TooLarge, WantsOperator, events_of_flush, idle, stored}
use Rattle.slate_db.specs.Frozen.{IsFrozen}
use Rattle.slate_db.specs.Load.{weight}
use Rattle.slate_db.specs.Log.{LIMIT, ends_of}
use Rattle.slate_db.specs.Meaning.{Meaning, rules_in, rules_of, combine_of}
use Rattle.slate_db.specs.Model.{CoreModel, Rows, memory, IsSame}
use Rattle.slate_db.specs.Sound.{IsKept, at_most, later}
use Rattle.slate_db.proofs.FlushRows.{none_among}
use Rattle.slate_db.proofs.Keeps.{kept_event}
use Rattle.slate_db.proofs.NoMerges.{memory_bases}
use Rattle.slate_db.proofs.Quiet.{quiet_more}
use Rattle.slate_db.proofs.FlushLoads.{load_before}
use Rattle.slate_db.proofs.MemoryLayers.{versions_frozen}

abbrev pub frozen_of : CoreModel → ℕ → CoreModel
frozen_of c spare = record c { events = c.events ++ (events.Freeze ∷ []); spare = spare; active = []; frozen = c.frozen ++ (c.active ∷ []) }

pub frozen_idle : (old between : CoreModel) → IsFrozen old between → between.active ≡ []
frozen_idle old between (inl (none, is)) = ap (λ (v : CoreModel). v.active) is ∙ none
frozen_idle old between (inr (some, is)) = ap (λ (v : CoreModel). v.active) is

pub frozen_state : (old between : CoreModel) → IsFrozen old between → between.state ≡ old.state
frozen_state old between (inl (none, is)) = ap (λ (v : CoreModel). v.state) is
frozen_state old between (inr (some, is)) = ap (λ (v : CoreModel). v.state) is

pub frozen_settings : (old between : CoreModel) → IsFrozen old between → between.settings ≡ old.settings
frozen_settings old between (inl (none, is)) = ap (λ (v : CoreModel). v.settings) is
frozen_settings old between (inr (some, is)) = ap (λ (v : CoreModel). v.settings) is

pub step_flush : (m : Meaning) (old between new : CoreModel) (n : ℕ) → IsFrozen old between → n ≡ last_of between.settings.start_seq between.state.commits → new.state ≡ record between.state { flushed = n } →
    step (rules_of old.settings m) old.state lines.Flush ≡ (new.state, Flushed n)
step_flush m old between new n f last is =
    (let t = sym (frozen_settings old between f) in let s = sym (frozen_state old between f) in λ i. step (rules_of (t i) m) (s i) lines.Flush)
    ∙ (let l = sym last in λ i. (record between.state { flushed = l i }, Flushed (l i)))
    ∙ (let s = sym is in λ i. (s i, Flushed n))

-- a flush that finds no rows
pub kept_flushed : (m : Meaning) (c : CoreModel) (n : ℕ) → IsKept m c → IsKept m (record c { state = record c.state { flushed = n } })
kept_flushed m c n k = kept_event m c (record c.state { flushed = n }) c.events c.spare refl refl refl (λ none own. own) k

-- ---- the limits

two_events : (active : Rows) (layers : List Rows) → (active ≡ [] → ⊥) → events_of_flush active layers ≡ 2
two_events [] layers h = absurd (h refl)
two_events (r ∷ rs) layers h = refl

one_event : (active : Rows) (layers : List Rows) → active ≡ [] → 0 < length layers → events_of_flush active layers ≡ 1
one_event [] [] h some = absurd (omega arith)
one_event [] (rows ∷ layers) h some = refl
one_event (r ∷ rs) layers h some = cc

abbrev pub passed : CoreModel → ℕ
passed c = weight c + events_of_flush c.active c.frozen

pub passes_two : (limit : ℕ) (c : CoreModel) → (c.active ≡ [] → ⊥) → limit < weight c + 2 → limit < passed c
passes_two limit c some h = let e : events_of_flush c.active c.frozen ≡ 2 = two_events c.active c.frozen some in omega arith

frozen_held : (old between : CoreModel) → between ≡ frozen_of old between.spare → weight between ≡ weight old + 1
frozen_held old between is = ap weight is ∙ (let l : length (old.events ++ (events.Freeze ∷ [])) ≡ length old.events + 1 = length-append old.events (events.Freeze ∷ []) in let e : length (old.events ++ (events.Freeze ∷ [])) + ends_of old.state ≡ weight old + 1 = omega arith in e)

-- an install has a place where the flush has
pub place_left : (limit : ℕ) (old between : CoreModel) → IsFrozen old between → 0 < length between.frozen → passed old ≤ limit → weight between + 1 ≤ limit
place_left limit old between (inl (none, is)) some h =
    let e : events_of_flush old.active old.frozen ≡ 1 = one_event old.active old.frozen none (subst (λ (v : CoreModel). 0 < length v.frozen) is some) in
    let l : weight between ≡ weight old = ap weight is in
    omega arith
place_left limit old between (inr (active, is)) some h =
    let e : events_of_flush old.active old.frozen ≡ 2 = two_events old.active old.frozen active in
    let l : weight between ≡ weight old + 1 = frozen_held old between is in
    omega arith

-- the rows in memory are the same before the freeze
folded_before : (m : Meaning) (b : ℕ) (old : CoreModel) (rows : Rows) → IsFolded m b ((old.frozen ++ (old.active ∷ [])) ++ ([] ∷ [])) rows → IsFolded m b (memory old) rows
folded_before m b old rows folded k = folded k ∙ ap (λ xs. option_to_list (fold_rows (combine_of m k) (at_most b xs)) ++ later b xs) (versions_frozen k old.frozen old.active)

pub too_large_before : (m : Meaning) (layout : Layout) (old between : CoreModel) (e : SlateDBError) → IsFrozen old between → TooLarge m layout between e → TooLarge m layout old e
too_large_before m layout old between e (inl (none, is)) h = subst (λ (v : CoreModel). TooLarge m layout v e) is h
too_large_before m layout old between e (inr (some, is)) h = moved (subst (λ (v : CoreModel). TooLarge m layout v e) is h)
  where
    moved : TooLarge m layout (frozen_of old between.spare) e → TooLarge m layout old e
    moved (rows, folded, order, large, more) = (rows, folded_before m (least_start (last_of old.settings.start_seq old.state.commits) old.state) old rows folded, order, large, load_before old more)

-- an empty memtable has no operand
newest_behind : (layers : List Rows) → newest_first (layers ++ ([] ∷ [])) ≡ newest_first layers
newest_behind layers = ap (flat_map (λ (rows : Rows). rows)) (reverse-append layers ([] ∷ []))

-- so the freeze makes no difference
pub among_frozen : (old between : CoreModel) → IsFrozen old between → is_merge_among (newest_first (memory between)) ≡ is_merge_among (newest_first (memory old))
among_frozen old between (inl (none, is)) = ap (λ (v : CoreModel). is_merge_among (newest_first (memory v))) is
among_frozen old between (inr (some, is)) = ap (λ (v : CoreModel). is_merge_among (newest_first (memory v))) is ∙ ap is_merge_among (newest_behind (memory old))

pub wants_before : (m : Meaning) (old between : CoreModel) (e : SlateDBError) → IsFrozen old between → WantsOperator m (memory between) e → WantsOperator m (memory old) e
wants_before m old between e frozen h = (h.0, h.1, sym (among_frozen old between frozen) ∙ h.2)

-- layers: those of the call that stores them
pub among_idle : (c : CoreModel) (layers : List Rows) → c.active ≡ [] → layers ≡ c.frozen → is_merge_among (newest_first (memory c)) ≡ is_merge_among (newest_first layers)
among_idle c layers empty frozen = ap (λ (rows : Rows). is_merge_among (newest_first (c.frozen ++ (rows ∷ [])))) empty ∙ ap is_merge_among (newest_behind c.frozen ∙ ap newest_first (sym frozen))

pub wants_idle : (m : Meaning) (c : CoreModel) (layers : List Rows) (e : SlateDBError) → c.active ≡ [] → layers ≡ c.frozen → WantsOperator m layers e → WantsOperator m (memory c) e
wants_idle m c layers e empty frozen h = (h.0, h.1, among_idle c layers empty frozen ∙ h.2)

-- and where no rows are there is none
pub none_idle : (c : CoreModel) → c.active ≡ [] → c.frozen ≡ [] → is_merge_among (newest_first (memory c)) ≡ false
none_idle c empty frozen = among_idle c [] empty (sym frozen)

-- what is kept of merges leaves none without an operator
pub never_missing : (layout : Layout) (before after : Reach) (c : CoreModel) (e : SlateDBError) → IsKept before.meaning c → IsFlushError layout before after c e → e ≡ MergeOperatorMissing → ⊥
never_missing layout before after c e k (inl fault) is = absurd (subst (IsCounted before.faults after.faults) is fault)
never_missing layout before after c e k (inr (inl limited)) is = let clash : LimitReached LIMIT ≡ MergeOperatorMissing = sym limited.0 ∙ is in cc
never_missing layout before after c e k (inr (inr (inl (rows, folded, order, large, more)))) is = let clash : LimitReached max_blocks ≡ MergeOperatorMissing = sym large.large.is ∙ is in cc
never_missing layout before after c e k (inr (inr (inr wants))) is = let clash : true ≡ false = sym wants.2 ∙ none_among (memory c) (memory_bases before.meaning c wants.1 k.0 k.2) in cc

-- ---- behind the freeze

pub installed_after : {E : Type 0} (r : Result ℕ E) (m : Meaning) (layout : Layout) (old between new : CoreModel) (before after : Option Objects) → IsFrozen old between →
    IfOk r (λ n. IsFlushed m layout between new n before after) → IfOk r (λ n. (x : CoreModel) × IsFrozen old x × IsFlushed m layout x new n before after)
installed_after (Ok n) m layout old between new before after frozen h = (between, frozen, h)
installed_after (Err e) m layout old between new before after frozen h = tt

pub cause_after : {X : Type 0} (r : Result X SlateDBError) (P Q : SlateDBError → Type 0) → ((e : SlateDBError) → P e → Q e) → IfErr r P → IfErr r Q
cause_after (Ok x) P Q f h = tt
cause_after (Err e) P Q f h = f e h

-- memtables wait, where the test says so
some_left : (xs : List MemTableModel) (b : Bool) → b ≡ (length xs == 0) → b ≡ false → 0 < length xs
some_left [] b h e = cc
some_left (x ∷ xs) b h e = omega arith

none_left : (xs : List MemTableModel) (b : Bool) → b ≡ (length xs == 0) → b ≡ true → xs ≡ []
none_left [] b h e = refl
none_left (x ∷ xs) b h e =
    let t : (length (x ∷ xs) == 0) ≡ true = sym h ∙ e in
    let z : length (x ∷ xs) ≡ 0 = grind (arith, nat_tests) in
    absurd (omega arith)

pub none_frozen : (now items : List MemTableModel) (b : Bool) → b ≡ (length now == 0) → b ≡ true → now ≡ items → map (λ (t : MemTableModel). t.rows) items ≡ []
none_frozen now items b h e same = ap (map (λ (t : MemTableModel). t.rows)) (sym same ∙ none_left now b h e)

pub some_frozen : (now items : List MemTableModel) (b : Bool) (layers : List Rows) → b ≡ (length now == 0) → b ≡ false → now ≡ items → map (λ (t : MemTableModel). t.rows) items ≡ layers → 0 < length layers
some_frozen now items b layers h e same is =
    subst (λ (ls : List Rows). 0 < length ls) is
    (subst (λ (n : ℕ). 0 < n) (ap length same ∙ sym (length-map items (λ (t : MemTableModel). t.rows))) (some_left now b h e))

-- ---- which rows a fault leaves

pub left_at : {X E P : Type 0} (r : Result X E) (e : E) → r ≡ Err e → OnErr r P → P
left_at (Ok x) e is h = cc
left_at (Err f) e is h = h

-- a refusal that comes in the install
abbrev pub IsInner : {X : Type 0} → Result X SlateDBError → Type 0
IsInner r = (r ≡ Err StoreFault) ⊎ (r ≡ Err BlockTransformError) ⊎ (r ≡ Err MergeOperatorMissing) ⊎ ((message : List ℕ) × (r ≡ Err (Callback message)))

pub frozen_at_fault : {X : Type 0} (r : Result X SlateDBError) (old between new : CoreModel) → IsFrozen old between → OnErr r (IsSame between new) → IsInner r → (x : CoreModel) × IsFrozen old x × IsSame x new
frozen_at_fault r old between new frozen same (inl is) = (between, frozen, left_at r StoreFault is same)
frozen_at_fault r old between new frozen same (inr (inl is)) = (between, frozen, left_at r BlockTransformError is same)
frozen_at_fault r old between new frozen same (inr (inr (inl is))) = (between, frozen, left_at r MergeOperatorMissing is same)
frozen_at_fault r old between new frozen same (inr (inr (inr (message, is)))) = (between, frozen, left_at r (Callback message) is same)

-- before the install there is none
pub no_fault : {X A : Type 0} (limit : ℕ) (r : Result ℕ SlateDBError) (e : SlateDBError) → r ≡ Err e → (X → e ≡ LimitReached limit) → (e ≡ OutOfMemory) ⊎ X → IsInner r → A
no_fault limit r e at limited (inl m) inner = by inner
  where
    by : {A : Type 0} → IsInner r → A
    by (inl is) = cc
    by (inr (inl is)) = cc
    by (inr (inr (inl is))) = cc
    by (inr (inr (inr (message, is)))) = cc
no_fault limit r e at limited (inr x) inner = by inner (limited x)
  where
    by : {A : Type 0} → IsInner r → e ≡ LimitReached limit → A
    by (inl is) m = cc
    by (inr (inl is)) m = cc
    by (inr (inr (inl is))) m = cc
    by (inr (inr (inr (message, is)))) m = cc

-- a refusal of the install keeps what the freeze kept
pub kept_behind : {X E : Type 0} (r : Result X E) (old between new : CoreModel) → ((m : Meaning) → IsKept m old → IsKept m between) → OnErr r ((m : Meaning) → IsKept m between → IsKept m new) →
    OnErr r ((m : Meaning) → IsKept m old → IsKept m new)
kept_behind (Ok x) old between new first second = tt
kept_behind (Err e) old between new first second = λ m k. second m (first m k)

-- ---- what is said of a refusal before the install

pub freeze_cause : {C : Type 0} (limit : ℕ) (a b : Counts) (old : CoreModel) (e : SlateDBError) → (old.active ≡ [] → ⊥) → (e ≡ OutOfMemory) ⊎ ((e ≡ LimitReached limit) × (limit < weight old + 1)) → IsCounted a b e ⊎ ((e ≡ LimitReached limit) × (limit < passed old)) ⊎ C
freeze_cause limit a b old e some (inl is) = inl (subst (IsCounted a b) (sym is) tt)
freeze_cause limit a b old e some (inr (is, more)) = inr (inl (is, passes_two limit old some (omega arith)))

-- of the causes the later ones are said in other words
pub other_causes : {A D E F G : Type 0} → (D → E) → (F → G) → A ⊎ D ⊎ F → A ⊎ E ⊎ G
other_causes f g (inl a) = inl a
other_causes f g (inr (inl d)) = inr (inl (f d))
other_causes f g (inr (inr w)) = inr (inr (g w))

pub place_cause : {A C : Type 0} (limit : ℕ) (old : CoreModel) (e : SlateDBError) → (e ≡ LimitReached limit) × (limit < passed old) → A ⊎ ((e ≡ LimitReached limit) × (limit < passed old)) ⊎ C
place_cause limit old e h = inr (inl h)

-- ---- what a flush has of its install

flushed_is : (m : Meaning) (layout : Layout) (between new : CoreModel) (n : ℕ) (before after : Option Objects) → IsFlushed m layout between new n before after → new.state ≡ record between.state { flushed = n }
flushed_is m layout between new n before after (idle none is kept) = ap (λ (v : CoreModel). v.state) is
flushed_is m layout between new n before after (stored ts is tables taken) = ap (λ (v : CoreModel). v.state) is

pub settled : (r : Result ℕ SlateDBError) (m : Meaning) (layout : Layout) (between new : CoreModel) (before after : Option Objects) → IfOk r (λ n. IsFlushed m layout between new n before after) → OnErr r (IsSame between new) → new.settings ≡ between.settings
settled (Ok n) m layout between new before after (idle none is kept) same = ap (λ (v : CoreModel). v.settings) is
settled (Ok n) m layout between new before after (stored ts is tables taken) same = ap (λ (v : CoreModel). v.settings) is
settled (Err e) m layout between new before after h same = ap (λ (v : CoreModel). v.settings) same

pub all_taken : (r : Result ℕ SlateDBError) (m : Meaning) (layout : Layout) (between new : CoreModel) (before after : Option Objects) → between.active ≡ [] → IfOk r (λ n. IsFlushed m layout between new n before after) → OnOk r ((new.active ≡ []) × (new.frozen ≡ []))
all_taken (Ok n) m layout between new before after none (idle frozen is kept) = (ap (λ (v : CoreModel). v.active) is ∙ none, ap (λ (v : CoreModel). v.frozen) is ∙ frozen)
all_taken (Ok n) m layout between new before after none (stored ts is tables taken) = (ap (λ (v : CoreModel). v.active) is ∙ none, ap (λ (v : CoreModel). v.frozen) is)
all_taken (Err e) m layout between new before after none h = tt

pub steps_after : (r : Result ℕ SlateDBError) (m : Meaning) (layout : Layout) (old between new : CoreModel) (before after : Option Objects) → IsFrozen old between → IfOk r (λ n. n ≡ last_of between.settings.start_seq between.state.commits) → IfOk r (λ n. IsFlushed m layout between new n before after) →
    IfOk r (λ n. (o : Meaning) → step (rules_of old.settings o) old.state lines.Flush ≡ (new.state, Flushed n))
steps_after (Ok n) m layout old between new before after frozen last is = λ o. step_flush o old between new n frozen last (flushed_is m layout between new n before after is)
steps_after (Err e) m layout old between new before after frozen last is = tt

-- by any segments
pub steps_in : {E : Type 0} (r : Result ℕ E) (old new : CoreModel) → IfOk r (λ n. (o : Meaning) → step (rules_of old.settings o) old.state lines.Flush ≡ (new.state, Flushed n)) →
    IfOk r (λ n. (o : Meaning) (g : Segments) → step (rules_in old.settings o g) old.state lines.Flush ≡ (new.state, Flushed n))
steps_in (Ok n) old new steps = λ o g. steps o
steps_in (Err e) old new steps = tt

-- nothing is committed behind its freeze
pub quiet_after : (r : Result ℕ SlateDBError) (m : Meaning) (layout : Layout) (between new : CoreModel) (before after : Option Objects) → IsQuiet between.events → IfOk r (λ n. IsFlushed m layout between new n before after) → OnOk r (IsQuiet new.events)
quiet_after (Ok n) m layout between new before after quiet (idle none is kept) = subst (λ (v : CoreModel). IsQuiet v.events) (sym is) quiet
quiet_after (Ok n) m layout between new before after quiet (stored ts is tables taken) = subst (λ (v : CoreModel). IsQuiet v.events) (sym is) (quiet_more between.events (events.Install n ts) refl refl quiet)
quiet_after (Err e) m layout between new before after quiet h = tt
