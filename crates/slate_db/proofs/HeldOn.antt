-- The store holds the journal's tables past a flush: new ones lie at paths of their own.
use Rattle.std.proofs.Common.{◌≡◌, ℕ, ◌+◌, ◌^◌, ◌<◌, ◌≤◌, ◌⊎◌, inl, inr, List, [], ◌∷◌, ◌++◌, flat_map, length, Option, Some, None, IfSome, refl, sym, ap, subst, ◌∙◌, arith, append-nil, append_assoc}
use Rattle.std.specs.Prelude.{Result, Ok, Err, IfOk, OnErr, OnOk}
use Rattle.std.specs.List.{AllByRecursion}
use Rattle.std.proofs.lemmas.List.{append_cancel_left}
use Rattle.std.proofs.lemmas.Option.{same_Some}
use Rattle.slate_types.specs.declared.types.Ulid.{Ulid}
use Rattle.slate_types.specs.Outside.{Act, Objects, Reach}
use Rattle.slate_types.proofs.Lists.{AllByRecursion_front}
use Rattle.slate_filter.specs.Policy.{Policy}
use Rattle.slate_store.specs.Lying.{after_act, after_acts}
use Rattle.slate_store.specs.Store.{with_object}
use Rattle.slate_table.specs.Parts.{Encode}
use Rattle.slate_table.specs.Paths.{path_of}
use Rattle.slate_db.specs.Answered.{AddsPuts, AddsTables}
use Rattle.slate_db.specs.Flushed.{IsFlushed, Layout, MayFlush, AreSomeOfFlush, idle, stored, with_tables}
use Rattle.slate_db.specs.Frozen.{IsFrozen}
use Rattle.slate_db.specs.Installs.{ArePlaced, Holds, HoldsTables, root, runs_of, tables_of}
use Rattle.slate_db.specs.Meaning.{Meaning}
use Rattle.slate_db.specs.Model.{CoreModel, IsSame}
use Rattle.slate_db.specs.Readable.{AreFiltered}
use Rattle.slate_db.specs.Whole.{IsWhole, Unseen}
use Rattle.slate_db.proofs.Filtered.{filtered_flushed, filtered_frozen}
use Rattle.slate_db.proofs.Logs.{tables_more}
use Rattle.slate_db.proofs.PathsApart.{IsEarlier, earlier_all, holds_puts, later_place}
use Rattle.slate_db.proofs.Runs.{are_placed}
use Rattle.slate_db.proofs.RunsOf.{tables_are}
use Rattle.slate_txn.specs.Open.{least_start}
use Rattle.slate_txn.specs.State.{last_of}
use Rattle.slate_txn.specs.declared.event.Event.{Event}
use Rattle.slate_txn.specs.declared.event.Event.TheVariants as events

-- the tables of the next flush, or the last of them, are put
next_held : (c : CoreModel) (x : Unseen) (os : Objects) (p : ℕ) (ts : List (Ulid × List ℕ)) → IsWhole c x → ArePlaced (length (runs_of c.events) + 1) p ts → Holds os (tables_of c.events) → Holds (with_tables os ts) (tables_of c.events ++ ts)
next_held c x os p ts w placed h =
    holds_puts os (length (runs_of c.events) + 1) p (tables_of c.events) ts (few x.installs (length (runs_of c.events)) (length c.events) x.ends w.log.installs w.log.installs_within w.log.bound)
    (later_place (length (runs_of c.events) + 1) p _ (subst (AllByRecursion (IsEarlier (length (runs_of c.events) + 1) 0)) (sym (tables_are c.events)) (earlier_all 1 (length (runs_of c.events) + 1) (runs_of c.events) w.log.numbered (omega arith)))) placed h
  where
    few : (installs runs size ends : ℕ) → installs ≡ runs → installs ≤ size → size + ends ≤ 9223372036854775807 → runs + 1 < 2 ^ 64
    few installs runs size ends a b k = omega arith

pub held_flushed : (m : Meaning) (layout : Layout) (c new : CoreModel) (x : Unseen) (n : ℕ) (before after : Option Objects) → IsWhole c x → IsFlushed m layout c new n before after → (os : Objects) → before ≡ Some os → Holds os (tables_of c.events) → HoldsTables after new.events
held_flushed m layout c new x n before after w (idle none is same) os told h =
    subst (λ (o : Option Objects). HoldsTables o new.events) (sym (same ∙ told)) (subst (λ (d : CoreModel). Holds os (tables_of d.events)) (sym is) h)
held_flushed m layout c new x n before after w (stored ts is made takes) os told h =
    subst (λ (o : Option Objects). HoldsTables o new.events) (sym (subst (λ (o : Option Objects). IfSome o (λ objects. after ≡ Some (with_tables objects ts))) told takes))
    (subst (Holds (with_tables os ts)) (sym (ap (λ (d : CoreModel). tables_of d.events) is ∙ tables_more c.events (events.Install n ts)))
    (next_held c x os 0 ts w (are_placed m.encode layout _ 0 made.parts ts made.built) h))

-- a refused one leaves some of them, which no event names
pub held_refused : (m : Meaning) (layout : Layout) (c new : CoreModel) (x : Unseen) (before after : Option Objects) → IsWhole c x → IsSame c new → MayFlush m layout c before after → (os : Objects) → before ≡ Some os → Holds os (tables_of c.events) → HoldsTables after new.events
held_refused m layout c new x before after w same may os told h =
    subst (λ (d : CoreModel). HoldsTables after d.events) (sym same) (by (subst (λ (o : Option Objects). MayFlush m layout c o after) told may))
  where
    by : (after ≡ Some os) ⊎ ((ts : List (Ulid × List ℕ)) × AreSomeOfFlush m layout (length (runs_of c.events) + 1) (least_start (last_of c.settings.start_seq c.state.commits) c.state) c.frozen ts × (after ≡ Some (with_tables os ts))) → HoldsTables after c.events
    by (inl is) = subst (λ (o : Option Objects). HoldsTables o c.events) (sym is) h
    by (inr (ts, (left, made), is)) = subst (λ (o : Option Objects). HoldsTables o c.events) (sym is)
        (AllByRecursion_front _ (tables_of c.events) ts (next_held c x os (length left) ts w (are_placed m.encode layout _ (length left) made.parts ts made.built) h))

pub held_either : {E : Type 0} (r : Result ℕ E) (m : Meaning) (layout : Layout) (c new : CoreModel) (x : Unseen) (before after : Option Objects) → IsWhole c x → IfOk r (λ n. IsFlushed m layout c new n before after) → OnErr r (IsSame c new) → OnErr r (MayFlush m layout c before after) →
    (os : Objects) → before ≡ Some os → Holds os (tables_of c.events) → HoldsTables after new.events
held_either (Ok n) m layout c new x before after w ok same may = held_flushed m layout c new x n before after w ok
held_either (Err e) m layout c new x before after w ok same may = held_refused m layout c new x before after w same may

-- ---- a store that tells its acts

abbrev put_acts : List (Ulid × List ℕ) → List Act
put_acts [] = []
put_acts (t ∷ ts) = put_acts ts ++ (Act.put (path_of root t.0.0) t.1 ∷ [])

after_one : (os : Objects) (acts : List Act) (a : Act) →
    after_acts os (acts ++ (a ∷ [])) ≡ after_act (after_acts os acts) a
after_one os [] a = refl
after_one os (x ∷ acts) a = after_one (after_act os x) acts a

puts_objects : (os : Objects) (ts : List (Ulid × List ℕ)) →
    after_acts os (put_acts ts) ≡ with_tables os ts
puts_objects os [] = refl
puts_objects os (t ∷ ts) = after_one os (put_acts ts) (Act.put (path_of root t.0.0) t.1)
    ∙ ap (λ (o : Objects). with_object o (path_of root t.0.0) t.1) (puts_objects os ts)

puts_told : (ts : List (Ulid × List ℕ)) (before after : Option (List Act)) (known : List Act) →
    AddsPuts ts before after → before ≡ Some known → after ≡ Some (known ++ put_acts ts)
puts_told [] before after known same is =
    same ∙ is ∙ ap (λ (l : List Act). Some l) (sym (append-nil known))
puts_told (t ∷ ts) before after known (middle, rest, act) is =
    act (known ++ put_acts ts) (puts_told ts before middle known rest is)
    ∙ ap (λ (l : List Act). Some l)
    (append_assoc known (put_acts ts) (Act.put (path_of root t.0.0) t.1 ∷ []))

-- what the objects hold that the acts left
abbrev pub LeavesHeld : Option (List Act) → Option (List Act) → List Event → List Event → Type 0
LeavesHeld before after old new = (os : Objects) (known more : List Act) → before ≡ Some known → after ≡ Some (known ++ more) → Holds os (tables_of old) → Holds (after_acts os more) (tables_of new)

pub tells_flushed : (m : Meaning) (layout : Layout) (c new : CoreModel) (x : Unseen) (n : ℕ) (objects left : Option Objects) (before after : Option (List Act)) → IsWhole c x → IsFlushed m layout c new n objects left → AddsTables (tables_of c.events) (tables_of new.events) before after →
    LeavesHeld before after c.events new.events
tells_flushed m layout c new x n objects left before after w flushed (ts, grown, acts) os known more began ended h = by flushed
  where
    more_is : more ≡ put_acts ts
    more_is = append_cancel_left known more (put_acts ts) (same_Some _ _ (sym ended ∙ puts_told ts before after known acts began))

    by : IsFlushed m layout c new n objects left → Holds (after_acts os more) (tables_of new.events)
    by (idle none is same) =
        let nothing : ts ≡ [] = append_cancel_left (tables_of c.events) ts [] (sym grown ∙ ap (λ (d : CoreModel). tables_of d.events) is ∙ sym (append-nil (tables_of c.events))) in
        subst (λ (told : List Act). Holds (after_acts os told) (tables_of new.events)) (sym (more_is ∙ ap put_acts nothing)) (subst (λ (d : CoreModel). Holds os (tables_of d.events)) (sym is) h)
    by (stored us is made takes) =
        let put : tables_of new.events ≡ tables_of c.events ++ us = ap (λ (d : CoreModel). tables_of d.events) is ∙ tables_more c.events (events.Install n us) in
        let same : ts ≡ us = append_cancel_left (tables_of c.events) ts us (sym grown ∙ put) in
        subst (λ (o : Objects). Holds o (tables_of new.events)) (sym (ap (after_acts os) (more_is ∙ ap put_acts same) ∙ puts_objects os us))
        (subst (Holds (with_tables os us)) (sym put) (next_held c x os 0 us w (are_placed m.encode layout _ 0 made.parts us made.built) h))

pub tells_either : {E : Type 0} (r : Result ℕ E) (m : Meaning) (layout : Layout) (c new : CoreModel) (x : Unseen) (objects left : Option Objects) (before after : Option (List Act)) → IsWhole c x → IfOk r (λ n. IsFlushed m layout c new n objects left) →
    OnOk r (AddsTables (tables_of c.events) (tables_of new.events) before after) → OnOk r (LeavesHeld before after c.events new.events)
tells_either (Ok n) m layout c new x objects left before after w ok adds = tells_flushed m layout c new x n objects left before after w ok adds
tells_either (Err e) m layout c new x objects left before after w ok adds = tt

-- ---- where nothing is stored

pub held_still : (old new : List Event) (before after : Option Objects) → tables_of new ≡ tables_of old → after ≡ before → (os : Objects) → before ≡ Some os → Holds os (tables_of old) → HoldsTables after new
held_still old new before after tables same os told h = subst (λ (o : Option Objects). HoldsTables o new) (sym (same ∙ told)) (subst (Holds os) (sym tables) h)

pub tells_still : (old new : List Event) (before after : Option (List Act)) → tables_of new ≡ tables_of old → after ≡ before → LeavesHeld before after old new
tells_still old new before after tables same os known more began ended h =
    let none : more ≡ [] = append_cancel_left known more [] (same_Some _ _ (sym ended ∙ same ∙ began) ∙ sym (append-nil known)) in
    subst (λ (told : List Act). Holds (after_acts os told) (tables_of new)) (sym none) (subst (Holds os) (sym tables) h)

-- behind the freeze
pub held_behind : (old mid new : List Event) (before after : Option Objects) → tables_of mid ≡ tables_of old → ((os : Objects) → before ≡ Some os → Holds os (tables_of mid) → HoldsTables after new) → (os : Objects) → before ≡ Some os → Holds os (tables_of old) → HoldsTables after new
held_behind old mid new before after tables f os told h = f os told (subst (Holds os) (sym tables) h)

pub tells_behind : {E : Type 0} (r : Result ℕ E) (old mid new : List Event) (before after : Option (List Act)) → tables_of mid ≡ tables_of old → OnOk r (LeavesHeld before after mid new) → OnOk r (LeavesHeld before after old new)
tells_behind (Ok n) old mid new before after tables f = λ os known more began ended h. f os known more began ended (subst (Holds os) (sym tables) h)
tells_behind (Err e) old mid new before after tables f = tt

-- ---- filters

pub filtered_still : (encode : Encode) (policies : List Policy) (old new : CoreModel) → new ≡ old → AreFiltered encode policies (tables_of old.events) → AreFiltered encode policies (tables_of new.events)
filtered_still encode policies old new same h = subst (λ (c : CoreModel). AreFiltered encode policies (tables_of c.events)) (sym same) h

pub filters_either : {E : Type 0} (r : Result ℕ E) (layout : Layout) (before after : Reach) (old between new : CoreModel) → IsFrozen old between → IfOk r (λ n. IsFlushed before.meaning layout between new n before.objects after.objects) → OnErr r (IsSame between new) →
    AreFiltered before.meaning.encode layout.policies (tables_of old.events) → AreFiltered before.meaning.encode layout.policies (tables_of new.events)
filters_either (Ok n) layout before after old between new froze ok same h = filtered_flushed layout before after old between new n froze ok h
filters_either (Err e) layout before after old between new froze ok same h =
    subst (λ (c : CoreModel). AreFiltered before.meaning.encode layout.policies (tables_of c.events)) (sym same) (filtered_frozen before.meaning.encode layout.policies old between froze h)
