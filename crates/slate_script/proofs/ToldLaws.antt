-- What acts that a store tells leave of its objects, line by line.
use Rattle.std.proofs.Common.{◌≡◌, ℕ, ◌≤◌, inl, inr, List, [], ◌∷◌, ◌++◌, length, Option, Some, Result, Ok, Err, OnOk, refl, sym, ap, ◌∙◌, subst, arith, append_assoc}
use Rattle.std.specs.Prelude.{IfErr}
use Rattle.std.specs.List.{AllByRecursion}
use Rattle.std.proofs.lemmas.List.{append-nil, append_cancel_left}
use Rattle.std.proofs.lemmas.List.Elements.{Contains-append_left, Contains-append_right}
use Rattle.slate_types.specs.declared.error.SlateDBError.{SlateDBError}
use Rattle.slate_types.specs.declared.types.Ulid.{Ulid}
use Rattle.slate_types.specs.Outside.{Objects, Counts, IsCounted, Reach}
use Rattle.slate_types.specs.World.{Made}
use Rattle.slate_types.proofs.Lists.{AllByRecursion_append}
use Rattle.slate_store.specs.Store.{Act, with_object}
use Rattle.slate_filter.specs.Policy.{Policy}
use Rattle.slate_table.specs.Paths.{path_of}
use Rattle.slate_mem.specs.KeyTests.{Segments}
use Rattle.slate_txn.specs.declared.event.Event.TheVariants as events
use Rattle.slate_txn.specs.declared.line.Line.{Line}
use Rattle.slate_txn.specs.declared.line.Line.TheVariants as lines
use Rattle.slate_db.specs.Answered.{AddsPuts, AddsReads, AddsTables, AnswersAct, AnswersAs, PutsNothing}
use Rattle.slate_db.specs.Flushed.{IsFlushed, Layout, idle, stored, with_tables}
use Rattle.slate_db.specs.Frozen.{IsFrozen}
use Rattle.slate_db.specs.Installs.{root, tables_of}
use Rattle.slate_db.specs.Meaning.{Meaning}
use Rattle.slate_db.specs.Model.{CoreModel}
use Rattle.slate_db.specs.Parts.{IsTableError}
use Rattle.slate_db.specs.Segmented.{IsSegmented}
use Rattle.slate_db.specs.Sound.{IsKept}
use Rattle.slate_db.specs.Log.{LIMIT}
use Rattle.slate_db.specs.Settled.{IsSettled}
use Rattle.slate_script.specs.Calls.Line.{IsPutAct, OnlyPuts}
use Rattle.slate_script.specs.Session.{SessionModel, StoresNothing}
use Rattle.slate_script.specs.Told.{ArePut, AreTrue, Follows, IsRefusedAt, IsShownAtEnd, IsShownBy, IsUntrue, PutsTables}
use Rattle.slate_store.specs.Lying.{after_act, after_acts}
use Rattle.slate_db.proofs.Logs.{tables_more}
use Rattle.slate_script.proofs.Running.{not_damage}
use Rattle.slate_script.proofs.SessionLeaves.{leaves_frozen}
use Rattle.slate_script.proofs.SessionStores.{flush_settled, same_tables, stays_settled, tables_still}

-- ---- acts

reads_keep : (os : Objects) (acts : List Act) → AllByRecursion PutsNothing acts → after_acts os acts ≡ os
reads_keep os [] h = refl
reads_keep os (Act.put path bytes ∷ acts) h = absurd h.0
reads_keep os (Act.read path start size answer ∷ acts) h = reads_keep os acts h.1
reads_keep os (Act.len path answer ∷ acts) h = reads_keep os acts h.1

reads_true : (os : Objects) (acts : List Act) → AllByRecursion PutsNothing acts → AreTrue os acts → AllByRecursion (AnswersAct os) acts
reads_true os [] h true = tt
reads_true os (Act.put path bytes ∷ acts) h true = absurd h.0
reads_true os (Act.read path start size answer ∷ acts) h true = (true.0, reads_true os acts h.1 true.1)
reads_true os (Act.len path answer ∷ acts) h true = (tt, reads_true os acts h.1 true.1)

after_both : (os : Objects) (acts more : List Act) → after_acts os (acts ++ more) ≡ after_acts (after_acts os acts) more
after_both os [] more = refl
after_both os (a ∷ acts) more = after_both (after_act os a) acts more

true_behind : (os : Objects) (acts more : List Act) → AreTrue os (acts ++ more) → AreTrue (after_acts os acts) more
true_behind os [] more h = h
true_behind os (a ∷ acts) more h = true_behind (after_act os a) acts more h.1

-- ---- one line

pub follows_itself : (policies : List Policy) (m : Meaning) (seg : Segments) (os : Objects) (e : SessionModel) (acts : Option (List Act)) → IsSettled policies m seg (Some os) e.core → Follows policies m seg os e acts acts
follows_itself policies m seg os e acts settled known is = ([], is ∙ ap (λ (l : List Act). Some l) (sym (append-nil known)), settled)

pub follows_still : {V E : Type 0} (result : Result V E) (policies : List Policy) (m : Meaning) (seg : Segments) (os : Objects) (e new : SessionModel) (acts : Option (List Act)) → OnOk result (StoresNothing m seg e new) → IsSettled policies m seg (Some os) e.core → OnOk result (Follows policies m seg os new acts acts)
follows_still (Ok v) policies m seg os e new acts stores settled = follows_itself policies m seg os new acts (stays_settled policies m seg (Some os) e new stores settled)
follows_still (Err x) policies m seg os e new acts stores settled = tt

pub follows_reads : {V E : Type 0} (result : Result V E) (policies : List Policy) (m : Meaning) (seg : Segments) (os : Objects) (e new : SessionModel) (before after : Option (List Act)) → AddsReads before after → OnOk result (StoresNothing m seg e new) → IsSettled policies m seg (Some os) e.core →
    OnOk result (Follows policies m seg os new before after)
follows_reads (Ok v) policies m seg os e new before after adds stores settled = λ known is.
    let r = adds known is in
    (r.0, r.1, subst (λ (x : Objects). IsSettled policies m seg (Some x) new.core) (sym (reads_keep os r.0 r.2)) (stays_settled policies m seg (Some os) e new stores settled))
follows_reads (Err x) policies m seg os e new before after adds stores settled = tt

-- the puts of tables, as acts
abbrev put_acts : List (Ulid × List ℕ) → List Act
put_acts [] = []
put_acts (t ∷ ts) = put_acts ts ++ (Act.put (path_of root t.0.0) t.1 ∷ [])

puts_told : (ts : List (Ulid × List ℕ)) (before after : Option (List Act)) (known : List Act) →
    AddsPuts ts before after → before ≡ Some known → after ≡ Some (known ++ put_acts ts)
puts_told [] before after known same is =
    same ∙ is ∙ ap (λ (l : List Act). Some l) (sym (append-nil known))
puts_told (t ∷ ts) before after known (middle, rest, act) is =
    act (known ++ put_acts ts) (puts_told ts before middle known rest is)
    ∙ ap (λ (l : List Act). Some l)
    (append_assoc known (put_acts ts) (Act.put (path_of root t.0.0) t.1 ∷ []))

pub puts_alone : (old new : List (Ulid × List ℕ)) (before after : Option (List Act)) → AddsTables old new before after → OnlyPuts before after
puts_alone old new before after (ts, grown, acts) known is = (put_acts ts, puts_told ts before after known acts is, all ts)
  where
    all : (us : List (Ulid × List ℕ)) → AllByRecursion IsPutAct (put_acts us)
    all [] = tt
    all (u ∷ us) = AllByRecursion_append IsPutAct (put_acts us) _ (all us) (tt, tt)

puts_objects : (os : Objects) (ts : List (Ulid × List ℕ)) →
    after_acts os (put_acts ts) ≡ with_tables os ts
puts_objects os [] = refl
puts_objects os (t ∷ ts) =
    after_both os (put_acts ts) (Act.put (path_of root t.0.0) t.1 ∷ [])
    ∙ ap (λ (o : Objects). with_object o (path_of root t.0.0) t.1) (puts_objects os ts)

puts_more : (acts more : List Act) (ts : List (Ulid × List ℕ)) → ArePut acts ts →
    ArePut (acts ++ more) ts
puts_more acts more [] h = tt
puts_more acts more (t ∷ ts) h =
    (Contains-append_left acts more _ h.0, puts_more acts more ts h.1)

puts_are : (ts : List (Ulid × List ℕ)) → ArePut (put_acts ts) ts
puts_are [] = tt
puts_are (t ∷ ts) = (
  Contains-append_right (put_acts ts) (Act.put (path_of root t.0.0) t.1 ∷ []) _
      (0, omega arith, refl),
  puts_more (put_acts ts) (Act.put (path_of root t.0.0) t.1 ∷ []) ts (puts_are ts),
)

pub follows_flush : (m : Meaning) (seg : Segments) (layout : Layout) (os : Objects) (objects left : Option Objects) (e : SessionModel) (mid core : CoreModel) (n : ℕ) (before after : Option (List Act)) → IsFrozen e.core mid → IsFlushed m layout mid core n objects left →
    AddsTables (tables_of e.core.events) (tables_of core.events) before after → length e.core.events ≤ LIMIT → (IsKept m e.core → IsKept m core) → (IsSegmented seg e.core → IsSegmented seg core) → IsSettled layout.policies m seg (Some os) e.core → Follows layout.policies m seg os (record e { core = core }) before after
follows_flush m seg layout os objects left e mid core n before after frozen flushed (us, grown, acts) room kept segmented settled known told = by flushed
  where
    new : SessionModel
    new = record e { core = core }

    same : tables_of mid.events ≡ tables_of e.core.events
    same = same_tables mid.events e.core.events (leaves_frozen e.core mid frozen).runs

    settles : (ts : List (Ulid × List ℕ)) → us ≡ ts → IsSettled layout.policies m seg (Some (with_tables os ts)) new.core → (more : List Act) × (after ≡ Some (known ++ more)) × IsSettled layout.policies m seg (Some (after_acts os more)) new.core
    settles ts it s = (
      put_acts us,
      puts_told us before after known acts told,
      subst (λ (x : Objects). IsSettled layout.policies m seg (Some x) new.core) (sym (puts_objects os us ∙ ap (with_tables os) it)) s,
    )

    by : IsFlushed m layout mid core n objects left → (more : List Act) × (after ≡ Some (known ++ more)) × IsSettled layout.policies m seg (Some (after_acts os more)) new.core
    by (idle none is untouched) =
        settles [] (append_cancel_left (tables_of e.core.events) us [] (sym grown ∙ ap (λ (c : CoreModel). tables_of c.events) is ∙ same ∙ sym (append-nil (tables_of e.core.events))))
        (flush_settled m seg layout (Some os) (Some os) e mid core n frozen (idle none is refl) room kept segmented settled)
    by (stored ts is made takes) =
        settles ts (append_cancel_left (tables_of e.core.events) us ts (sym grown ∙ ap (λ (c : CoreModel). tables_of c.events) is ∙ tables_more mid.events (events.Install n ts) ∙ ap (λ xs. xs ++ ts) same))
        (flush_settled m seg layout (Some os) (Some (with_tables os ts)) e mid core n frozen (stored ts is made refl) room kept segmented settled)

-- ---- damage

pub untrue_get : {X : Type 0} (r : Result X SlateDBError) (os : Objects) (before after : Option (List Act)) (a b : Counts) → AddsReads before after → (AnswersAs os before after → IfErr r (λ e. IsCounted a b e)) → IfErr r (λ e. IsTableError e → IsUntrue os before after)
untrue_get (Ok x) os before after a b adds truthful = tt
untrue_get (Err e) os before after a b adds truthful = λ damage known is.
    let r = adds known is in
    (r.0, r.1, λ true. not_damage {X = Unit {0}} a b e (inl (truthful (record { known = known; more = r.0; began = is; ended = r.1; each = reads_true os r.0 r.2 true }))) damage)

-- ---- one line after others

pub follows_on : (policies : List Policy) (m : Meaning) (seg : Segments) (e new : SessionModel) (first middle last : Option (List Act)) → Follows policies m seg [] e first middle → ((os : Objects) → IsSettled policies m seg (Some os) e.core → Follows policies m seg os new middle last) → Follows policies m seg [] new first last
follows_on policies m seg e new first middle last f g known is =
    let a = f known is in
    let b = g (after_acts [] a.0) a.2 (known ++ a.0) a.1 in
    (a.0 ++ b.0, b.1 ∙ ap (λ (l : List Act). Some l) (append_assoc known a.0 b.0), subst (λ (os : Objects). IsSettled policies m seg (Some os) new.core) (sym (after_both [] a.0 b.0)) b.2)

pub untrue_on : (policies : List Policy) (m : Meaning) (seg : Segments) (e : SessionModel) (first middle last : Option (List Act)) → Follows policies m seg [] e first middle → ((os : Objects) → IsSettled policies m seg (Some os) e.core → IsUntrue os middle last) → IsUntrue [] first last
untrue_on policies m seg e first middle last f g known is =
    let a = f known is in
    let b = g (after_acts [] a.0) a.2 (known ++ a.0) a.1 in
    (a.0 ++ b.0, b.1 ∙ ap (λ (l : List Act). Some l) (append_assoc known a.0 b.0), λ true. b.2 (true_behind [] a.0 b.0 true))

-- ---- tables that were put

puts_behind : (acts more : List Act) (ts : List (Ulid × List ℕ)) → ArePut more ts → ArePut (acts ++ more) ts
puts_behind acts more [] h = tt
puts_behind acts more (t ∷ ts) h = (Contains-append_right acts more _ h.0, puts_behind acts more ts h.1)

puts_both : (acts : List Act) (ts us : List (Ulid × List ℕ)) → ArePut acts ts → ArePut acts us → ArePut acts (ts ++ us)
puts_both acts [] us h k = k
puts_both acts (t ∷ ts) us h k = (h.0, puts_both acts ts us h.1 k)

-- where nothing was put
pub stores_none : {V : Type 0} (m : Meaning) (seg : Segments) (result : Result V SlateDBError) (e new : SessionModel) (before after : Option (List Act)) → AddsReads before after → OnOk result (StoresNothing m seg e new) → OnOk result (PutsTables (tables_of e.core.events) (tables_of new.core.events) before after)
stores_none m seg (Ok v) e new before after adds stores = λ known is. let r = adds known is in (r.0, [], r.1, tables_still e new stores ∙ sym (append-nil (tables_of e.core.events)), tt)
stores_none m seg (Err x) e new before after adds stores = tt

pub stores_added : (old new : List (Ulid × List ℕ)) (before after : Option (List Act)) → AddsTables old new before after → PutsTables old new before after
stores_added old new before after (ts, grown, acts) known is = (put_acts ts, ts, puts_told ts before after known acts is, grown, puts_are ts)

pub stores_itself : (ts : List (Ulid × List ℕ)) (acts : Option (List Act)) → PutsTables ts ts acts acts
stores_itself ts acts known is = ([], [], is ∙ ap (λ (l : List Act). Some l) (sym (append-nil known)), sym (append-nil ts), tt)

-- one line after others
pub stores_on : (ts us : List (Ulid × List ℕ)) (first middle last : Option (List Act)) → PutsTables [] ts first middle → PutsTables ts us middle last → PutsTables [] us first last
stores_on ts us first middle last f g known is =
    let a = f known is in
    let b = g (known ++ a.0) a.2 in
    (a.0 ++ b.0, us, b.2 ∙ ap (λ (l : List Act). Some l) (append_assoc known a.0 b.0), refl, subst (ArePut (a.0 ++ b.0)) (sym (b.3 ∙ ap (λ (l : List (Ulid × List ℕ)). l ++ b.1) a.3)) (puts_both (a.0 ++ b.0) a.1 b.1 (puts_more a.0 b.0 a.1 a.4) (puts_behind a.0 b.0 b.1 b.4)))

-- what is refused by the reads of the last line
pub shown_at_end : (policies : List Policy) (before now after : Reach) (core : CoreModel) (e : SlateDBError) → now.meaning ≡ before.meaning → IsKept before.meaning core → PutsTables [] (tables_of core.events) before.acts now.acts → Made now after (λ reads. IsShownBy policies now.meaning core reads e) → IsShownAtEnd policies before after e
shown_at_end policies before now after core e same kept stores made = record {
  core = core;
  reads = made.0;
  each = made.1.each;
  kept = kept;
  refused = subst (λ (m : Meaning). IsShownBy policies m core made.0 e) same made.2;
  last = λ known is. let a = stores known is in (a.0, made.1.adds (known ++ a.0) a.2, subst (ArePut a.0) (sym a.3) a.4);
}

-- what a line is refused for its reads show
at_shown : (policies : List Policy) (line : Line) (m : Meaning) (core : CoreModel) (reads : List Act) (e : SlateDBError) → IsRefusedAt policies line m core reads e → IsShownBy policies m core reads e
at_shown policies (lines.Get name k) m core reads e h = inl (k, h)
at_shown policies (lines.Scan name order start end sts) m core reads e h = inr h
at_shown policies (lines.Prefix name order p start end sts) m core reads e h = inr h
at_shown policies line m core reads e h = absurd h

pub line_shown : (policies : List Policy) (line : Line) (before after : Reach) (core : CoreModel) (x : SlateDBError) → (IsTableError x → Made before after (λ reads. IsRefusedAt policies line before.meaning core reads x)) → IsTableError x →
    Made before after (λ reads. IsShownBy policies before.meaning core reads x)
line_shown policies line before after core x shown error = let made = shown error in (made.0, made.1, at_shown policies line before.meaning core made.0 x made.2)
