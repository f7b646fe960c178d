-- What the store of the one thread that flushes holds.
use Rattle.std.proofs.Common.{◌≡◌, ◌⊎◌, inl, inr, ⊎_elim, ℕ, suc, ◌+◌, ◌<◌, ◌≤◌, Some}
use Rattle.std.proofs.Common.{List, [], ◌∷◌, ◌++◌, length, slice_get}
use Rattle.std.proofs.Common.{refl, sym, ap, subst, ◌∙◌, arith, length-append}
use Rattle.std.proofs.lemmas.List.{append-nil}
use mathlib.Core.List.{IsPrefix}
use Rattle.slate_types.specs.declared.types.Ulid.{Ulid}
use Rattle.slate_types.specs.Outside.{Objects}
use Rattle.slate_txn.specs.declared.event.Event.{Event}
use Rattle.slate_txn.specs.declared.event.Event.TheVariants as events
use Rattle.slate_db.specs.Installs.{Holds, tables_in, tables_of}
use Rattle.slate_shared.specs.Shared.{times}
use Rattle.slate_shared.proofs.Lists.{get_below, prefix_self}
use Rattle.slate_threads.specs.Readers.{OwnsInstalls}
use Rattle.slate_threads.specs.Laws.{FlushKeepsTables, IdleKeepsTables, NewKeepsTables}
use Rattle.slate_threads.specs.Laws.{TablesAreStored}
use Rattle.slate_threads.proofs.OwnPlaces.{either_own, get_behind, is_there}

abbrev Tables : Type 0
Tables = List (Ulid × List ℕ)

-- ---- tables of lists of events

tables_both : (es fs : List Event) → tables_of (es ++ fs) ≡ tables_of es ++ tables_of fs
tables_both [] fs = refl
tables_both (e ∷ es) fs =
    ap (λ (ts : Tables). tables_in e ++ ts) (tables_both es fs)
    ∙ sym (assoc (tables_in e) (tables_of es) (tables_of fs))
  where
    assoc : (xs ys zs : Tables) → (xs ++ ys) ++ zs ≡ xs ++ (ys ++ zs)
    assoc [] ys zs = refl
    assoc (x ∷ xs) ys zs = ap (λ (ts : Tables). x ∷ ts) (assoc xs ys zs)

-- events without an install, each by its place
none_here : (e : Event) →
    ((through : ℕ) (tables : Tables) → e ≡ events.Install through tables → ⊥) → tables_in e ≡ []
none_here (events.Begin id level start) h = refl
none_here (events.End id) h = refl
none_here (events.Commit id n now ops tracked ts) h = refl
none_here (events.Write n now ops) h = refl
none_here events.Freeze h = refl
none_here (events.Install through tables) h = absurd (h through tables refl)
none_here (events.Snapshot id n) h = refl
none_here (events.Release id) h = refl

abbrev NoneIn : List Event → Type 0
NoneIn es = (p through : ℕ) (tables : Tables) →
    slice_get es p ≡ Some (events.Install through tables) → ⊥

none_in : (es : List Event) → NoneIn es → tables_of es ≡ []
none_in [] h = refl
none_in (e ∷ es) h =
    ap (λ (ts : Tables). ts ++ tables_of es)
    (none_here e (λ through tables is. h 0 through tables (ap (λ (x : Event). Some x) is)))
    ∙ none_in es (λ p through tables is. h (suc p) through tables is)

get_rest : (xs ys : List Event) (p : ℕ) (e : Event) → slice_get ys p ≡ Some e →
    slice_get (xs ++ ys) (length xs + p) ≡ Some e
get_rest [] ys p e is = subst (λ (n : ℕ). slice_get ys n ≡ Some e) (at p) is
  where
    at : (p : ℕ) → p ≡ 0 + p
    at p = omega arith
get_rest (x ∷ xs) ys p e is =
    subst (λ (n : ℕ). slice_get (x ∷ (xs ++ ys)) n ≡ Some e) (at (length xs) p)
    (get_rest xs ys p e is)
  where
    at : (n p : ℕ) → suc (n + p) ≡ suc n + p
    at n p = omega arith

beyond : (n p : ℕ) → n + p < n → ⊥
beyond n p h = omega (arith, h)

-- a journal whose installs all stand at places that were seen before: it names no table more
nothing_more : (own : List ℕ) (seen es : List Event) → IsPrefix seen es →
    ((i : ℕ) → 0 < times i own → i < length seen) → OwnsInstalls own es →
    tables_of es ≡ tables_of seen
nothing_more own seen es p within all =
    ap tables_of (sym p.1)
    ∙ tables_both seen p.0
    ∙ ap (λ (ts : Tables). tables_of seen ++ ts) (none_in p.0 none)
    ∙ append-nil (tables_of seen)
  where
    none : NoneIn p.0
    none i through tables is =
        beyond (length seen) i (within (length seen + i)
        (all (length seen + i) through tables
        (subst
        (λ (l : List Event).
        slice_get l (length seen + i) ≡ Some (events.Install through tables))
        p.1
        (get_rest seen p.0 i (events.Install through tables) is))))

-- who has all installs of a journal has those of its beginning
installs_before : (own : List ℕ) (seen es : List Event) → IsPrefix seen es → OwnsInstalls own es →
    OwnsInstalls own seen
installs_before own seen es p all i through tables is =
    all i through tables
    (subst (λ (l : List Event). slice_get l i ≡ Some (events.Install through tables)) p.1
    (get_behind seen p.0 i (events.Install through tables) is))

prefix_bound : (seen es : List Event) → IsPrefix seen es → length seen ≤ length es
prefix_bound seen es p =
    let n = length-append seen p.0 in let m = ap length p.1 in omega (arith, n, m)

further : (i a b : ℕ) → i < a → a ≤ b → i < b
further i a b h k = omega (arith, h, k)

-- ---- a pass that did nothing yet

pub new_keeps : NewKeepsTables
new_keeps p os none = record {
  os = os;
  told = refl;
  within = λ i mine. absurd (nowhere i mine);
  holds = λ all.
      subst (Holds os)
      (sym (none_in p.seen (λ i through tables is. nowhere i (all i through tables is)))) tt;
}
  where
    zero_not : 0 < 0 → ⊥
    zero_not h = omega (arith, h)

    nowhere : (i : ℕ) → 0 < times i p.own → ⊥
    nowhere i mine = zero_not (subst (λ (own : List ℕ). 0 < times i own) none mine)

-- ---- a call that adds no place

pub idle_keeps : IdleKeepsTables
idle_keeps old new before after p same keeps k = record {
  os = left.0;
  told = left.1;
  within = λ i mine. further i (length old.seen) (length new.seen) (k.within i (mine_before i mine))
      (prefix_bound old.seen new.seen p);
  holds = λ all.
      subst (Holds left.0)
      (sym (nothing_more old.own old.seen new.seen p k.within (own_before all)))
      (left.2 old.seen p (k.holds (installs_before old.own old.seen new.seen p (own_before all))));
}
  where
    left : (os : Objects) × (after ≡ Some os) × ((known : List Event) → IsPrefix known new.seen →
        Holds k.os (tables_of known) → Holds os (tables_of known))
    left = keeps k.os k.told

    mine_before : (i : ℕ) → 0 < times i new.own → 0 < times i old.own
    mine_before i mine = subst (λ (own : List ℕ). 0 < times i own) same mine

    own_before : OwnsInstalls new.own new.seen → OwnsInstalls old.own new.seen
    own_before all i through tables is = mine_before i (all i through tables is)

-- ---- a flush

one_place : (own : List ℕ) (n i : ℕ) → 0 < times i (own ++ (n ∷ [])) → i < n → 0 < times i own
one_place own n i mine low =
    ⊎_elim (λ (last : i ≡ n). absurd (apart last low)) (λ (h : 0 < times i own). h)
    (is_there i n own mine)
  where
    apart : i ≡ n → i < n → ⊥
    apart e l = omega (arith, e, l)

pub flush_keeps : FlushKeepsTables
flush_keeps o m layout n before after old new f k = record {
  os = left.0;
  told = left.1;
  within = λ i mine.
      subst (λ (l : List Event). i < length l) (sym f.event)
      (within_new i (subst (λ (own : List ℕ). 0 < times i own) f.place mine));
  holds = λ all.
      subst (λ (l : List Event). Holds left.0 (tables_of l)) (sym f.event)
      (subst (Holds left.0) (sym tables_new)
      (left.2 f.journal (prefix_self f.journal)
      (held (subst (λ (l : List Event). OwnsInstalls new.own l) f.event all))));
}
  where
    install : Event
    install = events.Install n f.tables

    left : (os : Objects) × (after ≡ Some os) × ((known : List Event) → IsPrefix known f.journal →
        Holds k.os (tables_of known) → Holds os (tables_of known ++ f.tables))
    left = f.stored k.os k.told

    tables_new : tables_of (f.journal ++ (install ∷ [])) ≡ tables_of f.journal ++ f.tables
    tables_new =
        tables_both f.journal (install ∷ [])
        ∙ ap (λ (ts : Tables). tables_of f.journal ++ ts) (append-nil f.tables)

    low : (i : ℕ) → 0 < times i old.own → i < length f.journal
    low i mine =
        further i (length old.seen) (length f.journal) (k.within i mine)
        (prefix_bound old.seen f.journal f.seen)

    at_end : (i : ℕ) → (i ≡ length f.journal) ⊎ (0 < times i old.own) → i < length f.journal + 1
    at_end i (inl last) = omega (arith, last)
    at_end i (inr mine) = let l = low i mine in omega (arith, l)

    within_new : (i : ℕ) → 0 < times i (old.own ++ (length f.journal ∷ [])) →
        i < length (f.journal ++ (install ∷ []))
    within_new i mine =
        subst (λ (m : ℕ). i < m) (sym (length-append f.journal (install ∷ [])))
        (at_end i (is_there i (length f.journal) old.own mine))

    -- the installs before it are earlier ones of its own
    own_before : OwnsInstalls new.own (f.journal ++ (install ∷ [])) → OwnsInstalls old.own f.journal
    own_before all i through tables is =
        one_place old.own (length f.journal) i
        (subst (λ (own : List ℕ). 0 < times i own) f.place
        (all i through tables
        (get_behind f.journal (install ∷ []) i (events.Install through tables) is)))
        (get_below f.journal (events.Install through tables) i is)

    held : OwnsInstalls new.own (f.journal ++ (install ∷ [])) → Holds k.os (tables_of f.journal)
    held all = subst (Holds k.os)
        (sym (nothing_more old.own old.seen f.journal f.seen k.within (own_before all)))
        (k.holds (installs_before old.own old.seen f.journal f.seen (own_before all)))

-- ---- if all installs are its own

pub tables_are_stored : TablesAreStored
tables_are_stored p store others es begins whole nothing k = (
  k.os,
  k.told,
  subst (Holds k.os) (sym (nothing_more p.own p.seen es begins k.within all))
      (k.holds (installs_before p.own p.seen es begins all)),
)
  where
    owned : (n : ℕ) → n ≡ 1 → 0 < n
    owned n e = omega (arith, e)

    all : OwnsInstalls p.own es
    all i through tables is =
        ⊎_elim
        (λ (theirs : 0 < times i others).
        absurd (nothing.each i (events.Install through tables) theirs is))
        (λ (mine : 0 < times i p.own). mine)
        (either_own i others p.own
        (owned (times i (others ++ p.own)) (whole i (events.Install through tables) is refl)))
