-- What the journal's installs name, event by event, and that a store holds it past a flush.
use Rattle.std.proofs.Common.{◌≡◌, ◌⊎◌, ℕ, ◌+◌, ◌^◌, ◌<◌, ◌≤◌, inl, inr, List, [], ◌∷◌, ◌++◌, flat_map, length, Option, Some, None, IfSome, refl, sym, ap, ◌∙◌, subst, arith}
use Rattle.std.specs.Prelude.{Result, Ok, Err, IfOk, OnErr, OnOk, ℤ}
use Rattle.std.specs.List.{AllByRecursion}
use Rattle.std.proofs.lemmas.Grind.{flat_map-append}
use mathlib.Core.List.{IsPrefix}
use Rattle.slate_types.specs.declared.config.IsolationLevel.{IsolationLevel}
use Rattle.slate_types.specs.declared.error.SlateDBError.{SlateDBError}
use Rattle.slate_types.specs.declared.types.Ulid.{Ulid}
use Rattle.slate_types.specs.Outside.{Objects}
use Rattle.slate_types.proofs.Lists.{AllByRecursion_append, AllByRecursion_front}
use Rattle.slate_filter.specs.Policy.{Policy}
use Rattle.slate_mem.specs.Batch.{Ops}
use Rattle.slate_table.specs.Filtered.{HasFiltersOf}
use Rattle.slate_txn.specs.declared.event.Event.{Event}
use Rattle.slate_txn.specs.declared.event.Event.TheVariants as events
use Rattle.slate_txn.specs.State.{Tx}
use Rattle.slate_db.specs.declared.flight.Flight.{Flight}
use Rattle.slate_db.specs.Flushed.{AreSomeOfFlush, AreTablesOfFlush, Layout, MayTakeTables, TakesTables, with_tables}
use Rattle.slate_db.specs.Flying.{IsAloft, after_flight}
use Rattle.slate_db.specs.Frozen.{IsFrozen}
use Rattle.slate_db.specs.Installs.{ArePlaced, Holds, NumberedFrom, runs_in, runs_of, tables_in, tables_of}
use Rattle.slate_db.specs.Meaning.{Meaning}
use Rattle.slate_db.specs.Model.{CoreModel, IsSame, Rows}
use Rattle.slate_db.specs.Readable.{AreFiltered}
use Rattle.slate_db.proofs.Filtered.{tables_filtered}
use Rattle.slate_db.proofs.Logs.{numbered_more, tables_more, tables_same}
use Rattle.slate_db.proofs.PathsApart.{IsEarlier, earlier_all, holds_puts, later_place}
use Rattle.slate_db.proofs.Runs.{are_placed}
use Rattle.slate_db.proofs.RunsOf.{runs_more, runs_same, tables_are}
use Rattle.slate_shared.specs.Ended.{behind_write, end_event}
use Rattle.slate_shared.specs.Errands.{IsNextFlush, KeepsOn, StoresOn}
use Rattle.slate_shared.specs.Locked.{NamesTables}
use Rattle.slate_shared.proofs.LockedLaws.{Notes}

-- ---- event by event

module _ (m : Meaning) (ps : List Policy) where
  pub names_none : (es : List Event) → es ≡ [] → NamesTables m ps es
  names_none es is = subst (NamesTables m ps) (sym is) (record { numbered = tt; filtered = tt })

  pub names_same : (es new : List Event) → new ≡ es → NamesTables m ps es → NamesTables m ps new
  names_same es new is h = subst (NamesTables m ps) (sym is) h

  -- an event that installs nothing
  pub names_more : (es new : List Event) (e : Event) → new ≡ es ++ e ∷ [] → runs_in e ≡ [] → tables_in e ≡ [] → NamesTables m ps es → NamesTables m ps new
  names_more es new e is runs tables h = record {
    numbered = subst (NumberedFrom 1) (sym (ap runs_of is ∙ runs_same es e runs)) h.numbered;
    filtered = subst (AreFiltered m.encode ps) (sym (ap tables_of is ∙ tables_same es e tables)) h.filtered;
  }

  pub names_begun : (c d : CoreModel) (level : IsolationLevel) (r : Result (List ℕ × ℕ) SlateDBError) → Notes c d level r → OnErr r (d ≡ c) → NamesTables m ps c.events → NamesTables m ps d.events
  names_begun c d level (Ok a) notes same h = names_more c.events d.events (events.Begin a.0 level a.1) (ap (λ (x : CoreModel). x.events) notes) refl refl h
  names_begun c d level (Err e) notes same h = names_same c.events d.events (ap (λ (x : CoreModel). x.events) same) h

  pub names_frozen : (c d : CoreModel) → IsFrozen c d → NamesTables m ps c.events → NamesTables m ps d.events
  names_frozen c d (inl s) h = names_same c.events d.events (ap (λ (x : CoreModel). x.events) s.1) h
  names_frozen c d (inr s) h = names_more c.events d.events events.Freeze (ap (λ (x : CoreModel). x.events) s.1) refl refl h

  pub names_refused : (c d : CoreModel) → (d ≡ c) ⊎ IsFrozen c d → NamesTables m ps c.events → NamesTables m ps d.events
  names_refused c d (inl same) h = names_same c.events d.events (ap (λ (x : CoreModel). x.events) same) h
  names_refused c d (inr froze) h = names_frozen c d froze h

  pub names_ended : (es new : List Event) (id : List ℕ) (now : ℤ) (t : Tx) (r : Result (Option ℕ) SlateDBError) → new ≡ es ++ end_event id now t r ∷ [] → NamesTables m ps es → NamesTables m ps new
  names_ended es new id now t (Ok n) is h = names_more es new (end_event id now t (Ok n)) is refl refl h
  names_ended es new id now t (Err e) is h = names_more es new (events.End id) is refl refl h

  pub names_written : (es new : List Event) (now : ℤ) (ops : Ops) (r : Result (Option ℕ) SlateDBError) → new ≡ behind_write es now ops r → NamesTables m ps es → NamesTables m ps new
  names_written es new now ops (Ok (Some n)) is h = names_more es new (events.Write n now ops) is refl refl h
  names_written es new now ops (Ok None) is h = names_same es new is h
  names_written es new now ops (Err e) is h = names_same es new is h

  pub names_installed : (layout : Layout) (es new : List Event) (through number barrier : ℕ) (layers : List Rows) (ts : List (Ulid × List ℕ)) → new ≡ es ++ events.Install through ts ∷ [] → layout.policies ≡ ps → number ≡ length (runs_of es) + 1 →
      AreTablesOfFlush m layout number barrier layers ts → NamesTables m ps es → NamesTables m ps new
  names_installed layout es new through number barrier layers ts is policies next made h = record {
    numbered = subst (NumberedFrom 1) (sym (ap runs_of is ∙ runs_more es (events.Install through ts)))
        (numbered_more 1 (runs_of es) ts h.numbered (subst (λ (k : ℕ). ArePlaced k 0 ts) (let z : number ≡ 1 + length (runs_of es) = omega (arith, next) in z) (are_placed m.encode layout number 0 made.parts ts made.built)));
    filtered = subst (AreFiltered m.encode ps) (sym (ap tables_of is ∙ tables_more es (events.Install through ts)))
        (AllByRecursion_append (λ (t : Ulid × List ℕ). HasFiltersOf m.encode ps t.0.0 t.1) (tables_of es) ts h.filtered
        (subst (λ (qs : List Policy). AreFiltered m.encode qs ts) policies (tables_filtered m.encode layout number 0 made.parts ts made.built)));
  }

  -- the flight on its way has the next number
  pub next_flush : (c : CoreModel) (es : List Event) (flight o : Option Flight) (f : Flight) → IsAloft m flight c → NamesTables m ps c.events → c.events ≡ es → flight ≡ o → o ≡ Some f → IsNextFlush f.number es
  next_flush c es flight o f aloft h is same flies =
      let flying = subst (λ (x : Option Flight). IsAloft m x c) (same ∙ flies) aloft in
      subst (IsNextFlush f.number) is (record { number = flying.0.number; numbered = h.numbered })

-- ---- what a store holds

-- the tables of a flush with this number, or the last of them, are put
holds_next : (number p : ℕ) (journal known : List Event) (os : Objects)
    (ts : List (Ulid × List ℕ)) → IsNextFlush number journal → number < 2 ^ 64 →
    IsPrefix known journal → ArePlaced number p ts → Holds os (tables_of known) →
    Holds (with_tables os ts) (tables_of known ++ ts)
holds_next number p journal known os ts next fits pre placed h =
    holds_puts os number p (tables_of known) ts fits (later_place number p (tables_of known)
    (AllByRecursion_front (IsEarlier number 0) (tables_of known) (tables_of pre.0)
    (subst (AllByRecursion (IsEarlier number 0)) (grown known pre.0 journal pre.1) all))) placed h
  where
    all : AllByRecursion (IsEarlier number 0) (tables_of journal)
    all = subst (AllByRecursion (IsEarlier number 0)) (sym (tables_are journal)) (earlier_all 1 number (runs_of journal) next.numbered (let n = next.number in omega (arith, n)))

    grown : (xs ys zs : List Event) → xs ++ ys ≡ zs → tables_of zs ≡ tables_of xs ++ tables_of ys
    grown xs ys zs is = ap tables_of (sym is) ∙ flat_map-append tables_in xs ys

pub keeps_same : (journal : List Event) (before after : Option Objects) → after ≡ before → KeepsOn journal before after
keeps_same journal before after same os told = (os, same ∙ told, λ known pre h. h)

module _ (number : ℕ) (journal : List Event) (ts : List (Ulid × List ℕ)) (before after : Option Objects) (fits : number < 2 ^ 64) (placed : ArePlaced number 0 ts) (takes : TakesTables ts before after) (next : IsNextFlush number journal) where
  after_is : (os : Objects) → before ≡ Some os → after ≡ Some (with_tables os ts)
  after_is os told = subst (λ (o : Option Objects). IfSome o (λ objects. after ≡ Some (with_tables objects ts))) told takes

  pub stores_on : StoresOn journal ts before after
  stores_on os told = (with_tables os ts, after_is os told, λ known pre h. holds_next number 0 journal known os ts next fits pre placed h)

  pub keeps_on : KeepsOn journal before after
  keeps_on os told = (with_tables os ts, after_is os told, λ known pre h. AllByRecursion_front _ (tables_of known) ts (holds_next number 0 journal known os ts next fits pre placed h))

-- a refused one leaves some of them, which no event names
pub keeps_some : (m : Meaning) (layout : Layout) (number barrier : ℕ) (layers : List Rows) (journal : List Event) (before after : Option Objects) → number < 2 ^ 64 → IsNextFlush number journal → MayTakeTables (AreSomeOfFlush m layout number barrier layers) before after → KeepsOn journal before after
keeps_some m layout number barrier layers journal before after fits next may os told = by (subst (λ (o : Option Objects). MayTakeTables (AreSomeOfFlush m layout number barrier layers) o after) told may)
  where
    by : (after ≡ Some os) ⊎ ((ts : List (Ulid × List ℕ)) × AreSomeOfFlush m layout number barrier layers ts × (after ≡ Some (with_tables os ts))) → (left : Objects) × (after ≡ Some left) × ((known : List Event) → IsPrefix known journal → Holds os (tables_of known) → Holds left (tables_of known))
    by (inl is) = (os, is, λ known pre h. h)
    by (inr (ts, (left, made), is)) = (with_tables os ts, is, λ known pre h. AllByRecursion_front _ (tables_of known) ts (holds_next number (length left) journal known os ts next fits pre (are_placed m.encode layout number (length left) made.parts ts made.built) h))
