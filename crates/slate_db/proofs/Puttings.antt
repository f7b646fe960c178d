-- What a flush adds to the tables that the journal names, and to the acts that a store tells.
use Rattle.std.proofs.Common.{◌≡◌, ℕ, ◌⊎◌, List, [], ◌∷◌, ◌++◌, Option, Some, None, inl, inr, refl, ap, sym, subst, ◌∙◌}
use Rattle.std.specs.Prelude.{IfSome}
use Rattle.slate_types.specs.declared.types.Ulid.{Ulid}
use Rattle.slate_types.specs.Outside.{Objects}
use Rattle.slate_store.specs.Store.{Act, with_object}
use Rattle.slate_table.specs.Paths.{path_of}
use Rattle.slate_txn.specs.declared.event.Event.{Event}
use Rattle.slate_txn.specs.declared.event.Event.TheVariants as events
use Rattle.slate_db.specs.Answered.{AddsPuts, AddsTables}
use Rattle.slate_db.specs.Flushed.{MayTakeTables, TakesTables, with_tables}
use Rattle.slate_db.specs.Frozen.{IsFrozen}
use Rattle.slate_db.specs.Installs.{root, tables_of}
use Rattle.slate_db.specs.Model.{CoreModel}
use Rattle.slate_db.proofs.Logs.{tables_more, tables_same}

pub frozen_tables : (old new : CoreModel) → IsFrozen old new → tables_of new.events ≡ tables_of old.events
frozen_tables old new (inl same) = ap (λ (c : CoreModel). tables_of c.events) same.1
frozen_tables old new (inr is) = ap (λ (c : CoreModel). tables_of c.events) is.1 ∙ tables_same old.events events.Freeze refl

pub adds_installed : (old new : List Event) (n : ℕ) (tables : List (Ulid × List ℕ)) (before after : Option (List Act)) → new ≡ old ++ (events.Install n tables ∷ []) → AddsPuts tables before after → AddsTables (tables_of old) (tables_of new) before after
adds_installed old new n tables before after is acts = (tables, ap tables_of is ∙ tables_more old (events.Install n tables), acts)

-- one table after another, each before those that were put

pub adds_more : (ts us : List (Ulid × List ℕ)) (before middle after : Option (List Act)) →
    AddsPuts ts before middle → AddsPuts us middle after → AddsPuts (us ++ ts) before after
adds_more ts [] before middle after first none =
    subst (λ (x : Option (List Act)). AddsPuts ts before x) (sym none) first
adds_more ts (u ∷ us) before middle after first (last, rest, act) =
    (last, adds_more ts us before middle last first rest, act)

objects_more : (os : Objects) (ts us : List (Ulid × List ℕ)) →
    with_tables os (us ++ ts) ≡ with_tables (with_tables os ts) us
objects_more os ts [] = refl
objects_more os ts (u ∷ us) =
    ap (λ (o : Objects). with_object o (path_of root u.0.0) u.1) (objects_more os ts us)

pub takes_more : (ts us : List (Ulid × List ℕ)) (before middle after : Option Objects) →
    TakesTables ts before middle → TakesTables us middle after → TakesTables (us ++ ts) before after
takes_more ts us None middle after first last = tt
takes_more ts us (Some os) middle after first last =
    let there : IfSome (Some (with_tables os ts)) (λ x. after ≡ Some (with_tables x us)) =
    subst (λ (m : Option Objects). IfSome m (λ x. after ≡ Some (with_tables x us))) first last in
    there ∙ ap Some (sym (objects_more os ts us))

-- what a call leaves that is refused behind some tables
pub may_more : (Q R : List (Ulid × List ℕ) → Type 0) (ts : List (Ulid × List ℕ))
    (before middle after : Option Objects) → TakesTables ts before middle → R ts →
    ((us : List (Ulid × List ℕ)) → Q us → R (us ++ ts)) → MayTakeTables Q middle after →
    MayTakeTables R before after
may_more Q R ts None middle after taken none more may = tt
may_more Q R ts (Some os) middle after taken none more may =
    by (subst (λ (m : Option Objects). MayTakeTables Q m after) taken may)
  where
    by : (after ≡ Some (with_tables os ts)) ⊎ ((us : List (Ulid × List ℕ)) × Q us ×
        (after ≡ Some (with_tables (with_tables os ts) us))) →
        (after ≡ Some os) ⊎ ((us : List (Ulid × List ℕ)) × R us ×
        (after ≡ Some (with_tables os us)))
    by (inl same) = inr (ts, none, same)
    by (inr (us, q, is)) = inr (us ++ ts, more us q, is ∙ ap Some (sym (objects_more os ts us)))

-- of other words
pub may_as : (P Q : List (Ulid × List ℕ) → Type 0) (before after : Option Objects) → ((ts : List (Ulid × List ℕ)) → P ts → Q ts) → MayTakeTables P before after → MayTakeTables Q before after
may_as P Q None after f may = tt
may_as P Q (Some os) after f (inl same) = inl same
may_as P Q (Some os) after f (inr (ts, p, is)) = inr (ts, f ts p, is)
