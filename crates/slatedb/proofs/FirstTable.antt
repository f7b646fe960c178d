-- What a store holds behind a first flush, and the filters of its tables.
use Rattle.std.proofs.Common.{◌≡◌, ℕ, List, [], ◌∷◌, ◌++◌, map, Option, Some, None, refl, sym, ap, ◌∙◌, subst, arith}
use Rattle.std.proofs.lemmas.List.{append-nil}
use Rattle.std.proofs.lemmas.List.Concat.{flat_map-append}
use Rattle.slate_types.specs.Outside.{Objects}
use Rattle.slate_filter.specs.Laws.{AreValidNames}
use Rattle.slate_filter.specs.Policy.{Policy}
use Rattle.slate_table.specs.Filtered.{AreLawful}
use Rattle.slate_txn.specs.declared.event.Event.{Event}
use Rattle.slate_db.specs.Installs.{Holds, HoldsTables, tables_in, tables_of}
use Rattle.slate_db.specs.Meaning.{Meaning}
use Rattle.slate_db.specs.Readable.{AreFiltered}

-- the objects that a store tells hold the tables that the events name
pub record HoldsAfter (after : Option Objects) (es : List Event) : Type 0 where
  pub os : Objects
  pub is : after ≡ Some os
  pub holds : Holds os (tables_of es)

pub holds_after : (after : Option Objects) (es : List Event) → HoldsTables after es → HoldsAfter after es
holds_after None es h = absurd h
holds_after (Some os) es h = record { os = os; is = refl; holds = h }

pub none_more : (es : List Event) (e : Event) → tables_in e ≡ [] → tables_of (es ++ (e ∷ [])) ≡ tables_of es
none_more es e none = flat_map-append tables_in es (e ∷ []) ∙ ap (λ ts. tables_of es ++ ts) (append-nil (tables_in e) ∙ none) ∙ append-nil (tables_of es)

-- ---- filters, of which there are none

pub valid_none : {X : Type 0} (f : X → List ℕ) (xs : List X) → xs ≡ [] → AreValidNames (map f xs)
valid_none f xs none = subst (λ (ys : List _). AreValidNames (map f ys)) (sym none) (record { few = omega arith; short = tt; distinct = tt })

pub lawful_none : {X : Type 0} (f : X → Policy) (xs : List X) → xs ≡ [] → AreLawful (map f xs)
lawful_none f xs none = subst (λ (ys : List _). AreLawful (map f ys)) (sym none) (record { distinct = tt; each = tt })

-- m: what the parts mean later; es: the events of then
pub filtered_later : (m between : Meaning) (policies : List Policy) (mid es : List Event) → m ≡ between → tables_of es ≡ tables_of mid → AreFiltered between.encode policies (tables_of mid) → AreFiltered m.encode policies (tables_of es)
filtered_later m between policies mid es meant same h = subst (λ (x : Meaning). AreFiltered x.encode policies (tables_of es)) (sym meant) (subst (AreFiltered between.encode policies) (sym same) h)
