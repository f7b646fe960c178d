-- The tables of the installs of a journal.
use Rattle.std.proofs.Common.{◌≡◌, List, [], ◌∷◌, ◌++◌, flat_map, refl, sym, ap, ◌∙◌, ℕ, append-nil}
use Rattle.std.proofs.lemmas.Grind.{flat_map-append}
use Rattle.slate_types.specs.declared.types.Ulid.{Ulid}
use Rattle.slate_txn.specs.declared.event.Event.{Event}
use Rattle.slate_txn.specs.declared.event.Event.TheVariants as events
use Rattle.slate_db.specs.Installs.{runs_in, runs_of, tables_in, tables_of}

pub runs_more : (es : List Event) (e : Event) → runs_of (es ++ (e ∷ [])) ≡ runs_of es ++ runs_in e
runs_more es e = flat_map-append runs_in es (e ∷ []) ∙ ap (λ ts. runs_of es ++ ts) (append-nil (runs_in e))

-- an event that installs nothing
pub runs_same : (es : List Event) (e : Event) → runs_in e ≡ [] → runs_of (es ++ (e ∷ [])) ≡ runs_of es
runs_same es e h = runs_more es e ∙ ap (λ ts. runs_of es ++ ts) h ∙ append-nil (runs_of es)

pub tables_are : (es : List Event) → tables_of es ≡ flat_map (λ ts. ts) (runs_of es)
tables_are [] = refl
tables_are (e ∷ es) = ap (λ ts. tables_in e ++ ts) (tables_are es) ∙ ap (λ ts. ts ++ flat_map (λ xs. xs) (runs_of es)) (one e) ∙ sym (flat_map-append (λ (ts : List (Ulid × List ℕ)). ts) (runs_in e) (runs_of es))
  where
    one : (e : Event) → tables_in e ≡ flat_map (λ (ts : List (Ulid × List ℕ)). ts) (runs_in e)
    one (events.Install through tables) = sym (append-nil tables)
    one (events.Begin id level start) = refl
    one (events.End id) = refl
    one (events.Commit id seq now ops tracked transcript) = refl
    one (events.Write seq now ops) = refl
    one events.Freeze = refl
    one (events.Snapshot id seq) = refl
    one (events.Release id) = refl
