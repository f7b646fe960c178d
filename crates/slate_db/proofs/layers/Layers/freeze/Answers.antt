use Rattle.std.proofs.Common.{◌≡◌, ◌-◌, ◌++◌, ◌∷◌, [], List, map, refl, sym, ap, subst, ◌∙◌}
use Rattle.std.proofs.lemmas.List.{map-append}
use Rattle.std.specs.Prelude.{Result, Ok, Err, vec_len, vec_capacity}
use Rattle.slate_types.specs.declared.error.SlateDBError.{SlateDBError}
use Rattle.slate_mem.specs.Table.{MemTableModel}
use Rattle.slate_db.specs.Layers.{LayersModel, AreLayers}
use Rattle.slate_db.specs.Model.{Rows}
use Rattle.slate_db.specs.LayersView.{layers_view}
use Rattle.slate_db.proofs.FlushRows.{some_rows}
use Rattle.slate_db.proofs.MemoryLayers.{layers_frozen}
use Rattle.slate_db.proofs.layers.Layers.freeze.Goals as goal

abbrev rows_in : Result MemTableModel SlateDBError → Rows
rows_in (Ok t) = t.rows
rows_in (Err e) = []

becomes : (c : goal.After-push_reserved) → record (layers_view c.self.inside) { active = []; frozen = map (λ t. t.rows) c.self.inside.frozen.items ++ (c.self.inside.active.rows ∷ []); for_freeze = vec_capacity c.push_reserved.new.self - vec_len c.push_reserved.new.self }
    ≡ layers_view (record c.self.inside { active = c.freeze.new.self; frozen = c.push_reserved.new.self })
becomes c = λ i. record (layers_view c.self.inside) { active = active i; frozen = frozen i; for_freeze = vec_capacity c.push_reserved.new.self - vec_len c.push_reserved.new.self }
  where
    active : [] ≡ c.freeze.new.self.rows
    active = sym (ap (λ t. t.rows) c.freeze.ensures.left)

    frozen : map (λ t. t.rows) c.self.inside.frozen.items ++ (c.self.inside.active.rows ∷ []) ≡ map (λ t. t.rows) c.push_reserved.new.self.items
    frozen =
        ap (λ rs. map (λ t. t.rows) c.self.inside.frozen.items ++ (rs ∷ [])) (sym (ap rows_in c.in-Ok.ensures.frozen))
        ∙ sym (ap (λ ts. map (λ t. t.rows) ts) c.push_reserved.ensures.items
        ∙ map-append (λ t. t.rows) c.self.inside.frozen.items (c.in-Ok.table ∷ []))

stays : (c : goal.After-push_reserved) → AreLayers (layers_view (record c.self.inside { active = c.freeze.new.self; frozen = c.push_reserved.new.self }))
stays c = subst AreLayers (becomes c) (layers_frozen (layers_view c.self.inside) _ (some_rows _ (λ e. c.requires.some (ap (λ (y : LayersModel). y.active) (sym c.self.view_is) ∙ e))) c.self.invariant)

pub invariant_of-self : goal.invariant_of-self
invariant_of-self c = stays c

pub returns : goal.returns
returns c = record {
  value = sym (becomes c) ∙ ap (λ (y : LayersModel). record y { active = []; frozen = y.frozen ++ (y.active ∷ []); for_freeze = vec_capacity c.push_reserved.new.self - vec_len c.push_reserved.new.self }) c.self.view_is;
  whole = stays c;
}
