use Rattle.std.proofs.Common.{◌≡◌, ◌-◌, List, map, sym, ap, subst, ◌∙◌}
use Rattle.std.specs.Prelude.{vec_len, vec_capacity}
use Rattle.slate_mem.specs.Table.{MemTableModel}
use Rattle.slate_db.specs.Layers.{LayersModel, AreLayers}
use Rattle.slate_db.specs.LayersView.{layers_view}
use Rattle.slate_db.proofs.MemoryLayers.{layers_room}
use Rattle.slate_db.proofs.layers.Layers.reserve_freeze.Goals as goal

becomes : (c : goal.After-reserve) → record (layers_view c.self.inside) { for_freeze = vec_capacity c.reserve.new.self - vec_len c.reserve.new.self } ≡ layers_view (record c.self.inside { frozen = c.reserve.new.self })
becomes c = ap (λ (ts : List MemTableModel). record (layers_view c.self.inside) { frozen = map (λ t. t.rows) ts; for_freeze = vec_capacity c.reserve.new.self - vec_len c.reserve.new.self }) (sym c.reserve.ensures.items)

stays : (c : goal.After-reserve) → AreLayers (layers_view (record c.self.inside { frozen = c.reserve.new.self }))
stays c = subst AreLayers (becomes c) (layers_room (layers_view c.self.inside) _ c.self.invariant)

pub invariant_of-self : goal.invariant_of-self
invariant_of-self c = stays c

pub returns-clause-value : goal.returns-clause-value
returns-clause-value c = sym (becomes c) ∙ ap (λ (y : LayersModel). record y { for_freeze = vec_capacity c.reserve.new.self - vec_len c.reserve.new.self }) c.self.view_is

pub returns-clause-whole : goal.returns-clause-whole
returns-clause-whole c = stays c
