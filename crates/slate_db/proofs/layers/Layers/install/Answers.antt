use Rattle.std.proofs.Common.{◌≡◌, ◌-◌, ◌++◌, [], List, map, sym, ap, subst, ◌∙◌}
use Rattle.std.specs.Prelude.{vec_len, vec_capacity}
use Rattle.slate_mem.specs.Table.{MemTableModel}
use Rattle.slate_db.specs.Layers.{LayersModel, AreLayers}
use Rattle.slate_db.specs.LayersView.{layers_view}
use Rattle.slate_db.proofs.MemoryLayers.{layers_installed}
use Rattle.slate_db.proofs.layers.Layers.install.Goals as goal

becomes : (c : goal.After-drop-runs-2) → record (layers_view c.self.inside) {
  frozen = [];
  runs = c.self.inside.runs ++ c.args.runs.items;
  floor = c.args.floor;
  for_freeze = vec_capacity c.clear.new.self - vec_len c.clear.new.self;
} ≡ layers_view (record c.self.inside { frozen = c.clear.new.self; runs = c.append.new.self; floor = c.args.floor })
becomes c = λ i. record (layers_view c.self.inside) {
  frozen = frozen i;
  runs = runs i;
  floor = c.args.floor;
  for_freeze = vec_capacity c.clear.new.self - vec_len c.clear.new.self;
}
  where
    frozen : [] ≡ map (λ t. t.rows) c.clear.new.self.items
    frozen = sym (ap (λ (ts : List MemTableModel). map (λ t. t.rows) ts) c.clear.ensures.items)

    runs : c.self.inside.runs ++ c.args.runs.items ≡ c.append.new.self
    runs = sym c.in_ok-append.ensures.added

stays : (c : goal.After-drop-runs-2) → AreLayers (layers_view (record c.self.inside { frozen = c.clear.new.self; runs = c.append.new.self; floor = c.args.floor }))
stays c = subst AreLayers (becomes c) (layers_installed (layers_view c.self.inside) _ _ _ c.self.invariant)

pub invariant_of-self-2 : goal.invariant_of-self-2
invariant_of-self-2 c = stays c

pub returns : goal.returns
returns c = record {
  value = sym (becomes c) ∙ ap (λ (y : LayersModel). record y {
    frozen = [];
    runs = y.runs ++ c.args.runs.items;
    floor = c.args.floor;
    for_freeze = vec_capacity c.clear.new.self - vec_len c.clear.new.self;
  }) c.self.view_is;
  same = tt;
  whole = stays c;
}
