use Rattle.std.proofs.Common.{◌≡◌, ◌-◌, ◌++◌, List, drop, map, sym, ap, subst, ◌∙◌}
use Rattle.std.proofs.lemmas.List.{drop-map}
use Rattle.std.specs.Prelude.{vec_len, vec_capacity}
use Rattle.slate_mem.specs.Table.{MemTableModel}
use Rattle.slate_db.specs.Layers.{LayersModel, AreLayers}
use Rattle.slate_db.specs.LayersView.{layers_view}
use Rattle.slate_db.proofs.Flights.{layers_left}
use Rattle.slate_db.proofs.layers.Layers.install_first.Goals as goal

becomes : (c : goal.After-drop-runs-2) → record (layers_view c.self.inside) {
  frozen = drop c.args.count (map (λ t. t.rows) c.self.inside.frozen.items);
  runs = c.self.inside.runs ++ c.args.runs.items;
  floor = c.args.floor;
  for_freeze = vec_capacity c.drop.new.self.0 - vec_len c.drop.new.self.0;
} ≡ layers_view (record c.self.inside { frozen = c.drop.new.self.0; runs = c.append.new.self; floor = c.args.floor })
becomes c = λ i. record (layers_view c.self.inside) {
  frozen = frozen i;
  runs = runs i;
  floor = c.args.floor;
  for_freeze = vec_capacity c.drop.new.self.0 - vec_len c.drop.new.self.0;
}
  where
    left : c.drop.new.self.0.items ≡ drop c.args.count c.self.inside.frozen.items
    left = c.drop.ensures.items ∙ c.drain.ensures.kept

    frozen : drop c.args.count (map (λ t. t.rows) c.self.inside.frozen.items) ≡ map (λ t. t.rows) c.drop.new.self.0.items
    frozen = drop-map (λ (t : MemTableModel). t.rows) c.args.count c.self.inside.frozen.items ∙ ap (λ (ts : List MemTableModel). map (λ t. t.rows) ts) (sym left)

    runs : c.self.inside.runs ++ c.args.runs.items ≡ c.append.new.self
    runs = sym c.in_ok-append.ensures.added

stays : (c : goal.After-drop-runs-2) → AreLayers (layers_view (record c.self.inside { frozen = c.drop.new.self.0; runs = c.append.new.self; floor = c.args.floor }))
stays c = subst AreLayers (becomes c) (layers_left (layers_view c.self.inside) c.args.count _ c.args.floor _ c.self.invariant)

pub invariant_of-self-2 : goal.invariant_of-self-2
invariant_of-self-2 c = stays c

pub returns-clause-value : goal.returns-clause-value
returns-clause-value c = sym (becomes c) ∙ ap (λ (y : LayersModel). record y {
  frozen = drop c.args.count y.frozen;
  runs = y.runs ++ c.args.runs.items;
  floor = c.args.floor;
  for_freeze = vec_capacity c.drop.new.self.0 - vec_len c.drop.new.self.0;
}) c.self.view_is

pub returns-clause-whole : goal.returns-clause-whole
returns-clause-whole c = stays c
