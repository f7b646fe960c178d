use Rattle.std.proofs.Common.{List, map, ap, ◌∙◌}
use Rattle.slate_mem.specs.Table.{MemTableModel}
use Rattle.slate_db.specs.Layers.{LayersModel}
use Rattle.slate_db.proofs.layers.Layers.frozen.Goals as goal

pub returns : goal.returns
returns c = ap (λ (ts : List MemTableModel). map (λ t. t.rows) ts) c.as_slice.ensures.value ∙ ap (λ (y : LayersModel). y.frozen) c.self.view_is
