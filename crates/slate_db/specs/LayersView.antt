-- How contracts see layers.
use Rattle.std.specs.Prelude.{◌-◌, map, vec_len, vec_capacity}
use Rattle.slate_db.specs.declared.layers.Layers.TheInside.{Inside}
use Rattle.slate_db.specs.Layers.{LayersModel}

abbrev pub layers_view : Inside → LayersModel
layers_view s = record {
  active = s.active.rows;
  frozen = map (λ t. t.rows) s.frozen.items;
  runs = s.runs;
  floor = s.floor;
  for_freeze = vec_capacity s.frozen - vec_len s.frozen;
}
