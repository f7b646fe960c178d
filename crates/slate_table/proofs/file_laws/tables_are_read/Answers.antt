use Rattle.slate_table.proofs.OpenLaws.{put_held, measured, same_end, opened, not_refused}
use Rattle.slate_table.proofs.HeldParts.{stats_held, stats_found, index_held, index_found, filters_held, filters_found, rows_held, rows_found, blocks_held}
use Rattle.slate_table.proofs.file_laws.tables_are_read.Goals as goal

pub returns : goal.returns
returns c = record {
  held = put_held;
  measured = measured;
  infos = same_end;
  opened = opened;
  opens = not_refused;
  stats = stats_held;
  stats_found = stats_found;
  index = index_held;
  index_found = index_found;
  filters = filters_held;
  filters_found = filters_found;
  blocks = rows_held;
  blocks_found = rows_found;
  several = blocks_held;
}
