-- How stored tables are read.
--     default_options      one block at a time, upwards, and no filter is asked
--     CanFetch options      a read takes some bytes, and some reads are made
use Rattle.std.specs.Prelude.{◌<◌, None}
use Rattle.slate_types.specs.declared.iter.IterationOrder.TheVariants.{Ascending}
use Rattle.slate_read.specs.declared.sst_iterator_options.SstIteratorOptions.{SstIteratorOptions}

abbrev pub default_options : SstIteratorOptions
default_options = record { max_fetch_tasks = 1; target_bytes_to_fetch = 1; order = Ascending; prefix = None; filter_context = None }

abbrev pub CanFetch : SstIteratorOptions → Type 0
CanFetch options = (0 < options.max_fetch_tasks) × (0 < options.target_bytes_to_fetch)
