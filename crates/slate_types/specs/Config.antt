-- Options, and which are valid.
--     defaults      the options that `Options::new` gives
--     IsValid o      each number within its limits, and no codec
use Rattle.std.specs.Prelude.{◌≡◌, ◌-◌, ◌^◌, ◌<◌, ◌≤◌, None}
use Rattle.slate_types.specs.declared.config.Options.{Options}
use Rattle.slate_types.specs.declared.config.BlockFormat.TheVariants.{Latest}

abbrev pub defaults : Options
defaults = record {
  block_size = 4096;
  block_format = Latest;
  min_filter_keys = 0;
  table_bytes = 67108864;
  default_ttl_millis = None;
  start_seq = 0;
  max_fetch_tasks = 1;
  target_bytes_to_fetch = 1;
  compression_codec = None;
}

pub record IsValid (o : Options) : Type 0 where
  pub some_block : 0 < o.block_size
  pub block : o.block_size ≤ 65535
  pub table : 0 < o.table_bytes
  pub tasks : 0 < o.max_fetch_tasks
  pub fetch : 0 < o.target_bytes_to_fetch
  pub start : o.start_seq ≤ 2 ^ 64 - 2
  pub codec : o.compression_codec ≡ None
