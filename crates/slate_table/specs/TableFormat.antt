-- How tables are built where nothing else is said.
--     codec_byte codec      the byte that names a codec
--     default_format      blocks of 4096 bytes in the version of `Latest`, filters for every table, and no codec
use Rattle.std.specs.Prelude.{ℕ, None}
use Rattle.slate_types.specs.declared.config.BlockFormat.TheVariants.{Latest}
use Rattle.slate_types.specs.declared.config.CompressionCodec.{CompressionCodec}
use Rattle.slate_types.specs.declared.config.CompressionCodec.TheVariants.{Snappy, Zlib, Lz4, Zstd}
use Rattle.slate_table.specs.declared.info.SsTableFormat.{SsTableFormat}

abbrev pub default_format : SsTableFormat
default_format = record { block_size = 4096; min_filter_keys = 0; block_format = Latest; compression_codec = None }

abbrev pub codec_byte : CompressionCodec → ℕ
codec_byte Snappy = 1
codec_byte Zlib = 2
codec_byte Lz4 = 3
codec_byte Zstd = 4
