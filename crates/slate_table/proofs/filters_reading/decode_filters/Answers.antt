use Rattle.std.proofs.Common.{map}
use Rattle.slate_filter.specs.Named.{named_pair}
use Rattle.slate_table.proofs.FiltersReads.{filters_reads, part_refused}
use Rattle.slate_table.proofs.filters_reading.decode_filters.Goals as goal

pub returns-in-Ok-clause-found : goal.returns-in-Ok-clause-found
returns-in-Ok-clause-found c = filters_reads c.args.part (map named_pair c.in-Ok.filters.items) c.in-Ok.ensures.bytes c.in-Ok.ensures.found

pub returns-in-Err-clause-cause : goal.returns-in-Err-clause-cause
returns-in-Err-clause-cause c = part_refused c.args.part c.len-len.result c.in-Err.error c.in_filters.result c.len-len.ensures.value c.in_filters.ensures c.in-Err.ensures.cause
