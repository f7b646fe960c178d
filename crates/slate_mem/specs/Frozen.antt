-- How a table is held that is not written any more.
--     table_in f      the table
use Rattle.std.specs.Arc.{arc_value}
use Rattle.slate_mem.specs.declared.mem_table.Frozen.{Frozen}
use Rattle.slate_mem.specs.declared.mem_table.Frozen.TheVariants.{Owned, Shared}
use Rattle.slate_mem.specs.Table.{MemTableModel}

abbrev pub table_in : Frozen → MemTableModel
table_in (Owned t) = t
table_in (Shared t) = arc_value t
