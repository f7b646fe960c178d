-- What readers share of runs of tables.
--     tables_in runs      what is kept of the tables of each run
--     IsCopyFor copy runs      where there is a copy, it has the tables of these runs
use Rattle.std.specs.Prelude.{◌≡◌, List, map, Option, Some, None}
use Rattle.slate_read.specs.declared.sorted_run.SortedRun.{SortedRun}
use Rattle.slate_table.specs.declared.info.SsTableHandle.{SsTableHandle}

abbrev pub tables_in : List SortedRun → List (List SsTableHandle)
tables_in runs = map (λ run. run.tables.items) runs

abbrev pub IsCopyFor : Option (List SortedRun) → List SortedRun → Type 0
IsCopyFor None runs = Unit {0}
IsCopyFor (Some copy) runs = tables_in copy ≡ tables_in runs
