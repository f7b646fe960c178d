-- What a reader of opened tables may refuse for.
--     RefusesNew refuses handles range order m reads at e      a new export of the tables refuses
--                            so, by
--                                                              the reads that were made
--     IsRefusedRead refuses handles range order before after e      so does a call, or it is a
--                            fault
use Rattle.std.specs.Prelude.{◌⊎◌, ℕ, List, reverse, Option, None}
use Rattle.slate_types.specs.declared.bytes_range.BytesRange.{BytesRange}
use Rattle.slate_types.specs.declared.error.SlateDBError.{SlateDBError}
use Rattle.slate_types.specs.declared.iter.IterationOrder.{IterationOrder}
use Rattle.slate_types.specs.Outside.{Act, IsFault, Meaning, Reach}
use Rattle.slate_types.specs.World.{Made}
use Rattle.slate_read.specs.declared.internal_sst_iterator.InternalSstIterator.{InternalSstIterator}
use Rattle.slate_table.specs.declared.info.SsTableHandle.{SsTableHandle}
use Rattle.slate_tables.specs.Merging.{Export, IsExportOf, IsTableSource, MatchEach}

abbrev pub ExportRefusal : Type 1
ExportRefusal = Export → Meaning → List Act → Option (List ℕ) → SlateDBError → Type 0

pub record RefusesNew (refuses : ExportRefusal) (handles : List SsTableHandle) (range : BytesRange)
    (order : IterationOrder) (m : Meaning) (reads : List Act) (at : Option (List ℕ))
    (e : SlateDBError) : Type 0 where
  pub sources : List InternalSstIterator
  pub of : MatchEach (IsTableSource range order) (reverse handles) sources
  pub it : Export
  pub new : IsExportOf order sources it
  pub refused : refuses it m reads at e

abbrev pub IsRefusedRead : ExportRefusal → List SsTableHandle → BytesRange →
    IterationOrder → Reach →
    Reach → SlateDBError → Type 0
IsRefusedRead refuses handles range order before after e = Made before after (λ reads.
    IsFault before after e ⊎ RefusesNew refuses handles range order before.meaning reads None e)
