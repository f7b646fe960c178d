-- What a transaction's own parts are made of.
--     read_on level rs t      what was read, after a step
--     only_key k      the range of one key
use Rattle.std.specs.Prelude.{ℕ, List}
use Rattle.std.specs.declared.ops.Bound.TheVariants.{Included}
use Rattle.slate_types.specs.declared.config.IsolationLevel.{IsolationLevel}
use Rattle.slate_types.specs.declared.config.IsolationLevel.TheVariants.{Snapshot, SerializableSnapshot}
use Rattle.slate_types.specs.declared.bytes_range.BytesRange.{BytesRange}
use Rattle.slate_txn.specs.declared.event.TranscriptStep.{TranscriptStep}
use Rattle.slate_txn.specs.Tracking.{Reading, with_step}

abbrev pub read_on : IsolationLevel → Reading → TranscriptStep → Reading
read_on Snapshot rs t = rs
read_on SerializableSnapshot rs t = with_step rs t

abbrev pub only_key : List ℕ → BytesRange
only_key k = record { start = Included k; end = Included k }
