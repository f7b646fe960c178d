-- What no part and no table answers: an error of a script, a limit, or one that a line is answered.
use Rattle.std.proofs.Common.{◌≡◌, inl, inr, false, List, refl}
use Rattle.slate_types.specs.declared.error.SlateDBError.{SlateDBError}
use Rattle.slate_types.specs.declared.error.SlateDBError.TheVariants as errors
use Rattle.slate_types.specs.Outside.{Counts, IsCounted, Reach}
use Rattle.slate_filter.specs.Policy.{Policy}
use Rattle.slate_store.specs.Run.{IsProgramError}
use Rattle.slate_db.specs.Model.{CoreModel}
use Rattle.slate_db.specs.Parts.{IsTableError}
use Rattle.slate_db.specs.Readable.{reader_at}
use Rattle.slate_db.proofs.RowDamage.{in_scan_kind}
use Rattle.slate_db.proofs.Shown.{refused_kind}
use Rattle.slate_steps.specs.Reads.{IsReadError, of_get, of_scan}
use Rattle.slate_index.specs.Running.{is_limit}
use Rattle.slate_index.specs.Words.{has_reply}

-- an error that ends a run, and is no limit
pub record Ends (e : SlateDBError) : Type 0 where
  pub apart : IsProgramError e
  pub unsaid : has_reply e ≡ false
  pub unlimited : is_limit e ≡ false

ends : {e : SlateDBError} → IsProgramError e → has_reply e ≡ false → is_limit e ≡ false → Ends e
ends a b c = record { apart = a; unsaid = b; unlimited = c }

pub fault_ends : (a b : Counts) (e : SlateDBError) → IsCounted a b e → Ends e
fault_ends a b (errors.TransactionConflict x) h = absurd h
fault_ends a b (errors.IncompatibleMergeTtls x y z) h = absurd h
fault_ends a b (errors.InvalidSegmentPrefix x y) h = absurd h
fault_ends a b errors.EmptyKey h = absurd h
fault_ends a b (errors.KeyTooLong x) h = absurd h
fault_ends a b (errors.ValueTooLong x) h = absurd h
fault_ends a b errors.InvalidRange h = absurd h
fault_ends a b (errors.ChecksumMismatch x y) h = absurd h
fault_ends a b errors.MergeOperatorMissing h = absurd h
fault_ends a b (errors.EmptySegmentPrefix x) h = absurd h
fault_ends a b (errors.UnknownTransaction x) h = absurd h
fault_ends a b (errors.DuplicateTransaction x) h = absurd h
fault_ends a b errors.SequenceExhausted h = absurd h
fault_ends a b (errors.ScriptSyntax x) h = absurd h
fault_ends a b errors.ScriptTooLong h = absurd h
fault_ends a b errors.ReadFault h = absurd h
fault_ends a b errors.WriteFault h = absurd h
fault_ends a b errors.StoreFault h = ends tt refl refl
fault_ends a b (errors.Callback x) h = ends tt refl refl
fault_ends a b errors.EmptyBatch h = absurd h
fault_ends a b errors.BlockTransformError h = ends tt refl refl
fault_ends a b (errors.EmptySSTable x) h = absurd h
fault_ends a b (errors.EmptyBlockMeta x) h = absurd h
fault_ends a b (errors.InvalidVersion x) h = absurd h
fault_ends a b (errors.InvalidRowFlags x) h = absurd h
fault_ends a b (errors.InvalidFilterBlock x) h = absurd h
fault_ends a b (errors.CorruptTable x) h = absurd h
fault_ends a b (errors.UnsupportedCompression x) h = absurd h
fault_ends a b (errors.BlockOutOfRange x y) h = absurd h
fault_ends a b errors.EmptyBlock h = absurd h
fault_ends a b errors.IteratorNotInitialized h = absurd h
fault_ends a b (errors.SeekKeyOutOfKeyRange x) h = absurd h
fault_ends a b (errors.InvalidSequenceOrder x y) h = absurd h
fault_ends a b (errors.LimitReached x) h = absurd h
fault_ends a b errors.OutOfMemory h = ends tt refl refl

pub table_ends : (e : SlateDBError) → IsTableError e → Ends e
table_ends (errors.TransactionConflict x) h = absurd h
table_ends (errors.IncompatibleMergeTtls x y z) h = absurd h
table_ends (errors.InvalidSegmentPrefix x y) h = absurd h
table_ends errors.EmptyKey h = absurd h
table_ends (errors.KeyTooLong x) h = absurd h
table_ends (errors.ValueTooLong x) h = absurd h
table_ends errors.InvalidRange h = absurd h
table_ends (errors.ChecksumMismatch x y) h = ends tt refl refl
table_ends errors.MergeOperatorMissing h = ends tt refl refl
table_ends (errors.EmptySegmentPrefix x) h = absurd h
table_ends (errors.UnknownTransaction x) h = absurd h
table_ends (errors.DuplicateTransaction x) h = absurd h
table_ends errors.SequenceExhausted h = absurd h
table_ends (errors.ScriptSyntax x) h = absurd h
table_ends errors.ScriptTooLong h = absurd h
table_ends errors.ReadFault h = absurd h
table_ends errors.WriteFault h = absurd h
table_ends errors.StoreFault h = absurd h
table_ends (errors.Callback x) h = absurd h
table_ends errors.EmptyBatch h = absurd h
table_ends errors.BlockTransformError h = absurd h
table_ends (errors.EmptySSTable x) h = absurd h
table_ends (errors.EmptyBlockMeta x) h = absurd h
table_ends (errors.InvalidVersion x) h = absurd h
table_ends (errors.InvalidRowFlags x) h = ends tt refl refl
table_ends (errors.InvalidFilterBlock x) h = ends tt refl refl
table_ends (errors.CorruptTable x) h = ends tt refl refl
table_ends (errors.UnsupportedCompression x) h = absurd h
table_ends (errors.BlockOutOfRange x y) h = absurd h
table_ends errors.EmptyBlock h = absurd h
table_ends errors.IteratorNotInitialized h = absurd h
table_ends (errors.SeekKeyOutOfKeyRange x) h = absurd h
table_ends (errors.InvalidSequenceOrder x y) h = ends tt refl refl
table_ends (errors.LimitReached x) h = absurd h
table_ends errors.OutOfMemory h = absurd h

pub read_ends : (policies : List Policy) (before after : Reach) (c : CoreModel) (e : SlateDBError) → IsReadError policies before after c e → Ends e
read_ends policies before after c e (of_get id query (inl fault)) = fault_ends before.faults after.faults e fault
read_ends policies before after c e (of_get id query (inr made)) = table_ends e (refused_kind (record { policies = policies; query = query }) (reader_at c.state id) before.meaning c made.0 e made.2)
read_ends policies before after c e (of_scan (inl fault)) = fault_ends before.faults after.faults e fault
read_ends policies before after c e (of_scan (inr made)) = table_ends e (in_scan_kind policies before.meaning c made.0 e made.2)
