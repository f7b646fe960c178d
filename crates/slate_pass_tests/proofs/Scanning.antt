-- What an opening of a scan and its next step leave of their transaction.
use Rattle.std.proofs.Common.{◌≡◌, ◌<◌, ℕ, Option, sym, ap, ◌∙◌, subst, arith}
use Rattle.std.specs.Prelude.{Result, Ok, Err, IfOk, IfSome, OnErr, OnOk, count_by}
use Rattle.std.specs.Result.{result_ok}
use Rattle.slate_types.specs.declared.bytes_range.BytesRange.{BytesRange}
use Rattle.slate_types.specs.declared.error.SlateDBError.{SlateDBError}
use Rattle.slate_types.specs.declared.iter.IterationOrder.{IterationOrder}
use Rattle.slate_types.specs.declared.types.KeyValue.{KeyValue}
use Rattle.slate_txn.specs.declared.event.TranscriptStep.TheVariants as steps
use Rattle.slate_txn.specs.Step.{is_scan}
use Rattle.slate_txn.proofs.OwnLaws.{count_more}
use Rattle.slate_db.specs.declared.scan.TxnIterator.{TxnIterator}
use Rattle.slate_db.specs.Scans.{IsScanOf, id_of, number_of}
use Rattle.slate_shared.specs.Passes.{Opened}
use Rattle.slate_shared.specs.Scans.{noted_next, noted_scan}

-- the scan is noted in the transaction
abbrev IsNoted : Opened → Opened → IterationOrder → BytesRange → Type 0
IsNoted old new order range =
    new ≡ record old { seen = new.seen; tx = noted_scan order range old.tx }

-- it is one of the transaction's scans
abbrev IsScanIn : Opened → TxnIterator → Type 0
IsScanIn t it = (id_of it ≡ t.id) × (number_of it < count_by is_scan t.tx.transcript)

pub scan_same : (old new : Opened) (order : IterationOrder) (range : BytesRange)
    (a : Result TxnIterator SlateDBError) → OnOk a (IsNoted old new order range) →
    OnErr a (new ≡ record old { seen = new.seen }) → new.table ≡ old.table
scan_same old new order range (Ok it) noted unnoted = ap (λ (t : Opened). t.table) noted
scan_same old new order range (Err e) noted unnoted = ap (λ (t : Opened). t.table) unnoted

below : (old new : Opened) (order : IterationOrder) (range : BytesRange) (it : TxnIterator) →
    IsNoted old new order range → number_of it ≡ count_by is_scan old.tx.transcript →
    number_of it < count_by is_scan new.tx.transcript
below old new order range it is n =
    let same = ap (λ (t : Opened). count_by is_scan t.tx.transcript) is in
    let more = same ∙ count_more old.tx.transcript (steps.Scan order range) in
    omega (arith, more, n)

opened_in : (old new : Opened) (order : IterationOrder) (range : BytesRange) (it : TxnIterator) →
    IsNoted old new order range →
    IsScanOf old.id (count_by is_scan old.tx.transcript) order range it → IsScanIn new it
opened_in old new order range it is names =
    let id = names.named ∙ sym (ap (λ (t : Opened). t.id) is) in
    (id, below old new order range it is names.number)

pub scan_open : (old new : Opened) (order : IterationOrder) (range : BytesRange)
    (a : Result TxnIterator SlateDBError) (o : Option TxnIterator) → o ≡ result_ok a →
    OnOk a (IsNoted old new order range) →
    IfOk a (IsScanOf old.id (count_by is_scan old.tx.transcript) order range) →
    IfSome o (IsScanIn new)
scan_open old new order range (Ok it) o given noted names =
    let found = opened_in old new order range it noted names in
    subst (λ (x : Option TxnIterator). IfSome x (IsScanIn new)) (sym given) found
scan_open old new order range (Err e) o given noted names =
    subst (λ (x : Option TxnIterator). IfSome x (IsScanIn new)) (sym given) tt

pub same_next : (old new : Opened) (it : TxnIterator)
    (a : Result (Option KeyValue) SlateDBError) →
    IfOk a (λ x. new ≡ record old { tx = noted_next (number_of it) x old.tx }) →
    OnErr a (new ≡ old) → new.table ≡ old.table
same_next old new it (Ok x) noted same = ap (λ (t : Opened). t.table) noted
same_next old new it (Err e) noted same = ap (λ (t : Opened). t.table) same
