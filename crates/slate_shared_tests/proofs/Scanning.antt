-- What the steps of a scan, and a view, leave of their transaction.
use Rattle.std.proofs.Common.{◌≡◌, ℕ, true, false, List, [], ◌∷◌, ◌++◌, Option, refl, sym, ap, ◌∙◌, subst, arith}
use Rattle.std.specs.Prelude.{Result, Ok, Err, IfOk, IfSome, OnErr, OnOk, count_by}
use Rattle.std.specs.Result.{result_ok}
use Rattle.slate_types.specs.declared.bytes_range.BytesRange.{BytesRange}
use Rattle.slate_types.specs.declared.config.Options.{Options}
use Rattle.slate_types.specs.declared.error.SlateDBError.{SlateDBError}
use Rattle.slate_types.specs.declared.iter.IterationOrder.{IterationOrder}
use Rattle.slate_types.specs.declared.types.KeyValue.{KeyValue}
use Rattle.slate_types.specs.Keys.{in_range, whole}
use Rattle.slate_types.specs.Outside.{Meaning}
use Rattle.slate_txn.specs.declared.event.TranscriptStep.{TranscriptStep}
use Rattle.slate_txn.specs.declared.event.TranscriptStep.TheVariants as steps
use Rattle.slate_txn.specs.Step.{is_scan}
use Rattle.slate_txn.proofs.OwnLaws.{count_more, count_same}
use Rattle.slate_db.specs.declared.scan.TxnIterator.{TxnIterator}
use Rattle.slate_db.specs.Scans.{IsScanOf, id_of, number_of}
use Rattle.slate_shared.specs.Passes.{Opened}
use Rattle.slate_shared.specs.Scans.{noted_next, noted_scan, sought_to}
use Rattle.slate_shared.specs.Viewed.{IsView, ViewModel}
use Rattle.slate_shared_tests.specs.Scanning.{IsScanIn}

-- ---- an opening

pub scan_same : (old new : Opened) (order : IterationOrder) (range : BytesRange) (a : Result TxnIterator SlateDBError) →
    OnOk a (new ≡ record old { seen = new.seen; tx = noted_scan order range old.tx }) → OnErr a (new ≡ record old { seen = new.seen }) → new.table ≡ old.table
scan_same old new order range (Ok it) noted unnoted = ap (λ (t : Opened). t.table) noted
scan_same old new order range (Err e) noted unnoted = ap (λ (t : Opened). t.table) unnoted

opened_in : (old new : Opened) (order : IterationOrder) (range : BytesRange) (it : TxnIterator) →
    new ≡ record old { seen = new.seen; tx = noted_scan order range old.tx } → IsScanOf old.id (count_by is_scan old.tx.transcript) order range it → IsScanIn new it
opened_in old new order range it is names = record {
  id = names.named ∙ sym (ap (λ (t : Opened). t.id) is);
  number =
      let more = ap (λ (t : Opened). count_by is_scan t.tx.transcript) is ∙ count_more old.tx.transcript (steps.Scan order range) in
      let n = names.number in
      omega (arith, more, n);
}

pub scan_open : (old new : Opened) (order : IterationOrder) (range : BytesRange) (a : Result TxnIterator SlateDBError) (o : Option TxnIterator) → o ≡ result_ok a →
    OnOk a (new ≡ record old { seen = new.seen; tx = noted_scan order range old.tx }) → IfOk a (IsScanOf old.id (count_by is_scan old.tx.transcript) order range) → IfSome o (IsScanIn new)
scan_open old new order range (Ok it) o given noted names = subst (λ (x : Option TxnIterator). IfSome x (IsScanIn new)) (sym given) (opened_in old new order range it noted names)
scan_open old new order range (Err e) o given noted names = subst (λ (x : Option TxnIterator). IfSome x (IsScanIn new)) (sym given) tt

-- ---- its steps

stepped : (old new : Opened) (it jt : TxnIterator) (step : TranscriptStep) (order : IterationOrder) (range : BytesRange) →
    new ≡ record old { tx = record old.tx { transcript = old.tx.transcript ++ (step ∷ []) } } → is_scan step ≡ false → IsScanOf (id_of it) (number_of it) order range jt → IsScanIn old it → IsScanIn new jt
stepped old new it jt step order range is none names h = record {
  id = names.named ∙ h.id ∙ sym (ap (λ (t : Opened). t.id) is);
  number =
      let same = ap (λ (t : Opened). count_by is_scan t.tx.transcript) is ∙ count_same old.tx.transcript step none in
      let n = names.number in
      let k = h.number in
      omega (arith, same, n, k);
}

stood : (old new : Opened) (it jt : TxnIterator) (order : IterationOrder) (range : BytesRange) → new ≡ old → IsScanOf (id_of it) (number_of it) order range jt → IsScanIn old it → IsScanIn new jt
stood old new it jt order range is names h = subst (λ (t : Opened). IsScanIn t jt) (sym is) (record {
  id = names.named ∙ h.id;
  number = let n = names.number in let k = h.number in omega (arith, n, k);
})

pub of_next : (old new : Opened) (it jt : TxnIterator) (order : IterationOrder) (range : BytesRange) (a : Result (Option KeyValue) SlateDBError) →
    IfOk a (λ x. new ≡ record old { tx = noted_next (number_of it) x old.tx }) → OnErr a (new ≡ old) → IsScanOf (id_of it) (number_of it) order range jt → IsScanIn old it → IsScanIn new jt
of_next old new it jt order range (Ok x) noted same names h = stepped old new it jt (steps.Next (number_of it) x) order range noted refl names h
of_next old new it jt order range (Err e) noted same names h = stood old new it jt order range same names h

pub of_seek : {A : Type 0} (old new : Opened) (it jt : TxnIterator) (order : IterationOrder) (range : BytesRange) (k : List ℕ) (a : Result A SlateDBError) →
    OnOk a (new ≡ record old { tx = sought_to (number_of it) k old.tx }) → OnErr a (new ≡ old) → IsScanOf (id_of it) (number_of it) order range jt → IsScanIn old it → IsScanIn new jt
of_seek old new it jt order range k (Ok x) noted same names h = stepped old new it jt (steps.Seek (number_of it) k) order range noted refl names h
of_seek old new it jt order range k (Err e) noted same names h = stood old new it jt order range same names h

pub same_next : (old new : Opened) (it : TxnIterator) (a : Result (Option KeyValue) SlateDBError) → IfOk a (λ x. new ≡ record old { tx = noted_next (number_of it) x old.tx }) → OnErr a (new ≡ old) → new.table ≡ old.table
same_next old new it (Ok x) noted same = ap (λ (t : Opened). t.table) noted
same_next old new it (Err e) noted same = ap (λ (t : Opened). t.table) same

pub same_seek : {A : Type 0} (old new : Opened) (it : TxnIterator) (k : List ℕ) (a : Result A SlateDBError) → OnOk a (new ≡ record old { tx = sought_to (number_of it) k old.tx }) → OnErr a (new ≡ old) → new.table ≡ old.table
same_seek old new it k (Ok x) noted same = ap (λ (t : Opened). t.table) noted
same_seek old new it k (Err e) noted same = ap (λ (t : Opened). t.table) same

-- ---- a view

pub view_same : (o : Options) (m : Meaning) (range : BytesRange) (old new : Opened) (a : Result ViewModel SlateDBError) → IsView o m range old new a → new.table ≡ old.table
view_same o m range old new (Ok v) h = ap (λ (t : Opened). t.table) h.noted
view_same o m range old new (Err e) h = ap (λ (t : Opened). t.table) h.unnoted

pub view_within : (o : Options) (m : Meaning) (range : BytesRange) (old new : Opened) (k : List ℕ) (a : Result ViewModel SlateDBError) (r : Option ViewModel) → r ≡ result_ok a → range ≡ whole →
    IsView o m range old new a → IfSome r (λ v. in_range v.range k ≡ true)
view_within o m range old new k (Ok v) r given all h = subst (λ (x : Option ViewModel). IfSome x (λ v. in_range v.range k ≡ true)) (sym given) (ap (λ (x : BytesRange). in_range x k) (h.of.1 ∙ all))
view_within o m range old new k (Err e) r given all h = subst (λ (x : Option ViewModel). IfSome x (λ v. in_range v.range k ≡ true)) (sym given) tt
