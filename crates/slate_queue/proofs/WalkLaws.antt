-- Walks over the rows of a scan, one behind another.
use Rattle.std.proofs.Common.{◌≡◌, inl, ℕ, ℤ, List, [], ◌∷◌, ◌++◌, Some, refl, sym, ap, subst, ◌∙◌, append_assoc, append-nil}
use Rattle.std.specs.List.{AllByRecursion}
use Rattle.slate_types.specs.declared.error.SlateDBError.TheVariants.{OutOfMemory}
use Rattle.slate_types.specs.declared.types.KeyValue.{KeyValue}
use Rattle.slate_types.specs.declared.types.RowEntry.{RowEntry}
use Rattle.slate_types.specs.Outside.{Meaning, OnlyReads, Reach}
use Rattle.slate_types.proofs.Reaching.{fault_earlier, reads_none, reads_then}
use Rattle.slate_txn.specs.declared.event.TranscriptStep.{TranscriptStep}
use Rattle.slate_txn.specs.declared.event.TranscriptStep.TheVariants as steps
use Rattle.slate_db.specs.declared.scan.TxnIterator.{TxnIterator}
use Rattle.slate_db.specs.Model.{CoreModel}
use Rattle.slate_db.specs.Scans.{id_of}
use Rattle.slate_steps.specs.Reads.{IsMetBy, IsReadError, IsReading}
use Rattle.slate_steps.specs.Steps.{IsWithin, Sees}
use Rattle.slate_steps.proofs.StoreTruth.{met_first, met_next}
use Rattle.slate_queue.specs.declared.error.QueueError.{QueueError}
use Rattle.slate_queue.specs.declared.error.QueueError.TheVariants as errors
use Rattle.slate_queue.specs.Commits.{IsPassed}
use Rattle.slate_queue.specs.CallSteps.{nexts}
use Rattle.slate_queue.specs.Walks.{ScanFails, StopsAt, WalkStops, Walked, Walks}

pub nexts_more : (kvs more : List KeyValue) → nexts (kvs ++ more) ≡ nexts kvs ++ nexts more
nexts_more [] more = refl
nexts_more (kv ∷ kvs) more = ap (λ us. steps.Next 0 (Some kv) ∷ us) (nexts_more kvs more)

pub all_more : (P : KeyValue → Type 0) (kvs : List KeyValue) (kv : KeyValue) → AllByRecursion P kvs → P kv → AllByRecursion P (kvs ++ (kv ∷ []))
all_more P [] kv h is = (is, tt)
all_more P (x ∷ kvs) kv h is = (h.0, all_more P kvs kv h.1 is)

-- ---- no step

pub walks_none : (a b : Reach) (d : CoreModel) (x : TxnIterator) → Walks a b d d x []
walks_none a b d x = record {
  within = λ c level ts h. subst (λ (us : List TranscriptStep). IsWithin c (id_of x) level us d) (sym (append-nil ts)) h;
  sees = λ c ts os rows met reading sees. subst (λ (us : List TranscriptStep). Sees a.meaning c us) (sym (append-nil ts)) sees;
}

pub stays : (a : Reach) (d : CoreModel) (x : TxnIterator) → Walked a a d d x x []
stays a d x = record {
  walks = walks_none a a d x;
  reading = λ c ts os rows met reading. (rows, subst (λ (us : List TranscriptStep). IsReading os a.meaning c us x rows) (sym (append-nil ts)) reading);
  since = λ c from h. h;
  named = record { named = refl; number = refl; ordered = refl; ranged = refl };
  reads = reads_none a;
}

-- ---- of a walk, what is known from before its scan was opened

pub walks_from : (a b z : Reach) (d e : CoreModel) (x : TxnIterator) (us : List TranscriptStep) → OnlyReads a b → OnlyReads b z → Walks b z d e x us → Walks a z d e x us
walks_from a b z d e x us reads later h = record {
  within = h.within;
  sees = λ c ts os rows met reading sees.
      subst (λ (m : Meaning). Sees m c (ts ++ us)) reads.meaning
      (h.sees c ts os rows (met_next os a b z reads later met) (subst (λ (m : Meaning). IsReading os m c ts x rows) (sym reads.meaning) reading) (subst (λ (m : Meaning). Sees m c ts) (sym reads.meaning) sees));
}

-- ---- one walk behind another

walks_as : (a b : Reach) (d e : CoreModel) (x : TxnIterator) (us vs : List TranscriptStep) → us ≡ vs → Walks a b d e x us → Walks a b d e x vs
walks_as a b d e x us vs is h = subst (Walks a b d e x) is h

pub walks_then : (a b c : Reach) (d e f : CoreModel) (x y : TxnIterator) (us vs : List TranscriptStep) → Walked a b d e x y us → OnlyReads b c → Walks b c e f y vs → Walks a c d f x (us ++ vs)
walks_then a b c d e f x y us vs first later second = record {
  within = λ k level ts h.
      subst (λ (ws : List TranscriptStep). IsWithin k (id_of x) level ws f) (append_assoc ts us vs)
      (subst (λ (id : List ℕ). IsWithin k id level ((ts ++ us) ++ vs) f) first.named.named
      (second.within k level (ts ++ us) (subst (λ (id : List ℕ). IsWithin k id level (ts ++ us) e) (sym first.named.named) (first.walks.within k level ts h))));
  sees = λ k ts os rows met reading sees.
      let begun : IsMetBy a.meaning os a b = met_first a.meaning os a b c first.reads later met in
      let left : (left : List RowEntry) × IsReading os a.meaning k (ts ++ us) y left = first.reading k ts os rows begun reading in
      subst (λ (ws : List TranscriptStep). Sees a.meaning k ws) (append_assoc ts us vs)
      (subst (λ (m : Meaning). Sees m k ((ts ++ us) ++ vs)) first.reads.meaning
      (second.sees k (ts ++ us) os left.0 (met_next os a b c first.reads later met)
      (subst (λ (m : Meaning). IsReading os m k (ts ++ us) y left.0) (sym first.reads.meaning) left.1)
      (subst (λ (m : Meaning). Sees m k (ts ++ us)) (sym first.reads.meaning) (first.walks.sees k ts os rows begun reading sees))));
}

pub walked_then : (a b c : Reach) (d e f : CoreModel) (x y z : TxnIterator) (us vs : List TranscriptStep) → Walked a b d e x y us → Walked b c e f y z vs → Walked a c d f x z (us ++ vs)
walked_then a b c d e f x y z us vs first second = record {
  walks = walks_then a b c d e f x y us vs first second.reads second.walks;
  reading = λ k ts os rows met reading.
      let left : (left : List RowEntry) × IsReading os a.meaning k (ts ++ us) y left = first.reading k ts os rows (met_first a.meaning os a b c first.reads second.reads met) reading in
      let more : (more : List RowEntry) × IsReading os b.meaning k ((ts ++ us) ++ vs) z more =
      second.reading k (ts ++ us) os left.0 (met_next os a b c first.reads second.reads met) (subst (λ (m : Meaning). IsReading os m k (ts ++ us) y left.0) (sym first.reads.meaning) left.1) in (
        more.0,
        subst (λ (ws : List TranscriptStep). IsReading os a.meaning k ws z more.0) (append_assoc ts us vs)
            (subst (λ (m : Meaning). IsReading os m k ((ts ++ us) ++ vs) z more.0) first.reads.meaning more.1),
      );
  since = λ k from h. second.since k from (first.since k from h);
  named = record {
    named = second.named.named ∙ first.named.named;
    number = second.named.number ∙ first.named.number;
    ordered = second.named.ordered ∙ first.named.ordered;
    ranged = second.named.ranged ∙ first.named.ranged;
  };
  reads = reads_then a b c first.reads second.reads;
}

pub fails_then : (a b c : Reach) (d e f : CoreModel) (x y : TxnIterator) (us vs : List TranscriptStep) (q : QueueError) → Walked a b d e x y us → ScanFails b c e f y vs q → ScanFails a c d f x (us ++ vs) q
fails_then a b c d e f x y us vs q first second = record {
  walks = walks_then a b c d e f x y us vs first second.reads second.walks;
  error = second.error;
  is = second.is;
  undamaged = λ k ts os rows told reading.
      let left : (left : List RowEntry) × IsReading os a.meaning k (ts ++ us) y left = first.reading k ts os rows (inl (inl told)) reading in
      fault_earlier a b c second.error first.reads.later
      (second.undamaged k (ts ++ us) os left.0 (first.reads.objects ∙ told) (subst (λ (m : Meaning). IsReading os m k (ts ++ us) y left.0) (sym first.reads.meaning) left.1));
  cause = λ k from policies reads since. second.cause k from policies (reads_then from a b reads first.reads) (first.since k from since);
  reads = reads_then a b c first.reads second.reads;
}

-- ---- a claim's walk

pub stops_then : (now : ℤ) (a b c : Reach) (d e f : CoreModel) (x y z : TxnIterator) (passed : List KeyValue) (q : QueueError) → AllByRecursion (IsPassed now) passed → Walked a b d e x y (nexts passed) → StopsAt b c e f y z q → WalkStops now a c d f x q
stops_then now a b c d e f x y z passed q passes first (StopsAt.bad kv bad second) =
    WalkStops.bad passed kv passes bad
    (walks_as a c d f x (nexts passed ++ nexts (kv ∷ [])) (nexts (passed ++ (kv ∷ []))) (sym (nexts_more passed (kv ∷ []))) (walks_then a b c d e f x y (nexts passed) (nexts (kv ∷ [])) first second.reads second.walks))
stops_then now a b c d e f x y z passed q passes first (StopsAt.fails kvs second) =
    WalkStops.fails (passed ++ kvs)
    (subst (λ (us : List TranscriptStep). ScanFails a c d f x us q) (sym (nexts_more passed kvs)) (fails_then a b c d e f x y (nexts passed) (nexts kvs) q first second))

pub takes_then : (a b c : Reach) (d e f : CoreModel) (x y z : TxnIterator) (passed : List KeyValue) (kv : KeyValue) → Walked a b d e x y (nexts passed) → Walked b c e f y z (nexts (kv ∷ [])) → Walks a c d f x (nexts (passed ++ (kv ∷ [])))
takes_then a b c d e f x y z passed kv first second =
    walks_as a c d f x (nexts passed ++ nexts (kv ∷ [])) (nexts (passed ++ (kv ∷ []))) (sym (nexts_more passed (kv ∷ []))) (walks_then a b c d e f x y (nexts passed) (nexts (kv ∷ [])) first second.reads second.walks)

pub passes_then : (a b c : Reach) (d e f : CoreModel) (x y z : TxnIterator) (passed : List KeyValue) (kv : KeyValue) → Walked a b d e x y (nexts passed) → Walked b c e f y z (nexts (kv ∷ [])) → Walked a c d f x z (nexts (passed ++ (kv ∷ [])))
passes_then a b c d e f x y z passed kv first second =
    subst (Walked a c d f x z) (sym (nexts_more passed (kv ∷ []))) (walked_then a b c d e f x y z (nexts passed) (nexts (kv ∷ [])) first second)

-- no memory holds so many rows
pub too_many : (now : ℤ) (a b : Reach) (d e : CoreModel) (x y : TxnIterator) (passed : List KeyValue) → Walked a b d e x y (nexts passed) → WalkStops now a b d e x (errors.Db OutOfMemory)
too_many now a b d e x y passed h = WalkStops.fails passed (record {
  walks = h.walks;
  error = OutOfMemory;
  is = refl;
  undamaged = λ c ts os rows told reading. tt;
  cause = λ c from policies reads since. IsReadError.of_scan (inl tt);
  reads = h.reads;
})
