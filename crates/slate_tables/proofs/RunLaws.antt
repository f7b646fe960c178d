-- What calls over tables leave, one after another.
use Rattle.std.proofs.Common.{◌≡◌, ◌⊎◌, inl, inr, ℕ, refl, sym, ap, ◌∙◌, subst}
use Rattle.std.specs.Prelude.{IfErr, OnOk, Result, Ok, Err, unwrap_or}
use Rattle.slate_types.specs.declared.error.SlateDBError.{SlateDBError}
use Rattle.slate_types.specs.declared.error.SlateDBError.TheVariants.{BlockTransformError, StoreFault, WriteFault}
use Rattle.slate_types.specs.ExitStatus as exit
use Rattle.slate_types.specs.declared.block_transformer.BlockTransformer as transformers
use Rattle.slate_types.specs.Faults.{Rose, faults_of}
use Rattle.slate_types.specs.Outside.{Counts, IsStill, OnlyReads, Reach, StoreStays}
use Rattle.slate_types.proofs.Reaching.{reads_none, reads_then}
use Rattle.slate_types.proofs.StillLaws.{still_parts, still_then, unasked_still}
use Rattle.slate_store.specs.declared.store.Store as stores
use Rattle.slate_table.specs.declared.sst_reader.SstReader.{SstReader}
use Rattle.slate_tables.specs.Finds.{reader_reach}
use Rattle.slate_tables.specs.Runs.{GoesOver, WritesLines}
use Rattle.slate_tables.proofs.FindLaws.{reader_still}

sink_of : {A : Type 0} (i j : ℕ) (x : A) → (Ok x ≡ Err WriteFault) ⊎ (j ≡ i) → j ≡ i
sink_of i j x (inl is) = absurd cc
sink_of i j x (inr same) = same

sink_longer : {A : Type 0} (i j k : ℕ) (r : Result A SlateDBError) → j ≡ i → (r ≡ Err WriteFault) ⊎ (k ≡ j) → (r ≡ Err WriteFault) ⊎ (k ≡ i)
sink_longer i j k r same (inl is) = inl is
sink_longer i j k r same (inr too) = inr (too ∙ same)

sink_err : {A B : Type 0} (e : SlateDBError) {Q : Type 0} → (◌≡◌ {A = Result A SlateDBError} (Err e) (Err WriteFault)) ⊎ Q → (◌≡◌ {A = Result B SlateDBError} (Err e) (Err WriteFault)) ⊎ Q
sink_err e (inl is) = let same : e ≡ WriteFault = cc in inl (ap (λ (x : SlateDBError). Err x) same)
sink_err e (inr q) = inr q

-- nothing was done
pub goes_none : {A : Type 0} (a : Reach) (i : ℕ) (r : Result A SlateDBError) → GoesOver a a i i r
goes_none a i r = record { reads = reads_none a; counts = unasked_still a.faults r; sink = inr refl }

pub goes_then : {A B : Type 0} (a b d : Reach) (i j k : ℕ) (x : B) (r : Result A SlateDBError) → GoesOver a b i j (Ok x) → GoesOver b d j k r → GoesOver a d i k r
goes_then a b d i j k x r f l = record {
  reads = reads_then a b d f.reads l.reads;
  counts = still_then a.faults b.faults d.faults r f.counts l.counts;
  sink = sink_longer i j k r (sink_of i j x f.sink) l.sink;
}

-- an error that is handed on
pub goes_err : {A B : Type 0} (a b : Reach) (i j : ℕ) (e : SlateDBError) → GoesOver {A = A} a b i j (Err e) → GoesOver {A = B} a b i j (Err e)
goes_err {A} {B} a b i j e f = record { reads = f.reads; counts = f.counts; sink = sink_err {A = A} {B = B} e f.sink }

-- a value that becomes another one
pub goes_ok : {A B : Type 0} (a b : Reach) (i j : ℕ) (x : A) (y : B) → GoesOver a b i j (Ok x) → GoesOver a b i j (Ok y)
goes_ok a b i j x y f = record { reads = f.reads; counts = f.counts; sink = inr (sink_of i j x f.sink) }

-- a call of the reader alone
pub goes_refused : {A : Type 0} (a b : Reach) (i : ℕ) (e : SlateDBError) → OnlyReads a b → IsStill {A = ℕ} a.faults b.faults (Err e) → GoesOver {A = A} a b i i (Err e)
goes_refused a b i e reads counts = record { reads = reads; counts = counts; sink = inr refl }

pub goes_reading : {A : Type 0} (a b : Reach) (i : ℕ) (r : Result A SlateDBError) → OnlyReads a b → IsStill a.faults b.faults r → GoesOver a b i i r
goes_reading a b i r reads counts = record { reads = reads; counts = counts; sink = inr refl }

pub goes_call : {S T A : Type 0} (s : stores.Ghosts S) (t : transformers.Ghosts T) (old new : SstReader S T) (i : ℕ) (r : Result A SlateDBError) → OnlyReads (reader_reach s t old) (reader_reach s t new) →
    (r ≡ Err StoreFault) ⊎ (s.faults new.store ≡ s.faults old.store) → (r ≡ Err BlockTransformError) ⊎ (faults_of t.faults new.transformer ≡ faults_of t.faults old.transformer) → GoesOver (reader_reach s t old) (reader_reach s t new) i i r
goes_call s t old new i r reads store transformer = record { reads = reads; counts = reader_still s t old new r store transformer; sink = inr refl }

-- a call of the sink alone
pub goes_writing : {A : Type 0} (a : Reach) (i j : ℕ) (r : Result A SlateDBError) → WritesLines i j r → GoesOver a a i j r
goes_writing a i j r f = record { reads = reads_none a; counts = unasked_still a.faults r; sink = f.sink }

-- ---- of calls that write

pub writes_later : {A : Type 0} (i j k : ℕ) (r : Result A SlateDBError) → j ≡ i → WritesLines j k r → WritesLines i k r
writes_later i j k r same l = record { cause = l.cause; sink = sink_longer i j k r same l.sink }

pub writes_err : {A B : Type 0} (i j : ℕ) (e : SlateDBError) → WritesLines {A = A} i j (Err e) → WritesLines {A = B} i j (Err e)
writes_err {A} {B} i j e f = record { cause = f.cause; sink = sink_err {A = A} {B = B} e f.sink }

pub writes_ok : {A B : Type 0} (i j : ℕ) (x : A) (y : B) → WritesLines i j (Ok x) → WritesLines i j (Ok y)
writes_ok i j x y f = record { cause = tt; sink = inr (sink_of i j x f.sink) }

pub wrote : {A : Type 0} (i j : ℕ) (r : Result A SlateDBError) → IfErr r (λ e. (e ≡ WriteFault) × Rose i j) → OnOk r (j ≡ i) → WritesLines i j r
wrote i j (Ok x) cause still = record { cause = tt; sink = inr still }
wrote i j (Err e) cause still = record { cause = inr cause.0; sink = inl (ap (λ (x : SlateDBError). Err x) cause.0) }

-- ---- statuses

store_status : (before after : ℕ) (e : SlateDBError) → StoreStays before after e → (unwrap_or (exit.status e) 16 ≡ 7) ⊎ (after ≡ before)
store_status before after StoreFault h = inl refl
store_status before after _ h = inr h

pub store_told : (a b : Counts) (e : SlateDBError) (n : ℕ) → n ≡ unwrap_or (exit.status e) 16 → IsStill {A = ℕ} a b (Err e) → (n ≡ 7) ⊎ (b.store ≡ a.store)
store_told a b e n is h = by (store_status a.store b.store e (still_parts {A = ℕ} a b (Err e) h).0)
  where
    by : (unwrap_or (exit.status e) 16 ≡ 7) ⊎ (b.store ≡ a.store) → (n ≡ 7) ⊎ (b.store ≡ a.store)
    by (inl k) = inl (is ∙ k)
    by (inr k) = inr k

pub sink_told : {A : Type 0} (i j : ℕ) (e : SlateDBError) (n : ℕ) → n ≡ unwrap_or (exit.status e) 16 → (◌≡◌ {A = Result A SlateDBError} (Err e) (Err WriteFault)) ⊎ (j ≡ i) → (n ≡ 6) ⊎ (j ≡ i)
sink_told i j e n is (inl same) = let err : e ≡ WriteFault = cc in inl (is ∙ ap (λ (x : SlateDBError). unwrap_or (exit.status x) 16) err)
sink_told i j e n is (inr same) = inr same

pub sink_same : {A : Type 0} (i j : ℕ) (x : A) → (Ok x ≡ Err WriteFault) ⊎ (j ≡ i) → j ≡ i
sink_same i j x h = sink_of i j x h
