-- What is found at one moment is found in all that is asked.
use Rattle.std.proofs.Common.{◌≡◌, ◌⊎◌, inl, inr, ℕ, ◌+◌, ◌-◌, ◌≤◌, List, [], ◌∷◌, ◌++◌, length, take, drop, refl, sym, ap, ◌∙◌, subst, arith}
use Rattle.std.specs.Prelude.{Option, Some, None, Result, Ok, Err, string_bytes}
use Rattle.slate_types.specs.declared.block_transformer.BlockTransformer as transformers
use Rattle.slate_types.specs.declared.error.SlateDBError.{SlateDBError}
use Rattle.slate_types.specs.declared.error.SlateDBError.TheVariants.{BlockTransformError, OutOfMemory, StoreFault}
use Rattle.slate_types.specs.Faults.{Rose, faults_of}
use Rattle.slate_types.specs.Outside.{Act, AddsReads, Counts, IsCounted, IsFault, IsLater, IsStill, Meaning, Objects, OnlyReads, Reach}
use Rattle.slate_types.proofs.Reaching.{adds_both, adds_none, reads_of}
use Rattle.slate_types.proofs.StillLaws.{told_still}
use Rattle.slate_store.specs.declared.store.Store as stores
use Rattle.slate_store.specs.Env.{changed_by}
use Rattle.slate_table.specs.declared.sst_reader.SstReader.{SstReader}
use Rattle.slate_table.specs.Opening.{IsMeasured, IsOpened, MayOpen}
use Rattle.slate_table.specs.Decoded.{Info}
use Rattle.slate_table.specs.Reading.{IsRead, IsStoreFault, Reads, SectionRead, FailsDecoding}
use Rattle.slate_tables.specs.Finds.{Finds, Within, asked_of, reader_reach}

-- ---- moments

abbrev Part : Type 1
Part = Option Objects → (List ℕ → List ℕ) → Option (List Act) → Option (List Act) → Type 0

pub finds_now : (P : Option Objects → (List ℕ → List ℕ) → Option (List Act) → Option (List Act) → Type 0) (begun now : Reach) (root : List ℕ) (after : Option (List Act)) →
    OnlyReads begun now → P now.objects now.meaning.decode now.acts after → Finds (asked_of begun root after) P
finds_now P begun now root after r p =
    let Q : Option Objects → Type 0 = λ o. P o now.meaning.decode now.acts after in
    let R : Meaning → Type 0 = λ m. P begun.objects m.decode now.acts after in
    (now.acts, after, r.acts, subst R r.meaning (subst Q r.objects p), adds_none after)

pub finds_later : (P : Option Objects → (List ℕ → List ℕ) → Option (List Act) → Option (List Act) → Type 0) (begun : Reach) (root : List ℕ) (before after : Option (List Act)) →
    AddsReads before after → Finds (asked_of begun root before) P → Finds (asked_of begun root after) P
finds_later P begun root before after more f = (f.0, f.1, f.2, f.3, adds_both f.1 before after f.4 more)

pub finds_earlier : (P : Option Objects → (List ℕ → List ℕ) → Option (List Act) → Option (List Act) → Type 0) (begun now : Reach) (root : List ℕ) (after : Option (List Act)) →
    OnlyReads begun now → Finds (asked_of now root after) P → Finds (asked_of begun root after) P
finds_earlier P begun now root after r f =
    let Q : Option Objects → Type 0 = λ o. P o now.meaning.decode f.0 f.1 in
    let R : Meaning → Type 0 = λ m. P begun.objects m.decode f.0 f.1 in
    (f.0, f.1, adds_both begun.acts now.acts f.0 r.acts f.2, subst R r.meaning (subst Q r.objects f.3), f.4)

-- ---- what a call adds to the acts

pub read_adds : (objects : Option Objects) (before after : Option (List Act)) (path : List ℕ) (start size : ℕ) (answer : Option (List ℕ)) → IsRead objects before after path start size answer → AddsReads before after
read_adds objects before after path start size answer r = λ known is. (Act.read path start size r.0 ∷ [], r.2 known is, (tt, tt))

pub reads_add : (objects : Option Objects) (before after : Option (List Act)) (path : List ℕ) (start size : ℕ) (means : Option (List ℕ) → Type 0) → Reads objects before after path start size means → AddsReads before after
reads_add objects before after path start size means r = read_adds objects before after path start size r.0 r.1

-- a read that may not have been made
pub once_adds : (objects : Option Objects) (before after : Option (List Act)) (path : List ℕ) (start size : ℕ) (means : Option (List ℕ) → Type 0) →
    (after ≡ before) ⊎ Reads objects before after path start size means → AddsReads before after
once_adds objects before after path start size means (inl same) = subst (λ (a : Option (List Act)). AddsReads before a) (sym same) (adds_none before)
once_adds objects before after path start size means (inr r) = reads_add objects before after path start size means r

pub measured_adds : (objects : Option Objects) (before after : Option (List Act)) (path : List ℕ) (size : Option ℕ) → IsMeasured objects before after path size → AddsReads before after
unfolding IsMeasured
measured_adds objects before after path size m = λ known is. (Act.len path size ∷ [], m.1 known is, (tt, tt))

pub measured_once : (objects : Option Objects) (before after : Option (List Act)) (path : List ℕ) (size : Option ℕ) → (after ≡ before) ⊎ IsMeasured objects before after path size → AddsReads before after
measured_once objects before after path size (inl same) = subst (λ (a : Option (List Act)). AddsReads before a) (sym same) (adds_none before)
measured_once objects before after path size (inr m) = measured_adds objects before after path size m

pub opened_adds : (objects : Option Objects) (before after : Option (List Act)) (path : List ℕ) (id version : ℕ) (info : Info) → IsOpened objects before after path id version info → AddsReads before after
unfolding IsOpened
opened_adds objects before after path id version info o =
    adds_both before o.2 after (measured_adds objects before o.2 path (Some o.0) o.4)
    (adds_both o.2 o.3 after (read_adds objects o.2 o.3 path (o.0 - 10) 10 o.6.0 o.6.1) (read_adds objects o.3 after path o.1 (o.0 - 10 - o.1) o.8.0 o.8.1))

pub may_open_adds : (objects : Option Objects) (before after : Option (List Act)) (path : List ℕ) → MayOpen objects before after path → AddsReads before after
unfolding MayOpen
may_open_adds objects before after path (inl same) = subst (λ (a : Option (List Act)). AddsReads before a) (sym same) (adds_none before)
may_open_adds objects before after path (inr (inl m)) = measured_adds objects before after path m.0 m.1
may_open_adds objects before after path (inr (inr (inl m))) =
    adds_both before m.1 after (measured_adds objects before m.1 path (Some m.0) m.2) (read_adds objects m.1 after path (m.0 - 10) 10 m.3.0 m.3.1)
may_open_adds objects before after path (inr (inr (inr m))) =
    adds_both before m.2 after (measured_adds objects before m.2 path (Some m.0) m.4)
    (adds_both m.2 m.3 after (read_adds objects m.2 m.3 path (m.0 - 10) 10 m.5.0 m.5.1) (read_adds objects m.3 after path m.1 (m.0 - 10 - m.1) m.6.0 m.6.1))

-- ---- what a call of a reader leaves

pub reader_reads : {S T : Type 0} (s : stores.Ghosts S) (t : transformers.Ghosts T) (old new : SstReader S T) → s.objects new.store ≡ s.objects old.store →
    changed_by t.encoded new.transformer ≡ changed_by t.encoded old.transformer → changed_by t.decoded new.transformer ≡ changed_by t.decoded old.transformer →
    AddsReads (s.acts old.store) (s.acts new.store) → s.faults old.store ≤ s.faults new.store → faults_of t.faults old.transformer ≤ faults_of t.faults new.transformer →
    OnlyReads (reader_reach s t old) (reader_reach s t new)
reader_reads s t old new objects encodes decodes acts store transformer =
    reads_of (reader_reach s t old) (reader_reach s t new) objects refl encodes decodes acts (record { store = store; operator = omega arith; transformer = transformer }) refl

pub reader_still : {S T A : Type 0} (s : stores.Ghosts S) (t : transformers.Ghosts T) (old new : SstReader S T) (r : Result A SlateDBError) →
    (r ≡ Err StoreFault) ⊎ (s.faults new.store ≡ s.faults old.store) → (r ≡ Err BlockTransformError) ⊎ (faults_of t.faults new.transformer ≡ faults_of t.faults old.transformer) →
    IsStill (reader_reach s t old).faults (reader_reach s t new).faults r
reader_still s t old new r store transformer = told_still (reader_reach s t old).faults (reader_reach s t new).faults r refl store transformer

pub same_faults : {S T : Type 0} (s : stores.Ghosts S) (t : transformers.Ghosts T) (old new : SstReader S T) → s.faults new.store ≡ s.faults old.store → faults_of t.faults new.transformer ≡ faults_of t.faults old.transformer →
    (reader_reach s t new).faults ≡ (reader_reach s t old).faults
same_faults s t old new store transformer = λ i. record { store = store i; operator = 0; transformer = transformer i }

pub store_counted : (a b : Counts) (e : SlateDBError) → IsStoreFault a.store b.store e → IsCounted a b e
store_counted a b e (inl memory) = subst (λ (x : SlateDBError). IsCounted a b x) (sym memory) tt
store_counted a b e (inr fault) = subst (λ (x : SlateDBError). IsCounted a b x) (sym fault.0) fault.1

pub transformer_counted : (a b : Counts) (e : SlateDBError) → e ≡ BlockTransformError → Rose a.transformer b.transformer → IsCounted a b e
transformer_counted a b e is rose = subst (λ (x : SlateDBError). IsCounted a b x) (sym is) rose

-- ---- counts where a call is Ok, and where its error is handed on

pub store_still : {T P : Type 0} (value : T) → (Ok value ≡ Err StoreFault) ⊎ P → P
store_still value (inl failed) = absurd cc
store_still value (inr same) = same

pub store_err : {T U P : Type 0} (e : SlateDBError) → (◌≡◌ {A = Result T SlateDBError} (Err e) (Err StoreFault)) ⊎ P → (◌≡◌ {A = Result U SlateDBError} (Err e) (Err StoreFault)) ⊎ P
store_err e (inl failed) = let is : e ≡ StoreFault = cc in inl (ap (λ (x : SlateDBError). Err x) is)
store_err e (inr same) = inr same

pub still_ok : {T P : Type 0} (value : T) → (Ok value ≡ Err BlockTransformError) ⊎ P → P
still_ok value (inl failed) = absurd cc
still_ok value (inr same) = same

pub still_err : {T U P : Type 0} (e : SlateDBError) → (◌≡◌ {A = Result T SlateDBError} (Err e) (Err BlockTransformError)) ⊎ P → (◌≡◌ {A = Result U SlateDBError} (Err e) (Err BlockTransformError)) ⊎ P
still_err e (inl failed) = let is : e ≡ BlockTransformError = cc in inl (ap (λ (x : SlateDBError). Err x) is)
still_err e (inr same) = inr same
