-- What a call that may ask a transformer leaves of it.
--     Counts before after result      its count of faults rose where it failed, and else stayed
--     Stays encoded decoded faults old new result      it changes bytes as before, and its count of faults stays but where it failed
--     Reaches objects faults old new result      a store's objects and its count, behind a call that changes nothing
--     Asks encoded decoded faults old new result      it changes bytes as before, and its count of faults is so
use Rattle.std.specs.Prelude.{◌≡◌, ◌≤◌, ◌⊎◌, ℕ, List, Option, Result, Ok, Err}
use Rattle.slate_types.specs.declared.error.SlateDBError.{SlateDBError}
use Rattle.slate_types.specs.declared.error.SlateDBError.TheVariants.{BlockTransformError, OutOfMemory, StoreFault}
use Rattle.slate_types.specs.Faults.{Rose, faults_of}
use Rattle.slate_types.specs.Outside.{Objects}
use Rattle.slate_table.specs.SectionReading.{changed_by}

abbrev pub Counts : {A : Type 0} → ℕ → ℕ → Result A SlateDBError → Type 0
Counts before after (Ok x) = after ≡ before
Counts before after (Err e) = ((e ≡ OutOfMemory) × (after ≡ before)) ⊎ ((e ≡ BlockTransformError) × Rose before after × (before ≤ after))

pub record Asks {X A : Type 0} (encoded decoded : X → List ℕ → List ℕ) (faults : X → ℕ) (old new : Option X) (result : Result A SlateDBError) : Type 0 where
  pub same_encoded : changed_by encoded new ≡ changed_by encoded old
  pub same_decoded : changed_by decoded new ≡ changed_by decoded old
  pub counts : Counts (faults_of faults old) (faults_of faults new) result

pub record Stays {X A : Type 0} (encoded decoded : X → List ℕ → List ℕ) (faults : X → ℕ) (old new : Option X) (result : Result A SlateDBError) : Type 0 where
  pub same_encoded : changed_by encoded new ≡ changed_by encoded old
  pub same_decoded : changed_by decoded new ≡ changed_by decoded old
  pub later : faults_of faults old ≤ faults_of faults new
  pub still : (result ≡ Err BlockTransformError) ⊎ (faults_of faults new ≡ faults_of faults old)

pub record Reaches {X A : Type 0} (objects : X → Option Objects) (faults : X → ℕ) (old new : X) (result : Result A SlateDBError) : Type 0 where
  pub same_objects : objects new ≡ objects old
  pub later : faults old ≤ faults new
  pub still : (result ≡ Err StoreFault) ⊎ (faults new ≡ faults old)
