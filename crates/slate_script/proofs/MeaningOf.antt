-- What the parts that a run is handed mean, and their counts of faults.
--     meaning_of combine encoded decoded operator transformer      what an operator and a transformer mean, where there are any
--     counts_of store operator_faults transformer_faults operator transformer      the counts of faults
use Rattle.std.specs.Prelude.{ℕ, List, Option}
use Rattle.slate_types.specs.Faults.{faults_of}
use Rattle.slate_types.specs.Fold.{Combine}
use Rattle.slate_types.specs.Outside.{Counts}
use Rattle.slate_store.specs.Env.{combine_of}
use Rattle.slate_table.specs.SectionReading.{changed_by}
use Rattle.slate_db.specs.Meaning.{Meaning}

abbrev pub meaning_of : {M T : Type 0} → (M → List ℕ → Combine) → (T → List ℕ → List ℕ) → (T → List ℕ → List ℕ) → Option M → Option T → Meaning
meaning_of combine encoded decoded operator transformer =
    record { combine = combine_of combine operator; encode = changed_by encoded transformer; decode = changed_by decoded transformer }

abbrev pub counts_of : {M T : Type 0} → ℕ → (M → ℕ) → (T → ℕ) → Option M → Option T → Counts
counts_of store operator_faults transformer_faults operator transformer =
    record { store = store; operator = faults_of operator_faults operator; transformer = faults_of transformer_faults transformer }
