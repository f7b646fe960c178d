-- Counts of faults behind a call of the operator.
use Rattle.std.proofs.Common.{◌≡◌, ◌⊎◌, inl, inr, ℕ, List, Result, Err, refl}
use Rattle.slate_types.specs.declared.merge_operator.MergeOperatorError.{MergeOperatorError}
use Rattle.slate_types.specs.declared.merge_operator.MergeOperatorError.TheVariants.{EmptyBatch as NothingToMerge, Callback as OperatorFailed, OutOfMemory as OperatorWantsMemory}
use Rattle.slate_types.specs.Outside.{Counts, unblamed}
use Rattle.slate_types.specs.Refusals.{of_operator}

abbrev IsToldOf : {A : Type 0} → ℕ → ℕ → Result A MergeOperatorError → Type 0
IsToldOf before after r = ((message : List ℕ) × (r ≡ Err (OperatorFailed message))) ⊎ (after ≡ before)

pub refused_counts : {A : Type 0} (a : Counts) (n : ℕ) (e : MergeOperatorError) → IsToldOf {A = A} a.operator n (Err e) → unblamed (of_operator e) (record a { operator = n }) ≡ unblamed (of_operator e) a
unfolding unblamed
refused_counts a n (OperatorFailed m) told = refl
refused_counts {A} a n NothingToMerge (inl failed) = let never : ◌≡◌ {A = Result A MergeOperatorError} (Err NothingToMerge) (Err (OperatorFailed failed.0)) = failed.1 in cc
refused_counts a n NothingToMerge (inr same) = λ i. record a { operator = same i }
refused_counts {A} a n OperatorWantsMemory (inl failed) = let never : ◌≡◌ {A = Result A MergeOperatorError} (Err OperatorWantsMemory) (Err (OperatorFailed failed.0)) = failed.1 in cc
refused_counts a n OperatorWantsMemory (inr same) = λ i. record a { operator = same i }
