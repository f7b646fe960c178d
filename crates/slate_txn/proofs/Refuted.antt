-- Answers of wrong managers, each refused by the public clauses: one transaction and one commit that tell.
use Rattle.std.proofs.Common.{◌≡◌, ℕ, List, [], ◌∷◌, Option, Some, None}
use Rattle.std.specs.Prelude.{pos}
use Rattle.std.specs.declared.ops.Bound.TheVariants.{Excluded, Unbounded}
use Rattle.slate_txn.specs.Managers.{Active, Manager, StandsFor, conflict_among}
use Rattle.slate_txn.specs.State.{Commit}

-- a commit at 1 that tracks the key 97
abbrev one : Commit
one = record { seq = 1; now = pos 0; ops = []; tracked = (97 ∷ []) ∷ [] }

abbrev opened : Active → List (List ℕ × ℕ) → Manager
opened t kept = record { last = 1; ids = 1; active = ((0 ∷ []), t) ∷ []; kept = kept }

abbrev nothing : ℕ → Active
nothing n = record { start = n; writes = []; reads = []; ranges = [] }

-- what an older open transaction needs was pruned
pub pruned_too_much : StandsFor (opened (nothing 0) []) (one ∷ []) → ⊥
pruned_too_much h = let clash : ◌≡◌ {A = Option ℕ} None (Some 1) = h.1 (97 ∷ []) in cc

-- a key that is read or marked, and not written, is not looked up
pub reads_forgotten : None ≡ conflict_among (one ∷ []) (Some (record { start = 0; writes = []; reads = (97 ∷ []) ∷ []; ranges = [] })) → ⊥
reads_forgotten h = let clash : ◌≡◌ {A = Option ℕ} None (Some 1) = h in cc

-- a commit at the start counts
pub at_the_start : Some 1 ≡ conflict_among (one ∷ []) (Some (record { start = 1; writes = (97 ∷ []) ∷ []; reads = []; ranges = [] })) → ⊥
at_the_start h = let clash : ◌≡◌ {A = Option ℕ} (Some 1) None = h in cc

-- an excluded end is walked
pub end_included : Some 1 ≡ conflict_among (one ∷ []) (Some (record { start = 0; writes = []; reads = []; ranges = (record { start = Unbounded; end = Excluded (97 ∷ []) }) ∷ [] })) → ⊥
end_included h = let clash : ◌≡◌ {A = Option ℕ} (Some 1) None = h in cc
