-- What a transaction hands over to the manager at its commit, and what a conflict makes of it.
--     AreKeysOf f o      the keys that pass a test are those of a range, or none
--     Grown id old new      a manager tracks more of the open transaction, and nothing else is changed
--     HandsOver n ws ms rs o      the transaction that began at n tracks these writes, and its marked keys and reads
use Rattle.std.specs.Prelude.{◌≡◌, ℕ, Bool, false, ◌||◌, List, Option, Some, None}
use Rattle.std.specs.List.{list_any}
use Rattle.slate_types.specs.declared.bytes_range.BytesRange.{BytesRange}
use Rattle.slate_types.specs.declared.error.SlateDBError.{SlateDBError}
use Rattle.slate_types.specs.declared.error.SlateDBError.TheVariants.{TransactionConflict}
use Rattle.slate_types.specs.Keys.{among, in_range}
use Rattle.slate_txn.specs.Managers.{Active, Manager, StandsFor, reading_of}
use Rattle.slate_txn.specs.Named.{without}
use Rattle.slate_txn.specs.State.{Commit}
use Rattle.slate_txn.specs.Tracking.{Reading, is_read}

abbrev pub AreKeysOf : (List ℕ → Bool) → Option BytesRange → Type 0
AreKeysOf f None = (k : List ℕ) → f k ≡ false
AreKeysOf f (Some r) = (k : List ℕ) → in_range r k ≡ f k

pub record Grown (id : List ℕ) (old new : Manager) : Type 0 where
  pub others : new ≡ record old { active = new.active }
  pub apart : without id new.active ≡ without id old.active
  pub stands : (cs : List Commit) → StandsFor old cs → StandsFor new cs

-- but for its ranges, the transaction is as it was
abbrev pub SameKeys : Option Active → Option Active → Type 0
SameKeys None o = o ≡ None
SameKeys (Some t) None = ⊥
SameKeys (Some t) (Some u) = (u.start ≡ t.start) × (u.writes ≡ t.writes) × (u.reads ≡ t.reads)

-- its ranges take in what they took in, and what passes the test
abbrev pub TakesIn : (List ℕ → Bool) → Option Active → Option Active → Type 0
TakesIn f None o = o ≡ None
TakesIn f (Some t) None = ⊥
TakesIn f (Some t) (Some u) = (k : List ℕ) → list_any (λ r. in_range r k) u.ranges ≡ (list_any (λ r. in_range r k) t.ranges || f k)

abbrev pub HandsOver : ℕ → List (List ℕ) → List (List ℕ) → Reading → Option Active → Type 0
HandsOver n ws ms rs None = ⊥
HandsOver n ws ms rs (Some t) = (t.start ≡ n) × (t.writes ≡ ws) × ((k : List ℕ) → is_read (reading_of t) k ≡ (among k ms || is_read rs k))

-- the refusal shows it
abbrev pub IsConflict : Option ℕ → SlateDBError → Type 0
IsConflict None e = ⊥
IsConflict (Some n) e = e ≡ TransactionConflict n
