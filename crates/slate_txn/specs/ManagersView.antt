-- How contracts see the managers, and what is true of each.
--     StartsRise ps      no transaction began before one that stands in front of it
--     IsTidy m      true of every manager: ids are those of its count, starts rise and don't pass the last sequence; keys rise, and
--                   what is kept of a key is above 0 and not past the last sequence
use Rattle.std.specs.Prelude.{ℕ, ◌≤◌, ◌<◌, Bool, true, false, nat_lt, List, [], ◌∷◌, filter, Option, Some, None}
use Rattle.std.specs.List.{AllByRecursion}
use Rattle.std.specs.List.Sorted.{IsStrictlySortedBy}
use Rattle.std.specs.Map.{keys_of}
use Rattle.slate_types.specs.Keys.{key_cmp}
use Rattle.slate_txn.specs.declared.transaction_manager.TransactionManager.TheInside.{Inside}
use Rattle.slate_txn.specs.Ids.{IsOfCount}
use Rattle.slate_txn.specs.Managers.{Active, Manager}

abbrev pub view_of : Inside → Manager
view_of s = record { last = s.last_seq; ids = s.ids; active = s.active_txns.entries; kept = s.recent_writes.entries }

abbrev pub StartsRise : List (List ℕ × Active) → Type 0
StartsRise [] = Unit {0}
StartsRise (p ∷ ps) = AllByRecursion (λ q. p.1.start ≤ q.1.start) ps × StartsRise ps

abbrev pub IsKeptWithin : ℕ → List ℕ × ℕ → Type 0
IsKeptWithin n e = (0 < e.1) × (e.1 ≤ n)

-- true of what is kept: keys rise, and sequences are above 0 and not past n
pub record AreKept (n : ℕ) (es : List (List ℕ × ℕ)) : Type 0 where
  pub rising : IsStrictlySortedBy key_cmp (keys_of es)
  pub within : AllByRecursion (IsKeptWithin n) es

-- a key that wasn't there stands with 0 for a while
abbrev pub placed : Bool → Option ℕ → Option ℕ
placed b (Some n) = Some n
placed true None = Some 0
placed false None = None

abbrev pub over : ℕ → Bool → Option ℕ → Option ℕ
over n b None = None
over n true (Some m) = Some n
over n false (Some m) = Some m

abbrev pub real : List (List ℕ × ℕ) → List (List ℕ × ℕ)
real es = filter (λ e. nat_lt 0 e.1) es

abbrev pub pruned : Option ℕ → List (List ℕ × ℕ) → List (List ℕ × ℕ)
pruned None es = []
pruned (Some s) es = filter (λ e. nat_lt s e.1) es

pub record IsTidy (m : Manager) : Type 0 where
  pub counted : AllByRecursion (λ p. IsOfCount m.ids p.0) m.active
  pub rise : StartsRise m.active
  pub started : AllByRecursion (λ p. p.1.start ≤ m.last) m.active
  pub kept : AreKept m.last m.kept

abbrev pub IsTidyInside : Inside → Type 0
IsTidyInside s = IsTidy (view_of s)
