-- Keys in partitions, which are seen as the list of their first keys. These don't fall. A key may stand in several partitions that
-- follow one another, so a partition holds keys from its first key up to the next one's first key, which it may hold too.
--     CanHold keys i k      partition i can hold the key
--     IsLeast P o, IsGreatest P o      the least and the greatest number of which P holds, or none where P holds of none
--     count_below keys k, count_upto keys k      how many first keys are below the key, or not past it
--     counts upto first k, count_to upto keys k      whether a first key is below the key, or not past it where upto is true, and how many are
--     begins_at keys i k      there is such a partition, and the key is its first
--     first_including keys k, last_including keys k      the first and the last partition that can hold the key
--     covering_start keys start, covering_end keys start end      the partitions of the keys between two bounds
use Rattle.std.specs.Prelude.{◌≡◌, ℕ, ◌+◌, ◌-◌, ◌≤◌, nat_lt, Bool, true, false, if◌then◌else◌, List, length, slice_get, count_by, bytes_eq, Option, Some, None, IfSome, IsSomeAnd, unwrap_or}
use Rattle.std.specs.declared.ops.Bound.{Bound}
use Rattle.std.specs.declared.ops.Bound.TheVariants.{Included, Excluded, Unbounded}
use Rattle.slate_types.specs.Keys.{key_lt, key_le}

pub record CanHold (keys : List (List ℕ)) (i : ℕ) (k : List ℕ) : Type 0 where
  pub begins : IsSomeAnd (slice_get keys i) (λ first. key_le first k ≡ true)
  pub ends : IfSome (slice_get keys (i + 1)) (λ next. key_le k next ≡ true)

abbrev pub IsLeast : (ℕ → Type 0) → Option ℕ → Type 0
IsLeast P None = (i : ℕ) → P i → ⊥
IsLeast P (Some n) = P n × ((i : ℕ) → P i → n ≤ i)

abbrev pub IsGreatest : (ℕ → Type 0) → Option ℕ → Type 0
IsGreatest P None = (i : ℕ) → P i → ⊥
IsGreatest P (Some n) = P n × ((i : ℕ) → P i → i ≤ n)

abbrev pub count_below : List (List ℕ) → List ℕ → ℕ
count_below keys k = count_by (λ first. key_lt first k) keys

abbrev pub count_upto : List (List ℕ) → List ℕ → ℕ
count_upto keys k = count_by (λ first. key_le first k) keys

abbrev pub counts : Bool → List ℕ → List ℕ → Bool
counts false first k = key_lt first k
counts true first k = key_le first k

abbrev pub count_to : Bool → List (List ℕ) → List ℕ → ℕ
count_to upto keys k = count_by (λ first. counts upto first k) keys

abbrev pub is_key : Option (List ℕ) → List ℕ → Bool
is_key None k = false
is_key (Some first) k = bytes_eq first k

abbrev pub begins_at : List (List ℕ) → ℕ → List ℕ → Bool
begins_at keys i k = is_key (slice_get keys i) k

-- the last of n partitions
abbrev pub last_of : ℕ → Option ℕ
last_of n = if nat_lt 0 n then Some (n - 1) else None

-- the last partition that begins below the key, else the first where it begins at the key
abbrev pub first_including : List (List ℕ) → List ℕ → Option ℕ
first_including keys k = if nat_lt 0 (count_below keys k) then Some (count_below keys k - 1) else (if begins_at keys 0 k then Some 0 else None)

-- the last partition that doesn't begin past the key
abbrev pub last_including : List (List ℕ) → List ℕ → Option ℕ
last_including keys k = last_of (count_upto keys k)

abbrev pub covering_start : List (List ℕ) → Bound (List ℕ) → ℕ
covering_start keys (Included k) = unwrap_or (first_including keys k) 0
covering_start keys (Excluded k) = unwrap_or (first_including keys k) 0
covering_start keys Unbounded = 0

-- past the last partition, where there is one, else the start
abbrev pub past : ℕ → Option ℕ → ℕ
past start None = start
past start (Some i) = i + 1

-- the same without a partition that begins at the excluded key
abbrev pub past_unless_at : List (List ℕ) → List ℕ → ℕ → Option ℕ → ℕ
past_unless_at keys k start None = start
past_unless_at keys k start (Some i) = if begins_at keys i k then i else i + 1

abbrev pub covering_end : List (List ℕ) → ℕ → Bound (List ℕ) → ℕ
covering_end keys start (Included k) = past start (last_including keys k)
covering_end keys start (Excluded k) = past_unless_at keys k start (last_including keys k)
covering_end keys start Unbounded = length keys
