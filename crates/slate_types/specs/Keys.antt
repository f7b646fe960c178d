-- Keys are lists of bytes in lexicographic order, and a range is two bounds.
--     key_lt a b, key_le a b, among k ks      tests on keys
--     keys_set ks      the keys in rising order, each once
--     AreBytes k      each number is below 256
--     in_range r k      k passes both bounds of r
--     is_refused start end, range_of start end      which bounds make no range, and the range of the others
--     successor p      the least key past all that begin with p, where there is one
--     prefix_range p, prefix_subrange p start end, common_range a b      the ranges that are made of others
--     whole, point_of r      the range of all keys, and the key of a range of one included key
--     bound_now b      a bound on borrowed bytes
use Rattle.std.specs.Prelude.{ℕ, ◌+◌, ◌<◌, Bool, true, false, ◌&&◌, if◌then◌else◌, ◌==◌, List, [], ◌∷◌, ◌++◌, Option, Some, None, bytes_eq}
use Rattle.std.specs.Ordering.{is_lt, is_le, nat_cmp}
use Rattle.std.specs.Cmp.Lexicographic.{slice_cmp}
use Rattle.std.specs.List.{list_any, AllByRecursion}
use Rattle.std.specs.BTreeSet.{insert_key}
use Rattle.std.specs.Borrow.{Bor}
use Rattle.std.specs.declared.cmp.Ordering.{Ordering}
use Rattle.std.specs.declared.ops.Bound.{Bound}
use Rattle.std.specs.declared.ops.Bound.TheVariants.{Included, Excluded, Unbounded}
use Rattle.slate_types.specs.declared.bytes_range.BytesRange.{BytesRange}

abbrev pub key_cmp : List ℕ → List ℕ → Ordering
key_cmp a b = slice_cmp nat_cmp a b

abbrev pub key_lt : List ℕ → List ℕ → Bool
key_lt a b = is_lt (key_cmp a b)

abbrev pub key_le : List ℕ → List ℕ → Bool
key_le a b = is_le (key_cmp a b)

abbrev pub among : List ℕ → List (List ℕ) → Bool
among k ks = list_any (λ x. bytes_eq x k) ks

-- the keys in rising order, each once
abbrev pub keys_set : List (List ℕ) → List (List ℕ)
keys_set [] = []
keys_set (k ∷ ks) = insert_key key_cmp (keys_set ks) k

abbrev pub AreBytes : List ℕ → Type 0
AreBytes k = AllByRecursion (λ b. b < 256) k

abbrev pub is_past_start : Bound (List ℕ) → List ℕ → Bool
is_past_start (Included a) k = key_le a k
is_past_start (Excluded a) k = key_lt a k
is_past_start Unbounded k = true

abbrev pub is_before_end : Bound (List ℕ) → List ℕ → Bool
is_before_end (Included b) k = key_le k b
is_before_end (Excluded b) k = key_lt k b
is_before_end Unbounded k = true

abbrev pub in_range : BytesRange → List ℕ → Bool
in_range r k = is_past_start r.start k && is_before_end r.end k

-- both are given, and the start is past the end, or they are equal and one is excluded
abbrev pub is_refused : Bound (List ℕ) → Bound (List ℕ) → Bool
is_refused Unbounded end = false
is_refused (Included a) (Included b) = key_lt b a
is_refused (Included a) (Excluded b) = key_le b a
is_refused (Included a) Unbounded = false
is_refused (Excluded a) (Included b) = key_le b a
is_refused (Excluded a) (Excluded b) = key_le b a
is_refused (Excluded a) Unbounded = false

abbrev pub range_of : Bound (List ℕ) → Bound (List ℕ) → Option BytesRange
range_of start end = if is_refused start end then None else Some (record { start = start; end = end })

-- p without its trailing bytes 255, and one added to the last byte left; none where no byte is left
abbrev pub carried : ℕ → Option (List ℕ) → Option (List ℕ)
carried b (Some bs) = Some (b ∷ bs)
carried b None = if b == 255 then None else Some ((b + 1) ∷ [])

abbrev pub successor : List ℕ → Option (List ℕ)
successor [] = None
successor (b ∷ bs) = carried b (successor bs)

-- the bounds of the keys that begin with p
abbrev pub prefix_start : List ℕ → Bound (List ℕ)
prefix_start [] = Unbounded
prefix_start (b ∷ bs) = Included (b ∷ bs)

abbrev pub excluded_or_open : Option (List ℕ) → Bound (List ℕ)
excluded_or_open None = Unbounded
excluded_or_open (Some k) = Excluded k

abbrev pub prefix_end : List ℕ → Bound (List ℕ)
prefix_end p = excluded_or_open (successor p)

abbrev pub prefix_range : List ℕ → BytesRange
prefix_range p = record { start = prefix_start p; end = prefix_end p }

-- p before a given bound, and in an open one's place the other bound
abbrev pub behind : List ℕ → Bound (List ℕ) → Bound (List ℕ) → Bound (List ℕ)
behind p (Included k) open_one = Included (p ++ k)
behind p (Excluded k) open_one = Excluded (p ++ k)
behind p Unbounded open_one = open_one

abbrev pub prefix_subrange : List ℕ → Bound (List ℕ) → Bound (List ℕ) → Option BytesRange
prefix_subrange p start end = range_of (behind p start (prefix_start p)) (behind p end (prefix_end p))

-- the start that lets fewer keys through, and the end that does
abbrev pub later_start : Bound (List ℕ) → Bound (List ℕ) → Bound (List ℕ)
later_start Unbounded start = start
later_start (Included a) (Included b) = if key_lt a b then Included b else Included a
later_start (Included a) (Excluded b) = if key_lt b a then Included a else Excluded b
later_start (Included a) Unbounded = Included a
later_start (Excluded a) (Included b) = if key_lt a b then Included b else Excluded a
later_start (Excluded a) (Excluded b) = if key_lt a b then Excluded b else Excluded a
later_start (Excluded a) Unbounded = Excluded a

abbrev pub earlier_end : Bound (List ℕ) → Bound (List ℕ) → Bound (List ℕ)
earlier_end Unbounded end = end
earlier_end (Included a) (Included b) = if key_lt b a then Included b else Included a
earlier_end (Included a) (Excluded b) = if key_lt a b then Included a else Excluded b
earlier_end (Included a) Unbounded = Included a
earlier_end (Excluded a) (Included b) = if key_lt b a then Included b else Excluded a
earlier_end (Excluded a) (Excluded b) = if key_lt b a then Excluded b else Excluded a
earlier_end (Excluded a) Unbounded = Excluded a

abbrev pub common_range : BytesRange → BytesRange → Option BytesRange
common_range a b = range_of (later_start a.start b.start) (earlier_end a.end b.end)

abbrev pub whole : BytesRange
whole = record { start = Unbounded; end = Unbounded }

-- the key where both bounds include the same
abbrev pub point_between : Bound (List ℕ) → Bound (List ℕ) → Option (List ℕ)
point_between (Included a) (Included b) = if bytes_eq a b then Some a else None
point_between (Included a) (Excluded b) = None
point_between (Included a) Unbounded = None
point_between (Excluded a) end = None
point_between Unbounded end = None

abbrev pub point_of : BytesRange → Option (List ℕ)
point_of r = point_between r.start r.end

abbrev pub bound_now : Bound (Bor (List ℕ)) → Bound (List ℕ)
bound_now (Included a) = Included a.now
bound_now (Excluded a) = Excluded a.now
bound_now Unbounded = Unbounded
