-- The extractors that come with the store.
--     fixed n      n bytes, of targets that have as many
--     colon      up to the first colon, with it
--     last_colon      of a point up to the last colon, with it; of a prefix nothing, since a key that begins with it may have more
use Rattle.std.specs.Prelude.{ℕ, ◌+◌, nat_le, if◌then◌else◌, ◌==◌, List, [], ◌∷◌, length, Option, Some, None}
use Rattle.slate_types.specs.declared.filter_policy.PrefixTarget.TheVariants.{Point, Prefix}
use Rattle.slate_types.specs.Lawful.{Lengths, target_bytes}

abbrev pub one_more : Option ℕ → Option ℕ
one_more None = None
one_more (Some n) = Some (n + 1)

abbrev pub through_first : ℕ → List ℕ → Option ℕ
through_first c [] = None
through_first c (b ∷ bs) = if b == c then Some 1 else one_more (through_first c bs)

-- here: the length where this byte is the last one
abbrev pub or_here : Option ℕ → Option ℕ → Option ℕ
or_here here None = here
or_here here (Some n) = Some (n + 1)

abbrev pub through_last : ℕ → List ℕ → Option ℕ
through_last c [] = None
through_last c (b ∷ bs) = or_here (if b == c then Some 1 else None) (through_last c bs)

abbrev pub fixed : ℕ → Lengths
fixed n t = if nat_le n (length (target_bytes t)) then Some n else None

abbrev pub colon : Lengths
colon t = through_first 58 (target_bytes t)

abbrev pub last_colon : Lengths
last_colon (Point k) = through_last 58 k
last_colon (Prefix p) = None
