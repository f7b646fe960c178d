-- What is asked of the extractors and transformers that are handed in.
--     Lengths      an extractor as a function: the length of the prefix that it gives a target, where it gives one
--     target_bytes t      the key or the prefix that a target names
--     IsWithinTarget f      of every extractor: no prefix is longer than its target
--     IsLawfulLengths f      a length that a prefix gets is that of each key which begins with it
--     IsLawfulTransform encode decode      what was encoded is decoded, whatever it was
use Rattle.std.specs.Prelude.{◌≡◌, ℕ, ◌≤◌, List, ◌++◌, length, Option, Some, IfSome}
use Rattle.slate_types.specs.declared.filter_policy.PrefixTarget.{PrefixTarget}
use Rattle.slate_types.specs.declared.filter_policy.PrefixTarget.TheVariants.{Point, Prefix}

abbrev pub Lengths : Type 0
Lengths = PrefixTarget → Option ℕ

abbrev pub target_bytes : PrefixTarget → List ℕ
target_bytes (Point k) = k
target_bytes (Prefix p) = p

abbrev pub IsWithinTarget : Lengths → Type 0
IsWithinTarget f = (t : PrefixTarget) → IfSome (f t) (λ n. n ≤ length (target_bytes t))

abbrev pub IsLawfulLengths : Lengths → Type 0
IsLawfulLengths f = (p rest : List ℕ) → IfSome (f (Prefix p)) (λ n. f (Point (p ++ rest)) ≡ Some n)

abbrev pub IsLawfulTransform : (List ℕ → List ℕ) → (List ℕ → List ℕ) → Type 0
IsLawfulTransform encode decode = (d : List ℕ) → decode (encode d) ≡ d
