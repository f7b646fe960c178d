-- The parts that a run can name.
--     concat, greater      both operators, at any key
--     named o      the operator of a name
--     xored n bytes      each byte changed by one number
use Rattle.std.specs.Prelude.{ℕ, ◌-◌, ◌^◌, if◌then◌else◌, List, ◌++◌, take, map, bit_xor, Option, Some, None}
use Rattle.slate_types.specs.Fold.{Combine}
use Rattle.slate_types.specs.Keys.{key_lt}
use Rattle.slate_language.specs.declared.operators.NamedOperator.{NamedOperator}
use Rattle.slate_language.specs.declared.operators.NamedOperator.TheVariants as operators

abbrev pub concat : List ℕ → Option (List ℕ) → List ℕ → List ℕ
concat k None v = take (2 ^ 32 - 1) v
concat k (Some u) v = take (2 ^ 32 - 1) (u ++ v)

abbrev pub greater : List ℕ → Option (List ℕ) → List ℕ → List ℕ
greater k None v = v
greater k (Some u) v = if key_lt u v then v else u

abbrev pub named : NamedOperator → List ℕ → Combine
named operators.Concat = concat
named operators.Max = greater

abbrev pub xored : ℕ → List ℕ → List ℕ
xored n bytes = map (λ b. bit_xor b n) bytes
