-- Operators make short values of short ones.
--     concat_short, greater_short      both, at any key
--     named_short      that of a name
use Rattle.std.specs.Prelude.{ℕ, ◌-◌, ◌^◌, ◌≤◌, Bool, true, false, if◌then◌else◌, List, ◌++◌, length, take, Some, None}
use Rattle.std.proofs.Common.{sym, subst}
use Rattle.std.proofs.Math.Nat.{min-le_left}
use Rattle.std.proofs.lemmas.List.{length-take}
use Rattle.slate_types.specs.Fold.{IsShort, KeepsShort}
use Rattle.slate_types.specs.Keys.{key_lt}
use Rattle.slate_language.specs.declared.operators.NamedOperator.{NamedOperator}
use Rattle.slate_language.specs.declared.operators.NamedOperator.TheVariants as operators
use Rattle.slate_language.specs.Parts.{concat, greater, named}

take_short : (v : List ℕ) → IsShort (take (2 ^ 32 - 1) v)
take_short v = subst (λ n. n ≤ 2 ^ 32 - 1) (sym (length-take (2 ^ 32 - 1) v)) (min-le_left (2 ^ 32 - 1) (length v))

pub concat_short : (k : List ℕ) → KeepsShort (concat k)
concat_short k None v h hv = take_short v
concat_short k (Some u) v h hv = take_short (u ++ v)

pub greater_short : (k : List ℕ) → KeepsShort (greater k)
greater_short k None v h hv = hv
greater_short k (Some u) v h hv = by (key_lt u v)
  where
    by : (b : Bool) → IsShort (if b then v else u)
    by true = hv
    by false = h

pub named_short : (o : NamedOperator) (k : List ℕ) → KeepsShort (named o k)
named_short operators.Concat k = concat_short k
named_short operators.Max k = greater_short k
