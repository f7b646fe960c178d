-- Where a path stands among objects whose paths rise.
--     paths_in os      the paths
--     LowerBefore, HigherFrom os path at      the paths before a place are below a path, and those from it on above
--     IsPathPlace os path place      the place of the object of the path, or, as an error, where it would stand
use Rattle.std.specs.Prelude.{◌≡◌, ◌<◌, ◌≤◌, ℕ, List, length, map, slice_get, Some, Result, Ok, Err}
use Rattle.std.specs.declared.cmp.Ordering.TheVariants.{Less, Equal, Greater}
use Rattle.slate_types.specs.Keys.{key_cmp}
use Rattle.slate_types.specs.Outside.{Objects}

abbrev pub paths_in : Objects → List (List ℕ)
paths_in os = map (λ o. o.0) os

abbrev pub LowerBefore : Objects → List ℕ → ℕ → Type 0
LowerBefore os path at = (i : ℕ) (o : List ℕ × List ℕ) → i < at → slice_get os i ≡ Some o → key_cmp o.0 path ≡ Less

abbrev pub HigherFrom : Objects → List ℕ → ℕ → Type 0
HigherFrom os path at = (i : ℕ) (o : List ℕ × List ℕ) → at ≤ i → slice_get os i ≡ Some o → key_cmp o.0 path ≡ Greater

abbrev pub IsPathPlace : Objects → List ℕ → Result ℕ ℕ → Type 0
IsPathPlace os path (Ok at) = (o : List ℕ × List ℕ) × (slice_get os at ≡ Some o) × (key_cmp o.0 path ≡ Equal)
IsPathPlace os path (Err at) = (at ≤ length os) × LowerBefore os path at × HigherFrom os path at
