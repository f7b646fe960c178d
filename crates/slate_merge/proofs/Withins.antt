-- Calls that read within paths, one after another.
use Rattle.std.proofs.Common.{List, ℕ, []}
use Rattle.slate_types.specs.Outside.{Reach}
use Rattle.slate_types.specs.World.{IsCall, ReadsAt}
use Rattle.slate_types.proofs.Calls.{reads_at_call, reads_at_none, reads_at_then}

module _ {S : Type 0} (within : S → List (List ℕ) → Type 0) where
  abbrev pub ReadsWithin : Reach → Reach → S → S → Type 0
  ReadsWithin a b x y = (paths : List (List ℕ)) → within x paths → ReadsAt paths a b × within y paths

  pub within_none : (a : Reach) (x : S) → ReadsWithin a a x x
  within_none a x paths h = (reads_at_none paths a, h)

  pub within_then : (a b c : Reach) (x y z : S) → ReadsWithin a b x y → ReadsWithin b c y z → ReadsWithin a c x z
  within_then a b c x y z f l paths h = (reads_at_then paths a b c (f paths h).0 (l paths (f paths h).1).0, (l paths (f paths h).1).1)

  -- a call that reads nothing
  pub within_call : (a b c : Reach) (x y : S) → ReadsWithin a b x y → IsCall b c [] → ReadsWithin a c x y
  within_call a b c x y f call paths h = (reads_at_then paths a b c (f paths h).0 (reads_at_call paths b c call), (f paths h).1)
