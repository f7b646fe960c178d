-- What an iterator that refuses operands owes by what its source owes.
use Rattle.std.proofs.Common.{◌≡◌, ◌⊎◌, inl, inr, List, ◌++◌}
use Rattle.slate_types.specs.declared.error.SlateDBError.{SlateDBError}
use Rattle.slate_types.specs.declared.error.SlateDBError.TheVariants.{MergeOperatorMissing}
use Rattle.slate_types.specs.Outside.{Act}
use Rattle.slate_types.specs.Refusing.{Refusals, IsReady, NoMore, NoMoreBut}

abbrev pub or_missing : Refusals → Refusals
or_missing refuses reads at e = (e ≡ MergeOperatorMissing) ⊎ refuses reads at e

pub or_no_more : (before after : Refusals) (reads : List Act) → NoMore before reads after → NoMore (or_missing before) reads (or_missing after)
or_no_more before after reads less later at e (inl is) = inl is
or_no_more before after reads less later at e (inr h) = inr (less later at e h)

pub or_but : (refusal : SlateDBError) (before after : Refusals) (reads : List Act) → NoMoreBut refusal before reads after → NoMoreBut refusal (or_missing before) reads (or_missing after)
or_but refusal before after reads less later at e (inl is) = inl (inl is)
or_but refusal before after reads less later at e (inr h) = by (less later at e h)
  where
    by : before (reads ++ later) at e ⊎ (e ≡ refusal) → or_missing before (reads ++ later) at e ⊎ (e ≡ refusal)
    by (inl k) = inl (inr k)
    by (inr k) = inr k

pub or_ready : (refuses : Refusals) → IsReady refuses → IsReady (or_missing refuses)
or_ready refuses ready reads at (inl is) = cc
or_ready refuses ready reads at (inr h) = ready reads at h

pub or_why : (fault own : Type 0) (e : SlateDBError) → fault ⊎ own → fault ⊎ ((e ≡ MergeOperatorMissing) ⊎ own)
or_why fault own e (inl h) = inl h
or_why fault own e (inr h) = inr (inr h)
