-- What a part may blame, the whole may blame.
use Rattle.std.proofs.Common.{◌⊎◌, ℕ, ◌≤◌, inl, inr, arith}
use Rattle.slate_types.specs.declared.error.SlateDBError.{SlateDBError}
use Rattle.slate_types.specs.declared.error.SlateDBError.TheVariants.{StoreFault, Callback, BlockTransformError, OutOfMemory}
use Rattle.slate_types.specs.Faults.{Rose}
use Rattle.slate_types.specs.Outside.{Counts, IsLater, IsCounted}

pub later_trans : (a b c : Counts) → IsLater a b → IsLater b c → IsLater a c
later_trans a b c h k = record { store = omega arith; operator = omega arith; transformer = omega arith }

rose_earlier : (a b c : ℕ) → a ≤ b → Rose b c → Rose a c
rose_earlier a b c h k = omega arith

-- a fault that came between two counts came since an earlier one
pub counted_earlier : (a b c : Counts) (e : SlateDBError) → IsLater a b → IsCounted b c e → IsCounted a c e
counted_earlier a b c OutOfMemory h k = tt
counted_earlier a b c StoreFault h k = rose_earlier a.store b.store c.store h.store k
counted_earlier a b c (Callback m) h k = rose_earlier a.operator b.operator c.operator h.operator k
counted_earlier a b c BlockTransformError h k = rose_earlier a.transformer b.transformer c.transformer h.transformer k
counted_earlier a b c _ h k = k

pub counted_later : (a b c : Counts) (e : SlateDBError) → IsLater b c → IsCounted a b e → IsCounted a c e
counted_later a b c OutOfMemory h k = tt
counted_later a b c StoreFault h k = let rose : Rose a.store b.store = k in omega (arith, h.store)
counted_later a b c (Callback m) h k = let rose : Rose a.operator b.operator = k in omega (arith, h.operator)
counted_later a b c BlockTransformError h k = let rose : Rose a.transformer b.transformer = k in omega (arith, h.transformer)
counted_later a b c _ h k = k

-- a refusal of a part, which began no earlier and refuses for no more causes, is one of the whole
pub blamed_earlier : (own more : SlateDBError → Type 0) (a b c : Counts) (e : SlateDBError) → (own e → more e) → IsLater a b → IsCounted b c e ⊎ own e → IsCounted a c e ⊎ more e
blamed_earlier own more a b c e w h (inl k) = inl (counted_earlier a b c e h k)
blamed_earlier own more a b c e w h (inr k) = inr (w k)
