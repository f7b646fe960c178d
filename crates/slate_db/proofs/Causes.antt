-- What a get refuses for.
use Rattle.std.proofs.Common.{◌≡◌, ℕ, Bool, true, false, ◌⊎◌, inl, inr, sym, subst, ◌∙◌}
use Rattle.slate_types.specs.declared.error.SlateDBError.{SlateDBError}
use Rattle.slate_types.specs.declared.error.SlateDBError.TheVariants.{Callback, MergeOperatorMissing, OutOfMemory}
use Rattle.slate_types.specs.Outside.{Counts, IsLater, IsCounted}
use Rattle.slate_types.proofs.OutsideLaws.{counted_earlier}
use Rattle.slate_table.specs.Reading.{IsStoreFault}
use Rattle.slate_table.specs.SectionReading.{IsTransformFault}
use Rattle.slate_mem.specs.Lookup.{IsCallback}

-- ---- of a table

pub store_fault : (a b : Counts) (e : SlateDBError) → IsStoreFault a.store b.store e → IsCounted a b e
store_fault a b e (inl m) = subst (IsCounted a b) (sym m) tt
store_fault a b e (inr f) = subst (IsCounted a b) (sym f.0) f.1

pub transform_fault : (a b : Counts) (e : SlateDBError) → IsTransformFault a.transformer b.transformer e → IsCounted a b e
transform_fault a b e (inl m) = subst (IsCounted a b) (sym m) tt
transform_fault a b e (inr f) = subst (IsCounted a b) (sym f.0) f.1

pub read_fault : (a b : Counts) (e : SlateDBError) → IsStoreFault a.store b.store e ⊎ IsTransformFault a.transformer b.transformer e → IsCounted a b e
read_fault a b e (inl f) = store_fault a b e f
read_fault a b e (inr f) = transform_fault a b e f

-- ---- of a fold

pub callback_fault : (a b : Counts) (e : SlateDBError) → IsCallback a.operator b.operator e → IsCounted a b e
callback_fault a b (Callback message) h = h
callback_fault a b e h = absurd h

-- where, without an operator, no row is a merge
pub fold_fault : {N : Type 0} (a b c : Counts) (merges : Bool) (e : SlateDBError) → IsLater a b → (N → merges ≡ false) → (e ≡ OutOfMemory) ⊎ ((e ≡ MergeOperatorMissing) × N × (merges ≡ true)) ⊎ IsCallback b.operator c.operator e → IsCounted a c e
fold_fault a b c merges e h none (inl m) = subst (IsCounted a c) (sym m) tt
fold_fault a b c merges e h none (inr (inl f)) = let clash : true ≡ false = sym f.2 ∙ none f.1 in cc
fold_fault a b c merges e h none (inr (inr k)) = counted_earlier a b c e h (callback_fault b c e k)
