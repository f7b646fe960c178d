use Rattle.std.proofs.Common.{◌≡◌, true, Option, Some, None, ℤ, refl}
use Rattle.slate_types.specs.declared.types.ValueDeletable.{ValueDeletable}
use Rattle.slate_types.specs.declared.types.ValueDeletable.TheVariants.{Value, Merge, Tombstone}
use Rattle.slate_block.specs.RowSpelling.{flags, are_flags}
use Rattle.slate_block.proofs.laws.flags_are_known.Goals as goal

known : (value : ValueDeletable) (expire create : Option ℤ) → are_flags (flags value expire create) ≡ true
known (Value v) None None = refl
known (Value v) None (Some y) = refl
known (Value v) (Some x) None = refl
known (Value v) (Some x) (Some y) = refl
known (Merge v) None None = refl
known (Merge v) None (Some y) = refl
known (Merge v) (Some x) None = refl
known (Merge v) (Some x) (Some y) = refl
known Tombstone None None = refl
known Tombstone None (Some y) = refl
known Tombstone (Some x) None = refl
known Tombstone (Some x) (Some y) = refl

pub returns : goal.returns
returns c = known
