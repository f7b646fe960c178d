use Rattle.std.proofs.Common.{◌≡◌, ◌∙◌, sym, Some, None, ◌⊎◌, inl, inr, List, ℕ, Result, Ok, Err, IfOk, IfErr}
use Rattle.std.specs.declared.ops.Bound.TheVariants.{Unbounded}
use Rattle.slate_types.specs.declared.bytes_range.BytesRange.{BytesRange}
use Rattle.slate_types.specs.declared.error.SlateDBError.{SlateDBError}
use Rattle.slate_types.specs.declared.error.SlateDBError.TheVariants.{InvalidRange, OutOfMemory}
use Rattle.slate_types.specs.Keys.{prefix_range, prefix_subrange}
use Rattle.slate_types.proofs.KeyLaws.{whole_is_not_refused, whole_subrange}
use Rattle.slate_types.proofs.bytes_range.BytesRange.from_prefix.Goals as goal

range : (p : List ℕ) (made : Result BytesRange SlateDBError) → IfOk made (λ r. prefix_subrange p Unbounded Unbounded ≡ Some r) → IfOk made (λ r. r ≡ prefix_range p)
range p (Ok r) h = let whole : Some r ≡ Some (prefix_range p) = sym h ∙ whole_subrange p in cc
range p (Err e) h = tt

pub returns-clause-range : goal.returns-clause-range
returns-clause-range c = range c.args.prefix.now c.from_prefix_and_subrange.result c.from_prefix_and_subrange.ensures.range

memory : (p : List ℕ) (made : Result BytesRange SlateDBError) → IfErr made (λ e. (e ≡ OutOfMemory) ⊎ ((e ≡ InvalidRange) × (prefix_subrange p Unbounded Unbounded ≡ None))) → IfErr made (λ e. e ≡ OutOfMemory)
memory p (Ok r) h = tt
memory p (Err e) (inl h) = h
memory p (Err e) (inr h) = absurd (whole_is_not_refused p h.1)

pub returns-clause-memory : goal.returns-clause-memory
returns-clause-memory c = memory c.args.prefix.now c.from_prefix_and_subrange.result c.from_prefix_and_subrange.ensures.refused
