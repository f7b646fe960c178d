use Rattle.std.proofs.Common.{◌≡◌, ◌∙◌, sym, [], Some, None, ◌⊎◌, inl, inr, List, ℕ, Result, Ok, Err, IfOk, IfErr}
use Rattle.std.specs.Prelude.{IsTrue}
use Rattle.std.specs.declared.ops.Bound.{Bound}
use Rattle.slate_types.specs.declared.bytes_range.BytesRange.{BytesRange}
use Rattle.slate_types.specs.declared.error.SlateDBError.{SlateDBError}
use Rattle.slate_types.specs.declared.error.SlateDBError.TheVariants.{InvalidRange, OutOfMemory}
use Rattle.slate_types.specs.Keys.{bound_now, is_refused, prefix_subrange, range_of}
use Rattle.slate_types.proofs.KeyLaws.{behind_nothing, refused_behind_nothing}
use Rattle.slate_types.proofs.bytes_range.BytesRange.from_slice.Goals as goal

range : (start end : Bound (List ℕ)) (made : Result BytesRange SlateDBError) → IfOk made (λ r. prefix_subrange [] start end ≡ Some r) → IfOk made (λ r. range_of start end ≡ Some r)
range start end (Ok r) h = sym (behind_nothing start end) ∙ h
range start end (Err e) h = tt

pub returns-clause-range : goal.returns-clause-range
returns-clause-range c = range (bound_now c.args.start) (bound_now c.args.end) c.from_prefix_and_subrange.result c.from_prefix_and_subrange.ensures.range

refused : (start end : Bound (List ℕ)) (made : Result BytesRange SlateDBError) → IfErr made (λ e. (e ≡ OutOfMemory) ⊎ ((e ≡ InvalidRange) × (prefix_subrange [] start end ≡ None))) → IfErr made (λ e. (e ≡ OutOfMemory) ⊎ ((e ≡ InvalidRange) × IsTrue (is_refused start end)))
refused start end (Ok r) h = tt
refused start end (Err e) (inl memory) = inl memory
refused start end (Err e) (inr h) = inr (h.0, refused_behind_nothing start end h.1)

pub returns-clause-refused : goal.returns-clause-refused
returns-clause-refused c = refused (bound_now c.args.start) (bound_now c.args.end) c.from_prefix_and_subrange.result c.from_prefix_and_subrange.ensures.refused
