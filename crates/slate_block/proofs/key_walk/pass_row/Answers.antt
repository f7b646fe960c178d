use Rattle.std.proofs.Common.{◌≡◌, ◌+◌, ◌++◌, take, refl, sym, ◌∙◌}
use Rattle.std.specs.Prelude.{slice_range}
use Rattle.slate_types.specs.declared.iter.IterationOrder.TheVariants.{Ascending}
use Rattle.slate_types.specs.Iteration.{comes_before}
use Rattle.slate_block.specs.PlacedRows.{whole_of}
use Rattle.slate_block.proofs.KeySteps.{row_goes, row_stays}
use Rattle.slate_block.proofs.key_walk.pass_row.Goals as goal

pub returns-then-not-is_lt-clause-goes : goal.returns-then-not-is_lt-clause-goes
returns-then-not-is_lt-clause-goes c =
    let a = c.args in
    let k = c.in_ok-shared in
    let other = a.previous.now.items in
    let bytes = slice_range a.body.now a.from a.upto in
    let found = rw c.deref.ensures.value at k.ensures.found in
    let lt : c.is_lt.result ≡ comes_before Ascending (take k.shared other ++ slice_range bytes k.fields.suffix_at k.fields.suffix_end) a.key.now = rw (c.is_lt.ensures, c.cmp_parts.ensures, c.as_slice.ensures, c.deref-2.ensures.value) refl in
    row_stays a.body.now other a.from a.upto a.key.now (whole_of bytes other k.shared k.fields) (a.from + k.fields.end) found (sym lt ∙ c.if-not-is_lt.true)

pub returns-clause-goes : goal.returns-clause-goes
returns-clause-goes c =
    let a = c.args in
    let k = c.in_ok-shared in
    let other = a.previous.now.items in
    let bytes = slice_range a.body.now a.from a.upto in
    let found = rw c.deref.ensures.value at k.ensures.found in
    let lt : c.is_lt.result ≡ comes_before Ascending (take k.shared other ++ slice_range bytes k.fields.suffix_at k.fields.suffix_end) a.key.now = rw (c.is_lt.ensures, c.cmp_parts.ensures, c.as_slice.ensures, c.deref-2.ensures.value) refl in
    let same = c.in_ok-extend_from_slice.ensures.items ∙ (λ i. c.truncate.ensures.items i ++ slice_range (slice_range (c.as_slice.ensures i) a.from a.upto) k.fields.suffix_at k.fields.suffix_end) in
    row_goes a.body.now other a.from a.upto a.key.now c.extend_from_slice.new.self.items (whole_of bytes other k.shared k.fields) (a.from + k.fields.end) found same (sym lt ∙ c.if-not-is_lt.false)
