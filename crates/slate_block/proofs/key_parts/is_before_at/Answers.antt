use Rattle.std.proofs.Common.{◌≡◌, ℕ, List, ◌+◌, ◌++◌, get_or, take, drop, length, ap, refl, ◌∙◌, sym}
use Rattle.std.specs.Prelude.{slice_range, ◌≤◌}
use Rattle.std.proofs.lemmas.Result.{IfOk-at_ok}
use Rattle.slate_types.specs.Iteration.{comes_before}
use Rattle.slate_block.specs.Walks.{next_place}
use Rattle.slate_block.proofs.PartLaws.{key_of_read, key_of_row, ok_read, turned_lt}
use Rattle.slate_block.proofs.key_parts.is_before_at.Goals as goal

pub returns-in-Ascending : goal.returns-in-Ascending
returns-in-Ascending c =
    let a = c.args in
    let k = c.in_ok-shared in
    let upto = c.place_behind-upto.result in
    let bytes = slice_range c.as_slice.result.now (get_or a.offsets.now a.index 0) upto in
    let text = ap (λ (l : List ℕ). slice_range l (get_or a.offsets.now a.index 0) upto) c.as_slice.ensures in
    let place : upto ≡ next_place (length a.body.now) (drop (a.index + 1) a.offsets.now) = c.place_behind-upto.ensures in
    let read = sym c.key_fields_v1.ensures.value ∙ ok_read c.key_fields_v1.result (k.shared, (k.suffix_at, k.suffix_end)) k.ensures.value in
    let before : c.is_lt.result ≡ comes_before a.order (take k.shared a.first.now ++ slice_range bytes k.suffix_at k.suffix_end) a.key.now = rw (c.is_lt.ensures, c.in-Ascending.is, c.cmp_parts-parts.ensures) refl in
    key_of_read a.order a.body.now a.first.now a.offsets.now bytes a.key.now a.index upto c.requires place text c.is_lt.result
    (λ entry len e. before ∙ key_of_row a.order a.first.now bytes a.key.now k.shared k.suffix_at k.suffix_end read entry len e)

pub returns-in-Descending : goal.returns-in-Descending
returns-in-Descending c =
    let a = c.args in
    let k = c.in_ok-shared in
    let upto = c.place_behind-upto.result in
    let bytes = slice_range c.as_slice.result.now (get_or a.offsets.now a.index 0) upto in
    let text = ap (λ (l : List ℕ). slice_range l (get_or a.offsets.now a.index 0) upto) c.as_slice.ensures in
    let place : upto ≡ next_place (length a.body.now) (drop (a.index + 1) a.offsets.now) = c.place_behind-upto.ensures in
    let read = sym c.key_fields_v1.ensures.value ∙ ok_read c.key_fields_v1.result (k.shared, (k.suffix_at, k.suffix_end)) k.ensures.value in
    let before : c.is_gt.result ≡ comes_before a.order (take k.shared a.first.now ++ slice_range bytes k.suffix_at k.suffix_end) a.key.now = rw (c.is_gt.ensures, c.in-Descending.is, c.cmp_parts-parts.ensures) (turned_lt (take k.shared a.first.now ++ slice_range bytes k.suffix_at k.suffix_end) a.key.now) in
    key_of_read a.order a.body.now a.first.now a.offsets.now bytes a.key.now a.index upto c.requires place text c.is_gt.result
    (λ entry len e. before ∙ key_of_row a.order a.first.now bytes a.key.now k.shared k.suffix_at k.suffix_end read entry len e)

pub place_behind-upto-requires : goal.place_behind-upto-requires
place_behind-upto-requires c = c.requires

pub slice_bounds-cmp_parts-count : goal.slice_bounds-cmp_parts-count
slice_bounds-cmp_parts-count c =
    let k = c.in_ok-shared in
    (IfOk-at_ok (λ (key : ℕ × (ℕ × ℕ)). (key.1.0 ≤ key.1.1) × (key.1.1 ≤ length (slice_range c.as_slice.result.now (get_or c.args.offsets.now c.args.index 0) c.place_behind-upto.result))) (ok_read c.key_fields_v1.result (k.shared, (k.suffix_at, k.suffix_end)) k.ensures.value) c.key_fields_v1.ensures.within).0

pub slice_bounds-cmp_parts-end-2 : goal.slice_bounds-cmp_parts-end-2
slice_bounds-cmp_parts-end-2 c =
    let k = c.in_ok-shared in
    (IfOk-at_ok (λ (key : ℕ × (ℕ × ℕ)). (key.1.0 ≤ key.1.1) × (key.1.1 ≤ length (slice_range c.as_slice.result.now (get_or c.args.offsets.now c.args.index 0) c.place_behind-upto.result))) (ok_read c.key_fields_v1.result (k.shared, (k.suffix_at, k.suffix_end)) k.ensures.value) c.key_fields_v1.ensures.within).1
