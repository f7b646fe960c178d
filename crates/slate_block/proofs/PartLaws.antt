-- Keys of rows of version 1 in their two parts.
use Rattle.std.proofs.Common.{◌≡◌, ℕ, zero, suc, ◌+◌, ◌<◌, Bool, List, [], ◌∷◌, ◌++◌, length, get_or, min, take, drop, Option, Some, Ok, ℤ, refl, sym, ap, ◌∙◌, arith, Ordering, Less, Equal, Greater, Result, Err}
use Rattle.std.specs.Result.{result_ok}
use Rattle.std.specs.Prelude.{slice_get, slice_range}
use Rattle.std.specs.Ordering.{is_lt, is_gt, ordering_then, ordering_reverse, nat_cmp}
use Rattle.slate_types.specs.declared.types.RowEntry.{RowEntry}
use Rattle.slate_types.specs.declared.iter.IterationOrder.{IterationOrder}
use Rattle.slate_types.specs.Iteration.{comes_before}
use Rattle.slate_types.specs.Keys.{key_cmp, key_lt}
use Rattle.slate_types.proofs.KeyOrder.{turned_key}
use Rattle.slate_block.specs.declared.row.SstRowEntry.{SstRowEntry}
use Rattle.slate_block.specs.declared.flags.RowFlags.{RowFlags}
use Rattle.slate_block.specs.declared.fields.RowFields.{RowFields}
use Rattle.slate_block.specs.BlockSpelling.{whole_key}
use Rattle.slate_block.specs.Damage.{◌>>=◌, head_layout, stamps_layout, value_layout, has, layout_v1, key_layout_v1}
use Rattle.slate_block.specs.RowReading.{row_v1_of, entry_of_v1}
use Rattle.slate_block.specs.Walks.{next_place, row_upto, reads_v1}
use Rattle.slate_block.proofs.FieldLaws.{bind_ok, ok_is}
use Rattle.slate_block.proofs.WalkLaws.{read_at}
use Rattle.slate_block.proofs.WalkedBlocks.{row_runs}
use Rattle.slate_types.proofs.RangeLaws.{reversed}

then_again : (o p q : Ordering) → ordering_then o (ordering_then p q) ≡ ordering_then (ordering_then o p) q
then_again Less p q = refl
then_again Equal p q = refl
then_again Greater p q = refl

pub parts_cmp : (a b k : List ℕ) (n : ℕ) → n ≡ min (length a) (length k) → ordering_then (key_cmp a (take n k)) (key_cmp b (drop n k)) ≡ key_cmp (a ++ b) k
parts_cmp [] b k zero e = refl
parts_cmp [] b k (suc n) e = absurd (omega (arith, e))
parts_cmp (x ∷ a) b [] zero e = refl
parts_cmp (x ∷ a) b [] (suc n) e = absurd (omega (arith, e))
parts_cmp (x ∷ a) b (y ∷ k) zero e = absurd (omega (arith, e))
parts_cmp (x ∷ a) b (y ∷ k) (suc n) e = sym (then_again (nat_cmp x y) (key_cmp a (take n k)) (key_cmp b (drop n k))) ∙ ap (ordering_then (nat_cmp x y)) (parts_cmp a b k n (omega (arith, e)))

pub turned_lt : (a b : List ℕ) → is_gt (key_cmp a b) ≡ key_lt b a
turned_lt a b = sym (ap is_lt (turned_key b a) ∙ reversed (key_cmp a b))

-- ---- the fields up to the suffix are those of the row

made : ℕ × (ℕ × ℕ) → (ℕ × RowFlags) × ℕ → (Option ℤ × Option ℤ) × ℕ → ℕ × ℕ → RowFields
made key head stamps value = record { suffix_at = key.1.0; suffix_end = key.1.1; value_at = value.0; value_end = value.1; seq = head.0.0; flags = head.0.1; expire_ts = stamps.0.0; create_ts = stamps.0.1; end = value.1 }

key_fields : ℕ × RowFields → ℕ × (ℕ × ℕ)
key_fields x = (x.0, (x.1.suffix_at, x.1.suffix_end))

fields_of_key : (bytes : List ℕ) (x : ℕ × RowFields) → layout_v1 bytes ≡ Ok x → key_layout_v1 bytes ≡ Ok (key_fields x)
unfolding layout_v1 made key_fields
fields_of_key bytes x e =
    let a = bind_ok (key_layout_v1 bytes) (λ key. head_layout bytes key.1.1 >>= λ head. stamps_layout head.0.1 bytes head.1 >>= λ stamps. value_layout (has 1 head.0.1) bytes stamps.1 >>= λ value. Ok (key.0, made key head stamps value)) x e in
    let b = bind_ok (head_layout bytes a.0.1.1) (λ head. stamps_layout head.0.1 bytes head.1 >>= λ stamps. value_layout (has 1 head.0.1) bytes stamps.1 >>= λ value. Ok (a.0.0, made a.0 head stamps value)) x a.2 in
    let c = bind_ok (stamps_layout b.0.0.1 bytes b.0.1) (λ stamps. value_layout (has 1 b.0.0.1) bytes stamps.1 >>= λ value. Ok (a.0.0, made a.0 b.0 stamps value)) x b.2 in
    let d = bind_ok (value_layout (has 1 b.0.0.1) bytes c.0.1) (λ value. Ok (a.0.0, made a.0 b.0 c.0 value)) x c.2 in
    let whole : ℕ × RowFields = (a.0.0, made a.0 b.0 c.0 d.0) in
    let same : whole ≡ x = ok_is whole x d.2 in
    a.1 ∙ (λ i. Ok (key_fields (same i)))

pub key_of_row : (order : IterationOrder) (first bytes key : List ℕ) (shared from upto : ℕ) → key_layout_v1 bytes ≡ Ok (shared, (from, upto)) → (row : SstRowEntry) (len : ℕ) → row_v1_of bytes ≡ Ok (row, len) →
    comes_before order (take shared first ++ slice_range bytes from upto) key ≡ comes_before order (whole_key row.key_prefix_len first row.key_suffix) key
unfolding row_v1_of key_fields
key_of_row order first bytes key shared from upto k row len e =
    let a = bind_ok (layout_v1 bytes) (λ x. Ok (entry_of_v1 bytes x.0 x.1, x.1.end)) (row, len) e in
    let entry : SstRowEntry = entry_of_v1 bytes a.0.0 a.0.1 in
    let found : SstRowEntry × ℕ = (entry, a.0.1.end) in
    let same : found ≡ (row, len) = ok_is found (row, len) a.2 in
    let fields : (shared, (from, upto)) ≡ key_fields a.0 = ok_is (shared, (from, upto)) (key_fields a.0) (sym k ∙ fields_of_key bytes a.0 a.1) in
    (λ i. comes_before order (take (fields i).0 first ++ slice_range bytes (fields i).1.0 (fields i).1.1) key)
    ∙ (λ i. comes_before order (whole_key (same i).0.key_prefix_len first (same i).0.key_suffix) key)

pub key_of_read : (order : IterationOrder) (body first ats bytes key : List ℕ) (index upto : ℕ) → index < length ats → upto ≡ next_place (length body) (drop (index + 1) ats) → bytes ≡ slice_range body (get_or ats index 0) upto → (before : Bool) →
    ((entry : SstRowEntry) (len : ℕ) → row_v1_of bytes ≡ Ok (entry, len) → before ≡ comes_before order (whole_key entry.key_prefix_len first entry.key_suffix) key) →
    (row : RowEntry) → slice_get (reads_v1 body first ats (length body)) index ≡ Some (Ok row) → before ≡ comes_before order row.key key
key_of_read order body first ats bytes key index upto lt place text before h row at =
    let p = next_place (length body) (drop (index + 1) ats) in
    let there = read_at body first ats (length body) index lt in
    let read : row_upto body first (get_or ats index 0) p ≡ Ok row = cc in
    let runs = row_runs body first (get_or ats index 0) p row read in
    let here : row_v1_of bytes ≡ Ok (runs.entry, runs.len) = ap row_v1_of (text ∙ ap (λ (n : ℕ). slice_range body (get_or ats index 0) n) place) ∙ runs.read in
    h runs.entry runs.len here ∙ ap (λ (r : RowEntry). comes_before order r.key key) runs.same

pub ok_read : {A E : Type 0} (r : Result A E) (x : A) → Some x ≡ result_ok r → r ≡ Ok x
ok_read (Ok y) x e = let same : y ≡ x = cc in ap Ok same
ok_read (Err d) x e = absurd cc
