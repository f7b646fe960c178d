-- The lengths of all keys, and those of all values, have sums below 2 ^ 64: a table has few blocks, and each block few bytes.
use Rattle.std.proofs.Common.{◌≡◌, ℕ, ◌+◌, ◌-◌, ◌*◌, ◌^◌, ◌<◌, ◌≤◌, Bool, true, false, cond, ◌==◌, List, [], ◌∷◌, ◌++◌, length, fold, flat_map, refl, sym, ap, subst, ◌∙◌, arith}
use Rattle.std.specs.Prelude.{sum_by, nat_le}
use Rattle.std.specs.List.{AllByRecursion}
use Rattle.std.proofs.lemmas.Bool.Decides.{nat_tests}
use Rattle.std.proofs.lemmas.List.{length-append}
use Rattle.std.proofs.lemmas.List.Sums.{sum_by-append, sum_by-cons}
use Rattle.slate_types.specs.declared.types.RowEntry.{RowEntry}
use Rattle.slate_types.specs.declared.types.ValueDeletable.{ValueDeletable}
use Rattle.slate_types.specs.declared.types.ValueDeletable.TheVariants.{Value, Merge, Tombstone}
use Rattle.slate_types.specs.Rows.{operand, bytes_of}
use Rattle.slate_block.specs.RowSpelling.{be16, be32, v1_bytes, v1_value, v2_bytes, meta_bytes}
use Rattle.slate_block.specs.Varint.{varint}
use Rattle.slate_block.specs.BlockSpelling.{entry_v1, entry_v2, shared_with, longest, spelled, spelled_v1, spelled_v2}
use Rattle.slate_block.specs.Building.{CanTake}
use Rattle.slate_block.specs.Fitting.{offsets_counted, size_with, fits_in}
use Rattle.slate_block.proofs.RowMore.{bytes_each}
use Rattle.slate_table.specs.declared.table_parts.TableParts.{TableParts}
use Rattle.slate_table.specs.TableBuilding.{Cutting, cut_more, cutting}
use Rattle.slate_table.specs.TableParts.{version_of, cut_parts, HasSums, Stands}
use Rattle.slate_table.proofs.Cuttings.{cutting_rows}
use Rattle.slate_table.proofs.PartsLaws.{few_ended}
use Rattle.slate_types.proofs.Lists.{AllByRecursion_push}

abbrev key_len : RowEntry → ℕ
key_len r = length r.key

abbrev value_len : RowEntry → ℕ
value_len r = length (operand r)

-- ---- the values of rows stand in the bytes of their block

value_v1 : (v : ValueDeletable) → length (bytes_of v) ≤ length (v1_value v)
value_v1 (Value v) = omega (arith, length-append (be32 (length v)) v)
value_v1 (Merge v) = omega (arith, length-append (be32 (length v)) v)
value_v1 Tombstone = omega arith

row_v1 : (n : ℕ) (r : RowEntry) → value_len r ≤ length (v1_bytes (entry_v1 n r))
row_v1 n r =
    let e = entry_v1 n r in
    let front = be16 e.key_prefix_len ++ be16 (length e.key_suffix) ++ e.key_suffix ++ meta_bytes e.seq e.value e.expire_ts e.create_ts in
    let parts : length (v1_bytes e) ≡ length front + length (v1_value r.value) = length-append front (v1_value r.value) in
    let value : value_len r ≤ length (v1_value r.value) = value_v1 r.value in
    omega (arith, parts, value)

row_v2 : (n : ℕ) (r : RowEntry) → value_len r ≤ length (v2_bytes (entry_v2 n r))
row_v2 n r =
    let e = entry_v2 n r in
    let front = varint e.shared_bytes ++ varint (length e.key_suffix) ++ varint (length (bytes_of e.value)) ++ e.key_suffix in
    let meta = meta_bytes e.seq e.value e.expire_ts e.create_ts in
    let parts : length (v2_bytes e) ≡ length (front ++ operand r) + length meta = length-append (front ++ operand r) meta in
    let some : length (front ++ operand r) ≡ length front + value_len r = length-append front (operand r) in
    omega (arith, parts, some)

-- a row's bytes before those of the others
one_before : (r : RowEntry) (rs : List RowEntry) (b later : List ℕ) → value_len r ≤ length b → sum_by value_len rs ≤ length later → sum_by value_len (r ∷ rs) ≤ length (b ++ later)
one_before r rs b later one rest = omega (arith, one, rest, sum_by-cons value_len r rs, length-append b later)

values_v1 : (first : List ℕ) (rs : List RowEntry) → sum_by value_len rs ≤ length (flat_map (λ b. b) (spelled_v1 first rs))
values_v1 first [] = omega arith
values_v1 first (r ∷ rs) =
    one_before r rs (v1_bytes (entry_v1 (longest first r.key) r)) (flat_map (λ b. b) (spelled_v1 first rs)) (row_v1 (longest first r.key) r) (values_v1 first rs)

values_v2 : (i : ℕ) (previous : List ℕ) (rs : List RowEntry) → sum_by value_len rs ≤ length (flat_map (λ b. b) (spelled_v2 i previous rs))
values_v2 i previous [] = omega arith
values_v2 i previous (r ∷ rs) =
    let n = longest (shared_with i previous) r.key in
    one_before r rs (v2_bytes (entry_v2 n r)) (flat_map (λ b. b) (spelled_v2 (i + 1) r.key rs)) (row_v2 n r) (values_v2 (i + 1) r.key rs)

values_each : (version : ℕ) (rows : List RowEntry) → sum_by value_len rows ≤ length (flat_map (λ b. b) (spelled version rows))
values_each version [] = omega arith
values_each version (r ∷ rs) = by (version == 1)
  where
    by : (t : Bool) → sum_by value_len (r ∷ rs) ≤ length (flat_map (λ b. b) (cond t (v1_bytes (entry_v1 0 r) ∷ spelled_v1 r.key rs) (spelled_v2 0 [] (r ∷ rs))))
    by true = one_before r rs (v1_bytes (entry_v1 0 r)) (flat_map (λ b. b) (spelled_v1 r.key rs)) (row_v1 0 r) (values_v1 r.key rs)
    by false = values_v2 0 [] (r ∷ rs)

keys_each : (rows : List RowEntry) → AllByRecursion CanTake rows → sum_by key_len rows ≤ 65535 * length rows
keys_each [] h = omega arith
keys_each (r ∷ rs) h =
    let one : length r.key < 2 ^ 16 = h.0.0 in
    let rest : sum_by key_len rs ≤ 65535 * length rs = keys_each rs h.1 in
    let sum : sum_by key_len (r ∷ rs) ≡ length r.key + sum_by key_len rs = sum_by-cons key_len r rs in
    let count : length (r ∷ rs) ≡ length rs + 1 = omega arith in
    omega (arith, one, rest, sum, count)

-- ---- a block holds little

abbrev IsSmall : List RowEntry → Type 0
IsSmall rows = (sum_by key_len rows ≤ 2 ^ 32 - 1) × (sum_by value_len rows ≤ 2 ^ 32 - 1)

small_one : (r : RowEntry) → CanTake r → IsSmall (r ∷ [])
small_one r h =
    let key : length r.key < 2 ^ 16 = h.0 in
    let value : length (operand r) < 2 ^ 32 = h.1 in
    let keys : sum_by key_len (r ∷ []) ≡ length r.key + 0 = sum_by-cons key_len r [] in
    let values : sum_by value_len (r ∷ []) ≡ length (operand r) + 0 = sum_by-cons value_len r [] in
    (omega (arith, key, keys), omega (arith, value, values))

le_of : (a b : ℕ) → nat_le a b ≡ true → a ≤ b
le_of a b h = grind (arith, nat_tests)

in_size : (a b : ℕ) → b ≤ 2 + 2 * a + b
in_size a b = omega arith

small_more : (size version : ℕ) (rows : List RowEntry) (r : RowEntry) → size ≤ 65535 → AllByRecursion CanTake rows → CanTake r → fits_in size version rows r ≡ true → IsSmall (rows ++ r ∷ [])
small_more size version [] r few each can fits = small_one r can
small_more size version (q ∷ qs) r few each can fits =
    let within : size_with version (q ∷ qs) r ≤ size = le_of (size_with version (q ∷ qs) r) size fits in
    let bytes : length (flat_map (λ b. b) (spelled version ((q ∷ qs) ++ r ∷ []))) ≤ size_with version (q ∷ qs) r =
    in_size (offsets_counted version (q ∷ qs) r) (length (flat_map (λ b. b) (spelled version ((q ∷ qs) ++ r ∷ [])))) in
    let keys = keys_each ((q ∷ qs) ++ r ∷ []) (AllByRecursion_push CanTake (q ∷ qs) r each can) in
    let count = bytes_each version ((q ∷ qs) ++ r ∷ []) in
    let values = values_each version ((q ∷ qs) ++ r ∷ []) in
    few_in (length ((q ∷ qs) ++ r ∷ [])) (size_with version (q ∷ qs) r) (length (flat_map (λ b. b) (spelled version ((q ∷ qs) ++ r ∷ [])))) (sum_by key_len ((q ∷ qs) ++ r ∷ [])) (sum_by value_len ((q ∷ qs) ++ r ∷ []))
    few within bytes keys count values
  where
    few_in : (all space bytes keys values : ℕ) → size ≤ 65535 → space ≤ size → bytes ≤ space → keys ≤ 65535 * all → all ≤ bytes → values ≤ bytes → (keys ≤ 2 ^ 32 - 1) × (values ≤ 2 ^ 32 - 1)
    few_in all space bytes keys values few a b c d e = (omega arith, omega arith)

-- ---- and so does each block of a cutting

record AreSmall (c : Cutting) : Type 0 where
  pub ended : AllByRecursion IsSmall c.ended
  pub filling : IsSmall c.filling
  pub lengths : AllByRecursion CanTake c.filling

more_small : (size version : ℕ) (c : Cutting) (r : RowEntry) → size ≤ 65535 → AreSmall c → CanTake r → AreSmall (cut_more size version c r)
more_small size version c r few h can = by (fits_in size version c.filling r) refl
  where
    by : (t : Bool) → fits_in size version c.filling r ≡ t → AreSmall (cond {A = Cutting} t (record { ended = c.ended; filling = c.filling ++ r ∷ [] }) (record { ended = c.ended ++ c.filling ∷ []; filling = r ∷ [] }))
    by true fits = record { ended = h.ended; filling = small_more size version c.filling r few h.lengths can fits; lengths = AllByRecursion_push CanTake c.filling r h.lengths can }
    by false fits = record { ended = AllByRecursion_push IsSmall c.ended c.filling h.ended h.filling; filling = small_one r can; lengths = (can, tt) }

fold_small : (size version : ℕ) (c : Cutting) (rows : List RowEntry) → size ≤ 65535 → AreSmall c → AllByRecursion CanTake rows → AreSmall (fold (cut_more size version) c rows)
fold_small size version c [] few h each = h
fold_small size version c (r ∷ rows) few h each = fold_small size version (cut_more size version c r) rows few (more_small size version c r few h each.0) each.1

cutting_small : (size version : ℕ) (rows : List RowEntry) → size ≤ 65535 → AllByRecursion CanTake rows → AreSmall (cutting size version rows)
unfolding cutting
cutting_small size version rows few each =
    fold_small size version (record { ended = []; filling = [] }) rows few (record { ended = tt; filling = (omega arith, omega arith); lengths = tt }) each

sum_of_blocks : (f : RowEntry → ℕ) (bs : List (List RowEntry)) → AllByRecursion (λ b. sum_by f b ≤ 2 ^ 32 - 1) bs → sum_by f (flat_map (λ b. b) bs) ≤ (2 ^ 32 - 1) * length bs
sum_of_blocks f [] h = omega arith
sum_of_blocks f (b ∷ bs) h =
    let one : sum_by f b ≤ 2 ^ 32 - 1 = h.0 in
    let rest : sum_by f (flat_map (λ x. x) bs) ≤ (2 ^ 32 - 1) * length bs = sum_of_blocks f bs h.1 in
    let both : sum_by f (b ++ flat_map (λ x. x) bs) ≡ sum_by f b + sum_by f (flat_map (λ x. x) bs) = sum_by-append f b (flat_map (λ x. x) bs) in
    let count : length (b ∷ bs) ≡ length bs + 1 = omega arith in
    omega (arith, one, rest, both, count)

keys_of : (bs : List (List RowEntry)) → AllByRecursion IsSmall bs → AllByRecursion (λ b. sum_by key_len b ≤ 2 ^ 32 - 1) bs
keys_of [] h = tt
keys_of (b ∷ bs) h = (h.0.0, keys_of bs h.1)

values_of : (bs : List (List RowEntry)) → AllByRecursion IsSmall bs → AllByRecursion (λ b. sum_by value_len b ≤ 2 ^ 32 - 1) bs
values_of [] h = tt
values_of (b ∷ bs) h = (h.0.1, values_of bs h.1)

few_bytes : (f : RowEntry → ℕ) (c : Cutting) (rows : List RowEntry) (sum n : ℕ) → AllByRecursion (λ b. sum_by f b ≤ 2 ^ 32 - 1) c.ended → sum_by f c.filling ≤ 2 ^ 32 - 1 → length c.ended + 1 < 2 ^ 32 →
    flat_map (λ b. b) c.ended ++ c.filling ≡ rows → sum ≡ sum_by f rows → n < 2 ^ 32 → sum + n < 2 ^ 64
few_bytes f c rows sum n ended filling few are is small =
    let blocks : sum_by f (flat_map (λ b. b) c.ended) ≤ (2 ^ 32 - 1) * length c.ended = sum_of_blocks f c.ended ended in
    let both : sum_by f (flat_map (λ b. b) c.ended ++ c.filling) ≡ sum_by f (flat_map (λ b. b) c.ended) + sum_by f c.filling = sum_by-append f (flat_map (λ b. b) c.ended) c.filling in
    let all : sum ≡ sum_by f (flat_map (λ b. b) c.ended ++ c.filling) = is ∙ ap (λ (l : List RowEntry). sum_by f l) (sym are) in
    omega (arith, blocks, both, all, filling, few, small)

pub has_sums : (p : TableParts) (r : RowEntry) → Stands p → CanTake r → HasSums p r
has_sums p r s can =
    let c = cut_parts p in
    let small : AreSmall c = cutting_small p.block_size (version_of p.format) p.rows.items s.few s.lengths in
    let few = few_ended p p.rows.items refl s in
    let rows = cutting_rows p.block_size (version_of p.format) p.rows.items in
    let key : length r.key < 2 ^ 16 = can.0 in
    record {
      keys = few_bytes key_len c p.rows.items p.raw_key_size (length r.key) (keys_of c.ended small.ended) small.filling.0 few rows s.keys (omega (arith, key));
      values = few_bytes value_len c p.rows.items p.raw_val_size (length (operand r)) (values_of c.ended small.ended) small.filling.1 few rows s.values can.1;
    }
