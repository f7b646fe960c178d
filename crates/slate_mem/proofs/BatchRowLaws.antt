-- The rows of a batch: those of a key, and their order.
use Rattle.std.proofs.Common.{◌≡◌, ℕ, Bool, true, false, cond, List, [], ◌∷◌, ◌++◌, map, flat_map, filter, reverse, Option, Some, None, ℤ, bytes_eq, refl, sym, ap, subst, ◌∙◌, Less}
use Rattle.std.specs.Ordering.{is_lt, ordering_reverse}
use Rattle.std.specs.List.Sorted.{IsStrictlySortedBy}
use Rattle.std.specs.Map.{keys_of}
use Rattle.std.specs.BTreeMap.Range.{range_contains, entries_between}
use Rattle.std.specs.declared.ops.Bound.{Bound}
use Rattle.std.proofs.lemmas.List.Elements.{filter-append}
use Rattle.std.proofs.lemmas.List.Kept.{IsStrictlySortedBy-filter}
use Rattle.std.proofs.lemmas.Slice.Eq.{bytes_eq-Decides}
use Rattle.slate_types.specs.declared.types.RowEntry.{RowEntry}
use Rattle.slate_types.specs.declared.bytes_range.BytesRange.{BytesRange}
use Rattle.slate_types.specs.declared.iter.IterationOrder.TheVariants.{Ascending}
use Rattle.slate_types.specs.Keys.{key_cmp, key_lt, in_range, is_refused}
use Rattle.slate_types.specs.Iteration.{NoneBefore, IsInOrder}
use Rattle.slate_types.proofs.KeyOrder.{turned_key, lt_irreflexive}
use Rattle.slate_types.proofs.KeySetLaws.{AllAbove}
use Rattle.slate_types.proofs.RangeLaws.{refused_holds_none}
use Rattle.slate_mem.specs.declared.WriteOp.{WriteOp}
use Rattle.slate_mem.specs.declared.batch_iterator.Stamps.{Stamps}
use Rattle.slate_mem.specs.Batch.{Ops, kept}
use Rattle.slate_mem.specs.BatchRows.{batch_rows, stamped, newest_rows}
use Rattle.slate_mem.specs.Kept.{Entries, items_at, listed, AreKept}
use Rattle.slate_mem.specs.RowOf.{row_at}
use Rattle.slate_types.specs.Rows.{of_key}
use Rattle.std.proofs.lemmas.List.{append-nil}
use Rattle.slate_mem.proofs.KeptLaws.{none_at, kept_listed}
use Rattle.slate_types.proofs.KeyBounds.{range_contains_in_range}

-- ---- the rows of entries

-- `turn` puts a key's operations in order
abbrev rows_by : Stamps → (List WriteOp → List WriteOp) → Entries → List RowEntry
rows_by s turn es = flat_map (λ e. map (stamped s e.0) (turn e.1.items)) es

key_at : (k : List ℕ) (n : ℕ) (default_millis : Option ℕ) (moment : Option ℤ) (op : WriteOp) → (row_at k n default_millis moment op).key ≡ k
key_at k n default_millis None op = refl
key_at k n default_millis (Some now) op = refl

pub key_stamped : (s : Stamps) (k : List ℕ) (op : WriteOp) → (stamped s k op).key ≡ k
key_stamped s k op = key_at k s.seq s.default_ttl_millis s.create_ts op

-- rows that all have one key
of_key_one : (s : Stamps) (j k : List ℕ) (ops : List WriteOp) → of_key k (map (stamped s j) ops) ≡ cond (bytes_eq j k) (map (stamped s j) ops) []
of_key_one s j k [] = by (bytes_eq j k)
  where
    none : List RowEntry
    none = []

    by : (b : Bool) → none ≡ cond b none none
    by true = refl
    by false = refl
of_key_one s j k (o ∷ os) =
    ap (λ x. cond (bytes_eq x k) (stamped s j o ∷ of_key k rest) (of_key k rest)) (key_stamped s j o)
    ∙ by (bytes_eq j k) (of_key_one s j k os)
  where
    rest : List RowEntry
    rest = map (stamped s j) os

    by : (b : Bool) → of_key k rest ≡ cond b rest [] → cond b (stamped s j o ∷ of_key k rest) (of_key k rest) ≡ cond b (stamped s j o ∷ rest) []
    by true later = ap (λ rs. stamped s j o ∷ rs) later
    by false later = later

-- the rows of a key are those of what the entries have at it
of_key_rows : (s : Stamps) (turn : List WriteOp → List WriteOp) (es : Entries) (k : List ℕ) → turn [] ≡ [] → IsStrictlySortedBy key_cmp (keys_of es) →
    of_key k (rows_by s turn es) ≡ map (stamped s k) (turn (items_at es k))
unfolding IsStrictlySortedBy
of_key_rows s turn [] k none h = sym (ap (map (stamped s k)) none)
of_key_rows s turn (e ∷ es) k none h =
    filter-append (λ r. bytes_eq r.key k) (map (stamped s e.0) (turn e.1.items)) (rows_by s turn es)
    ∙ (λ i. of_key_one s e.0 k (turn e.1.items) i ++ of_key_rows s turn es k none h.1 i)
    ∙ by (bytes_eq e.0 k) refl
  where
    by : (b : Bool) → bytes_eq e.0 k ≡ b →
        cond b (map (stamped s e.0) (turn e.1.items)) [] ++ map (stamped s k) (turn (items_at es k)) ≡ map (stamped s k) (turn (cond b e.1.items (items_at es k)))
    by true is =
        let same : e.0 ≡ k = (bytes_eq-Decides e.0 k).0 is in
        let nothing : items_at es k ≡ [] = ap (items_at es) (sym same) ∙ none_at es e.0 h.0 in
        (λ i. map (stamped s (same i)) (turn e.1.items) ++ map (stamped s k) ((ap turn nothing ∙ none) i)) ∙ append-nil (map (stamped s k) (turn e.1.items))
    by false is = refl

none_among : (j : List ℕ) (s : Stamps) (k : List ℕ) (ops : List WriteOp) (rows : List RowEntry) → key_lt k j ≡ false → NoneBefore Ascending j rows →
    NoneBefore Ascending j (map (stamped s k) ops ++ rows)
none_among j s k [] rows e h = h
none_among j s k (o ∷ os) rows e h = (ap (λ x. key_lt x j) (key_stamped s k o) ∙ e, none_among j s k os rows e h)

above_not_below : (a b : List ℕ) → key_cmp a b ≡ Less → key_lt b a ≡ false
above_not_below a b e = ap is_lt (turned_key b a ∙ ap ordering_reverse e)

none_below : (k : List ℕ) (s : Stamps) (turn : List WriteOp → List WriteOp) (es : Entries) → AllAbove k (keys_of es) → NoneBefore Ascending k (rows_by s turn es)
none_below k s turn [] h = tt
none_below k s turn (e ∷ es) h = none_among k s e.0 (turn e.1.items) (rows_by s turn es) (above_not_below k e.0 h.0) (none_below k s turn es h.1)

itself : (k : List ℕ) → key_lt k k ≡ false
itself k = by (key_lt k k) refl
  where
    by : (b : Bool) → key_lt k k ≡ b → b ≡ false
    by true e = lt_irreflexive k e
    by false e = refl

-- rows of one key stand before rows of greater keys
in_front : (s : Stamps) (k : List ℕ) (ops : List WriteOp) (rows : List RowEntry) → NoneBefore Ascending k rows → IsInOrder Ascending rows → IsInOrder Ascending (map (stamped s k) ops ++ rows)
in_front s k [] rows n h = h
in_front s k (o ∷ os) rows n h =
    (subst (λ x. NoneBefore Ascending x (map (stamped s k) os ++ rows)) (sym (key_stamped s k o)) (none_among k s k os rows (itself k) n), in_front s k os rows n h)

rows_rise : (s : Stamps) (turn : List WriteOp → List WriteOp) (es : Entries) → IsStrictlySortedBy key_cmp (keys_of es) → IsInOrder Ascending (rows_by s turn es)
unfolding IsStrictlySortedBy
rows_rise s turn [] h = tt
rows_rise s turn (e ∷ es) h = in_front s e.0 (turn e.1.items) (rows_by s turn es) (none_below e.0 s turn es h.0) (rows_rise s turn es h.1)

-- ---- the entries of a range

keys_between : (start end : Bound (List ℕ)) (es : Entries) → keys_of (entries_between key_cmp start end es) ≡ filter (range_contains key_cmp start end) (keys_of es)
keys_between start end [] = refl
keys_between start end (e ∷ es) = by (range_contains key_cmp start end e.0) (keys_between start end es)
  where
    some : Entries
    some = entries_between key_cmp start end es

    by : (b : Bool) → keys_of some ≡ filter (range_contains key_cmp start end) (keys_of es) →
        keys_of (cond b (e ∷ some) some) ≡ cond b (e.0 ∷ filter (range_contains key_cmp start end) (keys_of es)) (filter (range_contains key_cmp start end) (keys_of es))
    by true later = ap (λ ks. e.0 ∷ ks) later
    by false later = later

between_rises : (start end : Bound (List ℕ)) (es : Entries) → IsStrictlySortedBy key_cmp (keys_of es) → IsStrictlySortedBy key_cmp (keys_of (entries_between key_cmp start end es))
between_rises start end es h =
    subst (IsStrictlySortedBy key_cmp) (sym (keys_between start end es)) (IsStrictlySortedBy-filter key_cmp (range_contains key_cmp start end) (keys_of es) h)

-- a key in the range has there what it has in all
at_between : (start end : Bound (List ℕ)) (es : Entries) (k : List ℕ) → items_at (entries_between key_cmp start end es) k ≡ cond (range_contains key_cmp start end k) (items_at es k) []
at_between start end [] k = by (range_contains key_cmp start end k)
  where
    none : List WriteOp
    none = []

    by : (b : Bool) → none ≡ cond b none none
    by true = refl
    by false = refl
at_between start end (e ∷ es) k = by (range_contains key_cmp start end e.0) refl (bytes_eq e.0 k) refl (at_between start end es k)
  where
    some : Entries
    some = entries_between key_cmp start end es

    within : List ℕ → Bool
    within x = range_contains key_cmp start end x

    by : (b : Bool) → range_contains key_cmp start end e.0 ≡ b → (c : Bool) → bytes_eq e.0 k ≡ c → items_at some k ≡ cond (range_contains key_cmp start end k) (items_at es k) [] →
        items_at (cond b (e ∷ some) some) k ≡ cond (range_contains key_cmp start end k) (cond c e.1.items (items_at es k)) []
    by true inside true is later =
        let same : e.0 ≡ k = (bytes_eq-Decides e.0 k).0 is in
        ap (λ c. cond c e.1.items (items_at some k)) is ∙ sym (ap (λ b. cond b e.1.items []) (ap (range_contains key_cmp start end) (sym same) ∙ inside))
    by true inside false is later = ap (λ c. cond c e.1.items (items_at some k)) is ∙ later
    by false outside true is later =
        let same : e.0 ≡ k = (bytes_eq-Decides e.0 k).0 is in
        let none : range_contains key_cmp start end k ≡ false = ap (range_contains key_cmp start end) (sym same) ∙ outside in
        later ∙ (λ i. cond (none i) (items_at es k) []) ∙ sym (ap (λ b. cond b e.1.items []) none)
    by false outside false is later = later

-- ---- the rows of a range

rows_between : (range : BytesRange) (s : Stamps) (turn : List WriteOp → List WriteOp) (es : Entries) (k : List ℕ) → turn [] ≡ [] → IsStrictlySortedBy key_cmp (keys_of es) → AreKept es →
    of_key k (rows_by s turn (entries_between key_cmp range.start range.end es)) ≡ map (stamped s k) (turn (cond (in_range range k) (kept (listed es) k) []))
rows_between range s turn es k none rising whole =
    of_key_rows s turn (entries_between key_cmp range.start range.end es) k none (between_rises range.start range.end es rising)
    ∙ ap (λ ops. map (stamped s k) (turn ops))
    (at_between range.start range.end es k ∙ (λ i. cond (range_contains_in_range range k i) (sym (kept_listed es k rising whole) i) []))

newest_first : (s : Stamps) (k : List ℕ) (ops : List WriteOp) (b : Bool) → map (stamped s k) (reverse (cond b ops [])) ≡ cond b (map (stamped s k) (reverse ops)) []
newest_first s k ops true = refl
newest_first s k ops false = refl

pub newest_between : (range : BytesRange) (s : Stamps) (es : Entries) (ops : Ops) → IsStrictlySortedBy key_cmp (keys_of es) → AreKept es → listed es ≡ ops → (k : List ℕ) →
    of_key k (newest_rows s (entries_between key_cmp range.start range.end es)) ≡ batch_rows range s.seq s.default_ttl_millis s.create_ts ops k
newest_between range s es ops rising whole is k =
    rows_between range s reverse es k refl rising whole
    ∙ newest_first s k (kept (listed es) k) (in_range range k)
    ∙ ap (λ os. batch_rows range s.seq s.default_ttl_millis s.create_ts os k) is

pub newest_rise : (start end : Bound (List ℕ)) (s : Stamps) (es : Entries) → IsStrictlySortedBy key_cmp (keys_of es) → IsInOrder Ascending (newest_rows s (entries_between key_cmp start end es))
newest_rise start end s es rising = rows_rise s reverse (entries_between key_cmp start end es) (between_rises start end es rising)

pub no_batch_rows : (range : BytesRange) (n : ℕ) (default_millis : Option ℕ) (moment : Option ℤ) (ops : Ops) (k : List ℕ) → is_refused range.start range.end ≡ true →
    batch_rows range n default_millis moment ops k ≡ []
no_batch_rows range n default_millis moment ops k h =
    ap (λ b. cond b (map (row_at k n default_millis moment) (reverse (kept ops k))) []) (refused_holds_none range.start range.end k h)
