-- Over a store that holds a table no check finds a flaw of it.
use Rattle.std.proofs.Common.{◌≡◌, ◌⊎◌, inl, inr, ℕ, zero, suc, ◌+◌, ◌-◌, ◌*◌, ◌^◌, ◌<◌, ◌≤◌, Bool, true, false, cond, eqb, List, [], ◌∷◌, ◌++◌, length, take, drop, map, refl, sym, ap, ◌∙◌, subst, arith, length-append}
use Rattle.std.specs.Prelude.{IsTrue, ℤ, Option, Some, None, flat_map, slice_get, sum_by, count_by}
use Rattle.std.specs.Int.{w32, to_be_bytes}
use Rattle.std.specs.List.{AllByRecursion}
use Rattle.std.proofs.lemmas.List.{length-map, map-append, take-append-drop, take_all}
use Rattle.std.proofs.lemmas.List.Sums.{count_by-le-length, sum_by-append}
use Rattle.std.proofs.lemmas.Grind.{flat_map-append}
use Rattle.slate_types.specs.declared.error.SlateDBError.{SlateDBError}
use Rattle.slate_types.specs.declared.types.RowEntry.{RowEntry}
use Rattle.slate_types.specs.declared.types.ValueDeletable.{ValueDeletable}
use Rattle.slate_types.specs.Lawful.{IsLawfulTransform}
use Rattle.slate_types.specs.Outside.{Act, Objects}
use Rattle.slate_types.specs.Rows.{is_operand, is_put, is_tombstone, operand, row_lt}
use Rattle.slate_block.specs.BlockSpelling.{FitsBlock, as_read}
use Rattle.slate_block.specs.ReadingLaws.{EachIsAByte}
use Rattle.slate_block.specs.RowSpelling.{be32, read_expiry}
use Rattle.slate_table.specs.declared.info.SsTableHandle.{SsTableHandle}
use Rattle.slate_table.specs.Checksum.{crc32}
use Rattle.slate_table.specs.Decoded.{Counts, FitCounts, Info, Stats}
use Rattle.slate_table.specs.FileLaws.{HoldsTable, paired, row_counts, table_entries, table_info, table_stats}
use Rattle.slate_table.specs.FileReading.{AreRowsRead, ReadsRows, RefusesReadRows, RefusesRows}
use Rattle.slate_table.specs.InfoReading.{seen_info}
use Rattle.slate_table.specs.Opening.{IsOpened}
use Rattle.slate_table.specs.Parts.{Encode, cover_of, filters_kind, index_kind, last_key, section, separators, stats_bytes, stats_kind, summed}
use Rattle.slate_table.specs.Paths.{path_of}
use Rattle.slate_table.specs.Reading.{IsIndexRead, IsStatsRead, Reads, RefusesFilters, RefusesIndex, RefusesStats, section_read}
use Rattle.slate_table.specs.Table.{AreInOrder, block_sections, some_first, some_last, stats_start}
use Rattle.slate_table.proofs.HeldParts.{filters_found, index_found, index_held, rows_found, rows_held, stats_found, stats_held}
use Rattle.slate_table.proofs.IndexLaws.{places_count, separators_count}
use Rattle.slate_table.proofs.IndexOrder.{paired_count}
use Rattle.slate_table.proofs.OpenLaws.{not_refused, opened}
use Rattle.slate_table.proofs.Sections.{sections_count}
use Rattle.slate_block.specs.BlockSpelling.{block_bytes, places}
use Rattle.slate_tables.specs.declared.check.Flaw.{Flaw}
use Rattle.slate_tables.specs.declared.check.Part.{Part}
use Rattle.slate_tables.specs.declared.check.Part.TheVariants as parts
use Rattle.slate_tables.specs.Alarms.{NoFalseAlarm}
use Rattle.slate_tables.specs.Checks.{HasBadRows, HasBlocks, HasOtherKeys, HasOtherStats, IsFlawed, IsFlawedIn, IsRead}
use Rattle.slate_tables.specs.Finds.{Asked, FindsEntries, FindsRowsOf, FindsStats, OpensTo, RefusesFiltersOf, RefusesIndexOf, RefusesRowsOf, RefusesStatsOf}
use Rattle.slate_tables.specs.Good.{AreGood, FitsStats, rows_of}
use Rattle.slate_tables.proofs.TallyLaws.{front_in_order}

-- ---- the table that is there

record Known (encode : Encode) (w : Asked) (h : SsTableHandle) (blocks : List (List RowEntry)) (filters : List (List ℕ × List ℕ)) : Type 0 where
  lawful : IsLawfulTransform encode w.begun.meaning.decode
  holds : HoldsTable encode w.begun.objects (path_of w.root h.id.0) h.format_version h.id.0 blocks filters
  bytes : EachIsAByte holds.bytes
  info : seen_info h.info ≡ table_info encode h.format_version h.id.0 blocks filters

known : (encode : Encode) (w : Asked) (h : SsTableHandle) (id version : ℕ) (blocks : List (List RowEntry)) (filters : List (List ℕ × List ℕ)) → IsLawfulTransform encode w.begun.meaning.decode →
    (holds : HoldsTable encode w.begun.objects (path_of w.root id) version id blocks filters) → EachIsAByte holds.bytes → h.id.0 ≡ id → OpensTo w h → Known encode w h blocks filters
known encode w h id version blocks filters lawful holds bytes named o =
    let here : HoldsTable encode w.begun.objects (path_of w.root h.id.0) version h.id.0 blocks filters = subst (λ (n : ℕ). HoldsTable encode w.begun.objects (path_of w.root n) version n blocks filters) (sym named) holds in
    let found = opened encode w.begun.objects o.0 o.1 (path_of w.root h.id.0) version h.format_version h.id.0 blocks filters (seen_info h.info) here o.3 in
    let P : ℕ → Type 0 = λ n. (k : HoldsTable encode w.begun.objects (path_of w.root n) version n blocks filters) × EachIsAByte k.bytes in
    let Q : ℕ → Type 0 = λ v. (k : HoldsTable encode w.begun.objects (path_of w.root h.id.0) v h.id.0 blocks filters) × EachIsAByte k.bytes in
    let both = subst Q (sym found.0) (subst P (sym named) (holds, bytes)) in
    record {
      lawful = lawful;
      holds = both.0;
      bytes = both.1;
      info = found.1 ∙ ap (λ (v : ℕ). table_info encode v h.id.0 blocks filters) (sym found.0);
    }

-- ---- parts that are refused

stats_alarm : (encode : Encode) (w : Asked) (h : SsTableHandle) (blocks : List (List RowEntry)) (filters : List (List ℕ × List ℕ)) (e : SlateDBError) → Known encode w h blocks filters → RefusesStatsOf w h e → ⊥
stats_alarm encode w h blocks filters e k f =
    let P : Info → Type 0 = λ i. Reads w.begun.objects f.0 f.1 (path_of w.root h.id.0) i.stats.at i.stats.len (λ answer. RefusesStats w.begun.meaning.decode (section_read h.format_version h.id.0 stats_kind i.stats.at answer) e) in
    stats_found encode w.begun.meaning.decode k.lawful w.begun.objects f.0 f.1 (path_of w.root h.id.0) h.format_version h.id.0 blocks filters e k.holds k.bytes (subst P k.info f.3)

none_alarm : (encode : Encode) (w : Asked) (h : SsTableHandle) (blocks : List (List RowEntry)) (filters : List (List ℕ × List ℕ)) → Known encode w h blocks filters → h.info.stats_len ≡ 0 → ⊥
none_alarm encode w h blocks filters k none =
    let bytes = encode (stats_bytes blocks) in
    let len = ap (λ (i : Info). i.stats.len) k.info in
    let both = length-append bytes (be32 (crc32 (cover_of h.format_version h.id.0 stats_kind (stats_start encode h.format_version h.id.0 blocks filters) ++ bytes))) in
    omega (arith, len, none, both)

index_alarm : (encode : Encode) (w : Asked) (h : SsTableHandle) (blocks : List (List RowEntry)) (filters : List (List ℕ × List ℕ)) (e : SlateDBError) → Known encode w h blocks filters → RefusesIndexOf w h e → ⊥
index_alarm encode w h blocks filters e k f =
    let P : Info → Type 0 = λ i. Reads w.begun.objects f.0 f.1 (path_of w.root h.id.0) i.index.at i.index.len (λ answer. RefusesIndex w.begun.meaning.decode i.filters.at (section_read h.format_version h.id.0 index_kind i.index.at answer) e) in
    index_found encode w.begun.meaning.decode k.lawful w.begun.objects f.0 f.1 (path_of w.root h.id.0) h.format_version h.id.0 blocks filters e k.holds k.bytes (subst P k.info f.3)

filters_alarm : (encode : Encode) (w : Asked) (h : SsTableHandle) (blocks : List (List RowEntry)) (filters : List (List ℕ × List ℕ)) (e : SlateDBError) → Known encode w h blocks filters → 0 < h.info.filter_len → RefusesFiltersOf w h e → ⊥
filters_alarm encode w h blocks filters e k some f =
    let P : Info → Type 0 = λ i. Reads w.begun.objects f.0 f.1 (path_of w.root h.id.0) i.filters.at i.filters.len (λ answer. RefusesFilters w.begun.meaning.decode (section_read h.format_version h.id.0 filters_kind i.filters.at answer) e) in
    let Q : Info → Type 0 = λ i. 0 < i.filters.len in
    filters_found encode w.begun.meaning.decode k.lawful w.begun.objects f.0 f.1 (path_of w.root h.id.0) h.format_version h.id.0 blocks filters e k.holds k.bytes (subst Q k.info some) (subst P k.info f.3)

entries_are : (encode : Encode) (w : Asked) (h : SsTableHandle) (blocks : List (List RowEntry)) (filters : List (List ℕ × List ℕ)) (entries : List (ℕ × List ℕ)) → Known encode w h blocks filters → FindsEntries w h entries → length entries ≡ length blocks
entries_are encode w h blocks filters entries k f =
    let P : Info → Type 0 = λ i. Reads w.begun.objects f.0 f.1 (path_of w.root h.id.0) i.index.at i.index.len (λ answer. IsIndexRead w.begun.meaning.decode i.filters.at (section_read h.format_version h.id.0 index_kind i.index.at answer) entries) in
    let is = index_held encode w.begun.meaning.decode k.lawful w.begun.objects f.0 f.1 (path_of w.root h.id.0) h.format_version h.id.0 blocks filters entries k.holds (subst P k.info f.3) in
    ap (λ (l : List (ℕ × List ℕ)). length l) is ∙ table_count h.format_version h.id.0 encode blocks
  where
    table_count : (version id : ℕ) (encode : Encode) (bs : List (List RowEntry)) → length (table_entries encode version id bs) ≡ length bs
    table_count version id encode bs =
        let ss = block_sections encode version id bs in
        let ats = places_count 0 ss ∙ sections_count version id encode 0 (map (λ b. block_bytes version b) bs) ∙ length-map bs (λ b. block_bytes version b) in
        paired_count (places 0 ss) (separators bs) (separators_count bs ∙ sym ats) ∙ ats

-- a read, wherever it stands among the acts
anywhere : (objects : Option Objects) (before after : Option (List Act)) (path : List ℕ) (start size : ℕ) (means : Option (List ℕ) → Type 0) → Reads objects before after path start size means → Reads objects None None path start size means
anywhere objects before after path start size means r = (r.0, (r.1.0, r.1.1, (λ known is. absurd cc), r.1.3), r.2)

block_alarm : (encode : Encode) (w : Asked) (h : SsTableHandle) (blocks : List (List RowEntry)) (filters : List (List ℕ × List ℕ)) (entries : List (ℕ × List ℕ)) (n : ℕ) (e : SlateDBError) → Known encode w h blocks filters → FindsEntries w h entries → n < length entries → RefusesRowsOf w h entries n e → ⊥
unfolding RefusesReadRows
block_alarm encode w h blocks filters entries n e k x within f =
    let refused : RefusesReadRows w.begun.meaning.decode w.begun.objects None None (path_of w.root h.id.0) h n e = inr (inr (entries, None, anywhere _ _ _ _ _ _ _ x.3, within, anywhere _ _ _ _ _ _ _ f.3)) in
    let past = rows_found encode w.begun.meaning.decode k.lawful w.begun.objects None None (path_of w.root h.id.0) blocks filters h n e k.holds k.bytes k.info refused in
    let count = entries_are encode w h blocks filters entries k x in
    omega (arith, past.0, count, within)

-- ---- rows that were read

rows_are : (encode : Encode) (w : Asked) (h : SsTableHandle) (blocks : List (List RowEntry)) (filters : List (List ℕ × List ℕ)) (entries : List (ℕ × List ℕ)) (n : ℕ) (rows : List RowEntry) → Known encode w h blocks filters → FindsEntries w h entries → n < length entries → FindsRowsOf w h entries n rows →
    (written : List RowEntry) × (slice_get blocks n ≡ Some written) × (rows ≡ map (as_read h.format_version) written)
unfolding ReadsRows
rows_are encode w h blocks filters entries n rows k x within f =
    let read : ReadsRows w.begun.meaning.decode w.begun.objects None None (path_of w.root h.id.0) h n rows = (entries, None, anywhere _ _ _ _ _ _ _ x.3, within, anywhere _ _ _ _ _ _ _ f.3) in
    rows_held encode w.begun.meaning.decode k.lawful w.begun.objects None None (path_of w.root h.id.0) blocks filters h n rows k.holds k.info read

mapped_at : {A B : Type 0} (f : A → B) (xs : List A) (i : ℕ) (x : A) → slice_get xs i ≡ Some x → slice_get (map f xs) i ≡ Some (f x)
mapped_at f [] i x h = absurd cc
mapped_at f (y ∷ xs) zero x h = let same : y ≡ x = cc in ap (λ z. Some (f z)) same
mapped_at f (y ∷ xs) (suc i) x h = mapped_at f xs i x h

front_of : {B : Type 0} (xs ys : List B) → length xs ≤ length ys → ((i : ℕ) (x : B) → slice_get xs i ≡ Some x → slice_get ys i ≡ Some x) → xs ≡ take (length xs) ys
front_of [] ys few f = refl
front_of (x ∷ xs) [] few f = absurd (omega (arith, few))
front_of (x ∷ xs) (y ∷ ys) few f =
    let same : y ≡ x = (let at = f zero x refl in cc) in
    let rest = front_of xs ys (omega (arith, few)) (λ i z at. f (suc i) z at) in
    λ i. sym same i ∷ rest i

within_list : {B : Type 0} (xs : List B) (i : ℕ) (x : B) → slice_get xs i ≡ Some x → i < length xs
within_list [] i x h = absurd cc
within_list (y ∷ xs) zero x h = omega arith
within_list (y ∷ xs) (suc i) x h = let rest = within_list xs i x h in omega (arith, rest)

-- what was read of the first blocks is theirs
first_blocks : (encode : Encode) (w : Asked) (h : SsTableHandle) (blocks : List (List RowEntry)) (filters : List (List ℕ × List ℕ)) (entries : List (ℕ × List ℕ)) (found : List (List RowEntry)) → Known encode w h blocks filters → FindsEntries w h entries → length found ≤ length entries → HasBlocks w h entries found →
    found ≡ take (length found) (map (λ b. map (as_read h.format_version) b) blocks)
first_blocks encode w h blocks filters entries found k x few has =
    let count = entries_are encode w h blocks filters entries k x in
    let same = length-map blocks (λ b. map (as_read h.format_version) b) in
    front_of found (map (λ b. map (as_read h.format_version) b) blocks) (omega (arith, few, count, same))
    (λ i rows at.
    let within : i < length entries = (let in_found = within_list found i rows at in omega (arith, in_found, few)) in
    let is = rows_are encode w h blocks filters entries i rows k x within (has i rows at) in
    mapped_at (λ b. map (as_read h.format_version) b) blocks i is.0 is.1 ∙ ap (λ (l : List RowEntry). Some l) (sym is.2))

-- ---- a row as it is read has its key, its sequence and its value

as_any : {B : Type 0} (f : RowEntry → B) → ((r : RowEntry) (t : Option ℤ) → f (record r { expire_ts = t }) ≡ f r) → (v : ℕ) (r : RowEntry) → f (as_read v r) ≡ f r
as_any f same v r = by (eqb v 1)
  where
    by : (t : Bool) → f (cond t (record r { expire_ts = read_expiry r.value r.expire_ts }) r) ≡ f r
    by true = same r (read_expiry r.value r.expire_ts)
    by false = refl

lt_read : (v : ℕ) (r s : RowEntry) → row_lt (as_read v r) (as_read v s) ≡ row_lt r s
lt_read v r s = as_any (λ x. row_lt x (as_read v s)) (λ x t. refl) v r ∙ as_any (λ x. row_lt r x) (λ x t. refl) v s

all_read : (v : ℕ) (r : RowEntry) (rows : List RowEntry) → AllByRecursion (λ s. IsTrue (row_lt r s)) rows → AllByRecursion (λ s. IsTrue (row_lt (as_read v r) s)) (map (as_read v) rows)
all_read v r [] h = tt
all_read v r (s ∷ rows) h = (lt_read v r s ∙ h.0, all_read v r rows h.1)

order_read : (v : ℕ) (rows : List RowEntry) → AreInOrder rows → AreInOrder (map (as_read v) rows)
order_read v [] h = tt
order_read v (r ∷ rows) h = (all_read v r rows h.0, order_read v rows h.1)

sum_read : (g : RowEntry → ℕ) → ((r : RowEntry) (t : Option ℤ) → g (record r { expire_ts = t }) ≡ g r) → (v : ℕ) (rows : List RowEntry) → sum_by g (map (as_read v) rows) ≡ sum_by g rows
sum_read g same v [] = refl
sum_read g same v (r ∷ rows) =
    let here = as_any g same v r in
    let rest = sum_read g same v rows in
    let left = sum_by-append g (as_read v r ∷ []) (map (as_read v) rows) in
    let right = sum_by-append g (r ∷ []) rows in
    omega (arith, here, rest, left, right)

rows_read : (v : ℕ) (blocks : List (List RowEntry)) → rows_of (map (λ b. map (as_read v) b) blocks) ≡ map (as_read v) (rows_of blocks)
rows_read v [] = refl
rows_read v (b ∷ blocks) = ap (λ (l : List RowEntry). map (as_read v) b ++ l) (rows_read v blocks) ∙ sym (map-append (as_read v) b (rows_of blocks))

first_read : (v : ℕ) (rows : List RowEntry) → some_first (map (as_read v) rows) ≡ some_first rows
first_read v [] = refl
first_read v (r ∷ rows) = ap (λ (k : List ℕ). Some k) (as_any (λ x. x.key) (λ x t. refl) v r)

last_read : (v : ℕ) (k : List ℕ) (rows : List RowEntry) → last_key k (map (as_read v) rows) ≡ last_key k rows
last_read v k [] = refl
last_read v k (r ∷ rows) = ap (λ (x : List ℕ). last_key x (map (as_read v) rows)) (as_any (λ x. x.key) (λ x t. refl) v r) ∙ last_read v r.key rows

some_last_read : (v : ℕ) (rows : List RowEntry) → some_last (map (as_read v) rows) ≡ some_last rows
some_last_read v [] = refl
some_last_read v (r ∷ rows) = ap (λ (x : List ℕ). Some x) (ap (λ (x : List ℕ). last_key x (map (as_read v) rows)) (as_any (λ x. x.key) (λ x t. refl) v r) ∙ last_read v r.key rows)

-- ---- the first blocks of a table are good

count_small : (p : RowEntry → Bool) (v : ℕ) (rows : List RowEntry) → length rows < 2 ^ 16 → count_by p (map (as_read v) rows) < 2 ^ 16
count_small p v rows few =
    let most = count_by-le-length p (map (as_read v) rows) in
    let same = length-map rows (as_read v) in
    omega (arith, most, same, few)

each_fits : (v : ℕ) (blocks : List (List RowEntry)) (k : ℕ) → AllByRecursion (FitsBlock v) blocks → AllByRecursion (FitCounts 16) (map row_counts (take k (map (λ b. map (as_read v) b) blocks)))
each_fits v blocks zero f = tt
each_fits v [] (suc k) f = tt
each_fits v (b ∷ blocks) (suc k) f =
    ((count_small is_put v b f.0.counted, count_small is_tombstone v b f.0.counted, count_small is_operand v b f.0.counted), each_fits v blocks k f.1)

total_rows : (v : ℕ) (blocks : List (List RowEntry)) → AllByRecursion (FitsBlock v) blocks → length (rows_of blocks) ≤ 65536 * length blocks
total_rows v [] f = omega arith
total_rows v (b ∷ blocks) f =
    let both = length-append b (rows_of blocks) in
    let rest = total_rows v blocks f.1 in
    let few = f.0.counted in
    omega (arith, both, rest, few)

good_front : (encode : Encode) (w : Asked) (h : SsTableHandle) (blocks : List (List RowEntry)) (filters : List (List ℕ × List ℕ)) (k : ℕ) → Known encode w h blocks filters → AreGood (take k (map (λ b. map (as_read h.format_version) b) blocks))
good_front encode w h blocks filters k known =
    let v = h.format_version in
    let all = map (λ b. map (as_read v) b) blocks in
    let front = rows_of (take k all) in
    let rest = rows_of (drop k all) in
    let is = known.holds.is in
    let split : rows_of all ≡ front ++ rest = ap (λ (l : List (List RowEntry)). rows_of l) (sym (take-append-drop k all)) ∙ flat_map-append (λ b. b) (take k all) (drop k all) in
    let whole : map (as_read v) (rows_of blocks) ≡ front ++ rest = sym (rows_read v blocks) ∙ split in
    let P : List RowEntry → Type 0 = λ l. AreInOrder l in
    let keys = sum_read (λ r. length r.key) (λ r t. refl) v (rows_of blocks) in
    let key_sums = ap (λ (l : List RowEntry). sum_by (λ r. length r.key) l) whole ∙ sum_by-append (λ r. length r.key) front rest in
    let values = sum_read (λ r. length (operand r)) (λ r t. refl) v (rows_of blocks) in
    let value_sums = ap (λ (l : List RowEntry). sum_by (λ r. length (operand r)) l) whole ∙ sum_by-append (λ r. length (operand r)) front rest in
    let lengths = sym (length-map (rows_of blocks) (as_read v)) ∙ ap (λ (l : List RowEntry). length l) whole ∙ length-append front rest in
    let total = total_rows v blocks is.each in
    let few = is.few in
    let short : length front < 2 ^ 64 = omega (arith, lengths, total, few) in
    let puts = count_by-le-length is_put front in
    let deletes = count_by-le-length is_tombstone front in
    let merges = count_by-le-length is_operand front in
    let key_sum = is.key_sum in
    let value_sum = is.value_sum in
    record {
      order = front_in_order front rest (subst P whole (order_read v (rows_of blocks) is.order));
      fit = record {
        all = (omega (arith, puts, short), omega (arith, deletes, short), omega (arith, merges, short));
        keys = omega (arith, keys, key_sums, key_sum);
        values = omega (arith, values, value_sums, value_sum);
        each = each_fits v blocks k is.each;
      };
    }

bad_alarm : (encode : Encode) (w : Asked) (h : SsTableHandle) (blocks : List (List RowEntry)) (filters : List (List ℕ × List ℕ)) (entries : List (ℕ × List ℕ)) (n : ℕ) → Known encode w h blocks filters → FindsEntries w h entries → n < length entries → HasBadRows w h entries n → ⊥
bad_alarm encode w h blocks filters entries n k x within bad =
    let found = bad.0 ++ (bad.1 ∷ []) in
    let both = length-append bad.0 (bad.1 ∷ []) in
    let count = bad.2 in
    let few : length found ≤ length entries = omega (arith, both, count, within) in
    let is = first_blocks encode w h blocks filters entries found k x few bad.3 in
    bad.4 (subst (λ (l : List (List RowEntry)). AreGood l) (sym is) (good_front encode w h blocks filters (length found) k))

-- ---- all blocks

all_blocks : (encode : Encode) (w : Asked) (h : SsTableHandle) (blocks : List (List RowEntry)) (filters : List (List ℕ × List ℕ)) (stats : Stats) (found : List (List RowEntry)) → Known encode w h blocks filters → IsRead w h stats found → found ≡ map (λ b. map (as_read h.format_version) b) blocks
all_blocks encode w h blocks filters stats found k read =
    let all = map (λ b. map (as_read h.format_version) b) blocks in
    let count = read.count in
    let same = entries_are encode w h blocks filters read.entries k read.parts.has_index in
    let len = length-map blocks (λ b. map (as_read h.format_version) b) in
    first_blocks encode w h blocks filters read.entries found k read.parts.has_index (omega (arith, count)) read.each ∙ take_all (length found) all (omega (arith, count, same, len))

counts_read : (v : ℕ) (blocks : List (List RowEntry)) → map row_counts (map (λ b. map (as_read v) b) blocks) ≡ map row_counts blocks
counts_read v [] = refl
counts_read v (b ∷ blocks) =
    let puts = sum_read (λ r. cond (is_put r) 1 0) (λ r t. refl) v b in
    let deletes = sum_read (λ r. cond (is_tombstone r) 1 0) (λ r t. refl) v b in
    let merges = sum_read (λ r. cond (is_operand r) 1 0) (λ r t. refl) v b in
    let rest = counts_read v blocks in
    λ i. record { puts = puts i; deletes = deletes i; merges = merges i } ∷ rest i

stats_read : (v : ℕ) (blocks : List (List RowEntry)) → table_stats (map (λ b. map (as_read v) b) blocks) ≡ table_stats blocks
stats_read v blocks =
    let rows = rows_of blocks in
    let read = rows_read v blocks in
    let of : (g : RowEntry → ℕ) → ((r : RowEntry) (t : Option ℤ) → g (record r { expire_ts = t }) ≡ g r) → sum_by g (rows_of (map (λ b. map (as_read v) b) blocks)) ≡ sum_by g rows = λ g same. ap (λ (l : List RowEntry). sum_by g l) read ∙ sum_read g same v rows in
    let puts = of (λ r. cond (is_put r) 1 0) (λ r t. refl) in
    let deletes = of (λ r. cond (is_tombstone r) 1 0) (λ r t. refl) in
    let merges = of (λ r. cond (is_operand r) 1 0) (λ r t. refl) in
    let keys = of (λ r. length r.key) (λ r t. refl) in
    let values = of (λ r. length (operand r)) (λ r t. refl) in
    let counts = counts_read v blocks in
    λ i. record { all = record { puts = puts i; deletes = deletes i; merges = merges i }; key_bytes = keys i; value_bytes = values i; blocks = counts i }

other_stats : (encode : Encode) (w : Asked) (h : SsTableHandle) (blocks : List (List RowEntry)) (filters : List (List ℕ × List ℕ)) → Known encode w h blocks filters → HasOtherStats w h → ⊥
other_stats encode w h blocks filters k o =
    let f = o.2.parts.has_stats in
    let P : Info → Type 0 = λ i. Reads w.begun.objects f.0 f.1 (path_of w.root h.id.0) i.stats.at i.stats.len (λ answer. IsStatsRead w.begun.meaning.decode (section_read h.format_version h.id.0 stats_kind i.stats.at answer) o.0) in
    let stats = stats_held encode w.begun.meaning.decode k.lawful w.begun.objects f.0 f.1 (path_of w.root h.id.0) h.format_version h.id.0 blocks filters o.0 k.holds (subst P k.info f.3) in
    let found = all_blocks encode w h blocks filters o.0 o.1 k o.2 in
    o.3 (stats ∙ sym (ap (λ (l : List (List RowEntry)). table_stats l) found ∙ stats_read h.format_version blocks))

other_keys : (encode : Encode) (w : Asked) (h : SsTableHandle) (blocks : List (List RowEntry)) (filters : List (List ℕ × List ℕ)) → Known encode w h blocks filters → HasOtherKeys w h → ⊥
other_keys encode w h blocks filters k o =
    let v = h.format_version in
    let rows : rows_of o.1 ≡ map (as_read v) (rows_of blocks) = ap (λ (l : List (List RowEntry)). rows_of l) (all_blocks encode w h blocks filters o.0 o.1 k o.2) ∙ rows_read v blocks in
    let first = ap (λ (i : Info). i.first) k.info in
    let last = ap (λ (i : Info). i.last) k.info in
    o.3 (first ∙ sym (ap (λ (l : List RowEntry). some_first l) rows ∙ first_read v (rows_of blocks))) (last ∙ sym (ap (λ (l : List RowEntry). some_last l) rows ∙ some_last_read v (rows_of blocks)))

-- ---- no flaw

in_part : (encode : Encode) (w : Asked) (h : SsTableHandle) (blocks : List (List RowEntry)) (filters : List (List ℕ × List ℕ)) (part : Part) (at : Option ℕ) (e : SlateDBError) → Known encode w h blocks filters → IsFlawedIn w h part at e → ⊥
in_part encode w h blocks filters parts.Info at e k f = other_keys encode w h blocks filters k f.1
in_part encode w h blocks filters parts.Stats at e k f = by f.1
  where
    by : RefusesStatsOf w h e ⊎ (h.info.stats_len ≡ 0) ⊎ HasOtherStats w h → ⊥
    by (inl r) = stats_alarm encode w h blocks filters e k r
    by (inr (inl none)) = none_alarm encode w h blocks filters k none
    by (inr (inr o)) = other_stats encode w h blocks filters k o
in_part encode w h blocks filters parts.Index at e k f = index_alarm encode w h blocks filters e k f.1
in_part encode w h blocks filters parts.Filters at e k f = filters_alarm encode w h blocks filters e k f.1 f.2
in_part encode w h blocks filters (parts.Block n) at e k f = by f.4
  where
    by : RefusesRowsOf w h f.0 n e ⊎ HasBadRows w h f.0 n → ⊥
    by (inl r) = block_alarm encode w h blocks filters f.0 n e k f.1 f.2 r
    by (inr bad) = bad_alarm encode w h blocks filters f.0 n k f.1 f.2 bad

pub no_flaw : NoFalseAlarm
no_flaw encode w id version blocks filters flaw lawful holds bytes (inl r) = not_refused encode w.begun.objects r.2.0 r.2.1 (path_of w.root id) version id blocks filters flaw.error holds bytes r.2.3
no_flaw encode w id version blocks filters flaw lawful holds bytes (inr f) =
    in_part encode w f.0 blocks filters flaw.part flaw.offset flaw.error (known encode w f.0 id version blocks filters lawful holds bytes f.1 f.2) f.3
