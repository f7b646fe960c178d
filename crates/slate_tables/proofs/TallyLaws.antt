-- What one row more, and one block more, adds up to.
use Rattle.std.proofs.Common.{◌≡◌, ◌⊎◌, inl, inr, ℕ, ◌+◌, ◌-◌, ◌^◌, ◌<◌, ◌≤◌, Bool, true, false, cond, List, [], ◌∷◌, ◌++◌, length, take, drop, get_or, min, max, refl, sym, ap, ◌∙◌, subst, arith, length-append, append_assoc, append-nil}
use Rattle.std.specs.Prelude.{IsTrue, MatchOption, Option, Some, None, flat_map, map, slice_get, sum_by}
use Rattle.std.specs.List.{AllByRecursion}
use Rattle.std.specs.Ordering.{is_lt}
use Rattle.std.proofs.lemmas.Grind.{flat_map-append}
use Rattle.std.proofs.lemmas.List.{map-append, take-append-drop, take_more}
use Rattle.std.proofs.lemmas.List.Sums.{sum_by-append}
use Rattle.slate_types.specs.declared.types.RowEntry.{RowEntry}
use Rattle.slate_types.specs.Rows.{is_operand, is_put, is_tombstone, operand, row_lt, sequenced, sequenced_cmp}
use Rattle.slate_types.proofs.Lists.{AllByRecursion_append, AllByRecursion_front}
use Rattle.slate_types.proofs.RowLaws.{rows_by_sequenced}
use Rattle.slate_table.specs.Decoded.{Counts, FitCounts, Stats}
use Rattle.slate_table.specs.FileLaws.{row_counts, table_stats}
use Rattle.slate_table.specs.Parts.{last_key}
use Rattle.slate_table.specs.Table.{AreInOrder, some_first, some_last}
use Rattle.slate_tables.specs.Good.{AreGood, FitsStats, greatest_from, least_seq, rows_of, seq_of_first}
use Rattle.slate_block.specs.declared.block.BlockStats.{BlockStats}
use Rattle.slate_table.specs.declared.sst_stats.SstStats.{SstStats}
use Rattle.slate_table.specs.StatsReading.{counts_of, stats_of}
use Rattle.slate_tables.proofs.RowOrder.{follows_tells}
use Rattle.slate_tables.specs.declared.tally.Tally.{Tally}
use Rattle.slate_tables.specs.Tallies.{FitsSums, IsSpan, IsSpanOf, IsTally, plus, stands_behind, sums_of, whole_sums}
use Rattle.slate_tables.specs.declared.tally.Span.{Span}
use Rattle.slate_tables.specs.declared.tally.Sums.{Sums}

-- ---- sums

pub sums_append : (xs ys : List RowEntry) → sums_of (xs ++ ys) ≡ plus (sums_of xs) (sums_of ys)
sums_append xs ys = λ i. record {
  puts = sum_by-append (λ r. cond (is_put r) 1 0) xs ys i;
  deletes = sum_by-append (λ r. cond (is_tombstone r) 1 0) xs ys i;
  merges = sum_by-append (λ r. cond (is_operand r) 1 0) xs ys i;
  key_bytes = sum_by-append (λ r. length r.key) xs ys i;
  value_bytes = sum_by-append (λ r. length (operand r)) xs ys i;
}

pub front_fits : (a b : Sums) → FitsSums (plus a b) → FitsSums a
front_fits a b f = record {
  puts = omega (arith, f.puts);
  deletes = omega (arith, f.deletes);
  merges = omega (arith, f.merges);
  key_bytes = omega (arith, f.key_bytes);
  value_bytes = omega (arith, f.value_bytes);
}

pub record SumsSoFar (rows : List RowEntry) (i : ℕ) (s : Sums) : Type 0 where
  pub is : s ≡ sums_of (take i rows)
  pub fits : FitsSums s

one_more : (rows : List RowEntry) (i : ℕ) (row : RowEntry) → i < length rows → row ≡ get_or rows i row → (s : Sums) → s ≡ sums_of (take i rows) → plus s (sums_of (row ∷ [])) ≡ sums_of (take (i + 1) rows)
one_more rows i row within at s is =
    let front : take (i + 1) rows ≡ take i rows ++ (row ∷ []) = take_more rows i row within ∙ (λ j. take i rows ++ (sym at j ∷ [])) in
    ap (λ (x : Sums). plus x (sums_of (row ∷ []))) is ∙ sym (sums_append (take i rows) (row ∷ [])) ∙ ap (λ (l : List RowEntry). sums_of l) (sym front)

pub sums_more : (rows : List RowEntry) (i : ℕ) (row : RowEntry) (s new : Sums) → i < length rows → row ≡ get_or rows i row → SumsSoFar rows i s → new ≡ plus s (sums_of (row ∷ [])) → FitsSums new → SumsSoFar rows (i + 1) new
sums_more rows i row s new within at h is fits = record { is = is ∙ one_more rows i row within at s h.is; fits = fits }

pub sums_stop : (rows : List RowEntry) (i : ℕ) (row : RowEntry) (s : Sums) → i < length rows → row ≡ get_or rows i row → SumsSoFar rows i s → (FitsSums (plus s (sums_of (row ∷ []))) → ⊥) → FitsSums (sums_of rows) → ⊥
sums_stop rows i row s within at h none fits =
    let whole : sums_of rows ≡ plus (plus s (sums_of (row ∷ []))) (sums_of (drop (i + 1) rows)) =
    ap (λ (l : List RowEntry). sums_of l) (sym (take-append-drop (i + 1) rows)) ∙ sums_append (take (i + 1) rows) (drop (i + 1) rows)
    ∙ ap (λ (x : Sums). plus x (sums_of (drop (i + 1) rows))) (sym (one_more rows i row within at s h.is)) in
    none (front_fits (plus s (sums_of (row ∷ []))) (sums_of (drop (i + 1) rows)) (subst (λ (x : Sums). FitsSums x) whole fits))

-- ---- statistics

abbrev pub sums_in : Stats → Sums
sums_in s = record { puts = s.all.puts; deletes = s.all.deletes; merges = s.all.merges; key_bytes = s.key_bytes; value_bytes = s.value_bytes }

rows_more : (blocks : List (List RowEntry)) (rows : List RowEntry) → rows_of (blocks ++ (rows ∷ [])) ≡ rows_of blocks ++ rows
rows_more blocks rows = flat_map-append (λ b. b) blocks (rows ∷ []) ∙ ap (λ (l : List RowEntry). rows_of blocks ++ l) (append-nil rows)

abbrev pub stats_with : Sums → List Counts → Stats
stats_with s counts = record { all = record { puts = s.puts; deletes = s.deletes; merges = s.merges }; key_bytes = s.key_bytes; value_bytes = s.value_bytes; blocks = counts }

pub stats_more : (blocks : List (List RowEntry)) (rows : List RowEntry) →
    table_stats (blocks ++ (rows ∷ [])) ≡ stats_with (plus (sums_of (rows_of blocks)) (sums_of rows)) (map row_counts blocks ++ (row_counts rows ∷ []))
stats_more blocks rows =
    let sums : sums_of (rows_of (blocks ++ (rows ∷ []))) ≡ plus (sums_of (rows_of blocks)) (sums_of rows) = ap (λ (l : List RowEntry). sums_of l) (rows_more blocks rows) ∙ sums_append (rows_of blocks) rows in
    let counts = map-append row_counts blocks (rows ∷ []) in
    λ i. stats_with (sums i) (counts i)

pub rows_behind : (blocks : List (List RowEntry)) (rows : List RowEntry) → rows_of blocks ++ rows ≡ rows_of (blocks ++ (rows ∷ []))
rows_behind blocks rows = sym (rows_more blocks rows)

pub fits_more : (blocks : List (List RowEntry)) (rows : List RowEntry) → FitsStats (table_stats blocks) → FitsSums (plus (sums_of (rows_of blocks)) (sums_of rows)) → FitCounts 16 (row_counts rows) → FitsStats (table_stats (blocks ++ (rows ∷ [])))
fits_more blocks rows before sums counts = subst (λ (s : Stats). FitsStats s) (sym (stats_more blocks rows)) (record {
  all = (sums.puts, sums.deletes, sums.merges);
  keys = sums.key_bytes;
  values = sums.value_bytes;
  each = AllByRecursion_append (FitCounts 16) (map row_counts blocks) (row_counts rows ∷ []) before.each (counts, tt);
})

last_fits : (cs : List Counts) (c : Counts) → AllByRecursion (FitCounts 16) (cs ++ (c ∷ [])) → FitCounts 16 c
last_fits [] c h = h.0
last_fits (d ∷ cs) c h = last_fits cs c h.1

pub fits_parts : (blocks : List (List RowEntry)) (rows : List RowEntry) → FitsStats (table_stats (blocks ++ (rows ∷ []))) → FitsSums (plus (sums_of (rows_of blocks)) (sums_of rows)) × FitCounts 16 (row_counts rows)
fits_parts blocks rows h =
    let f = subst (λ (s : Stats). FitsStats s) (stats_more blocks rows) h in
    (record { puts = f.all.0; deletes = f.all.1; merges = f.all.2; key_bytes = f.keys; value_bytes = f.values }, last_fits (map row_counts blocks) (row_counts rows) f.each)

-- ---- the order and the span

pub front_in_order : (xs ys : List RowEntry) → AreInOrder (xs ++ ys) → AreInOrder xs
front_in_order [] ys h = tt
front_in_order (x ∷ xs) ys h = (AllByRecursion_front (λ s. IsTrue (row_lt x s)) xs ys h.0, front_in_order xs ys h.1)

pub order_stops : (before rows : List RowEntry) (i : ℕ) (row : RowEntry) → i < length rows → row ≡ get_or rows i row → (AreInOrder ((before ++ take i rows) ++ (row ∷ [])) → ⊥) → AreInOrder (before ++ rows) → ⊥
order_stops before rows i row within at none order =
    let front : take (i + 1) rows ≡ take i rows ++ (row ∷ []) = take_more rows i row within ∙ (λ j. take i rows ++ (sym at j ∷ [])) in
    let whole : before ++ rows ≡ (before ++ take (i + 1) rows) ++ drop (i + 1) rows =
    ap (λ (l : List RowEntry). before ++ l) (sym (take-append-drop (i + 1) rows)) ∙ sym (append_assoc before (take (i + 1) rows) (drop (i + 1) rows)) in
    let P : List RowEntry → Type 0 = λ l. AreInOrder l in
    let first : before ++ take (i + 1) rows ≡ (before ++ take i rows) ++ (row ∷ []) = ap (λ (l : List RowEntry). before ++ l) front ∙ sym (append_assoc before (take i rows) (row ∷ [])) in
    none (subst P first (front_in_order (before ++ take (i + 1) rows) (drop (i + 1) rows) (subst P whole order)))

last_key_more : (k : List ℕ) (rows : List RowEntry) (row : RowEntry) → last_key k (rows ++ (row ∷ [])) ≡ row.key
last_key_more k [] row = refl
last_key_more k (r ∷ rows) row = last_key_more r.key rows row

least_more : (n : ℕ) (rows : List RowEntry) (row : RowEntry) → least_seq n (rows ++ (row ∷ [])) ≡ min (least_seq n rows) row.seq
least_more n [] row = refl
least_more n (r ∷ rows) row = least_more (min n r.seq) rows row

greatest_more : (n : ℕ) (rows : List RowEntry) (row : RowEntry) → greatest_from n (rows ++ (row ∷ [])) ≡ max (greatest_from n rows) row.seq
greatest_more n [] row = refl
greatest_more n (r ∷ rows) row = greatest_more (max n r.seq) rows row

last_there : (rows : List RowEntry) (row : RowEntry) → slice_get (rows ++ (row ∷ [])) (length (rows ++ (row ∷ [])) - 1) ≡ Some row
last_there rows row = ap (slice_get (rows ++ (row ∷ []))) place ∙ at rows
  where
    place : length (rows ++ (row ∷ [])) - 1 ≡ length rows
    place = let both = length-append rows (row ∷ []) in omega (arith, both)

    at : (l : List RowEntry) → slice_get (l ++ (row ∷ [])) (length l) ≡ Some row
    at [] = refl
    at (x ∷ l) = at l

-- rows of which there are some
some_more : (rows : List RowEntry) (row : RowEntry) (first : List ℕ) → some_first rows ≡ Some first →
    (some_first (rows ++ (row ∷ [])) ≡ Some first) × (some_last (rows ++ (row ∷ [])) ≡ Some row.key) × (seq_of_first (rows ++ (row ∷ [])) ≡ seq_of_first rows)
some_more [] row first is = absurd cc
some_more (r ∷ rows) row first is = (is, ap (λ (k : List ℕ). Some k) (last_key_more r.key rows row), refl)

pub span_first : (row : RowEntry) → IsSpanOf (row ∷ []) (record { first = row.key; last = row.key; last_seq = row.seq; least = row.seq; greatest = row.seq })
span_first row = record { row = row; last_row = refl; key = refl; seq = refl; first = refl; last = refl; least = omega arith; greatest = omega arith }

pub span_more : (rows : List RowEntry) (row : RowEntry) (s : Span) → IsSpanOf rows s → IsSpanOf (rows ++ (row ∷ [])) (record { first = s.first; last = row.key; last_seq = row.seq; least = min s.least row.seq; greatest = max s.greatest row.seq })
span_more rows row s h =
    let more = some_more rows row s.first h.first in
    let n = seq_of_first rows in
    record {
      row = row;
      last_row = last_there rows row;
      key = refl;
      seq = refl;
      first = more.0;
      last = more.1;
      least = ap (λ (k : ℕ). min k row.seq) h.least ∙ sym (least_more n rows row) ∙ ap (λ (k : ℕ). least_seq k (rows ++ (row ∷ []))) (sym more.2);
      greatest = ap (λ (k : ℕ). max k row.seq) h.greatest ∙ sym (greatest_more n rows row) ∙ ap (λ (k : ℕ). greatest_from k (rows ++ (row ∷ []))) (sym more.2);
    }

behind_is : (rows : List RowEntry) (row : RowEntry) (s : Span) (h : IsSpanOf rows s) → stands_behind s row ≡ row_lt h.row row
behind_is rows row s h =
    (λ i. is_lt (sequenced_cmp (record { user_key = sym h.key i; seq = sym h.seq i }) (sequenced row))) ∙ sym (rows_by_sequenced h.row row)

pub span_follows : (rows : List RowEntry) (row : RowEntry) (s : Span) → IsSpanOf rows s → AreInOrder rows → stands_behind s row ≡ true → AreInOrder (rows ++ (row ∷ []))
span_follows rows row s h order is = (follows_tells rows rows h.row row (stands_behind s row) refl h.last_row (behind_is rows row s h) order).0 is

pub span_stops : (rows : List RowEntry) (row : RowEntry) (s : Span) → IsSpanOf rows s → AreInOrder rows → stands_behind s row ≡ false → AreInOrder (rows ++ (row ∷ [])) → ⊥
span_stops rows row s h order is more =
    let follows : stands_behind s row ≡ true = (follows_tells rows rows h.row row (stands_behind s row) refl h.last_row (behind_is rows row s h) order).1 more in
    absurd cc

-- ---- the tally

pub match_weaker : {X : Type 0} (o : Option X) {P P' : Type 0} {Q Q' : X → Type 0} → (P → P') → ((x : X) → Q x → Q' x) → MatchOption o P Q → MatchOption o P' Q'
match_weaker None f g h = f h
match_weaker (Some x) f g h = g x h

pub tally_more : (blocks : List (List RowEntry)) (rows : List RowEntry) (s : Option Span) (t : Tally) → AreInOrder (rows_of blocks ++ rows) → IsSpan (rows_of blocks ++ rows) s →
    (t.span ≡ s) × (stats_of t.stats ≡ table_stats (blocks ++ (rows ∷ []))) × FitsStats (table_stats (blocks ++ (rows ∷ []))) → IsTally (blocks ++ (rows ∷ [])) t
tally_more blocks rows s t order span h =
    let P : List RowEntry → Type 0 = λ l. AreInOrder l in
    let Q : List RowEntry → Type 0 = λ l. IsSpan l s in
    let R : Option Span → Type 0 = λ o. IsSpan (rows_of (blocks ++ (rows ∷ []))) o in
    record {
      good = record { order = subst P (rows_behind blocks rows) order; fit = h.2 };
      stats = h.1;
      span = subst R (sym h.0) (subst Q (rows_behind blocks rows) span);
    }

pub out_of_order : (blocks : List (List RowEntry)) (rows : List RowEntry) → (AreInOrder (rows_of blocks ++ rows) → ⊥) → AreGood (blocks ++ (rows ∷ [])) → ⊥
out_of_order blocks rows none good = let P : List RowEntry → Type 0 = λ l. AreInOrder l in none (subst P (sym (rows_behind blocks rows)) good.order)

pub not_fitting : (blocks : List (List RowEntry)) → (FitsStats (table_stats blocks) → ⊥) → AreGood blocks → ⊥
not_fitting blocks none good = none good.fit

pub none_good : AreGood []
none_good = record {
  order = tt;
  fit = record { all = (omega arith, omega arith, omega arith); keys = omega arith; values = omega arith; each = tt };
}

-- the statistics that are made of the sums
pub stats_made : (blocks : List (List RowEntry)) (rows : List RowEntry) (before after : SstStats) (whole : Sums) (block : BlockStats) → stats_of before ≡ table_stats blocks → whole ≡ plus (whole_sums before) (sums_of rows) →
    counts_of block ≡ row_counts rows → whole_sums after ≡ whole → map counts_of after.block_stats.items ≡ map counts_of before.block_stats.items ++ (counts_of block ∷ []) → stats_of after ≡ table_stats (blocks ++ (rows ∷ []))
stats_made blocks rows before after whole block is sums counts made pushed =
    let old : whole_sums before ≡ sums_of (rows_of blocks) = ap sums_in is in
    let all : whole_sums after ≡ plus (sums_of (rows_of blocks)) (sums_of rows) = made ∙ sums ∙ ap (λ (x : Sums). plus x (sums_of rows)) old in
    let front : map counts_of before.block_stats.items ≡ map row_counts blocks = ap (λ (x : Stats). x.blocks) is in
    let list : map counts_of after.block_stats.items ≡ map row_counts blocks ++ (row_counts rows ∷ []) = pushed ∙ (λ i. front i ++ (counts i ∷ [])) in
    (λ i. stats_with (all i) (list i)) ∙ sym (stats_more blocks rows)

pub whole_before : (blocks : List (List RowEntry)) (rows : List RowEntry) (before : SstStats) → stats_of before ≡ table_stats blocks → plus (whole_sums before) (sums_of rows) ≡ plus (sums_of (rows_of blocks)) (sums_of rows)
whole_before blocks rows before is = ap (λ (x : Stats). plus (sums_in x) (sums_of rows)) is
