-- The parts of a table that a call found, or refused, in all that is asked.
use Rattle.std.proofs.Common.{◌≡◌, ◌⊎◌, inl, inr, ℕ, ◌+◌, ◌<◌, Bool, true, false, eqb, List, refl, sym, subst, arith}
use Rattle.std.proofs.lemmas.Bool.{eqb-false, eqb-true}
use Rattle.std.specs.Prelude.{Option}
use Rattle.slate_types.specs.declared.error.SlateDBError.{SlateDBError}
use Rattle.slate_types.specs.declared.types.RowEntry.{RowEntry}
use Rattle.slate_types.specs.declared.types.Ulid.{Ulid}
use Rattle.slate_types.specs.Outside.{Act, AddsReads, Objects, OnlyReads, Reach}
use Rattle.slate_types.proofs.Reaching.{adds_none}
use Rattle.slate_table.specs.declared.info.SsTableHandle.{SsTableHandle}
use Rattle.slate_table.specs.Decoded.{Stats}
use Rattle.slate_table.specs.FileReading.{AreRowsRead}
use Rattle.slate_table.specs.InfoReading.{seen_info}
use Rattle.slate_table.specs.Opening.{IsOpened, RefusesOpen}
use Rattle.slate_table.specs.Paths.{path_of}
use Rattle.slate_table.specs.Reading.{AreFiltersRead, IsIndexRead, IsStatsRead, ReadsBlocks, Reads, ReadsFilters, ReadsIndex, ReadsStats, RefusesFilters, RefusesIndex, RefusesStats, of_block, of_filters, of_index, of_stats}
use Rattle.slate_tables.specs.Checks.{HasBlocks, HasParts}
use Rattle.slate_tables.specs.Finds.{FindsEntries, FindsFilters, FindsRowsOf, FindsStats, OpensTo, RefusesFiltersOf, RefusesIndexOf, RefusesStatsOf, RefusesTable, asked_of}
use Rattle.slate_tables.proofs.FindLaws.{finds_earlier, finds_later, finds_now, reads_add}

pub stats_now : (begun now : Reach) (root own : List ℕ) (after : Option (List Act)) (h : SsTableHandle) (stats : Stats) → root ≡ own → OnlyReads begun now →
    ReadsStats now.objects now.acts after own h (λ answer. IsStatsRead now.meaning.decode (of_stats h answer) stats) → FindsStats (asked_of begun root after) h stats
stats_now begun now root own after h stats is r p =
    finds_now (λ objects decode a b. ReadsStats objects a b root h (λ answer. IsStatsRead decode (of_stats h answer) stats)) begun now root after r
    (let P : List ℕ → Type 0 = λ x. ReadsStats now.objects now.acts after x h (λ answer. IsStatsRead now.meaning.decode (of_stats h answer) stats) in subst P (sym is) p)

pub stats_refused : (begun now : Reach) (root own : List ℕ) (after : Option (List Act)) (h : SsTableHandle) (e : SlateDBError) → root ≡ own → OnlyReads begun now →
    ReadsStats now.objects now.acts after own h (λ answer. RefusesStats now.meaning.decode (of_stats h answer) e) → RefusesStatsOf (asked_of begun root after) h e
stats_refused begun now root own after h e is r p =
    finds_now (λ objects decode a b. ReadsStats objects a b root h (λ answer. RefusesStats decode (of_stats h answer) e)) begun now root after r
    (let P : List ℕ → Type 0 = λ x. ReadsStats now.objects now.acts after x h (λ answer. RefusesStats now.meaning.decode (of_stats h answer) e) in subst P (sym is) p)

pub entries_now : (begun now : Reach) (root own : List ℕ) (after : Option (List Act)) (h : SsTableHandle) (entries : List (ℕ × List ℕ)) → root ≡ own → OnlyReads begun now →
    ReadsIndex now.objects now.acts after own h (λ answer. IsIndexRead now.meaning.decode h.info.filter_offset (of_index h answer) entries) → FindsEntries (asked_of begun root after) h entries
entries_now begun now root own after h entries is r p =
    finds_now (λ objects decode a b. ReadsIndex objects a b root h (λ answer. IsIndexRead decode h.info.filter_offset (of_index h answer) entries)) begun now root after r
    (let P : List ℕ → Type 0 = λ x. ReadsIndex now.objects now.acts after x h (λ answer. IsIndexRead now.meaning.decode h.info.filter_offset (of_index h answer) entries) in subst P (sym is) p)

pub index_refused : (begun now : Reach) (root own : List ℕ) (after : Option (List Act)) (h : SsTableHandle) (e : SlateDBError) → root ≡ own → OnlyReads begun now →
    ReadsIndex now.objects now.acts after own h (λ answer. RefusesIndex now.meaning.decode h.info.filter_offset (of_index h answer) e) → RefusesIndexOf (asked_of begun root after) h e
index_refused begun now root own after h e is r p =
    finds_now (λ objects decode a b. ReadsIndex objects a b root h (λ answer. RefusesIndex decode h.info.filter_offset (of_index h answer) e)) begun now root after r
    (let P : List ℕ → Type 0 = λ x. ReadsIndex now.objects now.acts after x h (λ answer. RefusesIndex now.meaning.decode h.info.filter_offset (of_index h answer) e) in subst P (sym is) p)

pub filters_now : (begun now : Reach) (root own : List ℕ) (after : Option (List Act)) (h : SsTableHandle) (filters : List (List ℕ × List ℕ)) → root ≡ own → OnlyReads begun now →
    ReadsFilters now.objects now.acts after own h (λ answer. AreFiltersRead now.meaning.decode (of_filters h answer) filters) → FindsFilters (asked_of begun root after) h filters
filters_now begun now root own after h filters is r p =
    inr (finds_now (λ objects decode a b. ReadsFilters objects a b root h (λ answer. AreFiltersRead decode (of_filters h answer) filters)) begun now root after r
    (let P : List ℕ → Type 0 = λ x. ReadsFilters now.objects now.acts after x h (λ answer. AreFiltersRead now.meaning.decode (of_filters h answer) filters) in subst P (sym is) p))

pub filters_refused : (begun now : Reach) (root own : List ℕ) (after : Option (List Act)) (h : SsTableHandle) (e : SlateDBError) → root ≡ own → OnlyReads begun now →
    ReadsFilters now.objects now.acts after own h (λ answer. RefusesFilters now.meaning.decode (of_filters h answer) e) → RefusesFiltersOf (asked_of begun root after) h e
filters_refused begun now root own after h e is r p =
    finds_now (λ objects decode a b. ReadsFilters objects a b root h (λ answer. RefusesFilters decode (of_filters h answer) e)) begun now root after r
    (let P : List ℕ → Type 0 = λ x. ReadsFilters now.objects now.acts after x h (λ answer. RefusesFilters now.meaning.decode (of_filters h answer) e) in subst P (sym is) p)

pub opens_now : (begun now : Reach) (root own : List ℕ) (after : Option (List Act)) (h : SsTableHandle) (id : Ulid) → root ≡ own → h.id ≡ id → OnlyReads begun now →
    IsOpened now.objects now.acts after (path_of own id.0) id.0 h.format_version (seen_info h.info) → OpensTo (asked_of begun root after) h
opens_now begun now root own after h id is named r p =
    let P : List ℕ → Type 0 = λ x. IsOpened now.objects now.acts after (path_of x id.0) id.0 h.format_version (seen_info h.info) in
    let Q : Ulid → Type 0 = λ x. IsOpened now.objects now.acts after (path_of root x.0) x.0 h.format_version (seen_info h.info) in
    finds_now (λ objects decode a b. IsOpened objects a b (path_of root h.id.0) h.id.0 h.format_version (seen_info h.info)) begun now root after r (subst Q (sym named) (subst P (sym is) p))

pub table_refused : (begun now : Reach) (root own : List ℕ) (after : Option (List Act)) (id : ℕ) (e : SlateDBError) → root ≡ own → OnlyReads begun now →
    RefusesOpen now.objects now.acts after (path_of own id) id e → RefusesTable (asked_of begun root after) id e
table_refused begun now root own after id e is r p =
    let P : List ℕ → Type 0 = λ x. RefusesOpen now.objects now.acts after (path_of x id) id e in
    finds_now (λ objects decode a b. RefusesOpen objects a b (path_of root id) id e) begun now root after r (subst P (sym is) p)

pub some_filters : (begun now : Reach) (root own : List ℕ) (after : Option (List Act)) (h : SsTableHandle) (filters : List (List ℕ × List ℕ)) → root ≡ own → OnlyReads begun now →
    (0 < h.info.filter_len → ReadsFilters now.objects now.acts after own h (λ answer. AreFiltersRead now.meaning.decode (of_filters h answer) filters)) → FindsFilters (asked_of begun root after) h filters
some_filters begun now root own after h filters is r found = by (eqb h.info.filter_len 0) refl
  where
    by : (t : Bool) → eqb h.info.filter_len 0 ≡ t → FindsFilters (asked_of begun root after) h filters
    by true none = inl (eqb-true h.info.filter_len 0 none)
    by false some = let is_some = eqb-false h.info.filter_len 0 some in filters_now begun now root own after h filters is r (found (omega (arith, is_some)))

-- a section that may be none
pub filters_add : (before after : Option (List Act)) (len : ℕ) (objects : Option Objects) (path : List ℕ) (start : ℕ) (means : Option (List ℕ) → Type 0) →
    (len ≡ 0 → after ≡ before) → (0 < len → Reads objects before after path start len means) → AddsReads before after
filters_add before after len objects path start means none some = by (eqb len 0) refl
  where
    P : Option (List Act) → Type 0
    P a = AddsReads before a

    by : (t : Bool) → eqb len 0 ≡ t → AddsReads before after
    by true is = subst P (sym (none (eqb-true len 0 is))) (adds_none before)
    by false is = let is_some = eqb-false len 0 is in reads_add objects before after path start len means (some (omega (arith, is_some)))

-- ---- what was found before

pub opens_later : (begun : Reach) (root : List ℕ) (before after : Option (List Act)) (h : SsTableHandle) → AddsReads before after → OpensTo (asked_of begun root before) h → OpensTo (asked_of begun root after) h
opens_later begun root before after h more f = finds_later (λ objects decode a b. IsOpened objects a b (path_of root h.id.0) h.id.0 h.format_version (seen_info h.info)) begun root before after more f

pub stats_later : (begun : Reach) (root : List ℕ) (before after : Option (List Act)) (h : SsTableHandle) (stats : Stats) → AddsReads before after → FindsStats (asked_of begun root before) h stats → FindsStats (asked_of begun root after) h stats
stats_later begun root before after h stats more f = finds_later (λ objects decode a b. ReadsStats objects a b root h (λ answer. IsStatsRead decode (of_stats h answer) stats)) begun root before after more f

pub entries_later : (begun : Reach) (root : List ℕ) (before after : Option (List Act)) (h : SsTableHandle) (entries : List (ℕ × List ℕ)) → AddsReads before after → FindsEntries (asked_of begun root before) h entries → FindsEntries (asked_of begun root after) h entries
entries_later begun root before after h entries more f = finds_later (λ objects decode a b. ReadsIndex objects a b root h (λ answer. IsIndexRead decode h.info.filter_offset (of_index h answer) entries)) begun root before after more f

filters_later : (begun : Reach) (root : List ℕ) (before after : Option (List Act)) (h : SsTableHandle) (filters : List (List ℕ × List ℕ)) → AddsReads before after → FindsFilters (asked_of begun root before) h filters → FindsFilters (asked_of begun root after) h filters
filters_later begun root before after h filters more (inl none) = inl none
filters_later begun root before after h filters more (inr f) = inr (finds_later (λ objects decode a b. ReadsFilters objects a b root h (λ answer. AreFiltersRead decode (of_filters h answer) filters)) begun root before after more f)

pub parts_later : (begun : Reach) (root : List ℕ) (before after : Option (List Act)) (h : SsTableHandle) (stats : Stats) (entries : List (ℕ × List ℕ)) → AddsReads before after → HasParts (asked_of begun root before) h stats entries → HasParts (asked_of begun root after) h stats entries
parts_later begun root before after h stats entries more f = record {
  filters = f.filters;
  opened = opens_later begun root before after h more f.opened;
  has_stats = stats_later begun root before after h stats more f.has_stats;
  has_index = entries_later begun root before after h entries more f.has_index;
  has_filters = filters_later begun root before after h f.filters more f.has_filters;
}

pub blocks_later : (begun : Reach) (root : List ℕ) (before after : Option (List Act)) (h : SsTableHandle) (entries : List (ℕ × List ℕ)) (blocks : List (List RowEntry)) → AddsReads before after → HasBlocks (asked_of begun root before) h entries blocks → HasBlocks (asked_of begun root after) h entries blocks
blocks_later begun root before after h entries blocks more f = λ i rows at.
    finds_later (λ objects decode a b. ReadsBlocks objects a b root h entries i (i + 1) (λ answer. AreRowsRead decode h.format_version (of_block h entries i answer) rows)) begun root before after more (f i rows at)

pub blocks_earlier : (begun now : Reach) (root : List ℕ) (after : Option (List Act)) (h : SsTableHandle) (entries : List (ℕ × List ℕ)) (blocks : List (List RowEntry)) → OnlyReads begun now → HasBlocks (asked_of now root after) h entries blocks → HasBlocks (asked_of begun root after) h entries blocks
blocks_earlier begun now root after h entries blocks r f = λ i rows at.
    finds_earlier (λ objects decode a b. ReadsBlocks objects a b root h entries i (i + 1) (λ answer. AreRowsRead decode h.format_version (of_block h entries i answer) rows)) begun now root after r (f i rows at)
