-- The tables of a flush stand in a run for each segment that its rows touch.
use Rattle.std.proofs.Common.{◌≡◌, inl, inr, ℕ, ◌<◌, Bool, true, false, cond, ◌||◌, List, [], ◌∷◌, ◌++◌, length, map, flat_map, Option, Some, None, option_to_list, refl, sym, ap, subst, ◌∙◌, arith, bytes_eq, append-nil, filter_map, Ordering, Less, Equal, Greater}
use Rattle.std.specs.Prelude.{Result, Ok, Err, IfOk, OnOk}
use Rattle.std.specs.BTreeSet.{insert_key}
use Rattle.std.specs.List.{AllByRecursion, cons_option}
use Rattle.std.specs.List.Sorted.{IsStrictlySortedBy}
use Rattle.std.specs.Ordering.{match_ordering}
use Rattle.std.proofs.lemmas.Cmp.{nat_list_cmp_total, tied_itself}
use Rattle.std.proofs.lemmas.Grind.{flat_map-append}
use Rattle.std.proofs.lemmas.List.{map-append}
use Rattle.std.proofs.lemmas.List.Elements.{filter-append}
use Rattle.slate_types.specs.declared.types.RowEntry.{RowEntry}
use Rattle.slate_types.specs.declared.types.Ulid.{Ulid}
use Rattle.slate_types.specs.Fold.{fold_rows}
use Rattle.slate_types.specs.Keys.{among, key_cmp, keys_set}
use Rattle.slate_types.specs.Outside.{Objects}
use Rattle.slate_types.proofs.KeyOrder.{bytes_eq_above, bytes_eq_below, bytes_eq_same, is_less}
use Rattle.slate_types.proofs.KeySetLaws.{AllAbove, set_keeps, set_rises}
use Rattle.slate_mem.specs.Batch.{batch_keys}
use Rattle.slate_mem.specs.KeyTests.{Segments, nest, prefix_by, prefix_of_len, prefixes, segment_refusal}
use Rattle.slate_mem.specs.Segments.{NeverNest}
use Rattle.slate_mem.proofs.TableLaws.{any_append}
use Rattle.slate_table.specs.Table.{IsTable}
use Rattle.slate_txn.specs.Open.{least_start}
use Rattle.slate_txn.specs.State.{Commit, State, last_of}
use Rattle.slate_txn.specs.declared.event.Event.TheVariants as events
use Rattle.slate_types.specs.declared.error.SlateDBError.TheVariants as errors
use Rattle.slate_db.specs.Cut.{AreOfSegment, GoesOn, segment_of}
use Rattle.slate_db.specs.Flushed.{AreTablesOfFlush, IsFlushed, IsFolded, Layout, after_install, idle, stored}
use Rattle.slate_db.specs.FlushLaws.{NoneNest}
use Rattle.slate_db.specs.Frozen.{IsFrozen}
use Rattle.slate_db.specs.Installs.{installed, tables_of}
use Rattle.slate_db.specs.Meaning.{Meaning, combine_of, rules_of}
use Rattle.slate_db.specs.Model.{CoreModel, Rows, memory, versions, versions_in}
use Rattle.slate_db.specs.Segmented.{HavePrefixes, IsSegmented}
use Rattle.slate_db.specs.SegmentRuns.{AddsSegmentRuns, IsSegmentRun, SegmentRun, of_segment}
use Rattle.slate_db.specs.Sound.{AreTables, IsTied, above, at_most, later}
use Rattle.slate_db.proofs.Cuts.{one_segment}
use Rattle.slate_db.proofs.FlushedKeys.{flushed_keys}
use Rattle.slate_db.proofs.Flushes.{frozen_settings, frozen_state}
use Rattle.slate_db.proofs.Installs.{tables_of_parts}
use Rattle.slate_db.proofs.Logs.{tables_more}
use Rattle.slate_db.proofs.OneSegment.{all_of_set, frozen_first, of_commits}
use Rattle.slate_db.proofs.Puttings.{frozen_tables}
use Rattle.slate_db.proofs.TouchedSegments.{IsUpTo, NoneFalls, falls_behind, has_prefix, rows_rise, set_of_same}
use Rattle.slate_types.proofs.Lists.{AllByRecursion_map, AllByRecursion_behind, AllByRecursion_weaken, AllByRecursion_filter}

-- ---- the rows of a segment

abbrev prefixes_in : Segments → Rows → List (List ℕ)
prefixes_in g rows = map (λ r. segment_of g r.key) rows

just_these : (g : Segments) (p : List ℕ) (rows : Rows) → AreOfSegment g p rows → of_segment g p rows ≡ rows
just_these g p [] are = refl
just_these g p (r ∷ rows) are = ap (λ b. cond b (r ∷ of_segment g p rows) (of_segment g p rows)) (ap (λ (q : List ℕ). bytes_eq q p) are.0 ∙ bytes_eq_same p) ∙ ap (λ (rs : Rows). r ∷ rs) (just_these g p rows are.1)

none_of_these : (g : Segments) (p q : List ℕ) → key_cmp p q ≡ Less → (rows : Rows) → AreOfSegment g p rows → of_segment g q rows ≡ []
none_of_these g p q below [] are = refl
none_of_these g p q below (r ∷ rows) are = ap (λ b. cond b (r ∷ of_segment g q rows) (of_segment g q rows)) (ap (λ (x : List ℕ). bytes_eq x q) are.0 ∙ bytes_eq_below p q below) ∙ none_of_these g p q below rows are.1

none_above : (g : Segments) (p : List ℕ) (rows : Rows) → AllAbove p (prefixes_in g rows) → of_segment g p rows ≡ []
none_above g p [] h = refl
none_above g p (r ∷ rows) h = ap (λ b. cond b (r ∷ of_segment g p rows) (of_segment g p rows)) (bytes_eq_above p (segment_of g r.key) h.0) ∙ none_above g p rows h.1

-- ---- what is true of all keys, and of all of their set

all_in_set : (P : List ℕ → Type 0) (k : List ℕ) (ks : List (List ℕ)) → P k → AllByRecursion P ks → AllByRecursion P (insert_key key_cmp ks k)
all_in_set P k [] h hs = (h, tt)
all_in_set P k (x ∷ ks) h hs = by (key_cmp k x) (all_in_set P k ks h hs.1)
  where
    by : (o : Ordering) → AllByRecursion P (insert_key key_cmp ks k) → AllByRecursion P (match_ordering o (k ∷ x ∷ ks) (x ∷ ks) (x ∷ insert_key key_cmp ks k))
    by Less later = (h, hs)
    by Equal later = hs
    by Greater later = (hs.0, later)

all_of_keys : (P : List ℕ → Type 0) (ks : List (List ℕ)) → AllByRecursion P ks → AllByRecursion P (keys_set ks)
all_of_keys P [] h = tt
all_of_keys P (k ∷ ks) h = all_in_set P k (keys_set ks) h.0 (all_of_keys P ks h.1)

all_higher : (p q : List ℕ) (ks : List (List ℕ)) → key_cmp p q ≡ Less → AllAbove q ks → AllAbove p ks
all_higher p q ks below higher = AllByRecursion_weaken _ _ (λ k h. nat_list_cmp_total.trans p q k below h) ks higher

-- ---- a table before those of others

record Grouped (m : Meaning) (g : Segments) (rows : Rows) (ts : List (Ulid × List ℕ)) : Type 0 where
  pub runs : List SegmentRun
  pub added : flat_map (λ run. run.tables) runs ≡ ts
  pub touched : map (λ run. run.prefix) runs ≡ keys_set (prefixes_in g rows)
  pub each : AllByRecursion (IsSegmentRun m g rows) runs

-- rows of a segment below them make no difference to runs
others : (m : Meaning) (g : Segments) (p : List ℕ) (rows rest : Rows) → AreOfSegment g p rows → (runs : List SegmentRun) → AllAbove p (map (λ run. run.prefix) runs) → AllByRecursion (IsSegmentRun m g rest) runs →
    AllByRecursion (IsSegmentRun m g (rows ++ rest)) runs
others m g p rows rest are [] h each = tt
others m g p rows rest are (run ∷ runs) h each = (
  record {
    some = each.0.some;
    are = each.0.are;
    all = each.0.all ∙ sym (filter-append (λ (r : RowEntry). bytes_eq (segment_of g r.key) run.prefix) rows rest ∙ ap (λ (rs : Rows). rs ++ of_segment g run.prefix rest) (none_of_these g p run.prefix h.0 rows are));
  },
  others m g p rows rest are runs h.1 each.1,
)

segment_more : (g : Segments) (p : List ℕ) (rows rest : Rows) → AreOfSegment g p rows → of_segment g p (rows ++ rest) ≡ rows ++ of_segment g p rest
segment_more g p rows rest are = filter-append (λ (r : RowEntry). bytes_eq (segment_of g r.key) p) rows rest ∙ ap (λ (rs : Rows). rs ++ of_segment g p rest) (just_these g p rows are)

some_prefixes : (g : Segments) (rows : Rows) → 0 < length rows → 0 < length (prefixes_in g rows)
some_prefixes g [] some = some
some_prefixes g (r ∷ rows) some = omega arith

touched_more : (g : Segments) (p : List ℕ) (rows rest : Rows) → 0 < length rows → AreOfSegment g p rows → keys_set (prefixes_in g (rows ++ rest)) ≡ insert_key key_cmp (keys_set (prefixes_in g rest)) p
touched_more g p rows rest some are =
    ap keys_set (map-append (λ (r : RowEntry). segment_of g r.key) rows rest)
    ∙ set_of_same p (prefixes_in g rows) (prefixes_in g rest) (some_prefixes g rows some) (AllByRecursion_map (λ r. segment_of g r.key) (λ q. q ≡ p) rows are)

-- a run of its own
apart : (m : Meaning) (g : Segments) (t : Ulid × List ℕ) (ts : List (Ulid × List ℕ)) (version : ℕ) (p : List ℕ) (rows rest : Rows) → IsTable m.encode t.1 version t.0.0 rows → 0 < length rows → AreOfSegment g p rows →
    (before : Grouped m g rest ts) → AllAbove p (map (λ run. run.prefix) before.runs) → Grouped m g (rows ++ rest) (t ∷ ts)
apart m g t ts version p rows rest table some are before higher = record {
  runs = run ∷ before.runs;
  added = ap (λ (xs : List (Ulid × List ℕ)). t ∷ xs) before.added;
  touched = first before.runs higher ∙ ap (λ (ks : List (List ℕ)). insert_key key_cmp ks p) before.touched ∙ sym (touched_more g p rows rest some are);
  each = (
    record {
      some = omega arith;
      are = (version, rows, [], table, refl, refl);
      all = append-nil rows ∙ sym (append-nil rows) ∙ ap (λ (rs : Rows). rows ++ rs) (sym (none_above g p rest none)) ∙ sym (segment_more g p rows rest are);
    },
    others m g p rows rest are before.runs higher before.each,
  );
}
  where
    run : SegmentRun
    run = record { prefix = p; tables = t ∷ []; parts = rows ∷ [] }

    none : AllAbove p (prefixes_in g rest)
    none = all_of_set (λ x. key_cmp p x ≡ Less) (prefixes_in g rest) (subst (AllAbove p) before.touched higher)

    first : (runs : List SegmentRun) → AllAbove p (map (λ r. r.prefix) runs) → p ∷ map (λ r. r.prefix) runs ≡ insert_key key_cmp (map (λ r. r.prefix) runs) p
    first [] h = refl
    first (next ∷ runs) h = ap (λ o. match_ordering o (p ∷ map (λ r. r.prefix) (next ∷ runs)) (map (λ r. r.prefix) (next ∷ runs)) (next.prefix ∷ insert_key key_cmp (map (λ r. r.prefix) runs) p)) (sym h.0)

-- in the run that comes next
joined : (m : Meaning) (g : Segments) (t : Ulid × List ℕ) (ts : List (Ulid × List ℕ)) (version : ℕ) (rows rest : Rows) (next : SegmentRun) (runs : List SegmentRun) → IsTable m.encode t.1 version t.0.0 rows → 0 < length rows → AreOfSegment g next.prefix rows →
    next.tables ++ flat_map (λ run. run.tables) runs ≡ ts → next.prefix ∷ map (λ run. run.prefix) runs ≡ keys_set (prefixes_in g rest) → AllByRecursion (IsSegmentRun m g rest) (next ∷ runs) → AllAbove next.prefix (map (λ run. run.prefix) runs) →
    Grouped m g (rows ++ rest) (t ∷ ts)
joined m g t ts version rows rest next runs table some are added touched each higher = record {
  runs = record { prefix = next.prefix; tables = t ∷ next.tables; parts = rows ∷ next.parts } ∷ runs;
  added = ap (λ (xs : List (Ulid × List ℕ)). t ∷ xs) added;
  touched = sym (ap (λ o. match_ordering o (next.prefix ∷ next.prefix ∷ map (λ run. run.prefix) runs) (next.prefix ∷ map (λ run. run.prefix) runs) (next.prefix ∷ insert_key key_cmp (map (λ run. run.prefix) runs) next.prefix)) (tied_itself nat_list_cmp_total next.prefix))
      ∙ ap (λ (ks : List (List ℕ)). insert_key key_cmp ks next.prefix) touched ∙ sym (touched_more g next.prefix rows rest some are);
  each = (
    record {
      some = omega arith;
      are = (version, rows, next.parts, table, each.0.are, refl);
      all = ap (λ (rs : Rows). rows ++ rs) each.0.all ∙ sym (segment_more g next.prefix rows rest are);
    },
    others m g next.prefix rows rest are runs higher each.1,
  );
}

table_before : (m : Meaning) (g : Segments) (t : Ulid × List ℕ) (ts : List (Ulid × List ℕ)) (version : ℕ) (p : List ℕ) (rows rest : Rows) → IsTable m.encode t.1 version t.0.0 rows → 0 < length rows → AreOfSegment g p rows →
    AllByRecursion (IsUpTo p) (prefixes_in g rest) → Grouped m g rest ts → Grouped m g (rows ++ rest) (t ∷ ts)
unfolding IsStrictlySortedBy
table_before m g t ts version p rows rest table some are up before =
    by before.runs refl (subst (AllByRecursion (IsUpTo p)) (sym before.touched) (all_of_keys (IsUpTo p) (prefixes_in g rest) up)) (subst (IsStrictlySortedBy key_cmp) (sym before.touched) (set_rises (prefixes_in g rest)))
  where
    by : (runs : List SegmentRun) → before.runs ≡ runs → AllByRecursion (IsUpTo p) (map (λ run. run.prefix) before.runs) → IsStrictlySortedBy key_cmp (map (λ run. run.prefix) before.runs) → Grouped m g (rows ++ rest) (t ∷ ts)
    by [] is up rises = apart m g t ts version p rows rest table some are before (subst (λ (xs : List SegmentRun). AllAbove p (map (λ run. run.prefix) xs)) (sym is) tt)
    by (next ∷ runs) is up rises = next_is (subst (λ (xs : List SegmentRun). AllByRecursion (IsUpTo p) (map (λ run. run.prefix) xs)) is up).0
      where
        above : AllAbove next.prefix (map (λ run. run.prefix) runs)
        above = (subst (λ (xs : List SegmentRun). IsStrictlySortedBy key_cmp (map (λ run. run.prefix) xs)) is rises).0

        next_is : IsUpTo p next.prefix → Grouped m g (rows ++ rest) (t ∷ ts)
        next_is (inl same) = joined m g t ts version rows rest next runs table some (subst (λ (q : List ℕ). AreOfSegment g q rows) same are)
            (subst (λ (xs : List SegmentRun). flat_map (λ run. run.tables) xs ≡ ts) is before.added)
            (subst (λ (xs : List SegmentRun). map (λ run. run.prefix) xs ≡ keys_set (prefixes_in g rest)) is before.touched)
            (subst (AllByRecursion (IsSegmentRun m g rest)) is before.each) above
        next_is (inr below) = apart m g t ts version p rows rest table some are before
            (subst (λ (xs : List SegmentRun). AllAbove p (map (λ run. run.prefix) xs)) (sym is) (is_less (key_cmp p next.prefix) below, all_higher p next.prefix (map (λ run. run.prefix) runs) (is_less (key_cmp p next.prefix) below) above))

-- ---- all tables

grouped : (m : Meaning) (g : Segments) (limit : ℕ) (ts : List (Ulid × List ℕ)) (parts : List Rows) → AreTables m ts parts → AllByRecursion (λ rows. 0 < length rows) parts → AllByRecursion (GoesOn g limit) parts →
    NoneFalls (prefixes_in g (flat_map (λ rows. rows) parts)) → Grouped m g (flat_map (λ rows. rows) parts) ts
grouped m g limit [] parts are some on none = subst (λ (xs : List Rows). Grouped m g (flat_map (λ rows. rows) xs) []) (sym are) (record { runs = []; added = refl; touched = refl; each = tt })
grouped m g limit (t ∷ ts) parts (version, rows, rest, table, are, is) some on none =
    subst (λ (xs : List Rows). Grouped m g (flat_map (λ rs. rs) xs) (t ∷ ts)) (sym is)
    (by rows table (λ some on none. grouped m g limit ts rest are some on none) (subst (AllByRecursion (λ rs. 0 < length rs)) is some) (subst (AllByRecursion (GoesOn g limit)) is on) (subst (λ (xs : List Rows). NoneFalls (prefixes_in g (flat_map (λ rs. rs) xs))) is none))
  where
    by : (rows : Rows) → IsTable m.encode t.1 version t.0.0 rows →
        (AllByRecursion (λ rs. 0 < length rs) rest → AllByRecursion (GoesOn g limit) rest → NoneFalls (prefixes_in g (flat_map (λ rs. rs) rest)) → Grouped m g (flat_map (λ rs. rs) rest) ts) → AllByRecursion (λ rs. 0 < length rs) (rows ∷ rest) → AllByRecursion (GoesOn g limit) (rows ∷ rest) → NoneFalls (prefixes_in g (rows ++ flat_map (λ rs. rs) rest)) →
        Grouped m g (rows ++ flat_map (λ rs. rs) rest) (t ∷ ts)
    by [] table later some on none = absurd (omega (arith, some.0))
    by (r ∷ rs) table later some on none =
        let both = subst NoneFalls (map-append (λ (x : RowEntry). segment_of g x.key) (r ∷ rs) (flat_map (λ xs. xs) rest)) none in
        table_before m g t ts version (segment_of g r.key) (r ∷ rs) (flat_map (λ xs. xs) rest) table some.0 (one_segment g limit r rs on.0)
        (AllByRecursion_behind (IsUpTo (segment_of g r.key)) (prefixes_in g rs) (prefixes_in g (flat_map (λ xs. xs) rest)) both.0)
        (later some.1 on.1 (falls_behind (prefixes_in g (r ∷ rs)) (prefixes_in g (flat_map (λ xs. xs) rest)) both))

-- ---- the segment of a key with a row in memory is recorded

abbrev IsRecorded : Segments → List (List ℕ) → List ℕ → Type 0
IsRecorded None ps k = Unit {0}
IsRecorded (Some f) ps k = among (segment_of (Some f) k) ps ≡ true

or_first : (a b : Bool) → a ≡ true → (a || b) ≡ true
or_first a b h = ap (λ x. x || b) h

or_second : (a b : Bool) → b ≡ true → (a || b) ≡ true
or_second true b h = refl
or_second false b h = h

keys_recorded : (g : Segments) (ps ks : List (List ℕ)) → AllByRecursion (λ k. segment_refusal g k ≡ None) ks → ((p : List ℕ) → among p (filter_map (prefix_by g) ks) ≡ true → among p ps ≡ true) → AllByRecursion (IsRecorded g ps) ks
keys_recorded g ps [] fine within = tt
keys_recorded None ps (k ∷ ks) fine within = (tt, keys_recorded None ps ks fine.1 within)
keys_recorded (Some f) ps (k ∷ ks) fine within =
    let is : prefix_of_len k (f k) ≡ Some (segment_of (Some f) k) = has_prefix (prefix_of_len k (f k)) (segment_of (Some f) k) (errors.EmptySegmentPrefix k) fine.0 refl in
    let all : filter_map (prefix_by (Some f)) (k ∷ ks) ≡ segment_of (Some f) k ∷ filter_map (prefix_by (Some f)) ks = ap (λ (o : Option (List ℕ)). cons_option o (filter_map (prefix_by (Some f)) ks)) is in (
      within (segment_of (Some f) k) (ap (among (segment_of (Some f) k)) all ∙ or_first _ _ (bytes_eq_same (segment_of (Some f) k))),
      keys_recorded (Some f) ps ks fine.1 (λ p h. within p (ap (among p) all ∙ or_second _ _ h)),
    )

commits_recorded : (g : Segments) (ps : List (List ℕ)) (cs : List Commit) → HavePrefixes g cs → ((p : List ℕ) → among p (flat_map (λ c. prefixes g c.ops) cs) ≡ true → among p ps ≡ true) →
    AllByRecursion (λ c. AllByRecursion (IsRecorded g ps) (batch_keys c.ops)) cs
commits_recorded g ps [] have within = tt
commits_recorded g ps (c ∷ cs) have within = (
  keys_recorded g ps (batch_keys c.ops) have.0 (λ p h. within p (any_append p (prefixes g c.ops) (flat_map (λ d. prefixes g d.ops) cs) ∙ or_first _ _ h)),
  commits_recorded g ps cs have.1 (λ p h. within p (any_append p (prefixes g c.ops) (flat_map (λ d. prefixes g d.ops) cs) ∙ or_second _ _ h)),
)

none_nests : (g : Segments) (ps : List (List ℕ)) → NeverNest ps → (j k : List ℕ) → IsRecorded g ps j → IsRecorded g ps k → nest (segment_of g j) (segment_of g k) ≡ false
none_nests None ps apart j k is-j is-k = refl
none_nests (Some f) ps apart j k is-j is-k = apart (segment_of (Some f) j) (segment_of (Some f) k) is-j is-k

none_nest : (g : Segments) (ps : List (List ℕ)) → NeverNest ps → (rows : Rows) → AllByRecursion (λ r. IsRecorded g ps r.key) rows → NoneNest g rows
none_nest g ps apart [] are = tt
none_nest g ps apart (r ∷ rows) are = (AllByRecursion_weaken _ _ (λ s h. none_nests g ps apart r.key s.key are.0 h) rows are.1, none_nest g ps apart rows are.1)

rows_recorded : (m : Meaning) (g : Segments) (old mid : CoreModel) (barrier : ℕ) (rows : Rows) → IsFrozen old mid → IsTied m old → IsSegmented g old → IsFolded m barrier mid.frozen rows → AllByRecursion (λ r. IsRecorded g old.segments r.key) rows
rows_recorded m g old mid barrier rows frozen tied z folded = flushed_keys m barrier mid.frozen rows (IsRecorded g old.segments) folded has
  where
    within : (p : List ℕ) → among p (flat_map (λ c. prefixes g c.ops) old.state.commits) ≡ true → among p old.segments ≡ true
    within p h = ap (among p) z.recorded ∙ set_keeps (flat_map (λ c. prefixes g c.ops) old.state.commits) p ∙ h

    has : (k : List ℕ) (r : RowEntry) (rs : Rows) → versions_in k mid.frozen ≡ r ∷ rs → IsRecorded g old.segments k
    has k r rs is =
        let first = frozen_first k old mid frozen in
        of_commits (IsRecorded g old.segments) (rules_of old.settings m) k (above (installed old.events) old.state.commits) r (rs ++ first.0) (AllByRecursion_filter _ _ old.state.commits (commits_recorded g old.segments old.state.commits z.each within))
        (sym (tied k) ∙ first.1 ∙ ap (λ (xs : Rows). xs ++ first.0) is)

-- ---- a flush behind its freeze

-- the rows in memory are those that are frozen
all_frozen : (k : List ℕ) (old mid : CoreModel) → IsFrozen old mid → versions_in k (memory old) ≡ versions_in k mid.frozen
all_frozen k old mid (inl (none, is)) =
    ap (λ (rows : Rows). versions_in k (old.frozen ++ (rows ∷ []))) none ∙ flat_map-append (versions k) old.frozen ([] ∷ []) ∙ append-nil (versions_in k old.frozen) ∙ ap (λ (c : CoreModel). versions_in k c.frozen) (sym is)
all_frozen k old mid (inr (some, is)) = ap (λ (c : CoreModel). versions_in k c.frozen) (sym is)

folded_in_memory : (m : Meaning) (b d : ℕ) (old mid : CoreModel) (rows : Rows) → b ≡ d → IsFrozen old mid → IsFolded m b mid.frozen rows → IsFolded m d (memory old) rows
folded_in_memory m b d old mid rows same frozen folded k =
    folded k ∙ (λ i. option_to_list (fold_rows (combine_of m k) (at_most (same i) (sym (all_frozen k old mid frozen) i))) ++ later (same i) (sym (all_frozen k old mid frozen) i))

least_before : (old mid : CoreModel) (n : ℕ) → IsFrozen old mid → n ≡ last_of mid.settings.start_seq mid.state.commits → least_start n mid.state ≡ least_start (last_of old.settings.start_seq old.state.commits) old.state
least_before old mid n frozen newest =
    ap (λ x. least_start x mid.state) newest ∙ (let s = frozen_state old mid frozen in let t = frozen_settings old mid frozen in λ i. least_start (last_of (t i).start_seq (s i).commits) (s i))

-- nothing was stored
pub none_added : (m : Meaning) (g : Segments) (old mid new : CoreModel) (state : State) → IsFrozen old mid → mid.frozen ≡ [] → new ≡ record mid { state = state } → AddsSegmentRuns m g old (tables_of old.events) (tables_of new.events)
none_added m g old mid new state frozen none is = record {
  rows = [];
  folded = folded_in_memory m (least_start (last_of old.settings.start_seq old.state.commits) old.state) _ old mid [] refl frozen (subst (λ (layers : List Rows). IsFolded m (least_start (last_of old.settings.start_seq old.state.commits) old.state) layers []) (sym none) (λ k. refl));
  order = tt;
  runs = [];
  added = ap (λ (c : CoreModel). tables_of c.events) is ∙ frozen_tables old mid frozen ∙ sym (append-nil (tables_of old.events));
  touched = refl;
  each = tt;
}

some_added : (m : Meaning) (layout : Layout) (old mid new : CoreModel) (number n : ℕ) (ts : List (Ulid × List ℕ)) → IsFrozen old mid → IsTied m old → IsSegmented layout.segments old → n ≡ last_of mid.settings.start_seq mid.state.commits →
    new ≡ after_install mid n ts new.spare → AreTablesOfFlush m layout number (least_start n mid.state) mid.frozen ts → AddsSegmentRuns m layout.segments old (tables_of old.events) (tables_of new.events)
some_added m layout old mid new number n ts frozen tied z newest is made = record {
  rows = made.rows;
  folded = folded_in_memory m (least_start n mid.state) _ old mid made.rows (least_before old mid n frozen newest) frozen made.folded;
  order = made.order;
  runs = runs.runs;
  added = ap (λ (c : CoreModel). tables_of c.events) is ∙ tables_more mid.events (events.Install n ts) ∙ (λ i. frozen_tables old mid frozen i ++ sym runs.added i);
  touched = runs.touched;
  each = runs.each;
}
  where
    all : flat_map (λ rows. rows) made.parts ≡ made.rows
    all = made.cut.all

    none : NoneFalls (prefixes_in layout.segments made.rows)
    none = rows_rise layout.segments made.rows made.order (none_nest layout.segments old.segments z.apart made.rows (rows_recorded m layout.segments old mid (least_start n mid.state) made.rows frozen tied z made.folded))

    runs : Grouped m layout.segments made.rows ts
    runs = subst (λ (rows : Rows). Grouped m layout.segments rows ts) all
        (grouped m layout.segments layout.table_bytes ts made.parts (tables_of_parts m m.encode layout number 0 made.parts ts refl made.built)
        made.cut.some made.cut.go_on (subst (λ (rows : Rows). NoneFalls (prefixes_in layout.segments rows)) (sym all) none))

pub adds_runs : {E : Type 0} (r : Result ℕ E) (m : Meaning) (layout : Layout) (old mid new : CoreModel) (before after : Option Objects) → IsFrozen old mid → IfOk r (λ n. n ≡ last_of mid.settings.start_seq mid.state.commits) →
    IfOk r (λ n. IsFlushed m layout mid new n before after) → IsTied m old → IsSegmented layout.segments old → OnOk r (AddsSegmentRuns m layout.segments old (tables_of old.events) (tables_of new.events))
adds_runs (Ok n) m layout old mid new before after frozen newest (idle none is left) tied z = none_added m layout.segments old mid new _ frozen none is
adds_runs (Ok n) m layout old mid new before after frozen newest (stored ts is made taken) tied z = some_added m layout old mid new _ n ts frozen tied z newest is made
adds_runs (Err e) m layout old mid new before after frozen newest flushed tied z = tt
