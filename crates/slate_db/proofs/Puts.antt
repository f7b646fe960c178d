-- The rows of a commit in a memtable: they stay in order, and behind the older versions of each key stands the commit's row.
use Rattle.std.proofs.Common.{◌≡◌, ℕ, ◌+◌, ◌<◌, ◌≤◌, Bool, true, false, cond, ◌||◌, List, [], ◌∷◌, ◌++◌, map, filter, filter_map, reverse, bytes_eq, Option, Some, None, option_to_list, is_some, ℤ, refl, sym, ap, subst, ◌∙◌, arith, Ordering, Less, Equal, Greater, append-nil, nat_lt}
use Rattle.std.specs.Prelude.{IsTrue}
use Rattle.std.specs.Ordering.{is_lt, ordering_reverse, match_ordering}
use Rattle.std.specs.List.{AllByRecursion, cons_option}
use Rattle.std.specs.List.Sorted.{IsStrictlySortedBy}
use Rattle.std.proofs.lemmas.Grind.{flat_map-append}
use Rattle.std.proofs.lemmas.List.{reverse-append}
use Rattle.std.proofs.lemmas.Slice.Eq.{bytes_eq-Decides}
use Rattle.slate_types.specs.declared.types.RowEntry.{RowEntry}
use Rattle.slate_types.specs.Keys.{key_cmp, among}
use Rattle.slate_types.specs.Rows.{row_lt, sequenced, sequenced_cmp, of_key}
use Rattle.slate_types.specs.Fold.{Combine}
use Rattle.slate_types.proofs.KeySetLaws.{set_rises, among_above, AllAbove}
use Rattle.slate_types.proofs.RowLaws.{sequenced_total, sequenced_same, rows_by_sequenced}
use Rattle.slate_mem.specs.Batch.{Ops, batch_keys}
use Rattle.slate_mem.specs.CommitRows.{commit_rows}
use Rattle.slate_mem.specs.RowOf.{row_of}
use Rattle.slate_mem.specs.Table.{put_row, put_rows}
use Rattle.slate_mem.proofs.BatchLaws.{has_one_row, among_keys, some_of}
use Rattle.slate_mem.proofs.MemLaws.{puts_in_front}
use Rattle.slate_mem.proofs.RowOfLaws.{row_has}
use Rattle.slate_table.specs.Table.{AreInOrder}
use Rattle.slate_txn.specs.State.{Rules, Commit, last_of, combine_at}
use Rattle.slate_txn.specs.Reads.{key_rows}
use Rattle.slate_db.specs.Meaning.{Meaning, rules_of}
use Rattle.slate_db.specs.Model.{CoreModel, Rows, versions, versions_in}
use Rattle.slate_db.specs.Installs.{installed}
use Rattle.slate_db.specs.Sound.{above, IsKept}
use Rattle.slate_db.specs.Log.{Rising}
use Rattle.slate_db.specs.Whole.{IsWhole, Unseen}
use Rattle.slate_db.proofs.Folds.{row_of_seq}
use Rattle.slate_db.proofs.Split.{last_within}
use Rattle.slate_db.proofs.Versions.{twice}
use Rattle.slate_types.proofs.Lists.{AllByRecursion_behind, AllByRecursion_filter}

-- ---- the order

is_less : (o : Ordering) → is_lt o ≡ true → o ≡ Less
is_less Less h = refl
is_less Equal h = cc
is_less Greater h = cc

stands : (r s : RowEntry) → sequenced_cmp (sequenced r) (sequenced s) ≡ Less → row_lt r s ≡ true
stands r s h = rows_by_sequenced r s ∙ ap is_lt h

pub stood : (r s : RowEntry) → row_lt r s ≡ true → sequenced_cmp (sequenced r) (sequenced s) ≡ Less
stood r s h = is_less _ (sym (rows_by_sequenced r s) ∙ h)

Before : RowEntry → Rows → Type 0
Before r rows = AllByRecursion (λ s. IsTrue (row_lt r s)) rows

before_all : (row r : RowEntry) (rs : Rows) → sequenced_cmp (sequenced row) (sequenced r) ≡ Less → Before r rs → Before row rs
unfolding Before
before_all row r [] h b = tt
before_all row r (s ∷ rs) h b = (stands row s (sequenced_total.trans (sequenced row) (sequenced r) (sequenced s) h (stood r s b.0)), before_all row r rs h b.1)

before_same : (row r : RowEntry) (rs : Rows) → sequenced row ≡ sequenced r → Before r rs → Before row rs
unfolding Before
before_same row r [] h b = tt
before_same row r (s ∷ rs) h b = (stands row s (ap (λ q. sequenced_cmp q (sequenced s)) h ∙ stood r s b.0), before_same row r rs h b.1)

before_put : (r row : RowEntry) (rs : Rows) → sequenced_cmp (sequenced r) (sequenced row) ≡ Less → Before r rs → Before r (put_row rs row)
unfolding Before
before_put r row [] h b = (stands r row h, tt)
before_put r row (s ∷ rs) h b = by (sequenced_cmp (sequenced row) (sequenced s)) (before_put r row rs h b.1)
  where
    by : (o : Ordering) → AllByRecursion (λ s. IsTrue (row_lt r s)) (put_row rs row) → AllByRecursion (λ s. IsTrue (row_lt r s)) (match_ordering o (row ∷ s ∷ rs) (row ∷ rs) (s ∷ put_row rs row))
    by Less later = (stands r row h, b)
    by Equal later = (stands r row h, b.1)
    by Greater later = (b.0, later)

order_put : (rows : Rows) (row : RowEntry) → AreInOrder rows → AreInOrder (put_row rows row)
unfolding Before
order_put [] row h = (tt, tt)
order_put (r ∷ rs) row h = by (sequenced_cmp (sequenced row) (sequenced r)) refl (order_put rs row h.1)
  where
    by : (o : Ordering) → sequenced_cmp (sequenced row) (sequenced r) ≡ o → AreInOrder (put_row rs row) → AreInOrder (match_ordering o (row ∷ r ∷ rs) (row ∷ rs) (r ∷ put_row rs row))
    by Less is later = ((stands row r is, before_all row r rs is h.0), h)
    by Equal is later = (before_same row r rs (sequenced_same (sequenced row) (sequenced r) is) h.0, h.1)
    by Greater is later = (before_put r row rs (sequenced_total.antisymm (sequenced r) (sequenced row) ∙ ap ordering_reverse is) h.0, later)

pub order_puts : (rows more : Rows) → AreInOrder rows → AreInOrder (put_rows rows more)
order_puts rows [] h = h
order_puts rows (m ∷ more) h = order_puts (put_row rows m) more (order_put rows m h)

-- ---- some rows

abbrev HasRows : Rows → Type 0
HasRows [] = ⊥
HasRows (r ∷ rs) = Unit {0}

put_some : (rows : Rows) (row : RowEntry) → HasRows (put_row rows row)
put_some [] row = tt
put_some (r ∷ rs) row = by (sequenced_cmp (sequenced row) (sequenced r))
  where
    by : (o : Ordering) → HasRows (match_ordering o (row ∷ r ∷ rs) (row ∷ rs) (r ∷ put_row rs row))
    by Less = tt
    by Equal = tt
    by Greater = tt

puts_keep : (rows more : Rows) → HasRows rows → HasRows (put_rows rows more)
puts_keep rows [] h = h
puts_keep rows (m ∷ more) h = puts_keep (put_row rows m) more (put_some rows m)

puts_some : (rows more : Rows) → HasRows more → HasRows (put_rows rows more)
puts_some rows [] h = absurd h
puts_some rows (m ∷ more) h = puts_keep (put_row rows m) more (put_some rows m)

not_none : (rows : Rows) → HasRows rows → rows ≡ [] → ⊥
not_none [] h e = h
not_none (r ∷ rs) h e = cc

-- ---- rows of keys, one each

of_keys : (List ℕ → Option RowEntry) → List (List ℕ) → Rows
of_keys f ks = filter_map f ks

HasKeys : (List ℕ → Option RowEntry) → Type 0
HasKeys f = (k : List ℕ) (r : RowEntry) → f k ≡ Some r → r.key ≡ k

above_rows : (f : List ℕ → Option RowEntry) → HasKeys f → (j : List ℕ) (ks : List (List ℕ)) → AllAbove j ks → AllAbove j (map (λ r. r.key) (of_keys f ks))
unfolding HasKeys of_keys
above_rows f keyed j [] h = tt
above_rows f keyed j (k ∷ ks) h = by (f k) refl (above_rows f keyed j ks h.1)
  where
    by : (o : Option RowEntry) → f k ≡ o → AllAbove j (map (λ r. r.key) (filter_map f ks)) → AllAbove j (map (λ r. r.key) (cons_option o (filter_map f ks)))
    by None is later = later
    by (Some r) is later = (subst (λ q. key_cmp j q ≡ Less) (sym (keyed k r is)) h.0, later)

rising_rows : (f : List ℕ → Option RowEntry) → HasKeys f → (ks : List (List ℕ)) → IsStrictlySortedBy key_cmp ks → IsStrictlySortedBy key_cmp (map (λ r. r.key) (of_keys f ks))
unfolding HasKeys of_keys IsStrictlySortedBy
rising_rows f keyed [] h = tt
rising_rows f keyed (k ∷ ks) h = by (f k) refl (rising_rows f keyed ks h.1)
  where
    by : (o : Option RowEntry) → f k ≡ o → IsStrictlySortedBy key_cmp (map (λ r. r.key) (filter_map f ks)) → IsStrictlySortedBy key_cmp (map (λ r. r.key) (cons_option o (filter_map f ks)))
    by None is later = later
    by (Some r) is later = (subst (λ q. AllAbove q (map (λ r. r.key) (filter_map f ks))) (sym (keyed k r is)) (above_rows f keyed k ks h.0), later)

pub all_rows : (P : RowEntry → Type 0) (f : List ℕ → Option RowEntry) → ((k : List ℕ) (r : RowEntry) → f k ≡ Some r → P r) → (ks : List (List ℕ)) → AllByRecursion P (filter_map f ks)
all_rows P f each [] = tt
all_rows P f each (k ∷ ks) = by (f k) refl (all_rows P f each ks)
  where
    by : (o : Option RowEntry) → f k ≡ o → AllByRecursion P (filter_map f ks) → AllByRecursion P (cons_option o (filter_map f ks))
    by None is later = later
    by (Some r) is later = (each k r is, later)

one_row : (f : List ℕ → Option RowEntry) → HasKeys f → (k : List ℕ) (ks : List (List ℕ)) → IsStrictlySortedBy key_cmp ks → of_key k (of_keys f ks) ≡ cond (among k ks) (option_to_list (f k)) []
unfolding HasKeys of_keys IsStrictlySortedBy
one_row f keyed k [] h = refl
one_row f keyed k (j ∷ js) h = by (f j) refl (bytes_eq j k) refl (one_row f keyed k js h.1)
  where
    by : (o : Option RowEntry) → f j ≡ o → (b : Bool) → bytes_eq j k ≡ b → of_key k (filter_map f js) ≡ cond (among k js) (option_to_list (f k)) [] →
        of_key k (cons_option o (filter_map f js)) ≡ cond (b || among k js) (option_to_list (f k)) []
    by None is true e later =
        let same : j ≡ k = (bytes_eq-Decides j k).0 e in
        later ∙ ap (λ t. cond t (option_to_list (f k)) []) (ap (λ q. among q js) (sym same) ∙ among_above j js h.0)
        ∙ sym (ap option_to_list (ap f (sym same) ∙ is))
    by None is false e later = later
    by (Some r) is true e later =
        let same : j ≡ k = (bytes_eq-Decides j k).0 e in
        ap (λ q. cond (bytes_eq q k) (r ∷ of_key k (filter_map f js)) (of_key k (filter_map f js))) (keyed j r is)
        ∙ ap (λ t. cond t (r ∷ of_key k (filter_map f js)) (of_key k (filter_map f js))) e
        ∙ ap (λ rs. r ∷ rs) (later ∙ ap (λ t. cond t (option_to_list (f k)) []) (ap (λ q. among q js) (sym same) ∙ among_above j js h.0))
        ∙ sym (ap option_to_list (ap f (sym same) ∙ is))
    by (Some r) is false e later =
        ap (λ q. cond (bytes_eq q k) (r ∷ of_key k (filter_map f js)) (of_key k (filter_map f js))) (keyed j r is)
        ∙ ap (λ t. cond t (r ∷ of_key k (filter_map f js)) (of_key k (filter_map f js))) e
        ∙ later

-- a commit has no row for a key that isn't its batch's
only_own : (o : Option RowEntry) (b : Bool) → is_some o ≡ b → cond b (option_to_list o) [] ≡ option_to_list o
only_own None true h = refl
only_own None false h = refl
only_own (Some r) true h = refl
only_own (Some r) false h = cc

turned : (o : Option RowEntry) → reverse (option_to_list o) ≡ option_to_list o
turned None = refl
turned (Some r) = refl

-- ---- the rows of a commit

pub versions_more : (c : List ℕ → Combine) (d : Option ℕ) (n : ℕ) (now : ℤ) (ops : Ops) (rows : Rows) (k : List ℕ) → AllByRecursion (λ r. r.seq < n) (of_key k rows) →
    versions k (put_rows rows (commit_rows c d n now ops)) ≡ versions k rows ++ option_to_list (row_of (c k) d n now ops k)
unfolding HasKeys of_keys
versions_more c d n now ops rows k older =
    ap reverse (puts_in_front k n rows (commit_rows c d n now ops) older seqs rising)
    ∙ reverse-append (of_key k (commit_rows c d n now ops)) (of_key k rows)
    ∙ ap (λ rs. versions k rows ++ rs) (ap reverse own ∙ turned (row k))
  where
    row : List ℕ → Option RowEntry
    row j = row_of (c j) d n now ops j

    keyed : HasKeys row
    keyed j r is = (row_has (c j) d n now ops j r is).0

    seqs : AllByRecursion (λ r. r.seq ≡ n) (commit_rows c d n now ops)
    seqs = all_rows (λ r. r.seq ≡ n) row (λ j r is. (row_has (c j) d n now ops j r is).1.0) (batch_keys ops)

    rising : IsStrictlySortedBy key_cmp (map (λ r. r.key) (commit_rows c d n now ops))
    rising = rising_rows row keyed (batch_keys ops) (set_rises (map (λ o. o.0) ops))

    own : of_key k (commit_rows c d n now ops) ≡ option_to_list (row k)
    own = one_row row keyed k (batch_keys ops) (set_rises (map (λ o. o.0) ops)) ∙ only_own (row k) (among k (batch_keys ops)) (has_one_row (c k) d n now ops k)

has_rows : (f : List ℕ → Option RowEntry) (k : List ℕ) (ks : List (List ℕ)) → among k ks ≡ true → is_some (f k) ≡ true → HasRows (of_keys f ks)
unfolding of_keys
has_rows f k [] h s = cc
has_rows f k (j ∷ js) h s = by (f j) refl (bytes_eq j k) refl h (λ t. has_rows f k js t s)
  where
    by : (o : Option RowEntry) → f j ≡ o → (b : Bool) → bytes_eq j k ≡ b → (b || among k js) ≡ true → (among k js ≡ true → HasRows (filter_map f js)) → HasRows (cons_option o (filter_map f js))
    by None is true e t later = let none : true ≡ false = sym s ∙ ap (λ q. is_some (f q)) (sym ((bytes_eq-Decides j k).0 e)) ∙ ap is_some is in cc
    by None is false e t later = later t
    by (Some r) is b e t later = tt

-- a batch with operations has rows
pub some_more : (c : List ℕ → Combine) (d : Option ℕ) (n : ℕ) (now : ℤ) (ops : Ops) (rows : Rows) → (ops ≡ [] → ⊥) → put_rows rows (commit_rows c d n now ops) ≡ [] → ⊥
unfolding of_keys
some_more c d n now [] rows some e = some refl
some_more c d n now (o ∷ os) rows some e = not_none _ (puts_some rows (commit_rows c d n now (o ∷ os)) (has_rows row o.0 (batch_keys (o ∷ os)) here (has_one_row (c o.0) d n now (o ∷ os) o.0 ∙ here))) e
  where
    row : List ℕ → Option RowEntry
    row j = row_of (c j) d n now (o ∷ os) j

    here : among o.0 (batch_keys (o ∷ os)) ≡ true
    here = among_keys (o ∷ os) o.0 ∙ ap (λ b. some_of (map (λ p. p.1) (cond b (o ∷ filter (λ p. bytes_eq p.0 o.0) os) (filter (λ p. bytes_eq p.0 o.0) os)))) ((bytes_eq-Decides o.0 o.0).1 refl)

-- ---- the rows that are there are older

within_rows : (r : Rules) (k : List ℕ) (n : ℕ) (cs : List Commit) → AllByRecursion (λ c. c.seq < n) cs → AllByRecursion (λ x. x.seq < n) (key_rows r k cs)
within_rows r k n [] h = tt
within_rows r k n (c ∷ cs) h =
    by (row_of (combine_at r k) r.default_millis c.seq c.now c.ops k) (row_of_seq (combine_at r k) r.default_millis c.seq c.now c.ops k) (within_rows r k n cs h.1)
  where
    by : (o : Option RowEntry) → AllByRecursion (λ x. x.seq ≡ c.seq) (option_to_list o) → AllByRecursion (λ x. x.seq < n) (key_rows r k cs) → AllByRecursion (λ x. x.seq < n) (cons_option o (key_rows r k cs))
    by None e later = later
    by (Some x) e later = (let a : x.seq ≡ c.seq = e.0 in let b : c.seq < n = h.0 in omega arith, later)

within_last : (start n : ℕ) (cs : List Commit) → Rising start cs → last_of start cs < n → AllByRecursion (λ c. c.seq < n) cs
within_last start n [] r h = tt
within_last start n (c ∷ cs) r h = (let l : c.seq ≤ last_of c.seq cs = last_within c.seq cs r.1 in omega arith, within_last c.seq n cs r.1 h)

-- of every memtable that is tied to the commits
pub active_within : (m : Meaning) (c : CoreModel) (u : Unseen) → IsWhole c u → IsKept m c → (k : List ℕ) → AllByRecursion (λ r. r.seq < u.last + 1) (of_key k c.active)
active_within m c u w kept k = twice _ (of_key k c.active) (subst (AllByRecursion (λ r. r.seq < u.last + 1)) (append-nil (versions k c.active)) last)
  where
    cs : List Commit
    cs = above (installed c.events) c.state.commits

    all : AllByRecursion (λ r. r.seq < u.last + 1) (key_rows (rules_of c.settings m) k cs)
    all = within_rows (rules_of c.settings m) k (u.last + 1) cs (AllByRecursion_filter _ (λ x. nat_lt (installed c.events) x.seq) c.state.commits (within_last c.settings.start_seq (u.last + 1) c.state.commits w.log.rising (let l : u.last ≡ last_of c.settings.start_seq c.state.commits = w.log.last in omega arith)))

    last : AllByRecursion (λ r. r.seq < u.last + 1) (versions k c.active ++ [])
    last = AllByRecursion_behind _ (versions_in k c.frozen) _ (subst (AllByRecursion (λ r. r.seq < u.last + 1)) (sym (kept.0 k) ∙ flat_map-append (versions k) c.frozen (c.active ∷ [])) all)
