-- What a core of a run has: the amounts of its books, and balances that add up.
use Rattle.std.proofs.Common.{◌≡◌, ◌≢◌, ◌+◌, ◌<◌, ◌≤◌, ◌-◌, ◌^◌, ◌||◌, ◌&&◌, ◌⊎◌, inl, inr, ℕ, ℤ, Bool, true, false, cond, List, [], ◌∷◌, ◌++◌, filter, map, length, Option, Some, None, Result, Ok, Err, refl, sym, ap, subst, ◌∙◌, arith}
use Rattle.std.proofs.Common.{Ordering, Less, Equal, Greater}
use Rattle.std.specs.BTreeSet.{insert_key}
use Rattle.std.specs.Ordering.{match_ordering}
use Rattle.std.specs.List.{AllByRecursion, cons_option, filter_map, list_all, list_any}
use Rattle.std.specs.Prelude.{nat_le}
use Rattle.std.proofs.lemmas.Bool.Decides.{nat_tests}
use Rattle.std.proofs.lemmas.List.Folds.{list_any-append}
use Rattle.slate_types.specs.declared.types.RowEntry.{RowEntry}
use Rattle.slate_types.specs.Keys.{AreBytes, among, in_range, key_cmp, keys_set, prefix_range}
use Rattle.slate_types.specs.Outside.{Meaning, Reach}
use Rattle.slate_types.specs.Rows.{key_value}
use Rattle.slate_types.proofs.KeySetLaws.{same_set, set_keeps, set_rises}
use Rattle.slate_types.proofs.Lists.{AllByRecursion_append}
use Rattle.slate_types.proofs.PrefixLaws.{range_of_prefix}
use Rattle.slate_filter.specs.Policy.{Policy}
use Rattle.slate_mem.specs.Batch.{batch_keys, kept_ops}
use Rattle.slate_mem.specs.KeyTests.{Segments}
use Rattle.slate_mem.proofs.BatchLaws.{keeps_its_keys}
use Rattle.slate_txn.specs.Alone.{own_of}
use Rattle.slate_txn.specs.Laws.{Counts}
use Rattle.slate_txn.specs.Reads.{keys_seen, seen, state_at, up_to}
use Rattle.slate_txn.specs.Replay.{IsLegal, replay}
use Rattle.slate_txn.specs.State.{Commit, Rules, last_of, opening}
use Rattle.slate_txn.proofs.Growing.{all_up_to, last_more}
use Rattle.slate_txn.proofs.SequenceLaws.{counts_more, legal_counts}
use Rattle.slate_db.specs.Installs.{Replays}
use Rattle.slate_db.specs.Meaning.{rules_of}
use Rattle.slate_db.specs.Model.{CoreModel}
use Rattle.slate_db.specs.SerialLaws.{IsVouchedCore}
use Rattle.slate_db.specs.Settled.{IsSettledIn}
use Rattle.slate_steps.specs.Steps.{newest}
use Rattle.slate_steps.proofs.StoreTruth.{checked_in}
use Rattle.slate_stock.specs.declared.error.StockError.{StockError}
use Rattle.slate_stock.specs.declared.order.Order.{Order}
use Rattle.slate_stock.specs.declared.order.Order.TheVariants.{Issue, Pay, Trade}
use Rattle.slate_stock.specs.Amounts.{Amounts, amount_at, amount_in, balance_key, balances_sum, head, is_balance_of, issued_key, money, put_amounts, total_at}
use Rattle.slate_stock.specs.Commits.{HasNames, IsPlainName, puts}
use Rattle.slate_stock.specs.Journals.{AreAuditedOrders, IsOrders}
use Rattle.slate_stock.specs.Lines.{Books, books_total, moved}
use Rattle.slate_stock.specs.Names.{is_letter_or_digit}
use Rattle.slate_stock.specs.Orders.{order_keys, order_moves, order_refusal, stepped}
use Rattle.slate_stock.specs.Running.{HasOrdered, IsBadAmount, amounts_of, row_in}
use Rattle.slate_stock.specs.Runs.{StandsFor}
use Rattle.slate_stock.specs.Totals.{balance_rows, values_sum}
use Rattle.slate_stock.proofs.CoreLaws.{StepsTo, ordered_steps}
use Rattle.slate_stock.proofs.JournalLaws.{balances_add_up, written, written_more}
use Rattle.slate_stock.proofs.LegLaws.{keys_moved}
use Rattle.slate_stock.proofs.StepLaws.{seen_there}
use Rattle.slate_stock.proofs.StoredLaws.{IsStored, all_stored, stored_fits, stored_long}
use Rattle.slate_stock.proofs.SumLaws.{sum_same}

same_le : (x : ℕ) → x ≤ x
same_le x = omega arith

-- ---- the sum over the rows of a scan

row_sum : (o : Option RowEntry) (rows : List RowEntry) → values_sum (map key_value (cons_option o rows)) ≡ amount_in o + values_sum (map key_value rows)
row_sum None rows = omega arith
row_sum (Some row) rows = refl

none_more : (x : ℕ) → x ≡ 0 + x
none_more x = omega arith

rows_sum : (r : Rules) (cs : List Commit) (n : ℕ) (asset : List ℕ) (ks : List (List ℕ)) → AllByRecursion AreBytes ks →
    values_sum (map key_value (filter_map (seen r cs n []) (filter (in_range (prefix_range (head asset))) ks))) ≡ balances_sum (amount_at r cs n) asset ks
rows_sum r cs n asset [] h = refl
rows_sum r cs n asset (k ∷ ks) h =
    ap (λ (b : Bool). values_sum (map key_value (filter_map (seen r cs n []) (cond b (k ∷ rest) rest)))) (range_of_prefix (head asset) k h.0)
    ∙ by (is_balance_of asset k) (rows_sum r cs n asset ks h.1)
  where
    rest : List (List ℕ)
    rest = filter (in_range (prefix_range (head asset))) ks

    by : (b : Bool) → values_sum (map key_value (filter_map (seen r cs n []) rest)) ≡ balances_sum (amount_at r cs n) asset ks →
        values_sum (map key_value (filter_map (seen r cs n []) (cond b (k ∷ rest) rest))) ≡ cond b (amount_at r cs n k) 0 + balances_sum (amount_at r cs n) asset ks
    by true later = row_sum (seen r cs n [] k) (filter_map (seen r cs n []) rest) ∙ (λ i. amount_in (seen_there r cs n k i) + later i)
    by false later = later ∙ none_more (balances_sum (amount_at r cs n) asset ks)

-- each row is of 8 bytes where each value is
rows_long : (r : Rules) (cs : List Commit) (n : ℕ) → ((k : List ℕ) → IsStored (state_at r cs n k)) → (ks : List (List ℕ)) → AllByRecursion (λ row. length row.value ≡ 8) (map key_value (filter_map (seen r cs n []) ks))
rows_long r cs n stored [] = tt
rows_long r cs n stored (k ∷ ks) = by (seen r cs n [] k) (subst IsStored (sym (seen_there r cs n k)) (stored k)) (rows_long r cs n stored ks)
  where
    by : (o : Option RowEntry) → IsStored o → AllByRecursion (λ row. length row.value ≡ 8) (map key_value (filter_map (seen r cs n []) ks)) →
        AllByRecursion (λ row. length row.value ≡ 8) (map key_value (cons_option o (filter_map (seen r cs n []) ks)))
    by None h later = later
    by (Some row) h later = (stored_long (Some row) row h refl, later)

-- ---- the keys of the books

all_in_set : (k : List ℕ) (ks : List (List ℕ)) → AreBytes k → AllByRecursion AreBytes ks → AllByRecursion AreBytes (insert_key key_cmp ks k)
all_in_set k [] h hs = (h, tt)
all_in_set k (x ∷ ks) h hs = by (key_cmp k x) (all_in_set k ks h hs.1)
  where
    by : (o : Ordering) → AllByRecursion AreBytes (insert_key key_cmp ks k) → AllByRecursion AreBytes (match_ordering o (k ∷ x ∷ ks) (x ∷ ks) (x ∷ insert_key key_cmp ks k))
    by Less later = (h, hs)
    by Equal later = hs
    by Greater later = (hs.0, later)

all_set : (ks : List (List ℕ)) → AllByRecursion AreBytes ks → AllByRecursion AreBytes (keys_set ks)
all_set [] h = tt
all_set (k ∷ ks) h = all_in_set k (keys_set ks) h.0 (all_set ks h.1)

-- ---- an audited core

module _ (m : Meaning) (c : CoreModel) (legal : IsLegal c.settings.start_seq c.events) (replays : Replays c.events c.state) (orders : IsOrders c.events) (vouched : IsVouchedCore m c) where
  abbrev r : Rules
  r = rules_of c.settings m

  audited : AreAuditedOrders r.start_seq c.events
  audited = record { legal = legal; orders = orders }

  core_stored : (k : List ℕ) → IsStored (row_in m c k)
  core_stored k = subst (λ (cs : List Commit). IsStored (state_at r cs (last_of c.settings.start_seq cs) k)) replays.commits
      (all_stored r c.events (last_of c.settings.start_seq (replay c.events).commits) k audited vouched.journal (same_le (last_of c.settings.start_seq (replay c.events).commits)))

  -- no value of another length is there
  pub none_bad : (k : List ℕ) → IsBadAmount m c k → ⊥
  none_bad k (row, is, other) = other (stored_long (row_in m c k) row (core_stored k) is)

  pub amounts_fit : (k : List ℕ) → amounts_of m c k < 2 ^ 64
  amounts_fit k = stored_fits (row_in m c k) (core_stored k)

  pub balances_long : (asset : List ℕ) → AllByRecursion (λ row. length row.value ≡ 8) (map key_value (balance_rows m c asset))
  balances_long asset = rows_long r c.state.commits (newest c) core_stored (filter (in_range (prefix_range (head asset))) (keys_seen c.state.commits (newest c) []))

  adds_up : (asset : List ℕ) → IsPlainName asset → balances_sum (amounts_of m c) asset (keys_seen c.state.commits (newest c) []) ≡ amounts_of m c (issued_key asset)
  adds_up asset name = subst (λ (cs : List Commit). total_at r cs (newest c) asset ≡ amount_at r cs (newest c) (issued_key asset)) replays.commits
      (balances_add_up r c.events (newest c) asset audited vouched.journal name)

  module _ (asset : List ℕ) (name : IsPlainName asset) (b : Books) (h : StandsFor m c b) where
    sum_there : values_sum (map key_value (balance_rows m c asset)) ≡ balances_sum (amounts_of m c) asset (keys_seen c.state.commits (newest c) [])
    sum_there = rows_sum r c.state.commits (newest c) asset (keys_seen c.state.commits (newest c) []) (subst (AllByRecursion AreBytes) (sym h.keys) (all_set b.keys h.bytes))

    pub sum_of_books : values_sum (map key_value (balance_rows m c asset)) ≡ books_total b asset
    sum_of_books = sum_there ∙ ap (balances_sum (amounts_of m c) asset) h.keys ∙ sum_same (amounts_of m c) b.amounts asset (keys_set b.keys) h.amounts

    pub sum_fits : values_sum (map key_value (balance_rows m c asset)) < 2 ^ 64
    sum_fits = subst (λ (n : ℕ). n < 2 ^ 64) (sym (sum_there ∙ adds_up asset name)) (amounts_fit (issued_key asset))

-- ---- an order more

names_moved : (ps : List (List ℕ × ℕ)) → map (λ o. o.0) (puts ps) ≡ map (λ p. p.0) ps
names_moved [] = refl
names_moved (p ∷ ps) = ap (λ (ks : List (List ℕ)). p.0 ∷ ks) (names_moved ps)

among_moved : (m : Amounts) (o : Order) (k : List ℕ) → among k (batch_keys (puts (order_moves m o))) ≡ among k (order_keys o)
among_moved m o k = set_keeps (map (λ x. x.0) (puts (order_moves m o))) k ∙ ap (among k) (names_moved (order_moves m o) ∙ keys_moved m o)

-- made: the commit
keys_after : (cs : List Commit) (made : Commit) (m : Amounts) (o : Order) (ks : List (List ℕ)) → made.ops ≡ kept_ops (puts (order_moves m o)) → keys_set (written cs) ≡ keys_set ks → keys_set (written (cs ++ (made ∷ []))) ≡ keys_set (order_keys o ++ ks)
keys_after cs made m o ks ops same = same_set (keys_set (written (cs ++ (made ∷ [])))) (keys_set (order_keys o ++ ks)) (set_rises (written (cs ++ (made ∷ [])))) (set_rises (order_keys o ++ ks)) alike
  where
    new : (k : List ℕ) → among k (batch_keys made.ops) ≡ among k (order_keys o)
    new k = ap (λ os. among k (batch_keys os)) ops ∙ ap (among k) (keeps_its_keys (puts (order_moves m o))) ∙ among_moved m o k

    old : (k : List ℕ) → among k (written cs) ≡ among k ks
    old k = sym (set_keeps (written cs) k) ∙ ap (among k) same ∙ set_keeps ks k

    alike : (k : List ℕ) → among k (keys_set (written (cs ++ (made ∷ [])))) ≡ among k (keys_set (order_keys o ++ ks))
    alike k = set_keeps (written (cs ++ (made ∷ []))) k ∙ written_more cs made k ∙ (λ i. new k i || old k i)
        ∙ sym (list_any-append _ (order_keys o) ks) ∙ sym (set_keeps (order_keys o ++ ks) k)

name_bytes : (n : List ℕ) → IsPlainName n → AreBytes n
name_bytes n h = letters n (rest_of (nat_le 1 (length n)) (nat_le (length n) 32) (list_all is_letter_or_digit n) h)
  where
    rest_of : (a b c : Bool) → ((a && b) && c) ≡ true → c ≡ true
    rest_of true true c h = h
    rest_of true false c h = cc
    rest_of false b c h = cc

    below : (b : ℕ) → is_letter_or_digit b ≡ true → b < 256
    below b h = grind (arith, nat_tests)

    both : (a b : Bool) → (a && b) ≡ true → (a ≡ true) × (b ≡ true)
    both true b h = (refl, h)
    both false b h = cc

    letters : (bs : List ℕ) → list_all is_letter_or_digit bs ≡ true → AreBytes bs
    letters [] h = tt
    letters (b ∷ bs) h = let t = both (is_letter_or_digit b) (list_all is_letter_or_digit bs) h in (below b t.0, letters bs t.1)

head_bytes : (asset : List ℕ) → AreBytes asset → AreBytes (head asset)
head_bytes asset h = (omega arith, (omega arith, AllByRecursion_append (λ b. b < 256) asset (58 ∷ []) h (omega arith, tt)))

balance_bytes : (asset name : List ℕ) → IsPlainName asset → IsPlainName name → AreBytes (balance_key asset name)
balance_bytes asset name a n = AllByRecursion_append (λ b. b < 256) (head asset) name (head_bytes asset (name_bytes asset a)) (name_bytes name n)

issued_bytes : (asset : List ℕ) → IsPlainName asset → AreBytes (issued_key asset)
issued_bytes asset a = (omega arith, (omega arith, name_bytes asset a))

order_bytes : (o : Order) → HasNames o → AllByRecursion AreBytes (order_keys o)
order_bytes (Issue asset name n) h = (issued_bytes asset h.0, (balance_bytes asset name h.0 h.1, tt))
order_bytes (Pay asset from to n) h = (balance_bytes asset from h.0 h.1, (balance_bytes asset to h.0 h.2, tt))
order_bytes (Trade asset buyer seller q p) h = (balance_bytes asset seller h.0 h.2, (balance_bytes asset buyer h.0 h.1, (balance_bytes money buyer refl h.1, (balance_bytes money seller refl h.2, tt))))

pub stepped_is : (z : Option StockError) (x y : Amounts) → stepped z x ≡ Ok y → y ≡ x
stepped_is None x y e = cc
stepped_is (Some s) x y e = cc

-- on a core that was settled the order's commit moves the books as its step does
module _ (policies : List Policy) (g : Segments) (before after : Reach) (c d : CoreModel) (o : Order) (now : ℤ) (n : ℕ) (h : HasOrdered policies before after c o now n d) (settled : IsSettledIn policies g before c) (b : Books) (stands : StandsFor before.meaning c b) where
  abbrev made : Commit
  made = record { seq = n; now = now; ops = kept_ops (own_of h.taken); tracked = batch_keys (own_of h.taken) }

  abbrev n0 : ℕ
  n0 = c.settings.start_seq

  counts : Counts n0 c.state.commits
  counts = subst (Counts n0) h.committed.replays.commits (legal_counts n0 c.events opening [] tt h.committed.legal)

  counts_now : Counts n0 (c.state.commits ++ (made ∷ []))
  counts_now = counts_more n0 c.state.commits made counts h.committed.next.0

  commits_are : d.state.commits ≡ c.state.commits ++ (made ∷ [])
  commits_are = ap (λ (v : CoreModel). v.state.commits) h.committed.is

  newest_is : newest d ≡ n
  newest_is = ap (λ (v : CoreModel). newest v) h.committed.is ∙ last_more n0 c.state.commits made

  seen_as_written : (cs : List Commit) → Counts n0 cs → keys_seen cs (last_of n0 cs) [] ≡ keys_set (written cs)
  seen_as_written cs k = ap (λ (xs : List Commit). keys_set (written xs)) (all_up_to n0 (last_of n0 cs) cs k (same_le (last_of n0 cs)))

  same_amounts : amounts_of before.meaning c ≡ b.amounts
  same_amounts i k = stands.amounts k i

  pub books_moved : StandsFor before.meaning d (moved b o)
  books_moved = record {
    amounts = λ k. steps.state k ∙ ap (λ (f : Amounts). f k) (after_is ∙ ap (λ (f : Amounts). put_amounts f (order_moves f o)) same_amounts);
    keys =
        ap (λ (v : CoreModel). keys_seen v.state.commits (newest v) []) h.committed.is
        ∙ seen_as_written (c.state.commits ++ (made ∷ [])) counts_now
        ∙ keys_after c.state.commits made h.amounts o b.keys (ap kept_ops h.own) (sym (seen_as_written c.state.commits counts) ∙ stands.keys);
    bytes = AllByRecursion_append AreBytes (order_keys o) b.keys (order_bytes o h.by.names) stands.bytes;
    seq = newest_is ∙ h.committed.next.0 ∙ ap (λ (x : ℕ). x + 1) stands.seq;
  }
    where
      steps : StepsTo before.meaning c d o
      steps = ordered_steps policies before after c o now n d h g (checked_in policies g before after c settled)

      after_is : steps.after ≡ put_amounts (amounts_of before.meaning c) (order_moves (amounts_of before.meaning c) o)
      after_is = stepped_is (order_refusal (amounts_of before.meaning c) o) (put_amounts (amounts_of before.meaning c) (order_moves (amounts_of before.meaning c) o)) steps.after steps.step
