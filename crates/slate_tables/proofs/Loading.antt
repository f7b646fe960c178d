-- The lines that load rows make a commit for each, and so the rows.
use Rattle.std.proofs.Common.{◌≡◌, ℕ, ◌+◌, ◌-◌, ◌^◌, ◌<◌, ◌≤◌, Bool, true, false, not, cond, ◌&&◌, ◌||◌, List, [], ◌∷◌, ◌++◌, map, filter_map, flat_map, find, reverse, length, Option, Some, None, option_to_list, option_map, option_and_then, is_some, bytes_eq, nat_lt, ℤ, pos, refl, sym, ap, subst, ◌∙◌, arith, append-nil, append_assoc}
use Rattle.std.specs.Prelude.{◌==◌, IfSome, ◌+ℤ◌, int_lt}
use Rattle.std.specs.List.{AllByRecursion, cons_option, list_any}
use Rattle.std.proofs.lemmas.Bool.Decides.{nat_tests}
use Rattle.std.proofs.lemmas.List.Concat.{flat_map-append}
use Rattle.std.proofs.lemmas.Slice.Eq.{bytes_eq-Decides}
use Rattle.std.specs.BTreeSet.{insert_key}
use Rattle.std.specs.Ordering.{match_ordering}
use Rattle.std.specs.declared.cmp.Ordering.{Ordering}
use Rattle.std.specs.declared.cmp.Ordering.TheVariants.{Less, Equal, Greater}
use Rattle.slate_types.specs.declared.iter.IterationOrder.TheVariants.{Ascending}
use Rattle.slate_types.specs.declared.types.RowEntry.{RowEntry}
use Rattle.slate_types.specs.declared.types.ValueDeletable.{ValueDeletable}
use Rattle.slate_types.specs.declared.types.ValueDeletable.TheVariants as values
use Rattle.slate_types.specs.declared.config.Ttl.{Ttl}
use Rattle.slate_types.specs.Expiry.{expiry, within_moments}
use Rattle.slate_types.specs.Fold.{Combine, fold_rows, from_last, shown}
use Rattle.slate_types.specs.Keys.{key_cmp, key_lt, keys_set}
use Rattle.slate_types.specs.Rows.{bytes_of, hide_tombstone, is_deletion, is_merge, is_operand}
use Rattle.slate_types.proofs.KeyOrder.{lt_irreflexive}
use Rattle.slate_types.proofs.Lists.{AllByRecursion_behind, AllByRecursion_front, AllByRecursion_weaken}
use Rattle.slate_mem.specs.declared.WriteOp.{WriteOp}
use Rattle.slate_mem.specs.declared.WriteOp.TheVariants as ops
use Rattle.slate_mem.specs.Batch.{Ops, batch_keys, kept, kept_ops, op_ttl, op_value, ops_of, replaces}
use Rattle.slate_mem.specs.BatchModel.{holds_merge, is_merge_op}
use Rattle.slate_mem.specs.KeyTests.{key_refusal, merges_refusal, nest, nest_refusal, nest_refusals, prefix_by, prefixes, segment_refusal, ttl_refusal, Segments}
use Rattle.slate_mem.specs.Refusals.{first_refusal, op_refusal, when, key_refusals, value_refusal}
use Rattle.slate_mem.specs.RowOf.{op_row, row_of, op_expiry}
use Rattle.slate_types.specs.declared.error.SlateDBError.{SlateDBError}
use Rattle.slate_types.specs.declared.error.SlateDBError.TheVariants as errors
use Rattle.slate_txn.specs.declared.line.Line.{Line}
use Rattle.slate_txn.specs.declared.line.Line.TheVariants as lines
use Rattle.slate_txn.specs.Laws.{Counts}
use Rattle.slate_txn.specs.Reads.{key_rows, state_at, up_to}
use Rattle.slate_txn.specs.Refusals.{batch_refusals, committed_prefixes, exhausted_refusal, write_refusal}
use Rattle.slate_txn.specs.Reply.{Reply, NowIs, Written}
use Rattle.slate_txn.specs.State.{Commit, Rules, State, combine_at, last, last_of, opening}
use Rattle.slate_txn.specs.Step.{after, answers, as_commit, refused_or, step, with_commit, with_reply, write}
use Rattle.slate_txn.proofs.Growing.{all_up_to, last_more}
use Rattle.slate_tables.specs.Loading.{CanLoad, IsReached, LoadsRows, created, earlier, load_lines, load_op, load_replies, loaded_row, moment, prefixes_of_rows, reloaded, time_to_live, value_op}
use Rattle.slate_tables.specs.Exported.{KeysCome}
use Rattle.slate_tables.proofs.Moments.{later_reached}

-- ---- the commit of one row

abbrev one_op : RowEntry → Ops
one_op r = (r.key, load_op r) ∷ []

abbrev load_commit : ℕ → RowEntry → Commit
load_commit n r = record { seq = n + 1; now = moment r; ops = kept_ops (one_op r); tracked = batch_keys (one_op r) }

abbrev load_commits : ℕ → List RowEntry → List Commit
load_commits n [] = []
load_commits n (r ∷ rows) = load_commit n r ∷ load_commits (n + 1) rows

same_key : (k : List ℕ) → bytes_eq k k ≡ true
same_key k = (bytes_eq-Decides k k).1 refl

own_ops : (k j : List ℕ) (op : WriteOp) (b : Bool) → bytes_eq k j ≡ b → ops_of ((k, op) ∷ []) j ≡ cond b (op ∷ []) []
own_ops k j op true e = ap (λ t. map (λ (o : List ℕ × WriteOp). o.1) (cond t ((k, op) ∷ []) [])) e
own_ops k j op false e = ap (λ t. map (λ (o : List ℕ × WriteOp). o.1) (cond t ((k, op) ∷ []) [])) e

kept_one : (k j : List ℕ) (op : WriteOp) (b : Bool) → bytes_eq k j ≡ b → kept ((k, op) ∷ []) j ≡ cond b (op ∷ []) []
kept_one k j op true e = ap (from_last replaces) (own_ops k j op true e)
kept_one k j op false e = ap (from_last replaces) (own_ops k j op false e)

kept_itself : (k : List ℕ) (op : WriteOp) → kept_ops ((k, op) ∷ []) ≡ (k, op) ∷ []
kept_itself k op = ap (λ (os : List WriteOp). map (λ o. (k, o)) os ++ []) (kept_one k k op true (same_key k))

-- ---- nothing is refused

key_fine : (k : List ℕ) (es : List (Option SlateDBError)) → 0 < length k → length k < 2 ^ 16 → first_refusal (key_refusals k ++ es) ≡ first_refusal es
key_fine k es some short =
    let there : (length k == 0) ≡ false = grind (arith, nat_tests, some) in
    let fits : nat_lt 65535 (length k) ≡ false = grind (arith, nat_tests, short) in
    ap (λ b. first_refusal (when b errors.EmptyKey ∷ when (nat_lt 65535 (length k)) (errors.KeyTooLong (length k)) ∷ es)) there
    ∙ ap (λ b. first_refusal (when b (errors.KeyTooLong (length k)) ∷ es)) fits

value_fine : (v : List ℕ) → length v < 2 ^ 32 → first_refusal (value_refusal v ∷ []) ≡ None
value_fine v short =
    let fits : nat_lt (2 ^ 32 - 1) (length v) ≡ false = grind (arith, nat_tests, short) in
    ap (λ b. first_refusal (when b (errors.ValueTooLong (length v)) ∷ [])) fits

op_fine : (k : List ℕ) (ttl : Ttl) (v : ValueDeletable) → 0 < length k → length k < 2 ^ 16 → length (bytes_of v) < 2 ^ 32 → op_refusal k (value_op ttl v) ≡ None
op_fine k ttl (values.Value v) some short size = key_fine k (value_refusal v ∷ []) some short ∙ value_fine v size
op_fine k ttl (values.Merge v) some short size = key_fine k (value_refusal v ∷ []) some short ∙ value_fine v size
op_fine k ttl values.Tombstone some short size = ap first_refusal (sym (append-nil (key_refusals k))) ∙ key_fine k [] some short

merges_fine : (k : List ℕ) (ttl : Ttl) (v : ValueDeletable) (has : Bool) → (is_merge v ≡ true → has ≡ true) → merges_refusal has (holds_merge ((k, value_op ttl v) ∷ [])) ≡ None
merges_fine k ttl (values.Value v) has h = refl
merges_fine k ttl (values.Merge v) has h = ap (λ b. when (not b) errors.MergeOperatorMissing) (h refl)
merges_fine k ttl values.Tombstone has h = refl

key_passes : (segments : Segments) (default_millis : Option ℕ) (now : ℤ) (k : List ℕ) (op : WriteOp) → segment_refusal segments k ≡ None → key_refusal segments default_millis now ((k, op) ∷ []) k ≡ None
key_passes segments default_millis now k op pass =
    ap (λ (e : Option SlateDBError). first_refusal (e ∷ ttl_refusal k (reverse (map (op_expiry default_millis now) (kept ((k, op) ∷ []) k))) ∷ [])) pass
    ∙ ap (λ (os : List WriteOp). first_refusal (ttl_refusal k (reverse (map (op_expiry default_millis now) os)) ∷ [])) (kept_one k k op true (same_key k))

-- ---- no prefix nests

abbrev AreApart : List (List ℕ) → List (List ℕ) → Type 0
AreApart all ps = AllByRecursion (λ p. AllByRecursion (λ q. nest p q ≡ false) all) ps

all_in_set : (P : List ℕ → Type 0) (ks : List (List ℕ)) → AllByRecursion P ks → AllByRecursion P (keys_set ks)
all_in_set P [] h = tt
all_in_set P (k ∷ ks) h = put (keys_set ks) h.0 (all_in_set P ks h.1)
  where
    put : (xs : List (List ℕ)) → P k → AllByRecursion P xs → AllByRecursion P (insert_key key_cmp xs k)
    put [] p a = (p, tt)
    put (x ∷ xs) p a = by (key_cmp k x) (put xs p a.1)
      where
        by : (o : Ordering) → AllByRecursion P (insert_key key_cmp xs k) → AllByRecursion P (match_ordering o (k ∷ x ∷ xs) (x ∷ xs) (x ∷ insert_key key_cmp xs k))
        by Less later = (p, a)
        by Equal later = a
        by Greater later = (a.0, later)

none_nests : (p : List ℕ) (qs : List (List ℕ)) → AllByRecursion (λ q. nest p q ≡ false) qs → find (nest p) qs ≡ None
none_nests p [] h = refl
none_nests p (q ∷ qs) h = ap (λ b. cond b (Some q) (find (nest p) qs)) h.0 ∙ none_nests p qs h.1

no_nest : (all ps : List (List ℕ)) → AreApart (keys_set all) ps → first_refusal (map (nest_refusal (keys_set all)) ps) ≡ None
no_nest all [] h = refl
no_nest all (p ∷ ps) h =
    ap (λ (o : Option (List ℕ)). first_refusal (option_map (λ q. errors.InvalidSegmentPrefix p q) o ∷ map (nest_refusal (keys_set all)) ps)) (none_nests p (keys_set all) h.0)
    ∙ no_nest all ps h.1

nests_fine : (before own : List (List ℕ)) → AreApart (before ++ own) own → first_refusal (nest_refusals before own) ≡ None
nests_fine before own h =
    no_nest (before ++ own) (keys_set own)
    (all_in_set (λ p. AllByRecursion (λ q. nest p q ≡ false) (keys_set (before ++ own))) own
    (AllByRecursion_weaken (λ p. AllByRecursion (λ q. nest p q ≡ false) (before ++ own)) (λ p. AllByRecursion (λ q. nest p q ≡ false) (keys_set (before ++ own))) (λ p k. all_in_set (λ q. nest p q ≡ false) (before ++ own) k) own h))

-- the middle of three lists of prefixes
middle_apart : (before own rest : List (List ℕ)) → AreApart ((before ++ own) ++ rest) ((before ++ own) ++ rest) → AreApart (before ++ own) own
middle_apart before own rest h =
    let fine : List ℕ → Type 0 = λ p. AllByRecursion (λ q. nest p q ≡ false) ((before ++ own) ++ rest) in
    let here = AllByRecursion_behind fine before own (AllByRecursion_front fine (before ++ own) rest h) in
    AllByRecursion_weaken fine (λ p. AllByRecursion (λ q. nest p q ≡ false) (before ++ own)) (λ p k. AllByRecursion_front (λ q. nest p q ≡ false) (before ++ own) rest k) own here

own_prefixes : (segments : Segments) (row : RowEntry) (rows : List RowEntry) → prefixes_of_rows segments (row ∷ rows) ≡ prefixes segments (one_op row) ++ prefixes_of_rows segments rows
own_prefixes segments row rows = by (prefix_by segments row.key)
  where
    by : (o : Option (List ℕ)) → cons_option o (prefixes_of_rows segments rows) ≡ cons_option o [] ++ prefixes_of_rows segments rows
    by None = refl
    by (Some p) = refl

module _ (r : Rules) where
  batch_passes : (s : State) (k : List ℕ) (op : WriteOp) → segment_refusal r.segment k ≡ None → first_refusal (nest_refusals (committed_prefixes r s.commits) (prefixes r.segment ((k, op) ∷ []))) ≡ None → first_refusal (batch_refusals r s ((k, op) ∷ [])) ≡ None
  batch_passes s k op pass apart =
      ap (λ (e : Option SlateDBError). first_refusal (e ∷ nest_refusals (committed_prefixes r s.commits) (prefixes r.segment ((k, op) ∷ [])))) (key_passes r.segment r.default_millis s.now k op pass)
      ∙ apart

  write_passes : (s : State) (row : RowEntry) → CanLoad r.combine row → segment_refusal r.segment row.key ≡ None → first_refusal (nest_refusals (committed_prefixes r s.commits) (prefixes r.segment (one_op row))) ≡ None → last r s < 2 ^ 64 - 2 → write_refusal r s (one_op row) ≡ None
  write_passes s row can pass apart room =
      let free : (last r s == 2 ^ 64 - 2) ≡ false = grind (arith, nat_tests, room) in
      ap (λ (e : Option SlateDBError). first_refusal (e ∷ exhausted_refusal r s ∷ merges_refusal (is_some r.combine) (holds_merge (one_op row)) ∷ batch_refusals r s (one_op row))) (op_fine row.key (time_to_live (moment row) row.expire_ts) row.value can.some can.short can.value)
      ∙ ap (λ b. first_refusal (when b errors.SequenceExhausted ∷ merges_refusal (is_some r.combine) (holds_merge (one_op row)) ∷ batch_refusals r s (one_op row))) free
      ∙ ap (λ (e : Option SlateDBError). first_refusal (e ∷ batch_refusals r s (one_op row))) (merges_fine row.key (time_to_live (moment row) row.expire_ts) row.value (is_some r.combine) can.operator)
      ∙ batch_passes s row.key (load_op row) pass apart

  -- ---- the lines

  abbrev behind : State → RowEntry → State
  behind s row = with_commit r (record s { now = moment row }) (one_op row) (batch_keys (one_op row))

  wrote : (s : State) (row : RowEntry) → CanLoad r.combine row → segment_refusal r.segment row.key ≡ None → first_refusal (nest_refusals (committed_prefixes r s.commits) (prefixes r.segment (one_op row))) ≡ None → last r s < 2 ^ 64 - 2 →
      write r (record s { now = moment row }) (one_op row) ≡ (behind s row, Written (Some (last r s + 1)))
  wrote s row can pass apart room = ap (λ (e : Option SlateDBError). refused_or e (record s { now = moment row }) (behind s row, Written (Some (last r s + 1)))) (write_passes (record s { now = moment row }) row can pass apart room)

  prefixes_behind : (s : State) (row : RowEntry) → committed_prefixes r (behind s row).commits ≡ committed_prefixes r s.commits ++ prefixes r.segment (one_op row)
  prefixes_behind s row =
      flat_map-append (λ (c : Commit). prefixes r.segment c.ops) s.commits (load_commit (last r s) row ∷ [])
      ∙ ap (λ (l : List (List ℕ)). committed_prefixes r s.commits ++ l) (append-nil (prefixes r.segment (kept_ops (one_op row))) ∙ ap (prefixes r.segment) (kept_itself row.key (load_op row)))

  last_behind : (s : State) (row : RowEntry) → last r (behind s row) ≡ last r s + 1
  last_behind s row = last_more r.start_seq s.commits (load_commit (last r s) row)

  record Loads (s : State) (rows : List RowEntry) : Type 0 where
    replies : answers r s (load_lines rows) ≡ load_replies (last r s) rows
    commits : (after r s (load_lines rows)).commits ≡ s.commits ++ load_commits (last r s) rows

  abbrev Tested : State → List RowEntry → Type 0
  Tested s rows = let all = committed_prefixes r s.commits ++ prefixes_of_rows r.segment rows in AreApart all all

  loads : (s : State) (rows : List RowEntry) → AllByRecursion (λ row. segment_refusal r.segment row.key ≡ None) rows → Tested s rows → AllByRecursion (CanLoad r.combine) rows → last r s + length rows < 2 ^ 64 - 1 → Loads s rows
  loads s [] pass apart can room = record { replies = refl; commits = sym (append-nil s.commits) }
  loads s (row ∷ rows) pass apart can room =
      let here : last r s < 2 ^ 64 - 2 = omega (arith, room) in
      let before = committed_prefixes r s.commits in
      let own = prefixes r.segment (one_op row) in
      let rest = prefixes_of_rows r.segment rows in
      let split : before ++ prefixes_of_rows r.segment (row ∷ rows) ≡ (before ++ own) ++ rest = ap (λ (l : List (List ℕ)). before ++ l) (own_prefixes r.segment row rows) ∙ sym (append_assoc before own rest) in
      let three : AreApart ((before ++ own) ++ rest) ((before ++ own) ++ rest) = subst (λ (l : List (List ℕ)). AreApart l l) split apart in
      let next_split : (before ++ own) ++ rest ≡ committed_prefixes r (behind s row).commits ++ rest = ap (λ (l : List (List ℕ)). l ++ rest) (sym (prefixes_behind s row)) in
      let is = wrote s row can.0 pass.0 (nests_fine before own (middle_apart before own rest three)) here in
      let next : last r (behind s row) ≡ last r s + 1 = last_behind s row in
      let left : last r (behind s row) + length rows < 2 ^ 64 - 1 = omega (arith, room, next) in
      let later : Loads (behind s row) rows = loads (behind s row) rows pass.1 (subst (λ (l : List (List ℕ)). AreApart l l) next_split three) can.1 left in
      record {
        replies =
            ap (λ (p : State × Reply). NowIs (moment row) ∷ p.1 ∷ answers r p.0 (load_lines rows)) is
            ∙ ap (λ (l : List Reply). NowIs (moment row) ∷ Written (Some (last r s + 1)) ∷ l) (later.replies ∙ ap (λ n. load_replies n rows) next);
        commits =
            ap (λ (p : State × Reply). (after r p.0 (load_lines rows)).commits) is
            ∙ later.commits
            ∙ ap (λ n. (s.commits ++ (load_commit (last r s) row ∷ [])) ++ load_commits n rows) next
            ∙ append_assoc s.commits (load_commit (last r s) row ∷ []) (load_commits (last r s + 1) rows);
      }

-- ---- the rows of these commits

counts_loaded : (n : ℕ) (rows : List RowEntry) → Counts n (load_commits n rows)
counts_loaded n [] = tt
counts_loaded n (r ∷ rows) = (refl, counts_loaded (n + 1) rows)

module _ (r : Rules) where
  made_value : (ttl : Ttl) (v : ValueDeletable) → is_deletion v ≡ false → (op_value (value_op ttl v) ≡ v) × (op_ttl (value_op ttl v) ≡ ttl)
  made_value ttl (values.Value v) h = (refl, refl)
  made_value ttl (values.Merge v) h = (refl, refl)
  made_value ttl values.Tombstone h = cc

  made_expiry : (now : ℤ) (end : Option ℤ) → IfSome end IsReached → expiry (time_to_live (earlier now end) end) r.default_millis (earlier now end) ≡ end
  made_expiry now None h = refl
  made_expiry now (Some end) h = ap within_moments (later_reached now end) ∙ ap (λ b. cond b None (Some end)) h

  made_row : (n : ℕ) (row : RowEntry) → CanLoad r.combine row → op_row row.key (n + 1) r.default_millis (moment row) (load_op row) ≡ reloaded (n + 1) row
  made_row n row can =
      let made = made_value (time_to_live (moment row) row.expire_ts) row.value can.kept in
      let ends : op_expiry r.default_millis (moment row) (load_op row) ≡ row.expire_ts = ap (λ ttl. expiry ttl r.default_millis (moment row)) made.1 ∙ made_expiry (created row) row.expire_ts can.expiry in
      λ i. record { key = row.key; value = made.0 i; seq = n + 1; create_ts = Some (moment row); expire_ts = ends i }

  row_by : (n : ℕ) (row : RowEntry) (k : List ℕ) → CanLoad r.combine row → (b : Bool) → bytes_eq row.key k ≡ b →
      row_of (combine_at r k) r.default_millis (n + 1) (moment row) (kept_ops (one_op row)) k ≡ cond b (Some (reloaded (n + 1) row)) None
  row_by n row k can true e =
      let is : row.key ≡ k = (bytes_eq-Decides row.key k).0 e in
      ap (λ (os : Ops). row_of (combine_at r k) r.default_millis (n + 1) (moment row) os k) (kept_itself row.key (load_op row))
      ∙ ap (λ (os : List WriteOp). fold_rows (combine_at r k) (map (op_row k (n + 1) r.default_millis (moment row)) os)) (kept_one row.key k (load_op row) true e)
      ∙ ap (λ j. Some (op_row j (n + 1) r.default_millis (moment row) (load_op row))) (sym is)
      ∙ ap Some (made_row n row can)
  row_by n row k can false e =
      ap (λ (os : Ops). row_of (combine_at r k) r.default_millis (n + 1) (moment row) os k) (kept_itself row.key (load_op row))
      ∙ ap (λ (os : List WriteOp). fold_rows (combine_at r k) (map (op_row k (n + 1) r.default_millis (moment row)) os)) (kept_one row.key k (load_op row) false e)

  none_later : (n : ℕ) (j k : List ℕ) (rows : List RowEntry) → j ≡ k → AllByRecursion (λ s. key_lt j s.key ≡ true) rows → loaded_row n rows k ≡ None
  none_later n j k [] e h = refl
  none_later n j k (s ∷ rows) e h = by (bytes_eq s.key k) refl (none_later (n + 1) j k rows e h.1)
    where
      by : (b : Bool) → bytes_eq s.key k ≡ b → loaded_row (n + 1) rows k ≡ None → cond b (Some (reloaded (n + 1) s)) (loaded_row (n + 1) rows k) ≡ None
      by true is later = lt_irreflexive k (subst (λ x. key_lt x k ≡ true) e (subst (λ x. key_lt j x ≡ true) ((bytes_eq-Decides s.key k).0 is) h.0))
      by false is later = later

  rows_loaded : (n : ℕ) (rows : List RowEntry) (k : List ℕ) → KeysCome Ascending rows → AllByRecursion (CanLoad r.combine) rows → key_rows r k (load_commits n rows) ≡ option_to_list (loaded_row n rows k)
  rows_loaded n [] k rise can = refl
  rows_loaded n (row ∷ rows) k rise can =
      ap (λ (o : Option RowEntry). cons_option o (key_rows r k (load_commits (n + 1) rows))) (row_by n row k can.0 (bytes_eq row.key k) refl)
      ∙ by (bytes_eq row.key k) refl (rows_loaded (n + 1) rows k rise.1 can.1)
    where
      by : (b : Bool) → bytes_eq row.key k ≡ b → key_rows r k (load_commits (n + 1) rows) ≡ option_to_list (loaded_row (n + 1) rows k) →
          cons_option (cond b (Some (reloaded (n + 1) row)) None) (key_rows r k (load_commits (n + 1) rows)) ≡ option_to_list (cond b (Some (reloaded (n + 1) row)) (loaded_row (n + 1) rows k))
      by true is later = ap (λ (l : List RowEntry). reloaded (n + 1) row ∷ l) (later ∙ ap option_to_list (none_later (n + 1) row.key k rows ((bytes_eq-Decides row.key k).0 is) rise.0))
      by false is later = later

  kept_there : (n : ℕ) (rows : List RowEntry) (k : List ℕ) → AllByRecursion (CanLoad r.combine) rows → IfSome (loaded_row n rows k) (λ row. is_deletion row.value ≡ false)
  kept_there n [] k can = tt
  kept_there n (row ∷ rows) k can = by (bytes_eq row.key k) (kept_there (n + 1) rows k can.1)
    where
      by : (b : Bool) → IfSome (loaded_row (n + 1) rows k) (λ row. is_deletion row.value ≡ false) → IfSome (cond b (Some (reloaded (n + 1) row)) (loaded_row (n + 1) rows k)) (λ row. is_deletion row.value ≡ false)
      by true later = can.0.kept
      by false later = later

  stands : (row : RowEntry) (v : ValueDeletable) → is_deletion v ≡ false → hide_tombstone v row ≡ Some row
  stands row (values.Value v) h = refl
  stands row (values.Merge v) h = refl
  stands row values.Tombstone h = cc

  one_shown : (c : Combine) (o : Option RowEntry) → IfSome o (λ row. is_deletion row.value ≡ false) → shown c (option_to_list o) ≡ o
  one_shown c None h = refl
  one_shown c (Some row) h = stands row row.value h

  loaded_state : (n m : ℕ) (rows : List RowEntry) (k : List ℕ) → KeysCome Ascending rows → AllByRecursion (CanLoad r.combine) rows → last_of n (load_commits n rows) ≤ m → state_at r (load_commits n rows) m k ≡ loaded_row n rows k
  loaded_state n m rows k rise can past =
      ap (λ (cs : List Commit). shown (combine_at r k) (key_rows r k cs)) (all_up_to n m (load_commits n rows) (counts_loaded n rows) past)
      ∙ ap (shown (combine_at r k)) (rows_loaded n rows k rise can)
      ∙ one_shown (combine_at r k) (loaded_row n rows k) (kept_there n rows k can)

same_le : (a b : ℕ) → a ≡ b → a ≤ b
same_le a b e = omega arith

pub loads_rows : LoadsRows
loads_rows r rows pass rise can room =
    let all = loads r opening rows pass.each pass.apart can room in (
      all.replies,
      λ k.
          ap (λ (cs : List Commit). state_at r cs (last_of r.start_seq cs) k) all.commits
          ∙ loaded_state r r.start_seq (last_of r.start_seq (load_commits r.start_seq rows)) rows k rise can (same_le (last_of r.start_seq (load_commits r.start_seq rows)) (last_of r.start_seq (load_commits r.start_seq rows)) refl),
    )
