-- The entries that a batch keeps are what is kept of the operations that it took.
use Rattle.std.proofs.Common.{◌≡◌, ℕ, ◌+◌, ◌<◌, Bool, true, false, cond, ◌||◌, length-append, List, [], ◌∷◌, ◌++◌, suc, map, filter_map, flat_map, reverse, Option, Some, None, ℤ, length, bytes_eq, refl, sym, ap, subst, ◌∙◌, arith, Ordering, Less, Equal, Greater}
use Rattle.std.specs.Ordering.{is_eq, match_ordering}
use Rattle.std.specs.List.{list_any, sum_by, cons_option, AllByRecursion, AllZip}
use Rattle.std.specs.List.Sorted.{IsStrictlySortedBy}
use Rattle.std.specs.Map.{keys_of, values_of}
use Rattle.std.specs.BTreeMap.{insert_entry}
use Rattle.std.proofs.lemmas.List.Folds.{list_any-append}
use Rattle.std.proofs.lemmas.List.Sums.{sum_by-cons}
use Rattle.std.proofs.lemmas.Map.Text.{is_eq-slice_cmp}
use Rattle.std.proofs.lemmas.Slice.Eq.{bytes_eq-Decides}
use Rattle.smallvec.specs.SmallVec.{SmallVec}
use Rattle.slate_types.specs.Keys.{key_cmp, among}
use Rattle.slate_types.specs.declared.types.RowEntry.{RowEntry}
use Rattle.slate_types.specs.Fold.{Combine, from_last, fold_rows}
use Rattle.slate_types.proofs.KeyOrder.{equal_keys, bytes_eq_below, bytes_eq_above}
use Rattle.slate_types.proofs.KeySetLaws.{set_rises, same_set, AllAbove}
use Rattle.slate_mem.specs.declared.WriteOp.{WriteOp}
use Rattle.slate_mem.specs.declared.WriteOp.TheVariants.{Put, Delete, Merge}
use Rattle.slate_mem.specs.Batch.{Ops, replaces, ops_of, kept, batch_keys, kept_ops}
use Rattle.slate_mem.specs.BatchModel.{BatchModel, is_merge_op, holds_merge, with_op, IsBatchOf}
use Rattle.slate_mem.specs.Refusals.{op_refusal}
use Rattle.slate_mem.specs.RowOf.{op_row}
use Rattle.slate_mem.specs.CommitRows.{commit_rows}
use Rattle.slate_mem.specs.Kept.{Entries, items_at, listed, tagged, IsKept, AreKept, IsSingle, AreFineAt, AreFine, IsCopied, IsWhole}
use Rattle.slate_mem.specs.declared.batch_iterator.Stamps.{Stamps}
use Rattle.slate_mem.specs.BatchRows.{stamped, newest_rows}
use Rattle.std.proofs.lemmas.List.{append-nil}
use Rattle.slate_mem.proofs.BatchLaws.{ops_of_append, ops_of_one, some_of, none_left, among_keys, some_kept, ops_of_kept}
use Rattle.std.proofs.Math.Bool.{or-false}
use Rattle.slate_types.proofs.Lists.{AllByRecursion_append}

abbrev pub single_row : Option ℕ → ℕ → ℤ → List ℕ → List WriteOp → Option RowEntry
single_row default_millis n now k [] = None
single_row default_millis n now k (op ∷ ops) = Some (op_row k n default_millis now op)

abbrev pub single_rows : Option ℕ → ℕ → ℤ → Entries → List RowEntry
single_rows default_millis n now es = filter_map (λ e. single_row default_millis n now e.0 e.1.items) es

-- ---- keys

above_other : (a b : List ℕ) → key_cmp a b ≡ Greater → bytes_eq a b ≡ false
above_other a b e = sym (is_eq-slice_cmp a b) ∙ ap is_eq e

-- ---- what entries have at a key

pub none_at : (es : Entries) (k : List ℕ) → AllAbove k (keys_of es) → items_at es k ≡ []
none_at [] k h = refl
none_at (e ∷ es) k h = ap (λ b. cond b e.1.items (items_at es k)) (bytes_eq_above k e.0 h.0) ∙ none_at es k h.1

-- the operations of a key that are listed are those that are kept under it
ops_of_listed : (es : Entries) (k : List ℕ) → IsStrictlySortedBy key_cmp (keys_of es) → ops_of (listed es) k ≡ items_at es k
unfolding IsStrictlySortedBy
ops_of_listed [] k h = refl
ops_of_listed (e ∷ es) k h =
    ops_of_append (map (λ op. (e.0, op)) e.1.items) (listed es) k
    ∙ (λ i. ops_of_one e.0 k e.1.items i ++ ops_of_listed es k h.1 i)
    ∙ by (bytes_eq e.0 k) refl
  where
    by : (b : Bool) → bytes_eq e.0 k ≡ b → cond b e.1.items [] ++ items_at es k ≡ cond b e.1.items (items_at es k)
    by true is =
        let same : e.0 ≡ k = (bytes_eq-Decides e.0 k).0 is in
        ap (λ xs. e.1.items ++ xs) (ap (items_at es) (sym same) ∙ none_at es e.0 h.0) ∙ append-nil e.1.items
    by false is = refl

pub kept_at : (es : Entries) (k : List ℕ) → AreKept es → from_last replaces (items_at es k) ≡ items_at es k
kept_at [] k h = refl
kept_at (e ∷ es) k h = by (bytes_eq e.0 k) (kept_at es k h.1)
  where
    by : (b : Bool) → from_last replaces (items_at es k) ≡ items_at es k → from_last replaces (cond b e.1.items (items_at es k)) ≡ cond b e.1.items (items_at es k)
    by true later = h.0.1
    by false later = later

pub kept_listed : (es : Entries) (k : List ℕ) → IsStrictlySortedBy key_cmp (keys_of es) → AreKept es → kept (listed es) k ≡ items_at es k
kept_listed es k rising whole = ap (from_last replaces) (ops_of_listed es k rising) ∙ kept_at es k whole

some_first : {A : Type 0} (xs : List A) → 0 < length xs → some_of xs ≡ true
some_first [] h = absurd (omega arith)
some_first (x ∷ xs) h = refl

some_at : (es : Entries) (k : List ℕ) → AreKept es → some_of (items_at es k) ≡ among k (keys_of es)
some_at [] k h = refl
some_at (e ∷ es) k h = by (bytes_eq e.0 k) (some_at es k h.1)
  where
    by : (b : Bool) → some_of (items_at es k) ≡ among k (keys_of es) → some_of (cond b e.1.items (items_at es k)) ≡ (b || among k (keys_of es))
    by true later = some_first e.1.items h.0.0
    by false later = later

-- the keys of a batch are those of its map
pub keys_listed : (es : Entries) → IsStrictlySortedBy key_cmp (keys_of es) → AreKept es → batch_keys (listed es) ≡ keys_of es
keys_listed es rising whole =
    same_set (batch_keys (listed es)) (keys_of es) (set_rises (map (λ o. o.0) (listed es))) rising
    (λ k. among_keys (listed es) k ∙ ap some_of (ops_of_listed es k rising) ∙ some_at es k whole)

-- ---- operations with the same kept ones

pub same_kept : (xs ys : Ops) → ((k : List ℕ) → kept xs k ≡ kept ys k) → kept_ops xs ≡ kept_ops ys
same_kept xs ys h =
    let keys : batch_keys xs ≡ batch_keys ys =
    same_set (batch_keys xs) (batch_keys ys) (set_rises (map (λ o. o.0) xs)) (set_rises (map (λ o. o.0) ys)) (λ k. sym (some_kept xs k) ∙ ap some_of (h k) ∙ some_kept ys k) in
    λ i. flat_map (λ k. map (λ op. (k, op)) (h k i)) (keys i)

-- the entries are listed by any function that gives each key's operations
abbrev pub Gives : (List ℕ → List WriteOp) → Entries → Type 0
Gives f es = AllByRecursion (λ e. f e.0 ≡ e.1.items) es

listed_by : (f : List ℕ → List WriteOp) (es : Entries) → Gives f es → flat_map (λ k. map (λ op. (k, op)) (f k)) (keys_of es) ≡ listed es
listed_by f [] h = refl
listed_by f (e ∷ es) h = λ i. map (λ op. (e.0, op)) (h.0 i) ++ listed_by f es h.1 i

gives_more : (e : List ℕ × SmallVec WriteOp) (es fs : Entries) → AllAbove e.0 (keys_of fs) → Gives (items_at es) fs → Gives (items_at (e ∷ es)) fs
gives_more e es [] above h = tt
gives_more e es (f ∷ fs) above h = (ap (λ b. cond b e.1.items (items_at es f.0)) (bytes_eq_below e.0 f.0 above.0) ∙ h.0, gives_more e es fs above.1 h.1)

pub gives_each : (es : Entries) → IsStrictlySortedBy key_cmp (keys_of es) → Gives (items_at es) es
unfolding IsStrictlySortedBy
gives_each [] h = tt
gives_each (e ∷ es) h = (ap (λ b. cond b e.1.items (items_at es e.0)) ((bytes_eq-Decides e.0 e.0).1 refl), gives_more e es es h.0 (gives_each es h.1))

-- nothing of the listed operations is dropped
pub kept_whole : (es : Entries) → IsStrictlySortedBy key_cmp (keys_of es) → AreKept es → kept_ops (listed es) ≡ listed es
kept_whole es rising whole =
    (λ i. flat_map (λ k. map (λ op. (k, op)) (kept_listed es k rising whole i)) (keys_listed es rising whole i))
    ∙ listed_by (items_at es) es (gives_each es rising)

-- ---- one operation more

-- entries that have at its key what is kept of the operations there and one more
pub listed_more : (es fs : Entries) (k : List ℕ) (op : WriteOp) →
    IsStrictlySortedBy key_cmp (keys_of es) → AreKept es → IsStrictlySortedBy key_cmp (keys_of fs) → AreKept fs →
    ((j : List ℕ) → items_at fs j ≡ cond (bytes_eq k j) (from_last replaces (items_at es k ++ (op ∷ []))) (items_at es j)) →
    listed fs ≡ kept_ops (listed es ++ ((k, op) ∷ []))
listed_more es fs k op rising whole rising' whole' at =
    sym (kept_whole fs rising' whole') ∙ same_kept (listed fs) (listed es ++ ((k, op) ∷ [])) each
  where
    each : (j : List ℕ) → kept (listed fs) j ≡ kept (listed es ++ ((k, op) ∷ [])) j
    each j =
        kept_listed fs j rising' whole' ∙ at j ∙ by (bytes_eq k j) refl
        ∙ sym (ap (from_last replaces) (ops_of_append (listed es) ((k, op) ∷ []) j ∙ (λ i. ops_of_listed es j rising i ++ ops_of_one k j (op ∷ []) i)))
      where
        by : (b : Bool) → bytes_eq k j ≡ b → cond b (from_last replaces (items_at es k ++ (op ∷ []))) (items_at es j) ≡ from_last replaces (items_at es j ++ cond b (op ∷ []) [])
        by true is = ap (λ h. from_last replaces (items_at es h ++ (op ∷ []))) ((bytes_eq-Decides k j).0 is)
        by false is = sym (ap (from_last replaces) (append-nil (items_at es j)) ∙ kept_at es j whole)

pub at_insert : (es : Entries) (k : List ℕ) (v : SmallVec WriteOp) (j : List ℕ) → items_at (insert_entry key_cmp es k v) j ≡ cond (bytes_eq k j) v.items (items_at es j)
at_insert [] k v j = refl
at_insert (e ∷ es) k v j = by (key_cmp k e.0) refl (at_insert es k v j)
  where
    by : (o : Ordering) → key_cmp k e.0 ≡ o → items_at (insert_entry key_cmp es k v) j ≡ cond (bytes_eq k j) v.items (items_at es j) →
        items_at (match_ordering o ((k, v) ∷ e ∷ es) ((e.0, v) ∷ es) (e ∷ insert_entry key_cmp es k v)) j ≡ cond (bytes_eq k j) v.items (cond (bytes_eq e.0 j) e.1.items (items_at es j))
    by Less is later = refl
    by Equal is later =
        let same : k ≡ e.0 = equal_keys k e.0 is in
        ap (λ h. cond (bytes_eq h j) v.items (items_at es j)) (sym same) ∙ two (bytes_eq k j) (bytes_eq e.0 j) (ap (λ h. bytes_eq h j) same)
      where
        two : (b c : Bool) → b ≡ c → cond b v.items (items_at es j) ≡ cond b v.items (cond c e.1.items (items_at es j))
        two true c h = refl
        two false true h = cc
        two false false h = refl
    by Greater is later = two (bytes_eq e.0 j) refl
      where
        two : (b : Bool) → bytes_eq e.0 j ≡ b → cond b e.1.items (items_at (insert_entry key_cmp es k v) j) ≡ cond (bytes_eq k j) v.items (cond b e.1.items (items_at es j))
        two true h =
            let same : e.0 ≡ j = (bytes_eq-Decides e.0 j).0 h in
            sym (ap (λ b. cond b v.items e.1.items) (ap (bytes_eq k) (sym same) ∙ above_other k e.0 is))
        two false h = later

pub all_insert : (Q : SmallVec WriteOp → Type 0) (es : Entries) (k : List ℕ) (v : SmallVec WriteOp) → AllByRecursion (λ e. Q e.1) es → Q v → AllByRecursion (λ e. Q e.1) (insert_entry key_cmp es k v)
all_insert Q [] k v h q = (q, tt)
all_insert Q (e ∷ es) k v h q = by (key_cmp k e.0) (all_insert Q es k v h.1 q)
  where
    by : (o : Ordering) → AllByRecursion (λ f. Q f.1) (insert_entry key_cmp es k v) → AllByRecursion (λ f. Q f.1) (match_ordering o ((k, v) ∷ e ∷ es) ((e.0, v) ∷ es) (e ∷ insert_entry key_cmp es k v))
    by Less later = (q, h)
    by Equal later = (q, h.1)
    by Greater later = (h.0, later)

pub fine_insert : (es : Entries) (k : List ℕ) (v : SmallVec WriteOp) → AreFine es → AreFineAt k v.items → AreFine (insert_entry key_cmp es k v)
fine_insert [] k v h q = (q, tt)
fine_insert (e ∷ es) k v h q = by (key_cmp k e.0) refl (fine_insert es k v h.1 q)
  where
    by : (o : Ordering) → key_cmp k e.0 ≡ o → AreFine (insert_entry key_cmp es k v) → AreFine (match_ordering o ((k, v) ∷ e ∷ es) ((e.0, v) ∷ es) (e ∷ insert_entry key_cmp es k v))
    by Less is later = (q, h)
    by Equal is later = (subst (λ j. AreFineAt j v.items) (equal_keys k e.0 is) q, h.1)
    by Greater is later = (h.0, later)

any_last : {A : Type 0} (test : A → Bool) (xs : List A) (x : A) → test x ≡ true → list_any test (xs ++ (x ∷ [])) ≡ true
any_last test [] x h = ap (λ b. b || false) h
any_last test (y ∷ ys) x h = by (test y) (any_last test ys x h)
  where
    by : (b : Bool) → list_any test (ys ++ (x ∷ [])) ≡ true → (b || list_any test (ys ++ (x ∷ []))) ≡ true
    by true later = refl
    by false later = later

-- a last one that passes stands alone
pub from_last_passes : {A : Type 0} (test : A → Bool) (xs : List A) (x : A) → test x ≡ true → from_last test (xs ++ (x ∷ [])) ≡ x ∷ []
from_last_passes test [] x h = refl
from_last_passes test (y ∷ ys) x h =
    ap (λ b. cond b (from_last test (ys ++ (x ∷ []))) (y ∷ (ys ++ (x ∷ [])))) (any_last test ys x h) ∙ from_last_passes test ys x h

not_merge : (k : List ℕ) (op : WriteOp) → replaces op ≡ true → is_merge_op (k, op) ≡ false
not_merge k (Put v o) h = refl
not_merge k Delete h = refl
not_merge k (Merge v o) h = cc

single_kept : (v : SmallVec WriteOp) (op : WriteOp) → v.items ≡ op ∷ [] → IsKept v.items
single_kept v op h = subst IsKept (sym h) (omega arith, refl)

-- a put or a delete in place of a key's operations
pub whole_set : (es fs : Entries) (held : Bool) (k : List ℕ) (op : WriteOp) (v : SmallVec WriteOp) → op_refusal k op ≡ None → replaces op ≡ true → v.items ≡ op ∷ [] → fs ≡ insert_entry key_cmp es k v →
    IsStrictlySortedBy key_cmp (keys_of fs) → IsWhole es held → IsWhole fs held
whole_set es fs held k op v fine r one is rising w = record {
  rising = rising;
  kept = subst AreKept (sym is) (all_insert (λ u. IsKept u.items) es k v w.kept (single_kept v op one));
  fine = subst AreFine (sym is) (fine_insert es k v w.fine (subst (AreFineAt k) (sym one) (fine, tt)));
  told = λ h. subst (λ gs. AllByRecursion (λ e. IsSingle e.1.items) gs) (sym is) (all_insert (λ u. IsSingle u.items) es k v (w.told h) (op, one, r));
}

pub view_set : (es fs : Entries) (held : Bool) (k : List ℕ) (op : WriteOp) (v : SmallVec WriteOp) → op_refusal k op ≡ None → replaces op ≡ true → v.items ≡ op ∷ [] → fs ≡ insert_entry key_cmp es k v →
    IsStrictlySortedBy key_cmp (keys_of fs) → IsWhole es held → (let after : BatchModel = record { ops = listed fs; held_merge = held } in after) ≡ with_op (record { ops = listed es; held_merge = held }) k op
view_set es fs held k op v fine r one is rising w =
    let list = listed_more es fs k op w.rising w.kept rising (whole_set es fs held k op v fine r one is rising w).kept at in
    let flag : held ≡ (held || is_merge_op (k, op)) = sym (ap (λ b. held || b) (not_merge k op r) ∙ or-false held) in
    λ i. record { ops = list i; held_merge = flag i }
  where
    at : (j : List ℕ) → items_at fs j ≡ cond (bytes_eq k j) (from_last replaces (items_at es k ++ (op ∷ []))) (items_at es j)
    at j = ap (λ gs. items_at gs j) is ∙ at_insert es k v j ∙ ap (λ xs. cond (bytes_eq k j) xs (items_at es j)) (one ∙ sym (from_last_passes replaces (items_at es k) op r))

-- ---- all operations that a batch took

pub any_front : {A : Type 0} (test : A → Bool) (xs ys : List A) → list_any test xs ≡ true → list_any test (xs ++ ys) ≡ true
any_front test [] ys h = cc
any_front test (x ∷ xs) ys h = by (test x) h (any_front test xs ys)
  where
    by : (b : Bool) → (b || list_any test xs) ≡ true → (list_any test xs ≡ true → list_any test (xs ++ ys) ≡ true) → (b || list_any test (xs ++ ys)) ≡ true
    by true e later = refl
    by false e later = later e

from_last_front : {A : Type 0} (test : A → Bool) (xs ys : List A) → from_last test (from_last test xs ++ ys) ≡ from_last test (xs ++ ys)
from_last_front test [] ys = refl
from_last_front test (x ∷ xs) ys = by (list_any test xs) refl (from_last_front test xs ys)
  where
    by : (b : Bool) → list_any test xs ≡ b → from_last test (from_last test xs ++ ys) ≡ from_last test (xs ++ ys) →
        from_last test (cond b (from_last test xs) (x ∷ xs) ++ ys) ≡ cond (list_any test (xs ++ ys)) (from_last test (xs ++ ys)) (x ∷ (xs ++ ys))
    by true e later = later ∙ sym (ap (λ c. cond c (from_last test (xs ++ ys)) (x ∷ (xs ++ ys))) (any_front test xs ys e))
    by false e later = refl

ops_of_kept_ops : (ops : Ops) (k : List ℕ) → ops_of (kept_ops ops) k ≡ kept ops k
ops_of_kept_ops ops k = ops_of_kept ops k ∙ by (among k (batch_keys ops)) refl
  where
    by : (b : Bool) → among k (batch_keys ops) ≡ b → cond b (kept ops k) [] ≡ kept ops k
    by true e = refl
    by false e = sym (none_left (kept ops k) (some_kept ops k ∙ e))

-- what is kept of the kept ones and one more is kept of all
pub kept_more : (ops : Ops) (k : List ℕ) (op : WriteOp) → kept_ops (kept_ops ops ++ ((k, op) ∷ [])) ≡ kept_ops (ops ++ ((k, op) ∷ []))
kept_more ops k op = same_kept (kept_ops ops ++ ((k, op) ∷ [])) (ops ++ ((k, op) ∷ [])) each
  where
    each : (j : List ℕ) → kept (kept_ops ops ++ ((k, op) ∷ [])) j ≡ kept (ops ++ ((k, op) ∷ [])) j
    each j =
        ap (from_last replaces) (ops_of_append (kept_ops ops) ((k, op) ∷ []) j ∙ ap (λ xs. xs ++ ops_of ((k, op) ∷ []) j) (ops_of_kept_ops ops j))
        ∙ from_last_front replaces (ops_of ops j) (ops_of ((k, op) ∷ []) j)
        ∙ sym (ap (from_last replaces) (ops_of_append ops ((k, op) ∷ []) j))

any_more : {A : Type 0} (test : A → Bool) (xs : List A) (x : A) → (list_any test xs || test x) ≡ list_any test (xs ++ (x ∷ []))
any_more test [] x = sym (or-false (test x))
any_more test (y ∷ ys) x = by (test y) (any_more test ys x)
  where
    by : (b : Bool) → (list_any test ys || test x) ≡ list_any test (ys ++ (x ∷ [])) → ((b || list_any test ys) || test x) ≡ (b || list_any test (ys ++ (x ∷ [])))
    by true later = refl
    by false later = later

pub batch_of_more : (b : BatchModel) (ops : Ops) (k : List ℕ) (op : WriteOp) → IsBatchOf ops b → IsBatchOf (ops ++ ((k, op) ∷ [])) (with_op b k op)
batch_of_more b ops k op h =
    (ap (λ os. kept_ops (os ++ ((k, op) ∷ []))) h.0 ∙ kept_more ops k op, ap (λ f. f || is_merge_op (k, op)) h.1 ∙ any_more is_merge_op ops (k, op))

-- ---- what is read of them

pub none_listed : (es : Entries) → AreKept es → listed es ≡ [] → length es ≡ 0
none_listed [] w h = refl
none_listed (e ∷ es) w h = by e.1.items w.0.0 h
  where
    by : (ops : List WriteOp) → 0 < length ops → (map (λ op. (e.0, op)) ops ++ listed es) ≡ [] → length (e ∷ es) ≡ 0
    by [] some h = absurd (omega arith)
    by (op ∷ ops) some h = cc

pub listed_none : (es : Entries) → length es ≡ 0 → listed es ≡ []
listed_none [] h = refl
listed_none (e ∷ es) h = absurd (omega arith)

length_tagged : (k : List ℕ) (ops : List WriteOp) → length (tagged k ops) ≡ length ops
length_tagged k [] = refl
length_tagged k (op ∷ ops) = ap suc (length_tagged k ops)

fine_tagged : (k : List ℕ) (ops : List WriteOp) → AreFineAt k ops → AllByRecursion (λ (o : List ℕ × WriteOp). op_refusal o.0 o.1 ≡ None) (tagged k ops)
fine_tagged k [] h = tt
fine_tagged k (op ∷ ops) h = (h.0, fine_tagged k ops h.1)

pub fine_listed : (es : Entries) → AreFine es → AllByRecursion (λ (o : List ℕ × WriteOp). op_refusal o.0 o.1 ≡ None) (listed es)
fine_listed [] h = tt
fine_listed (e ∷ es) h = AllByRecursion_append (λ (o : List ℕ × WriteOp). op_refusal o.0 o.1 ≡ None) (tagged e.0 e.1.items) (listed es) (fine_tagged e.0 e.1.items h.0) (fine_listed es h.1)

none_tagged : (k : List ℕ) (ops : List WriteOp) → IsSingle ops → holds_merge (tagged k ops) ≡ false
none_tagged k ops (op, is, h) = ap (λ os. holds_merge (tagged k os)) is ∙ ap (λ b. b || false) (not_merge k op h)

either : (xs ys : Ops) → holds_merge xs ≡ false → holds_merge ys ≡ false → holds_merge (xs ++ ys) ≡ false
either xs ys h g = list_any-append is_merge_op xs ys ∙ (λ i. h i || g i)

pub plain_listed : (es : Entries) → AllByRecursion (λ e. IsSingle e.1.items) es → holds_merge (listed es) ≡ false
plain_listed [] h = refl
plain_listed (e ∷ es) h = either (tagged e.0 e.1.items) (listed es) (none_tagged e.0 e.1.items h.0) (plain_listed es h.1)

-- how many there are
pub length_listed : (es : Entries) → length (listed es) ≡ sum_by (λ v. length v.items) (values_of es)
length_listed [] = refl
length_listed (e ∷ es) = length-append (tagged e.0 e.1.items) (listed es) ∙ (λ i. length_tagged e.0 e.1.items i + length_listed es i) ∙ sym (sum_by-cons (λ v. length v.items) e.1 (values_of es))

-- ---- a copy

-- copies of operations are equal to them
abbrev pub AreSame : (WriteOp → WriteOp → Type 0) → Type 0
AreSame Same = (a b : WriteOp) → Same a b → b ≡ a

same_items : (Same : WriteOp → WriteOp → Type 0) → AreSame Same → (xs ys : List WriteOp) → AllZip Same xs ys → ys ≡ xs
same_items Same s [] [] h = refl
same_items Same s [] (y ∷ ys) h = absurd h
same_items Same s (x ∷ xs) [] h = absurd h
same_items Same s (x ∷ xs) (y ∷ ys) h = λ i. s x y h.0 i ∷ same_items Same s xs ys h.1 i

pub copied_keys : (Same : WriteOp → WriteOp → Type 0) (es fs : Entries) → IsCopied Same es fs → keys_of fs ≡ keys_of es
copied_keys Same [] [] h = refl
copied_keys Same [] (f ∷ fs) h = absurd h
copied_keys Same (e ∷ es) [] h = absurd h
copied_keys Same (e ∷ es) (f ∷ fs) h = λ i. h.0.0 i ∷ copied_keys Same es fs h.1 i

pub copied_listed : (Same : WriteOp → WriteOp → Type 0) → AreSame Same → (es fs : Entries) → IsCopied Same es fs → listed fs ≡ listed es
copied_listed Same s [] [] h = refl
copied_listed Same s [] (f ∷ fs) h = absurd h
copied_listed Same s (e ∷ es) [] h = absurd h
copied_listed Same s (e ∷ es) (f ∷ fs) h = λ i. map (λ op. (h.0.0 i, op)) (same_items Same s e.1.items f.1.items h.0.1 i) ++ copied_listed Same s es fs h.1 i

copied_all : (Same : WriteOp → WriteOp → Type 0) → AreSame Same → (Q : List WriteOp → Type 0) (es fs : Entries) → IsCopied Same es fs → AllByRecursion (λ e. Q e.1.items) es → AllByRecursion (λ e. Q e.1.items) fs
copied_all Same s Q [] [] h q = tt
copied_all Same s Q [] (f ∷ fs) h q = absurd h
copied_all Same s Q (e ∷ es) [] h q = absurd h
copied_all Same s Q (e ∷ es) (f ∷ fs) h q = (subst Q (sym (same_items Same s e.1.items f.1.items h.0.1)) q.0, copied_all Same s Q es fs h.1 q.1)

copied_fine : (Same : WriteOp → WriteOp → Type 0) → AreSame Same → (es fs : Entries) → IsCopied Same es fs → AreFine es → AreFine fs
copied_fine Same s [] [] h q = tt
copied_fine Same s [] (f ∷ fs) h q = absurd h
copied_fine Same s (e ∷ es) [] h q = absurd h
copied_fine Same s (e ∷ es) (f ∷ fs) h q =
    (subst (λ k. AreFineAt k f.1.items) (sym h.0.0) (subst (AreFineAt e.0) (sym (same_items Same s e.1.items f.1.items h.0.1)) q.0), copied_fine Same s es fs h.1 q.1)

pub copied_whole : (Same : WriteOp → WriteOp → Type 0) → AreSame Same → (es fs : Entries) (held : Bool) → IsCopied Same es fs → IsWhole es held → IsWhole fs held
copied_whole Same s es fs held h w = record {
  rising = subst (IsStrictlySortedBy key_cmp) (sym (copied_keys Same es fs h)) w.rising;
  kept = copied_all Same s IsKept es fs h w.kept;
  fine = copied_fine Same s es fs h w.fine;
  told = λ none. copied_all Same s IsSingle es fs h (w.told none);
}

-- ---- rows

-- a key's one operation makes its row
row_single : (c : Combine) (default_millis : Option ℕ) (n : ℕ) (now : ℤ) (k : List ℕ) (ops : List WriteOp) → IsSingle ops →
    fold_rows c (map (op_row k n default_millis now) ops) ≡ single_row default_millis n now k ops
row_single c default_millis n now k ops (op, is, r) = subst (λ os. fold_rows c (map (op_row k n default_millis now) os) ≡ single_row default_millis n now k os) (sym is) refl

rows_by : (f : List ℕ → Option RowEntry) (default_millis : Option ℕ) (n : ℕ) (now : ℤ) (es : Entries) → AllByRecursion (λ e. f e.0 ≡ single_row default_millis n now e.0 e.1.items) es →
    filter_map f (keys_of es) ≡ single_rows default_millis n now es
rows_by f default_millis n now [] h = refl
rows_by f default_millis n now (e ∷ es) h = λ i. cons_option (h.0 i) (rows_by f default_millis n now es h.1 i)

-- at each entry the batch keeps that entry's operations
each_kept : (f : List ℕ → List WriteOp) (c : List ℕ → Combine) (default_millis : Option ℕ) (n : ℕ) (now : ℤ) (es : Entries) → Gives f es → AllByRecursion (λ e. IsSingle e.1.items) es →
    AllByRecursion (λ e. fold_rows (c e.0) (map (op_row e.0 n default_millis now) (f e.0)) ≡ single_row default_millis n now e.0 e.1.items) es
each_kept f c default_millis n now [] g h = tt
each_kept f c default_millis n now (e ∷ es) g h =
    (ap (λ ops. fold_rows (c e.0) (map (op_row e.0 n default_millis now) ops)) g.0 ∙ row_single (c e.0) default_millis n now e.0 e.1.items h.0, each_kept f c default_millis n now es g.1 h.1)

pub rows_listed : (c : List ℕ → Combine) (default_millis : Option ℕ) (n : ℕ) (now : ℤ) (es : Entries) → IsWhole es false → commit_rows c default_millis n now (listed es) ≡ single_rows default_millis n now es
rows_listed c default_millis n now es w =
    (λ i. filter_map (λ k. fold_rows (c k) (map (op_row k n default_millis now) (kept_listed es k w.rising w.kept i))) (keys_listed es w.rising w.kept i))
    ∙ rows_by (λ k. fold_rows (c k) (map (op_row k n default_millis now) (items_at es k))) default_millis n now es (each_kept (items_at es) c default_millis n now es (gives_each es w.rising) (w.told refl))

-- where each key has one operation, the newest of each is the only one
pub newest_single : (default_millis : Option ℕ) (n : ℕ) (now : ℤ) (es : Entries) → AllByRecursion (λ e. IsSingle e.1.items) es →
    newest_rows (record { seq = n; create_ts = Some now; default_ttl_millis = default_millis }) es ≡ single_rows default_millis n now es
newest_single default_millis n now [] h = refl
newest_single default_millis n now (e ∷ es) h =
    let s : Stamps = record { seq = n; create_ts = Some now; default_ttl_millis = default_millis } in
    ap (λ ops. map (stamped s e.0) (reverse ops) ++ newest_rows s es) h.0.1
    ∙ ap (λ rows. op_row e.0 n default_millis now h.0.0 ∷ rows) (newest_single default_millis n now es h.1)
    ∙ sym (ap (λ ops. cons_option (single_row default_millis n now e.0 ops) (single_rows default_millis n now es)) h.0.1)
