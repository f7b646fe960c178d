-- One operation more behind those of a key.
use Rattle.std.proofs.Common.{◌≡◌, ℕ, ◌<◌, Bool, true, false, cond, ◌||◌, length-append, List, [], ◌∷◌, ◌++◌, Some, None, length, bytes_eq, refl, sym, ap, subst, ◌∙◌, arith, Ordering, Less, Equal, Greater}
use Rattle.std.specs.Prelude.{Result, Ok, Err, OnOk, OnErr, IfOk, IfErr}
use Rattle.std.specs.Ordering.{is_eq, match_ordering}
use Rattle.std.specs.List.Sorted.{IsStrictlySortedBy}
use Rattle.std.specs.Map.{keys_of, lookup, set_value}
use Rattle.std.specs.BTreeMap.{insert_entry, is_at}
use Rattle.std.proofs.lemmas.Cmp.{nat_list_cmp_total, nat_list_eq_equiv}
use Rattle.std.proofs.lemmas.Map.Text.{is_eq-slice_cmp}
use Rattle.std.proofs.lemmas.Slice.Eq.{bytes_eq-Decides}
use Rattle.smallvec.specs.SmallVec.{SmallVec}
use Rattle.slate_types.specs.Keys.{key_cmp}
use Rattle.slate_types.specs.Fold.{from_last}
use Rattle.slate_types.proofs.KeySetLaws.{AllAbove}
use Rattle.slate_types.proofs.Lists.{AllByRecursion_append}
use Rattle.slate_mem.specs.declared.WriteOp.{WriteOp}
use Rattle.slate_mem.specs.declared.WriteOp.TheVariants.{Merge}
use Rattle.slate_types.specs.declared.config.MergeOptions.{MergeOptions}
use Rattle.slate_mem.specs.Batch.{replaces}
use Rattle.slate_mem.specs.BatchModel.{BatchModel, with_op}
use Rattle.slate_mem.specs.Kept.{Entries, items_at, listed, IsKept, AreKept, AreFineAt, AreFine, IsWhole}
use Rattle.slate_mem.specs.Refusals.{op_refusal}
use Rattle.slate_mem.proofs.KeptLaws.{all_insert, at_insert, fine_insert, kept_at, listed_more}
use Rattle.slate_mem.proofs.MemLaws.{from_last_stays}

-- ---- an answer that is passed on

-- ---- keys

same_test : (k j : List ℕ) → is_at (key_cmp k) j ≡ bytes_eq j k
same_test k j = is_eq-slice_cmp k j ∙ nat_list_eq_equiv.symm k j

-- ---- what is found under a key

pub found_items : (es : Entries) (k : List ℕ) (v : SmallVec WriteOp) → lookup (is_at (key_cmp k)) es ≡ Some v → items_at es k ≡ v.items
found_items [] k v h = cc
found_items (e ∷ es) k v h = by (bytes_eq e.0 k) (ap (λ t. cond t (Some e.1) (lookup (is_at (key_cmp k)) es)) (sym (same_test k e.0)) ∙ h) (found_items es k v)
  where
    by : (b : Bool) → cond b (Some e.1) (lookup (is_at (key_cmp k)) es) ≡ Some v → (lookup (is_at (key_cmp k)) es ≡ Some v → items_at es k ≡ v.items) → cond b e.1.items (items_at es k) ≡ v.items
    by true is later = let same : e.1 ≡ v = cc in ap (λ u. u.items) same
    by false is later = later is

pub none_items : (es : Entries) (k : List ℕ) → lookup (is_at (key_cmp k)) es ≡ None → items_at es k ≡ []
none_items [] k h = refl
none_items (e ∷ es) k h = by (bytes_eq e.0 k) (ap (λ t. cond t (Some e.1) (lookup (is_at (key_cmp k)) es)) (sym (same_test k e.0)) ∙ h) (none_items es k)
  where
    by : (b : Bool) → cond b (Some e.1) (lookup (is_at (key_cmp k)) es) ≡ None → (lookup (is_at (key_cmp k)) es ≡ None → items_at es k ≡ []) → cond b e.1.items (items_at es k) ≡ []
    by true is later = cc
    by false is later = later is

above_trans : (k x : List ℕ) (xs : List (List ℕ)) → key_cmp k x ≡ Less → AllAbove x xs → AllAbove k xs
above_trans k x [] h hs = tt
above_trans k x (y ∷ ys) h hs = (nat_list_cmp_total.trans k x y h hs.0, above_trans k x ys h hs.1)

none_above : (es : Entries) (k : List ℕ) → AllAbove k (keys_of es) → lookup (is_at (key_cmp k)) es ≡ None
none_above [] k h = refl
none_above (e ∷ es) k h = ap (λ o. cond (is_eq o) (Some e.1) (lookup (is_at (key_cmp k)) es)) h.0 ∙ none_above es k h.1

-- what is written over a value that is there is inserted
pub set_insert : (es : Entries) (k : List ℕ) (v w : SmallVec WriteOp) → IsStrictlySortedBy key_cmp (keys_of es) → lookup (is_at (key_cmp k)) es ≡ Some w → set_value (is_at (key_cmp k)) es v ≡ insert_entry key_cmp es k v
unfolding IsStrictlySortedBy
set_insert [] k v w h found = cc
set_insert (e ∷ es) k v w h found = by (key_cmp k e.0) refl found (set_insert es k v w h.1)
  where
    by : (o : Ordering) → key_cmp k e.0 ≡ o → cond (is_eq o) (Some e.1) (lookup (is_at (key_cmp k)) es) ≡ Some w → (lookup (is_at (key_cmp k)) es ≡ Some w → set_value (is_at (key_cmp k)) es v ≡ insert_entry key_cmp es k v) →
        cond (is_eq o) ((e.0, v) ∷ es) (e ∷ set_value (is_at (key_cmp k)) es v) ≡ match_ordering o ((k, v) ∷ e ∷ es) ((e.0, v) ∷ es) (e ∷ insert_entry key_cmp es k v)
    by Less is there later = let none : lookup (is_at (key_cmp k)) es ≡ None = none_above es k (above_trans k e.0 (keys_of es) is h.0) in cc
    by Equal is there later = refl
    by Greater is there later = ap (λ fs. e ∷ fs) (later there)

-- ---- an operand behind the operations of its key

fine_at : (es : Entries) (k : List ℕ) → AreFine es → AreFineAt k (items_at es k)
fine_at [] k h = tt
fine_at (e ∷ es) k h = by (bytes_eq e.0 k) refl (fine_at es k h.1)
  where
    by : (b : Bool) → bytes_eq e.0 k ≡ b → AreFineAt k (items_at es k) → AreFineAt k (cond b e.1.items (items_at es k))
    by true is later = subst (λ j. AreFineAt j e.1.items) ((bytes_eq-Decides e.0 k).0 is) h.0
    by false is later = later

-- what is kept of a key's operations and an operand is all of them
stays_kept : (es : Entries) (k : List ℕ) (op : WriteOp) → replaces op ≡ false → AreKept es → from_last replaces (items_at es k ++ (op ∷ [])) ≡ items_at es k ++ (op ∷ [])
stays_kept es k op r h = from_last_stays replaces (items_at es k) op r ∙ ap (λ xs. xs ++ (op ∷ [])) (kept_at es k h)

some_more : (xs : List WriteOp) (op : WriteOp) → 0 < length (xs ++ (op ∷ []))
some_more xs op = let more = length-append xs (op ∷ []) in omega (arith, more)

pub whole_append : (es fs : Entries) (held : Bool) (k : List ℕ) (op : WriteOp) (v : SmallVec WriteOp) → op_refusal k op ≡ None → replaces op ≡ false → v.items ≡ items_at es k ++ (op ∷ []) → fs ≡ insert_entry key_cmp es k v →
    IsStrictlySortedBy key_cmp (keys_of fs) → IsWhole es held → IsWhole fs true
whole_append es fs held k op v fine r more is rising w = record {
  rising = rising;
  kept = subst AreKept (sym is) (all_insert (λ u. IsKept u.items) es k v w.kept (subst IsKept (sym more) (some_more (items_at es k) op, stays_kept es k op r w.kept)));
  fine = subst AreFine (sym is) (fine_insert es k v w.fine (subst (AreFineAt k) (sym more) (AllByRecursion_append (λ (o : WriteOp). op_refusal k o ≡ None) (items_at es k) (op ∷ []) (fine_at es k w.fine) (fine, tt))));
  told = λ h. cc;
}

pub view_append : (es fs : Entries) (held : Bool) (k v : List ℕ) (o : MergeOptions) (list : SmallVec WriteOp) → op_refusal k (Merge v o) ≡ None → list.items ≡ items_at es k ++ (Merge v o ∷ []) → fs ≡ insert_entry key_cmp es k list →
    IsStrictlySortedBy key_cmp (keys_of fs) → IsWhole es held → (let after : BatchModel = record { ops = listed fs; held_merge = true } in after) ≡ with_op (record { ops = listed es; held_merge = held }) k (Merge v o)
view_append es fs held k v o list fine more is rising w =
    let ops = listed_more es fs k (Merge v o) w.rising w.kept rising (whole_append es fs held k (Merge v o) list fine refl more is rising w).kept at in
    let flag : true ≡ (held || true) = or_true held in
    λ i. record { ops = ops i; held_merge = flag i }
  where
    or_true : (b : Bool) → true ≡ (b || true)
    or_true true = refl
    or_true false = refl

    at : (j : List ℕ) → items_at fs j ≡ cond (bytes_eq k j) (from_last replaces (items_at es k ++ (Merge v o ∷ []))) (items_at es j)
    at j = ap (λ gs. items_at gs j) is ∙ at_insert es k list j ∙ ap (λ xs. cond (bytes_eq k j) xs (items_at es j)) (more ∙ sym (stays_kept es k (Merge v o) refl w.kept))
