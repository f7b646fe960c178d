-- What a walk over rows finds of a key.
use Rattle.std.proofs.Common.{◌≡◌, ℕ, ◌<◌, Bool, true, false, cond, ◌&&◌, List, [], ◌∷◌, length, Option, Some, None, arith, refl, sym, ap, subst, ◌∙◌, bytes_eq, nat_le, Ordering, Less, Equal, Greater}
use Rattle.std.specs.Ordering.{is_lt, ordering_reverse}
use Rattle.std.proofs.lemmas.Slice.Eq.{bytes_eq-Decides}
use Rattle.slate_types.specs.declared.types.RowEntry.{RowEntry}
use Rattle.slate_types.specs.declared.iter.IterationOrder.{IterationOrder}
use Rattle.slate_types.specs.declared.iter.IterationOrder.TheVariants.{Ascending}
use Rattle.slate_types.specs.Iteration.{NoneBefore, IsInOrder, TakesRow, begins_before, drop_before}
use Rattle.slate_types.specs.Keys.{key_cmp, key_lt, key_le}
use Rattle.slate_types.specs.Rows.{is_base}
use Rattle.slate_types.proofs.IterationLaws.{none_before_earlier}
use Rattle.slate_types.proofs.KeyOrder.{equal_keys, turned_key, not_lt, lt_le_trans, lt_irreflexive}
use Rattle.slate_mem.specs.Table.{newest, to_base, up_to}

-- rows past a key have none of it
none_past : (k : List ℕ) (n : ℕ) (row : RowEntry) (rows : List RowEntry) → key_lt k row.key ≡ true → NoneBefore Ascending row.key rows → up_to k n rows ≡ []
none_past k n row [] past h = refl
none_past k n row (r ∷ rs) past h = by (bytes_eq r.key k) refl (none_past k n row rs past h.1)
  where
    by : (b : Bool) → bytes_eq r.key k ≡ b → up_to k n rs ≡ [] → cond (b && nat_le r.seq n) (r ∷ up_to k n rs) (up_to k n rs) ≡ []
    by true e rest =
        let same : r.key ≡ k = (bytes_eq-Decides r.key k).0 e in
        let above : key_le row.key k ≡ true = ap (key_le row.key) (sym same) ∙ not_lt r.key row.key h.0 in
        lt_irreflexive k (lt_le_trans k row.key k past above)
    by false e rest = rest

tied_keys : (k j : List ℕ) → key_lt j k ≡ false → key_lt k j ≡ false → bytes_eq j k ≡ true
tied_keys k j h s = by (key_cmp j k) refl h (sym (ap is_lt (turned_key k j)) ∙ s)
  where
    by : (o : Ordering) → key_cmp j k ≡ o → is_lt o ≡ false → is_lt (ordering_reverse (key_cmp j k)) ≡ false → bytes_eq j k ≡ true
    by Less e a b = cc
    by Equal e a b = (bytes_eq-Decides j k).1 (equal_keys j k e)
    by Greater e a b = let clash : true ≡ false = sym (ap (λ o. is_lt (ordering_reverse o)) e) ∙ b in cc

past_is : (k j : List ℕ) → key_lt j k ≡ false → bytes_eq j k ≡ false → key_lt k j ≡ true
past_is k j h e = by (key_lt k j) refl
  where
    by : (t : Bool) → key_lt k j ≡ t → t ≡ true
    by true s = refl
    by false s = let clash : true ≡ false = sym (tied_keys k j h s) ∙ e in cc

-- a walk ends at a row of another key
pub ends_past : (k : List ℕ) (n : ℕ) (row : RowEntry) (rows : List RowEntry) → NoneBefore Ascending k (row ∷ rows) → IsInOrder Ascending (row ∷ rows) → bytes_eq row.key k ≡ false → newest k n (row ∷ rows) ≡ []
ends_past k n row rows none order other =
    ap (λ b. to_base (cond (b && nat_le row.seq n) (row ∷ up_to k n rows) (up_to k n rows))) other
    ∙ ap to_base (none_past k n row rows (past_is k row.key none.0 other) order.0)

pub passes_newer : (k : List ℕ) (n : ℕ) (row : RowEntry) (rows : List RowEntry) → nat_le row.seq n ≡ false → newest k n (row ∷ rows) ≡ newest k n rows
passes_newer k n row rows h = by (bytes_eq row.key k)
  where
    by : (b : Bool) → to_base (cond (b && nat_le row.seq n) (row ∷ up_to k n rows) (up_to k n rows)) ≡ to_base (up_to k n rows)
    by true = ap (λ t. to_base (cond t (row ∷ up_to k n rows) (up_to k n rows))) h
    by false = refl

pub takes_row : (k : List ℕ) (n : ℕ) (row : RowEntry) (rows : List RowEntry) → bytes_eq row.key k ≡ true → nat_le row.seq n ≡ true → newest k n (row ∷ rows) ≡ cond (is_base row) (row ∷ []) (row ∷ newest k n rows)
takes_row k n row rows e h = (λ i. to_base (cond (e i && h i) (row ∷ up_to k n rows) (up_to k n rows)))

-- ---- a seek

pub dropped_none : (k : List ℕ) (rows : List RowEntry) → IsInOrder Ascending rows → NoneBefore Ascending k (drop_before Ascending k rows)
dropped_none k [] h = tt
dropped_none k (r ∷ rs) h = by (key_lt r.key k) refl (dropped_none k rs h.1)
  where
    by : (t : Bool) → key_lt r.key k ≡ t → NoneBefore Ascending k (drop_before Ascending k rs) → NoneBefore Ascending k (cond t (drop_before Ascending k rs) (r ∷ rs))
    by true e rest = rest
    by false e rest = (e, none_before_earlier Ascending k r.key rs e h.0)

pub dropped_same : (k : List ℕ) (n : ℕ) (rows : List RowEntry) → newest k n (drop_before Ascending k rows) ≡ newest k n rows
dropped_same k n [] = refl
dropped_same k n (r ∷ rs) = by (key_lt r.key k) refl (bytes_eq r.key k) refl (dropped_same k n rs)
  where
    by : (t : Bool) → key_lt r.key k ≡ t → (b : Bool) → bytes_eq r.key k ≡ b → newest k n (drop_before Ascending k rs) ≡ newest k n rs →
        newest k n (cond t (drop_before Ascending k rs) (r ∷ rs)) ≡ to_base (cond (b && nat_le r.seq n) (r ∷ up_to k n rs) (up_to k n rs))
    by true e true f rest = lt_irreflexive k (ap (λ j. key_lt j k) (sym ((bytes_eq-Decides r.key k).0 f)) ∙ e)
    by true e false f rest = rest
    by false e b f rest = ap (λ c. to_base (cond (c && nat_le r.seq n) (r ∷ up_to k n rs) (up_to k n rs))) f

-- ---- one row of a walk

pub takes : (rows : List RowEntry) (o : Option RowEntry) (row : RowEntry) (after : List RowEntry) → o ≡ Some row → TakesRow rows o after → rows ≡ row ∷ after
takes rows o row after is h = subst (λ (x : Option RowEntry). TakesRow rows x after) is h

-- a row that is taken in a seek
pub record Passed (order : IterationOrder) (key : List ℕ) (before after : List RowEntry) : Type 0 where
  pub same : drop_before order key after ≡ drop_before order key before
  pub fewer : length after < length before
  pub sorted : IsInOrder order before → IsInOrder order after

pub passes : (order : IterationOrder) (key : List ℕ) (before after : List RowEntry) (answer : Option RowEntry) → begins_before order key before ≡ true → TakesRow before answer after → Passed order key before after
passes order key [] after answer h taken = cc
passes order key (r ∷ rows) after None h taken = let none : r ∷ rows ≡ [] = taken.0 in cc
passes order key (r ∷ rows) after (Some row) h taken =
    let rest : rows ≡ after = cc in
    record {
      same = ap (drop_before order key) (sym rest) ∙ sym (ap (λ b. cond b (drop_before order key rows) (r ∷ rows)) h);
      fewer = subst (λ xs. length xs < length (r ∷ rows)) rest (omega arith);
      sorted = λ k. subst (IsInOrder order) rest k.1;
    }
