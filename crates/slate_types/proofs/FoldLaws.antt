-- The laws of the fold, by a join of two rows of a key that is associative.
use Rattle.std.proofs.Common.{◌≡◌, ℕ, max, min, Bool, true, false, cond, not, ◌||◌, List, [], ◌∷◌, ◌++◌, Option, Some, None, option_to_list, IfSome, filter_map, flat_map, ℤ, pos, negsuc, refl, sym, ap, ◌∙◌, arith, ltb}
use Rattle.std.specs.Int.{int_max, int_min}
use Rattle.std.specs.List.{list_any, AllByRecursion, cons_option}
use Rattle.std.proofs.lemmas.Bool.Decides.{nat_tests}
use Rattle.slate_types.specs.declared.types.ValueDeletable.{ValueDeletable}
use Rattle.slate_types.specs.declared.types.ValueDeletable.TheVariants.{Value, Merge, Tombstone}
use Rattle.slate_types.specs.declared.types.RowEntry.{RowEntry}
use Rattle.slate_types.specs.Rows.{is_base, is_merge, operand, bytes_of, latest, earliest}
use Rattle.slate_types.specs.Join.{join_value, picked, join, AreOf}
use Rattle.slate_types.specs.Fold.{Combine, taken, onto, value_of_taken, greatest_seq, latest_creation, earliest_expiry, fold_taken, fold_rows, IsShort, AreShort, IsLawful, KeepsShort, merge_all}
use Rattle.std.proofs.lemmas.Bool.{or_right}
use Rattle.slate_types.proofs.Plain.{or_second}

-- the row, with the rows after it joined on one by one
abbrev pub joins : Combine → RowEntry → List RowEntry → RowEntry
joins c r [] = r
joins c r (s ∷ rs) = joins c (join c r s) rs

-- ---- the stamps

int_max_pos : (a b : ℕ) → int_max (pos a) (pos b) ≡ pos (max a b)
int_max_pos a b = by (ltb b a) refl
  where
    by : (t : Bool) → ltb b a ≡ t → cond t (pos a) (pos b) ≡ pos (max a b)
    by true e = let m : a ≡ max a b = grind (arith, nat_tests) in ap pos m
    by false e = let m : b ≡ max a b = grind (arith, nat_tests) in ap pos m

int_max_neg : (a b : ℕ) → int_max (negsuc a) (negsuc b) ≡ negsuc (min a b)
int_max_neg a b = by (ltb a b) refl
  where
    by : (t : Bool) → ltb a b ≡ t → cond t (negsuc a) (negsuc b) ≡ negsuc (min a b)
    by true e = let m : a ≡ min a b = grind (arith, nat_tests) in ap negsuc m
    by false e = let m : b ≡ min a b = grind (arith, nat_tests) in ap negsuc m

int_min_pos : (a b : ℕ) → int_min (pos a) (pos b) ≡ pos (min a b)
int_min_pos a b = by (ltb b a) refl
  where
    by : (t : Bool) → ltb b a ≡ t → cond t (pos b) (pos a) ≡ pos (min a b)
    by true e = let m : b ≡ min a b = grind (arith, nat_tests) in ap pos m
    by false e = let m : a ≡ min a b = grind (arith, nat_tests) in ap pos m

int_min_neg : (a b : ℕ) → int_min (negsuc a) (negsuc b) ≡ negsuc (max a b)
int_min_neg a b = by (ltb a b) refl
  where
    by : (t : Bool) → ltb a b ≡ t → cond t (negsuc b) (negsuc a) ≡ negsuc (max a b)
    by true e = let m : b ≡ max a b = grind (arith, nat_tests) in ap negsuc m
    by false e = let m : a ≡ max a b = grind (arith, nat_tests) in ap negsuc m

max_assoc : (a b c : ℕ) → max (max a b) c ≡ max a (max b c)
max_assoc a b c = omega arith

min_assoc : (a b c : ℕ) → min (min a b) c ≡ min a (min b c)
min_assoc a b c = omega arith

int_max_assoc : (a b c : ℤ) → int_max (int_max a b) c ≡ int_max a (int_max b c)
int_max_assoc (pos a) (pos b) (pos c) = ap (λ z. int_max z (pos c)) (int_max_pos a b) ∙ int_max_pos (max a b) c ∙ ap pos (max_assoc a b c) ∙ sym (int_max_pos a (max b c)) ∙ sym (ap (λ z. int_max (pos a) z) (int_max_pos b c))
int_max_assoc (pos a) (pos b) (negsuc c) = ap (λ z. int_max z (negsuc c)) (int_max_pos a b) ∙ sym (int_max_pos a b)
int_max_assoc (pos a) (negsuc b) (pos c) = refl
int_max_assoc (pos a) (negsuc b) (negsuc c) = sym (ap (λ z. int_max (pos a) z) (int_max_neg b c))
int_max_assoc (negsuc a) (pos b) (pos c) = int_max_pos b c ∙ sym (ap (λ z. int_max (negsuc a) z) (int_max_pos b c))
int_max_assoc (negsuc a) (pos b) (negsuc c) = refl
int_max_assoc (negsuc a) (negsuc b) (pos c) = ap (λ z. int_max z (pos c)) (int_max_neg a b)
int_max_assoc (negsuc a) (negsuc b) (negsuc c) = ap (λ z. int_max z (negsuc c)) (int_max_neg a b) ∙ int_max_neg (min a b) c ∙ ap negsuc (min_assoc a b c) ∙ sym (int_max_neg a (min b c)) ∙ sym (ap (λ z. int_max (negsuc a) z) (int_max_neg b c))

int_min_assoc : (a b c : ℤ) → int_min (int_min a b) c ≡ int_min a (int_min b c)
int_min_assoc (pos a) (pos b) (pos c) = ap (λ z. int_min z (pos c)) (int_min_pos a b) ∙ int_min_pos (min a b) c ∙ ap pos (min_assoc a b c) ∙ sym (int_min_pos a (min b c)) ∙ sym (ap (λ z. int_min (pos a) z) (int_min_pos b c))
int_min_assoc (pos a) (pos b) (negsuc c) = ap (λ z. int_min z (negsuc c)) (int_min_pos a b)
int_min_assoc (pos a) (negsuc b) (pos c) = refl
int_min_assoc (pos a) (negsuc b) (negsuc c) = int_min_neg b c ∙ sym (ap (λ z. int_min (pos a) z) (int_min_neg b c))
int_min_assoc (negsuc a) (pos b) (pos c) = sym (ap (λ z. int_min (negsuc a) z) (int_min_pos b c))
int_min_assoc (negsuc a) (pos b) (negsuc c) = refl
int_min_assoc (negsuc a) (negsuc b) (pos c) = ap (λ z. int_min z (pos c)) (int_min_neg a b) ∙ sym (int_min_neg a b)
int_min_assoc (negsuc a) (negsuc b) (negsuc c) = ap (λ z. int_min z (negsuc c)) (int_min_neg a b) ∙ int_min_neg (max a b) c ∙ ap negsuc (max_assoc a b c) ∙ sym (int_min_neg a (max b c)) ∙ sym (ap (λ z. int_min (negsuc a) z) (int_min_neg b c))

latest_assoc : (a b c : Option ℤ) → latest (latest a b) c ≡ latest a (latest b c)
latest_assoc None b c = refl
latest_assoc (Some x) None c = refl
latest_assoc (Some x) (Some y) None = refl
latest_assoc (Some x) (Some y) (Some z) = ap Some (int_max_assoc x y z)

earliest_assoc : (a b c : Option ℤ) → earliest (earliest a b) c ≡ earliest a (earliest b c)
earliest_assoc None b c = refl
earliest_assoc (Some x) None c = refl
earliest_assoc (Some x) (Some y) None = refl
earliest_assoc (Some x) (Some y) (Some z) = ap Some (int_min_assoc x y z)

-- ---- the join

join_value_short : (c : Combine) → IsLawful c → KeepsShort c → (u w : ValueDeletable) → IsShort (bytes_of u) → IsShort (bytes_of w) → IsShort (bytes_of (join_value c u w))
join_value_short c law keeps u (Value w) hu h = h
join_value_short c law keeps u Tombstone hu h = h
join_value_short c law keeps (Value u) (Merge w) hu h = keeps (Some u) w hu h
join_value_short c law keeps Tombstone (Merge w) hu h = keeps None w tt h
join_value_short c law keeps (Merge u) (Merge w) hu h = keeps (Some u) w hu h

joins_short : (c : Combine) → IsLawful c → KeepsShort c → (r : RowEntry) (rs : List RowEntry) → IsShort (operand r) → AreShort rs → IsShort (operand (joins c r rs))
joins_short c law keeps r [] h hs = h
joins_short c law keeps r (s ∷ rs) h hs = joins_short c law keeps (join c r s) rs (join_value_short c law keeps r.value s.value h hs.0) hs.1

join_value_assoc : (c : Combine) → IsLawful c → KeepsShort c → (u v w : ValueDeletable) → IsShort (bytes_of u) → IsShort (bytes_of v) → IsShort (bytes_of w) → join_value c (join_value c u v) w ≡ join_value c u (join_value c v w)
join_value_assoc c law keeps u v (Value w) hu hv hw = refl
join_value_assoc c law keeps u v Tombstone hu hv hw = refl
join_value_assoc c law keeps u (Value v) (Merge w) hu hv hw = refl
join_value_assoc c law keeps u Tombstone (Merge w) hu hv hw = refl
join_value_assoc c law keeps (Value u) (Merge v) (Merge w) hu hv hw = ap Value (law.assoc u v w hu hv hw)
join_value_assoc c law keeps Tombstone (Merge v) (Merge w) hu hv hw =
    ap (λ x. Value (c (Some x) w)) (law.first v hv) ∙ ap Value (sym (law.first (c (Some v) w) (keeps (Some v) w hv hw)))
join_value_assoc c law keeps (Merge u) (Merge v) (Merge w) hu hv hw = ap Merge (law.assoc u v w hu hv hw)

picked_assoc : {X : Type 0} (op : X → X → X) → ((x y z : X) → op (op x y) z ≡ op x (op y z)) → (c : Combine) (v w : ValueDeletable) (x y z : X) →
    picked w (op (picked v (op x y) y) z) z ≡ picked (join_value c v w) (op x (picked w (op y z) z)) (picked w (op y z) z)
picked_assoc op assoc c v (Value w) x y z = refl
picked_assoc op assoc c v Tombstone x y z = refl
picked_assoc op assoc c (Value v) (Merge w) x y z = refl
picked_assoc op assoc c Tombstone (Merge w) x y z = refl
picked_assoc op assoc c (Merge v) (Merge w) x y z = assoc x y z

join_assoc : (c : Combine) → IsLawful c → KeepsShort c → (a b d : RowEntry) → IsShort (operand a) → IsShort (operand b) → IsShort (operand d) → join c (join c a b) d ≡ join c a (join c b d)
join_assoc c law keeps a b d ha hb hd = λ i. record {
  key = picked_assoc (λ x y. x) (λ x y z. refl) c b.value d.value a.key b.key d.key i;
  value = join_value_assoc c law keeps a.value b.value d.value ha hb hd i;
  seq = picked_assoc max max_assoc c b.value d.value a.seq b.seq d.seq i;
  create_ts = picked_assoc latest latest_assoc c b.value d.value a.create_ts b.create_ts d.create_ts i;
  expire_ts = picked_assoc earliest earliest_assoc c b.value d.value a.expire_ts b.expire_ts d.expire_ts i;
}

joins_append : (c : Combine) (r : RowEntry) (xs ys : List RowEntry) → joins c r (xs ++ ys) ≡ joins c (joins c r xs) ys
joins_append c r [] ys = refl
joins_append c r (x ∷ xs) ys = joins_append c (join c r x) xs ys

joins_join : (c : Combine) → IsLawful c → KeepsShort c → (a b : RowEntry) (ys : List RowEntry) → IsShort (operand a) → IsShort (operand b) → AreShort ys → joins c (join c a b) ys ≡ join c a (joins c b ys)
joins_join c law keeps a b [] ha hb hs = refl
joins_join c law keeps a b (y ∷ ys) ha hb hs =
    ap (λ r. joins c r ys) (join_assoc c law keeps a b y ha hb hs.0)
    ∙ joins_join c law keeps a (join c b y) ys ha (join_value_short c law keeps b.value y.value hb hs.0) hs.1

-- ---- the fold is the joins

-- a value that is no operand hides what stood before it
picked_base : {X : Type 0} (v : ValueDeletable) → not (is_merge v) ≡ true → (x y : X) → picked v x y ≡ y
picked_base (Value v) h x y = refl
picked_base Tombstone h x y = refl
picked_base (Merge v) h x y = cc

join_value_base : (c : Combine) (u v : ValueDeletable) → not (is_merge v) ≡ true → join_value c u v ≡ v
join_value_base c u (Value v) h = refl
join_value_base c u Tombstone h = refl
join_value_base c u (Merge v) h = cc

join_base : (c : Combine) (a b : RowEntry) → is_base b ≡ true → join c a b ≡ b
join_base c a b h = λ i. record {
  key = picked_base b.value h a.key b.key i;
  value = join_value_base c a.value b.value h i;
  seq = picked_base b.value h (max a.seq b.seq) b.seq i;
  create_ts = picked_base b.value h (latest a.create_ts b.create_ts) b.create_ts i;
  expire_ts = picked_base b.value h (earliest a.expire_ts b.expire_ts) b.expire_ts i;
}

-- and an operand takes on what stood before it
picked_merge : {X : Type 0} (v : ValueDeletable) → is_merge v ≡ true → (x y : X) → picked v x y ≡ x
picked_merge (Value v) h x y = cc
picked_merge Tombstone h x y = cc
picked_merge (Merge v) h x y = refl

-- the value of taken rows, from one row on, is that from the join of it and the next
value_step : (c : Combine) → IsLawful c → KeepsShort c → (u w : ValueDeletable) (s : RowEntry) (rs : List RowEntry) → s.value ≡ w → is_merge w ≡ true → IsShort (bytes_of u) → IsShort (bytes_of w) →
    value_of_taken c (join_value c u w) rs ≡ value_of_taken c u (s ∷ rs)
value_step c law keeps u (Value w) s rs e h hu hw = cc
value_step c law keeps u Tombstone s rs e h hu hw = cc
value_step c law keeps (Value u) (Merge w) s [] e h hu hw = sym (ap (λ x. Value (c (Some u) (bytes_of x))) e)
value_step c law keeps (Value u) (Merge w) s (r ∷ rs) e h hu hw = sym (ap (λ x. Value (onto c (c (Some u) (bytes_of x)) (r ∷ rs))) e)
value_step c law keeps Tombstone (Merge w) s [] e h hu hw = sym (ap (λ x. Value (c None (bytes_of x))) e)
value_step c law keeps Tombstone (Merge w) s (r ∷ rs) e h hu hw = sym (ap (λ x. Value (onto c (c None (bytes_of x)) (r ∷ rs))) e)
value_step c law keeps (Merge u) (Merge w) s [] e h hu hw =
    sym (ap (λ x. Merge (c (Some x) (operand s))) (law.first u hu) ∙ ap (λ x. Merge (c (Some u) (bytes_of x))) e)
value_step c law keeps (Merge u) (Merge w) s (r ∷ rs) e h hu hw =
    ap (λ x. Merge (onto c x (r ∷ rs))) (law.first (c (Some u) w) (keeps (Some u) w hu hw))
    ∙ sym (ap (λ x. Merge (onto c (c (Some x) (operand s)) (r ∷ rs))) (law.first u hu) ∙ ap (λ x. Merge (onto c (c (Some u) (bytes_of x)) (r ∷ rs))) e)

-- the fold of rows of which only the first may be no operand
fold_of_taken : Combine → RowEntry → List RowEntry → RowEntry
fold_of_taken c r rs = record {
  key = r.key;
  value = value_of_taken c r.value rs;
  seq = greatest_seq r.seq rs;
  create_ts = latest_creation r.create_ts rs;
  expire_ts = earliest_expiry r.expire_ts rs;
}

or_false_first : (a b : Bool) → (a || b) ≡ false → a ≡ false
or_false_first true b h = h
or_false_first false b h = refl

or_false_second : (a b : Bool) → (a || b) ≡ false → b ≡ false
or_false_second true b h = cc
or_false_second false b h = h

not_false : (a : Bool) → not a ≡ false → a ≡ true
not_false true h = refl
not_false false h = sym h

joins_operands : (c : Combine) → IsLawful c → KeepsShort c → (r : RowEntry) (rs : List RowEntry) → list_any is_base rs ≡ false → IsShort (operand r) → AreShort rs → joins c r rs ≡ fold_of_taken c r rs
unfolding fold_of_taken
joins_operands c law keeps r [] none h hs = refl
joins_operands c law keeps r (s ∷ rs) none h hs =
    joins_operands c law keeps (join c r s) rs (or_false_second (is_base s) (list_any is_base rs) none) (join_value_short c law keeps r.value s.value h hs.0) hs.1
    ∙ λ i. record {
      key = picked_merge s.value merge r.key s.key i;
      value = value_step c law keeps r.value s.value s rs refl merge h hs.0 i;
      seq = greatest_seq (picked_merge s.value merge (max r.seq s.seq) s.seq i) rs;
      create_ts = latest_creation (picked_merge s.value merge (latest r.create_ts s.create_ts) s.create_ts i) rs;
      expire_ts = earliest_expiry (picked_merge s.value merge (earliest r.expire_ts s.expire_ts) s.expire_ts i) rs;
    }
  where
    merge : is_merge s.value ≡ true
    merge = not_false (is_merge s.value) (or_false_first (is_base s) (list_any is_base rs) none)

-- behind a row that is no operand, what stood first makes no difference
joins_hidden : (c : Combine) (a b : RowEntry) (rs : List RowEntry) → list_any is_base rs ≡ true → joins c a rs ≡ joins c b rs
joins_hidden c a b [] h = cc
joins_hidden c a b (s ∷ rs) h = by (is_base s) refl (joins_hidden c (join c a s) (join c b s) rs)
  where
    by : (t : Bool) → is_base s ≡ t → (list_any is_base rs ≡ true → joins c (join c a s) rs ≡ joins c (join c b s) rs) → joins c (join c a s) rs ≡ joins c (join c b s) rs
    by true e later = ap (λ r. joins c r rs) (join_base c a s e ∙ sym (join_base c b s e))
    by false e later = later (or_second (is_base s) (list_any is_base rs) h e)

-- the fold of one row and more
pub fold_joins : (c : Combine) → IsLawful c → KeepsShort c → (r : RowEntry) (rs : List RowEntry) → IsShort (operand r) → AreShort rs → fold_rows c (r ∷ rs) ≡ Some (joins c r rs)
fold_joins c law keeps r [] h hs = refl
fold_joins c law keeps r (s ∷ rs) h hs = by (list_any is_base (s ∷ rs)) refl (fold_joins c law keeps s rs hs.0 hs.1)
  where
    hides : (t : Bool) → is_base s ≡ t → list_any is_base (s ∷ rs) ≡ true → joins c s rs ≡ joins c (join c r s) rs
    hides true e any = ap (λ x. joins c x rs) (sym (join_base c r s e))
    hides false e any = joins_hidden c s (join c r s) rs (or_second (is_base s) (list_any is_base rs) any e)

    by : (t : Bool) → list_any is_base (s ∷ rs) ≡ t → fold_rows c (s ∷ rs) ≡ Some (joins c s rs) → fold_taken c (cond t (taken (s ∷ rs)) (r ∷ s ∷ rs)) ≡ Some (joins c r (s ∷ rs))
    by true e later = later ∙ ap Some (hides (is_base s) refl e)
    by false e later = ap Some (sym (unfold fold_of_taken in joins_operands c law keeps r (s ∷ rs) e h hs))

-- ---- the laws

AreShort_append : (xs ys : List RowEntry) → AreShort (xs ++ ys) → AreShort xs × AreShort ys
AreShort_append [] ys h = (tt, h)
AreShort_append (x ∷ xs) ys h = ((h.0, (AreShort_append xs ys h.1).0), (AreShort_append xs ys h.1).1)

AreShort_both : (xs ys : List RowEntry) → AreShort xs → AreShort ys → AreShort (xs ++ ys)
AreShort_both [] ys h k = k
AreShort_both (x ∷ xs) ys h k = (h.0, AreShort_both xs ys h.1 k)

-- Rows in the middle may be replaced by their fold.
pub fold_middle : (c : Combine) → IsLawful c → KeepsShort c → (older middle newer : List RowEntry) → AreShort older → AreShort middle → AreShort newer →
    fold_rows c (older ++ (middle ++ newer)) ≡ fold_rows c (older ++ (option_to_list (fold_rows c middle) ++ newer))
fold_middle c law keeps older [] newer ho hm hn = refl
fold_middle c law keeps older (m ∷ ms) newer ho hm hn =
    by older ho ∙ ap (λ o. fold_rows c (older ++ (option_to_list o ++ newer))) (sym (fold_joins c law keeps m ms hm.0 hm.1))
  where
    one : RowEntry
    one = joins c m ms

    one_short : IsShort (operand one)
    one_short = joins_short c law keeps m ms hm.0 hm.1

    rest_short : AreShort (ms ++ newer)
    rest_short = AreShort_both ms newer hm.1 hn

    by : (os : List RowEntry) → AreShort os → fold_rows c (os ++ (m ∷ (ms ++ newer))) ≡ fold_rows c (os ++ (one ∷ newer))
    by [] h = fold_joins c law keeps m (ms ++ newer) hm.0 rest_short ∙ ap Some (joins_append c m ms newer) ∙ sym (fold_joins c law keeps one newer one_short hn)
    by (o ∷ os) h =
        fold_joins c law keeps o (os ++ (m ∷ (ms ++ newer))) h.0 (AreShort_both os (m ∷ (ms ++ newer)) h.1 (hm.0, rest_short))
        ∙ ap Some (joins_append c o os (m ∷ (ms ++ newer))
        ∙ joins_append c (join c (joins c o os) m) ms newer
        ∙ ap (λ r. joins c r newer) (joins_join c law keeps (joins c o os) m ms (joins_short c law keeps o os h.0 h.1) hm.0 hm.1)
        ∙ sym (joins_append c o os (one ∷ newer)))
        ∙ sym (fold_joins c law keeps o (os ++ (one ∷ newer)) h.0 (AreShort_both os (one ∷ newer) h.1 (one_short, hn)))

-- ---- batches of operands

merge_from : Combine → List ℕ → List (List ℕ) → List ℕ
merge_from c v [] = v
merge_from c v (w ∷ ws) = merge_from c (c (Some v) w) ws

merge_all_some : (c : Combine) (v : List ℕ) (ws : List (List ℕ)) → merge_all c (Some v) ws ≡ Some (merge_from c v ws)
unfolding merge_from
merge_all_some c v [] = refl
merge_all_some c v (w ∷ ws) = merge_all_some c (c (Some v) w) ws

merge_from_short : (c : Combine) → IsLawful c → KeepsShort c → (v : List ℕ) (ws : List (List ℕ)) → IsShort v → AllByRecursion IsShort ws → IsShort (merge_from c v ws)
unfolding merge_from
merge_from_short c law keeps v [] h hs = h
merge_from_short c law keeps v (w ∷ ws) h hs = merge_from_short c law keeps (c (Some v) w) ws (keeps (Some v) w h hs.0) hs.1

merge_from_assoc : (c : Combine) → IsLawful c → KeepsShort c → (u v : List ℕ) (ws : List (List ℕ)) → IsShort u → IsShort v → AllByRecursion IsShort ws → merge_from c (c (Some u) v) ws ≡ c (Some u) (merge_from c v ws)
unfolding merge_from
merge_from_assoc c law keeps u v [] hu hv hs = refl
merge_from_assoc c law keeps u v (w ∷ ws) hu hv hs =
    ap (λ x. merge_from c x ws) (law.assoc u v w hu hv hs.0) ∙ merge_from_assoc c law keeps u (c (Some v) w) ws hu (keeps (Some v) w hv hs.0) hs.1

merge_all_append : (c : Combine) (e : Option (List ℕ)) (xs ys : List (List ℕ)) → merge_all c e (xs ++ ys) ≡ merge_all c (merge_all c e xs) ys
merge_all_append c e [] ys = refl
merge_all_append c e (x ∷ xs) ys = merge_all_append c (Some (c e x)) xs ys

-- a value, or none, and a whole piece
merge_piece : (c : Combine) → IsLawful c → KeepsShort c → (e : Option (List ℕ)) (v : List ℕ) (vs : List (List ℕ)) → IfSome e IsShort → IsShort v → AllByRecursion IsShort vs →
    merge_all c e (v ∷ vs) ≡ Some (c e (merge_from c v vs))
merge_piece c law keeps None v vs he hv hs =
    merge_all_some c (c None v) vs ∙ ap (λ x. Some (merge_from c x vs)) (law.first v hv) ∙ ap Some (sym (law.first (merge_from c v vs) (merge_from_short c law keeps v vs hv hs)))
merge_piece c law keeps (Some u) v vs he hv hs = merge_all_some c (c (Some u) v) vs ∙ ap Some (merge_from_assoc c law keeps u v vs he hv hs)

-- Operands may be combined in pieces first, however they are cut.
pub merge_pieces : (c : Combine) → IsLawful c → KeepsShort c → (e : Option (List ℕ)) (pieces : List (List (List ℕ))) → IfSome e IsShort → AllByRecursion (λ p. AllByRecursion IsShort p) pieces →
    merge_all c e (flat_map (λ p. p) pieces) ≡ merge_all c e (filter_map (λ p. merge_all c None p) pieces)
merge_pieces c law keeps e [] he hs = refl
merge_pieces c law keeps e ([] ∷ ps) he hs = merge_pieces c law keeps e ps he hs.1
merge_pieces c law keeps e ((v ∷ vs) ∷ ps) he hs =
    merge_all_append c e (v ∷ vs) (flat_map (λ p. p) ps)
    ∙ ap (λ x. merge_all c x (flat_map (λ p. p) ps)) (merge_piece c law keeps e v vs he hs.0.0 hs.0.1)
    ∙ merge_pieces c law keeps (Some (c e one)) ps (keeps e one he one_short) hs.1
    ∙ sym (ap (λ o. merge_all c e (cons_option o (filter_map (λ p. merge_all c None p) ps))) piece)
  where
    one : List ℕ
    one = merge_from c v vs

    one_short : IsShort one
    one_short = merge_from_short c law keeps v vs hs.0.0 hs.0.1

    piece : merge_all c None (v ∷ vs) ≡ Some one
    piece = merge_piece c law keeps None v vs tt hs.0.0 hs.0.1 ∙ ap Some (law.first one one_short)

-- ---- a row that is no operand

any_base : (os : List RowEntry) (r : RowEntry) (rs : List RowEntry) → is_base r ≡ true → list_any is_base (os ++ (r ∷ rs)) ≡ true
any_base [] r rs h = ap (λ b. b || list_any is_base rs) h
any_base (o ∷ os) r rs h = or_right (is_base o) (list_any is_base (os ++ (r ∷ rs))) (any_base os r rs h)

pub hides_older : (c : Combine) (older newer : List RowEntry) (r : RowEntry) → is_base r ≡ true → fold_rows c (older ++ (r ∷ newer)) ≡ fold_rows c (r ∷ newer)
hides_older c [] newer r h = refl
hides_older c (o ∷ os) newer r h =
    ap (λ b. fold_taken c (cond b (taken (os ++ (r ∷ newer))) (o ∷ os ++ (r ∷ newer)))) (any_base os r newer h) ∙ hides_older c os newer r h

-- ---- one row more

AreOf_short : (k : List ℕ) (rows : List RowEntry) → AreOf k rows → AreShort rows
AreOf_short k [] h = tt
AreOf_short k (r ∷ rs) h = (h.0.1, AreOf_short k rs h.1)

-- The join of the first two rows stands for both.
pub fold_join : (k : List ℕ) (c : Combine) → IsLawful c → KeepsShort c → (a b : RowEntry) (rs : List RowEntry) → AreOf k (a ∷ b ∷ rs) → fold_rows c (join c a b ∷ rs) ≡ fold_rows c (a ∷ b ∷ rs)
fold_join k c law keeps a b rs h =
    fold_joins c law keeps (join c a b) rs (join_value_short c law keeps a.value b.value h.0.1 h.1.0.1) (AreOf_short k rs h.1.1)
    ∙ sym (fold_joins c law keeps a (b ∷ rs) h.0.1 (h.1.0.1, AreOf_short k rs h.1.1))

picked_same : {X : Type 0} (v : ValueDeletable) (x y z : X) → x ≡ z → y ≡ z → picked v x y ≡ z
picked_same (Value v) x y z h k = k
picked_same Tombstone x y z h k = k
picked_same (Merge v) x y z h k = h

pub AreOf_join : (k : List ℕ) (c : Combine) → IsLawful c → KeepsShort c → (a b : RowEntry) (rs : List RowEntry) → AreOf k (a ∷ b ∷ rs) → AreOf k (join c a b ∷ rs)
AreOf_join k c law keeps a b rs h = ((picked_same b.value a.key b.key k h.0.0 h.1.0.0, join_value_short c law keeps a.value b.value h.0.1 h.1.0.1), h.1.1)
