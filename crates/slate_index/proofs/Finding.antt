-- What a scan of the keys that begin with a field's prefix hands out are the entries of just the records that have the field.
use Rattle.std.proofs.Common.{◌≡◌, ℕ, zero, suc, ◌+◌, ◌<◌, ◌≤◌, Bool, true, false, cond, ◌||◌, ◌&&◌, nat_eq, List, [], ◌∷◌, ◌++◌, map, filter, filter_map, flat_map, get_or, take, drop, length, take-append-drop, append_assoc, append-nil, bytes_eq, Option, Some, None, is_some, option_map, refl, sym, ap, subst, ◌∙◌, arith, Ordering, Less}
use Rattle.std.specs.Prelude.{nat_le, nat_lt}
use Rattle.std.specs.List.{AllByRecursion, cons_option, list_all, starts_with}
use Rattle.std.specs.List.Sorted.{IsStrictlySortedBy}
use Rattle.std.specs.Ordering.{nat_cmp, ordering_then}
use Rattle.std.proofs.Math.Seq.{take-append_seam}
use Rattle.std.proofs.lemmas.Bool.Decides.{nat_tests}
use Rattle.std.proofs.lemmas.Cmp.{nat_cmp_total, tied_itself}
use Rattle.std.proofs.lemmas.List.{take_more}
use Rattle.std.proofs.lemmas.List.Folds.{list_any-append}
use Rattle.std.proofs.lemmas.List.Kept.{IsStrictlySortedBy-filter}
use Rattle.std.proofs.lemmas.Slice.Eq.{bytes_eq-Decides}
use Rattle.slate_types.specs.declared.iter.IterationOrder.TheVariants.{Ascending}
use Rattle.slate_types.specs.declared.types.RowEntry.{RowEntry}
use Rattle.slate_types.specs.Fold.{shown}
use Rattle.slate_types.specs.Keys.{AreBytes, among, in_range, key_cmp, prefix_range}
use Rattle.slate_types.specs.Rows.{operand}
use Rattle.slate_types.proofs.KeyOrder.{bytes_eq_same}
use Rattle.slate_types.proofs.KeySetLaws.{set_keeps, set_rises}
use Rattle.slate_types.proofs.Lists.{AllByRecursion_append}
use Rattle.slate_types.proofs.Plain.{neither}
use Rattle.slate_types.proofs.PrefixLaws.{range_of_prefix}
use Rattle.slate_mem.specs.Batch.{batch_keys}
use Rattle.slate_mem.specs.RowOf.{row_of}
use Rattle.slate_mem.proofs.BatchLaws.{has_one_row}
use Rattle.slate_txn.specs.Reads.{key_rows, keys_seen, rows_seen, seen, up_to}
use Rattle.slate_txn.specs.State.{Commit, Rules, combine_at}
use Rattle.slate_txn.proofs.PartLaws.{IsOfKeys}
use Rattle.slate_txn.proofs.PlaceLaws.{own_seen}
use Rattle.slate_index.specs.Names.{is_letter_or_digit, is_plain_name}
use Rattle.slate_index.specs.Entries.{FieldsModel, entries_below, entry_key, entry_prefix, entry_where, escaped, is_entry_key, longest_field, record_key}
use Rattle.slate_index.specs.Changes.{HasEntries, HasRecord, Values}
use Rattle.slate_index.specs.Commits.{IsPlainName}
use Rattle.slate_index.specs.Finds.{Finds, has_field, is_field, name_behind, name_if, named_if, names_behind, record_has}
use Rattle.slate_index.specs.Laws.{PrefixesTell}
use Rattle.slate_index.proofs.Telling.{tell}

-- ---- tests

same_truth : (a b : Bool) → (a ≡ true → b ≡ true) → (b ≡ true → a ≡ true) → a ≡ b
same_truth true true f g = refl
same_truth true false f g = sym (f refl)
same_truth false true f g = g refl
same_truth false false f g = refl

or_front : (a b : Bool) → a ≡ true → (a || b) ≡ true
or_front true b h = refl
or_front false b h = cc

or_behind : (a b : Bool) → b ≡ true → (a || b) ≡ true
or_behind true b h = refl
or_behind false b h = h

or_cases : (a b : Bool) {P : Type 0} → (a || b) ≡ true → (a ≡ true → P) → (b ≡ true → P) → P
or_cases true b h f g = f refl
or_cases false b h f g = g h

never : {A : Type 0} → false ≡ true → A
never e = cc

-- ---- lists

pub record IsMadeOf (g : List ℕ → Option (List ℕ)) (ks : List (List ℕ)) (id : List ℕ) : Type 0 where
  key : List ℕ
  there : among key ks ≡ true
  gives : g key ≡ Some id

made_of : (g : List ℕ → Option (List ℕ)) (ks : List (List ℕ)) (id : List ℕ) → among id (filter_map g ks) ≡ true → IsMadeOf g ks id
made_of g [] id h = never h
made_of g (k ∷ ks) id h = by (g k) refl h (made_of g ks id)
  where
    later : IsMadeOf g ks id → IsMadeOf g (k ∷ ks) id
    later w = record { key = w.key; there = or_behind (bytes_eq k w.key) (among w.key ks) w.there; gives = w.gives }

    by : (o : Option (List ℕ)) → g k ≡ o → among id (cons_option o (filter_map g ks)) ≡ true → (among id (filter_map g ks) ≡ true → IsMadeOf g ks id) → IsMadeOf g (k ∷ ks) id
    by None e h rest = later (rest h)
    by (Some x) e h rest = or_cases (bytes_eq x id) (among id (filter_map g ks)) h
        (λ same. record { key = k; there = or_front (bytes_eq k k) (among k ks) (bytes_eq_same k); gives = e ∙ ap Some ((bytes_eq-Decides x id).0 same) })
        (λ there. later (rest there))

gives_among : (g : List ℕ → Option (List ℕ)) (ks : List (List ℕ)) (k id : List ℕ) → among k ks ≡ true → g k ≡ Some id → among id (filter_map g ks) ≡ true
gives_among g [] k id h e = never h
gives_among g (j ∷ ks) k id h e = by (g j) refl (λ rest. gives_among g ks k id rest e)
  where
    some_same : (x : List ℕ) → Some x ≡ Some id → x ≡ id
    some_same x s = cc

    by : (o : Option (List ℕ)) → g j ≡ o → (among k ks ≡ true → among id (filter_map g ks) ≡ true) → among id (cons_option o (filter_map g ks)) ≡ true
    by None is later = or_cases (bytes_eq j k) (among k ks) h
        (λ same. let clash : None ≡ Some id = sym is ∙ ap g ((bytes_eq-Decides j k).0 same) ∙ e in cc)
        later
    by (Some x) is later = or_cases (bytes_eq j k) (among k ks) h
        (λ same. or_front (bytes_eq x id) (among id (filter_map g ks)) ((bytes_eq-Decides x id).1 (some_same x (sym is ∙ ap g ((bytes_eq-Decides j k).0 same) ∙ e))))
        (λ rest. or_behind (bytes_eq x id) (among id (filter_map g ks)) (later rest))

-- what rises is kept by what keeps the order
abbrev KeepsOrder : (List ℕ → Option (List ℕ)) → Type 0
KeepsOrder g = (k j a b : List ℕ) → key_cmp k j ≡ Less → g k ≡ Some a → g j ≡ Some b → key_cmp a b ≡ Less

above_made : (g : List ℕ → Option (List ℕ)) → KeepsOrder g → (k a : List ℕ) → g k ≡ Some a → (ks : List (List ℕ)) → AllByRecursion (λ y. key_cmp k y ≡ Less) ks → AllByRecursion (λ y. key_cmp a y ≡ Less) (filter_map g ks)
above_made g keeps k a e [] h = tt
above_made g keeps k a e (j ∷ ks) h = by (g j) refl (above_made g keeps k a e ks h.1)
  where
    by : (o : Option (List ℕ)) → g j ≡ o → AllByRecursion (λ y. key_cmp a y ≡ Less) (filter_map g ks) → AllByRecursion (λ y. key_cmp a y ≡ Less) (cons_option o (filter_map g ks))
    by None is later = later
    by (Some b) is later = (keeps k j a b h.0 e is, later)

made_rise : (g : List ℕ → Option (List ℕ)) → KeepsOrder g → (ks : List (List ℕ)) → IsStrictlySortedBy key_cmp ks → IsStrictlySortedBy key_cmp (filter_map g ks)
unfolding IsStrictlySortedBy
made_rise g keeps [] h = tt
made_rise g keeps (k ∷ ks) h = by (g k) refl (made_rise g keeps ks h.1)
  where
    by : (o : Option (List ℕ)) → g k ≡ o → IsStrictlySortedBy key_cmp (filter_map g ks) → IsStrictlySortedBy key_cmp (cons_option o (filter_map g ks))
    by None e later = later
    by (Some a) e later = (above_made g keeps k a e ks h.0, later)

-- ---- keys behind a prefix

same_byte : (b : ℕ) (o : Ordering) → ordering_then (nat_cmp b b) o ≡ o
same_byte b o = ap (λ (x : Ordering). ordering_then x o) (tied_itself nat_cmp_total b)

pub behind_prefix : (p a b : List ℕ) → key_cmp (p ++ a) (p ++ b) ≡ key_cmp a b
behind_prefix [] a b = refl
behind_prefix (x ∷ p) a b = same_byte x (key_cmp (p ++ a) (p ++ b)) ∙ behind_prefix p a b

-- a key that gives a name is the prefix and that name
pub record IsBehind (p k id : List ℕ) : Type 0 where
  whole : k ≡ p ++ id
  name : is_plain_name id ≡ true

gives_behind : (p k id : List ℕ) → name_behind p k ≡ Some id → IsBehind p k id
gives_behind p k id h = by (bytes_eq (take (length p) k) p) refl h
  where
    named : (b : Bool) → is_plain_name (drop (length p) k) ≡ b → named_if b (drop (length p) k) ≡ Some id → take (length p) k ≡ p → IsBehind p k id
    named false e h front = let clash : None ≡ Some id = h in cc
    named true e h front =
        let same : drop (length p) k ≡ id = one (drop (length p) k) h in
        record {
          whole = sym (take-append-drop (length p) k) ∙ (λ i. front i ++ same i);
          name = ap is_plain_name (sym same) ∙ e;
        }
      where
        one : (x : List ℕ) → Some x ≡ Some id → x ≡ id
        one x s = cc

    by : (b : Bool) → bytes_eq (take (length p) k) p ≡ b → name_if b (drop (length p) k) ≡ Some id → IsBehind p k id
    by false e h = let clash : None ≡ Some id = h in cc
    by true e h = named (is_plain_name (drop (length p) k)) refl h ((bytes_eq-Decides (take (length p) k) p).0 e)

drop_front : (p id : List ℕ) → drop (length p) (p ++ id) ≡ id
drop_front [] id = refl
drop_front (x ∷ p) id = drop_front p id

behind_gives : (p id : List ℕ) → is_plain_name id ≡ true → name_behind p (p ++ id) ≡ Some id
behind_gives p id name =
    ap (λ b. name_if b (drop (length p) (p ++ id))) (ap (λ q. bytes_eq q p) (take-append_seam p id) ∙ bytes_eq_same p)
    ∙ ap (λ q. named_if (is_plain_name q) q) (drop_front p id)
    ∙ ap (λ b. named_if b id) name

name_order : (p : List ℕ) → KeepsOrder (name_behind p)
name_order p k j a b less e f =
    let x = gives_behind p k a e in
    let y = gives_behind p j b f in
    sym (behind_prefix p a b) ∙ (λ i. key_cmp (sym x.whole i) (sym y.whole i)) ∙ less

-- ---- the keys of the rows that are seen

abbrev if_seen : Option RowEntry → Option (List ℕ) → Option (List ℕ)
if_seen None o = None
if_seen (Some x) o = o

abbrev through : (List ℕ → Option RowEntry) → (List ℕ → Option (List ℕ)) → List ℕ → Option (List ℕ)
through f g k = if_seen (f k) (g k)

names_through : (f : List ℕ → Option RowEntry) (g : List ℕ → Option (List ℕ)) → IsOfKeys f → (ks : List (List ℕ)) → filter_map g (map (λ r. r.key) (filter_map f ks)) ≡ filter_map (through f g) ks
names_through f g own [] = refl
names_through f g own (k ∷ ks) = by (f k) refl (names_through f g own ks)
  where
    by : (o : Option RowEntry) → f k ≡ o → filter_map g (map (λ r. r.key) (filter_map f ks)) ≡ filter_map (through f g) ks → filter_map g (map (λ r. r.key) (cons_option o (filter_map f ks))) ≡ cons_option (if_seen o (g k)) (filter_map (through f g) ks)
    by None e later = later
    by (Some x) e later = λ i. cons_option (g (own k x e i)) (later i)

through_order : (f : List ℕ → Option RowEntry) (g : List ℕ → Option (List ℕ)) → KeepsOrder g → KeepsOrder (through f g)
through_order f g keeps k j a b less e h = keeps k j a b less (given (f k) (g k) a e) (given (f j) (g j) b h)
  where
    given : (o : Option RowEntry) (p : Option (List ℕ)) (x : List ℕ) → if_seen o p ≡ Some x → p ≡ Some x
    given None p x s = let clash : None ≡ Some x = s in cc
    given (Some r) p x s = s

-- a key of which something is seen is among those that were written
among_both : (k : List ℕ) (xs ys : List (List ℕ)) → among k (xs ++ ys) ≡ (among k xs || among k ys)
among_both k xs ys = list_any-append (λ x. bytes_eq x k) xs ys

no_rows : (r : Rules) (k : List ℕ) (cs : List Commit) → among k (flat_map (λ c. batch_keys c.ops) cs) ≡ false → key_rows r k cs ≡ []
no_rows r k [] h = refl
no_rows r k (c ∷ cs) h = by (row_of (combine_at r k) r.default_millis c.seq c.now c.ops k) (has_one_row (combine_at r k) r.default_millis c.seq c.now c.ops k ∙ both.0) (no_rows r k cs both.1)
  where
    both : (among k (batch_keys c.ops) ≡ false) × (among k (flat_map (λ c. batch_keys c.ops) cs) ≡ false)
    both = neither _ _ (sym (among_both k (batch_keys c.ops) (flat_map (λ c. batch_keys c.ops) cs)) ∙ h)

    by : (o : Option RowEntry) → is_some o ≡ false → key_rows r k cs ≡ [] → cons_option o (key_rows r k cs) ≡ []
    by None e later = later
    by (Some x) e later = cc

written : (r : Rules) (cs : List Commit) (n : ℕ) (k : List ℕ) → is_some (seen r cs n [] k) ≡ true → among k (keys_seen cs n []) ≡ true
written r cs n k h = by (among k keys) refl
  where
    keys : List (List ℕ)
    keys = flat_map (λ c. batch_keys c.ops) (up_to n cs)

    by : (b : Bool) → among k keys ≡ b → among k (keys_seen cs n []) ≡ true
    by true e = set_keeps (keys ++ []) k ∙ ap (among k) (append-nil keys) ∙ e
    by false e = never (sym (ap (λ rs. is_some (shown (combine_at r k) (rs ++ []))) (no_rows r k (up_to n cs) e)) ∙ h)

among_filter : (k : List ℕ) (t : List ℕ → Bool) (ks : List (List ℕ)) → among k ks ≡ true → t k ≡ true → among k (filter t ks) ≡ true
among_filter k t [] h e = never h
among_filter k t (j ∷ ks) h e = or_cases (bytes_eq j k) (among k ks) h (λ same. here ((bytes_eq-Decides j k).0 same)) (λ rest. by (t j) (among_filter k t ks rest e))
  where
    by : (b : Bool) → among k (filter t ks) ≡ true → among k (cond b (j ∷ filter t ks) (filter t ks)) ≡ true
    by true later = or_behind (bytes_eq j k) (among k (filter t ks)) later
    by false later = later

    here : j ≡ k → among k (cond (t j) (j ∷ filter t ks) (filter t ks)) ≡ true
    here same = ap (λ b. among k (cond b (j ∷ filter t ks) (filter t ks))) (ap t same ∙ e) ∙ or_front (bytes_eq j k) (among k (filter t ks)) ((bytes_eq-Decides j k).1 same)

filter_among : (k : List ℕ) (t : List ℕ → Bool) (ks : List (List ℕ)) → among k (filter t ks) ≡ true → among k ks ≡ true
filter_among k t [] h = h
filter_among k t (j ∷ ks) h = by (t j) h (filter_among k t ks)
  where
    by : (b : Bool) → among k (cond b (j ∷ filter t ks) (filter t ks)) ≡ true → (among k (filter t ks) ≡ true → among k ks ≡ true) → among k (j ∷ ks) ≡ true
    by true g later = or_cases (bytes_eq j k) (among k (filter t ks)) g (or_front (bytes_eq j k) (among k ks)) (λ rest. or_behind (bytes_eq j k) (among k ks) (later rest))
    by false g later = or_behind (bytes_eq j k) (among k ks) (later g)

-- ---- entries

pub prefix_is : (n : ℕ) (f id : List ℕ) → entry_prefix n f ++ id ≡ entry_key n f id
prefix_is n f id = ap (λ xs. 120 ∷ n ∷ xs) (append_assoc (escaped f) (0 ∷ 1 ∷ []) id)

pub prefixes_tell : PrefixesTell
prefixes_tell n o f g id h =
    let front : entry_prefix n f ≡ take (length (entry_prefix n f)) (entry_key o g id) = (bytes_eq-Decides (entry_prefix n f) (take (length (entry_prefix n f)) (entry_key o g id))).0 h in
    let rest : List ℕ = drop (length (entry_prefix n f)) (entry_key o g id) in
    let told = tell o n g f id rest (sym (take-append-drop (length (entry_prefix n f)) (entry_key o g id)) ∙ ap (λ q. q ++ rest) (sym front) ∙ prefix_is n f rest) in
    (told.0, told.1)

-- the entry that a key is, of a value's
pub record IsEntryOf (fs : FieldsModel) (below : ℕ) (id v k : List ℕ) : Type 0 where
  number : ℕ
  field : List ℕ
  has : fs.field number v ≡ Some field
  is : k ≡ entry_key number field id

entry_of : (fs : FieldsModel) (n : ℕ) (id v k : List ℕ) → among k (entries_below fs n id v) ≡ true → IsEntryOf fs n id v k
entry_of fs zero id v k h = never h
entry_of fs (suc n) id v k h = or_cases (among k (entries_below fs n id v)) (among k (entry_where n id (fs.field n v))) (sym (among_both k (entries_below fs n id v) (entry_where n id (fs.field n v))) ∙ h)
    (λ before. let w = entry_of fs n id v k before in record { number = w.number; field = w.field; has = w.has; is = w.is })
    (λ this. by (fs.field n v) refl this)
  where
    by : (o : Option (List ℕ)) → fs.field n v ≡ o → among k (entry_where n id o) ≡ true → IsEntryOf fs (suc n) id v k
    by None e h = never h
    by (Some f) e h = at (nat_le (length f) longest_field) h
      where
        at : (b : Bool) → among k (cond b (entry_key n f id ∷ []) []) ≡ true → IsEntryOf fs (suc n) id v k
        at false g = never g
        at true g = or_cases (bytes_eq (entry_key n f id) k) false g (λ same. record { number = n; field = f; has = e; is = sym ((bytes_eq-Decides (entry_key n f id) k).0 same) }) never

short_enough : (f : List ℕ) → length f ≤ longest_field → nat_le (length f) longest_field ≡ true
short_enough f h = grind (arith, nat_tests)

has_entry : (fs : FieldsModel) (number : ℕ) (f id v : List ℕ) → fs.field number v ≡ Some f → length f ≤ longest_field → (n : ℕ) → number < n → among (entry_key number f id) (entries_below fs n id v) ≡ true
has_entry fs number f id v has short zero below = absurd (omega arith)
has_entry fs number f id v has short (suc n) below = among_both k (entries_below fs n id v) (entry_where n id (fs.field n v)) ∙ by (nat_lt number n) refl (has_entry fs number f id v has short n)
  where
    k : List ℕ
    k = entry_key number f id

    earlier : nat_lt number n ≡ true → number < n
    earlier e = grind (arith, nat_tests)

    last : nat_lt number n ≡ false → number ≡ n
    last e = let past : n ≤ number = grind (arith, nat_tests) in omega (arith, past, below)

    by : (b : Bool) → nat_lt number n ≡ b → (number < n → among k (entries_below fs n id v) ≡ true) → (among k (entries_below fs n id v) || among k (entry_where n id (fs.field n v))) ≡ true
    by true e before = or_front (among k (entries_below fs n id v)) (among k (entry_where n id (fs.field n v))) (before (earlier e))
    by false e before = or_behind (among k (entries_below fs n id v)) (among k (entry_where n id (fs.field n v)))
        (ap (λ j. among k (entry_where j id (fs.field j v))) (sym (last e)) ∙ ap (λ o. among k (entry_where number id o)) has
        ∙ ap (λ b. among k (cond b (k ∷ []) [])) (short_enough f short) ∙ or_front (bytes_eq k k) false (bytes_eq_same k))

-- ---- bytes

escaped_bytes : (f : List ℕ) → AreBytes f → AreBytes (escaped f)
escaped_bytes [] h = tt
escaped_bytes (b ∷ bs) h = by (nat_eq b 0) (escaped_bytes bs h.1)
  where
    by : (t : Bool) → AreBytes (escaped bs) → AreBytes (cond t (0 ∷ 255 ∷ []) (b ∷ []) ++ escaped bs)
    by true later = (omega arith, (omega arith, later))
    by false later = (h.0, later)

one_letter : (b : ℕ) → is_letter_or_digit b ≡ true → b < 256
one_letter b h = grind (arith, nat_tests)

letters : (id : List ℕ) → list_all is_letter_or_digit id ≡ true → AreBytes id
letters [] h = tt
letters (b ∷ bs) h = by (is_letter_or_digit b) refl h (letters bs)
  where
    by : (t : Bool) → is_letter_or_digit b ≡ t → (t && list_all is_letter_or_digit bs) ≡ true → (list_all is_letter_or_digit bs ≡ true → AreBytes bs) → AreBytes (b ∷ bs)
    by true e g later = (one_letter b e, later g)
    by false e g later = never g

name_bytes : (id : List ℕ) → IsPlainName id → AreBytes id
name_bytes id h = letters id (last (nat_le 1 (length id)) (nat_le (length id) 32) (list_all is_letter_or_digit id) h)
  where
    last : (a b c : Bool) → ((a && b) && c) ≡ true → c ≡ true
    last true true c g = g
    last true false c g = never g
    last false b c g = never g

entry_bytes : (n : ℕ) (f id : List ℕ) → n < 256 → AreBytes f → IsPlainName id → AreBytes (entry_key n f id)
entry_bytes n f id small bytes name = (omega arith, (small, AllByRecursion_append (λ b. b < 256) (escaped f) (0 ∷ 1 ∷ id) (escaped_bytes f bytes) (omega arith, (omega arith, name_bytes id name))))

begins : (p id : List ℕ) → starts_with nat_eq (p ++ id) p ≡ true
begins p id = ap (λ q. bytes_eq p q) (take-append_seam p id) ∙ bytes_eq_same p

-- ---- what a search finds

module _ (fs : FieldsModel) (n : ℕ) (f : List ℕ) (m : Values) (r : Rules) (cs : List Commit) (at : ℕ)
    (values : (k : List ℕ) → option_map operand (seen r cs at [] k) ≡ m k)
    (entries : HasEntries fs m) (named : (id : List ℕ) → is_some (m (record_key id)) ≡ true → IsPlainName id)
    (below : n < fs.count) (small : n < 256) (short : length f ≤ longest_field) (bytes : AreBytes f) where
  abbrev p : List ℕ
  p = entry_prefix n f

  abbrev view : List ℕ → Option RowEntry
  view = seen r cs at []

  abbrev ks : List (List ℕ)
  ks = filter (in_range (prefix_range p)) (keys_seen cs at [])

  abbrev ids : List (List ℕ)
  ids = filter_map (through view (name_behind p)) ks

  is_there : (k : List ℕ) → is_some (view k) ≡ is_some (m k)
  is_there k = by (view k) ∙ ap is_some (values k)
    where
      by : (o : Option RowEntry) → is_some o ≡ is_some (option_map operand o)
      by None = refl
      by (Some x) = refl

  from_record : (id v : List ℕ) → m (record_key id) ≡ Some v → has_field fs n f v ≡ true → among id ids ≡ true
  from_record id v stands has = by (fs.field n v) refl has
    where
      name : IsPlainName id
      name = named id (ap is_some stands)

      whole : (g : List ℕ) → fs.field n v ≡ Some g → g ≡ f → among id ids ≡ true
      whole g e same =
          gives_among (through view (name_behind p)) ks (p ++ id) id
          (among_filter (p ++ id) (in_range (prefix_range p)) (keys_seen cs at []) (written r cs at (p ++ id) (is_there (p ++ id) ∙ ap is_some (ap m (prefix_is n f id) ∙ stored)))
          (range_of_prefix p (p ++ id) (subst AreBytes (sym (prefix_is n f id)) (entry_bytes n f id small bytes name)) ∙ begins p id))
          (given (view (p ++ id)) (is_there (p ++ id) ∙ ap is_some (ap m (prefix_is n f id) ∙ stored)) ∙ behind_gives p id name)
        where
          stored : m (entry_key n f id) ≡ Some []
          stored = entries.all (entry_key n f id) (record { id = id; value = v; stands = stands; is = has_entry fs n f id v (e ∙ ap Some same) short fs.count below })

          given : (o : Option RowEntry) → is_some o ≡ true → if_seen o (name_behind p (p ++ id)) ≡ name_behind p (p ++ id)
          given None h = never h
          given (Some x) h = refl

      by : (o : Option (List ℕ)) → fs.field n v ≡ o → is_field f o ≡ true → among id ids ≡ true
      by None e h = never h
      by (Some g) e h = whole g e ((bytes_eq-Decides g f).0 h)

  to_record : (id : List ℕ) → among id ids ≡ true → record_has fs n f (m (record_key id)) ≡ true
  to_record id h = by w.key w.gives
    where
      w : IsMadeOf (through view (name_behind p)) ks id
      w = made_of (through view (name_behind p)) ks id h

      of_entry : (k : List ℕ) → k ≡ p ++ id → (e : HasRecord fs m k) → record_has fs n f (m (record_key id)) ≡ true
      of_entry k whole e =
          let x = entry_of fs fs.count e.id e.value k e.is in
          let told = tell x.number n x.field f e.id id (sym x.is ∙ whole ∙ prefix_is n f id) in
          ap (λ j. record_has fs n f (m (record_key j))) (sym told.2) ∙ ap (record_has fs n f) e.stands
          ∙ ap (λ q. is_field f (fs.field q e.value)) (sym told.0) ∙ ap (is_field f) x.has ∙ ap (λ g. bytes_eq g f) told.1 ∙ bytes_eq_same f

      by : (k : List ℕ) → through view (name_behind p) k ≡ Some id → record_has fs n f (m (record_key id)) ≡ true
      by k gives = at_row (view k) refl gives
        where
          at_row : (o : Option RowEntry) → view k ≡ o → if_seen o (name_behind p k) ≡ Some id → record_has fs n f (m (record_key id)) ≡ true
          at_row None e g = let clash : None ≡ Some id = g in cc
          at_row (Some x) e g =
              let behind = gives_behind p k id g in
              of_entry k behind.whole (entries.each k (ap is_entry_key behind.whole) (sym (is_there k) ∙ ap is_some e))

  pub finds : Finds fs n f m (names_behind p (map (λ x. x.key) (rows_seen r cs at [] Ascending (prefix_range p))))
  finds = subst (Finds fs n f m) (sym (names_through view (name_behind p) (own_seen r cs at []) ks)) (record {
    rising = made_rise (through view (name_behind p)) (through_order view (name_behind p) (name_order p)) ks (IsStrictlySortedBy-filter key_cmp (in_range (prefix_range p)) (keys_seen cs at []) (set_rises (flat_map (λ c. batch_keys c.ops) (up_to at cs) ++ [])));
    each = λ id. same_truth (among id ids) (record_has fs n f (m (record_key id))) (to_record id) (found id (m (record_key id)) refl);
  })
    where
      found : (id : List ℕ) (o : Option (List ℕ)) → m (record_key id) ≡ o → record_has fs n f (m (record_key id)) ≡ true → among id ids ≡ true
      found id None e h = never (sym (ap (record_has fs n f) e) ∙ h)
      found id (Some v) e h = from_record id v e (sym (ap (record_has fs n f) e) ∙ h)

-- ---- the ids in more keys

names_last : (p : List ℕ) (ks : List (List ℕ)) (k : List ℕ) → names_behind p (ks ++ (k ∷ [])) ≡ names_behind p ks ++ cons_option (name_behind p k) []
names_last p [] k = refl
names_last p (j ∷ ks) k = by (name_behind p j) (names_last p ks k)
  where
    by : (o : Option (List ℕ)) → names_behind p (ks ++ (k ∷ [])) ≡ names_behind p ks ++ cons_option (name_behind p k) [] →
        cons_option o (names_behind p (ks ++ (k ∷ []))) ≡ cons_option o (names_behind p ks) ++ cons_option (name_behind p k) []
    by None h = h
    by (Some x) h = ap (λ xs. x ∷ xs) h

pub names_more : (p : List ℕ) (ks : List (List ℕ)) (i : ℕ) (k : List ℕ) → i < length ks → k ≡ get_or ks i k → names_behind p (take (i + 1) ks) ≡ names_behind p (take i ks) ++ cons_option (name_behind p k) []
names_more p ks i k within is = ap (names_behind p) (take_more ks i k within ∙ ap (λ (j : List ℕ). take i ks ++ (j ∷ [])) (sym is)) ∙ names_last p (take i ks) k
