-- The rows of a range up to a sequence, among others of a memtable.
use Rattle.std.proofs.Common.{◌≡◌, ℕ, ◌<◌, ◌≤◌, Bool, true, false, cond, ◌&&◌, List, [], ◌∷◌, ◌++◌, map, filter, Some, refl, sym, ap, subst, ◌∙◌, arith, append-nil, bytes_eq, nat_le, nat_lt}
use Rattle.std.specs.Prelude.{Contains}
use Rattle.std.specs.List.{AllByRecursion}
use Rattle.std.proofs.lemmas.Bool.Decides.{nat_tests}
use Rattle.std.proofs.lemmas.Grind.{flat_map-append}
use Rattle.std.proofs.lemmas.List.Elements.{filter-append}
use Rattle.slate_types.specs.declared.bytes_range.BytesRange.{BytesRange}
use Rattle.slate_types.specs.declared.types.RowEntry.{RowEntry}
use Rattle.slate_types.specs.Keys.{in_range}
use Rattle.slate_types.specs.Rows.{of_key}
use Rattle.slate_mem.specs.Table.{newest, ranged, to_base, up_to}
use Rattle.slate_mem.proofs.LayerLaws.{both}
use Rattle.slate_merge.specs.Filtering.{upto_seq}
use Rattle.slate_txn.proofs.PartLaws.{filter_swap}
use Rattle.slate_db.specs.Layers.{AreRising}
use Rattle.slate_db.specs.Model.{Rows, versions, versions_in}
use Rattle.slate_db.specs.RangeShares.{HasUpto, IsPart}
use Rattle.slate_db.specs.Scanned.{BringEach, Brings}
use Rattle.slate_db.specs.Sound.{at_most, later}
use Rattle.slate_db.proofs.FlushRows.{AreFalling}
use Rattle.slate_db.proofs.MemoryRows.{rising_behind}
use Rattle.slate_db.proofs.ScanBringings.{kept_among, of_its_key}
use Rattle.slate_db.proofs.ScanLists.{ranged_key}

filter_twice : (p : RowEntry → Bool) (rows : Rows) → filter p (filter p rows) ≡ filter p rows
filter_twice p [] = refl
filter_twice p (r ∷ rs) = by (p r) refl (filter_twice p rs)
  where
    by : (b : Bool) → p r ≡ b → filter p (filter p rs) ≡ filter p rs → filter p (cond b (r ∷ filter p rs) (filter p rs)) ≡ cond b (r ∷ filter p rs) (filter p rs)
    by true is h = ap (λ t. cond t (r ∷ filter p (filter p rs)) (filter p (filter p rs))) is ∙ ap (λ xs. r ∷ xs) h
    by false is h = h

-- ---- rows above a sequence, and up to it

none_upto : (n : ℕ) (rows : Rows) → at_most n (later n rows) ≡ []
none_upto n [] = refl
none_upto n (r ∷ rs) = by (nat_lt n r.seq) refl (none_upto n rs)
  where
    by : (b : Bool) → nat_lt n r.seq ≡ b → at_most n (later n rs) ≡ [] → at_most n (cond b (r ∷ later n rs) (later n rs)) ≡ []
    by true is h = let no : nat_le r.seq n ≡ false = grind (arith, nat_tests) in ap (λ t. cond t (r ∷ at_most n (later n rs)) (at_most n (later n rs))) no ∙ h
    by false is h = h

none_later : (n : ℕ) (rs : Rows) → AllByRecursion (λ s. s.seq ≤ n) rs → later n rs ≡ []
none_later n [] h = refl
none_later n (s ∷ rs) h =
    let low : s.seq ≤ n = h.0 in
    let no : nat_lt n s.seq ≡ false = grind (arith, nat_tests) in
    ap (λ t. cond t (s ∷ later n rs) (later n rs)) no ∙ none_later n rs h.1

below_all : (n m : ℕ) (rs : Rows) → m ≤ n → AllByRecursion (λ s. s.seq < m) rs → AllByRecursion (λ s. s.seq ≤ n) rs
below_all n m [] le h = tt
below_all n m (s ∷ rs) le h = ((let low : s.seq < m = h.0 in omega arith), below_all n m rs le h.1)

-- of rows that fall those above a sequence stand first
falls_split : (n : ℕ) (rows : Rows) → AreFalling rows → later n rows ++ at_most n rows ≡ rows
falls_split n [] h = refl
falls_split n (r ∷ rs) h = by (nat_lt n r.seq) refl (falls_split n rs h.1)
  where
    by : (b : Bool) → nat_lt n r.seq ≡ b → later n rs ++ at_most n rs ≡ rs → cond b (r ∷ later n rs) (later n rs) ++ at_most n (r ∷ rs) ≡ r ∷ rs
    by true is rest =
        let no : nat_le r.seq n ≡ false = grind (arith, nat_tests) in
        ap (λ t. (r ∷ later n rs) ++ cond t (r ∷ at_most n rs) (at_most n rs)) no ∙ ap (λ xs. r ∷ xs) rest
    by false is rest =
        let low : r.seq ≤ n = grind (arith, nat_tests) in
        let yes : nat_le r.seq n ≡ true = grind (arith, nat_tests) in
        let none : later n rs ≡ [] = none_later n rs (below_all n r.seq rs low h.0) in
        ap (λ t. later n rs ++ cond t (r ∷ at_most n rs) (at_most n rs)) yes
        ∙ ap (λ xs. xs ++ (r ∷ at_most n rs)) none
        ∙ ap (λ xs. r ∷ (xs ++ at_most n rs)) (sym none)
        ∙ ap (λ xs. r ∷ xs) rest

-- ---- rows that aren't frozen

-- those of a key that aren't frozen rise
pub active_rises : (frozen : List Rows) (active : Rows) → ((k : List ℕ) → AreRising (versions_in k (frozen ++ (active ∷ [])))) → (k : List ℕ) → AreRising (versions k active)
active_rises frozen active rise k =
    subst (λ (xs : Rows). AreRising xs) (append-nil (versions k active))
    (rising_behind (versions_in k frozen) (versions_in k (active ∷ [])) (subst (λ (xs : Rows). AreRising xs) (flat_map-append (versions k) frozen (active ∷ [])) (rise k)))

-- ---- what has the rows up to a sequence

pub has_all : (range : BytesRange) (n : ℕ) (rows : Rows) → HasUpto range n rows rows
has_all range n rows = record { upto = λ k within. refl; among = λ r h. h }

pub has_part : (range wide : BytesRange) (n : ℕ) (rows some : Rows) → IsPart range wide → HasUpto wide n rows some → HasUpto range n rows some
has_part range wide n rows some part h = record { upto = λ k within. h.upto k (part k within); among = h.among }

pub has_copied : (range : BytesRange) (n : ℕ) (table within : Rows) → ((k : List ℕ) → of_key k within ≡ of_key k (ranged range table)) → HasUpto range n table (filter (upto_seq (Some n)) within)
has_copied range n table within same = record {
  upto = λ k inside.
      ap (filter (upto_seq (Some n))) (filter_swap (λ r. bytes_eq r.key k) (upto_seq (Some n)) within)
      ∙ filter_twice (upto_seq (Some n)) (of_key k within)
      ∙ ap (filter (upto_seq (Some n))) (same k ∙ ranged_key range k table ∙ ap (λ t. cond t (of_key k table) []) inside);
  among = λ r h.
      kept_among (λ x. in_range range x.key) table r (kept_among (λ x. bytes_eq x.key r.key) (ranged range table) r
      (subst (λ (l : Rows). Contains l r) (same r.key) (of_its_key within r (kept_among (upto_seq (Some n)) within r h))));
}

upto_is : (k : List ℕ) (n : ℕ) (rows : Rows) → up_to k n rows ≡ filter (upto_seq (Some n)) (of_key k rows)
upto_is k n [] = refl
upto_is k n (r ∷ rs) = by (bytes_eq r.key k) (upto_is k n rs)
  where
    by : (b : Bool) → up_to k n rs ≡ filter (upto_seq (Some n)) (of_key k rs) → cond (b && nat_le r.seq n) (r ∷ up_to k n rs) (up_to k n rs) ≡ filter (upto_seq (Some n)) (cond b (r ∷ of_key k rs) (of_key k rs))
    by true h = ap (λ xs. cond (nat_le r.seq n) (r ∷ xs) xs) h
    by false h = h

pub newest_has : (range : BytesRange) (n : ℕ) (rows some older : Rows) (k : List ℕ) → in_range range k ≡ true → HasUpto range n rows some → newest k n (some ++ older) ≡ newest k n (rows ++ older)
newest_has range n rows some older k inside h =
    ap to_base (both k n some older)
    ∙ ap (λ (xs : Rows). to_base (xs ++ up_to k n older)) (upto_is k n some ∙ h.upto k inside ∙ sym (upto_is k n rows))
    ∙ sym (ap to_base (both k n rows older))

-- ---- what lists of them bring

-- a list that brings all rows, and up to the sequence those of the other one
record IsWider (range : BytesRange) (n : ℕ) (rows list : Rows) : Type 0 where
  all : Rows
  brings : Brings range rows all
  same : filter (upto_seq (Some n)) all ≡ filter (upto_seq (Some n)) list

is_wider : (range : BytesRange) (n : ℕ) (rows some list : Rows) → ((k : List ℕ) → AreFalling (of_key k rows)) → HasUpto range n rows some → Brings range some list → IsWider range n rows list
is_wider range n rows some list falls h brings = record {
  all = later n (ranged range rows) ++ at_most n list;
  brings = λ k.
      filter-append (λ r. bytes_eq r.key k) (later n (ranged range rows)) (at_most n list)
      ∙ (λ i. filter_swap (λ r. bytes_eq r.key k) (λ r. nat_lt n r.seq) (ranged range rows) i ++ filter_swap (λ r. bytes_eq r.key k) (λ r. nat_le r.seq n) list i)
      ∙ (λ i. later n (ranged_key range k rows i) ++ at_most n ((brings k ∙ ranged_key range k some) i))
      ∙ by k (in_range range k) refl
      ∙ sym (ranged_key range k rows);
  same = filter-append (λ r. nat_le r.seq n) (later n (ranged range rows)) (at_most n list) ∙ (λ i. none_upto n (ranged range rows) i ++ filter_twice (λ r. nat_le r.seq n) list i);
}
  where
    by : (k : List ℕ) (b : Bool) → in_range range k ≡ b → later n (cond b (of_key k rows) []) ++ at_most n (cond b (of_key k some) []) ≡ cond b (of_key k rows) []
    by k true inside = ap (λ xs. later n (of_key k rows) ++ xs) (h.upto k inside) ∙ falls_split n (of_key k rows) (falls k)
    by k false inside = refl

-- the same of the lists of several layers, of which the first is so
pub record AreWider (range : BytesRange) (n : ℕ) (layers lists : List Rows) : Type 0 where
  pub all : List Rows
  pub bring : BringEach range layers all
  pub same : map (filter (upto_seq (Some n))) all ≡ map (filter (upto_seq (Some n))) lists

pub are_wider : (range : BytesRange) (n : ℕ) (rows some : Rows) (older lists : List Rows) → ((k : List ℕ) → AreFalling (of_key k rows)) → HasUpto range n rows some → BringEach range (some ∷ older) lists → AreWider range n (rows ∷ older) lists
are_wider range n rows some older [] falls h bring = absurd bring
are_wider range n rows some older (list ∷ lists) falls h bring =
    let w = is_wider range n rows some list falls h bring.0 in
    record { all = w.all ∷ lists; bring = (w.brings, bring.1); same = ap (λ (l : Rows). l ∷ map (filter (upto_seq (Some n))) lists) w.same }
