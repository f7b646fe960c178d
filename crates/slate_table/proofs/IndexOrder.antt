-- The index of a table is one: its offsets rise, and its separators don't fall.
use Rattle.std.proofs.Common.{◌≡◌, ℕ, zero, suc, ◌+◌, ◌^◌, ◌<◌, ◌≤◌, Bool, true, false, cond, eqb, List, [], ◌∷◌, ◌++◌, length, map, take, flat_map, refl, sym, ap, subst, ◌∙◌, arith}
use Rattle.std.specs.Prelude.{bytes_eq, nat_lt, ◌||◌, ◌&&◌}
use Rattle.std.specs.List.{AllByRecursion}
use Rattle.std.specs.Ordering.{is_le, nat_cmp, ordering_then}
use Rattle.std.specs.declared.cmp.Ordering.{Ordering}
use Rattle.std.specs.declared.cmp.Ordering.TheVariants.{Less, Equal, Greater}
use Rattle.std.proofs.lemmas.Bool.{eqb-true, eq-eqb}
use Rattle.std.proofs.lemmas.Cmp.{nat_cmp_total, nat_list_cmp_total, tied_itself}
use Rattle.std.proofs.lemmas.List.{length-append}
use Rattle.std.proofs.lemmas.List.Concat.{flat_map-cons}
use Rattle.std.proofs.lemmas.Slice.Eq.{bytes_eq-Decides}
use Rattle.slate_types.specs.declared.types.RowEntry.{RowEntry}
use Rattle.slate_types.specs.Keys.{key_cmp, key_le, key_lt}
use Rattle.slate_types.specs.Rows.{row_lt}
use Rattle.slate_types.proofs.KeyOrder.{equal_keys, lt_le}
use Rattle.slate_types.proofs.PartitionLaws.{le_trans}
use Rattle.slate_block.specs.RowSpelling.{be16, be32, be64}
use Rattle.slate_block.specs.BlockSpelling.{block_bytes, places, longest, FitsBlock}
use Rattle.slate_block.proofs.Pieces.{same_head}
use Rattle.slate_table.specs.Parts.{Encode, cover_of, block_kind, separator, later_separators, separators, last_key, index_bytes, index_entries}
use Rattle.slate_table.specs.Table.{AreInOrder, sections_from, block_sections}
use Rattle.slate_table.specs.Decoded.{IsIndex, FitsEntry, RisesFrom, RisesFromZero, entry_bytes}
use Rattle.slate_table.specs.FileLaws.{paired, table_entries}
use Rattle.slate_table.proofs.Sections.{block_count, section_length}
use Rattle.slate_table.proofs.IndexLaws.{places_count, separators_count, separators_short}

-- ---- a separator stands between the keys

le_nil : (b : List ℕ) → key_le [] b ≡ true
le_nil [] = refl
le_nil (y ∷ b) = refl

le_itself : (b : List ℕ) → key_le b b ≡ true
le_itself b = ap is_le (tied_itself nat_list_cmp_total b)

le_same : (x : ℕ) (a b : List ℕ) → key_le (x ∷ a) (x ∷ b) ≡ key_le a b
le_same x a b = ap (λ (o : Ordering). is_le (ordering_then o (key_cmp a b))) (tied_itself nat_cmp_total x)

take_le : (n : ℕ) (b : List ℕ) → key_le (take n b) b ≡ true
take_le zero b = le_nil b
take_le (suc n) [] = refl
take_le (suc n) (y ∷ b) = le_same y (take n b) b ∙ take_le n b

tied : (x y : ℕ) → nat_cmp x y ≡ Equal → x ≡ y
tied x y e = same_head x y [] [] (equal_keys (x ∷ []) (y ∷ []) (ap (λ (o : Ordering). ordering_then o Equal) e))

decided : (o p q : Ordering) → (o ≡ Equal → ⊥) → is_le (ordering_then o p) ≡ true → is_le (ordering_then o q) ≡ true
decided Less p q apart h = refl
decided Equal p q apart h = absurd (apart refl)
decided Greater p q apart h = h

cut_above : (a b : List ℕ) → key_le a b ≡ true → key_le a (take (longest a b + 1) b) ≡ true
cut_above [] b h = le_nil (take (longest [] b + 1) b)
cut_above (x ∷ a) [] h = absurd cc
cut_above (x ∷ a) (y ∷ b) h = by (eqb x y) refl (cut_above a b)
  where
    by : (t : Bool) → eqb x y ≡ t → (key_le a b ≡ true → key_le a (take (longest a b + 1) b) ≡ true) → key_le (x ∷ a) (take (cond t (1 + longest a b) 0 + 1) (y ∷ b)) ≡ true
    by true e later =
        let same : x ≡ y = eqb-true x y e in
        let place : 1 + longest a b + 1 ≡ suc (longest a b + 1) = omega arith in
        let rest : key_le a b ≡ true = sym (le_same x a b) ∙ subst (λ (z : ℕ). key_le (x ∷ a) (z ∷ b) ≡ true) (sym same) h in
        rw place (subst (λ (z : ℕ). key_le (x ∷ a) (z ∷ take (longest a b + 1) b) ≡ true) same (le_same x a (take (longest a b + 1) b) ∙ later rest))
    by false e later =
        let apart : nat_cmp x y ≡ Equal → ⊥ = λ q. let clash : true ≡ false = sym (eq-eqb x y (tied x y q)) ∙ e in cc in
        decided (nat_cmp x y) (key_cmp a b) (key_cmp a []) apart h

separator_above : (a b : List ℕ) → key_le a b ≡ true → key_le a (separator a b) ≡ true
separator_above a b h = by (bytes_eq a b)
  where
    by : (t : Bool) → key_le a (cond t b (take (longest a b + 1) b)) ≡ true
    by true = h
    by false = cut_above a b h

separator_below : (a b : List ℕ) → key_le (separator a b) b ≡ true
separator_below a b = by (bytes_eq a b)
  where
    by : (t : Bool) → key_le (cond t b (take (longest a b + 1) b)) b ≡ true
    by true = le_itself b
    by false = take_le (longest a b + 1) b

-- ---- the keys of ordered rows

row_le : (r s : RowEntry) → row_lt r s ≡ true → key_le r.key s.key ≡ true
row_le r s h = by (key_lt r.key s.key) (bytes_eq r.key s.key) refl refl h
  where
    by : (t u : Bool) → key_lt r.key s.key ≡ t → bytes_eq r.key s.key ≡ u → (t || (u && nat_lt s.seq r.seq)) ≡ true → key_le r.key s.key ≡ true
    by true u e f h = lt_le r.key s.key e
    by false true e f h = subst (λ (k : List ℕ). key_le r.key k ≡ true) ((bytes_eq-Decides r.key s.key).0 f) (le_itself r.key)
    by false false e f h = absurd cc

Above : List ℕ → List RowEntry → Type 0
Above k rows = AllByRecursion (λ s. key_le k s.key ≡ true) rows

all_above : (r : RowEntry) (rows : List RowEntry) → AllByRecursion (λ s. row_lt r s ≡ true) rows → Above r.key rows
unfolding Above
all_above r [] f = tt
all_above r (s ∷ rows) f = (row_le r s f.0, all_above r rows f.1)

record CutOrder (r : RowEntry) (b rest : List RowEntry) : Type 0 where
  pub low : key_le r.key (last_key r.key b) ≡ true
  pub later : Above (last_key r.key b) rest
  pub order : AreInOrder rest

cut_order : (r : RowEntry) (b rest : List RowEntry) → AreInOrder ((r ∷ b) ++ rest) → CutOrder r b rest
cut_order r [] rest o = record { low = le_itself r.key; later = all_above r rest o.0; order = o.1 }
cut_order r (q ∷ b) rest o =
    let next = cut_order q b rest o.1 in
    record { low = le_trans r.key q.key (last_key q.key b) (row_le r q o.0.0) next.low; later = next.later; order = next.order }

-- ---- the entries rise

Longer : List (List ℕ) → Type 0
Longer ss = AllByRecursion (λ s. 0 < length s) ss

later_rise : (version from at : ℕ) (key previous : List ℕ) (bs : List (List RowEntry)) (ss : List (List ℕ)) → length ss ≡ length bs → from < at → key_le key previous ≡ true → Above previous (flat_map (λ b. b) bs) →
    AreInOrder (flat_map (λ b. b) bs) → AllByRecursion (FitsBlock version) bs → Longer ss → RisesFrom (from, key) (paired (places at ss) (later_separators previous bs))
unfolding Longer Above
later_rise version from at key previous [] [] n lt le above order fits long = tt
later_rise version from at key previous [] (s ∷ ss) n lt le above order fits long = absurd (omega (arith, n))
later_rise version from at key previous (b ∷ bs) [] n lt le above order fits long = absurd (omega (arith, n))
later_rise version from at key previous ([] ∷ bs) (s ∷ ss) n lt le above order fits long = let some = fits.0.some in absurd (omega (arith, some))
later_rise version from at key previous ((r ∷ b) ∷ bs) (s ∷ ss) n lt le above order fits long =
    let cut = cut_order r b (flat_map (λ x. x) bs) order in
    let sep = separator previous r.key in
    let more : 0 < length s = long.0 in (
      lt,
      le_trans key previous sep le (separator_above previous r.key above.0),
      later_rise version at (at + length s) sep (last_key r.key b) bs ss (omega (arith, n)) (omega (arith, more)) (le_trans sep r.key (last_key r.key b) (separator_below previous r.key) cut.low) cut.later cut.order fits.1 long.1,
    )

entries_rise : (version : ℕ) (bs : List (List RowEntry)) (ss : List (List ℕ)) → 0 < length bs → length ss ≡ length bs → AreInOrder (flat_map (λ b. b) bs) → AllByRecursion (FitsBlock version) bs → Longer ss → RisesFromZero (paired (places 0 ss) (separators bs))
unfolding Longer Above
entries_rise version [] ss some n order fits long = absurd (omega (arith, some))
entries_rise version (b ∷ bs) [] some n order fits long = absurd (omega (arith, n))
entries_rise version ([] ∷ bs) (s ∷ ss) some n order fits long = let row = fits.0.some in absurd (omega (arith, row))
entries_rise version ((r ∷ b) ∷ bs) (s ∷ ss) some n order fits long =
    let cut = cut_order r b (flat_map (λ x. x) bs) order in
    let more : 0 < length s = long.0 in
    (refl, later_rise version 0 (0 + length s) r.key (last_key r.key b) bs ss (omega (arith, n)) (omega (arith, more)) cut.low cut.later cut.order fits.1 long.1)

-- ---- the index

sections_longer : (version id : ℕ) (encode : Encode) (at : ℕ) (ps : List (List ℕ)) → Longer (sections_from version id encode at ps)
unfolding Longer
sections_longer version id encode at [] = tt
sections_longer version id encode at (p ∷ ps) =
    let size = section_length (cover_of version id block_kind at) encode p in
    (omega (arith, size), sections_longer version id encode (at + (length (encode p) + 4)) ps)

each_fits : (at end : ℕ) (ss : List (List ℕ)) (ks : List (List ℕ)) → length ks ≡ length ss → at + length (flat_map (λ x. x) ss) ≤ end → end < 2 ^ 64 → AllByRecursion (λ k. length k < 2 ^ 16) ks → AllByRecursion (FitsEntry end) (paired (places at ss) ks)
each_fits at end [] ks n h lt short = tt
each_fits at end (s ∷ ss) [] n h lt short = absurd (omega (arith, n))
each_fits at end (s ∷ ss) (k ∷ ks) n h lt short =
    let size = length-append s (flat_map (λ x. x) ss) in
    ((omega (arith, h), omega (arith, h, lt), short.0), each_fits (at + length s) end ss ks (omega (arith, n)) (omega (arith, h, size)) lt short.1)

spelled : (ats : List ℕ) (ks : List (List ℕ)) → length ks ≡ length ats → index_entries ats ks ≡ flat_map entry_bytes (paired ats ks)
spelled [] ks n = refl
spelled (a ∷ ats) [] n = absurd (omega (arith, n))
spelled (a ∷ ats) (k ∷ ks) n =
    let later = spelled ats ks (omega (arith, n)) in
    ap (λ (l : List ℕ). ((be64 a ++ be16 (length k)) ++ k) ++ l) later ∙ sym (flat_map-cons entry_bytes (a, k) (paired ats ks))

pub paired_count : (ats : List ℕ) (ks : List (List ℕ)) → length ks ≡ length ats → length (paired ats ks) ≡ length ats
paired_count [] ks n = refl
paired_count (a ∷ ats) [] n = absurd (omega (arith, n))
paired_count (a ∷ ats) (k ∷ ks) n = let rest = paired_count ats ks (omega (arith, n)) in omega (arith, rest)

pub index_is : (encode : Encode) (version id end : ℕ) (blocks : List (List RowEntry)) → AllByRecursion (FitsBlock version) blocks → 0 < length blocks → length blocks < 2 ^ 32 → AreInOrder (flat_map (λ b. b) blocks) →
    length (flat_map (λ b. b) (block_sections encode version id blocks)) ≡ end → end < 2 ^ 64 → IsIndex end (index_bytes (places 0 (block_sections encode version id blocks)) (separators blocks)) (table_entries encode version id blocks)
index_is encode version id end blocks fits some few order whole lt =
    let ss = block_sections encode version id blocks in
    let ats = places 0 ss in
    let ks = separators blocks in
    let sections = block_count encode version id blocks in
    let placed = places_count 0 ss in
    let named = separators_count blocks in
    let count = paired_count ats ks (omega (arith, placed, named, sections)) in
    let text = spelled ats ks (omega (arith, placed, named, sections)) in
    record {
      few = omega (arith, count, placed, sections, few);
      each = each_fits 0 end ss ks (omega (arith, named, sections)) (omega (arith, whole)) lt (separators_short version blocks fits);
      rises = entries_rise version blocks ss some sections order fits (sections_longer version id encode 0 (map (λ b. block_bytes version b) blocks));
      is = λ j. be32 (sym count j) ++ text j;
    }
