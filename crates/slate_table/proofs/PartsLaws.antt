-- What a table builder keeps, row by row.
use Rattle.std.proofs.Common.{◌≡◌, ℕ, ◌+◌, ◌-◌, ◌^◌, ◌<◌, ◌≤◌, Bool, true, false, cond, ◌==◌, List, [], ◌∷◌, ◌++◌, length, fold, map, flat_map, Option, Some, None, refl, sym, ap, subst, ◌∙◌, ◌⊎◌, inl, inr, arith}
use Rattle.std.specs.Prelude.{slice_get, sum_by, IsSome}
use Rattle.std.specs.List.{AllByRecursion}
use Rattle.std.proofs.lemmas.List.{append-nil, length-append, map-append}
use Rattle.std.proofs.lemmas.List.Sums.{sum_by-append}
use Rattle.std.proofs.lemmas.Bool.{true≢false}
use Rattle.std.proofs.lemmas.Bool.Decides.{nat_tests}
use Rattle.std.proofs.lemmas.Grind.{flat_map-append}
use Rattle.slate_types.specs.declared.types.RowEntry.{RowEntry}
use Rattle.slate_types.specs.declared.config.BlockFormat.{BlockFormat}
use Rattle.slate_types.specs.Rows.{operand}
use Rattle.slate_block.specs.BlockSpelling.{block_bytes, places, FitsBlock}
use Rattle.slate_block.specs.Building.{Building, CanTake, with_row}
use Rattle.slate_block.specs.Counting.{Counting, stats_of}
use Rattle.slate_block.specs.Fitting.{fits_in}
use Rattle.slate_table.specs.declared.table_parts.TableParts.{TableParts}
use Rattle.slate_table.specs.Parts.{Encode, cover_of, block_kind, section, summed, separator, separators, last_key}
use Rattle.slate_table.specs.Table.{AreInOrder, sections_from, block_sections, cut}
use Rattle.slate_table.specs.TableBuilding.{Cutting, cut_more, cutting, with_last, all_blocks, AreSections, section_size, HasTooManyBlocks}
use Rattle.slate_table.specs.TableParts.{version_of, cover_behind, separator_behind, cut_parts, filled, seen, ended_size, fits_parts, HasSums, IsAdded, IsBegun, IsBehind, IsEnded, IsEndedBy, IsFull, IsInBlock, IsKept, IsSame, IsTaken, IsWritten, StandsOn, Stands}
use Rattle.slate_table.proofs.IndexLaws.{separators_count}
use Rattle.slate_table.proofs.Sections.{sections_end}
use Rattle.slate_table.proofs.Cuttings.{Begun, cut_is, cutting_more, cut_same, cut_next, cutting_rows, separators_next, separators_same, places_end}
use Rattle.slate_types.proofs.Lists.{AllByRecursion_push}

pub last_of : (k : List ℕ) (rows : List RowEntry) (q r : RowEntry) → slice_get (r ∷ rows) (length rows) ≡ Some q → last_key r.key rows ≡ q.key
last_of k [] q r h = let same : r ≡ q = cc in ap (λ (x : RowEntry). x.key) same
last_of k (x ∷ rows) q r h = last_of k rows q x h

pub last_behind : (rows : List RowEntry) (q : RowEntry) (key : List ℕ) → slice_get rows (length rows - 1) ≡ Some q → separator q.key key ≡ separator_behind rows key
last_behind [] q key h = absurd cc
last_behind (r ∷ rows) q key h =
    let place : length (r ∷ rows) - 1 ≡ length rows = omega arith in
    let last = last_of [] rows q r (sym (ap (slice_get (r ∷ rows)) place) ∙ h) in
    ap (λ (k : List ℕ). separator k key) (sym last)

-- ---- a cutting of rows has a last block

snoc_begun : (b : List RowEntry) (r : RowEntry) → Begun (b ++ r ∷ [])
snoc_begun [] r = tt
snoc_begun (q ∷ qs) r = tt

more_begun : (size version : ℕ) (c : Cutting) (r : RowEntry) → Begun (cut_more size version c r).filling
more_begun size version c r = by (fits_in size version c.filling r)
  where
    by : (t : Bool) → Begun (cond {A = Cutting} t (record { ended = c.ended; filling = c.filling ++ r ∷ [] }) (record { ended = c.ended ++ c.filling ∷ []; filling = r ∷ [] })).filling
    by true = snoc_begun c.filling r
    by false = tt

fold_begun : (size version : ℕ) (c : Cutting) (rows : List RowEntry) → Begun c.filling → Begun (fold (cut_more size version) c rows).filling
fold_begun size version c [] h = h
fold_begun size version c (r ∷ rows) h = fold_begun size version (cut_more size version c r) rows (more_begun size version c r)

pub cutting_begun : (size version : ℕ) (rows : List RowEntry) → Begun rows → Begun (cutting size version rows).filling
unfolding cutting
cutting_begun size version [] h = absurd h
cutting_begun size version (r ∷ rows) h = fold_begun size version (cut_more size version (record { ended = []; filling = [] }) r) rows (more_begun size version (record { ended = []; filling = [] }) r)

-- ---- the next cutting

next_rows : (p q : TableParts) (r : RowEntry) → q.block_size ≡ p.block_size → q.format ≡ p.format → q.rows.items ≡ p.rows.items ++ r ∷ [] →
    cut_parts q ≡ cut_more p.block_size (version_of p.format) (cut_parts p) r
next_rows p q r size format rows = (λ i. cutting (size i) (version_of (format i)) (rows i)) ∙ cutting_more p.block_size (version_of p.format) p.rows.items r

fits_on : (c : Cutting) (p : TableParts) (r : RowEntry) (t : Bool) → StandsOn c p → fits_parts p r ≡ t → fits_in p.block_size (version_of p.format) c.filling r ≡ t
fits_on c p r t s h = sym (ap (λ (b : Building). fits_in b.size b.version b.rows r) s.builder) ∙ h

next_filled : (p q : TableParts) (b : List RowEntry) → q.block_size ≡ p.block_size → q.format ≡ p.format → filled p b ≡ filled q b
next_filled p q b size format = λ i. record { version = version_of (sym format i); size = sym size i; rows = b }

key_sum : (rows : List RowEntry) (r : RowEntry) → sum_by (λ x. length x.key) rows + length r.key ≡ sum_by (λ x. length x.key) (rows ++ r ∷ [])
key_sum rows r = let whole = sum_by-append (λ (x : RowEntry). length x.key) rows (r ∷ []) in omega (arith, whole)

value_sum : (rows : List RowEntry) (r : RowEntry) → sum_by (λ x. length (operand x)) rows + length (operand r) ≡ sum_by (λ x. length (operand x)) (rows ++ r ∷ [])
value_sum rows r = let whole = sum_by-append (λ (x : RowEntry). length (operand x)) rows (r ∷ []) in omega (arith, whole)

-- ---- the first row of a block, or a further one

begun_full : (size version : ℕ) (b : List RowEntry) (r : RowEntry) → fits_in size version b r ≡ false → Begun b
begun_full size version [] r h = absurd cc
begun_full size version (q ∷ qs) r h = tt

pub begun_some : (b : List RowEntry) → Begun b → 0 < length b
begun_some [] h = absurd h
begun_some (q ∷ qs) h = omega arith

pub some_rows : (size version : ℕ) (b : List RowEntry) (r : RowEntry) → fits_in size version b r ≡ false → 0 < length b
some_rows size version b r h = begun_some b (begun_full size version b r h)

rows_begun : (size version : ℕ) (rows : List RowEntry) → Begun (cutting size version rows).filling → Begun rows
unfolding cutting
rows_begun size version [] h = absurd h
rows_begun size version (r ∷ rows) h = tt

IsNone : List RowEntry → Cutting → Type 0
IsNone rows c = (rows ≡ []) × (c.ended ≡ []) × (c.filling ≡ [])

either_begun : (size version : ℕ) (rows : List RowEntry) → IsNone rows (cutting size version rows) ⊎ Begun (cutting size version rows).filling
unfolding cutting IsNone
either_begun size version [] = inl (refl, refl, refl)
either_begun size version (r ∷ rows) = inr (cutting_begun size version (r ∷ rows) tt)

abbrev with_separator : List RowEntry → List (List ℕ) → List RowEntry → RowEntry → List (List ℕ)
with_separator filling seps rows r = cond (length filling == 0) (seps ++ separator_behind rows r.key ∷ []) seps

not_none : (q : RowEntry) (qs : List RowEntry) → (length (q ∷ qs) == 0) ≡ false
not_none q qs = grind (arith, nat_tests)

sep_more : (ended : List (List RowEntry)) (filling rows : List RowEntry) (seps : List (List ℕ)) (r : RowEntry) → seps ≡ separators (with_last ended filling) →
    IsNone rows (record { ended = ended; filling = filling }) ⊎ Begun filling → with_separator filling seps rows r ≡ separators (with_last ended (filling ++ r ∷ []))
unfolding IsNone
sep_more ended [] rows seps r h (inl e) =
    let none : seps ≡ [] = h ∙ ap separators e.1 in
    (λ i. none i ++ separator_behind (e.0 i) r.key ∷ []) ∙ sym (ap (λ (l : List (List RowEntry)). separators (l ++ (r ∷ []) ∷ [])) e.1)
sep_more ended [] rows seps r h (inr b) = absurd b
sep_more ended (q ∷ qs) rows seps r h e =
    ap (λ (t : Bool). cond t (seps ++ separator_behind rows r.key ∷ []) seps) (not_none q qs) ∙ h ∙ sym (separators_same ended (q ∷ qs) r tt)

sep_few : (ended : List (List RowEntry)) (filling rows : List RowEntry) (seps : List (List ℕ)) (r : RowEntry) → seps ≡ separators (with_last ended filling) → length seps < 2 ^ 32 →
    IsNone rows (record { ended = ended; filling = filling }) ⊎ Begun filling → length (with_separator filling seps rows r) < 2 ^ 32
unfolding IsNone
sep_few ended [] rows seps r h few (inl e) =
    let none : length seps ≡ 0 = ap length (h ∙ ap separators e.1) in
    omega (arith, none, length-append seps (separator_behind rows r.key ∷ []))
sep_few ended [] rows seps r h few (inr b) = absurd b
sep_few ended (q ∷ qs) rows seps r h few e =
    subst (λ (t : Bool). length (cond t (seps ++ separator_behind rows r.key ∷ []) seps) < 2 ^ 32) (sym (not_none q qs)) few

behind_some : (rows : List RowEntry) (key : List ℕ) → Begun rows → separator_behind rows key ≡ separator (last_key [] rows) key
behind_some [] key h = absurd h
behind_some (r ∷ rs) key h = refl

-- ---- a row that fits

next_same : (p q : TableParts) (r : RowEntry) → Stands p → fits_parts p r ≡ true → IsTaken p r q → cut_parts q ≡ record { ended = (cut_parts p).ended; filling = (cut_parts p).filling ++ r ∷ [] }
next_same p q r s fit t = next_rows p q r t.size t.format t.rows ∙ cut_same p.block_size (version_of p.format) (cut_parts p) r (fits_on (cut_parts p) p r true s fit)

taken_separators : (p q : TableParts) (r : RowEntry) → Stands p → IsTaken p r q → q.separators.items ≡ with_separator (cut_parts p).filling p.separators.items p.rows.items r
taken_separators p q r s t = t.separators ∙ ap (λ (b : Building). with_separator b.rows p.separators.items p.rows.items r) s.builder

pub taken_stands : (p q : TableParts) (r : RowEntry) → Stands p → fits_parts p r ≡ true → IsTaken p r q → AreInOrder (p.rows.items ++ r ∷ []) → CanTake r → Stands q
taken_stands p q r s fit t order lengths =
    let c = cut_parts p in
    let begun = either_begun p.block_size (version_of p.format) p.rows.items in
    let seps = taken_separators p q r s t in
    subst (λ (d : Cutting). StandsOn d q) (sym (next_same p q r s fit t)) (record {
      some = omega (arith, t.size, s.some);
      few = omega (arith, t.size, s.few);
      builder = t.builder ∙ ap (λ (b : Building). with_row b r) s.builder ∙ next_filled p q (c.filling ++ r ∷ []) t.size t.format;
      counts = t.counts c.filling s.counts;
      separators = seps ∙ sep_more c.ended c.filling p.rows.items p.separators.items r s.separators begun;
      stats = t.stats ∙ s.stats;
      begins = ap length t.offsets ∙ s.begins;
      blocks = subst (λ (l : List (List ℕ)). length l < 2 ^ 32) (sym seps) (sep_few c.ended c.filling p.rows.items p.separators.items r s.separators s.blocks begun);
      each = subst (λ (f : BlockFormat). AllByRecursion (FitsBlock (version_of f)) c.ended) (sym t.format) s.each;
      order = subst AreInOrder (sym t.rows) order;
      lengths = subst (AllByRecursion CanTake) (sym t.rows) (AllByRecursion_push CanTake p.rows.items r s.lengths lengths);
      keys = t.keys ∙ ap (λ (n : ℕ). n + length r.key) s.keys ∙ key_sum p.rows.items r ∙ ap (λ (l : List RowEntry). sum_by (λ x. length x.key) l) (sym t.rows);
      values = t.values ∙ ap (λ (n : ℕ). n + length (operand r)) s.values ∙ value_sum p.rows.items r ∙ ap (λ (l : List RowEntry). sum_by (λ x. length (operand x)) l) (sym t.rows);
    })

-- ---- a row that ends the block

next_behind : (encode : Encode) (p q : TableParts) (r : RowEntry) → Stands p → fits_parts p r ≡ false → IsBehind encode p r q →
    cut_parts q ≡ record { ended = (cut_parts p).ended ++ (cut_parts p).filling ∷ []; filling = r ∷ [] }
next_behind encode p q r s fit b =
    next_rows p q r b.size b.format b.rows ∙ cut_next p.block_size (version_of p.format) (cut_parts p) r (fits_on (cut_parts p) p r false s fit)

spelled_separators : (p : TableParts) (r : RowEntry) → Stands p → Begun (cut_parts p).filling →
    p.separators.items ++ separator_behind p.rows.items r.key ∷ [] ≡ separators (with_last ((cut_parts p).ended ++ (cut_parts p).filling ∷ []) (r ∷ []))
spelled_separators p r s begun =
    let c = cut_parts p in
    let all = sym (cutting_rows p.block_size (version_of p.format) p.rows.items) in
    let behind = behind_some p.rows.items r.key (rows_begun p.block_size (version_of p.format) p.rows.items begun) ∙ ap (λ (l : List RowEntry). separator (last_key [] l) r.key) all in
    (λ i. s.separators i ++ behind i ∷ []) ∙ sym (separators_next c.ended c.filling r begun)

pub fits_block : (c : Cutting) (p : TableParts) → StandsOn c p → FitsBlock p.block.builder.version p.block.builder.rows → FitsBlock (version_of p.format) c.filling
fits_block c p s f = subst (λ (b : Building). FitsBlock b.version b.rows) s.builder f

pub behind_stands : (encode : Encode) (p q : TableParts) (r : RowEntry) → Stands p → fits_parts p r ≡ false → IsBehind encode p r q → AreInOrder (p.rows.items ++ r ∷ []) → CanTake r →
    length p.separators.items + 1 < 2 ^ 32 → Stands q
behind_stands encode p q r s fit b order lengths room =
    let c = cut_parts p in
    let begun = begun_full p.block_size (version_of p.format) c.filling r (fits_on c p r false s fit) in
    let count : length q.separators.items ≡ length p.separators.items + 1 = ap length b.separators ∙ length-append p.separators.items (separator_behind p.rows.items r.key ∷ []) in
    subst (λ (d : Cutting). StandsOn d q) (sym (next_behind encode p q r s fit b)) (record {
      some = omega (arith, b.size, s.some);
      few = omega (arith, b.size, s.few);
      builder = b.builder ∙ next_filled p q (r ∷ []) b.size b.format;
      counts = b.counts;
      separators = b.separators ∙ spelled_separators p r s begun;
      stats = b.stats ∙ (λ i. s.stats i ++ s.counts i ∷ []) ∙ sym (map-append stats_of c.ended (c.filling ∷ []));
      begins = omega (arith, ap length b.offsets, length-append p.offsets.items (length p.bytes.items ∷ []), s.begins, length-append c.ended (c.filling ∷ []));
      blocks = omega (arith, count, room);
      each = subst (λ (f : BlockFormat). AllByRecursion (FitsBlock (version_of f)) (c.ended ++ c.filling ∷ [])) (sym b.format)
          (AllByRecursion_push (FitsBlock (version_of p.format)) c.ended c.filling s.each (fits_block c p s b.fits));
      order = subst AreInOrder (sym b.rows) order;
      lengths = subst (AllByRecursion CanTake) (sym b.rows) (AllByRecursion_push CanTake p.rows.items r s.lengths lengths);
      keys = b.keys ∙ ap (λ (n : ℕ). n + length r.key) s.keys ∙ key_sum p.rows.items r ∙ ap (λ (l : List RowEntry). sum_by (λ x. length x.key) l) (sym b.rows);
      values = b.values ∙ ap (λ (n : ℕ). n + length (operand r)) s.values ∙ value_sum p.rows.items r ∙ ap (λ (l : List RowEntry). sum_by (λ x. length (operand x)) l) (sym b.rows);
    })

pub added_stands : (encode : Encode) (p q : TableParts) (r : RowEntry) → Stands p → IsAdded encode p r q → AreInOrder (p.rows.items ++ r ∷ []) → CanTake r →
    (fits_parts p r ≡ false → length p.separators.items + 1 < 2 ^ 32) → Stands q
added_stands encode p q r s (inl a) order lengths room = taken_stands p q r s a.0 a.1 order lengths
added_stands encode p q r s (inr a) order lengths room = behind_stands encode p q r s a.0 a.1 order lengths (room a.0)

-- where nothing changed but room
pub same_stands : (p q : TableParts) → IsSame p q → Stands p → Stands q
same_stands p q e s =
    let same : cut_parts q ≡ cut_parts p = λ i. cutting (e.size i) (version_of (e.format i)) (e.rows i) in
    let c = cut_parts p in
    subst (λ (d : Cutting). StandsOn d q) (sym same) (record {
      some = omega (arith, e.size, s.some);
      few = omega (arith, e.size, s.few);
      builder = (λ i. (e.block i).builder) ∙ s.builder ∙ next_filled p q c.filling e.size e.format;
      counts = (λ i. (e.block i).stats) ∙ s.counts;
      separators = e.separators ∙ s.separators;
      stats = e.stats ∙ s.stats;
      begins = ap length e.offsets ∙ s.begins;
      blocks = omega (arith, ap length e.separators, s.blocks);
      each = subst (λ (f : BlockFormat). AllByRecursion (FitsBlock (version_of f)) c.ended) (sym e.format) s.each;
      order = subst AreInOrder (sym e.rows) s.order;
      lengths = subst (AllByRecursion CanTake) (sym e.rows) s.lengths;
      keys = e.keys ∙ s.keys ∙ ap (λ (l : List RowEntry). sum_by (λ x. length x.key) l) (sym e.rows);
      values = e.values ∙ s.values ∙ ap (λ (l : List RowEntry). sum_by (λ x. length (operand x)) l) (sym e.rows);
    })

pub same_seen : (min : ℕ) (p q : TableParts) → IsSame p q → seen min q ≡ seen min p
same_seen min p q e = λ i. record { version = version_of (e.format i); id = (e.id i).0; size = e.size i; min = min; rows = e.rows i; bytes = e.bytes i; offsets = e.offsets i }

pub same_again : (p : TableParts) → IsSame p p
same_again p = record { size = refl; format = refl; id = refl; rows = refl; block = refl; bytes = refl; offsets = refl; separators = refl; stats = refl; keys = refl; values = refl }

pub same_then : (p m q : TableParts) → IsSame p m → IsSame m q → IsSame p q
same_then p m q a b = record {
  size = b.size ∙ a.size;
  format = b.format ∙ a.format;
  id = b.id ∙ a.id;
  rows = b.rows ∙ a.rows;
  block = b.block ∙ a.block;
  bytes = b.bytes ∙ a.bytes;
  offsets = b.offsets ∙ a.offsets;
  separators = b.separators ∙ a.separators;
  stats = b.stats ∙ a.stats;
  keys = b.keys ∙ a.keys;
  values = b.values ∙ a.values;
}

pub same_cover : (p m : TableParts) → IsSame p m → cover_behind m ≡ cover_behind p
same_cover p m e = λ i. cover_of (version_of (e.format i)) (e.id i).0 block_kind (length (e.bytes i))

pub begun_again : (p m q : TableParts) (stored part : List ℕ) (r : RowEntry) → IsSame p m → IsBegun stored m r q → stored ≡ part → IsBegun part p r q
begun_again p m q stored part r e b is = record {
  size = b.size ∙ e.size;
  format = b.format ∙ e.format;
  id = b.id ∙ e.id;
  rows = b.rows ∙ e.rows;
  separators = b.separators ∙ (λ i. e.separators i ++ separator_behind (e.rows i) r.key ∷ []);
  keys = b.keys ∙ e.keys;
  values = b.values ∙ e.values;
  builder = b.builder ∙ next_filled m p (r ∷ []) (sym e.size) (sym e.format);
  counts = b.counts;
  bytes = b.bytes ∙ (λ i. e.bytes i ++ summed (same_cover p m e i) (is i));
  offsets = b.offsets ∙ (λ i. e.offsets i ++ length (e.bytes i) ∷ []);
  stats = b.stats ∙ (λ i. e.stats i ++ (e.block i).stats ∷ []);
}

-- ---- a block that was ended, once there was room for its section

pub ended_of : (encode : Encode) (p m q : TableParts) (stored : List ℕ) (next : Counting) → IsSame p m → IsEndedBy stored next m q → q.rows ≡ m.rows →
    stored ≡ encode (block_bytes p.block.builder.version p.block.builder.rows) → FitsBlock p.block.builder.version p.block.builder.rows → IsEnded encode p q
ended_of encode p m q stored next e b rows is fits = record {
  size = b.size ∙ e.size;
  format = b.format ∙ e.format;
  id = b.id ∙ e.id;
  rows = (λ i. (rows i).items) ∙ e.rows;
  separators = b.separators ∙ e.separators;
  keys = b.keys ∙ e.keys;
  values = b.values ∙ e.values;
  bytes = b.bytes ∙ (λ i. e.bytes i ++ summed (same_cover p m e i) (is i));
  offsets = b.offsets ∙ (λ i. e.offsets i ++ length (e.bytes i) ∷ []);
  stats = b.stats ∙ (λ i. e.stats i ++ (e.block i).stats ∷ []);
  fits = fits;
}

-- ---- a row that was written, and then kept

kept_taken : (p m q : TableParts) (r : RowEntry) → IsInBlock p r m → IsKept m r q → IsTaken p r q
kept_taken p m q r w k = record {
  size = k.size ∙ w.size;
  format = k.format ∙ w.format;
  id = k.id ∙ w.id;
  rows = k.rows ∙ ap (λ (l : List RowEntry). l ++ r ∷ []) w.rows;
  separators = (λ i. (k.separators i).items) ∙ w.separators;
  keys = k.keys ∙ ap (λ (n : ℕ). n + length r.key) w.keys;
  values = k.values ∙ ap (λ (n : ℕ). n + length (operand r)) w.values;
  builder = (λ i. (k.block i).builder) ∙ w.builder;
  counts = λ counted h. (λ i. (k.block i).stats) ∙ w.counts counted h;
  bytes = (λ i. (k.bytes i).items) ∙ w.bytes;
  offsets = (λ i. (k.offsets i).items) ∙ w.offsets;
  stats = (λ i. (k.stats i).items) ∙ w.stats;
}

kept_behind : (encode : Encode) (p m q : TableParts) (r : RowEntry) → FitsBlock p.block.builder.version p.block.builder.rows →
    IsBegun (encode (block_bytes p.block.builder.version p.block.builder.rows)) p r m → IsKept m r q → IsBehind encode p r q
kept_behind encode p m q r fits w k = record {
  size = k.size ∙ w.size;
  format = k.format ∙ w.format;
  id = k.id ∙ w.id;
  rows = k.rows ∙ ap (λ (l : List RowEntry). l ++ r ∷ []) w.rows;
  separators = (λ i. (k.separators i).items) ∙ w.separators;
  keys = k.keys ∙ ap (λ (n : ℕ). n + length r.key) w.keys;
  values = k.values ∙ ap (λ (n : ℕ). n + length (operand r)) w.values;
  builder = (λ i. (k.block i).builder) ∙ w.builder;
  counts = (λ i. (k.block i).stats) ∙ w.counts;
  bytes = (λ i. (k.bytes i).items) ∙ w.bytes;
  offsets = (λ i. (k.offsets i).items) ∙ w.offsets;
  stats = (λ i. (k.stats i).items) ∙ w.stats;
  fits = fits;
}

pub kept_added : (encode : Encode) (p m q : TableParts) (r : RowEntry) → IsWritten encode p r m → IsKept m r q → IsAdded encode p r q
kept_added encode p m q r (inl w) k = inl (w.0, kept_taken p m q r w.1 k)
kept_added encode p m q r (inr w) k = inr (w.0, kept_behind encode p m q r w.1 w.2 k)

-- room for the sums, behind what was written
pub written_sums : (encode : Encode) (p m : TableParts) (r q : RowEntry) → IsWritten encode p r m → HasSums p q → HasSums m q
written_sums encode p m r q (inl w) h = record { keys = omega (arith, w.1.keys, h.keys); values = omega (arith, w.1.values, h.values) }
written_sums encode p m r q (inr w) h = record { keys = omega (arith, w.2.keys, h.keys); values = omega (arith, w.2.values, h.values) }

-- ---- sections

abbrev pub Sections : Encode → TableParts → Type 0
Sections encode p = AreSections encode (version_of p.format) p.id.0 (cut_parts p).ended p.bytes.items p.offsets.items

taken_sections : (encode : Encode) (p q : TableParts) (r : RowEntry) → Stands p → fits_parts p r ≡ true → IsTaken p r q → Sections encode p → Sections encode q
taken_sections encode p q r s fit t a =
    let next = ap (λ (c : Cutting). c.ended) (next_same p q r s fit t) in
    let id : p.id ≡ q.id = sym t.id in
    let same : block_sections encode (version_of p.format) p.id.0 (cut_parts p).ended ≡ block_sections encode (version_of q.format) q.id.0 (cut_parts q).ended = λ i. block_sections encode (version_of (sym t.format i)) (id i).0 (sym next i) in
    record { are_bytes = t.bytes ∙ a.are_bytes ∙ ap (λ (l : List (List ℕ)). flat_map (λ x. x) l) same; are_offsets = t.offsets ∙ a.are_offsets ∙ ap (places 0) same }

pub flat_end : (ss : List (List ℕ)) (x : List ℕ) → flat_map (λ y. y) (ss ++ x ∷ []) ≡ flat_map (λ y. y) ss ++ x
flat_end ss x = flat_map-append (λ (y : List ℕ). y) ss (x ∷ []) ∙ ap (λ (l : List ℕ). flat_map (λ y. y) ss ++ l) (append-nil x)

-- the section of a block behind those that were ended
pub block_added : (encode : Encode) (version id : ℕ) (ended : List (List RowEntry)) (block : List RowEntry) →
    block_sections encode version id ended ++ section (cover_of version id block_kind (length (flat_map (λ s. s) (block_sections encode version id ended)))) encode (block_bytes version block) ∷ []
    ≡ block_sections encode version id (ended ++ block ∷ [])
block_added encode version id ended block =
    let ss = block_sections encode version id ended in
    let at : 0 + length (flat_map (λ s. s) ss) ≡ length (flat_map (λ s. s) ss) = omega arith in
    sym (ap (sections_from version id encode 0) (map-append (λ (b : List RowEntry). block_bytes version b) ended (block ∷ []))
    ∙ sections_end version id encode 0 (map (λ (b : List RowEntry). block_bytes version b) ended) (block_bytes version block)
    ∙ ap (λ (n : ℕ). ss ++ section (cover_of version id block_kind n) encode (block_bytes version block) ∷ []) at)

pub block_behind : (encode : Encode) (p : TableParts) → Stands p → Sections encode p → let ss = block_sections encode (version_of p.format) p.id.0 (cut_parts p).ended in
    section (cover_behind p) encode (block_bytes p.block.builder.version p.block.builder.rows)
    ≡ section (cover_of (version_of p.format) p.id.0 block_kind (length (flat_map (λ s. s) ss))) encode (block_bytes (version_of p.format) (cut_parts p).filling)
block_behind encode p s a =
    let begin = ap length a.are_bytes in
    λ i. section (cover_of (version_of p.format) p.id.0 block_kind (begin i)) encode (block_bytes (s.builder i).version (s.builder i).rows)

behind_sections : (encode : Encode) (p q : TableParts) (r : RowEntry) → Stands p → fits_parts p r ≡ false → IsBehind encode p r q → Sections encode p → Sections encode q
behind_sections encode p q r s fit b a =
    let c = cut_parts p in
    let version = version_of p.format in
    let ss = block_sections encode version p.id.0 c.ended in
    let x = section (cover_of version p.id.0 block_kind (length (flat_map (λ y. y) ss))) encode (block_bytes version c.filling) in
    let next = ap (λ (d : Cutting). d.ended) (next_behind encode p q r s fit b) in
    let id : p.id ≡ q.id = sym b.id in
    let same : ss ++ x ∷ [] ≡ block_sections encode (version_of q.format) q.id.0 (cut_parts q).ended = block_added encode version p.id.0 c.ended c.filling ∙ (λ i. block_sections encode (version_of (sym b.format i)) (id i).0 (sym next i)) in
    let last = block_behind encode p s a in
    let whole : q.bytes.items ≡ flat_map (λ y. y) ss ++ x = b.bytes ∙ (λ i. a.are_bytes i ++ last i) in
    let begin : length p.bytes.items ≡ 0 + length (flat_map (λ y. y) ss) = ap length a.are_bytes ∙ omega arith in
    record {
      are_bytes = whole ∙ sym (flat_end ss x) ∙ ap (λ (l : List (List ℕ)). flat_map (λ y. y) l) same;
      are_offsets = b.offsets ∙ (λ i. a.are_offsets i ++ begin i ∷ []) ∙ sym (places_end 0 ss x) ∙ ap (places 0) same;
    }

pub added_sections : (encode : Encode) (p q : TableParts) (r : RowEntry) → Stands p → IsAdded encode p r q → Sections encode p → Sections encode q
added_sections encode p q r s (inl a) h = taken_sections encode p q r s a.0 a.1 h
added_sections encode p q r s (inr a) h = behind_sections encode p q r s a.0 a.1 h

-- ---- a builder with no row, and what it refuses

pub fresh_stands : (p : TableParts) → 0 < p.block_size → p.block_size ≤ 65535 → p.rows.items ≡ [] → p.block.builder ≡ filled p [] → p.block.stats ≡ stats_of [] → p.separators.items ≡ [] →
    p.block_stats.items ≡ [] → p.offsets.items ≡ [] → p.raw_key_size ≡ 0 → p.raw_val_size ≡ 0 → Stands p
unfolding cutting
fresh_stands p some few rows builder counts seps stats offsets keys values =
    let none : cut_parts p ≡ record { ended = []; filling = [] } = ap (λ (l : List RowEntry). cutting p.block_size (version_of p.format) l) rows in
    subst (λ (d : Cutting). StandsOn d p) (sym none) (record {
      some = some;
      few = few;
      builder = builder;
      counts = counts;
      separators = seps;
      stats = stats;
      begins = ap length offsets;
      blocks = omega (arith, ap length seps);
      each = tt;
      order = subst AreInOrder (sym rows) tt;
      lengths = subst (AllByRecursion CanTake) (sym rows) tt;
      keys = keys ∙ ap (λ (l : List RowEntry). sum_by (λ x. length x.key) l) (sym rows);
      values = values ∙ ap (λ (l : List RowEntry). sum_by (λ x. length (operand x)) l) (sym rows);
    })

pub old_size : (encode : Encode) (min : ℕ) (p : TableParts) (r : RowEntry) → Stands p → ended_size encode p r ≡ section_size encode (seen min p) r
old_size encode min p r s = ap (λ (b : Building). cond (fits_in b.size b.version b.rows r) None (Some (length (section (cover_behind p) encode (block_bytes b.version b.rows))))) s.builder

pub ends_a_block : (encode : Encode) (min : ℕ) (p : TableParts) (r : RowEntry) → Stands p → fits_parts p r ≡ false → IsSome (section_size encode (seen min p) r)
ends_a_block encode min p r s past =
    let size = length (section (cover_behind p) encode (block_bytes p.block.builder.version p.block.builder.rows)) in
    let ended : ended_size encode p r ≡ Some size = ap (λ (t : Bool). cond t None (Some size)) past in
    subst (λ (o : Option ℕ). IsSome o) (sym ended ∙ old_size encode min p r s) refl

pub ends_no_block : (encode : Encode) (min : ℕ) (p : TableParts) (r : RowEntry) → Stands p → section_size encode (seen min p) r ≡ None → fits_parts p r ≡ true
ends_no_block encode min p r s none = by (fits_parts p r) refl
  where
    by : (fit : Bool) → fits_parts p r ≡ fit → fits_parts p r ≡ true
    by true is = is
    by false is = absurd (true≢false (sym (subst (λ (o : Option ℕ). IsSome o) none (ends_a_block encode min p r s is))))

with_begun_count : (ended : List (List RowEntry)) (filling : List RowEntry) → Begun filling → length (with_last ended filling) ≡ length ended + 1
with_begun_count ended [] h = absurd h
with_begun_count ended (q ∷ qs) h = length-append ended ((q ∷ qs) ∷ [])

full_count : (p : TableParts) (r : RowEntry) → Stands p → fits_parts p r ≡ false → length (cut p.block_size (version_of p.format) (p.rows.items ++ r ∷ [])) ≡ length p.separators.items + 1
full_count p r s fit =
    let c = cut_parts p in
    let full = fits_on c p r false s fit in
    let begun = begun_full p.block_size (version_of p.format) c.filling r full in
    let next = sym (cut_is p.block_size (version_of p.format) (p.rows.items ++ r ∷ [])) ∙ ap all_blocks (cutting_more p.block_size (version_of p.format) p.rows.items r ∙ cut_next p.block_size (version_of p.format) c r full) in
    let now = ap length next ∙ length-append (c.ended ++ c.filling ∷ []) ((r ∷ []) ∷ []) in
    let more = length-append c.ended (c.filling ∷ []) in
    let before = ap length s.separators ∙ separators_count (all_blocks c) ∙ with_begun_count c.ended c.filling begun in
    omega (arith, now, more, before)

pub full_passes : (min : ℕ) (p : TableParts) (r : RowEntry) → Stands p → IsFull p r → HasTooManyBlocks (seen min p) r
full_passes min p r s h = let count = full_count p r s h.0 in omega (arith, h.1, count)

-- ---- a row for which there is a place makes none too many

begun_snoc : (b : List RowEntry) (r : RowEntry) → Begun (b ++ r ∷ [])
begun_snoc [] r = tt
begun_snoc (q ∷ qs) r = tt

same_count : (p : TableParts) (r : RowEntry) → Stands p → fits_parts p r ≡ true → length (cut p.block_size (version_of p.format) (p.rows.items ++ r ∷ [])) ≡ length (cut_parts p).ended + 1
same_count p r s fit =
    let c = cut_parts p in
    let more = fits_on c p r true s fit in
    let next = sym (cut_is p.block_size (version_of p.format) (p.rows.items ++ r ∷ [])) ∙ ap all_blocks (cutting_more p.block_size (version_of p.format) p.rows.items r ∙ cut_same p.block_size (version_of p.format) c r more) in
    ap length next ∙ with_begun_count c.ended (c.filling ++ r ∷ []) (begun_snoc c.filling r)

pub few_ended : (p : TableParts) (rows : List RowEntry) → p.rows.items ≡ rows → Stands p → length (cut_parts p).ended + 1 < 2 ^ 32
unfolding cutting
few_ended p [] is s =
    let none : length (cut_parts p).ended ≡ 0 = ap (λ (l : List RowEntry). length (cutting p.block_size (version_of p.format) l).ended) is in
    omega (arith, none)
few_ended p (x ∷ xs) is s =
    let c = cut_parts p in
    let begun = cutting_begun p.block_size (version_of p.format) p.rows.items (subst Begun (sym is) tt) in
    let count = ap length s.separators ∙ separators_count (all_blocks c) ∙ with_begun_count c.ended c.filling begun in
    let blocks = s.blocks in
    omega (arith, count, blocks)

pub room_passes_none : (min : ℕ) (p : TableParts) (r : RowEntry) → Stands p → (fits_parts p r ≡ false → length p.separators.items + 1 < 2 ^ 32) → HasTooManyBlocks (seen min p) r → ⊥
room_passes_none min p r s room past = by (fits_parts p r) refl
  where
    by : (t : Bool) → fits_parts p r ≡ t → ⊥
    by true fit =
        let count = same_count p r s fit in
        let few = few_ended p p.rows.items refl s in
        absurd (omega (arith, count, few, past))
    by false fit =
        let count = full_count p r s fit in
        let few = room fit in
        absurd (omega (arith, count, few, past))

-- ---- a row that was added, as a builder is seen

pub added_rows : (encode : Encode) (p q : TableParts) (r : RowEntry) → IsAdded encode p r q → q.rows.items ≡ p.rows.items ++ r ∷ []
added_rows encode p q r (inl a) = a.1.rows
added_rows encode p q r (inr a) = a.1.rows

pub added_format : (encode : Encode) (p q : TableParts) (r : RowEntry) → IsAdded encode p r q → q.format ≡ p.format
added_format encode p q r (inl a) = a.1.format
added_format encode p q r (inr a) = a.1.format

pub added_size : (encode : Encode) (p q : TableParts) (r : RowEntry) → IsAdded encode p r q → q.block_size ≡ p.block_size
added_size encode p q r (inl a) = a.1.size
added_size encode p q r (inr a) = a.1.size

pub added_id : (encode : Encode) (p q : TableParts) (r : RowEntry) → IsAdded encode p r q → q.id ≡ p.id
added_id encode p q r (inl a) = a.1.id
added_id encode p q r (inr a) = a.1.id
