-- What passing over blocks leaves of a table.
use Rattle.std.proofs.Common.{◌≡◌, ◌<◌, ◌≤◌, ◌+◌, ◌-◌, ℕ, suc, zero, Bool, true, false, List, [], ◌∷◌, ◌++◌, take, drop, flat_map, Option, Some, refl, sym, ap, subst, ◌∙◌, arith, append_assoc}
use Rattle.std.specs.Prelude.{reverse, slice_get, ◌&&◌}
use Rattle.std.specs.List.{AllByRecursion}
use Rattle.std.proofs.lemmas.List.{reverse-append}
use Rattle.slate_types.specs.declared.error.SlateDBError.{SlateDBError}
use Rattle.slate_types.specs.declared.types.RowEntry.{RowEntry}
use Rattle.slate_types.specs.declared.iter.IterationOrder.{IterationOrder}
use Rattle.slate_types.specs.declared.iter.IterationOrder.TheVariants.{Ascending, Descending}
use Rattle.slate_types.specs.Iteration.{IsInOrder, comes_before, drop_before, in_order}
use Rattle.slate_types.specs.Keys.{key_le, key_lt}
use Rattle.slate_types.specs.Outside.{Reach}
use Rattle.slate_types.specs.Partitions.{CanHold}
use Rattle.slate_types.specs.World.{Kept, World, Sees}
use Rattle.slate_types.proofs.Calls.{call_none, checks_none, sees_first, sees_last, call_both, checks_both, no_more_both}
use Rattle.slate_types.proofs.KeyOrder.{not_le}
use Rattle.slate_types.proofs.Lists.{AllByRecursion_append, slice_get_drop}
use Rattle.slate_types.proofs.Moves.{Moves}
use Rattle.slate_types.specs.Outside.{Meaning}
use Rattle.slate_types.specs.Refusing.{NoMore}
use Rattle.slate_block.specs.declared.block.Block.{Block}
use Rattle.slate_block.specs.declared.data_block_iterator.DataBlockIterator.{DataBlockIterator}
use Rattle.slate_table.specs.declared.info.SsTableHandle.{SsTableHandle}
use Rattle.slate_table.specs.IndexReading.{index_keys}
use Rattle.slate_table.specs.IndexValue.{entries_of}
use Rattle.slate_merge.proofs.Grouping.{all_back}
use Rattle.slate_merge.proofs.Turns.{dropped_front}
use Rattle.slate_read.specs.declared.table_state.Cursor.{Cursor}
use Rattle.slate_read.specs.TableWalk.{AreReadAhead, IsSoundCursor, IsSoundRising, IsWhole, Jumps, RefusesLeft, RefusesReady, Sought, left_in, nth_block, passed_over, reads_in, refuses_behind, rest_after, rest_behind, rows_between}
use Rattle.slate_read.proofs.Cursors.{fewer_after, sound_after, spent_left}
use Rattle.slate_read.proofs.Ranges.{in_back}
use Rattle.slate_read.proofs.Seeks.{rest_sought}

-- ---- neighbouring blocks

abbrev none : List (List RowEntry)
none = []

take_none : (n : ℕ) → flat_map (λ x. x) (take n none) ≡ []
take_none zero = refl
take_none (suc n) = refl

taken_split : (bs : List (List RowEntry)) (b c : ℕ) → b ≤ c → flat_map (λ x. x) (take c bs) ≡ flat_map (λ x. x) (take b bs) ++ flat_map (λ x. x) (take (c - b) (drop b bs))
taken_split bs zero c le = let same : c ≡ c - 0 = omega arith in ap (λ (n : ℕ). flat_map (λ x. x) (take n bs)) same
taken_split [] (suc b) c le = take_none c ∙ sym (take_none (c - suc b))
taken_split (x ∷ bs) (suc b) zero le = absurd (omega (arith, le))
taken_split (x ∷ bs) (suc b) (suc c) le =
    let size : c - b ≡ suc c - suc b = omega arith in
    ap (λ (l : List RowEntry). x ++ l) (taken_split bs b c (omega (arith, le)))
    ∙ sym (append_assoc x (flat_map (λ y. y) (take b bs)) (flat_map (λ y. y) (take (c - b) (drop b bs))))
    ∙ ap (λ (n : ℕ). (x ++ flat_map (λ y. y) (take b bs)) ++ flat_map (λ y. y) (take n (drop b bs))) size

rows_split : (bs : List (List RowEntry)) (a b c : ℕ) → a ≤ b → b ≤ c → flat_map (λ x. x) (take (c - a) (drop a bs)) ≡ flat_map (λ x. x) (take (b - a) (drop a bs)) ++ flat_map (λ x. x) (take (c - b) (drop b bs))
rows_split bs zero b c le lt =
    let all : c - 0 ≡ c = omega arith in
    let front : b ≡ b - 0 = omega arith in
    ap (λ (n : ℕ). flat_map (λ x. x) (take n bs)) all ∙ taken_split bs b c lt ∙ ap (λ (n : ℕ). flat_map (λ x. x) (take n bs) ++ flat_map (λ x. x) (take (c - b) (drop b bs))) front
rows_split [] (suc a) zero c le lt = absurd (omega (arith, le))
rows_split [] (suc a) (suc b) c le lt = take_none (c - suc a) ∙ (λ i. sym (take_none (suc b - suc a)) i ++ sym (take_none (c - suc b)) i)
rows_split (x ∷ bs) (suc a) zero c le lt = absurd (omega (arith, le))
rows_split (x ∷ bs) (suc a) (suc b) zero le lt = absurd (omega (arith, lt))
rows_split (x ∷ bs) (suc a) (suc b) (suc c) le lt =
    let whole : suc c - suc a ≡ c - a = omega arith in
    let front : b - a ≡ suc b - suc a = omega arith in
    let back : c - b ≡ suc c - suc b = omega arith in
    ap (λ (n : ℕ). flat_map (λ y. y) (take n (drop a bs))) whole ∙ rows_split bs a b c (omega (arith, le)) (omega (arith, lt))
    ∙ (λ i. flat_map (λ y. y) (take (front i) (drop a bs)) ++ flat_map (λ y. y) (take (back i) (drop b bs)))

all_between : (P : RowEntry → Type 0) (bs : List (List RowEntry)) (a n : ℕ) → ((i : ℕ) (b : List RowEntry) → slice_get bs i ≡ Some b → a ≤ i → i < a + n → AllByRecursion P b) → AllByRecursion P (flat_map (λ x. x) (take n (drop a bs)))
all_between P [] zero zero h = tt
all_between P [] zero (suc n) h = tt
all_between P [] (suc a) zero h = tt
all_between P [] (suc a) (suc n) h = tt
all_between P (x ∷ bs) zero zero h = tt
all_between P (x ∷ bs) zero (suc n) h =
    AllByRecursion_append P x (flat_map (λ y. y) (take n bs)) (h 0 x refl (omega arith) (omega arith)) (all_between P bs zero n (λ i b is le lt. h (suc i) b is (omega arith) (omega (arith, lt))))
all_between P (x ∷ bs) (suc a) n h = all_between P bs a n (λ i b is le lt. h (suc i) b is (omega (arith, le)) (omega (arith, lt)))

-- ---- passing over

pub not_in : (k key : List ℕ) → (key_le key k ≡ true → ⊥) → key_lt k key ≡ true
not_in k key out = not_le key k (by (key_le key k) refl)
  where
    by : (t : Bool) → key_le key k ≡ t → t ≡ false
    by true e = absurd (out e)
    by false e = refl

passed_rows : (w : World) (h : SsTableHandle) (order : IterationOrder) (key : List ℕ) (x y : Cursor) (s : IsSoundCursor h order x w) → Jumps order key x y → (a b : ℕ) → x.first ≤ a → b ≤ x.stop → a ≤ b → ((i : ℕ) → a ≤ i → i < b → y.first ≤ i → i < y.stop → ⊥) →
    AllByRecursion (λ r. comes_before order r.key key ≡ true) (rows_between s.kept a b)
passed_rows w h order key x y s jumps a b from upto le out = all_between (λ r. comes_before order r.key key ≡ true) s.kept.blocks a (b - a) (λ i rows is low high.
    each i low (omega (arith, high, le)) rows (s.table.holds i rows is))
  where
    keys : index_keys (entries_of x.index) ≡ s.kept.keys
    keys = ap index_keys s.index ∙ s.table.keys

    each : (i : ℕ) → a ≤ i → i < b → (rows : List RowEntry) → AllByRecursion (λ r. CanHold s.kept.keys i r.key) rows → AllByRecursion (λ r. comes_before order r.key key ≡ true) rows
    each i low high [] k = tt
    each i low high (r ∷ rows) k = (jumps.passed i r.key (subst (λ (ks : List (List ℕ)). CanHold ks i r.key) (sym keys) k.0) (omega (arith, from, low)) (omega (arith, upto, high)) (out i low high), each i low high rows k.1)

jumped : (w : World) (h : SsTableHandle) (order : IterationOrder) (key : List ℕ) (x y : Cursor) (s : IsSoundCursor h order x w) → Jumps order key x y → (front : List RowEntry) × AllByRecursion (λ r. comes_before order r.key key ≡ true) front × (in_order order (rows_between s.kept x.first x.stop) ≡ front ++ in_order order (rows_between s.kept y.first y.stop))
jumped w h Ascending key x y s jumps =
    let within = y.ordered in
    let same = jumps.end in (
      rows_between s.kept x.first y.first,
      passed_rows w h Ascending key x y s jumps x.first y.first (omega arith) (omega (arith, within, same)) jumps.first (λ i low high from upto. omega (arith, high, from)),
      rows_split s.kept.blocks x.first y.first x.stop jumps.first (omega (arith, within, same)) ∙ ap (λ (n : ℕ). rows_between s.kept x.first y.first ++ rows_between s.kept y.first n) (sym same),
    )
jumped w h Descending key x y s jumps =
    let within = y.ordered in
    let same = jumps.end in
    let front = rows_between s.kept x.first y.stop in
    let back = rows_between s.kept y.stop x.stop in (
      reverse back,
      all_back (λ r. comes_before Descending r.key key ≡ true) back (passed_rows w h Descending key x y s jumps y.stop x.stop (omega (arith, within, same)) (omega arith) jumps.stop (λ i low high from upto. omega (arith, low, upto))),
      ap reverse (rows_split s.kept.blocks x.first y.stop x.stop (omega (arith, within, same)) jumps.stop) ∙ reverse-append front back ∙ ap (λ (n : ℕ). reverse back ++ reverse (rows_between s.kept n y.stop)) (sym same),
    )

passed_place : (order : IterationOrder) (key : List ℕ) (x y : Cursor) (n : ℕ) → Jumps order key x y → nth_block order y.first y.stop n ≡ nth_block order x.first x.stop (passed_over order x y + n)
passed_place Ascending key x y n jumps = let a = jumps.first in omega (arith, a)
passed_place Descending key x y n jumps = let a = jumps.stop in omega (arith, a)

-- the blocks that were read ahead and aren't passed over
passed_ready : (h : SsTableHandle) (order : IterationOrder) (key : List ℕ) (kept : Kept) (x y : Cursor) → Jumps order key x y → AreReadAhead h order kept x → AreReadAhead h order kept y
passed_ready h order key kept x y jumps ahead n block rows at there bytes =
    ahead (passed_over order x y + n) block rows (slice_get_drop x.ready.items (passed_over order x y) n block (ap (λ l. slice_get l n) (sym jumps.ready) ∙ at)) (ap (slice_get kept.blocks) (sym (passed_place order key x y n jumps)) ∙ there) bytes

pub passed_refused : (h : SsTableHandle) (order : IterationOrder) (key : List ℕ) (x y : Cursor) (e : SlateDBError) → Jumps order key x y → RefusesReady h.format_version order y.ready.items e → RefusesReady h.format_version order x.ready.items e
passed_refused h order key x y e jumps (n, block, at, bytes, rows) = (passed_over order x y + n, block, slice_get_drop x.ready.items (passed_over order x y) n block (ap (λ l. slice_get l n) (sym jumps.ready) ∙ at), bytes, rows)

pub jump_moves : (h : SsTableHandle) (order : IterationOrder) (key : List ℕ) (t : Reach) (x y : Cursor) → Jumps order key x y → reads_in x.rows ≡ 0 → Moves (rest_sought h order key) (IsSoundRising h order) (refuses_behind h order) t t x y
jump_moves h order key t x y jumps spent = record {
  rows = λ w sees s. ap (drop_before order key) (after w s.0) ∙ sym (dropped_front order key (jumped w h order key x y s.0 jumps).0 (in_order order (rows_between s.0.kept y.first y.stop)) (jumped w h order key x y s.0 jumps).1) ∙ ap (drop_before order key) (sym (before w s.0));
  still = λ w sees s. (
    sound_after h order x y w jumps.index s.0 (passed_ready h order key s.0.kept x y jumps s.0.ready) (subst (IsWhole order) (sym jumps.rows) s.0.whole),
    subst (IsInOrder order) (sym (after w s.0)) (in_back order (jumped w h order key x y s.0 jumps).0 (in_order order (rows_between s.0.kept y.first y.stop)) (subst (IsInOrder order) (before w s.0) s.1)),
  );
  checked = λ w s. checks_none w t;
  made = ([], call_none t, fewer_after h order t.meaning x y jumps.index (λ e r. subst (λ (o : Option (DataBlockIterator Block)). RefusesLeft o e) jumps.rows r) (λ e r. passed_refused h order key x y e jumps r));
}
  where
    before : (w : World) (s : IsSoundCursor h order x w) → rest_after h order x w ≡ (jumped w h order key x y s jumps).0 ++ in_order order (rows_between s.kept y.first y.stop)
    before w s =
        ap (rest_behind x order) s.table.held ∙ ap (λ (l : List RowEntry). l ++ in_order order (rows_between s.kept x.first x.stop)) (spent_left x.rows spent) ∙ (jumped w h order key x y s jumps).2

    after : (w : World) (s : IsSoundCursor h order x w) → rest_after h order y w ≡ in_order order (rows_between s.kept y.first y.stop)
    after w s =
        ap (rest_behind y order) s.table.held ∙ ap (λ (l : List RowEntry). l ++ in_order order (rows_between s.kept y.first y.stop)) (ap left_in jumps.rows ∙ spent_left x.rows spent)

-- and the seek goes on
pub sought_behind : (h : SsTableHandle) (order : IterationOrder) (key : List ℕ) (a b c : Reach) (x y z : Cursor) → Moves (rest_sought h order key) (IsSoundRising h order) (refuses_behind h order) a b x y →
    Sought (rest_after h order) (IsSoundRising h order) (refuses_behind h order) order key b c y z → Sought (rest_after h order) (IsSoundRising h order) (refuses_behind h order) order key a c x z
sought_behind h order key a b c x y z m n = record {
  rows = λ w s k. n.rows w (last w s) (m.still w (first w s) k) ∙ m.rows w (first w s) k;
  still = λ w s k. n.still w (last w s) (m.still w (first w s) k);
  checked = λ w k. checks_both w a b c m.made.0 n.made.0 m.made.1 n.made.1 (m.checked w k) (λ s. n.checked w (m.still w s k));
  made = (
    m.made.0 ++ n.made.0,
    call_both a b c m.made.0 n.made.0 m.made.1 n.made.1,
    no_more_both (refuses_behind h order x a.meaning) (refuses_behind h order y a.meaning) (refuses_behind h order z a.meaning) m.made.0 n.made.0 m.made.2 (subst (λ (p : Meaning). NoMore (refuses_behind h order y p) n.made.0 (refuses_behind h order z p)) m.made.1.meaning n.made.2),
  );
}
  where
    first : (w : World) → Sees w a c → Sees w a b
    first w s = sees_first w a b c m.made.0 n.made.0 m.made.1 n.made.1 s

    last : (w : World) → Sees w a c → Sees w b c
    last w s = sees_last w a b c m.made.0 n.made.0 m.made.1 n.made.1 s

-- keys that a covering leaves out
pub and_true : (t : Bool) → t ≡ true → (t && true) ≡ true
and_true t h = ap (λ (u : Bool). u && true) h

pub below_covering : (low stop i : ℕ) (k key : List ℕ) → (key_le key k && true ≡ true → (low ≤ i) × (i < stop)) → i < low → key_lt k key ≡ true
below_covering low stop i k key each below = not_in k key (λ e. let inside = (each (and_true (key_le key k) e)).0 in omega (arith, inside, below))

pub above_covering : (low stop i : ℕ) (k key : List ℕ) → (key_le k key ≡ true → (low ≤ i) × (i < stop)) → stop ≤ i → key_lt key k ≡ true
above_covering low stop i k key each above = not_in key k (λ e. let inside = (each e).1 in omega (arith, inside, above))
