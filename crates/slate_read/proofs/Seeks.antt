-- What a seek leaves of a table.
use Rattle.std.proofs.Common.{◌≡◌, ◌⊎◌, inl, inr, ◌<◌, ◌≤◌, ℕ, suc, Bool, true, false, cond, List, [], ◌∷◌, ◌++◌, length, Option, Some, None, refl, sym, ap, subst, ◌∙◌, arith}
use Rattle.std.specs.Prelude.{IsOk, Result, Ok, Err, slice_get}
use Rattle.std.proofs.lemmas.List.{length-append}
use Rattle.slate_types.specs.declared.error.SlateDBError.{SlateDBError}
use Rattle.slate_types.specs.declared.types.RowEntry.{RowEntry}
use Rattle.slate_types.specs.declared.iter.IterationOrder.{IterationOrder}
use Rattle.slate_types.specs.Iteration.{IsInOrder, NoneBefore, comes_before, drop_before, in_order}
use Rattle.slate_block.specs.declared.block.Block.{Block}
use Rattle.slate_block.specs.declared.data_block_iterator.DataBlockIterator.{DataBlockIterator}
use Rattle.slate_block.specs.BlockWalks.{IsRising, left, rows_of}
use Rattle.slate_block.specs.EitherVersion.{left_of}
use Rattle.slate_block.specs.Walks.{RowRead}
use Rattle.slate_table.specs.declared.info.SsTableHandle.{SsTableHandle}
use Rattle.slate_read.specs.declared.table_state.Cursor.{Cursor}
use Rattle.slate_types.specs.World.{World, Sees}
use Rattle.slate_types.specs.Outside.{Reach}
use Rattle.slate_read.specs.TableWalk.{IsSoundCursor, IsSoundRising, IsWhole, RefusesLeft, SkipsOpen, Sought, left_in, reads_in, refuses_behind, rest_after, rest_behind, rows_between}
use Rattle.slate_types.proofs.Calls.{call_none, checks_none}
use Rattle.slate_read.proofs.Cursors.{fewer_after, nothing_left, same_ready, same_refused, sound_after}
use Rattle.slate_read.proofs.Few.{ok_count}
use Rattle.slate_types.proofs.Moves.{Moves, moves_both}

-- ---- rows

both : (b : Bool) → (b ≡ true) ⊎ (b ≡ false)
both true = inl refl
both false = inr refl

pub drop_twice : (o : IterationOrder) (k : List ℕ) (xs ys : List RowEntry) → drop_before o k (drop_before o k xs ++ ys) ≡ drop_before o k (xs ++ ys)
drop_twice o k [] ys = refl
drop_twice o k (x ∷ xs) ys = elim (both (comes_before o x.key k)) as (λ _. drop_before o k (drop_before o k (x ∷ xs) ++ ys) ≡ drop_before o k ((x ∷ xs) ++ ys)) [
  | inl e ↦ rw e (drop_twice o k xs ys)
  | inr e ↦ rw e (rw e refl)
]

pub drop_done : (o : IterationOrder) (k : List ℕ) (xs ys : List RowEntry) → 0 < length (drop_before o k xs) → drop_before o k (drop_before o k xs ++ ys) ≡ drop_before o k xs ++ ys
drop_done o k [] ys h = absurd (omega (arith, h))
drop_done o k (x ∷ xs) ys h = by (comes_before o x.key k) refl (drop_done o k xs ys) h
  where
    by : (b : Bool) → comes_before o x.key k ≡ b → (0 < length (drop_before o k xs) → drop_before o k (drop_before o k xs ++ ys) ≡ drop_before o k xs ++ ys) →
        0 < length (cond b (drop_before o k xs) (x ∷ xs)) → drop_before o k (cond b (drop_before o k xs) (x ∷ xs) ++ ys) ≡ cond b (drop_before o k xs) (x ∷ xs) ++ ys
    by true e rec n = rec n
    by false e rec n = rw e refl

order_dropped : (o : IterationOrder) (k : List ℕ) (xs ys : List RowEntry) → IsInOrder o (xs ++ ys) → IsInOrder o (drop_before o k xs ++ ys)
order_dropped o k [] ys h = h
order_dropped o k (x ∷ xs) ys h = elim (both (comes_before o x.key k)) as (λ _. IsInOrder o (drop_before o k (x ∷ xs) ++ ys)) [
  | inl e ↦ rw e (order_dropped o k xs ys h.1)
  | inr e ↦ rw e h
]

front_order : (o : IterationOrder) (xs ys : List RowEntry) → IsInOrder o (xs ++ ys) → IsInOrder o xs
front_order o [] ys h = tt
front_order o (x ∷ xs) ys h = (none xs h.0, front_order o xs ys h.1)
  where
    none : (zs : List RowEntry) → NoneBefore o x.key (zs ++ ys) → NoneBefore o x.key zs
    none [] k = tt
    none (z ∷ zs) k = (k.0, none zs k.1)

-- ---- the block that is open

behind_get : (front reads : List RowRead) (i : ℕ) (e : SlateDBError) → slice_get reads i ≡ Some (Err e) → (j : ℕ) × (slice_get (front ++ reads) j ≡ Some (Err e))
behind_get [] reads i e h = (i, h)
behind_get (x ∷ front) reads i e h = let r = behind_get front reads i e h in (suc r.0, r.1)

pub skipped_no_more : (key : List ℕ) (o p : Option (DataBlockIterator Block)) (some : Bool) (e : SlateDBError) → SkipsOpen key o some p → RefusesLeft p e → RefusesLeft o e
skipped_no_more key None p some e h r = absurd (subst (λ (q : Option (DataBlockIterator Block)). RefusesLeft q e) h.1 r)
skipped_no_more key (Some it) None some e h r = absurd h
skipped_no_more key (Some it) (Some next) some e h r =
    let k = behind_get h.0.0 (left_of next).reads r.1.0 e r.1.1 in
    (r.0, (k.0, ap (λ (l : List RowRead). slice_get l k.0) h.0.1 ∙ k.1))

pub skipped_no_larger : (key : List ℕ) (o p : Option (DataBlockIterator Block)) (some : Bool) → SkipsOpen key o some p → reads_in p ≤ reads_in o
skipped_no_larger key None p some h = let n = ap reads_in h.1 in omega (arith, n)
skipped_no_larger key (Some it) None some h = absurd h
skipped_no_larger key (Some it) (Some next) some h = let n = ap length h.0.1 in let m = length-append h.0.0 (left_of next).reads in omega (arith, n, m)

pub skipped_none : (key : List ℕ) (o p : Option (DataBlockIterator Block)) → SkipsOpen key o false p → reads_in p ≡ 0
skipped_none key None p h = ap reads_in h.1
skipped_none key (Some it) None h = absurd h
skipped_none key (Some it) (Some next) h = h.4 refl

rising_of : (order : IterationOrder) (r : Result (List RowEntry) SlateDBError) → IsOk r → IsInOrder order (rows_of r) → IsRising order r
rising_of order (Ok rows) h k = k
rising_of order (Err e) h k = cc

skipped_rows : (order : IterationOrder) (key : List ℕ) (o p : Option (DataBlockIterator Block)) (some : Bool) → SkipsOpen key o some p → IsWhole order o → IsInOrder order (left_in o) → (left_in p ≡ drop_before order key (left_in o)) × IsWhole order p
skipped_rows order key None p some h w k = (ap left_in h.1, subst (IsWhole order) (sym h.1) tt)
skipped_rows order key (Some it) None some h w k = absurd h
skipped_rows order key (Some it) (Some next) some h w k =
    let is = h.1 (rising_of (left_of it).order (left (left_of it)) w.0 (subst (λ (o : IterationOrder). IsInOrder o (rows_of (left (left_of it)))) (sym w.1) k)) in
    (ap rows_of is ∙ ap (λ (o : IterationOrder). drop_before o key (rows_of (left (left_of it)))) w.1, (rw is refl, h.2 ∙ w.1))

skipped_some : (key : List ℕ) (o p : Option (DataBlockIterator Block)) → SkipsOpen key o true p → 0 < reads_in p
skipped_some key None p h = let clash : true ≡ false = h.0 in cc
skipped_some key (Some it) None h = absurd h
skipped_some key (Some it) (Some next) h = h.3 refl

whole_count : (order : IterationOrder) (o : Option (DataBlockIterator Block)) → IsWhole order o → length (left_in o) ≡ reads_in o
whole_count order None w = refl
whole_count order (Some it) w = by (left (left_of it)) refl w.0
  where
    by : (r : Result (List RowEntry) SlateDBError) → left (left_of it) ≡ r → IsOk r → length (rows_of (left (left_of it))) ≡ length (left_of it).reads
    by (Ok rows) is k = ap (λ (x : Result (List RowEntry) SlateDBError). length (rows_of x)) is ∙ ok_count (left_of it).reads rows is
    by (Err e) is k = cc

-- ---- parts of a seek

-- what is left of a table behind a seek that goes on
abbrev pub rest_sought : SsTableHandle → IterationOrder → List ℕ → Cursor → World → List RowEntry
rest_sought h order key cursor w = drop_before order key (rest_after h order cursor w)

pub lifted : (h : SsTableHandle) (order : IterationOrder) (key : List ℕ) (a b : Reach) (x y : Cursor) → Moves (rest_after h order) (IsSoundCursor h order) (refuses_behind h order) a b x y → Moves (rest_sought h order key) (IsSoundRising h order) (refuses_behind h order) a b x y
lifted h order key a b x y m = record {
  rows = λ w sees s. ap (drop_before order key) (m.rows w sees s.0);
  still = λ w sees s. (m.still w sees s.0, subst (IsInOrder order) (sym (m.rows w sees s.0)) s.1);
  checked = λ w s. m.checked w s.0;
  made = m.made;
}

rest_held : (h : SsTableHandle) (order : IterationOrder) (x : Cursor) (w : World) (s : IsSoundCursor h order x w) → rest_after h order x w ≡ left_in x.rows ++ in_order order (rows_between s.kept x.first x.stop)
rest_held h order x w s = ap (rest_behind x order) s.table.held

skipped_rest : (h : SsTableHandle) (order : IterationOrder) (key : List ℕ) (x y : Cursor) (some : Bool) (w : World) → SkipsOpen key x.rows some y.rows → y.index ≡ x.index → y.first ≡ x.first → y.stop ≡ x.stop → (s : IsSoundRising h order x w) →
    (rest_after h order y w ≡ drop_before order key (left_in x.rows) ++ in_order order (rows_between s.0.kept x.first x.stop)) × IsWhole order y.rows
skipped_rest h order key x y some w skips index first stop s =
    let rows = skipped_rows order key x.rows y.rows some skips s.0.whole (front_order order (left_in x.rows) (in_order order (rows_between s.0.kept x.first x.stop)) (subst (IsInOrder order) (rest_held h order x w s.0) s.1)) in
    (ap (rest_behind y order) s.0.table.held ∙ (λ i. rows.0 i ++ in_order order (rows_between s.0.kept (first i) (stop i))), rows.1)

pub skip_moves : (h : SsTableHandle) (order : IterationOrder) (key : List ℕ) (t : Reach) (x y : Cursor) (some : Bool) → SkipsOpen key x.rows some y.rows → y.index ≡ x.index → y.first ≡ x.first → y.stop ≡ x.stop → y.ready ≡ x.ready →
    Moves (rest_sought h order key) (IsSoundRising h order) (refuses_behind h order) t t x y
skip_moves h order key t x y some skips index first stop ready = record {
  rows = λ w sees s. ap (drop_before order key) (skipped_rest h order key x y some w skips index first stop s).0 ∙ drop_twice order key (left_in x.rows) (in_order order (rows_between s.0.kept x.first x.stop)) ∙ ap (drop_before order key) (sym (rest_held h order x w s.0));
  still = λ w sees s. (
    sound_after h order x y w index s.0 (same_ready h order s.0.kept x y first stop ready s.0.ready) (skipped_rest h order key x y some w skips index first stop s).1,
    subst (IsInOrder order) (sym (skipped_rest h order key x y some w skips index first stop s).0) (order_dropped order key (left_in x.rows) (in_order order (rows_between s.0.kept x.first x.stop)) (subst (IsInOrder order) (rest_held h order x w s.0) s.1)),
  );
  checked = λ w s. checks_none w t;
  made = ([], call_none t, fewer_after h order t.meaning x y index (λ e r. skipped_no_more key x.rows y.rows some e skips r) (λ e r. same_refused h.format_version order x y e ready r));
}

-- ---- the end of a seek

done : (h : SsTableHandle) (order : IterationOrder) (key : List ℕ) (a b : Reach) (x y : Cursor) → Moves (rest_sought h order key) (IsSoundRising h order) (refuses_behind h order) a b x y →
    ((w : World) → Sees w a b → IsSoundRising h order x w → rest_after h order y w ≡ drop_before order key (rest_after h order y w)) → Sought (rest_after h order) (IsSoundRising h order) (refuses_behind h order) order key a b x y
done h order key a b x y m stay = record {
  rows = λ w sees s. stay w sees s ∙ m.rows w sees s;
  still = m.still;
  checked = m.checked;
  made = m.made;
}

pub done_some : (h : SsTableHandle) (order : IterationOrder) (key : List ℕ) (a b : Reach) (x y z : Cursor) → Moves (rest_sought h order key) (IsSoundRising h order) (refuses_behind h order) a b x y →
    SkipsOpen key y.rows true z.rows → z.index ≡ y.index → z.first ≡ y.first → z.stop ≡ y.stop → z.ready ≡ y.ready → Sought (rest_after h order) (IsSoundRising h order) (refuses_behind h order) order key a b x z
done_some h order key a b x y z m skips index first stop ready = done h order key a b x z (moves_both (rest_sought h order key) (IsSoundRising h order) (refuses_behind h order) a b b x y z m (skip_moves h order key b y z true skips index first stop ready)) stay
  where
    stay : (w : World) → Sees w a b → IsSoundRising h order x w → rest_after h order z w ≡ drop_before order key (rest_after h order z w)
    stay w sees s =
        let sy = m.still w sees s in
        let behind = in_order order (rows_between sy.0.kept y.first y.stop) in
        let r = skipped_rest h order key y z true w skips index first stop sy in
        let rows = skipped_rows order key y.rows z.rows true skips sy.0.whole (front_order order (left_in y.rows) behind (subst (IsInOrder order) (rest_held h order y w sy.0) sy.1)) in
        let some = skipped_some key y.rows z.rows skips in
        let count = whole_count order z.rows rows.1 in
        let n = ap length rows.0 in
        let more : 0 < length (drop_before order key (left_in y.rows)) = omega (arith, some, count, n) in
        r.0 ∙ sym (drop_done order key (left_in y.rows) behind more) ∙ ap (drop_before order key) (sym r.0)

pub done_none : (h : SsTableHandle) (order : IterationOrder) (key : List ℕ) (a b : Reach) (x y z : Cursor) → Moves (rest_sought h order key) (IsSoundRising h order) (refuses_behind h order) a b x y →
    SkipsOpen key y.rows false z.rows → z.index ≡ y.index → z.first ≡ y.first → z.stop ≡ y.stop → z.ready ≡ y.ready → z.stop ≤ z.first → Sought (rest_after h order) (IsSoundRising h order) (refuses_behind h order) order key a b x z
done_none h order key a b x y z m skips index first stop ready over = done h order key a b x z moved stay
  where
    moved : Moves (rest_sought h order key) (IsSoundRising h order) (refuses_behind h order) a b x z
    moved = moves_both (rest_sought h order key) (IsSoundRising h order) (refuses_behind h order) a b b x y z m (skip_moves h order key b y z false skips index first stop ready)

    stay : (w : World) → Sees w a b → IsSoundRising h order x w → rest_after h order z w ≡ drop_before order key (rest_after h order z w)
    stay w sees s =
        let none = nothing_left h order z w (skipped_none key y.rows z.rows skips) over (moved.still w sees s).0 in
        none ∙ ap (drop_before order key) (sym none)
