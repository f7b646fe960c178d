-- What a seek leaves of a run.
use Rattle.std.proofs.Common.{◌≡◌, ◌⊎◌, inl, inr, ◌<◌, ◌≤◌, ◌-◌, ℕ, Bool, true, false, cond, not, List, [], ◌∷◌, ◌++◌, take, drop, length, flat_map, Option, Some, None, refl, sym, ap, subst, ◌∙◌, arith, append_assoc}
use Rattle.std.specs.List.{AllByRecursion}
use Rattle.std.proofs.lemmas.List.{length-append}
use Rattle.std.proofs.lemmas.List.Elements.{Contains-append_right}
use Rattle.slate_types.specs.declared.bytes_range.BytesRange.{BytesRange}
use Rattle.slate_types.specs.declared.error.SlateDBError.{SlateDBError}
use Rattle.slate_types.specs.declared.types.RowEntry.{RowEntry}
use Rattle.slate_types.specs.declared.iter.IterationOrder.{IterationOrder}
use Rattle.slate_types.specs.declared.iter.IterationOrder.TheVariants.{Ascending, Descending}
use Rattle.slate_types.specs.Iteration.{IsInOrder, comes_before, drop_before, in_order}
use Rattle.slate_types.specs.Outside.{IsFault, Meaning, Reach}
use Rattle.slate_types.specs.Partitions.{covering_end, covering_start}
use Rattle.slate_types.specs.Refusing.{NoMore}
use Rattle.slate_types.specs.World.{World, Kept, Made, Sees}
use Rattle.slate_types.proofs.Calls.{call_both, call_none, checks_both, checks_none, no_more_both, sees_first, sees_last}
use Rattle.slate_types.proofs.IterationLaws.{in_order_dropped}
use Rattle.slate_types.proofs.KeyOrder.{le_lt_trans, lt_le_trans}
use Rattle.slate_types.proofs.Lists.{AllByRecursion_append, AllByRecursion_behind, AllByRecursion_front, AllByRecursion_push, AllByRecursion_reverse, AllByRecursion_weaken}
use Rattle.slate_types.proofs.Moves.{Moves}
use Rattle.slate_table.specs.declared.info.SsTableHandle.{SsTableHandle}
use Rattle.slate_table.specs.declared.info.SsTableInfo.{SsTableInfo}
use Rattle.slate_table.specs.Finding.{encloses, is_from, is_upto}
use Rattle.slate_table.specs.InfoReading.{seen_info}
use Rattle.slate_merge.specs.Peeking.{is_kept}
use Rattle.slate_merge.proofs.Turns.{dropped_front}
use Rattle.slate_read.specs.declared.run_state.OpenTable.{OpenTable}
use Rattle.slate_read.specs.declared.run_state.RunCursor.{RunCursor}
use Rattle.slate_read.specs.RunWalk.{AreHeld, FindsRow, IsSoundOpen, IsSoundRun, OpensNext, PassesOver, RefusesOpen, RefusesWaiting, is_end_passed, is_passed, refuses_open, refuses_run, rest_open, rest_run, rest_waiting, rows_ahead, bound_open, bound_run, is_next_passed}
use Rattle.slate_read.specs.TableWalk.{IsReadable, Sought, path_in, rest_covered, rows_between}
use Rattle.slate_read.proofs.Ranges.{blocks_split, in_back}
use Rattle.slate_read.proofs.Runs.{end_run, fewer_of, open_rising, rest_parts, sound_of}
use Rattle.slate_read.proofs.Seeks.{drop_done, drop_twice}
use Rattle.slate_types.proofs.Plain.{both_true}

-- behind a seek that goes on
abbrev pub rest_run_sought : BytesRange → IterationOrder → List ℕ → RunCursor → World → List RowEntry
rest_run_sought range order key x w = drop_before order key (rest_run range order x w)

pub run_lifted : (range : BytesRange) (order : IterationOrder) (key : List ℕ) (a b : Reach) (x y : RunCursor) → Moves (rest_run range order) (IsSoundRun range order) (refuses_run order) a b x y → Moves (rest_run_sought range order key) (IsSoundRun range order) (refuses_run order) a b x y
run_lifted range order key a b x y m = record {
  rows = λ w sees k. ap (drop_before order key) (m.rows w sees k);
  still = m.still;
  checked = m.checked;
  made = m.made;
}

-- ---- tables that are passed over

pub passed_key : (order : IterationOrder) (key : List ℕ) (info : SsTableInfo) (k : List ℕ) → is_passed order key info ≡ true → encloses (seen_info info) k ≡ true → comes_before order k key ≡ true
passed_key Ascending key info k passed inside = by info.last_entry passed (both_true (is_from info.first_entry k) (is_upto info.last_entry k) inside).1
  where
    by : (o : Option (List ℕ)) → is_end_passed Ascending key o ≡ true → is_upto o k ≡ true → comes_before Ascending k key ≡ true
    by None h le = cc
    by (Some last) h le = le_lt_trans k last key le h
passed_key Descending key info k passed inside = by info.first_entry passed (both_true (is_from info.first_entry k) (is_upto info.last_entry k) inside).0
  where
    by : (o : Option (List ℕ)) → is_end_passed Descending key o ≡ true → is_from o k ≡ true → comes_before Descending k key ≡ true
    by None h le = cc
    by (Some first) h le = lt_le_trans key first k h le

-- rows of neighbouring blocks, in an order
pub all_part : (P : RowEntry → Type 0) (order : IterationOrder) (kept : Kept) (first stop : ℕ) → AllByRecursion P (flat_map (λ b. b) kept.blocks) → AllByRecursion P (in_order order (rows_between kept first stop))
all_part P order kept first stop all = turned order
  where
    behind : AllByRecursion P (flat_map (λ b. b) (drop first kept.blocks))
    behind = AllByRecursion_behind P (flat_map (λ b. b) (take first kept.blocks)) (flat_map (λ b. b) (drop first kept.blocks)) (subst (AllByRecursion P) (blocks_split kept.blocks first) all)

    part : AllByRecursion P (rows_between kept first stop)
    part = AllByRecursion_front P (rows_between kept first stop) (flat_map (λ b. b) (drop (stop - first) (drop first kept.blocks))) (subst (AllByRecursion P) (blocks_split (drop first kept.blocks) (stop - first)) behind)

    turned : (o : IterationOrder) → AllByRecursion P (in_order o (rows_between kept first stop))
    turned Ascending = part
    turned Descending = AllByRecursion_reverse P (rows_between kept first stop) part

passed_table : (range : BytesRange) (order : IterationOrder) (key : List ℕ) (w : World) (h : SsTableHandle) (kept : Kept) → IsReadable w h kept → is_passed order key h.info ≡ true → AllByRecursion (λ r. comes_before order r.key key ≡ true) (rest_covered range order (w.holds (path_in h)))
passed_table range order key w h kept table passed =
    let first = covering_start kept.keys range.start in
    subst (λ (o : Option Kept). AllByRecursion (λ r. comes_before order r.key key ≡ true) (rest_covered range order o)) (sym table.held)
    (all_part (λ r. comes_before order r.key key ≡ true) order kept first (covering_end kept.keys first range.end)
    (AllByRecursion_weaken (λ (r : RowEntry). encloses (seen_info h.info) r.key ≡ true) (λ (r : RowEntry). comes_before order r.key key ≡ true) (λ r inside. passed_key order key h.info r.key passed inside) (flat_map (λ b. b) kept.blocks) table.enclosed))

passed_rows : (range : BytesRange) (order : IterationOrder) (key : List ℕ) (w : World) (tables : List SsTableHandle) → AreHeld w tables → AllByRecursion (λ h. is_passed order key h.info ≡ true) tables → AllByRecursion (λ r. comes_before order r.key key ≡ true) (rest_waiting range order tables w)
passed_rows range order key w [] held passed = tt
passed_rows range order key w (h ∷ tables) held passed =
    AllByRecursion_append (λ r. comes_before order r.key key ≡ true) (rest_covered range order (w.holds (path_in h))) (rest_waiting range order tables w) (passed_table range order key w h held.0.0 held.0.1 passed.0) (passed_rows range order key w tables held.1 passed.1)

pub waiting_both : (range : BytesRange) (order : IterationOrder) (first last : List SsTableHandle) (w : World) → rest_waiting range order (first ++ last) w ≡ rest_waiting range order first w ++ rest_waiting range order last w
waiting_both range order [] last w = refl
waiting_both range order (h ∷ first) last w =
    ap (λ (l : List RowEntry). rest_covered range order (w.holds (path_in h)) ++ l) (waiting_both range order first last w)
    ∙ sym (append_assoc (rest_covered range order (w.holds (path_in h))) (rest_waiting range order first w) (rest_waiting range order last w))

pub passed_no_more : (order : IterationOrder) (key : List ℕ) (m : Meaning) (x y : RunCursor) → PassesOver order key x y → NoMore (refuses_run order x m) [] (refuses_run order y m)
passed_no_more order key m x y p later at e (inl k) = inl (subst (λ (o : Option OpenTable). RefusesOpen order o m later e) p.open_table k)
passed_no_more order key m x y p later at e (inr k) = inr (k.0, subst (λ (l : List SsTableHandle). RefusesWaiting m order l later e) (sym p.are) (k.1.0, Contains-append_right p.passed y.tables.items k.1.0 k.1.1, k.1.2))

pub passes_moves : (range : BytesRange) (order : IterationOrder) (key : List ℕ) (t : Reach) (x y : RunCursor) → PassesOver order key x y → x.ahead ≡ None → x.current ≡ None → Moves (rest_run_sought range order key) (IsSoundRun range order) (refuses_run order) t t x y
passes_moves range order key t x y p none closed = record {
  rows = λ w sees k. ap (drop_before order key) (after w) ∙ sym (dropped_front order key (rest_waiting range order p.passed w) (rest_waiting range order y.tables.items w) (passed_rows range order key w p.passed (held w k).0 p.each)) ∙ ap (drop_before order key) (sym (before w));
  still = λ w sees k. record {
    open_table = subst (λ (o : Option OpenTable). IsSoundOpen order o w) (sym p.open_table) k.open_table;
    held = (held w k).1;
    rising = subst (IsInOrder order) (sym (after w)) (in_back order (rest_waiting range order p.passed w) (rest_waiting range order y.tables.items w) (subst (IsInOrder order) (before w) k.rising));
  };
  checked = λ w k. checks_none w t;
  made = ([], call_none t, passed_no_more order key t.meaning x y p);
}
  where
    before : (w : World) → rest_run range order x w ≡ rest_waiting range order p.passed w ++ rest_waiting range order y.tables.items w
    before w = (λ i. rest_parts range order (none i) (closed i) (p.are i) w) ∙ waiting_both range order p.passed y.tables.items w

    after : (w : World) → rest_run range order y w ≡ rest_waiting range order y.tables.items w
    after w = λ i. rest_parts range order ((p.ahead ∙ none) i) ((p.open_table ∙ closed) i) y.tables.items w

    held : (w : World) → IsSoundRun range order x w → AreHeld w p.passed × AreHeld w y.tables.items
    held w k =
        let all = subst (AreHeld w) p.are k.held in
        (AllByRecursion_front (λ h. (kept : Kept) × IsReadable w h kept) p.passed y.tables.items all, AllByRecursion_behind (λ h. (kept : Kept) × IsReadable w h kept) p.passed y.tables.items all)

-- ---- the table that is open

pub found_none : (range : BytesRange) (order : IterationOrder) (key : List ℕ) (a b : Reach) (x y : RunCursor) → FindsRow order key a b x.current None y.current → x.ahead ≡ None → y.ahead ≡ x.ahead → y.tables.items ≡ x.tables.items →
    Moves (rest_run_sought range order key) (IsSoundRun range order) (refuses_run order) a b x y
found_none range order key a b x y f none ahead tables = record {
  rows = λ w sees k.
      let t = f.rows w sees (open_rising range order x w k) in
      let behind = rest_waiting range order x.tables.items w in
      ap (drop_before order key) (after w sees k)
      ∙ ap (λ (l : List RowEntry). drop_before order key (l ++ behind)) (sym t.0)
      ∙ drop_twice order key (rest_open order x.current w) behind
      ∙ ap (drop_before order key) (sym (before w));
  still = λ w sees k. sound_of range order x y w k (f.still w sees (open_rising range order x w k)).0 tables
      (subst (IsInOrder order) (sym (after w sees k)) (in_back order (rest_open order x.current w) (rest_waiting range order x.tables.items w) (subst (IsInOrder order) (before w) k.rising)));
  checked = λ w k. f.checked w (open_rising range order x w k);
  made = (f.made.0, f.made.1, fewer_of order a.meaning x y f.made.0 f.made.2 tables);
}
  where
    before : (w : World) → rest_run range order x w ≡ rest_open order x.current w ++ rest_waiting range order x.tables.items w
    before w = λ i. rest_parts range order (none i) x.current x.tables.items w

    after : (w : World) → Sees w a b → IsSoundRun range order x w → rest_run range order y w ≡ rest_waiting range order x.tables.items w
    after w sees k =
        let t = f.rows w sees (open_rising range order x w k) in
        (λ i. rows_ahead ((ahead ∙ none) i) ++ (t.1 i ++ rest_waiting range order (tables i) w))

some_length : (rows more : List RowEntry) (row : RowEntry) → rows ≡ row ∷ more → 0 < length rows
some_length rows more row is = let n = ap length is in omega (arith, n)

pub found_some : (range : BytesRange) (order : IterationOrder) (key : List ℕ) (a b : Reach) (x y : RunCursor) (row : RowEntry) → FindsRow order key a b x.current (Some row) y.current → x.ahead ≡ None → y.ahead ≡ Some row → y.tables.items ≡ x.tables.items →
    Sought (rest_run range order) (IsSoundRun range order) (refuses_run order) order key a b x y
found_some range order key a b x y row f none ahead tables = record {
  rows = λ w sees k. rows w sees k;
  still = λ w sees k. sound_of range order x y w k (f.still w sees (open_rising range order x w k)).0 tables
      (subst (IsInOrder order) (sym (rows w sees k)) (in_order_dropped order key (rest_run range order x w) k.rising));
  checked = λ w k. f.checked w (open_rising range order x w k);
  made = (f.made.0, f.made.1, fewer_of order a.meaning x y f.made.0 f.made.2 tables);
}
  where
    rows : (w : World) → Sees w a b → IsSoundRun range order x w → rest_run range order y w ≡ drop_before order key (rest_run range order x w)
    rows w sees k =
        let t = f.rows w sees (open_rising range order x w k) in
        let behind = rest_waiting range order x.tables.items w in
        let front = rest_open order x.current w in
        (λ i. rest_parts range order (ahead i) y.current (tables i) w)
        ∙ ap (λ (l : List RowEntry). l ++ behind) (sym t)
        ∙ sym (drop_done order key front behind (some_length (drop_before order key front) (rest_open order y.current w) row t))
        ∙ drop_twice order key front behind
        ∙ ap (drop_before order key) (sym (λ i. rest_parts range order (none i) x.current x.tables.items w))

-- ---- the row that was read ahead

kept_first : (order : IterationOrder) (key : List ℕ) (row : RowEntry) (rows : List RowEntry) → not (comes_before order row.key key) ≡ true → row ∷ rows ≡ drop_before order key (row ∷ rows)
kept_first order key row rows h = by (comes_before order row.key key) h
  where
    by : (t : Bool) → not t ≡ true → row ∷ rows ≡ cond t (drop_before order key rows) (row ∷ rows)
    by true e = cc
    by false e = refl

passed_first : (order : IterationOrder) (key : List ℕ) (row : RowEntry) (rows : List RowEntry) → not (comes_before order row.key key) ≡ false → drop_before order key rows ≡ drop_before order key (row ∷ rows)
passed_first order key row rows h = by (comes_before order row.key key) h
  where
    by : (t : Bool) → not t ≡ false → drop_before order key rows ≡ cond t (drop_before order key rows) (row ∷ rows)
    by true e = refl
    by false e = cc

ahead_kept_rows : (order : IterationOrder) (key : List ℕ) (ahead : Option RowEntry) (rows : List RowEntry) → is_kept order key ahead ≡ true → rows_ahead ahead ++ rows ≡ drop_before order key (rows_ahead ahead ++ rows)
ahead_kept_rows order key None rows h = cc
ahead_kept_rows order key (Some row) rows h = kept_first order key row rows h

ahead_passed_rows : (order : IterationOrder) (key : List ℕ) (ahead : Option RowEntry) (rows : List RowEntry) → is_kept order key ahead ≡ false → drop_before order key rows ≡ drop_before order key (rows_ahead ahead ++ rows)
ahead_passed_rows order key None rows h = refl
ahead_passed_rows order key (Some row) rows h = passed_first order key row rows h

pub ahead_kept : (range : BytesRange) (order : IterationOrder) (key : List ℕ) (t : Reach) (x : RunCursor) → is_kept order key x.ahead ≡ true → Sought (rest_run range order) (IsSoundRun range order) (refuses_run order) order key t t x x
ahead_kept range order key t x h = record {
  rows = λ w sees k. ahead_kept_rows order key x.ahead (rest_open order x.current w ++ rest_waiting range order x.tables.items w) h;
  still = λ w sees k. k;
  checked = λ w k. checks_none w t;
  made = ([], call_none t, λ later at e r. r);
}

pub ahead_passed : (range : BytesRange) (order : IterationOrder) (key : List ℕ) (t : Reach) (x y : RunCursor) → is_kept order key x.ahead ≡ false → y.ahead ≡ None → y.current ≡ x.current → y.tables.items ≡ x.tables.items →
    Moves (rest_run_sought range order key) (IsSoundRun range order) (refuses_run order) t t x y
ahead_passed range order key t x y h none current tables = record {
  rows = λ w sees k. ap (drop_before order key) (after w) ∙ ahead_passed_rows order key x.ahead (rest_open order x.current w ++ rest_waiting range order x.tables.items w) h;
  still = λ w sees k. sound_of range order x y w k (subst (λ (o : Option OpenTable). IsSoundOpen order o w) (sym current) k.open_table) tables
      (subst (IsInOrder order) (sym (after w)) (in_back order (rows_ahead x.ahead) (rest_open order x.current w ++ rest_waiting range order x.tables.items w) k.rising));
  checked = λ w k. checks_none w t;
  made = ([], call_none t, fewer_of order t.meaning x y [] (λ later at e r. subst (λ (o : Option OpenTable). RefusesOpen order o t.meaning later e) current r) tables);
}
  where
    after : (w : World) → rest_run range order y w ≡ rest_open order x.current w ++ rest_waiting range order x.tables.items w
    after w = λ i. rest_parts range order (none i) (current i) (tables i) w

-- ---- the end of a seek

pub end_sought : (range : BytesRange) (order : IterationOrder) (key : List ℕ) (a b : Reach) (x y : RunCursor) → x.ahead ≡ None → x.current ≡ None → Made a b (λ reads. OpensNext range a.meaning reads x false y) →
    Sought (rest_run range order) (IsSoundRun range order) (refuses_run order) order key a b x y
end_sought range order key a b x y none closed made =
    let s = end_run range order a b x y none closed made in
    record {
      rows = λ w sees k. (let t = s.rows w sees k in t.1 ∙ ap (drop_before order key) (sym t.0));
      still = s.still;
      checked = s.checked;
      made = (s.taken.0, s.taken.1, s.taken.2.1);
    }

-- and a seek that goes on before it
pub run_sought : (range : BytesRange) (order : IterationOrder) (key : List ℕ) (a b c : Reach) (x y z : RunCursor) → Moves (rest_run_sought range order key) (IsSoundRun range order) (refuses_run order) a b x y →
    Sought (rest_run range order) (IsSoundRun range order) (refuses_run order) order key b c y z → Sought (rest_run range order) (IsSoundRun range order) (refuses_run order) order key a c x z
run_sought range order key a b c x y z m n = record {
  rows = λ w s k. n.rows w (last w s) (m.still w (first w s) k) ∙ m.rows w (first w s) k;
  still = λ w s k. n.still w (last w s) (m.still w (first w s) k);
  checked = λ w k. checks_both w a b c m.made.0 n.made.0 m.made.1 n.made.1 (m.checked w k) (λ s. n.checked w (m.still w s k));
  made = (
    m.made.0 ++ n.made.0,
    call_both a b c m.made.0 n.made.0 m.made.1 n.made.1,
    no_more_both (refuses_run order x a.meaning) (refuses_run order y a.meaning) (refuses_run order z a.meaning) m.made.0 n.made.0 m.made.2 (subst (λ (p : Meaning). NoMore (refuses_run order y p) n.made.0 (refuses_run order z p)) m.made.1.meaning n.made.2),
  );
}
  where
    first : (w : World) → Sees w a c → Sees w a b
    first w s = sees_first w a b c m.made.0 n.made.0 m.made.1 n.made.1 s

    last : (w : World) → Sees w a c → Sees w b c
    last w s = sees_last w a b c m.made.0 n.made.0 m.made.1 n.made.1 s

-- ---- refusals

pub run_fails : (order : IterationOrder) (a b : Reach) (x : RunCursor) (e : SlateDBError) → Made a b (λ reads. IsFault a b e ⊎ refuses_open order x.current a.meaning reads None e) → Made a b (λ reads. IsFault a b e ⊎ refuses_run order x a.meaning reads None e)
run_fails order a b x e (reads, call, inl k) = (reads, call, inl k)
run_fails order a b x e (reads, call, inr k) = (reads, call, inr (inl k))

-- by the answer of the call that opens
pub ended_sought : (range : BytesRange) (order : IterationOrder) (key : List ℕ) (a b : Reach) (x y : RunCursor) (some : Bool) → some ≡ false → x.ahead ≡ None → x.current ≡ None → Made a b (λ reads. OpensNext range a.meaning reads x some y) →
    Sought (rest_run range order) (IsSoundRun range order) (refuses_run order) order key a b x y
ended_sought range order key a b x y true is none closed made = cc
ended_sought range order key a b x y false is none closed made = end_sought range order key a b x y none closed made

-- ---- how many are left

pub passed_fewer : (order : IterationOrder) (key : List ℕ) (x y : RunCursor) → PassesOver order key x y → length y.tables.items ≤ length x.tables.items
passed_fewer order key x y p = let n = ap length p.are in let m = length-append p.passed y.tables.items in omega (arith, n, m)

pub passed_bound : (order : IterationOrder) (key : List ℕ) (x y : RunCursor) → PassesOver order key x y → bound_run y ≤ bound_run x
passed_bound order key x y p =
    let n = passed_fewer order key x y p in
    let current = ap bound_open p.open_table in
    let ahead = ap (λ r. length (rows_ahead r)) p.ahead in
    omega (arith, n, current, ahead)

-- one more is passed over
pub pass_one : (order : IterationOrder) (key : List ℕ) (all left after : List SsTableHandle) → (front : List SsTableHandle) × (all ≡ front ++ left) × AllByRecursion (λ h. is_passed order key h.info ≡ true) front → is_next_passed order key left ≡ true → after ≡ drop 1 left →
    (front : List SsTableHandle) × (all ≡ front ++ after) × AllByRecursion (λ h. is_passed order key h.info ≡ true) front
pass_one order key all [] after passed next is = cc
pass_one order key all (h ∷ left) after (front, are, each) next is = (
  front ++ (h ∷ []),
  are ∙ sym (append_assoc front (h ∷ []) left) ∙ ap (λ (l : List SsTableHandle). (front ++ (h ∷ [])) ++ l) (sym is),
  AllByRecursion_push (λ t. is_passed order key t.info ≡ true) front h each next,
)

pub pass_fewer : (order : IterationOrder) (key : List ℕ) (left after : List SsTableHandle) → is_next_passed order key left ≡ true → after ≡ drop 1 left → length after < length left
pass_fewer order key [] after next is = cc
pass_fewer order key (h ∷ left) after next is = let n = ap length is in omega (arith, n)
