-- What calls do to what is left of a run.
use Rattle.std.proofs.Common.{◌≡◌, ◌⊎◌, inl, inr, ◌<◌, ◌+◌, Bool, true, false, List, [], ◌∷◌, ◌++◌, length, Option, Some, None, refl, sym, ap, subst, ◌∙◌, arith}
use Rattle.std.specs.Option.{is_some}
use Rattle.std.proofs.lemmas.List.Elements.{Contains-append_right}
use Rattle.slate_types.specs.declared.bytes_range.BytesRange.{BytesRange}
use Rattle.slate_types.specs.declared.error.SlateDBError.{SlateDBError}
use Rattle.slate_types.specs.declared.error.SlateDBError.TheVariants.{IteratorNotInitialized}
use Rattle.slate_types.specs.declared.types.RowEntry.{RowEntry}
use Rattle.slate_types.specs.declared.iter.IterationOrder.{IterationOrder}
use Rattle.slate_types.specs.Iteration.{IsInOrder}
use Rattle.slate_types.specs.Outside.{Act, Meaning, Reach}
use Rattle.slate_types.specs.Refusing.{IsDamage, NoMore}
use Rattle.slate_types.specs.Steps.{Step}
use Rattle.slate_types.specs.World.{World, Checks, IsCall, Made, Sees}
use Rattle.slate_types.proofs.Calls.{call_none, checks_none, met}
use Rattle.slate_types.proofs.Moves.{Moves}
use Rattle.slate_table.specs.declared.info.SsTableHandle.{SsTableHandle}
use Rattle.slate_merge.specs.Answering.{no_words}
use Rattle.slate_read.specs.declared.run_state.OpenTable.{OpenTable}
use Rattle.slate_read.specs.declared.run_state.RunCursor.{RunCursor}
use Rattle.slate_read.specs.declared.table_state.TableState.TheVariants.{New, Walking}
use Rattle.slate_read.specs.RunLaws.{open_more, waiting_more}
use Rattle.slate_read.specs.RunWalk.{AreHeld, IsOpenRising, IsSoundOpen, IsSoundRun, OpensNext, OpensTable, RefusesOpen, RefusesWaiting, refuses_open, refuses_run, rest_open, rest_run, rest_waiting, rows_ahead}
use Rattle.slate_read.specs.TableWalk.{IsSoundAt, RefusesUnread, rest_at}
use Rattle.slate_read.proofs.Ranges.{in_back, in_front}
use Rattle.slate_read.proofs.Walks.{begins_moves, refuses_at}

-- ---- parts

abbrev pub rest_parts : BytesRange → IterationOrder → Option RowEntry → Option OpenTable → List SsTableHandle → World → List RowEntry
rest_parts range order ahead current tables w = rows_ahead ahead ++ (rest_open order current w ++ rest_waiting range order tables w)

pub sound_of : (range : BytesRange) (order : IterationOrder) (x y : RunCursor) (w : World) → IsSoundRun range order x w → IsSoundOpen order y.current w → y.tables.items ≡ x.tables.items → IsInOrder order (rest_run range order y w) → IsSoundRun range order y w
sound_of range order x y w s current tables rising = record { open_table = current; held = subst (AreHeld w) (sym tables) s.held; rising = rising }

pub fewer_of : (order : IterationOrder) (m : Meaning) (x y : RunCursor) (reads : List Act) → NoMore (refuses_open order x.current m) reads (refuses_open order y.current m) → y.tables.items ≡ x.tables.items → NoMore (refuses_run order x m) reads (refuses_run order y m)
fewer_of order m x y reads fewer tables later at e (inl k) = inl (fewer later at e k)
fewer_of order m x y reads fewer tables later at e (inr k) = inr (k.0, subst (λ (l : List SsTableHandle). RefusesWaiting m order l (reads ++ later) e) tables (waiting_more order y.tables.items m reads later e k.1))

-- the rows behind the one that was read ahead
behind_ahead : (range : BytesRange) (order : IterationOrder) (x : RunCursor) (w : World) → IsSoundRun range order x w → IsInOrder order (rest_open order x.current w ++ rest_waiting range order x.tables.items w)
behind_ahead range order x w s = in_back order (rows_ahead x.ahead) (rest_open order x.current w ++ rest_waiting range order x.tables.items w) s.rising

pub open_rising : (range : BytesRange) (order : IterationOrder) (x : RunCursor) (w : World) → IsSoundRun range order x w → IsOpenRising order x.current w
open_rising range order x w s = (s.open_table, in_front order (rest_open order x.current w) (rest_waiting range order x.tables.items w) (behind_ahead range order x w s))

-- ---- a step of the table that is open

pub run_step : (range : BytesRange) (order : IterationOrder) (a b : Reach) (x y : RunCursor) (row : RowEntry) → Step (rest_open order) (IsSoundOpen order) (refuses_open order) no_words a b x.current (Some row) y.current →
    x.ahead ≡ None → y.ahead ≡ x.ahead → y.tables.items ≡ x.tables.items → Step (rest_run range order) (IsSoundRun range order) (refuses_run order) no_words a b x (Some row) y
run_step range order a b x y row s none ahead tables = record {
  rows = λ w sees k. rows w sees k;
  still = λ w sees k. sound_of range order x y w k (s.still w sees k.open_table) tables (subst (IsInOrder order) (rows w sees k) k.rising).1;
  checked = λ w k. s.checked w k.open_table;
  taken = (s.taken.0, s.taken.1, (tt, fewer_of order a.meaning x y s.taken.0 s.taken.2.1 tables));
}
  where
    rows : (w : World) → Sees w a b → IsSoundRun range order x w → rest_run range order x w ≡ row ∷ rest_run range order y w
    rows w sees k =
        (λ i. rest_parts range order (none i) x.current x.tables.items w)
        ∙ ap (λ (l : List RowEntry). l ++ rest_waiting range order x.tables.items w) (s.rows w sees k.open_table)
        ∙ sym (λ i. row ∷ rest_parts range order ((ahead ∙ none) i) y.current (tables i) w)

-- it is spent
pub run_spent : (range : BytesRange) (order : IterationOrder) (a b : Reach) (x y : RunCursor) → Step (rest_open order) (IsSoundOpen order) (refuses_open order) no_words a b x.current None y.current →
    y.ahead ≡ x.ahead → y.tables.items ≡ x.tables.items → Moves (rest_run range order) (IsSoundRun range order) (refuses_run order) a b x y
run_spent range order a b x y s ahead tables = record {
  rows = λ w sees k. rows w sees k;
  still = λ w sees k. sound_of range order x y w k (s.still w sees k.open_table) tables (subst (IsInOrder order) (sym (rows w sees k)) k.rising);
  checked = λ w k. s.checked w k.open_table;
  made = (s.taken.0, s.taken.1, fewer_of order a.meaning x y s.taken.0 s.taken.2.1 tables);
}
  where
    rows : (w : World) → Sees w a b → IsSoundRun range order x w → rest_run range order y w ≡ rest_run range order x w
    rows w sees k =
        let t = s.rows w sees k.open_table in
        (λ i. rows_ahead (ahead i) ++ ((t.1 ∙ sym t.0) i ++ rest_waiting range order (tables i) w))

-- ---- the row that was read ahead

pub ahead_step : (range : BytesRange) (order : IterationOrder) (t : Reach) (x y : RunCursor) (row : RowEntry) → x.ahead ≡ Some row → y.ahead ≡ None → y.current ≡ x.current → y.tables.items ≡ x.tables.items →
    Step (rest_run range order) (IsSoundRun range order) (refuses_run order) no_words t t x (Some row) y
ahead_step range order t x y row is none current tables = record {
  rows = λ w sees k. rows w;
  still = λ w sees k. sound_of range order x y w k (subst (λ (o : Option OpenTable). IsSoundOpen order o w) (sym current) k.open_table) tables (subst (IsInOrder order) (rows w) k.rising).1;
  checked = λ w k. checks_none w t;
  taken = ([], call_none t, (tt, fewer_of order t.meaning x y [] (λ later at e r. subst (λ (o : Option OpenTable). RefusesOpen order o t.meaning later e) current r) tables));
}
  where
    rows : (w : World) → rest_run range order x w ≡ row ∷ rest_run range order y w
    rows w = (λ i. rest_parts range order (is i) x.current x.tables.items w) ∙ sym (λ i. row ∷ rest_parts range order (none i) (current i) (tables i) w)

-- ---- the next table

opened_reads : (order : IterationOrder) (m : Meaning) (h : SsTableHandle) (o : OpenTable) (reads later : List Act) (e : SlateDBError) → o.table ≡ h → NoMore (refuses_at h order New m) reads (refuses_at h order (Walking o.cursor) m) →
    RefusesOpen order (Some o) m later e → IsDamage e × RefusesUnread m h order (reads ++ later) e
opened_reads order m h o reads later e same fewer k = (k.0, by (fewer later None e (subst (λ (t : SsTableHandle). refuses_at t order (Walking o.cursor) m later None e) same k)))
  where
    by : (e ≡ IteratorNotInitialized) ⊎ (IsDamage e × RefusesUnread m h order (reads ++ later) e) → RefusesUnread m h order (reads ++ later) e
    by (inl new) = absurd (subst IsDamage new k.0)
    by (inr why) = why.1

pub opened_no_more : (order : IterationOrder) (m : Meaning) (x y : RunCursor) (h : SsTableHandle) (o : OpenTable) (reads : List Act) → x.tables.items ≡ h ∷ y.tables.items → y.current ≡ Some o → o.table ≡ h → NoMore (refuses_at h order New m) reads (refuses_at h order (Walking o.cursor) m) →
    NoMore (refuses_run order x m) reads (refuses_run order y m)
opened_no_more order m x y h o reads tables is same fewer later at e (inl k) =
    let r = opened_reads order m h o reads later e same fewer (subst (λ (c : Option OpenTable). RefusesOpen order c m later e) is k) in
    inr (r.0, subst (λ (l : List SsTableHandle). RefusesWaiting m order l (reads ++ later) e) (sym tables) (h, (0, omega arith, refl), r.1))
opened_no_more order m x y h o reads tables is same fewer later at e (inr k) =
    let r = waiting_more order y.tables.items m reads later e k.1 in
    inr (k.0, subst (λ (l : List SsTableHandle). RefusesWaiting m order l (reads ++ later) e) (sym tables) (r.0, Contains-append_right (h ∷ []) y.tables.items r.0 r.1, r.2))

opens_here : (range : BytesRange) (order : IterationOrder) (a b : Reach) (x y : RunCursor) (h : SsTableHandle) (reads : List Act) (current : Option OpenTable) → IsCall a b reads → x.current ≡ None → x.tables.items ≡ h ∷ y.tables.items → y.ahead ≡ x.ahead → y.current ≡ current →
    OpensTable range a.meaning h reads current → Moves (rest_run range order) (IsSoundRun range order) (refuses_run order) a b x y
opens_here range order a b x y h reads None call closed tables ahead is opens = absurd opens
opens_here range order a b x y h reads (Some o) call closed tables ahead is opens = record {
  rows = λ w sees k. rows w sees k;
  still = λ w sees k. record {
    open_table = subst (λ (c : Option OpenTable). IsSoundOpen order c w) (sym is) (subst (λ (t : SsTableHandle). IsSoundAt range t order (Walking o.cursor) w) (sym opens.same) (m.still w sees (fresh w k))).state;
    held = (subst (AreHeld w) tables k.held).1;
    rising = subst (IsInOrder order) (sym (rows w sees k)) k.rising;
  };
  checked = λ w k. m.checked w (fresh w k);
  made = (m.made.0, m.made.1, opened_no_more order a.meaning x y h o m.made.0 tables is opens.same m.made.2);
}
  where
    m : Moves (rest_at range h order) (IsSoundAt range h order) (refuses_at h order) a b New (Walking o.cursor)
    m = begins_moves range h order a b New (Walking o.cursor) opens.entries refl opens.at (reads, call, opens.read)

    before : (w : World) → rest_run range order x w ≡ rows_ahead x.ahead ++ (rest_at range h order New w ++ rest_waiting range order y.tables.items w)
    before w = λ i. rest_parts range order x.ahead (closed i) (tables i) w

    fresh : (w : World) → IsSoundRun range order x w → IsSoundAt range h order New w
    fresh w k = record {
      state = (subst (AreHeld w) tables k.held).0;
      rising = in_front order (rest_at range h order New w) (rest_waiting range order y.tables.items w) (in_back order (rows_ahead x.ahead) (rest_at range h order New w ++ rest_waiting range order y.tables.items w) (subst (IsInOrder order) (before w) k.rising));
    }

    rows : (w : World) → Sees w a b → IsSoundRun range order x w → rest_run range order y w ≡ rest_run range order x w
    rows w sees k =
        (λ i. rest_parts range order (ahead i) (is i) y.tables.items w)
        ∙ ap (λ (t : SsTableHandle). rows_ahead x.ahead ++ (rest_at range t order (Walking o.cursor) w ++ rest_waiting range order y.tables.items w)) opens.same
        ∙ ap (λ (l : List RowEntry). rows_ahead x.ahead ++ (l ++ rest_waiting range order y.tables.items w)) (m.rows w sees (fresh w k))
        ∙ sym (before w)

pub opens_run : (range : BytesRange) (order : IterationOrder) (a b : Reach) (x y : RunCursor) → x.current ≡ None → Made a b (λ reads. OpensNext range a.meaning reads x true y) → Moves (rest_run range order) (IsSoundRun range order) (refuses_run order) a b x y
opens_run range order a b x y closed (reads, call, (h, tables, opens, ahead)) = opens_here range order a b x y h reads y.current call closed tables ahead refl opens

-- none is left
pub nothing_left : (range : BytesRange) (order : IterationOrder) (x : RunCursor) (w : World) → x.ahead ≡ None → x.current ≡ None → x.tables.items ≡ [] → rest_run range order x w ≡ []
nothing_left range order x w ahead closed tables = λ i. rest_parts range order (ahead i) (closed i) (tables i) w

pub ends_call : (range : BytesRange) (a b : Reach) (x y : RunCursor) → Made a b (λ reads. OpensNext range a.meaning reads x false y) → IsCall a b []
ends_call range a b x y (reads, call, is) = subst (IsCall a b) is.1 call

-- a call that read nothing
pub checks_same : (w : World) (a b : Reach) → IsCall a b [] → Checks w a b
checks_same w a b call = λ known began parts. inl (met w a b known [] parts began call tt)

pub end_run : (range : BytesRange) (order : IterationOrder) (a b : Reach) (x y : RunCursor) → x.ahead ≡ None → x.current ≡ None → Made a b (λ reads. OpensNext range a.meaning reads x false y) →
    Step (rest_run range order) (IsSoundRun range order) (refuses_run order) no_words a b x None y
end_run range order a b x y none closed made = record {
  rows = λ w sees k. (nothing_left range order x w none closed is.0, after w);
  still = λ w sees k. record {
    open_table = subst (λ (o : Option OpenTable). IsSoundOpen order o w) (sym (is.3 ∙ closed)) tt;
    held = subst (AreHeld w) (sym is.2) tt;
    rising = subst (IsInOrder order) (sym (after w)) tt;
  };
  checked = λ w k. checks_same w a b (ends_call range a b x y made);
  taken = (made.0, made.1, (tt, fewer));
}
  where
    is : OpensNext range a.meaning made.0 x false y
    is = made.2

    after : (w : World) → rest_run range order y w ≡ []
    after w = nothing_left range order y w (is.4 ∙ none) (is.3 ∙ closed) is.2

    fewer : NoMore (refuses_run order x a.meaning) made.0 (refuses_run order y a.meaning)
    fewer later at e (inl k) = absurd (subst (λ (o : Option OpenTable). RefusesOpen order o a.meaning later e) (is.3 ∙ closed) k)
    fewer later at e (inr k) = absurd (none_waits (subst (λ (l : List SsTableHandle). RefusesWaiting a.meaning order l later e) is.2 k.1))
      where
        none_waits : RefusesWaiting a.meaning order [] later e → ⊥
        none_waits r = let n = r.1.1 in omega (arith, n)

-- ---- by the answer of the call

pub opened_run : (range : BytesRange) (order : IterationOrder) (a b : Reach) (x y : RunCursor) (some : Bool) → some ≡ true → x.current ≡ None → Made a b (λ reads. OpensNext range a.meaning reads x some y) → Moves (rest_run range order) (IsSoundRun range order) (refuses_run order) a b x y
opened_run range order a b x y some is closed made = opens_run range order a b x y closed (subst (λ (t : Bool). Made a b (λ reads. OpensNext range a.meaning reads x t y)) is made)

pub ended_run : (range : BytesRange) (order : IterationOrder) (a b : Reach) (x y : RunCursor) (some : Bool) → some ≡ false → x.ahead ≡ None → x.current ≡ None → Made a b (λ reads. OpensNext range a.meaning reads x some y) →
    Step (rest_run range order) (IsSoundRun range order) (refuses_run order) no_words a b x None y
ended_run range order a b x y some is none closed made = end_run range order a b x y none closed (subst (λ (t : Bool). Made a b (λ reads. OpensNext range a.meaning reads x t y)) is made)

pub opened_ahead : (range : BytesRange) (a b : Reach) (x y : RunCursor) (some : Bool) → Made a b (λ reads. OpensNext range a.meaning reads x some y) → y.ahead ≡ x.ahead
opened_ahead range a b x y false (reads, call, is) = is.4
opened_ahead range a b x y true (reads, call, is) = is.3

pub opened_fewer : (x y : RunCursor) (some : Bool) → some ≡ true → (some ≡ true → length y.tables.items + 1 ≡ length x.tables.items) → length y.tables.items < length x.tables.items
opened_fewer x y some is fewer = let n = fewer is in omega (arith, n)

-- none was left
pub ended_moves : (range : BytesRange) (order : IterationOrder) (a b : Reach) (x y : RunCursor) → Made a b (λ reads. OpensNext range a.meaning reads x false y) → Moves (rest_run range order) (IsSoundRun range order) (refuses_run order) a b x y
ended_moves range order a b x y made = record {
  rows = λ w sees k. rows w;
  still = λ w sees k. sound_of range order x y w k (subst (λ (o : Option OpenTable). IsSoundOpen order o w) (sym is.3) k.open_table) tables (subst (IsInOrder order) (sym (rows w)) k.rising);
  checked = λ w k. checks_same w a b (ends_call range a b x y made);
  made = (made.0, made.1, fewer_of order a.meaning x y made.0 (λ later at e r. open_more order x.current a.meaning made.0 later e (subst (λ (o : Option OpenTable). RefusesOpen order o a.meaning later e) is.3 r)) tables);
}
  where
    is : OpensNext range a.meaning made.0 x false y
    is = made.2

    tables : y.tables.items ≡ x.tables.items
    tables = is.2 ∙ sym is.0

    rows : (w : World) → rest_run range order y w ≡ rest_run range order x w
    rows w = λ i. rest_parts range order (is.4 i) (is.3 i) (tables i) w

pub begun_run : (range : BytesRange) (order : IterationOrder) (a b : Reach) (x y : RunCursor) (some : Bool) → x.current ≡ None → Made a b (λ reads. OpensNext range a.meaning reads x some y) → Moves (rest_run range order) (IsSoundRun range order) (refuses_run order) a b x y
begun_run range order a b x y true closed made = opens_run range order a b x y closed made
begun_run range order a b x y false closed made = ended_moves range order a b x y made

pub not_open : (x : Option OpenTable) → is_some x ≡ false → x ≡ None
not_open None h = refl
not_open (Some o) h = cc
