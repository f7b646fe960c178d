-- What calls of a walk over a run, and of an iterator over one, do to the rows that they may hand out.
use Rattle.std.proofs.Common.{◌≡◌, inl, inr, ℕ, Bool, true, false, List, [], ◌∷◌, ◌++◌, Option, Some, None, refl, sym, subst, ◌∙◌, arith}
use Rattle.std.specs.Prelude.{Contains}
use Rattle.std.specs.Option.{is_some}
use Rattle.std.proofs.lemmas.List.Elements.{Contains-append_left, Contains-append_right}
use Rattle.slate_types.specs.declared.bytes_range.BytesRange.{BytesRange}
use Rattle.slate_types.specs.declared.iter.IterationOrder.{IterationOrder}
use Rattle.slate_types.specs.declared.types.RowEntry.{RowEntry}
use Rattle.slate_types.specs.Outside.{Act, Meaning, Reach}
use Rattle.slate_types.specs.Refusing.{NoMore}
use Rattle.slate_types.specs.World.{IsCall, Made}
use Rattle.slate_types.proofs.Calls.{call_none}
use Rattle.slate_table.specs.declared.info.SsTableHandle.{SsTableHandle}
use Rattle.slate_merge.specs.declared.filter_iterator.FilterIterator.{FilterIterator}
use Rattle.slate_merge.specs.declared.progress.Progress.{Progress}
use Rattle.slate_merge.specs.NoMoreRows.{HandsOut, NoMoreRows}
use Rattle.slate_merge.specs.Filtering.{TakesKept}
use Rattle.slate_merge.specs.Handing.{HandsHeld, SeeksHeld, brings_held, held_in}
use Rattle.slate_merge.specs.NewestFirst.{Begins}
use Rattle.slate_merge.proofs.NoMoreRows.{AddsBy, HandsBy, ended_adds, some_weaker}
use Rattle.slate_merge.proofs.Tellings.{begun_tells, held_grows, held_new, held_tells, kept_tells, none_of, one_of, sought_tells}
use Rattle.slate_read.specs.declared.range_rows.InRange.{InRange}
use Rattle.slate_read.specs.declared.run_state.OpenTable.{OpenTable}
use Rattle.slate_read.specs.declared.run_state.RunCursor.{RunCursor}
use Rattle.slate_read.specs.declared.run_state.RunState.{RunState}
use Rattle.slate_read.specs.declared.run_state.RunState.TheVariants.{New, Going, Refused}
use Rattle.slate_read.specs.declared.run_state.RunWalk.{RunWalk}
use Rattle.slate_read.specs.declared.table_state.TableState.TheVariants as table
use Rattle.slate_read.specs.Bringing.{BringsUnread, brings_behind, brings_in}
use Rattle.slate_read.specs.RunBringing.{BringsOpen, BringsWaiting, RunRows, UnopenedRunsBring, brings_run, brings_run_in, brings_run_iterator, brings_run_source, brings_walk, run_walk_begins, run_walk_seeks, run_walk_takes}
use Rattle.slate_read.specs.RunIterators.{reached}
use Rattle.slate_read.specs.RunWalk.{OpensNext, OpensTable, PassesOver, RefusesOpen, refuses_open, refuses_run, rows_ahead, waiting}
use Rattle.slate_read.specs.TableWalk.{is_in, refuses_behind}
use Rattle.slate_read.proofs.Bringings.{Within, begins_adds, behind_grows, unread_grows}
use Rattle.slate_read.proofs.RunCalls.{At, refuses_pair}
use Rattle.slate_read.proofs.Runs.{end_run, ended_moves, fewer_of, opened_no_more}
use Rattle.slate_read.proofs.RunSeeks.{passed_no_more}
use Rattle.slate_read.proofs.Walks.{refuses_at}

-- ---- what some reads bring, more do

open_grows : (order : IterationOrder) (x : Option OpenTable) (m : Meaning) (reads all : List Act) (r : RowEntry) → Within reads all → BringsOpen order x m reads r → BringsOpen order x m all r
open_grows order None m reads all r within k = k
open_grows order (Some o) m reads all r within k = behind_grows o.table order o.cursor m reads all r within k

waiting_grows : (m : Meaning) (order : IterationOrder) (tables : List SsTableHandle) (reads all : List Act) (r : RowEntry) → Within reads all → BringsWaiting m order tables reads r → BringsWaiting m order tables all r
waiting_grows m order tables reads all r within (h, among, k) = (h, among, unread_grows m h order reads all r within k)

cursor_grows : (order : IterationOrder) (x : RunCursor) (m : Meaning) (reads all : List Act) (r : RowEntry) → Within reads all → brings_run order x m reads r → brings_run order x m all r
cursor_grows order x m reads all r within (inl k) = inl k
cursor_grows order x m reads all r within (inr (inl k)) = inr (inl (open_grows order x.current m reads all r within k))
cursor_grows order x m reads all r within (inr (inr k)) = inr (inr (waiting_grows m order (waiting x) reads all r within k))

state_grows : (s : RunState) (order : IterationOrder) (x : RunCursor) (m : Meaning) (reads all : List Act) (r : RowEntry) → Within reads all → brings_run_in s order x m reads r → brings_run_in s order x m all r
state_grows New order x m reads all r within k = cursor_grows order x m reads all r within k
state_grows Going order x m reads all r within k = cursor_grows order x m reads all r within k
state_grows (Refused e) order x m reads all r within k = k

-- behind some reads, and before others
behind : (reads later : List Act) → Within later (reads ++ later)
behind reads later a k = Contains-append_right reads later a k

before : (reads later : List Act) → Within reads (reads ++ later)
before reads later a k = Contains-append_left reads later a k

-- ---- the table that is open

pub open_hands : (order : IterationOrder) (a b : Reach) (x y : Option OpenTable) (o p : OpenTable) (answer : Option RowEntry) → x ≡ Some o → y ≡ Some p → p.table ≡ o.table →
    HandsBy (brings_behind o.table order) (refuses_behind o.table order) a b o.cursor answer p.cursor → HandsBy (BringsOpen order) (refuses_open order) a b x answer y
open_hands order a b x y o p answer ex ey same k =
    subst (λ (u : Option OpenTable). HandsBy (BringsOpen order) (refuses_open order) a b u answer y) (sym ex)
    (subst (λ (v : Option OpenTable). HandsBy (BringsOpen order) (refuses_open order) a b (Some o) answer v) (sym ey) here)
  where
    here : HandsBy (BringsOpen order) (refuses_open order) a b (Some o) answer (Some p)
    here = (
      k.0,
      k.1,
      (
        (k.2.0.0, λ later r q. k.2.0.1 later r (subst (λ (h : SsTableHandle). brings_behind h order p.cursor a.meaning later r) same q)),
        λ later at e r. k.2.1 later at e (subst (λ (h : SsTableHandle). refuses_behind h order p.cursor a.meaning later at e) same r),
      ),
    )

-- it is spent, and let go of
pub spent_hands : (order : IterationOrder) (a b : Reach) (x y : Option OpenTable) (o p : OpenTable) → x ≡ Some o → y ≡ None → HandsBy (brings_behind o.table order) (refuses_behind o.table order) a b o.cursor None p.cursor →
    HandsBy (BringsOpen order) (refuses_open order) a b x None y
spent_hands order a b x y o p ex ey k =
    subst (λ (u : Option OpenTable). HandsBy (BringsOpen order) (refuses_open order) a b u None y) (sym ex)
    (subst (λ (v : Option OpenTable). HandsBy (BringsOpen order) (refuses_open order) a b (Some o) None v) (sym ey) here)
  where
    here : HandsBy (BringsOpen order) (refuses_open order) a b (Some o) None None
    here = (k.0, k.1, ((tt, λ later r q. absurd q), λ later at e r. absurd r))

pub open_adds : (order : IterationOrder) (a b : Reach) (x y : Option OpenTable) (o p : OpenTable) → x ≡ Some o → y ≡ Some p → p.table ≡ o.table → AddsBy (brings_behind o.table order) (refuses_behind o.table order) a b o.cursor p.cursor →
    AddsBy (BringsOpen order) (refuses_open order) a b x y
open_adds order a b x y o p ex ey same k =
    subst (λ (u : Option OpenTable). AddsBy (BringsOpen order) (refuses_open order) a b u y) (sym ex)
    (subst (λ (v : Option OpenTable). AddsBy (BringsOpen order) (refuses_open order) a b (Some o) v) (sym ey) here)
  where
    here : AddsBy (BringsOpen order) (refuses_open order) a b (Some o) (Some p)
    here = (
      k.0,
      k.1,
      (
        λ later at e r. k.2.0 later at e (subst (λ (h : SsTableHandle). refuses_behind h order p.cursor a.meaning later at e) same r),
        λ later r q. k.2.1 later r (subst (λ (h : SsTableHandle). brings_behind h order p.cursor a.meaning later r) same q),
      ),
    )

-- ---- of a run

-- the tables that wait stay
rows_of : (order : IterationOrder) (m : Meaning) (x y : RunCursor) (reads : List Act) → ((later : List Act) (r : RowEntry) → Contains (rows_ahead y.ahead) r → brings_run order x m (reads ++ later) r) →
    NoMoreRows (BringsOpen order x.current m) reads (BringsOpen order y.current m) → y.tables.items ≡ x.tables.items → NoMoreRows (brings_run order x m) reads (brings_run order y m)
rows_of order m x y reads ahead current tables later r (inl k) = ahead later r k
rows_of order m x y reads ahead current tables later r (inr (inl k)) = inr (inl (current later r k))
rows_of order m x y reads ahead current tables later r (inr (inr k)) =
    inr (inr (subst (λ (l : List SsTableHandle). BringsWaiting m order l (reads ++ later) r) tables (waiting_grows m order y.tables.items later (reads ++ later) r (behind reads later) k)))

same_ahead : (order : IterationOrder) (m : Meaning) (x y : RunCursor) (reads : List Act) → y.ahead ≡ x.ahead → (later : List Act) (r : RowEntry) → Contains (rows_ahead y.ahead) r → brings_run order x m (reads ++ later) r
same_ahead order m x y reads is later r k = inl (subst (λ (o : Option RowEntry). Contains (rows_ahead o) r) is k)

without_ahead : (order : IterationOrder) (m : Meaning) (x y : RunCursor) (reads : List Act) → y.ahead ≡ None → (later : List Act) (r : RowEntry) → Contains (rows_ahead y.ahead) r → brings_run order x m (reads ++ later) r
without_ahead order m x y reads is later r k = absurd (none_of r (subst (λ (o : Option RowEntry). Contains (rows_ahead o) r) is k))

same_open : (order : IterationOrder) (m : Meaning) (x y : RunCursor) (reads : List Act) → y.current ≡ x.current → NoMoreRows (BringsOpen order x.current m) reads (BringsOpen order y.current m)
same_open order m x y reads is later r k = open_grows order x.current m later (reads ++ later) r (behind reads later) (subst (λ (o : Option OpenTable). BringsOpen order o m later r) is k)

-- a row of the table that is open, or it is spent
pub run_hands : (order : IterationOrder) (a b : Reach) (x y : RunCursor) (answer : Option RowEntry) → HandsBy (BringsOpen order) (refuses_open order) a b x.current answer y.current → y.ahead ≡ x.ahead → y.tables.items ≡ x.tables.items →
    HandsBy (brings_run order) (refuses_run order) a b x answer y
run_hands order a b x y answer (reads, call, ((handed, rows), fewer)) ahead tables = (
  reads,
  call,
  (
    (
      some_weaker (λ r. BringsOpen order x.current a.meaning reads r) (λ r. brings_run order x a.meaning reads r) answer (λ r k. inr (inl k)) handed,
      rows_of order a.meaning x y reads (same_ahead order a.meaning x y reads ahead) rows tables,
    ),
    fewer_of order a.meaning x y reads fewer tables,
  ),
)

pub run_spent_adds : (order : IterationOrder) (a b : Reach) (x y : RunCursor) → HandsBy (BringsOpen order) (refuses_open order) a b x.current None y.current → y.ahead ≡ x.ahead → y.tables.items ≡ x.tables.items → AddsBy (brings_run order) (refuses_run order) a b x y
run_spent_adds order a b x y k ahead tables = ended_adds (brings_run order) (refuses_run order) a b x y (run_hands order a b x y None k ahead tables)

-- one that a seek found is kept
pub found_adds : (order : IterationOrder) (a b : Reach) (x y : RunCursor) (row : RowEntry) → HandsBy (BringsOpen order) (refuses_open order) a b x.current (Some row) y.current → y.ahead ≡ Some row → y.tables.items ≡ x.tables.items →
    AddsBy (brings_run order) (refuses_run order) a b x y
found_adds order a b x y row (reads, call, ((handed, rows), fewer)) ahead tables = (reads, call, (fewer_of order a.meaning x y reads fewer tables, rows_of order a.meaning x y reads found rows tables))
  where
    found : (later : List Act) (r : RowEntry) → Contains (rows_ahead y.ahead) r → brings_run order x a.meaning (reads ++ later) r
    found later r k =
        let same : row ≡ r = one_of row r (subst (λ (o : Option RowEntry). Contains (rows_ahead o) r) ahead k) in
        inr (inl (open_grows order x.current a.meaning reads (reads ++ later) r (before reads later) (subst (λ (q : RowEntry). BringsOpen order x.current a.meaning reads q) same handed)))

-- the row that was read ahead is let go of
pub let_go_adds : (order : IterationOrder) (t : Reach) (x y : RunCursor) → y.ahead ≡ None → y.current ≡ x.current → y.tables.items ≡ x.tables.items → AddsBy (brings_run order) (refuses_run order) t t x y
let_go_adds order t x y ahead current tables = (
  [],
  call_none t,
  (
    fewer_of order t.meaning x y [] (λ later at e r. subst (λ (o : Option OpenTable). RefusesOpen order o t.meaning later e) current r) tables,
    rows_of order t.meaning x y [] (without_ahead order t.meaning x y [] ahead) (same_open order t.meaning x y [] current) tables,
  ),
)

ahead_hands : (order : IterationOrder) (t : Reach) (x y : RunCursor) (row : RowEntry) → x.ahead ≡ Some row → y.ahead ≡ None → y.current ≡ x.current → y.tables.items ≡ x.tables.items → HandsBy (brings_run order) (refuses_run order) t t x (Some row) y
ahead_hands order t x y row is ahead current tables =
    let k = let_go_adds order t x y ahead current tables in
    (k.0, k.1, ((inl (subst (λ (o : Option RowEntry). Contains (rows_ahead o) row) (sym is) (0, omega arith, refl)), k.2.1), k.2.0))

pub ahead_taken : (order : IterationOrder) (t : Reach) (x y : RunCursor) (answer : Option RowEntry) → is_some x.ahead ≡ true → answer ≡ x.ahead → y.ahead ≡ None → y.current ≡ x.current → y.tables.items ≡ x.tables.items → HandsBy (brings_run order) (refuses_run order) t t x answer y
ahead_taken order t x y answer some is ahead current tables = by x.ahead refl some
  where
    by : (o : Option RowEntry) → x.ahead ≡ o → is_some o ≡ true → HandsBy (brings_run order) (refuses_run order) t t x answer y
    by None e s = cc
    by (Some row) e s = subst (λ (p : Option RowEntry). HandsBy (brings_run order) (refuses_run order) t t x p y) (sym (is ∙ e)) (ahead_hands order t x y row e ahead current tables)

-- ---- the next table

opened_here : (range : BytesRange) (order : IterationOrder) (a b : Reach) (x y : RunCursor) (h : SsTableHandle) (reads : List Act) (current : Option OpenTable) → IsCall a b reads → x.tables.items ≡ h ∷ y.tables.items → y.ahead ≡ x.ahead → y.current ≡ current →
    OpensTable range a.meaning h reads current → AddsBy (brings_run order) (refuses_run order) a b x y
opened_here range order a b x y h reads None call tables ahead is opens = absurd opens
opened_here range order a b x y h reads (Some o) call tables ahead is opens = (m.0, m.1, (opened_no_more order a.meaning x y h o m.0 tables is opens.same m.2.1, rows))
  where
    m : Made a b (λ acts. NoMoreRows (brings_in table.New h order a.meaning) acts (brings_in (table.Walking o.cursor) h order a.meaning) × NoMore (refuses_at h order table.New a.meaning) acts (refuses_at h order (table.Walking o.cursor) a.meaning))
    m = begins_adds range h order a b table.New (table.Walking o.cursor) opens.entries refl opens.at (reads, call, opens.read)

    rows : NoMoreRows (brings_run order x a.meaning) m.0 (brings_run order y a.meaning)
    rows later r (inl k) = inl (subst (λ (q : Option RowEntry). Contains (rows_ahead q) r) ahead k)
    rows later r (inr (inl k)) =
        let here = subst (λ (t : SsTableHandle). brings_behind t order o.cursor a.meaning later r) opens.same (subst (λ (c : Option OpenTable). BringsOpen order c a.meaning later r) is k) in
        inr (inr (subst (λ (l : List SsTableHandle). BringsWaiting a.meaning order l (m.0 ++ later) r) (sym tables) (h, (0, omega arith, refl), m.2.0 later r here)))
    rows later r (inr (inr (g, among, k))) =
        inr (inr (subst (λ (l : List SsTableHandle). BringsWaiting a.meaning order l (m.0 ++ later) r) (sym tables) (g, Contains-append_right (h ∷ []) y.tables.items g among, unread_grows a.meaning g order later (m.0 ++ later) r (behind m.0 later) k)))

opened_adds : (range : BytesRange) (order : IterationOrder) (a b : Reach) (x y : RunCursor) → Made a b (λ reads. OpensNext range a.meaning reads x true y) → AddsBy (brings_run order) (refuses_run order) a b x y
opened_adds range order a b x y (reads, call, (h, tables, opens, ahead)) = opened_here range order a b x y h reads y.current call tables ahead refl opens

-- none is left
ended_hands : (range : BytesRange) (order : IterationOrder) (a b : Reach) (x y : RunCursor) → x.ahead ≡ None → x.current ≡ None → Made a b (λ reads. OpensNext range a.meaning reads x false y) → HandsBy (brings_run order) (refuses_run order) a b x None y
ended_hands range order a b x y none closed made = (s.0, s.1, ((tt, rows), s.2.1))
  where
    is : OpensNext range a.meaning made.0 x false y
    is = made.2

    s : Made a b (λ reads. Unit {0} × NoMore (refuses_run order x a.meaning) reads (refuses_run order y a.meaning))
    s = (end_run range order a b x y none closed made).taken

    rows : NoMoreRows (brings_run order x a.meaning) s.0 (brings_run order y a.meaning)
    rows later r (inl k) = absurd (none_of r (subst (λ (o : Option RowEntry). Contains (rows_ahead o) r) (is.4 ∙ none) k))
    rows later r (inr (inl k)) = absurd (subst (λ (o : Option OpenTable). BringsOpen order o a.meaning later r) (is.3 ∙ closed) k)
    rows later r (inr (inr k)) = absurd (none_waits (subst (λ (l : List SsTableHandle). BringsWaiting a.meaning order l later r) is.2 k))
      where
        none_waits : BringsWaiting a.meaning order [] later r → ⊥
        none_waits q = let n = q.1.1 in omega (arith, n)

same_adds : (range : BytesRange) (order : IterationOrder) (a b : Reach) (x y : RunCursor) → Made a b (λ reads. OpensNext range a.meaning reads x false y) → AddsBy (brings_run order) (refuses_run order) a b x y
same_adds range order a b x y made = (s.0, s.1, (s.2, rows_of order a.meaning x y s.0 (same_ahead order a.meaning x y s.0 is.4) (same_open order a.meaning x y s.0 is.3) (is.2 ∙ sym is.0)))
  where
    is : OpensNext range a.meaning made.0 x false y
    is = made.2

    s : Made a b (λ reads. NoMore (refuses_run order x a.meaning) reads (refuses_run order y a.meaning))
    s = (ended_moves range order a b x y made).made

-- by the answer of the call that opens
pub next_adds : (range : BytesRange) (order : IterationOrder) (a b : Reach) (x y : RunCursor) (some : Bool) → Made a b (λ reads. OpensNext range a.meaning reads x some y) → AddsBy (brings_run order) (refuses_run order) a b x y
next_adds range order a b x y true made = opened_adds range order a b x y made
next_adds range order a b x y false made = same_adds range order a b x y made

pub end_hands : (range : BytesRange) (order : IterationOrder) (a b : Reach) (x y : RunCursor) (some : Bool) → some ≡ false → x.ahead ≡ None → x.current ≡ None → Made a b (λ reads. OpensNext range a.meaning reads x some y) →
    HandsBy (brings_run order) (refuses_run order) a b x None y
end_hands range order a b x y some is none closed made = ended_hands range order a b x y none closed (subst (λ (t : Bool). Made a b (λ reads. OpensNext range a.meaning reads x t y)) is made)

-- tables that are passed over
pub passes_adds : (order : IterationOrder) (key : List ℕ) (t : Reach) (x y : RunCursor) → PassesOver order key x y → AddsBy (brings_run order) (refuses_run order) t t x y
passes_adds order key t x y p = ([], call_none t, (passed_no_more order key t.meaning x y p, rows))
  where
    rows : NoMoreRows (brings_run order x t.meaning) [] (brings_run order y t.meaning)
    rows later r (inl k) = inl (subst (λ (o : Option RowEntry). Contains (rows_ahead o) r) p.ahead k)
    rows later r (inr (inl k)) = inr (inl (subst (λ (o : Option OpenTable). BringsOpen order o t.meaning later r) p.open_table k))
    rows later r (inr (inr (h, among, k))) = inr (inr (subst (λ (l : List SsTableHandle). BringsWaiting t.meaning order l later r) (sym p.are) (h, Contains-append_right p.passed y.tables.items h among, k)))

-- ---- a walk

abbrev pub brings_pair : IterationOrder → At → Meaning → List Act → RowEntry → Type 0
brings_pair order p m reads r = brings_run_in p.0 order p.1 m reads r

pub going_hands : (order : IterationOrder) (a b : Reach) (s : RunState) (x y : RunCursor) (answer : Option RowEntry) → s ≡ Going → HandsBy (brings_run order) (refuses_run order) a b x answer y → HandsBy (brings_pair order) (refuses_pair order) a b (s, x) answer (s, y)
going_hands order a b s x y answer is k = subst (λ (u : RunState). HandsBy (brings_pair order) (refuses_pair order) a b (u, x) answer (u, y)) (sym is) k

pub going_adds : (order : IterationOrder) (a b : Reach) (s : RunState) (x y : RunCursor) → s ≡ Going → AddsBy (brings_run order) (refuses_run order) a b x y → AddsBy (brings_pair order) (refuses_pair order) a b (s, x) (s, y)
going_adds order a b s x y is k = subst (λ (u : RunState). AddsBy (brings_pair order) (refuses_pair order) a b (u, x) (u, y)) (sym is) k

pub begun_adds : (order : IterationOrder) (a b : Reach) (s t : RunState) (x y : RunCursor) → s ≡ New → t ≡ Going → AddsBy (brings_run order) (refuses_run order) a b x y → AddsBy (brings_pair order) (refuses_pair order) a b (s, x) (t, y)
begun_adds order a b s t x y new going k =
    subst (λ (u : RunState). AddsBy (brings_pair order) (refuses_pair order) a b (u, x) (t, y)) (sym new)
    (subst (λ (v : RunState). AddsBy (brings_pair order) (refuses_pair order) a b (New, x) (v, y)) (sym going) here)
  where
    here : AddsBy (brings_pair order) (refuses_pair order) a b (New, x) (Going, y)
    here = (k.0, k.1, (λ later at e r. inr (k.2.0 later at e r), k.2.1))

-- ---- the rows in a range

abbrev pub run_source_begins : FilterIterator RunWalk InRange → Meaning → List Act → FilterIterator RunWalk InRange → Type 0
run_source_begins before m reads after = run_walk_begins before.iterator m reads after.iterator × (after.predicate ≡ before.predicate)

abbrev pub run_source_takes : FilterIterator RunWalk InRange → Meaning → List Act → Option RowEntry → FilterIterator RunWalk InRange → Type 0
run_source_takes before m reads answer after = TakesKept (λ x rs a y. run_walk_takes x m rs a y) (is_in before.predicate.range) before.iterator reads answer after.iterator × (after.predicate ≡ before.predicate)

abbrev pub run_source_seeks : FilterIterator RunWalk InRange → Meaning → List Act → List ℕ → FilterIterator RunWalk InRange → Type 0
run_source_seeks before m reads key after = run_walk_seeks before.iterator m reads key after.iterator × (after.predicate ≡ before.predicate)

source_grows : (m : Meaning) (x : FilterIterator RunWalk InRange) (reads all : List Act) (r : RowEntry) → Within reads all → brings_run_source m x reads r → brings_run_source m x all r
source_grows m x reads all r within k = state_grows x.iterator.state x.iterator.order x.iterator.cursor m reads all r within k

source_tells : (m : Meaning) (x y : FilterIterator RunWalk InRange) (reads : List Act) (answer : Option RowEntry) → run_source_takes x m reads answer y → HandsOut (brings_run_source m x) reads answer (brings_run_source m y)
source_tells m x y reads answer t = kept_tells (λ (u : RunWalk) acts q. brings_walk u m acts q) (λ u rs a v. run_walk_takes u m rs a v) (λ u v rs a k. k.3) (is_in x.predicate.range) x.iterator y.iterator reads answer t.0

-- ---- the newest of each key first

pub run_tells : (m : Meaning) (x y : FilterIterator RunWalk InRange) (s p : Progress) (reads : List Act) (answer : Option RowEntry) → HandsHeld run_source_takes (x, held_in s) m reads answer (y, held_in p) →
    HandsOut (brings_held (brings_run_source m) (x, held_in s)) reads answer (brings_held (brings_run_source m) (y, held_in p))
run_tells m x y s p reads answer h = held_tells (brings_run_source m) run_source_takes m (λ u v rs a k. source_tells m u v rs a k) (λ u rs later r k. source_grows m u rs (rs ++ later) r (before rs later) k) (x, held_in s) (y, held_in p) reads answer h

pub run_sought_tells : (m : Meaning) (x y : FilterIterator RunWalk InRange) (s p : Progress) (reads : List Act) (key : List ℕ) → SeeksHeld run_source_seeks (x, held_in s) m reads key (y, held_in p) →
    NoMoreRows (brings_held (brings_run_source m) (x, held_in s)) reads (brings_held (brings_run_source m) (y, held_in p))
run_sought_tells m x y s p reads key h = sought_tells (brings_run_source m) run_source_seeks m (λ u v rs k t. t.0.3) (x, held_in s) (y, held_in p) reads key h

pub run_begun_tells : (m : Meaning) (x y : FilterIterator RunWalk InRange) (s p : Progress) (reads : List Act) → Begins s p → run_source_begins x m reads y → NoMoreRows (brings_held (brings_run_source m) (x, held_in s)) reads (brings_held (brings_run_source m) (y, held_in p))
run_begun_tells m x y s p reads b begins = begun_tells (brings_run_source m) x y s p reads b begins.0.3

-- what some reads bring, more do
pub run_grows : (it : RunRows) (m : Meaning) (reads : List Act) (r : RowEntry) → brings_run_iterator it m reads r → (all : List Act) → Within reads all → brings_run_iterator it m all r
run_grows it m reads r k all within = held_grows (brings_run_source m) (it.iterator, held_in it.progress) reads all r (λ b. source_grows m it.iterator reads all r within b) k

-- ---- one that wasn't opened

pub unopened_runs_bring : UnopenedRunsBring
unopened_runs_bring range run order it is m reads r k = by (subst (λ (s : RunState). brings_run_in s walk.order walk.cursor m reads r) is.unopened (held_new (brings_run_source m) it.iterator it.progress reads r is.fresh k))
  where
    walk : RunWalk
    walk = it.iterator.iterator

    by : brings_run walk.order walk.cursor m reads r → (h : SsTableHandle) × Contains (reached range order run.tables.items) h × ((o : IterationOrder) × BringsUnread m h o reads r)
    by (inl q) = absurd (none_of r (subst (λ (o : Option RowEntry). Contains (rows_ahead o) r) is.none_ahead q))
    by (inr (inl q)) = absurd (subst (λ (o : Option OpenTable). BringsOpen walk.order o m reads r) is.closed q)
    by (inr (inr (h, among, q))) = (h, subst (λ (l : List SsTableHandle). Contains l h) is.opens among, (walk.order, q))
