-- What calls do to the table of a run that is open.
use Rattle.std.proofs.Common.{◌≡◌, ◌⊎◌, inl, inr, ℕ, List, [], ◌++◌, Option, Some, None, refl, sym, subst}
use Rattle.slate_types.specs.declared.error.SlateDBError.{SlateDBError}
use Rattle.slate_types.specs.declared.types.RowEntry.{RowEntry}
use Rattle.slate_types.specs.declared.iter.IterationOrder.{IterationOrder}
use Rattle.slate_types.specs.Iteration.{TakesRow, drop_before}
use Rattle.slate_types.specs.Outside.{IsFault, IsLater, Meaning, Reach}
use Rattle.slate_types.specs.Refusing.{NoMore}
use Rattle.slate_types.specs.Steps.{Step}
use Rattle.slate_types.specs.World.{World, Made, Sees}
use Rattle.slate_types.proofs.Calls.{call_both, call_none, checks_both, checks_none, no_more_both, sees_first, sees_last}
use Rattle.slate_types.proofs.IterationLaws.{taken_in_order}
use Rattle.slate_types.proofs.Reaching.{fault_earlier}
use Rattle.slate_table.specs.declared.info.SsTableHandle.{SsTableHandle}
use Rattle.slate_merge.specs.Answering.{no_words, IsFaultOr}
use Rattle.slate_read.specs.declared.run_state.OpenTable.{OpenTable}
use Rattle.slate_read.specs.RunWalk.{FindsRow, IsOpenRising, IsSoundOpen, RefusesOpen, refuses_open, rest_open}
use Rattle.slate_read.specs.TableWalk.{IsSoundCursor, IsSoundRising, Sought, refuses_behind, rest_after}

-- ---- a step

pub open_step : (order : IterationOrder) (a b : Reach) (x y : Option OpenTable) (o p : OpenTable) (row : RowEntry) → x ≡ Some o → y ≡ Some p → p.table ≡ o.table →
    Step (rest_after o.table order) (IsSoundCursor o.table order) (refuses_behind o.table order) no_words a b o.cursor (Some row) p.cursor →
    Step (rest_open order) (IsSoundOpen order) (refuses_open order) no_words a b x (Some row) y
open_step order a b x y o p row ex ey same s =
    subst (λ (u : Option OpenTable). Step (rest_open order) (IsSoundOpen order) (refuses_open order) no_words a b u (Some row) y) (sym ex)
    (subst (λ (v : Option OpenTable). Step (rest_open order) (IsSoundOpen order) (refuses_open order) no_words a b (Some o) (Some row) v) (sym ey) here)
  where
    here : Step (rest_open order) (IsSoundOpen order) (refuses_open order) no_words a b (Some o) (Some row) (Some p)
    here = record {
      rows = λ w sees k. subst (λ (h : SsTableHandle). TakesRow (rest_after o.table order o.cursor w) (Some row) (rest_after h order p.cursor w)) (sym same) (s.rows w sees k);
      still = λ w sees k. subst (λ (h : SsTableHandle). IsSoundCursor h order p.cursor w) (sym same) (s.still w sees k);
      checked = λ w k. s.checked w k;
      taken = (s.taken.0, s.taken.1, (tt, λ later at e r. s.taken.2.1 later at e (subst (λ (h : SsTableHandle). refuses_behind h order p.cursor a.meaning later at e) same r)));
    }

-- what refused it is the table's
pub open_cause : (order : IterationOrder) (a b : Reach) (x : Option OpenTable) (o : OpenTable) (e : SlateDBError) → x ≡ Some o →
    IsFaultOr (refuses_behind o.table order) a b o.cursor None e → IsFaultOr (refuses_open order) a b x None e
open_cause order a b x o e is c = subst (λ (u : Option OpenTable). IsFaultOr (refuses_open order) a b u None e) (sym is) c

-- the table is spent, and let go of
pub open_spent : (order : IterationOrder) (a b : Reach) (x y : Option OpenTable) (o p : OpenTable) → x ≡ Some o → y ≡ None →
    Step (rest_after o.table order) (IsSoundCursor o.table order) (refuses_behind o.table order) no_words a b o.cursor None p.cursor →
    Step (rest_open order) (IsSoundOpen order) (refuses_open order) no_words a b x None y
open_spent order a b x y o p ex ey s =
    subst (λ (u : Option OpenTable). Step (rest_open order) (IsSoundOpen order) (refuses_open order) no_words a b u None y) (sym ex)
    (subst (λ (v : Option OpenTable). Step (rest_open order) (IsSoundOpen order) (refuses_open order) no_words a b (Some o) None v) (sym ey) here)
  where
    here : Step (rest_open order) (IsSoundOpen order) (refuses_open order) no_words a b (Some o) None None
    here = record {
      rows = λ w sees k. ((s.rows w sees k).0, refl);
      still = λ w sees k. tt;
      checked = λ w k. s.checked w k;
      taken = (s.taken.0, s.taken.1, (tt, λ later at e r. absurd r));
    }

pub open_none : (order : IterationOrder) (t : Reach) (x : Option OpenTable) → x ≡ None → Step (rest_open order) (IsSoundOpen order) (refuses_open order) no_words t t x None x
open_none order t x is = subst (λ (u : Option OpenTable). Step (rest_open order) (IsSoundOpen order) (refuses_open order) no_words t t u None u) (sym is) here
  where
    here : Step (rest_open order) (IsSoundOpen order) (refuses_open order) no_words t t None None None
    here = record {
      rows = λ w sees k. (refl, refl);
      still = λ w sees k. k;
      checked = λ w k. checks_none w t;
      taken = ([], call_none t, (tt, λ later at e r. r));
    }

-- ---- a seek

pub open_sought : (order : IterationOrder) (key : List ℕ) (a b : Reach) (x y : Option OpenTable) (o p : OpenTable) → x ≡ Some o → y ≡ Some p → p.table ≡ o.table →
    Sought (rest_after o.table order) (IsSoundRising o.table order) (refuses_behind o.table order) order key a b o.cursor p.cursor →
    Sought (rest_open order) (IsOpenRising order) (refuses_open order) order key a b x y
open_sought order key a b x y o p ex ey same s =
    subst (λ (u : Option OpenTable). Sought (rest_open order) (IsOpenRising order) (refuses_open order) order key a b u y) (sym ex)
    (subst (λ (v : Option OpenTable). Sought (rest_open order) (IsOpenRising order) (refuses_open order) order key a b (Some o) v) (sym ey) here)
  where
    here : Sought (rest_open order) (IsOpenRising order) (refuses_open order) order key a b (Some o) (Some p)
    here = record {
      rows = λ w sees k. subst (λ (h : SsTableHandle). rest_after h order p.cursor w ≡ drop_before order key (rest_after o.table order o.cursor w)) (sym same) (s.rows w sees k);
      still = λ w sees k. subst (λ (h : SsTableHandle). IsSoundRising h order p.cursor w) (sym same) (s.still w sees k);
      checked = λ w k. s.checked w k;
      made = (s.made.0, s.made.1, λ later at e r. s.made.2 later at e (subst (λ (h : SsTableHandle). refuses_behind h order p.cursor a.meaning later at e) same r));
    }

pub open_unsought : (order : IterationOrder) (key : List ℕ) (t : Reach) (x : Option OpenTable) → x ≡ None → Sought (rest_open order) (IsOpenRising order) (refuses_open order) order key t t x x
open_unsought order key t x is = subst (λ (u : Option OpenTable). Sought (rest_open order) (IsOpenRising order) (refuses_open order) order key t t u u) (sym is) here
  where
    here : Sought (rest_open order) (IsOpenRising order) (refuses_open order) order key t t None None
    here = record {
      rows = λ w sees k. refl;
      still = λ w sees k. k;
      checked = λ w k. checks_none w t;
      made = ([], call_none t, λ later at e r. r);
    }

-- ---- a seek, and then a step

pub finds : (order : IterationOrder) (key : List ℕ) (a b c : Reach) (x y z : Option OpenTable) (answer : Option RowEntry) →
    Sought (rest_open order) (IsOpenRising order) (refuses_open order) order key a b x y → Step (rest_open order) (IsSoundOpen order) (refuses_open order) no_words b c y answer z → FindsRow order key a c x answer z
finds order key a b c x y z answer m n = record {
  rows = λ w s k. subst (λ (l : List RowEntry). TakesRow l answer (rest_open order z w)) (m.rows w (first w s) k) (n.rows w (last w s) (m.still w (first w s) k).0);
  still = λ w s k.
      let y_rising = m.still w (first w s) k in
      (n.still w (last w s) y_rising.0, taken_in_order order (rest_open order y w) (rest_open order z w) answer (n.rows w (last w s) y_rising.0) y_rising.1);
  checked = λ w k. checks_both w a b c m.made.0 n.taken.0 m.made.1 n.taken.1 (m.checked w k) (λ s. n.checked w (m.still w s k).0);
  made = (
    m.made.0 ++ n.taken.0,
    call_both a b c m.made.0 n.taken.0 m.made.1 n.taken.1,
    no_more_both (refuses_open order x a.meaning) (refuses_open order y a.meaning) (refuses_open order z a.meaning) m.made.0 n.taken.0 m.made.2 (subst (λ (p : Meaning). NoMore (refuses_open order y p) n.taken.0 (refuses_open order z p)) m.made.1.meaning n.taken.2.1),
  );
}
  where
    first : (w : World) → Sees w a c → Sees w a b
    first w s = sees_first w a b c m.made.0 n.taken.0 m.made.1 n.taken.1 s

    last : (w : World) → Sees w a c → Sees w b c
    last w s = sees_last w a b c m.made.0 n.taken.0 m.made.1 n.taken.1 s

-- ---- refusals

pub open_fails : (order : IterationOrder) (a b : Reach) (x : Option OpenTable) (o : OpenTable) (e : SlateDBError) → x ≡ Some o → Made a b (λ reads. IsFault a b e ⊎ refuses_behind o.table order o.cursor a.meaning reads None e) →
    Made a b (λ reads. IsFault a b e ⊎ refuses_open order x a.meaning reads None e)
open_fails order a b x o e is (reads, call, inl k) = (reads, call, inl k)
open_fails order a b x o e is (reads, call, inr k) = (reads, call, inr (subst (λ (u : Option OpenTable). RefusesOpen order u a.meaning reads e) (sym is) k))

-- behind a seek
pub find_fails : (order : IterationOrder) (key : List ℕ) (a b c : Reach) (x y : Option OpenTable) (e : SlateDBError) → Sought (rest_open order) (IsOpenRising order) (refuses_open order) order key a b x y → IsLater a.faults b.faults →
    Made b c (λ reads. IsFault b c e ⊎ refuses_open order y b.meaning reads None e) → Made a c (λ reads. IsFault a c e ⊎ refuses_open order x a.meaning reads None e)
find_fails order key a b c x y e m since made = (m.made.0 ++ made.0, call_both a b c m.made.0 made.0 m.made.1 made.1, by made.2)
  where
    by : IsFault b c e ⊎ refuses_open order y b.meaning made.0 None e → IsFault a c e ⊎ refuses_open order x a.meaning (m.made.0 ++ made.0) None e
    by (inl h) = inl (fault_earlier a b c e since h)
    by (inr h) = inr (m.made.2 made.0 None e (subst (λ (p : Meaning). refuses_open order y p made.0 None e) m.made.1.meaning h))
