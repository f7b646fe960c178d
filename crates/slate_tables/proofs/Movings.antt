-- A script that was written moves the state.
use Rattle.std.proofs.Common.{◌≡◌, ◌⊎◌, inl, inr, ℕ, ◌+◌, ◌-◌, ◌^◌, ◌<◌, Bool, true, false, List, [], ◌∷◌, ◌++◌, flat_map, length, Option, Some, None, is_some, ℤ, refl, sym, ap, subst, ◌∙◌, append_assoc}
use Rattle.std.specs.Prelude.{IfOk, IfSome, OnOk, Result, Ok, Err, FitsSigned, nat_abs, ◌-ℤ◌}
use Rattle.std.specs.List.{AllByRecursion}
use Rattle.slate_types.specs.declared.bytes_range.BytesRange.{BytesRange}
use Rattle.slate_types.specs.declared.error.SlateDBError.{SlateDBError}
use Rattle.slate_types.specs.declared.error.SlateDBError.TheVariants as errors
use Rattle.slate_types.specs.declared.iter.IterationOrder.{IterationOrder}
use Rattle.slate_types.specs.declared.iter.IterationOrder.TheVariants.{Ascending}
use Rattle.slate_types.specs.declared.types.RowEntry.{RowEntry}
use Rattle.slate_types.specs.declared.types.ValueDeletable.TheVariants.{Tombstone}
use Rattle.slate_types.specs.Faults.{Rose}
use Rattle.slate_types.specs.Fold.{Combine, operator_at}
use Rattle.slate_types.specs.Keys.{whole}
use Rattle.slate_types.specs.Outside.{Meaning}
use Rattle.slate_types.specs.Refusing.{IsDamage}
use Rattle.slate_types.specs.Rows.{is_tombstone}
use Rattle.slate_txn.specs.State.{Rules}
use Rattle.slate_tables.specs.declared.export.Form.TheVariants as forms
use Rattle.slate_tables.specs.declared.export.Written.{Written}
use Rattle.slate_tables.specs.Exported.{IsExport, IsState}
use Rattle.slate_tables.specs.Loading.{IsReached, KeysPass, created, earlier, moment}
use Rattle.slate_tables.specs.LoadText.{first_line, last_line, last_words, load_script, now_line, script_of, write_line}
use Rattle.slate_tables.specs.Moved.{CanMove, Moves}
use Rattle.slate_tables.specs.States.{WritesExport, WritesPart, WritesRange, WritesScript, WritesState}
use Rattle.slate_tables.specs.Writing.{IsLoadable, IsUnwritten, Passes, WritesRows, form_text, row_script, state_line, tally}
use Rattle.slate_tables.proofs.Moments.{earlier_fits, is_in_time, later_fits}
use Rattle.slate_tables.proofs.Moved.{script_loads_state}
use mir.Syntax.{w64}

-- an export of all keys is a state
pub as_state : (c : List ℕ → Combine) (rows out : List RowEntry) → IsExport c Ascending whole rows out → IsState c rows out
as_state c rows out is = record { rise = is.come; live = is.live; each = λ k. is.each k refl }

ends_reached : (end : Option ℤ) → IfSome end (FitsSigned w64) → IfSome end IsReached
ends_reached None h = tt
ends_reached (Some end) h = (is_in_time end h).1

ends_fit : (now : ℤ) (end : Option ℤ) → FitsSigned w64 now → IfSome end (FitsSigned w64) → IfSome end (λ e. nat_abs (e -ℤ earlier now end) < 2 ^ 64)
ends_fit now None h k = tt
ends_fit now (Some end) h k = later_fits now end h k

one_moves : (r : Rules) (row : RowEntry) → IsLoadable (is_some r.combine) row → is_tombstone row ≡ false → CanMove r row
one_moves r row h live = (
  record { some = h.some; short = h.short; value = h.value; kept = live; operator = h.operator; expiry = ends_reached row.expire_ts h.ends },
  record { key = h.key_bytes; value = h.value_bytes; now = (is_in_time (moment row) (earlier_fits (created row) row.expire_ts h.made h.ends)).0; ttl = ends_fit (created row) row.expire_ts h.made h.ends },
)

all_move : (r : Rules) (out : List RowEntry) → AllByRecursion (IsLoadable (is_some r.combine)) out → AllByRecursion (λ row. is_tombstone row ≡ false) out → AllByRecursion (CanMove r) out
all_move r [] h live = tt
all_move r (row ∷ out) h live = (one_moves r row h.0 live.0, all_move r out h.1 live.1)

pub script_moves : (m : Meaning) (rows out : List RowEntry) → IsState (operator_at m.combine) rows out → AllByRecursion (IsLoadable (is_some m.combine)) out → (r : Rules) → r.combine ≡ m.combine → KeysPass r.segment out → r.start_seq + length out < 2 ^ 64 - 1 → Moves r rows out
script_moves m rows out is loads r same pass room =
    script_loads_state r rows out
    (subst (λ (c : Option (List ℕ → Combine)). IsState (operator_at c) rows out) (sym same) is) pass
    (all_move r out (subst (λ (c : Option (List ℕ → Combine)). AllByRecursion (IsLoadable (is_some c)) out) (sym same) loads) is.live) room

-- ---- its text

scripts : (rows : List RowEntry) → flat_map row_script rows ≡ load_script rows
scripts [] = refl
scripts (r ∷ rows) =
    append_assoc (now_line r) (10 ∷ (write_line r ++ (10 ∷ []))) (flat_map row_script rows)
    ∙ ap (λ (l : List ℕ). now_line r ++ (10 ∷ l)) (append_assoc (write_line r) (10 ∷ []) (flat_map row_script rows) ∙ ap (λ (l : List ℕ). write_line r ++ (10 ∷ l)) (scripts rows))

pub whole_text : (before : List ℕ) (rows : List RowEntry) → ((before ++ (first_line ++ (10 ∷ []))) ++ flat_map row_script rows) ++ (last_line rows ++ (10 ∷ [])) ≡ before ++ script_of rows
whole_text before rows =
    append_assoc (before ++ (first_line ++ (10 ∷ []))) (flat_map row_script rows) (last_line rows ++ (10 ∷ []))
    ∙ append_assoc before (first_line ++ (10 ∷ [])) (flat_map row_script rows ++ (last_line rows ++ (10 ∷ [])))
    ∙ ap (λ (l : List ℕ). before ++ (first_line ++ (10 ∷ (l ++ (last_line rows ++ (10 ∷ [])))))) (scripts rows)

-- ---- what was written

pub state_written : (m : Meaning) (has : Bool) (rows out : List RowEntry) (before : List ℕ) (after : Option (List ℕ)) (t : Written) → IsExport (operator_at m.combine) Ascending whole rows out → WritesRows forms.State has out before after t → WritesState m rows before after t
state_written m has rows out before after t is w = record { out = out; state = as_state (operator_at m.combine) rows out is; text = w.text; counts = w.counts }

pub range_written : (m : Meaning) (order : IterationOrder) (range : BytesRange) (rows : List RowEntry) (before : List ℕ) (after : Option (List ℕ)) (t : Written) → WritesPart forms.State m order range rows before after t → WritesRange m order range rows before after t
range_written m order range rows before after t h = record { out = h.0; export = h.1; text = h.2.text; counts = h.2.counts }

pub script_written : (m : Meaning) (rows out : List RowEntry) (before : List ℕ) (middle after : Option (List ℕ)) (t : Written) → IsExport (operator_at m.combine) Ascending whole rows out →
    WritesRows forms.Script (is_some m.combine) out (before ++ (first_line ++ (10 ∷ []))) middle t → ((front : List ℕ) → middle ≡ Some front → after ≡ Some (front ++ (last_line out ++ (10 ∷ [])))) → WritesScript m rows before after t
script_written m rows out before middle after t is w last = record {
  out = out;
  state = as_state (operator_at m.combine) rows out is;
  text = last ((before ++ (first_line ++ (10 ∷ []))) ++ flat_map row_script out) w.text ∙ ap Some (whole_text before out);
  counts = w.counts;
  moves = script_moves m rows out (as_state (operator_at m.combine) rows out is) w.passed;
}

-- ---- the last line

pub script_last : (m : Meaning) (rows : List RowEntry) (before : List ℕ) (middle after : Option (List ℕ)) (t : Written) (r : Result Written SlateDBError) → WritesExport forms.Script m rows (before ++ (first_line ++ (10 ∷ []))) middle t →
    IfOk r (λ told. told ≡ t) → ((front : List ℕ) → middle ≡ Some front → OnOk r (after ≡ Some (front ++ (last_words t.rows t.moved t.greatest_seq ++ (10 ∷ []))))) → IfOk r (WritesScript m rows before after)
script_last m rows before middle after t (Err e) h same wrote = tt
script_last m rows before middle after t (Ok told) h same wrote =
    subst (WritesScript m rows before after) (sym same)
    (script_written m rows h.0 before middle after t h.1 h.2 (λ front is. wrote front is ∙ ap (λ (u : Written). Some (front ++ (last_words u.rows u.moved u.greatest_seq ++ (10 ∷ [])))) h.2.counts))

pub last_unwritten : (i j k : ℕ) (e : SlateDBError) → j ≡ i → (e ≡ errors.OutOfMemory) ⊎ ((e ≡ errors.WriteFault) × Rose j k) → IsUnwritten forms.Script i k e
last_unwritten i j k e same (inl is) = inr (false, record { key = []; value = Tombstone; seq = 0; create_ts = None; expire_ts = None }, inl is)
last_unwritten i j k e same (inr f) = inl (f.0, subst (λ (n : ℕ). Rose n k) same f.1)

pub found_unwritten : (i k : ℕ) (e : SlateDBError) → (e ≡ errors.OutOfMemory) ⊎ ((e ≡ errors.WriteFault) × Rose i k) → IsUnwritten forms.State i k e
found_unwritten i k e (inl is) = inr (false, record { key = []; value = Tombstone; seq = 0; create_ts = None; expire_ts = None }, is)
found_unwritten i k e (inr f) = inl f

pub last_undamaged : (i j : ℕ) (e : SlateDBError) → (e ≡ errors.OutOfMemory) ⊎ ((e ≡ errors.WriteFault) × Rose i j) → ¬ IsDamage e
last_undamaged i j e (inl is) = λ d. subst IsDamage is d
last_undamaged i j e (inr f) = λ d. subst IsDamage f.0 d

pub on_ok_then : {A E : Type 0} (r : Result A E) (P Q : Type 0) → (P → Q) → OnOk r P → OnOk r Q
on_ok_then (Ok x) P Q f p = f p
on_ok_then (Err e) P Q f p = tt
